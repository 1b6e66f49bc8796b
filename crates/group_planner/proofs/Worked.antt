-- A run that the pair has gone to and written.
use Rattle.std.proofs.Common.{◌≡◌, ℕ, ◌+◌, ◌-◌, ◌*◌, ◌<◌, ◌≤◌, ◌∙◌, ap, subst, arith, Bool}
use Rattle.vox_geom.specs.declared.coordinate.Coord.{Coord}
use Rattle.nano_spec.specs.Matrix.{Matrix}
use Rattle.plan_tape.specs.Leg.{gap, moves}
use Rattle.plan_tape.specs.Progress.{TapeState}
use Rattle.group_planner.specs.Pair.{AreSet, PairGoes, Sets, Spends, front, in_part, rear}
use Rattle.group_planner.specs.Stamping.{WritesRun, most_work, work_at, work_to}

-- costs, one part after another
pub spends_on : (a b c : TapeState) (n k most : ℕ) → Spends a b n → Spends b c k → n + k ≤ most → Spends a c most
spends_on a b c n k most g h l = record {
  commands_are = let its_commands_are = g.commands_are in let commands_are = h.commands_are in omega arith;
  bytes_are = let its_bytes_are = g.bytes_are in let bytes_are = h.bytes_are in omega arith;
}

-- the bots have gone somewhere in their row and written there
pub wrote : (p q s : TapeState) (a b : Coord) (n first end groups : ℕ) (full : Bool) → PairGoes p q a b n
    → Sets q s (rear q).x ((rear q).y - 1) first end full (rear q) (front q) 1 groups → groups ≤ 1 → a.x ≡ (rear p).x
    → a.y ≡ (rear p).y → 15 * (n + 1) + (gap a.z end + gap b.z end)
    ≤ (gap (rear p).z first + gap (front p).z first) + 45 + 2 * (end - first)
    → 15 * (n + 1) + (gap a.z first + gap b.z first)
    ≤ (gap (rear p).z end + gap (front p).z end) + 45 + 2 * (end - first) → WritesRun p s first end full
wrote p q s a b n first end groups full g w few ex ey forth back =
    let ax = ap (λ (c : Coord). c.x) g.rear_is ∙ ex in
    let ay = ap (λ (c : Coord). c.y) g.rear_is ∙ ey in
    let ez = ap (λ (c : Coord). c.z) (w.rear_is ∙ g.rear_is) in
    let fz = ap (λ (c : Coord). c.z) (w.front_is ∙ g.front_is) in
    let few_moves = g.steps_are in
    let one_step = w.steps_are in
    record {
      source = w.source ∙ g.source;
      resolution = w.resolution ∙ ap (λ (m : Matrix). m.resolution) g.matrix;
      set = subst (λ (m : Matrix). AreSet s.matrix m (in_part (rear p).x ((rear p).y - 1) first end) full) g.matrix (subst (λ x. AreSet s.matrix q.matrix (in_part x ((rear p).y - 1) first end) full) ax (subst (λ y. AreSet s.matrix q.matrix (in_part (rear q).x (y - 1) first end) full) ay w.set));
      pair = w.pair;
      same_x = ap (λ (c : Coord). c.x) w.rear_is ∙ ax;
      same_y = ap (λ (c : Coord). c.y) w.rear_is ∙ ay;
      forth = let gap_is = ap (λ z. gap z end) ez in let same_gap = ap (λ z. gap z end) fz in omega (arith, gap_is, same_gap, few_moves, one_step, forth);
      back = let gap_is = ap (λ z. gap z first) ez in let same_gap = ap (λ z. gap z first) fz in omega (arith, gap_is, same_gap, few_moves, one_step, back);
      spends = spends_on p q s 0 groups 1 g.spends w.spends (omega arith);
    }

-- one bot moves to a voxel, and the other stays
pub work_front : (u v z : ℕ) → u < z
    → 15 * (moves v z + 1) + (gap u (z + 1) + gap z (z + 1)) ≤ (gap u z + gap v z) + 45 + 2 * (z + 1 - z)
work_front u v z h = omega arith

pub work_rear : (u v z : ℕ) → z ≤ u → u < v
    → 15 * (moves u z + 1) + (gap z (z + 1) + gap v (z + 1)) ≤ (gap u z + gap v z) + 45 + 2 * (z + 1 - z)
work_rear u v z h l = omega arith

pub back_front : (u v z : ℕ) → u < z
    → 15 * (moves v z + 1) + (gap u z + gap z z) ≤ (gap u (z + 1) + gap v (z + 1)) + 45 + 2 * (z + 1 - z)
back_front u v z h = omega arith

pub back_rear : (u v z : ℕ) → z ≤ u → u < v
    → 15 * (moves u z + 1) + (gap z z + gap v z) ≤ (gap u (z + 1) + gap v (z + 1)) + 45 + 2 * (z + 1 - z)
back_rear u v z h l = omega arith

-- both go to the ends of a run
pub work_both : (u v first last : ℕ) → first < last
    → 15 * ((moves u first + moves v last) + 1) + (gap first (last + 1) + gap last (last + 1))
    ≤ (gap u first + gap v first) + 45 + 2 * (last + 1 - first)
work_both u v first last h = omega arith

pub back_both : (u v first last : ℕ) → first < last
    → 15 * ((moves u first + moves v last) + 1) + (gap first first + gap last first)
    ≤ (gap u (last + 1) + gap v (last + 1)) + 45 + 2 * (last + 1 - first)
back_both u v first last h = omega arith

-- the same of a part that is given by equations
pub sets_at : (q s : TapeState) (u v first end : ℕ) (full : Bool) (groups : ℕ) → u ≡ first → v ≡ end
    → Sets q s (rear q).x ((rear q).y - 1) u v full (rear q) (front q) 1 groups
    → Sets q s (rear q).x ((rear q).y - 1) first end full (rear q) (front q) 1 groups
sets_at q s u v first end full groups e f w = subst (λ z. Sets q s (rear q).x ((rear q).y - 1) z end full (rear q) (front q) 1 groups) e (subst (λ z. Sets q s (rear q).x ((rear q).y - 1) u z full (rear q) (front q) 1 groups) f w)

-- the distance of both bots from a position further on
pub further : (p : TapeState) (z first : ℕ) → z ≤ first → work_to p first ≤ work_to p z + 2 * (first - z)
further p z first h = omega arith

-- and from the ends of a run
pub from_first : (p : TapeState) (first end : ℕ) → first < end
    → work_at p first (end - 1) ≤ work_to p first + 2 * (end - first)
from_first p first end h = omega arith

pub from_end : (p : TapeState) (first end : ℕ) → first < end
    → work_at p first (end - 1) ≤ work_to p end + 2 * (end - first)
from_end p first end h = omega arith

-- the work left of a row before a run of it
pub left_before : (now start z first end runs more all r : ℕ) → now ≤ start + 45 * runs + 2 * z → z ≤ first
    → first < end → end ≤ r → more ≡ runs + 1 → more ≤ all → start + 45 * all + 2 * r ≤ most_work
    → (now + 2 * (first - z)) + 45 + 2 * (end - first) ≤ most_work
left_before now start z first end runs more all r h a b c d e f = omega arith

-- and after it
pub left_after : (new now start z first end runs more : ℕ) → new ≤ (now + 2 * (first - z)) + 45 + 2 * (end - first)
    → now ≤ start + 45 * runs + 2 * z → z ≤ first → first < end → more ≡ runs + 1 → new ≤ start + 45 * more + 2 * end
left_after new now start z first end runs more g h a b d = omega arith

-- the same on the way back, if rest is the number of runs left to the runs behind
pub back_before : (now start z first end rest all r : ℕ) → now ≤ start + 45 * rest + 2 * (r - end) → z ≤ first
    → first < end → end ≤ r → rest + 1 ≤ all → start + 45 * all + 2 * (r - z) ≤ most_work
    → now + 45 + 2 * (end - first) ≤ most_work
back_before now start z first end rest all r h a b c d e = omega arith

pub back_after : (new now start z first end rest r : ℕ) → new ≤ now + 45 + 2 * (end - first)
    → now ≤ start + 45 * rest + 2 * (r - end) → z ≤ first → first < end → end ≤ r
    → new + 2 * (first - z) ≤ start + 45 * (rest + 1) + 2 * (r - z)
back_after new now start z first end rest r g h a b d = omega arith

-- the distance of both bots from a position further back
pub nearer : (p : TapeState) (z first : ℕ) → z ≤ first → work_to p z ≤ work_to p first + 2 * (first - z)
nearer p z first h = omega arith

-- ---- rows

pub way_fits : (steps x0 x h y r runs : ℕ) → r ≤ 400 → x0 < r → x < r → steps + gap h y + (135 + 3 * runs) ≤ 1073741824
    → steps + moves x0 x + moves h y ≤ 1073741824
way_fits steps x0 x h y r runs hr hx0 hx l = omega arith

-- The voxels after clearing and building.
use Rattle.std.proofs.Common.{◌≡◌, ℕ, ◌+◌, ◌-◌, ◌<◌, ◌≤◌, refl, sym, ◌∙◌, ap, subst, arith, Bool, true, false, cond, ◌&&◌, nat_le, nat_lt}
use Rattle.vox_geom.specs.declared.coordinate.Coord.{Coord}
use Rattle.nano_spec.specs.Legal.{IsLegal}
use Rattle.nano_spec.specs.Matrix.{Matrix, is_full}
use Rattle.plan_tape.specs.Progress.{AreAlike, TapeState, spot, IsVoidFrom}
use Rattle.plan_tape.specs.Lowest.{IsLowest}
use Rattle.plan_tape.specs.Parts.{from_layer}
use Rattle.vox_planes.specs.Voxel.{IsWhole}
use Rattle.plan_tape.specs.Leg.{moves, moves_to}
use Rattle.group_planner.specs.Pair.{front, rear}
use Rattle.group_planner.specs.Phases.{PairIsOpened, PairHasRebuilt, PairJoins}
use Rattle.group_planner.specs.Rows.{runs}
use Rattle.group_planner.specs.Stamping.{CanVoidModel, Stamps, between_layers, climb_to, steps_below}
use Rattle.group_planner.proofs.Closing.{down_moves, gather_moves}
use Rattle.group_planner.proofs.Layers.{model_sum}
use Rattle.group_planner.proofs.Worked.{spends_on}
use Rattle.vox_geom.specs.Point.{coord}
use Rattle.vox_geom.proofs.Tests.{not_at_most_by_test, not_less_by_test}
use Rattle.plan_tape.proofs.LegalModels.{alike_is_same, void_at_top}

pub can_clear : (a : TapeState) (s : Matrix) → PairIsOpened a → a.source ≡ s → IsLegal s → CanVoidModel a s
can_clear a s o e h =
    let same = o.matrix ∙ e in
    record {
      pair = o.pair;
      same = sym (ap (λ (m : Matrix). m.resolution) same);
      alike = λ c. ap (λ (m : Matrix). is_full m c) same;
      top = subst (λ (m : Matrix). IsVoidFrom m (m.resolution - 1)) (sym same) (void_at_top s h);
    }

-- the pair is at the top
pub top_climb : (a : TapeState) (s : Matrix) → PairIsOpened a → a.source ≡ s → climb_to a (a.matrix.resolution - 1) ≤ 30
top_climb a s o e =
    let same_y = ap (λ (c : Coord). c.y) o.there in
    let resolution_is = ap (λ (m : Matrix). m.resolution) o.matrix in
    let steps = o.steps_are in
    omega (arith, same_y, resolution_is, steps)

filled : (t o : Bool) → cond (true && t) true (cond (true && o) false o) ≡ t
filled true o = refl
filled false true = refl
filled false false = refl

emptied : (t o : Bool) → t ≡ false → cond (false && t) true (cond (true && o) false o) ≡ t
emptied t true e = sym e
emptied t false e = sym e

-- if the source was voided from the lowest layer of a difference on, and the target filled from there, the voxels are
-- those of the target
pub alike_target : (s t b d : Matrix) (low : ℕ) → IsLegal t → ((c : Coord) → c.y < low → is_full s c ≡ is_full t c)
    → ((c : Coord) → is_full b c ≡ cond (from_layer low c && is_full s c) false (is_full s c))
    → ((c : Coord) → is_full d c ≡ cond (between_layers low (t.resolution - 1) c && is_full t c) true (is_full b c))
    → AreAlike d t
alike_target s t b d low h below p q = λ c. q c ∙ (ap (cond (between_layers low (t.resolution - 1) c && is_full t c) true) (p c) ∙ by c (nat_le low c.y) (nat_lt c.y (t.resolution - 1)) refl refl)
  where
    by : (c : Coord) (u v : Bool) → nat_le low c.y ≡ u → nat_lt c.y (t.resolution - 1) ≡ v → cond
        ((nat_le low c.y && nat_lt c.y (t.resolution - 1)) && is_full t c) true
        (cond (nat_le low c.y && is_full s c) false (is_full s c)) ≡ is_full t c
    by c true true e f = (λ i. cond ((e i && f i) && is_full t c) true (cond (e i && is_full s c) false (is_full s c))) ∙ filled (is_full t c) (is_full s c)
    by c true false e f = (λ i. cond ((e i && f i) && is_full t c) true (cond (e i && is_full s c) false (is_full s c))) ∙ emptied (is_full t c) (is_full s c) (void_at_top t h c (not_less_by_test c.y (t.resolution - 1) f))
    by c false v e f = (λ i. cond ((e i && nat_lt c.y (t.resolution - 1)) && is_full t c) true (cond (e i && is_full s c) false (is_full s c))) ∙ below c (let is_more = not_at_most_by_test low c.y e in omega arith)

pub rebuilt : (a b d : TapeState) (s t : Matrix) (low : ℕ) → PairIsOpened a → a.source ≡ s → IsLegal t
    → IsWhole d.matrix → IsWhole t → t.resolution ≡ s.resolution → IsLowest s t low
    → Stamps a b s false (from_layer low) (runs s)
    → climb_to b low ≤ climb_to a (a.matrix.resolution - 1) + a.matrix.resolution + steps_below s a.matrix.resolution
    → Stamps b d t true (between_layers low (b.matrix.resolution - 1)) (runs t)
    → d.steps ≤ climb_to b (low + 1) + b.matrix.resolution + steps_below t b.matrix.resolution → PairHasRebuilt d s t
rebuilt a b d s t low o e h wd wt same l g climb k steps =
    let em = o.matrix ∙ e in
    let ra = ap (λ (m : Matrix). m.resolution) em in
    let rb : b.matrix.resolution ≡ t.resolution = g.resolution ∙ (ra ∙ sym same) in
    let all = spends_on a b d (runs s) (runs t) (runs s + runs t) g.spends k.spends (omega arith) in
    let top = top_climb a s o e in
    let sum = ap (steps_below s) ra ∙ model_sum s in
    let more = ap (steps_below t) rb ∙ model_sum t in
    let first = o.steps_are in
    let few = o.commands_are in
    let light = o.bytes_are in
    let cost = all.commands_are in
    let weight = all.bytes_are in
    record {
      source = k.source ∙ (g.source ∙ e);
      matrix = alike_is_same d.matrix t wd wt (k.resolution ∙ rb) (λ c _. alike_target s t b.matrix d.matrix low h l.below (λ q. g.stamped q ∙ ap (λ (m : Matrix). cond (from_layer low q && is_full s q) false (is_full m q)) em) (λ q. k.stamped q ∙ ap (λ n. cond (between_layers low (n - 1) q && is_full t q) true (is_full b.matrix q)) rb) c);
      pair = k.pair;
      steps_are = omega (arith, climb, steps, top, sum, more, ra, rb, same);
      commands_are = omega (arith, cost, few);
      bytes_are = omega (arith, weight, light);
    }

-- the number of steps home
pub home_steps : (t b : TapeState) (s g : Matrix) → PairHasRebuilt t s g → s.resolution ≤ 400
    → s.resolution ≡ g.resolution
    → PairJoins t b (coord 0 (rear t).y 0) (moves (rear t).x 0 + moves (rear t).z 0 + moves (front t).z 1 + 1)
    → b.steps + moves_to (spot b.bots) (coord 0 0 0) ≤ t.steps + 109
home_steps t b s g k l e j =
    let er : t.matrix.resolution ≡ g.resolution = ap (λ (m : Matrix). m.resolution) k.matrix in
    let row = k.pair.in_row in
    let row_x = row.x in
    let row_y = row.y in
    let row_z = row.z in
    let order = row.order in
    let gathered = gather_moves (rear t).x (rear t).z (front t).z t.matrix.resolution row_x (omega (arith, order, row_z)) row_z (omega (arith, er, e, l)) in
    let down = down_moves (rear t).y t.matrix.resolution row_y (omega (arith, er, e, l)) in
    let way = ap (λ (c : Coord). moves_to c (coord 0 0 0)) j.there in
    let steps = j.steps_are in
    omega (arith, gathered, down, way, steps)

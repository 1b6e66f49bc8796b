-- Steps of the pair in which each bot waits or moves.
use Rattle.std.proofs.Common.{◌≡◌, ℕ, ◌+◌, ◌*◌, ◌<◌, ◌≤◌, refl, sym, ◌∙◌, ap, subst, arith, inl, inr, List, [], ◌∷◌, ◌++◌, length, length-append, lit≤}
use Rattle.std.specs.Prelude.{◌⊎◌, pos, ◌-ℤ◌, IsTrue, count_by}
use Rattle.std.specs.List.{AllByRecursion}
use Rattle.std.proofs.lemmas.Int.{ints}
use Rattle.vox_geom.specs.declared.coordinate.Coord.{Coord}
use Rattle.vox_geom.specs.declared.difference.Diff.{Diff}
use Rattle.vox_geom.specs.Point.{Point, point, plus}
use Rattle.vox_geom.specs.Region.{between}
use Rattle.vox_geom.specs.Space.{IsInSpace, coordinate}
use Rattle.vox_geom.proofs.Truths.{second_of_three as second}
use Rattle.nano_spec.specs.declared.commands.Command.{Command}
use Rattle.nano_spec.specs.declared.commands.Command.TheVariants.{Wait, SMove}
use Rattle.nano_spec.specs.declared.system.Bot.{Bot}
use Rattle.nano_spec.specs.declared.system.Profile.{Profile}
use Rattle.nano_spec.specs.Act.{acts}
use Rattle.nano_spec.specs.Matrix.{Matrix}
use Rattle.nano_spec.specs.Profile.{full_profile, is_allowed}
use Rattle.nano_spec.specs.Spelling.{spellings}
use Rattle.step_order.specs.Acting.{goal_of}
use Rattle.step_order.specs.Apart.{LieApart, before_z}
use Rattle.plan_tape.specs.declared.axis.Axis.{Axis}
use Rattle.plan_tape.specs.declared.axis.Axis.TheVariants.{X, Y, Z}
use Rattle.plan_tape.specs.Crowd.{AllStep, AreWaysApart, CanGo, CanMoveAll, MayGo, bots_gone}
use Rattle.plan_tape.specs.Fissions.{fissions, is_fission}
use Rattle.plan_tape.specs.Leg.{along, component_of, put}
use Rattle.plan_tape.specs.Progress.{TapeState, spot, IsVoidFrom}
use Rattle.plan_tape.proofs.Fissions.{fissions_more}
use Rattle.plan_tape.proofs.Legs.{plus-along, put-component_of}
use Rattle.plan_tape.proofs.ClearWays.{free_way}
use Rattle.group_planner.specs.Pair.{AreInRow, PairGoes, IsPair, Spends, front, rear, second_spot}

-- ---- two bots

-- the bots of a list of two
pub record AreTwo (bots : List Bot) : Type 0 where
  pub first : Bot
  pub second : Bot
  pub are : bots ≡ first ∷ second ∷ []
  pub rear_is : spot bots ≡ first.pos
  pub front_is : second_spot bots ≡ second.pos

pub both_bots : (bots : List Bot) → length bots ≡ 2 → AreTwo bots
both_bots [] e = absurd (omega arith)
both_bots (a ∷ []) e = absurd (omega arith)
both_bots (a ∷ b ∷ []) e = record { first = a; second = b; are = refl; rear_is = refl; front_is = refl }
both_bots (a ∷ b ∷ c ∷ bots) e = absurd (omega arith)

pub all_allowed : (profile : Profile) (k : Command) → profile ≡ full_profile → IsTrue (is_allowed full_profile k)
    → IsTrue (is_allowed profile k)
all_allowed profile k e h = subst (λ (p : Profile). IsTrue (is_allowed p k)) (sym e) h

-- the moves of both bots are disjoint if these regions are
pub can_move : (p : TapeState) (k l : Command) → IsPair p → IsTrue (is_allowed full_profile k)
    → IsTrue (is_allowed full_profile l) → MayGo p.matrix (point (rear p)) k → MayGo p.matrix (point (front p)) l
    → LieApart (between (point (rear p)) (goal_of (point (rear p)) k))
    (between (point (front p)) (goal_of (point (front p)) l)) → CanMoveAll p (k ∷ l ∷ [])
can_move p k l h ak al gk gl apart =
    let both = both_bots p.bots h.two in
    let first = both.first in
    let its_second = both.second in
    let rg : MayGo p.matrix (point first.pos) k = subst (λ (c : Coord). MayGo p.matrix (point c) k) both.rear_is gk in
    let fg : MayGo p.matrix (point its_second.pos) l = subst (λ (c : Coord). MayGo p.matrix (point c) l) both.front_is gl in
    let lies : LieApart (between (point first.pos) (goal_of (point first.pos) k)) (between (point its_second.pos) (goal_of (point its_second.pos) l)) = subst (λ (c : Coord). LieApart (between (point c) (goal_of (point c) k)) (between (point its_second.pos) (goal_of (point its_second.pos) l))) both.rear_is (subst (λ (c : Coord). LieApart (between (point (rear p)) (goal_of (point (rear p)) k)) (between (point c) (goal_of (point c) l))) both.front_is apart) in
    record {
      each = subst (λ (bots : List Bot). AllByRecursion (CanGo p) (acts bots (k ∷ l ∷ []))) (sym both.are) (record { allowed = all_allowed p.profile k h.full ak; may = rg }, (record { allowed = all_allowed p.profile l h.full al; may = fg }, tt));
      apart = subst (λ (bots : List Bot). AreWaysApart (acts bots (k ∷ l ∷ []))) (sym both.are) ((lies, tt), (tt, tt));
    }

-- the cost of a step of two commands
pub spends : (p q : TapeState) (k l : Command) (m : Matrix) (bots : List Bot) (n : ℕ)
    → AllStep p q (k ∷ l ∷ []) m p.harmonics bots → length (spellings (k ∷ l ∷ [])) ≤ 4 + 4 * n → Spends p q n
spends p q k l m bots n s h =
    let added = ap length s.added ∙ length-append p.commands (k ∷ l ∷ []) in
    let steps = s.steps in
    let bytes = s.bytes_are in
    record { commands_are = omega (arith, added, steps); bytes_are = omega (arith, bytes, steps, h) }

-- a step in which no bot splits does not change the number of Fissions
pub still_one : (p q : TapeState) (k l : Command) → IsPair p → q.commands ≡ p.commands ++ k ∷ l ∷ []
    → count_by is_fission (k ∷ l ∷ []) ≡ 0 → fissions q ≡ 1
still_one p q k l h added none = let more = fissions_more p q (k ∷ l ∷ []) 0 added none in let one = h.one_split in omega (arith, more, one)

pub there : (p : TapeState) (k l : Command) (a b : Coord) → IsPair p → goal_of (point (rear p)) k ≡ point a
    → goal_of (point (front p)) l ≡ point b → (spot (bots_gone p.bots (k ∷ l ∷ [])) ≡ a)
    × (second_spot (bots_gone p.bots (k ∷ l ∷ [])) ≡ b) × (length (bots_gone p.bots (k ∷ l ∷ [])) ≡ 2)
there p k l a b h ea eb =
    let both = both_bots p.bots h.two in (
      ap (λ (bots : List Bot). spot (bots_gone bots (k ∷ l ∷ []))) both.are ∙ (ap (λ (c : Coord). coordinate (goal_of (point c) k)) (sym both.rear_is) ∙ ap coordinate ea),
      ap (λ (bots : List Bot). second_spot (bots_gone bots (k ∷ l ∷ []))) both.are ∙ (ap (λ (c : Coord). coordinate (goal_of (point c) l)) (sym both.front_is) ∙ ap coordinate eb),
      ap (λ (bots : List Bot). length (bots_gone bots (k ∷ l ∷ []))) both.are,
    )

-- the pair after a step in which each waits or moves
pub moved_pair : (p q : TapeState) (k l : Command) (a b : Coord) → IsPair p
    → AllStep p q (k ∷ l ∷ []) p.matrix p.harmonics (bots_gone p.bots (k ∷ l ∷ []))
    → goal_of (point (rear p)) k ≡ point a → goal_of (point (front p)) l ≡ point b → AreInRow p.matrix.resolution a b
    → IsVoidFrom p.matrix a.y → length (spellings (k ∷ l ∷ [])) ≤ 4 → count_by is_fission (k ∷ l ∷ []) ≡ 0
    → PairGoes p q a b 1
moved_pair p q k l a b h s ea eb row free few none =
    let at = there p k l a b h ea eb in
    let rear_is : rear q ≡ a = ap spot s.bots_are ∙ at.0 in
    let front_is : front q ≡ b = ap second_spot s.bots_are ∙ at.1 in
    record {
      source = s.source;
      matrix = s.matrix;
      pair = record {
        two = ap length s.bots_are ∙ at.2;
        one_split = still_one p q k l h s.added none;
        high = s.harmonics ∙ h.high;
        full = s.profile ∙ h.full;
        in_row = rw (s.matrix, rear_is, front_is) row;
        free = rw (s.matrix, rear_is) free;
      };
      rear_is = rear_is;
      front_is = front_is;
      steps_are = omega (arith, s.steps);
      spends = spends p q k l p.matrix _ 0 s (omega (arith, few));
    }

-- the end of a move along an axis
pub led : (axis : Axis) (c : Coord) (at next : ℕ) (d : Diff) → component_of axis c ≡ at
    → d ≡ along axis (pos next -ℤ pos at) → plus (point c) d ≡ point (put axis c next)
led axis c at next d e f =
    ap (plus (point c)) f
    ∙ (ap (λ u. plus (point c) (along axis (pos next -ℤ pos u))) (sym e)
    ∙ (ap (λ (q : Coord). plus (point q) (along axis (pos next -ℤ pos (component_of axis c)))) (sym (put-component_of axis c))
    ∙ plus-along axis c (component_of axis c) next))

-- regions whose corners along z are in order are disjoint
pub apart_z : (a b c d : Coord) → a.z < c.z → a.z < d.z → b.z < c.z → b.z < d.z
    → LieApart (between (point a) (point b)) (between (point c) (point d))
apart_z a b c d h k l m = before_z (record { near = omega (arith, ints); far = omega (arith, ints); next_near = omega (arith, ints); next_far = omega (arith, ints) })

-- ---- both bots along x or y

-- the common row of both ends
pub row_along : (r : ℕ) (axis : Axis) (a b : Coord) (next : ℕ) → (axis ≡ X) ⊎ (axis ≡ Y) → AreInRow r a b → next < r
    → AreInRow r (put axis a next) (put axis b next)
row_along r axis a b next (inl e) h l = subst (λ (x : Axis). AreInRow r (put x a next) (put x b next)) (sym e) (record { x = l; y = h.y; z = h.z; same_x = refl; same_y = h.same_y; order = h.order })
row_along r axis a b next (inr e) h l = subst (λ (x : Axis). AreInRow r (put x a next) (put x b next)) (sym e) (record { x = h.x; y = l; z = h.z; same_x = h.same_x; same_y = refl; order = h.order })

-- z stays
pub z_stays : (axis : Axis) (c : Coord) (next : ℕ) → (axis ≡ X) ⊎ (axis ≡ Y) → (put axis c next).z ≡ c.z
z_stays axis c next (inl e) = ap (λ (x : Axis). (put x c next).z) e
z_stays axis c next (inr e) = ap (λ (x : Axis). (put x c next).z) e

-- the front bot has the same x and y
pub same_there : (r : ℕ) (axis : Axis) (a b : Coord) → (axis ≡ X) ⊎ (axis ≡ Y) → AreInRow r a b
    → component_of axis b ≡ component_of axis a
same_there r axis a b (inl e) h = ap (λ (x : Axis). component_of x b) e ∙ (h.same_x ∙ sym (ap (λ (x : Axis). component_of x a) e))
same_there r axis a b (inr e) h = ap (λ (x : Axis). component_of x b) e ∙ (h.same_y ∙ sym (ap (λ (x : Axis). component_of x a) e))

-- their moves are disjoint, since they differ in z
pub both_apart : (r : ℕ) (axis : Axis) (a b : Coord) (next : ℕ) → (axis ≡ X) ⊎ (axis ≡ Y) → AreInRow r a b
    → LieApart (between (point a) (point (put axis a next))) (between (point b) (point (put axis b next)))
both_apart r axis a b next f h =
    let order = h.order in
    let za = z_stays axis a next f in
    let zb = z_stays axis b next f in
    apart_z a (put axis a next) b (put axis b next) order (omega arith) (omega arith) (omega arith)

pub rear_within : (r : ℕ) (a b : Coord) → AreInRow r a b → IsInSpace r a
rear_within r a b h = let order = h.order in let along_z = h.z in record { x = h.x; y = h.y; z = omega arith }

pub front_within : (r : ℕ) (a b : Coord) → AreInRow r a b → IsInSpace r b
front_within r a b h = let along_x = h.x in let along_y = h.y in let ex = h.same_x in let ey = h.same_y in record { x = omega arith; y = omega arith; z = h.z }

-- at the height of the front all is void too
pub front_free : (p : TapeState) → IsPair p → IsVoidFrom p.matrix (front p).y
front_free p h = subst (IsVoidFrom p.matrix) (sym h.in_row.same_y) h.free

module _ (p : TapeState) (axis : Axis) (at next : ℕ) (d e : Diff) (h : IsPair p) (flat : (axis ≡ X) ⊎ (axis ≡ Y)) (here : component_of axis (rear p) ≡ at) (within : next < p.matrix.resolution) (free : IsVoidFrom p.matrix (put axis (rear p) next).y) (ed : d ≡ along axis (pos next -ℤ pos at)) (ee : e ≡ along axis (pos next -ℤ pos at)) where
  rear_led : plus (point (rear p)) d ≡ point (put axis (rear p) next)
  rear_led = led axis (rear p) at next d here ed

  front_led : plus (point (front p)) e ≡ point (put axis (front p) next)
  front_led = led axis (front p) at next e (same_there p.matrix.resolution axis (rear p) (front p) flat h.in_row ∙ here) ee

  there_in_row : AreInRow p.matrix.resolution (put axis (rear p) next) (put axis (front p) next)
  there_in_row = row_along p.matrix.resolution axis (rear p) (front p) next flat h.in_row within

  pub both_ways : CanMoveAll p (SMove d ∷ SMove e ∷ [])
  both_ways =
      let resolution = p.matrix.resolution in
      let rear_after = put axis (rear p) next in
      let front_after = put axis (front p) next in
      can_move p (SMove d) (SMove e) h refl refl
      (free_way p.matrix (rear p) rear_after _ rear_led (rear_within resolution rear_after front_after there_in_row) h.free free)
      (free_way p.matrix (front p) front_after _ front_led (front_within resolution rear_after front_after there_in_row) (front_free p h) (subst (IsVoidFrom p.matrix) (sym there_in_row.same_y) free))
      (subst (λ (q : Point). LieApart (between (point (rear p)) q) (between (point (front p)) (plus (point (front p)) e))) (sym rear_led)
      (subst (λ (q : Point). LieApart (between (point (rear p)) (point rear_after)) (between (point (front p)) q)) (sym front_led)
      (both_apart resolution axis (rear p) (front p) next flat h.in_row)))

  pub both_moved : (q : TapeState)
      → AllStep p q (SMove d ∷ SMove e ∷ []) p.matrix p.harmonics (bots_gone p.bots (SMove d ∷ SMove e ∷ []))
      → PairGoes p q (put axis (rear p) next) (put axis (front p) next) 1
  both_moved q s = moved_pair p q (SMove d) (SMove e) (put axis (rear p) next) (put axis (front p) next) h s rear_led front_led there_in_row free (lit≤ tt) refl

-- ---- one bot along z

module _ (p : TapeState) (at next : ℕ) (d : Diff) (h : IsPair p) (here : (front p).z ≡ at) (within : next < p.matrix.resolution) (past : (rear p).z < next) (ed : d ≡ along Z (pos next -ℤ pos at)) where
  ahead_led : plus (point (front p)) d ≡ point (put Z (front p) next)
  ahead_led = led Z (front p) at next d here ed

  ahead_in_row : AreInRow p.matrix.resolution (rear p) (put Z (front p) next)
  ahead_in_row = record { x = h.in_row.x; y = h.in_row.y; z = within; same_x = h.in_row.same_x; same_y = h.in_row.same_y; order = past }

  pub front_way : CanMoveAll p (Wait ∷ SMove d ∷ [])
  front_way =
      let front_after = put Z (front p) next in
      let order = h.in_row.order in
      can_move p Wait (SMove d) h refl refl tt
      (free_way p.matrix (front p) front_after _ ahead_led (front_within p.matrix.resolution (rear p) front_after ahead_in_row) (front_free p h) (front_free p h))
      (subst (λ (q : Point). LieApart (between (point (rear p)) (point (rear p))) (between (point (front p)) q)) (sym ahead_led)
      (apart_z (rear p) (rear p) (front p) front_after order past order past))

  pub front_moved : (q : TapeState)
      → AllStep p q (Wait ∷ SMove d ∷ []) p.matrix p.harmonics (bots_gone p.bots (Wait ∷ SMove d ∷ []))
      → PairGoes p q (rear p) (put Z (front p) next) 1
  front_moved q s = moved_pair p q Wait (SMove d) (rear p) (put Z (front p) next) h s refl ahead_led ahead_in_row h.free (lit≤ tt) refl

module _ (p : TapeState) (at next : ℕ) (d : Diff) (h : IsPair p) (here : (rear p).z ≡ at) (before : next < (front p).z) (ed : d ≡ along Z (pos next -ℤ pos at)) where
  behind_led : plus (point (rear p)) d ≡ point (put Z (rear p) next)
  behind_led = led Z (rear p) at next d here ed

  behind_in_row : AreInRow p.matrix.resolution (put Z (rear p) next) (front p)
  behind_in_row = record { x = h.in_row.x; y = h.in_row.y; z = h.in_row.z; same_x = h.in_row.same_x; same_y = h.in_row.same_y; order = before }

  pub rear_way : CanMoveAll p (SMove d ∷ Wait ∷ [])
  rear_way =
      let rear_after = put Z (rear p) next in
      let order = h.in_row.order in
      can_move p (SMove d) Wait h refl refl
      (free_way p.matrix (rear p) rear_after _ behind_led (rear_within p.matrix.resolution rear_after (front p) behind_in_row) h.free h.free) tt
      (subst (λ (q : Point). LieApart (between (point (rear p)) q) (between (point (front p)) (point (front p)))) (sym behind_led)
      (apart_z (rear p) rear_after (front p) (front p) order order before before))

  pub rear_moved : (q : TapeState)
      → AllStep p q (SMove d ∷ Wait ∷ []) p.matrix p.harmonics (bots_gone p.bots (SMove d ∷ Wait ∷ []))
      → PairGoes p q (put Z (rear p) next) (front p) 1
  rear_moved q s = moved_pair p q (SMove d) Wait (put Z (rear p) next) (front p) h s behind_led refl behind_in_row h.free (lit≤ tt) refl

-- ---- both along z

module _ (p : TapeState) (behind rear_next ahead front_next : ℕ) (d e : Diff) (h : IsPair p) (rear_here : (rear p).z ≡ behind) (front_here : (front p).z ≡ ahead) (within : front_next < p.matrix.resolution) (clear : rear_next < ahead) (past : behind < front_next) (order : rear_next < front_next) (ed : d ≡ along Z (pos rear_next -ℤ pos behind)) (ee : e ≡ along Z (pos front_next -ℤ pos ahead)) where
  slid_rear : plus (point (rear p)) d ≡ point (put Z (rear p) rear_next)
  slid_rear = led Z (rear p) behind rear_next d rear_here ed

  slid_front : plus (point (front p)) e ≡ point (put Z (front p) front_next)
  slid_front = led Z (front p) ahead front_next e front_here ee

  slid_in_row : AreInRow p.matrix.resolution (put Z (rear p) rear_next) (put Z (front p) front_next)
  slid_in_row = record { x = h.in_row.x; y = h.in_row.y; z = within; same_x = h.in_row.same_x; same_y = h.in_row.same_y; order = order }

  pub slide_ways : CanMoveAll p (SMove d ∷ SMove e ∷ [])
  slide_ways =
      let resolution = p.matrix.resolution in
      let rear_after = put Z (rear p) rear_next in
      let front_after = put Z (front p) front_next in
      can_move p (SMove d) (SMove e) h refl refl
      (free_way p.matrix (rear p) rear_after _ slid_rear (rear_within resolution rear_after front_after slid_in_row) h.free h.free)
      (free_way p.matrix (front p) front_after _ slid_front (front_within resolution rear_after front_after slid_in_row) (front_free p h) (front_free p h))
      (subst (λ (q : Point). LieApart (between (point (rear p)) q) (between (point (front p)) (plus (point (front p)) e))) (sym slid_rear)
      (subst (λ (q : Point). LieApart (between (point (rear p)) (point rear_after)) (between (point (front p)) q)) (sym slid_front)
      (apart_z (rear p) rear_after (front p) front_after h.in_row.order (omega (arith, rear_here, past)) (omega (arith, front_here, clear)) order)))

  pub slid : (q : TapeState)
      → AllStep p q (SMove d ∷ SMove e ∷ []) p.matrix p.harmonics (bots_gone p.bots (SMove d ∷ SMove e ∷ []))
      → PairGoes p q (put Z (rear p) rear_next) (put Z (front p) front_next) 1
  slid q s = moved_pair p q (SMove d) (SMove e) (put Z (rear p) rear_next) (put Z (front p) front_next) h s slid_rear slid_front slid_in_row h.free (lit≤ tt) refl

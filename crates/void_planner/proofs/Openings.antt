-- The positions of the bots as they part.
use Rattle.std.proofs.Common.{◌≡◌, ℕ, ◌+◌, ◌-◌, ◌*◌, ◌<◌, ◌≤◌, refl, sym, ◌∙◌, ap, subst, arith, List, lit≤, mul-le-mul}
use Rattle.vox_geom.specs.declared.coordinate.Coord.{Coord}
use Rattle.nano_spec.specs.declared.system.Bot.{Bot}
use Rattle.nano_spec.specs.Matrix.{Matrix}
use Rattle.plan_tape.specs.Frame.{HasRisen}
use Rattle.plan_tape.specs.Progress.{TapeState, spot, IsVoidFrom, top}
use Rattle.plan_tape.specs.Leg.{moves_to}
use Rattle.void_planner.specs.Phases.{IsGathered, IsSpread, IsVoidModel}
use Rattle.void_planner.specs.Bounds.{most_void_steps, tiles_of}
use Rattle.void_planner.specs.Square.{Becomes, CanStand, Clears, IsRectangle, four, voiding_steps, steps_to}
use Rattle.vox_geom.specs.Point.{coord}
use Rattle.plan_tape.proofs.ClearWays.{no_moves}

pub risen_stands : (t : TapeState) → HasRisen t → 2 ≤ t.source.resolution → CanStand t.matrix 1 1 (spot t.bots)
risen_stands t h some =
    let same_x = ap (λ (bots : List Bot). (spot bots).x) h.bots_are in
    let same_y = ap (λ (bots : List Bot). (spot bots).y) h.bots_are in
    let same_z = ap (λ (bots : List Bot). (spot bots).z) h.bots_are in
    let resolution_is = ap (λ (m : Matrix). m.resolution) h.matrix in
    record { x = omega (arith, same_x, resolution_is); y = omega (arith, same_y, resolution_is); z = omega (arith, same_z, resolution_is); above = h.clear }

-- the bots after fissions or fusions keep the condition on positions
pub becomes_stands : (p q : TapeState) (bots : List Bot) (made w d : ℕ) → Becomes p q bots made
    → spot bots ≡ spot p.bots → CanStand p.matrix w d (spot p.bots) → CanStand q.matrix w d (spot q.bots)
becomes_stands p q bots made w d h e s =
    subst (λ (m : Matrix). CanStand m w d (spot q.bots)) (sym h.matrix) (subst (λ (c : Coord). CanStand p.matrix w d c) (sym (ap spot h.bots_are ∙ e)) s)

pub becomes_four : (p q : TapeState) (made : ℕ) → Becomes p q (four (spot p.bots) 1 1) made
    → CanStand p.matrix 1 1 (spot p.bots) → IsRectangle q 1 1
becomes_four p q made h s = record {
  bots_are = h.bots_are ∙ ap (λ (c : Coord). four c 1 1) (sym (ap spot h.bots_are));
  high = h.high;
  full = h.full;
  wide = lit≤ tt;
  deep = lit≤ tt;
  stand = becomes_stands p q (four (spot p.bots) 1 1) made 1 1 h refl s;
}

-- if all is void from the floor on, all is void
pub void_all_over : (m : Matrix) → IsVoidFrom m 0 → IsVoidModel m
void_all_over m h = λ c. h c (omega arith)

-- ---- the number of steps

swept : (r m : ℕ) → 2 ≤ r → 34 + (r - 1) * (8 * m + 8) + 6 + 2 ≤ 8 * r * m + 8 * r + 200
swept r m some = let r_is : r ≡ (r - 1) + 1 = omega arith in by (r - 1) r r_is
  where
    by : (k s : ℕ) → s ≡ k + 1 → 34 + k * (8 * m + 8) + 6 + 2 ≤ 8 * s * m + 8 * s + 200
    by k s e = let product_is : s * m ≡ k * m + m = ap (λ n. n * m) e ∙ (let product_is : (k + 1) * m ≡ k * m + m = omega arith in product_is) in omega (arith, product_is)

-- no plan is longer than a tape may be
pub steps_fit : (r : ℕ) → r ≤ 400 → most_void_steps r ≤ 1073741824
steps_fit r l =
    let tiles_to_13 : tiles_of r ≤ 13 = omega arith in
    let square : tiles_of r * tiles_of r ≤ 13 * 13 = mul-le-mul tiles_to_13 tiles_to_13 in
    let cube : r * (tiles_of r * tiles_of r) ≤ 400 * (13 * 13) = mul-le-mul l square in
    omega arith

-- the four are at the beginning of the sweep
pub no_way_yet : (b : TapeState) → IsSpread b → steps_to b (coord 0 (b.matrix.resolution - 1) 0) ≤ 34
no_way_yet b h =
    let at : spot b.bots ≡ top b.matrix = h.there ∙ ap top (sym h.matrix) in
    let none : moves_to (spot b.bots) (top b.matrix) ≡ 0 = ap (λ (c : Coord). moves_to c (top b.matrix)) at ∙ no_moves (top b.matrix) in
    let steps = h.steps_are in
    omega (arith, none, steps)

-- nor the voiding
pub voiding_fits : (b : TapeState) (m : Matrix) → IsSpread b → b.matrix ≡ m → 2 ≤ m.resolution → m.resolution ≤ 400
    → steps_to b (coord 0 (b.matrix.resolution - 1) 0) + (b.matrix.resolution - 1) * voiding_steps b.matrix.resolution
    < 1073741824
voiding_fits b m h e some most =
    let first = no_way_yet b h in
    let all : 34 + (m.resolution - 1) * voiding_steps m.resolution < 1073741824 = omega (arith, swept m.resolution (tiles_of m.resolution * tiles_of m.resolution) some, steps_fit m.resolution most) in
    let same = ap (λ (k : Matrix). (k.resolution - 1) * voiding_steps k.resolution) e in
    omega (arith, first, all, same)

-- all steps with the path home, a Flip and the Halt
pub steps_home : (b d g : TapeState) (m : Matrix) → IsSpread b → b.matrix ≡ m → 2 ≤ m.resolution
    → Clears b d (coord 0 (b.matrix.resolution - 1) 0) (coord 0 0 0)
    ((b.matrix.resolution - 1) * voiding_steps b.matrix.resolution) → IsGathered g (steps_to d (coord 0 0 0) + 6)
    → steps_to g (coord 0 0 0) + 2 ≤ most_void_steps m.resolution
steps_home b d g m h e some k gathered =
    let first = no_way_yet b h in
    let second = k.steps_are in
    let last = gathered.steps_are in
    let same = ap (λ (n : Matrix). (n.resolution - 1) * voiding_steps n.resolution) e in
    omega (arith, first, second, last, same, swept m.resolution (tiles_of m.resolution * tiles_of m.resolution) some)

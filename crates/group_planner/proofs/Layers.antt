-- Stamping by layers.
use Rattle.std.proofs.Common.{◌≡◌, ℕ, zero, suc, ◌+◌, ◌-◌, ◌*◌, ◌<◌, ◌≤◌, refl, sym, ◌∙◌, ap, subst, arith, Bool, true, false, cond, ◌&&◌, ◌||◌, ◌==◌, nat_le, nat_lt}
use Rattle.std.proofs.lemmas.Bool.Decides.{nat_tests}
use Rattle.vox_geom.specs.declared.coordinate.Coord.{Coord}
use Rattle.nano_spec.specs.Matrix.{Matrix, is_full}
use Rattle.plan_tape.specs.Progress.{TapeState, IsVoidFrom}
use Rattle.plan_tape.specs.Parts.{from_layer, in_layer, layer}
use Rattle.plan_tape.proofs.Parts.{void_past_x}
use Rattle.group_planner.specs.Rows.{is_row, one_if, rows, rows_of_layer, runs, runs_of_layer, runs_of_row, sum_below}
use Rattle.group_planner.specs.Stamping.{CanVoidModel, CanStamp, Stamps, between_layers, stamping_steps, row_steps, steps_below}
use Rattle.group_planner.proofs.Counts.{sum_below-suc, sum_below-zero}
use Rattle.group_planner.proofs.Stamps.{stamps_as}

-- ---- sums

-- a sum of 135 of one and 3 of another
pub sum_of_both : (f g : ℕ → ℕ) (n : ℕ)
    → sum_below (λ k. 135 * f k + 3 * g k) n ≡ 135 * sum_below f n + 3 * sum_below g n
sum_of_both f g zero =
    let sum_zero = sum_below-zero (λ k. 135 * f k + 3 * g k) in
    let zero_sum = sum_below-zero f in
    let sum_zero_here = sum_below-zero g in
    omega (arith, sum_zero, zero_sum, sum_zero_here)
sum_of_both f g (suc n) =
    let sum_more = sum_below-suc (λ k. 135 * f k + 3 * g k) n in
    let sum_is = sum_below-suc f n in
    let sum_more_here = sum_below-suc g n in
    let both_sums = sum_of_both f g n in
    omega (arith, sum_more, sum_is, sum_more_here, both_sums)

pub layer_sum : (m : Matrix) (y : ℕ) → sum_below (λ x. row_steps m x y) m.resolution ≡ stamping_steps m y
layer_sum m y = sum_of_both (λ x. one_if (is_row m x y)) (λ x. runs_of_row m x y) m.resolution

pub model_sum : (m : Matrix) → steps_below m m.resolution ≡ 135 * rows m + 3 * runs m
model_sum m = sum_of_both (rows_of_layer m) (runs_of_layer m) m.resolution

-- ---- layers

pub no_lines : (m : Matrix) (y : ℕ) (c : Coord) → (in_layer 0 y c && is_full m c) ≡ false
no_lines m y c = let not_nat_lt : nat_lt c.x 0 ≡ false = grind (arith, nat_tests) in by (nat_lt c.x 0) (c.y == y) (is_full m c) not_nat_lt
  where
    by : (s t u : Bool) → s ≡ false → ((s && t) && u) ≡ false
    by s t u e = rw e refl

-- all lines are the layer
pub stamps_layer : (a b : TapeState) (m : Matrix) (full : Bool) (x y : ℕ) → m.resolution ≤ x
    → Stamps a b m full (in_layer x y) (sum_below (λ k. runs_of_row m k y) x)
    → sum_below (λ k. runs_of_row m k y) x ≡ runs_of_layer m y → Stamps a b m full (layer y) (runs_of_layer m y)
stamps_layer a b m full x y l g n = stamps_as a b m full (in_layer x y) (layer y) _ (runs_of_layer m y) g (λ c. by c (nat_lt c.x x) refl) (omega (arith, n))
  where
    past : (u r : ℕ) → r ≤ u → nat_lt u r ≡ false
    past u r h = grind (arith, nat_tests)

    not_less : (u v : ℕ) → nat_lt u v ≡ false → v ≤ u
    not_less u v e = grind (arith, nat_tests)

    void : (s t u : Bool) → u ≡ false → (s && u) ≡ ((t && s) && u)
    void true true u e = refl
    void true false u e = e
    void false true u e = refl
    void false false u e = refl

    by : (c : Coord) (t : Bool) → nat_lt c.x x ≡ t → (layer y c && is_full m c) ≡ (in_layer x y c && is_full m c)
    by c true e = ap (λ t. (t && c.y == y) && is_full m c) (sym e)
    by c false e = let far = not_less c.x x e in void (c.y == y) (nat_lt c.x x) (is_full m c) (void_past_x m c (past c.x m.resolution (omega arith)))

-- ---- from the top down

lower : (v y : ℕ) → nat_le y v ≡ true → y ≤ v
lower v y e = grind (arith, nat_tests)

at_or_above : (v y : ℕ) → y ≤ v → nat_le y v ≡ true
at_or_above v y h = grind (arith, nat_tests)

-- at first nothing is written, since the top layer is void
pub no_layers : (p : TapeState) (m : Matrix) (c : Coord) → CanVoidModel p m
    → (from_layer (p.matrix.resolution - 1) c && is_full m c) ≡ false
no_layers p m c h = by (from_layer (p.matrix.resolution - 1) c) refl
  where
    by : (t : Bool) → from_layer (p.matrix.resolution - 1) c ≡ t → (t && is_full m c) ≡ false
    by false e = refl
    by true e = sym (h.alike c) ∙ h.top c (lower c.y (p.matrix.resolution - 1) e)

emptied : (f : Bool) → cond (true && f) false f ≡ false
emptied true = refl
emptied false = refl

-- if the layers from a height on are voided, all is void there
pub cleared : (a b : TapeState) (m : Matrix) (y n : ℕ) → CanVoidModel a m → Stamps a b m false (from_layer y) n
    → IsVoidFrom b.matrix y
cleared a b m y n h g = λ c l. g.stamped c ∙ (ap (λ t. cond (t && is_full m c) false (is_full a.matrix c)) (at_or_above c.y y l) ∙ (ap (λ f. cond (true && is_full m c) false f) (h.alike c) ∙ emptied (is_full m c)))

-- the next layer can be voided
pub clear_on : (a b : TapeState) (m : Matrix) (y z n : ℕ) → CanVoidModel a m → Stamps a b m false (from_layer y) n
    → z + 1 ≡ y → y < a.matrix.resolution → CanStamp b m z
clear_on a b m y z n h g e l = record { pair = g.pair; same = h.same ∙ sym g.resolution; within = let resolution = g.resolution in omega arith; above = subst (IsVoidFrom b.matrix) (sym e) (cleared a b m y n h g) }

-- ---- from below up

-- at first nothing is filled
pub no_layers_yet : (m : Matrix) (low : ℕ) (c : Coord) → (between_layers low low c && is_full m c) ≡ false
no_layers_yet m low c = by (nat_le low c.y) (nat_lt c.y low) (is_full m c) (never c.y)
  where
    never : (v : ℕ) → (nat_le low v && nat_lt v low) ≡ false
    never v = grind (arith, nat_tests)

    by : (s t u : Bool) → (s && t) ≡ false → ((s && t) && u) ≡ false
    by s t u e = rw e refl

pub between_layers-more : (low y : ℕ) (c : Coord) → low ≤ y
    → between_layers low (y + 1) c ≡ (layer y c || between_layers low y c)
between_layers-more low y c h = by c.y
  where
    by : (v : ℕ) → (nat_le low v && nat_lt v (y + 1)) ≡ (v == y || (nat_le low v && nat_lt v y))
    by v = grind (arith, nat_tests)

pub above_between : (low y : ℕ) (c : Coord) → y ≤ c.y → between_layers low y c ≡ false
above_between low y c h = by c.y h
  where
    by : (v : ℕ) → y ≤ v → (nat_le low v && nat_lt v y) ≡ false
    by v l = grind (arith, nat_tests)

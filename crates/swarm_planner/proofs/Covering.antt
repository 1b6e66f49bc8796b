-- Each column of the legal box is in one of the lines, and the layers make the target.
use Rattle.std.proofs.Common.{◌≡◌, ℕ, zero, suc, ◌+◌, ◌-◌, ◌*◌, ◌/◌, ◌%◌, ◌<◌, ◌≤◌, ◌⊎◌, inl, inr, refl, sym, ◌∙◌, ap, arith, Bool, true, false, ◌&&◌, ◌||◌, ◌==◌, min, nat_lt}
use Rattle.std.proofs.Math.Nat.{div-add-mod}
use Rattle.std.proofs.lemmas.Nat.{div_below, mod_below}
use Rattle.vox_geom.specs.declared.coordinate.Coord.{Coord}
use Rattle.vox_geom.proofs.Truths.{both_true, or_by_first, or_by_second}
use Rattle.vox_geom.proofs.Tests.{test_equal, test_less}
use Rattle.nano_spec.specs.Legal.{IsLegal}
use Rattle.nano_spec.specs.Matrix.{Matrix, is_full}
use Rattle.plan_tape.specs.Progress.{AreAlike, IsVoidFrom}
use Rattle.swarm_planner.specs.Building.{IsRaised, in_line, in_lines, is_column, layers}
use Rattle.swarm_planner.specs.Strips.{count, last}
use Rattle.swarm_planner.specs.Bounds.{width}
use Rattle.plan_tape.proofs.LegalModels.{full_in_box}

column_at : (w l n a i x : ℕ) → i < n → x ≡ a + w * i → x ≤ l → is_column w l n a x ≡ true
column_at w l zero a i x h e k = absurd (omega arith)
column_at w l (suc n) a zero x h e k = or_by_first (x == min a l) (is_column w l n (a + w) x) (test_equal x (min a l) (let product_is : w * zero ≡ 0 = omega arith in omega arith))
column_at w l (suc n) a (suc i) x h e k = or_by_second (x == min a l) (is_column w l n (a + w) x) (column_at w l n (a + w) i x (omega arith) (let sum_is : a + w * suc i ≡ a + w + w * i = omega arith in omega arith) k)

equal_or_less : (j k : ℕ) → j ≤ suc k → (j ≡ suc k) ⊎ (j ≤ k)
equal_or_less j k h = grind arith

line_in : (r k j x : ℕ) → 1 ≤ j → j ≤ k → in_line r j x ≡ true → in_lines r k x ≡ true
line_in r zero j x h l e = absurd (omega arith)
line_in r (suc k) j x h l e = by (equal_or_less j k l) (λ m. line_in r k j x h m e)
  where
    by : (j ≡ suc k) ⊎ (j ≤ k) → (j ≤ k → in_lines r k x ≡ true) → in_lines r (suc k) x ≡ true
    by (inl f) later = or_by_second (in_lines r k x) (in_line r (suc k) x) (sym (ap (λ v. in_line r v x) f) ∙ e)
    by (inr m) later = or_by_first (in_lines r k x) (in_line r (suc k) x) (later m)

strip_of : (r v : ℕ) → 1 ≤ width r → v ≤ r - 3 → v / width r < count r
strip_of r v h l =
    let division = div-add-mod (r - 3) (width r) in
    let below_width : (r - 3) % width r < width r = mod_below (r - 3) (width r) h in
    let count_is : count r * width r ≡ width r * ((r - 3) / width r) + width r = omega arith in
    div_below v (width r) (count r) h (omega arith)

-- each column from 1 to r - 2
covered : (r x : ℕ) → 3 ≤ r → 1 ≤ x → x + 1 < r → in_lines r (width r) x ≡ true
covered r x s h l =
    let some_width : 1 ≤ width r = omega arith in
    let division = div-add-mod (x - 1) (width r) in
    let below_width : (x - 1) % width r < width r = mod_below (x - 1) (width r) some_width in
    line_in r (width r) ((x - 1) % width r + 1) x (omega arith) (omega arith) (column_at (width r) (last r) (count r) ((x - 1) % width r + 1) ((x - 1) / width r) x (strip_of r (x - 1) some_width (omega arith)) (omega arith) (omega arith))

pub in_layers : (m : Matrix) (c : Coord) → IsLegal m → is_full m c ≡ true
    → layers m.resolution (m.resolution - 1) c ≡ true
in_layers m c h f =
    let in_box = full_in_box m c h f in
    let x = in_box.x in
    let x_end = in_box.x_end in
    let y_end = in_box.y_end in
    both_true (in_lines m.resolution (width m.resolution) c.x) (nat_lt c.y (m.resolution - 1)) (covered m.resolution c.x (omega arith) x x_end) (test_less c.y (m.resolution - 1) (omega arith))

all_there : (full done target : Bool) → full ≡ false → (target ≡ true → done ≡ true)
    → (full || (done && target)) ≡ target
all_there full done true e h = rw (e, h refl) refl
all_there full true false e h = rw e refl
all_there full false false e h = rw e refl

-- if all layers are built from nothing, the voxels are those of the target
pub built_is : (m n target : Matrix) (r : ℕ) → IsLegal target → r ≡ target.resolution → IsVoidFrom n 0
    → IsRaised m n target (layers r (r - 1)) → AreAlike m target
built_is m n target r h e void raised = λ c. raised c ∙ all_there (is_full n c) (layers r (r - 1) c) (is_full target c) (void c (omega arith)) (λ f. ap (λ k. layers k (k - 1) c) e ∙ in_layers target c h f)

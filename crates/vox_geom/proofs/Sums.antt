-- Sums of integers with 0 and 1, and other sums and lengths that many proofs need.
use Rattle.std.proofs.Common.{◌≡◌, ℕ, zero, suc, ◌+◌, ◌-◌, ◌*◌, ◌^◌, ◌<◌, ◌≤◌, refl, ap, arith, mul-le-mul, List, [], ◌∷◌, ◌++◌, length, ℤ, pos, negsuc, ◌+ℤ◌}
use Rattle.std.specs.Prelude.{unsigned_abs}
use Rattle.std.proofs.lemmas.Int.{ints}
use Rattle.std.proofs.lemmas.Nat.{pow-add}
use Rattle.vox_geom.specs.Space.{numbers_from}

pub plus_none : (n : ℕ) → pos n +ℤ pos 0 ≡ pos n
plus_none n = omega (arith, ints)

pub plus_one : (n : ℕ) → pos n +ℤ pos 1 ≡ pos (n + 1)
plus_one n = omega (arith, ints)

pub less_one : (n : ℕ) → pos (n + 1) +ℤ negsuc 0 ≡ pos n
less_one n = omega (arith, ints)

pub unsigned_plus_none : (n : ℕ) → unsigned_abs (pos n +ℤ pos 0) ≡ n
unsigned_plus_none n = omega (arith, ints)

pub unsigned_less_one : (n : ℕ) → unsigned_abs (pos (n + 1) +ℤ negsuc 0) ≡ n
unsigned_less_one n = omega (arith, ints)

pub integer_plus_none : (e : ℤ) → e +ℤ pos 0 ≡ e
integer_plus_none e = omega (arith, ints)

-- no matrix has more voxels
pub most_cube : (r : ℕ) → r ≤ 400 → r * r * r ≤ 64000000
most_cube r h =
    let square : r * r ≤ 400 * 400 = mul-le-mul h h in
    mul-le-mul square h

pub two_to_next : (n : ℕ) → 2 ^ (n + 1) ≡ 2 ^ n * 2
two_to_next n = pow-add 2 n 1

-- the work that is left, layer by layer, falls by a layer's part
pub one_layer_less : (r y n : ℕ) → 0 < y → y < r → (r - 1 - y) * n + n ≤ (r - 1 - (y - 1)) * n
one_layer_less r y n h l = let difference_is : r - 1 - (y - 1) ≡ r - 1 - y + 1 = omega arith in rw difference_is (omega arith)

pub append_none : {A : Type 0} (xs : List A) → xs ++ [] ≡ xs
append_none [] = refl
append_none (x ∷ xs) = λ i. x ∷ append_none xs i

pub numbers_length : (a n : ℕ) → length (numbers_from a n) ≡ n
numbers_length a zero = refl
numbers_length a (suc n) = ap suc (numbers_length (a + 1) n)

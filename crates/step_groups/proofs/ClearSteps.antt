-- A path of one by one coordinate has its two ends and no other coordinate.
use Rattle.std.proofs.Common.{◌≡◌, ◌⊎◌, inl, inr, ℕ, zero, suc, ◌+◌, ◌*◌, ◌≤◌, refl, sym, ◌∙◌, ap, subst, arith, Bool, true, false, ◌&&◌, find, None, min, max, pos, negsuc}
use Rattle.std.specs.Prelude.{ℤ, ◌+ℤ◌, IsTrue, unsigned_abs}
use Rattle.std.proofs.lemmas.Bool.{cases_eq}
use Rattle.std.proofs.lemmas.Bool.Decides.{nat_tests}
use Rattle.std.proofs.lemmas.Int.{ints}
use Rattle.vox_geom.specs.declared.coordinate.Coord.{Coord}
use Rattle.vox_geom.specs.declared.difference.Diff.{Diff}
use Rattle.vox_geom.specs.Difference.{mlen}
use Rattle.vox_geom.specs.Point.{Point, point, plus}
use Rattle.vox_geom.specs.Region.{IsOrdered, corners, extent, is_between, is_within, size, span}
use Rattle.vox_geom.proofs.Truths.{parts_of_three}
use Rattle.vox_geom.proofs.Points.{coordinate_by_parts}
use Rattle.nano_spec.specs.Matrix.{Matrix, is_full, all_of}
use Rattle.step_order.proofs.Lists.{none_find}

-- ---- along an axis

from_low : (l h v : ℕ) → l ≤ h → IsTrue (is_between (pos l) (pos h) (pos v)) → l ≤ v
from_low l h v o t = grind (arith, nat_tests)

to_high : (l h v : ℕ) → l ≤ h → IsTrue (is_between (pos l) (pos h) (pos v)) → v ≤ h
to_high l h v o t = grind (arith, nat_tests)

-- one end plus a number is the other, and a number is between
record IsAlong (a b v n : ℕ) : Type 0 where
  pub still : n ≡ 0 → a ≡ b
  pub at_end : n ≤ 1 → (v ≡ a) ⊎ (v ≡ b)

apart : (a b : ℕ) (by : ℤ) → pos b ≡ pos a +ℤ by → (b ≡ a + unsigned_abs by) ⊎ (a ≡ b + unsigned_abs by)
apart a b (pos n) e = inl (omega (arith, ints, e))
apart a b (negsuc n) e = inr (omega (arith, ints, e))

along : (a b v : ℕ) (by : ℤ) → pos b ≡ pos a +ℤ by → IsTrue (is_between (pos (min a b)) (pos (max a b)) (pos v))
    → IsAlong a b v (unsigned_abs by)
along a b v by e t = ends (apart a b by e)
  where
    low : min a b ≤ v
    low = from_low (min a b) (max a b) v (omega arith) t

    high : v ≤ max a b
    high = to_high (min a b) (max a b) v (omega arith) t

    ends : (b ≡ a + unsigned_abs by) ⊎ (a ≡ b + unsigned_abs by) → IsAlong a b v (unsigned_abs by)
    ends (inl f) = record {
      still = λ z. omega (arith, f, z);
      at_end = λ l. elim (cases_eq v a) [ inl s ↦ inl s | inr s ↦ inr (omega (arith, f, l, low, high)) ];
    }
    ends (inr f) = record {
      still = λ z. omega (arith, f, z);
      at_end = λ l. elim (cases_eq v a) [ inl s ↦ inl s | inr s ↦ inr (omega (arith, f, l, low, high)) ];
    }

-- if both ends are equal, so is the number between
at_both : (a b v n : ℕ) → IsAlong a b v n → n ≡ 0 → (v ≡ a) × (v ≡ b)
at_both a b v n h z = by (h.at_end (omega (arith, z)))
  where
    by : (v ≡ a) ⊎ (v ≡ b) → (v ≡ a) × (v ≡ b)
    by (inl e) = (e, e ∙ h.still z)
    by (inr e) = (e ∙ sym (h.still z), e)

-- ---- the coordinates of the path

along_x : (a b c : Coord) (i j k : ℕ) → IsAlong a.x b.x c.x i → IsAlong a.y b.y c.y j → IsAlong a.z b.z c.z k → i ≤ 1
    → j ≡ 0 → k ≡ 0 → (c ≡ a) ⊎ (c ≡ b)
along_x a b c i j k x y z l m n = by (x.at_end l)
  where
    yy : (c.y ≡ a.y) × (c.y ≡ b.y)
    yy = at_both a.y b.y c.y j y m

    zz : (c.z ≡ a.z) × (c.z ≡ b.z)
    zz = at_both a.z b.z c.z k z n

    by : (c.x ≡ a.x) ⊎ (c.x ≡ b.x) → (c ≡ a) ⊎ (c ≡ b)
    by (inl e) = inl (coordinate_by_parts c a e yy.0 zz.0)
    by (inr e) = inr (coordinate_by_parts c b e yy.1 zz.1)

along_y : (a b c : Coord) (i j k : ℕ) → IsAlong a.x b.x c.x i → IsAlong a.y b.y c.y j → IsAlong a.z b.z c.z k → i ≡ 0
    → j ≤ 1 → k ≡ 0 → (c ≡ a) ⊎ (c ≡ b)
along_y a b c i j k x y z l m n = by (y.at_end m)
  where
    xx : (c.x ≡ a.x) × (c.x ≡ b.x)
    xx = at_both a.x b.x c.x i x l

    zz : (c.z ≡ a.z) × (c.z ≡ b.z)
    zz = at_both a.z b.z c.z k z n

    by : (c.y ≡ a.y) ⊎ (c.y ≡ b.y) → (c ≡ a) ⊎ (c ≡ b)
    by (inl e) = inl (coordinate_by_parts c a xx.0 e zz.0)
    by (inr e) = inr (coordinate_by_parts c b xx.1 e zz.1)

along_z : (a b c : Coord) (i j k : ℕ) → IsAlong a.x b.x c.x i → IsAlong a.y b.y c.y j → IsAlong a.z b.z c.z k → i ≡ 0
    → j ≡ 0 → k ≤ 1 → (c ≡ a) ⊎ (c ≡ b)
along_z a b c i j k x y z l m n = by (z.at_end n)
  where
    xx : (c.x ≡ a.x) × (c.x ≡ b.x)
    xx = at_both a.x b.x c.x i x l

    yy : (c.y ≡ a.y) × (c.y ≡ b.y)
    yy = at_both a.y b.y c.y j y m

    by : (c.z ≡ a.z) ⊎ (c.z ≡ b.z) → (c ≡ a) ⊎ (c ≡ b)
    by (inl e) = inl (coordinate_by_parts c a xx.0 yy.0 e)
    by (inr e) = inr (coordinate_by_parts c b xx.1 yy.1 e)

at_an_end : (a b c : Coord) (i j k : ℕ) → IsAlong a.x b.x c.x i → IsAlong a.y b.y c.y j → IsAlong a.z b.z c.z k
    → i + j + k ≡ 1 → (c ≡ a) ⊎ (c ≡ b)
at_an_end a b c (suc i) j k x y z one = along_x a b c (suc i) j k x y z (omega (arith, one)) (omega (arith, one)) (omega (arith, one))
at_an_end a b c zero (suc j) k x y z one = along_y a b c zero (suc j) k x y z refl (omega (arith, one)) (omega (arith, one))
at_an_end a b c zero zero k x y z one = along_z a b c zero zero k x y z refl refl (omega (arith, one))

module _ (from to : Coord) (d : Diff) (sum : point to ≡ plus (point from) d) (one : mlen d ≡ 1) where
  -- a coordinate of the path is one of its ends
  one_of_ends : (c : Coord) → is_within (span (corners from to)) (point c) ≡ true → (c ≡ from) ⊎ (c ≡ to)
  one_of_ends c t =
      let three_parts = parts_of_three _ _ _ t in
      at_an_end from to c (unsigned_abs d.dx) (unsigned_abs d.dy) (unsigned_abs d.dz)
      (along from.x to.x c.x d.dx (ap (λ (q : Point). q.x) sum) three_parts.0) (along from.y to.y c.y d.dy (ap (λ (q : Point). q.y) sum) three_parts.1) (along from.z to.z c.z d.dz (ap (λ (q : Point). q.z) sum) three_parts.2) one

  -- if both ends are void, the path is clear
  pub clear_step : (m : Matrix) → is_full m from ≡ false → is_full m to ≡ false
      → find (λ c. is_full m c && is_within (span (corners from to)) (point c)) (all_of m) ≡ None
  clear_step m e f = none_find (λ c. is_full m c && is_within (span (corners from to)) (point c)) (all_of m) (λ c i. by c (is_within (span (corners from to)) (point c)) refl)
    where
      void : (c : Coord) → (c ≡ from) ⊎ (c ≡ to) → is_full m c ≡ false
      void c (inl s) = ap (is_full m) s ∙ e
      void c (inr s) = ap (is_full m) s ∙ f

      nothing : (b : Bool) → (b && false) ≡ false
      nothing true = refl
      nothing false = refl

      by : (c : Coord) (t : Bool) → is_within (span (corners from to)) (point c) ≡ t
          → (is_full m c && is_within (span (corners from to)) (point c)) ≡ false
      by c true t = ap (λ b. b && is_within (span (corners from to)) (point c)) (void c (one_of_ends c t))
      by c false t = ap (λ b. is_full m c && b) t ∙ nothing (is_full m c)

  -- it has two coordinates
  pub step_size : 2 ≤ size (span (corners from to))
  step_size = two _ _ _ (wide from.x to.x d.dx (ap (λ (q : Point). q.x) sum)) (wide from.y to.y d.dy (ap (λ (q : Point). q.y) sum)) (wide from.z to.z d.dz (ap (λ (q : Point). q.z) sum))
    where
      distance : (l h n : ℕ) → h ≡ l + n → extent (pos l) (pos h) ≡ n + 1
      distance l h n e = omega (arith, ints, e)

      wide : (a b : ℕ) (by : ℤ) → pos b ≡ pos a +ℤ by → extent (pos (min a b)) (pos (max a b)) ≡ unsigned_abs by + 1
      wide a b by e = elim (apart a b by e) [ inl f ↦ distance (min a b) (max a b) (unsigned_abs by) (omega (arith, f)) | inr f ↦ distance (min a b) (max a b) (unsigned_abs by) (omega (arith, f)) ]

      product : (i j l : ℕ) → i + j + l ≡ 1 → 2 ≤ (i + 1) * (j + 1) * (l + 1)
      product (suc i) j l e = let i_is : i ≡ 0 = omega (arith, e) in let j_is : j ≡ 0 = omega (arith, e) in let l_is : l ≡ 0 = omega (arith, e) in rw (i_is, j_is, l_is) (omega arith)
      product zero (suc j) l e = let j_is : j ≡ 0 = omega (arith, e) in let l_is : l ≡ 0 = omega (arith, e) in rw (j_is, l_is) (omega arith)
      product zero zero l e = let l_is : l ≡ 1 = omega (arith, e) in rw l_is (omega arith)

      two : (x y z : ℕ) → x ≡ unsigned_abs d.dx + 1 → y ≡ unsigned_abs d.dy + 1 → z ≡ unsigned_abs d.dz + 1
          → 2 ≤ x * y * z
      two x y z e f g = let product_bound = product (unsigned_abs d.dx) (unsigned_abs d.dy) (unsigned_abs d.dz) one in subst (λ n. 2 ≤ n) (sym (λ i. e i * f i * g i)) product_bound

pub ordered_corners : (a b : Coord) → IsOrdered (corners a b)
ordered_corners a b = record { x = omega arith; y = omega arith; z = omega arith }

-- A region has as many coordinates of the matrix as its size.
use Rattle.std.proofs.Common.{◌≡◌, ℕ, zero, suc, ◌+◌, ◌-◌, ◌*◌, ◌/◌, ◌%◌, ◌<◌, ◌≤◌, refl, ap, sym, ◌∙◌, arith, Bool, true, false, cond, ◌&&◌, ◌||◌, map, pos, negsuc, ℤ, inl, inr}
use Rattle.std.specs.Prelude.{◌⊎◌, count_by, int_le}
use Rattle.std.proofs.lemmas.Bool.{cases_lt}
use Rattle.std.proofs.lemmas.Bool.Decides.{nat_tests}
use Rattle.std.proofs.lemmas.Int.{ints}
use Rattle.std.proofs.lemmas.List.Sums.{sum_by-cons}
use Rattle.std.proofs.Math.Nat.{div-div-eq-div-mul, mul-le-mul}
use Rattle.std.proofs.Math.Arith.{digits_div, digits_mod}
use Rattle.vox_geom.specs.declared.coordinate.Coord.{Coord}
use Rattle.vox_geom.specs.Point.{point}
use Rattle.vox_geom.specs.Region.{Corners, IsOrdered, Span, extent, is_between, is_within, size, span}
use Rattle.vox_geom.specs.Space.{IsInSpace, coordinate_at, coordinates, numbers_from}
use Rattle.vox_geom.proofs.Points.{between_ends}

-- how many of n numbers, from a on, pass the test
tally : (ℕ → Bool) → ℕ → ℕ → ℕ
tally p zero a = 0
tally p (suc n) a = cond (p a) 1 0 + tally p n (a + 1)

counted : (p : Coord → Bool) (f : ℕ → Coord) (n a : ℕ)
    → count_by p (map f (numbers_from a n)) ≡ tally (λ k. p (f k)) n a
unfolding tally
counted p f zero a = refl
counted p f (suc n) a = sum_by-cons (λ c. cond (p c) 1 0) (f a) (map f (numbers_from (a + 1) n)) ∙ ap (λ k. cond (p (f a)) 1 0 + k) (counted p f n (a + 1))

same_tally : (p q : ℕ → Bool) (n a : ℕ) → ((k : ℕ) → a ≤ k → k < a + n → p k ≡ q k) → tally p n a ≡ tally q n a
unfolding tally
same_tally p q zero a h = refl
same_tally p q (suc n) a h =
    ap (λ b. cond b 1 0 + tally p n (a + 1)) (h a (omega arith) (omega arith))
    ∙ ap (λ k. cond (q a) 1 0 + k) (same_tally p q n (a + 1) (λ k i j. h k (omega arith) (omega arith)))

none_tallied : (n a : ℕ) → tally (λ _. false) n a ≡ 0
unfolding tally
none_tallied zero a = refl
none_tallied (suc n) a = ap (λ k. 0 + k) (none_tallied n (a + 1))

all_tallied : (n a : ℕ) → tally (λ _. true) n a ≡ n
unfolding tally
all_tallied zero a = refl
all_tallied (suc n) a = ap (λ k. 1 + k) (all_tallied n (a + 1)) ∙ omega arith

in_parts : (p : ℕ → Bool) (m n a : ℕ) → tally p (m + n) a ≡ tally p m a + tally p n (a + m)
unfolding tally
in_parts p zero n a = let n_is : 0 + n ≡ n = omega arith in let sum_is : a + 0 ≡ a = omega arith in rw (n_is, sum_is) (omega arith)
in_parts p (suc m) n a =
    let same_m : suc m + n ≡ suc (m + n) = omega arith in
    let sum_is : a + suc m ≡ a + 1 + m = omega arith in
    ap (λ k. tally p k a) same_m ∙ (ap (λ k. cond (p a) 1 0 + k) (in_parts p m n (a + 1)) ∙ (omega arith ∙ ap (λ v. cond (p a) 1 0 + tally p m (a + 1) + tally p n v) (sym sum_is)))

-- numbers moved up by a
moved : (p : ℕ → Bool) (n a b : ℕ) → tally p n (a + b) ≡ tally (λ k. p (a + k)) n b
unfolding tally
moved p zero a b = refl
moved p (suc n) a b = let sum_is : a + b + 1 ≡ a + (b + 1) = omega arith in ap (λ v. cond (p (a + b)) 1 0 + tally p n v) sum_is ∙ ap (λ k. cond (p (a + b)) 1 0 + k) (moved p n a (b + 1))

with_test : (b : Bool) (g : ℕ → Bool) (n a : ℕ) → tally (λ k. b && g k) n a ≡ cond b 1 0 * tally g n a
with_test true g n a = omega arith
with_test false g n a = none_tallied n a ∙ omega arith

-- pairs of numbers, as n digits before m digits, are counted one by one
pairs : (f g : ℕ → Bool) (m n : ℕ) → tally (λ p. f (p / m) && g (p % m)) (n * m) 0 ≡ tally f n 0 * tally g m 0
unfolding tally
pairs f g m zero = let product_is : 0 * m ≡ 0 = omega arith in rw product_is (omega arith)
pairs f g m (suc n) =
    let both : ℕ → Bool = λ p. f (p / m) && g (p % m) in
    let product_sum : suc n * m ≡ n * m + m = omega arith in
    let split : tally both (n * m + m) 0 ≡ tally both (n * m) 0 + tally both m (0 + n * m) = in_parts both (n * m) m 0 in
    let up : tally both m (0 + n * m) ≡ tally both m (n * m + 0) = (let sum_is : 0 + n * m ≡ n * m + 0 = omega arith in ap (tally both m) sum_is) in
    let at : tally both m (n * m + 0) ≡ tally (λ k. both (n * m + k)) m 0 = moved both m (n * m) 0 in
    let same : tally (λ k. both (n * m + k)) m 0 ≡ tally (λ k. f n && g k) m 0 = same_tally (λ k. both (n * m + k)) (λ k. f n && g k) m 0 (λ k i j. digits k j) in
    let last : tally (λ k. f n && g k) m 0 ≡ cond (f n) 1 0 * tally g m 0 = with_test (f n) g m 0 in
    let first : tally both (n * m) 0 ≡ tally f n 0 * tally g m 0 = pairs f g m n in
    let one : tally f (n + 1) 0 ≡ tally f n 0 + tally f 1 (0 + n) = in_parts f n 1 0 in
    let here : tally f 1 (0 + n) ≡ cond (f n) 1 0 = (let sum_is : 0 + n ≡ n = omega arith in ap (λ v. cond (f v) 1 0 + 0) sum_is ∙ omega arith) in
    let whole : tally f (suc n) 0 ≡ tally f n 0 + cond (f n) 1 0 = (let successor_is : suc n ≡ n + 1 = omega arith in ap (λ v. tally f v 0) successor_is) ∙ (one ∙ ap (λ v. tally f n 0 + v) here) in
    ap (λ v. tally both v 0) product_sum ∙ (split ∙ (ap (λ v. v + tally both m (0 + n * m)) first ∙ (ap (λ v. tally f n 0 * tally g m 0 + v) (up ∙ (at ∙ (same ∙ last))) ∙ (omega arith ∙ ap (λ v. v * tally g m 0) (sym whole)))))
  where
    digits : (k : ℕ) → k < 0 + m → (f ((n * m + k) / m) && g ((n * m + k) % m)) ≡ (f n && g k)
    digits k j = let below_m : k < m = omega arith in ap (λ v. f v && g ((n * m + k) % m)) (digits_div n below_m) ∙ ap (λ v. f n && g v) (digits_mod n below_m)

-- ---- a region's coordinates

below : (low high v : ℕ) → low ≤ high → v < low → is_between (pos low) (pos high) (pos v) ≡ false
below low high v h k = grind (arith, nat_tests)

above : (low high v : ℕ) → low ≤ high → high < v → is_between (pos low) (pos high) (pos v) ≡ false
above low high v h k = grind (arith, nat_tests)

extent_is : (low high : ℕ) → low ≤ high → extent (pos low) (pos high) ≡ high - low + 1
extent_is low high h = omega (arith, ints)

-- as many numbers below r lie between two of them as their extent
between_tallied : (low high r : ℕ) → low ≤ high → high < r
    → tally (λ v. is_between (pos low) (pos high) (pos v)) r 0 ≡ extent (pos low) (pos high)
between_tallied low high r h k =
    let test : ℕ → Bool = λ v. is_between (pos low) (pos high) (pos v) in
    let sum = high - low + 1 in
    let difference = r - (high + 1) in
    let r_is : r ≡ low + (sum + difference) = omega arith in
    let front : tally test low 0 ≡ 0 = same_tally test (λ _. false) low 0 (λ v i j. below low high v h (omega arith)) ∙ none_tallied low 0 in
    let middle : tally test sum (0 + low) ≡ sum = same_tally test (λ _. true) sum (0 + low) (λ v i j. between_ends low high v (omega arith) (omega arith)) ∙ all_tallied sum (0 + low) in
    let back : tally test difference (0 + low + sum) ≡ 0 = same_tally test (λ _. false) difference (0 + low + sum) (λ v i j. above low high v h (omega arith)) ∙ none_tallied difference (0 + low + sum) in
    let outer : tally test (low + (sum + difference)) 0 ≡ tally test low 0 + tally test (sum + difference) (0 + low) = in_parts test low (sum + difference) 0 in
    let inner : tally test (sum + difference) (0 + low) ≡ tally test sum (0 + low) + tally test difference (0 + low + sum) = in_parts test sum difference (0 + low) in
    ap (λ v. tally test v 0) r_is ∙ (outer ∙ (omega arith ∙ sym (extent_is low high h)))

-- the coordinates of the matrix in a region are counted axis by axis
axis_by_axis : (r : ℕ) (s : Span) → count_by (λ c. is_within s (point c)) (coordinates r) ≡ tally
    (λ v. is_between s.from.x s.to.x (pos v)) r 0 * tally (λ v. is_between s.from.y s.to.y (pos v)) r 0 * tally
    (λ v. is_between s.from.z s.to.z (pos v)) r 0
axis_by_axis r s =
    let is_between_x : ℕ → Bool = λ v. is_between s.from.x s.to.x (pos v) in
    let is_between_y : ℕ → Bool = λ v. is_between s.from.y s.to.y (pos v) in
    let is_between_z : ℕ → Bool = λ v. is_between s.from.z s.to.z (pos v) in
    let front : ℕ → Bool = λ q. is_between_x (q / r) && is_between_y (q % r) in
    counted (λ c. is_within s (point c)) (coordinate_at r) (r * r * r) 0
    ∙ (same_tally (λ p. is_between_x (p / (r * r)) && is_between_y (p / r % r) && is_between_z (p % r)) (λ p. front (p / r) && is_between_z (p % r)) (r * r * r) 0 (λ p i j. ap (λ v. is_between_x v && is_between_y (p / r % r) && is_between_z (p % r)) (sym (div-div-eq-div-mul p r r)))
    ∙ (pairs front is_between_z r (r * r) ∙ ap (λ v. v * tally is_between_z r 0) (pairs is_between_x is_between_y r r)))

-- the number of coordinates of the matrix that are in a region of it is the region's size
pub region_count : (r : ℕ) (k : Corners) → IsOrdered k → IsInSpace r k.high
    → count_by (λ c. is_within (span k) (point c)) (coordinates r) ≡ size (span k)
region_count r k o h =
    let y : ℕ = tally (λ v. is_between (pos k.low.y) (pos k.high.y) (pos v)) r 0 in
    let z : ℕ = tally (λ v. is_between (pos k.low.z) (pos k.high.z) (pos v)) r 0 in
    axis_by_axis r (span k)
    ∙ (ap (λ v. v * y * z) (between_tallied k.low.x k.high.x r o.x h.x)
    ∙ (ap (λ v. extent (pos k.low.x) (pos k.high.x) * v * z) (between_tallied k.low.y k.high.y r o.y h.y)
    ∙ ap (λ v. extent (pos k.low.x) (pos k.high.x) * extent (pos k.low.y) (pos k.high.y) * v) (between_tallied k.low.z k.high.z r o.z h.z)))

-- ---- a region that may leave the matrix

-- at most as many numbers below r lie between two as their extent, if some of those are past r
up_to : (low high r : ℕ) → low ≤ high
    → tally (λ v. is_between (pos low) (pos high) (pos v)) r 0 ≤ extent (pos low) (pos high)
up_to low high r h =
    let test : ℕ → Bool = λ v. is_between (pos low) (pos high) (pos v) in
    let all : tally test (r + (high + 1)) 0 ≡ extent (pos low) (pos high) = between_tallied low high (r + (high + 1)) h (omega arith) in
    let split : tally test (r + (high + 1)) 0 ≡ tally test r 0 + tally test (high + 1) (0 + r) = in_parts test r (high + 1) 0 in
    omega arith

swapped : (a b v : ℤ) → is_between a b v ≡ is_between b a v
swapped a b v = or_comm (int_le a v && int_le v b) (int_le b v && int_le v a)
  where
    or_comm : (p q : Bool) → (p || q) ≡ (q || p)
    or_comm true true = refl
    or_comm true false = refl
    or_comm false true = refl
    or_comm false false = refl

extent_swapped : (a b : ℕ) → a ≤ b → extent (pos b) (pos a) ≡ extent (pos a) (pos b)
extent_swapped a b h = omega (arith, ints)

from_nothing : (a b v : ℕ) → is_between (pos a) (negsuc b) (pos v) ≡ is_between (pos 0) (pos a) (pos v)
from_nothing a b v = grind (arith, nat_tests)

longer : (a b : ℕ) → extent (pos 0) (pos a) ≤ extent (pos a) (negsuc b)
longer a b = omega (arith, ints)

longer' : (a b : ℕ) → extent (pos 0) (pos b) ≤ extent (negsuc a) (pos b)
longer' a b = omega (arith, ints)

at_most_extent : (a b : ℤ) (r : ℕ) → tally (λ v. is_between a b (pos v)) r 0 ≤ extent a b
at_most_extent (pos a) (pos b) r = by (cases_lt a b)
  where
    by : ((a < b) ⊎ (b ≤ a)) → tally (λ v. is_between (pos a) (pos b) (pos v)) r 0 ≤ extent (pos a) (pos b)
    by (inl h) = up_to a b r (omega arith)
    by (inr h) =
        let tally_is : tally (λ v. is_between (pos a) (pos b) (pos v)) r 0 ≡ tally (λ v. is_between (pos b) (pos a) (pos v)) r 0 = same_tally (λ v. is_between (pos a) (pos b) (pos v)) (λ v. is_between (pos b) (pos a) (pos v)) r 0 (λ v i j. swapped (pos a) (pos b) (pos v)) in
        let tally_bound = up_to b a r h in
        let same_extent : extent (pos a) (pos b) ≡ extent (pos b) (pos a) = extent_swapped b a h in
        omega arith
at_most_extent (pos a) (negsuc b) r =
    let same_tally_here : tally (λ v. is_between (pos a) (negsuc b) (pos v)) r 0 ≡ tally (λ v. is_between (pos 0) (pos a) (pos v)) r 0 = same_tally (λ v. is_between (pos a) (negsuc b) (pos v)) (λ v. is_between (pos 0) (pos a) (pos v)) r 0 (λ v i j. from_nothing a b v) in
    let tally_bound = up_to 0 a r (omega arith) in
    let longer_here = longer a b in
    omega arith
at_most_extent (negsuc a) (pos b) r =
    let same_tally_here : tally (λ v. is_between (negsuc a) (pos b) (pos v)) r 0 ≡ tally (λ v. is_between (pos 0) (pos b) (pos v)) r 0 = same_tally (λ v. is_between (negsuc a) (pos b) (pos v)) (λ v. is_between (pos 0) (pos b) (pos v)) r 0 (λ v i j. swapped (negsuc a) (pos b) (pos v) ∙ from_nothing b a v) in
    let tally_bound = up_to 0 b r (omega arith) in
    let longer_here = longer' a b in
    omega arith
at_most_extent (negsuc a) (negsuc b) r =
    let tally_is : tally (λ v. is_between (negsuc a) (negsuc b) (pos v)) r 0 ≡ 0 = same_tally (λ v. is_between (negsuc a) (negsuc b) (pos v)) (λ _. false) r 0 (λ v i j. refl) ∙ none_tallied r 0 in
    omega arith

-- a region has at most as many coordinates of the matrix as its size, even if it leaves the matrix
pub region_count_most : (r : ℕ) (s : Span) → count_by (λ c. is_within s (point c)) (coordinates r) ≤ size s
region_count_most r s =
    let axis_by_axis_here = axis_by_axis r s in
    let extent_bound_x = at_most_extent s.from.x s.to.x r in
    let extent_bound_y = at_most_extent s.from.y s.to.y r in
    let extent_bound_z = at_most_extent s.from.z s.to.z r in
    rw axis_by_axis_here (mul-le-mul (mul-le-mul extent_bound_x extent_bound_y) extent_bound_z)

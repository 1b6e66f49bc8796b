-- Walks over rows, over all coordinates, and over those of a region.
use Rattle.std.proofs.Common.{◌≡◌, ℕ, zero, suc, ◌+◌, ◌-◌, ◌*◌, ◌<◌, ◌≤◌, refl, ap, sym, ◌∙◌, arith, Bool, true, false, ◌&&◌, cond, List, [], ◌∷◌, ◌++◌, map, filter, find, Option, Some, None, is_some, pos, inl, inr, append_assoc}
use Rattle.std.specs.Prelude.{IsFalse, ◌⊎◌}
use Rattle.std.specs.Option.{option_or}
use Rattle.std.proofs.Math.Arith.{digits_lt}
use Rattle.std.proofs.Math.Nat.{mul-le-mul}
use Rattle.std.proofs.lemmas.Bool.{cases_lt}
use Rattle.std.proofs.lemmas.Bool.Decides.{nat_tests}
use Rattle.std.proofs.lemmas.Int.{ints}
use Rattle.std.proofs.lemmas.List.Elements.{filter-append}
use Rattle.std.proofs.lemmas.List.Folds.{find-append}
use Rattle.vox_geom.specs.declared.coordinate.Coord.{Coord}
use Rattle.vox_geom.specs.Point.{point}
use Rattle.vox_geom.specs.Region.{Corners, IsOrdered, extent, is_between, is_within, size, span}
use Rattle.vox_geom.specs.Space.{IsInSpace, coordinate_at, coordinates, numbers_from, place}
use Rattle.vox_geom.proofs.Places.{coordinate_at-place, place-coordinate_at}
use Rattle.vox_geom.proofs.Firsts.{place_below}
use Rattle.vox_geom.proofs.Truths.{and_by_second, false_by, no_second, parts_of_three}
use Rattle.vox_geom.proofs.Points.{between_ends}
use Rattle.vox_planes.specs.Walk.{at, coordinates_from, passes_in, row, row_start, wall_size}

-- ---- a row

pub row-more : (c : Coord) (last : ℕ) → c.z ≤ last → row c last ≡ c ∷ row (at c (c.z + 1)) last
unfolding row
row-more c last h =
    let same_last : last + 1 - c.z ≡ suc (last + 1 - (c.z + 1)) = omega arith in
    ap (λ n. map (at c) (numbers_from c.z n)) same_last

pub row-end : (c : Coord) (last : ℕ) → last + 1 ≤ c.z → row c last ≡ []
unfolding row
row-end c last h = let last_is : last + 1 - c.z ≡ 0 = omega arith in ap (λ n. map (at c) (numbers_from c.z n)) last_is

-- ---- all coordinates

pub from-all : (r : ℕ) → coordinates_from r 0 ≡ coordinates r
unfolding coordinates_from
from-all r = let difference_is : r * r * r - 0 ≡ r * r * r = omega arith in ap (λ n. map (coordinate_at r) (numbers_from 0 n)) difference_is

pub from-more : (r p : ℕ) → p < r * r * r → coordinates_from r p ≡ coordinate_at r p ∷ coordinates_from r (p + 1)
unfolding coordinates_from
from-more r p h =
    let difference_is : r * r * r - p ≡ suc (r * r * r - (p + 1)) = omega arith in
    ap (λ n. map (coordinate_at r) (numbers_from p n)) difference_is

pub from-end : (r p : ℕ) → r * r * r ≤ p → coordinates_from r p ≡ []
unfolding coordinates_from
from-end r p h =
    let difference_is : r * r * r - p ≡ 0 = omega arith in
    ap (λ n. map (coordinate_at r) (numbers_from p n)) difference_is

-- the coordinates from one on are those of its row, and then those from the end of that row on
rows : (r n : ℕ) (c : Coord) (last : ℕ) → n ≡ last + 1 - c.z → c.z ≤ last + 1 → c.x < r → c.y < r → last < r
    → coordinates_from r (place r c) ≡ row c last ++ coordinates_from r (place r (at c (last + 1)))
rows r zero c last e l x y h =
    let same : c.z ≡ last + 1 = omega arith in
    ap (λ z. coordinates_from r (place r (at c z))) same ∙ sym (ap (λ xs. xs ++ coordinates_from r (place r (at c (last + 1)))) (row-end c last (omega arith)))
rows r (suc n) c last e l x y h =
    let within : IsInSpace r c = record { x = x; y = y; z = omega arith } in
    let next : place r c + 1 ≡ place r (at c (c.z + 1)) = omega arith in
    from-more r (place r c) (place_below r c within)
    ∙ ((λ i. coordinate_at-place r c within i ∷ coordinates_from r (next i))
    ∙ (ap (λ xs. c ∷ xs) (rows r n (at c (c.z + 1)) last (omega arith) (omega arith) x y h)
    ∙ sym (ap (λ xs. xs ++ coordinates_from r (place r (at c (last + 1)))) (row-more c last (omega arith)))))

pub from-row : (r : ℕ) (c : Coord) (last : ℕ) → IsInSpace r c → c.z ≤ last → last < r
    → coordinates_from r (place r c) ≡ row c last ++ coordinates_from r (place r (at c (last + 1)))
from-row r c last within l h = rows r (last + 1 - c.z) c last refl (omega arith) within.x within.y h

-- ---- tests in a region

from_between : (low high v : ℕ) → low ≤ high → is_between (pos low) (pos high) (pos v) ≡ true → (low ≤ v) × (v ≤ high)
from_between low high v h e = (lower low high v h e, upper low high v h e)
  where
    lower : (low high v : ℕ) → low ≤ high → is_between (pos low) (pos high) (pos v) ≡ true → low ≤ v
    lower low high v h e = grind (arith, nat_tests)

    upper : (low high v : ℕ) → low ≤ high → is_between (pos low) (pos high) (pos v) ≡ true → v ≤ high
    upper low high v h e = grind (arith, nat_tests)

-- a coordinate of the region has each component between its corners
pub record IsOf (k : Corners) (c : Coord) : Type 0 where
  pub x_low : k.low.x ≤ c.x
  pub x_high : c.x ≤ k.high.x
  pub y_low : k.low.y ≤ c.y
  pub y_high : c.y ≤ k.high.y
  pub z_low : k.low.z ≤ c.z
  pub z_high : c.z ≤ k.high.z

pub is_of : (k : Corners) (c : Coord) → IsOrdered k → is_within (span k) (point c) ≡ true → IsOf k c
is_of k c o h =
    let parts = parts_of_three (is_between (pos k.low.x) (pos k.high.x) (pos c.x)) (is_between (pos k.low.y) (pos k.high.y) (pos c.y)) (is_between (pos k.low.z) (pos k.high.z) (pos c.z)) h in
    let lies_between_x = from_between k.low.x k.high.x c.x o.x parts.0 in
    let lies_between_y = from_between k.low.y k.high.y c.y o.y parts.1 in
    let lies_between_z = from_between k.low.z k.high.z c.z o.z parts.2 in
    record { x_low = lies_between_x.0; x_high = lies_between_x.1; y_low = lies_between_y.0; y_high = lies_between_y.1; z_low = lies_between_z.0; z_high = lies_between_z.1 }

pub of_is : (k : Corners) (c : Coord) → IsOf k c → is_within (span k) (point c) ≡ true
of_is k c h = λ i. between_ends k.low.x k.high.x c.x h.x_low h.x_high i && between_ends k.low.y k.high.y c.y h.y_low h.y_high i && between_ends k.low.z k.high.z c.z h.z_low h.z_high i

in_row : (k : Corners) (test : Coord → Bool) (c : Coord) → IsOf k c → passes_in k test c ≡ test c
in_row k test c h = and_by_second (test c) (is_within (span k) (point c)) (of_is k c h)

filter_row : (k : Corners) (test : Coord → Bool) (n : ℕ) (c : Coord) → n ≡ k.high.z + 1 - c.z → IsOf k (at c k.high.z)
    → k.low.z ≤ c.z → c.z ≤ k.high.z + 1 → filter (passes_in k test) (row c k.high.z) ≡ filter test (row c k.high.z)
filter_row k test zero c e h l m = ap (filter (passes_in k test)) (row-end c k.high.z (omega arith)) ∙ sym (ap (filter test) (row-end c k.high.z (omega arith)))
filter_row k test (suc n) c e h l m =
    let here : IsOf k c = record { x_low = h.x_low; x_high = h.x_high; y_low = h.y_low; y_high = h.y_high; z_low = l; z_high = omega arith } in
    let rest = row (at c (c.z + 1)) k.high.z in
    let later : filter (passes_in k test) rest ≡ filter test rest = filter_row k test n (at c (c.z + 1)) (omega arith) h (omega arith) (omega arith) in
    ap (filter (passes_in k test)) (row-more c k.high.z (omega arith))
    ∙ ((λ i. cond (in_row k test c here i) (c ∷ later i) (later i))
    ∙ sym (ap (filter test) (row-more c k.high.z (omega arith))))

find_row : (k : Corners) (test : Coord → Bool) (n : ℕ) (c : Coord) → n ≡ k.high.z + 1 - c.z → IsOf k (at c k.high.z)
    → k.low.z ≤ c.z → c.z ≤ k.high.z + 1 → find (passes_in k test) (row c k.high.z) ≡ find test (row c k.high.z)
find_row k test zero c e h l m = ap (find (passes_in k test)) (row-end c k.high.z (omega arith)) ∙ sym (ap (find test) (row-end c k.high.z (omega arith)))
find_row k test (suc n) c e h l m =
    let here : IsOf k c = record { x_low = h.x_low; x_high = h.x_high; y_low = h.y_low; y_high = h.y_high; z_low = l; z_high = omega arith } in
    let rest = row (at c (c.z + 1)) k.high.z in
    let later : find (passes_in k test) rest ≡ find test rest = find_row k test n (at c (c.z + 1)) (omega arith) h (omega arith) (omega arith) in
    ap (find (passes_in k test)) (row-more c k.high.z (omega arith))
    ∙ ((λ i. cond (in_row k test c here i) (Some c) (later i))
    ∙ sym (ap (find test) (row-more c k.high.z (omega arith))))

-- ---- past the coordinates that are not of the region

-- a walk is at the same point after a coordinate that is not of the region
pub record IsWalk {A : Type 0} (r : ℕ) (k : Corners) (walk : ℕ → A) : Type 0 where
  pub passes : (p : ℕ) → (p < r * r * r → IsFalse (is_within (span k) (point (coordinate_at r p))))
      → walk p ≡ walk (p + 1)

gap : {A : Type 0} (r : ℕ) (k : Corners) (walk : ℕ → A) → IsWalk r k walk → (n p : ℕ)
    → ((q : ℕ) → p ≤ q → q < p + n → IsFalse (is_within (span k) (point (coordinate_at r q)))) → walk p ≡ walk (p + n)
gap r k walk w zero p none = ap walk (omega arith)
gap r k walk w (suc n) p none =
    let sum_is : p + 1 + n ≡ p + suc n = omega arith in
    w.passes p (λ l. none p (omega arith) (omega arith)) ∙ (gap r k walk w n (p + 1) (λ q i j. none q (omega arith) (omega arith)) ∙ ap walk sum_is)

-- from one place to a later one, with no coordinate of the region between them
over : {A : Type 0} (r : ℕ) (k : Corners) (walk : ℕ → A) → IsWalk r k walk → IsOrdered k → (p q : ℕ) → p ≤ q
    → ((c : Coord) → IsOf k c → p ≤ place r c → place r c < q → ⊥) → walk p ≡ walk q
over r k walk w o p q l none =
    let sum_is : p + (q - p) ≡ q = omega arith in
    gap r k walk w (q - p) p (λ t i j. false_by (is_within (span k) (point (coordinate_at r t))) (λ h.
    let place_is : place r (coordinate_at r t) ≡ t = place-coordinate_at r t in
    none (coordinate_at r t) (is_of k (coordinate_at r t) o h) (omega (arith, place_is)) (omega (arith, place_is))))
    ∙ ap walk sum_is

≤_refl : (n : ℕ) → n ≤ n
≤_refl n = omega arith

less : (a b m : ℕ) → a * m < b * m → a < b
less a b m lt = by (cases_lt a b)
  where
    by : ((a < b) ⊎ (b ≤ a)) → a < b
    by (inl h) = h
    by (inr h) = let at_most_a : b * m ≤ a * m = mul-le-mul h (≤_refl m) in absurd (omega arith)

pub to_start : {A : Type 0} (r : ℕ) (k : Corners) (walk : ℕ → A) → IsWalk r k walk → IsOrdered k
    → walk 0 ≡ walk (place r k.low)
to_start r k walk w o = over r k walk w o 0 (place r k.low) (omega arith) none
  where
    none : (c : Coord) → IsOf k c → 0 ≤ place r c → place r c < place r k.low → ⊥
    none c h i j =
        let at_most_x : k.low.x * (r * r) ≤ c.x * (r * r) = mul-le-mul h.x_low (≤_refl (r * r)) in
        let at_most_y : k.low.y * r ≤ c.y * r = mul-le-mul h.y_low (≤_refl r) in
        omega (arith, h.z_low)

pub next_row : {A : Type 0} (r : ℕ) (k : Corners) (walk : ℕ → A) → IsWalk r k walk → IsOrdered k → IsInSpace r k.high
    → (x y : ℕ) → walk (place r (at (row_start k x y) (k.high.z + 1))) ≡ walk (place r (row_start k x (y + 1)))
next_row r k walk w o s x y = over r k walk w o (place r (at (row_start k x y) (k.high.z + 1))) (place r (row_start k x (y + 1))) (omega (arith, s.z)) none
  where
    none : (c : Coord) → IsOf k c → place r (at (row_start k x y) (k.high.z + 1)) ≤ place r c
        → place r c < place r (row_start k x (y + 1)) → ⊥
    none c h i j =
        let low : x * r + y < c.x * r + c.y = less (x * r + y) (c.x * r + c.y) r (omega (arith, h.z_high)) in
        let high : c.x * r + c.y < x * r + y + 1 = less (c.x * r + c.y) (x * r + y + 1) r (omega (arith, h.z_low)) in
        omega arith

pub next_wall : {A : Type 0} (r : ℕ) (k : Corners) (walk : ℕ → A) → IsWalk r k walk → IsOrdered k → IsInSpace r k.high
    → (x : ℕ) → walk (place r (row_start k x (k.high.y + 1))) ≡ walk (place r (row_start k (x + 1) k.low.y))
next_wall r k walk w o s x = over r k walk w o (place r (row_start k x (k.high.y + 1))) (place r (row_start k (x + 1) k.low.y)) ordered none
  where
    ordered : place r (row_start k x (k.high.y + 1)) ≤ place r (row_start k (x + 1) k.low.y)
    ordered = let at_most_r : (k.high.y + 1) * r ≤ r * r = mul-le-mul (let along_y = s.y in omega arith) (≤_refl r) in omega arith

    none : (c : Coord) → IsOf k c → place r (row_start k x (k.high.y + 1)) ≤ place r c
        → place r c < place r (row_start k (x + 1) k.low.y) → ⊥
    none c h i j =
        let above : x * r + k.high.y + 1 < c.x * r + c.y + 1 = less (x * r + k.high.y + 1) (c.x * r + c.y + 1) r (omega (arith, h.z_high, s.z)) in
        let low : x < c.x = less x c.x r (omega (arith, h.y_high)) in
        let below : c.x * r + c.y < (x + 1) * r + k.low.y = less (c.x * r + c.y) ((x + 1) * r + k.low.y) r (omega (arith, h.z_low)) in
        let high : c.x < x + 1 = less c.x (x + 1) r (omega (arith, h.y_low)) in
        omega arith

pub to_end : {A : Type 0} (r : ℕ) (k : Corners) (walk : ℕ → A) → IsWalk r k walk → IsOrdered k → IsInSpace r k.high
    → walk (place r (row_start k (k.high.x + 1) k.low.y))
    ≡ walk (place r (row_start k (k.high.x + 1) k.low.y) + r * r * r)
to_end r k walk w o s = over r k walk w o (place r (row_start k (k.high.x + 1) k.low.y)) (place r (row_start k (k.high.x + 1) k.low.y) + r * r * r) (omega arith) none
  where
    none : (c : Coord) → IsOf k c → place r (row_start k (k.high.x + 1) k.low.y) ≤ place r c
        → place r c < place r (row_start k (k.high.x + 1) k.low.y) + r * r * r → ⊥
    none c h i j =
        let small : c.y * r + c.z < r * r = digits_lt (let along_y = s.y in let y_high = h.y_high in omega arith) (let along_z = s.z in let z_high = h.z_high in omega arith) in
        let at_most_x : c.x * (r * r) ≤ k.high.x * (r * r) = mul-le-mul h.x_high (≤_refl (r * r)) in
        omega arith

-- ---- coordinates that are found and listed from a place on

found_walks : (r : ℕ) (k : Corners) (test : Coord → Bool)
    → IsWalk r k (λ p. find (passes_in k test) (coordinates_from r p))
found_walks r k test = record { passes = λ p h. by p h (cases_lt p (r * r * r)) }
  where
    by : (p : ℕ) → (p < r * r * r → IsFalse (is_within (span k) (point (coordinate_at r p))))
        → ((p < r * r * r) ⊎ (r * r * r ≤ p))
        → find (passes_in k test) (coordinates_from r p) ≡ find (passes_in k test) (coordinates_from r (p + 1))
    by p h (inl l) =
        ap (find (passes_in k test)) (from-more r p l)
        ∙ ap (λ b. cond b (Some (coordinate_at r p)) (find (passes_in k test) (coordinates_from r (p + 1)))) (no_second (test (coordinate_at r p)) (is_within (span k) (point (coordinate_at r p))) (h l))
    by p h (inr l) = ap (find (passes_in k test)) (from-end r p l ∙ sym (from-end r (p + 1) (omega arith)))

listed_walks : (r : ℕ) (k : Corners) (test : Coord → Bool)
    → IsWalk r k (λ p. filter (passes_in k test) (coordinates_from r p))
listed_walks r k test = record { passes = λ p h. by p h (cases_lt p (r * r * r)) }
  where
    by : (p : ℕ) → (p < r * r * r → IsFalse (is_within (span k) (point (coordinate_at r p))))
        → ((p < r * r * r) ⊎ (r * r * r ≤ p))
        → filter (passes_in k test) (coordinates_from r p) ≡ filter (passes_in k test) (coordinates_from r (p + 1))
    by p h (inl l) =
        ap (filter (passes_in k test)) (from-more r p l)
        ∙ ap (λ b. cond b (coordinate_at r p ∷ filter (passes_in k test) (coordinates_from r (p + 1))) (filter (passes_in k test) (coordinates_from r (p + 1)))) (no_second (test (coordinate_at r p)) (is_within (span k) (point (coordinate_at r p))) (h l))
    by p h (inr l) = ap (filter (passes_in k test)) (from-end r p l ∙ sym (from-end r (p + 1) (omega arith)))

-- the search for the first coordinate of the region that passes
module _ (r : ℕ) (k : Corners) (test : Coord → Bool) (o : IsOrdered k) (s : IsInSpace r k.high) where
  pub find-start : find (passes_in k test) (coordinates r)
      ≡ find (passes_in k test) (coordinates_from r (place r (row_start k k.low.x k.low.y)))
  find-start = ap (find (passes_in k test)) (sym (from-all r)) ∙ to_start r k (λ p. find (passes_in k test) (coordinates_from r p)) (found_walks r k test) o

  pub find-step : (x y : ℕ) → k.low.x ≤ x → x ≤ k.high.x → k.low.y ≤ y → y ≤ k.high.y
      → option_or (find test (row (row_start k x y) k.high.z))
      (find (passes_in k test) (coordinates_from r (place r (row_start k x (y + 1)))))
      ≡ find (passes_in k test) (coordinates_from r (place r (row_start k x y)))
  find-step x y xl xh yl yh =
      let place_there : Coord = row_start k x y in
      let within : IsInSpace r place_there = record { x = omega (arith, s.x); y = omega (arith, s.y); z = omega (arith, s.z, o.z) } in
      let last : IsOf k (at place_there k.high.z) = record { x_low = xl; x_high = xh; y_low = yl; y_high = yh; z_low = o.z; z_high = omega arith } in
      let split = ap (find (passes_in k test)) (from-row r place_there k.high.z within o.z s.z) ∙ find-append (passes_in k test) (row place_there k.high.z) (coordinates_from r (place r (at place_there (k.high.z + 1)))) in
      sym (split ∙ (λ i. option_or (find_row k test (k.high.z + 1 - k.low.z) place_there refl last (omega arith) (omega (arith, o.z)) i) (next_row r k (λ p. find (passes_in k test) (coordinates_from r p)) (found_walks r k test) o s x y i)))

  pub find-next_wall : (x : ℕ) → find (passes_in k test) (coordinates_from r (place r (row_start k x (k.high.y + 1))))
      ≡ find (passes_in k test) (coordinates_from r (place r (row_start k (x + 1) k.low.y)))
  find-next_wall x = next_wall r k (λ p. find (passes_in k test) (coordinates_from r p)) (found_walks r k test) o s x

  pub find-end : find (passes_in k test) (coordinates_from r (place r (row_start k (k.high.x + 1) k.low.y))) ≡ None
  find-end =
      to_end r k (λ p. find (passes_in k test) (coordinates_from r p)) (found_walks r k test) o s
      ∙ ap (find (passes_in k test)) (from-end r (place r (row_start k (k.high.x + 1) k.low.y) + r * r * r) (omega arith))

  -- the list of the coordinates of the region that pass
  pub filter-start : filter (passes_in k test) (coordinates r)
      ≡ filter (passes_in k test) (coordinates_from r (place r (row_start k k.low.x k.low.y)))
  filter-start = ap (filter (passes_in k test)) (sym (from-all r)) ∙ to_start r k (λ p. filter (passes_in k test) (coordinates_from r p)) (listed_walks r k test) o

  pub filter-step : (x y : ℕ) → k.low.x ≤ x → x ≤ k.high.x → k.low.y ≤ y → y ≤ k.high.y
      → filter test (row (row_start k x y) k.high.z)
      ++ filter (passes_in k test) (coordinates_from r (place r (row_start k x (y + 1))))
      ≡ filter (passes_in k test) (coordinates_from r (place r (row_start k x y)))
  filter-step x y xl xh yl yh =
      let place_there : Coord = row_start k x y in
      let within : IsInSpace r place_there = record { x = omega (arith, s.x); y = omega (arith, s.y); z = omega (arith, s.z, o.z) } in
      let last : IsOf k (at place_there k.high.z) = record { x_low = xl; x_high = xh; y_low = yl; y_high = yh; z_low = o.z; z_high = omega arith } in
      let split = ap (filter (passes_in k test)) (from-row r place_there k.high.z within o.z s.z) ∙ filter-append (passes_in k test) (row place_there k.high.z) (coordinates_from r (place r (at place_there (k.high.z + 1)))) in
      sym (split ∙ (λ i. filter_row k test (k.high.z + 1 - k.low.z) place_there refl last (omega arith) (omega (arith, o.z)) i ++ next_row r k (λ p. filter (passes_in k test) (coordinates_from r p)) (listed_walks r k test) o s x y i))

  pub filter-next_wall : (x : ℕ)
      → filter (passes_in k test) (coordinates_from r (place r (row_start k x (k.high.y + 1))))
      ≡ filter (passes_in k test) (coordinates_from r (place r (row_start k (x + 1) k.low.y)))
  filter-next_wall x = next_wall r k (λ p. filter (passes_in k test) (coordinates_from r p)) (listed_walks r k test) o s x

  pub filter-end : filter (passes_in k test) (coordinates_from r (place r (row_start k (k.high.x + 1) k.low.y))) ≡ []
  filter-end =
      to_end r k (λ p. filter (passes_in k test) (coordinates_from r p)) (listed_walks r k test) o s
      ∙ ap (filter (passes_in k test)) (from-end r (place r (row_start k (k.high.x + 1) k.low.y) + r * r * r) (omega arith))

-- ---- the rest of a region

-- one row or wall less is left after each
pub left-more : (high y n : ℕ) → y ≤ high → (high + 1 - y) * n ≡ n + (high + 1 - (y + 1)) * n
left-more high y n h = let same_high : high + 1 - y ≡ suc (high + 1 - (y + 1)) = omega arith in ap (λ v. v * n) same_high ∙ omega arith

-- a region has as many walls as its extent on the axis x
pub size-walls : (k : Corners) → IsOrdered k → size (span k) ≡ (k.high.x + 1 - k.low.x) * wall_size k
size-walls k o =
    (λ i. extent_is k.low.x k.high.x o.x i * extent_is k.low.y k.high.y o.y i * extent_is k.low.z k.high.z o.z i) ∙ omega arith
  where
    extent_is : (low high : ℕ) → low ≤ high → extent (pos low) (pos high) ≡ high + 1 - low
    extent_is low high h = omega (arith, ints)

-- ---- the coordinate that was found, otherwise the next search

pub some_or : {A : Type 0} (o p q : Option A) → is_some o ≡ true → option_or o p ≡ option_or o q
some_or (Some a) p q e = refl
some_or None p q e = cc

pub none_or : {A : Type 0} (o p : Option A) → is_some o ≡ false → option_or o p ≡ p
none_or (Some a) p e = cc
none_or None p e = refl

-- ---- lists that grow

pub pushed : (xs ys us vs : List Coord) (c : Coord) → ys ≡ xs ++ c ∷ [] → us ≡ c ∷ vs → ys ++ vs ≡ xs ++ us
pushed xs ys us vs c e f = ap (λ zs. zs ++ vs) e ∙ (append_assoc xs (c ∷ []) vs ∙ ap (λ zs. xs ++ zs) (sym f))

pub appended : (xs ys us vs ws : List Coord) → ys ≡ xs ++ us → us ++ vs ≡ ws → ys ++ vs ≡ xs ++ ws
appended xs ys us vs ws e f = ap (λ zs. zs ++ vs) e ∙ (append_assoc xs us vs ∙ ap (λ zs. xs ++ zs) f)

-- Adjacent coordinates: one component differs, by one.
use Rattle.std.proofs.Common.{◌≡◌, ℕ, ◌+◌, ◌-◌, ◌<◌, ◌≤◌, refl, sym, ◌∙◌, arith, ◌==◌, pos, ◌-ℤ◌, inl, inr}
use Rattle.std.specs.Prelude.{IsTrue, ◌⊎◌, unsigned_abs}
use Rattle.std.proofs.lemmas.Bool.{cases_lt}
use Rattle.std.proofs.lemmas.Bool.Decides.{nat_tests}
use Rattle.std.proofs.lemmas.Int.{ints}
use Rattle.vox_geom.specs.declared.coordinate.Coord.{Coord}
use Rattle.vox_geom.specs.Point.{are_adjacent}

gap : (a b : ℕ) → unsigned_abs (pos a -ℤ pos b) ≡ (a - b) + (b - a)
gap a b = omega (arith, ints)

pub is_one : (n : ℕ) → IsTrue (n == 1) → n ≡ 1
is_one n h = grind (arith, nat_tests)

pub one_is : (n : ℕ) → n ≡ 1 → IsTrue (n == 1)
one_is n h = rw h refl

gaps : (a b : Coord) → IsTrue (are_adjacent a b)
    → ((a.x - b.x) + (b.x - a.x)) + ((a.y - b.y) + (b.y - a.y)) + ((a.z - b.z) + (b.z - a.z)) ≡ 1
gaps a b h =
    sym (λ i. gap a.x b.x i + gap a.y b.y i + gap a.z b.z i)
    ∙ is_one (unsigned_abs (pos a.x -ℤ pos b.x) + unsigned_abs (pos a.y -ℤ pos b.y) + unsigned_abs (pos a.z -ℤ pos b.z)) h

-- coordinates that lie one apart on one axis are adjacent
pub adjacent_by : (a b : Coord)
    → ((a.x - b.x) + (b.x - a.x)) + ((a.y - b.y) + (b.y - a.y)) + ((a.z - b.z) + (b.z - a.z)) ≡ 1
    → IsTrue (are_adjacent a b)
adjacent_by a b e =
    one_is (unsigned_abs (pos a.x -ℤ pos b.x) + unsigned_abs (pos a.y -ℤ pos b.y) + unsigned_abs (pos a.z -ℤ pos b.z))
    ((λ i. gap a.x b.x i + gap a.y b.y i + gap a.z b.z i) ∙ e)

pub adjacent-sym : (a b : Coord) → IsTrue (are_adjacent a b) → IsTrue (are_adjacent b a)
adjacent-sym a b h = let gaps_here = gaps a b h in adjacent_by b a (omega arith)

-- the side on which an adjacent coordinate lies
pub data Side (a b : Coord) : Type 0 where
  right : b.x ≡ a.x + 1 → b.y ≡ a.y → b.z ≡ a.z → Side a b
  above : b.x ≡ a.x → b.y ≡ a.y + 1 → b.z ≡ a.z → Side a b
  ahead : b.x ≡ a.x → b.y ≡ a.y → b.z ≡ a.z + 1 → Side a b
  left : a.x ≡ b.x + 1 → b.y ≡ a.y → b.z ≡ a.z → Side a b
  below : b.x ≡ a.x → a.y ≡ b.y + 1 → b.z ≡ a.z → Side a b
  behind : b.x ≡ a.x → b.y ≡ a.y → a.z ≡ b.z + 1 → Side a b

pub side_of : (a b : Coord) → IsTrue (are_adjacent a b) → Side a b
side_of a b h = by (gaps a b h) (cases_lt a.x b.x) (cases_lt b.x a.x) (cases_lt a.y b.y) (cases_lt b.y a.y) (cases_lt a.z b.z)
  where
    by : ((a.x - b.x) + (b.x - a.x)) + ((a.y - b.y) + (b.y - a.y)) + ((a.z - b.z) + (b.z - a.z)) ≡ 1
        → ((a.x < b.x) ⊎ (b.x ≤ a.x)) → ((b.x < a.x) ⊎ (a.x ≤ b.x)) → ((a.y < b.y) ⊎ (b.y ≤ a.y))
        → ((b.y < a.y) ⊎ (a.y ≤ b.y)) → ((a.z < b.z) ⊎ (b.z ≤ a.z)) → Side a b
    by g (inl l) h i j k = right (omega arith) (omega arith) (omega arith)
    by g (inr l) (inl m) i j k = left (omega arith) (omega arith) (omega arith)
    by g (inr l) (inr m) (inl n) j k = above (omega arith) (omega arith) (omega arith)
    by g (inr l) (inr m) (inr n) (inl o) k = below (omega arith) (omega arith) (omega arith)
    by g (inr l) (inr m) (inr n) (inr o) (inl p) = ahead (omega arith) (omega arith) (omega arith)
    by g (inr l) (inr m) (inr n) (inr o) (inr p) = behind (omega arith) (omega arith) (omega arith)

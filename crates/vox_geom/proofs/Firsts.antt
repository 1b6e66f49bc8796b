-- The first of all coordinates that passes a test is the least one, and places rise as coordinates do.
use Rattle.std.proofs.Common.{◌≡◌, ℕ, zero, suc, ◌+◌, ◌*◌, ◌/◌, ◌<◌, ◌≤◌, refl, ap, sym, ◌∙◌, subst, arith, Bool, true, false, cond, map, find, Option, Some, None}
use Rattle.std.specs.Prelude.{IsTrue, IsFalse}
use Rattle.std.proofs.Math.Nat.{div-lt_iff_lt-mul, mod-lt}
use Rattle.std.proofs.Math.Arith.{digits_lt}
use native.Mathlib.Decide.{ℕ_discrete}
use Rattle.std.proofs.lemmas.Bool.Decides.{nat_tests}
use Rattle.vox_geom.specs.declared.coordinate.Coord.{Coord}
use Rattle.vox_geom.specs.Space.{IsInSpace, is_before, place, coordinate_at, coordinates, numbers_from}
use Rattle.vox_geom.proofs.Places.{coordinate_at-place, place-coordinate_at}
use Rattle.vox_geom.specs.Least.{LeastOf}
use Rattle.vox_geom.proofs.Truths.{false_by, true_and_false}

-- the first number that passes
found : (test : Coord → Bool) (f : ℕ → Coord) (n a p : ℕ) → a ≤ p → p < a + n → IsTrue (test (f p))
    → ((q : ℕ) → a ≤ q → q < p → IsFalse (test (f q))) → find test (map f (numbers_from a n)) ≡ Some (f p)
found test f zero a p h k t none = absurd (omega arith)
found test f (suc n) a p h k t none = by (ℕ_discrete a p) (λ (l : a + 1 ≤ p). found test f n (a + 1) p l (omega arith) t (λ q i j. none q (omega arith) j))
  where
    by : Dec (a ≡ p) → (a + 1 ≤ p → find test (map f (numbers_from (a + 1) n)) ≡ Some (f p))
        → find test (map f (numbers_from a (suc n))) ≡ Some (f p)
    by (yes e) later = ap (λ b. cond b (Some (f a)) (find test (map f (numbers_from (a + 1) n)))) (ap (λ q. test (f q)) e ∙ t) ∙ ap (λ q. Some (f q)) e
    by (no ne) later =
        ap (λ b. cond b (Some (f a)) (find test (map f (numbers_from (a + 1) n)))) (none a (omega arith) (omega arith))
        ∙ later (omega arith)

nowhere : (test : Coord → Bool) (f : ℕ → Coord) (n a : ℕ) → ((q : ℕ) → a ≤ q → q < a + n → IsFalse (test (f q)))
    → find test (map f (numbers_from a n)) ≡ None
nowhere test f zero a none = refl
nowhere test f (suc n) a none = ap (λ b. cond b (Some (f a)) (find test (map f (numbers_from (a + 1) n)))) (none a (omega arith) (omega arith)) ∙ nowhere test f n (a + 1) (λ q h k. none q (omega arith) (omega arith))

-- the order of places
lead : (a b m u v : ℕ) → v < m → a * m + u < b * m + v → a ≤ b
lead a b m u v k lt = let digits_lt_here : b < a → b * m + v < a * m = λ h. digits_lt h k in grind arith

in_order : (d c : Coord) → d.x ≤ c.x → (d.x ≡ c.x → d.y ≤ c.y) → (d.x ≡ c.x → d.y ≡ c.y → d.z < c.z)
    → IsTrue (is_before d c)
in_order d c x y z = grind (arith, nat_tests)

pub before : (r : ℕ) (d c : Coord) → IsInSpace r d → IsInSpace r c → place r d < place r c → IsTrue (is_before d c)
before r d c h k lt =
    let at_most_x : d.x ≤ c.x = lead d.x c.x (r * r) (d.y * r + d.z) (c.y * r + c.z) (digits_lt k.y k.z) (omega arith) in
    let y_at_most : d.x ≡ c.x → d.y ≤ c.y = λ e. lead d.y c.y r d.z c.z k.z (omega (arith, ap (λ v. v * r * r) e)) in
    let z_below : d.x ≡ c.x → d.y ≡ c.y → d.z < c.z = λ e f. omega (arith, ap (λ v. v * r * r) e, ap (λ v. v * r) f) in
    in_order d c at_most_x y_at_most z_below

pub before-trans : (a b c : Coord) → IsTrue (is_before a b) → IsTrue (is_before b c) → IsTrue (is_before a c)
before-trans a b c h k = grind (arith, nat_tests)

pub place_below : (r : ℕ) (c : Coord) → IsInSpace r c → place r c < r * r * r
place_below r c h =
    let front : c.x * r + c.y < r * r = digits_lt h.x h.y in
    let all : (c.x * r + c.y) * r + c.z < r * r * r = digits_lt front h.z in
    omega arith

-- each place below r * r * r is that of a coordinate in space
pub at_in_space : (r p : ℕ) → p < r * r * r → IsInSpace r (coordinate_at r p)
at_in_space zero p h = absurd (omega arith)
at_in_space (suc r) p h = record {
  x = smaller r p h;
  y = mod-lt (p / suc r) (omega arith);
  z = mod-lt p (omega arith);
}
  where
    smaller : (r p : ℕ) → p < suc r * suc r * suc r → p / (suc r * suc r) < suc r
    smaller r p h = (div-lt_iff_lt-mul {k = suc r * suc r} (omega arith)).1 (omega arith)

-- a coordinate with the properties of the least is found
pub first_is : (r : ℕ) (test : Coord → Bool) (o : Option Coord) → LeastOf r test o → find test (coordinates r) ≡ o
first_is r test (Some c) h =
    let same : coordinate_at r (place r c) ≡ c = coordinate_at-place r c h.within in
    let below : place r c < r * r * r = place_below r c h.within in
    found test (coordinate_at r) (r * r * r) 0 (place r c) (omega arith) (omega arith) (subst (λ (d : Coord). IsTrue (test d)) (sym same) h.passes) (none below)
    ∙ ap Some same
  where
    none : place r c < r * r * r → (q : ℕ) → 0 ≤ q → q < place r c → IsFalse (test (coordinate_at r q))
    none below q i j =
        let place_there : Coord = coordinate_at r q in
        let in_space : IsInSpace r place_there = at_in_space r q (omega arith) in
        let lt : place r place_there < place r c = subst (λ (n : ℕ). n < place r c) (sym (place-coordinate_at r q)) j in
        by (test place_there) refl (before r place_there c in_space h.within lt) (h.least place_there in_space)
      where
        by : (b : Bool) → test (coordinate_at r q) ≡ b → IsTrue (is_before (coordinate_at r q) c)
            → (IsTrue (test (coordinate_at r q)) → IsFalse (is_before (coordinate_at r q) c))
            → IsFalse (test (coordinate_at r q))
        by true e t f = absurd (true_and_false (is_before (coordinate_at r q) c) t (f e))
        by false e t f = e
first_is r test None h = nowhere test (coordinate_at r) (r * r * r) 0 (λ q i j. h (coordinate_at r q) (at_in_space r q (omega arith)))

-- the coordinate that is found has the properties of the least
record Hit (test : Coord → Bool) (f : ℕ → Coord) (a n : ℕ) (c : Coord) : Type 0 where
  at : ℕ
  from : a ≤ at
  below : at < a + n
  is : c ≡ f at
  passes : IsTrue (test c)
  none : (q : ℕ) → a ≤ q → q < at → IsFalse (test (f q))

abbrev HitOf : (Coord → Bool) → (ℕ → Coord) → ℕ → ℕ → Option Coord → Type 0
HitOf test f a n (Some c) = Hit test f a n c
HitOf test f a n None = (q : ℕ) → a ≤ q → q < a + n → IsFalse (test (f q))

hit_of : (test : Coord → Bool) (f : ℕ → Coord) (n a : ℕ) → HitOf test f a n (find test (map f (numbers_from a n)))
hit_of test f zero a = λ q h k. absurd (omega arith)
hit_of test f (suc n) a = by (test (f a)) refl (find test (map f (numbers_from (a + 1) n))) (hit_of test f n (a + 1))
  where
    by : (b : Bool) → test (f a) ≡ b → (o : Option Coord) → HitOf test f (a + 1) n o
        → HitOf test f a (suc n) (cond b (Some (f a)) o)
    by true e o h = record { at = a; from = omega arith; below = omega arith; is = refl; passes = e; none = λ q i j. absurd (omega arith) }
    by false e (Some c) h = record { at = h.at; from = omega (arith, h.from); below = omega (arith, h.below); is = h.is; passes = h.passes; none = λ q i j. here q i j (ℕ_discrete a q) }
      where
        here : (q : ℕ) → a ≤ q → q < h.at → Dec (a ≡ q) → IsFalse (test (f q))
        here q i j (yes s) = subst (λ (v : ℕ). IsFalse (test (f v))) s e
        here q i j (no ne) = h.none q (omega arith) j
    by false e None h = λ q i j. here q i j (ℕ_discrete a q)
      where
        here : (q : ℕ) → a ≤ q → q < a + suc n → Dec (a ≡ q) → IsFalse (test (f q))
        here q i j (yes s) = subst (λ (v : ℕ). IsFalse (test (f v))) s e
        here q i j (no ne) = h q (omega arith) (omega arith)

by_order : (d c : Coord) (m n : ℕ) → (d.x < c.x → m < n) → (d.x ≡ c.x → d.y < c.y → m < n)
    → (d.x ≡ c.x → d.y ≡ c.y → d.z < c.z → m < n) → IsTrue (is_before d c) → m < n
by_order d c m n x y z h = grind (arith, nat_tests)

pub rises : (r : ℕ) (d c : Coord) → IsInSpace r d → IsInSpace r c → IsTrue (is_before d c) → place r d < place r c
rises r d c h k lt =
    by_order d c (place r d) (place r c)
    (λ e. let below_x : d.x * (r * r) + (d.y * r + d.z) < c.x * (r * r) = digits_lt e (digits_lt h.y h.z) in omega arith)
    (λ e l. let below_y : d.y * r + d.z < c.y * r = digits_lt l h.z in omega (arith, ap (λ v. v * r * r) e))
    (λ e f l. omega (arith, ap (λ v. v * r * r) e, ap (λ v. v * r) f))
    lt

pub first_of : (r : ℕ) (test : Coord → Bool) → LeastOf r test (find test (coordinates r))
first_of r test = by (find test (coordinates r)) (hit_of test (coordinate_at r) (r * r * r) 0)
  where
    by : (o : Option Coord) → HitOf test (coordinate_at r) 0 (r * r * r) o → LeastOf r test o
    by None h = λ d i. subst (λ (e : Coord). IsFalse (test e)) (coordinate_at-place r d i) (let below_r : place r d < r * r * r = place_below r d i in h (place r d) (omega arith) (omega arith))
    by (Some c) h =
        let within : IsInSpace r c = subst (λ (e : Coord). IsInSpace r e) (sym h.is) (at_in_space r h.at (omega (arith, h.below))) in
        record {
          within = within;
          passes = h.passes;
          least = λ d i t. false_by (is_before d c) (λ e.
              let lt : place r d < place r c = rises r d c i within e in
              let at : place r c ≡ h.at = ap (place r) h.is ∙ place-coordinate_at r h.at in
              let none : IsFalse (test (coordinate_at r (place r d))) = h.none (place r d) (omega arith) (omega arith) in
              true_and_false (test d) t (subst (λ (e : Coord). IsFalse (test e)) (coordinate_at-place r d i) none));
        }

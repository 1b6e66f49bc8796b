-- A test that passes at one coordinate alone.
use Rattle.std.proofs.Common.{◌≡◌, ℕ, zero, suc, ◌+◌, ◌*◌, ◌<◌, ◌≤◌, refl, sym, ◌∙◌, ap, arith, inl, inr, [], ◌∷◌, Bool, false, cond, map}
use Rattle.std.specs.Prelude.{filter}
use Rattle.std.proofs.lemmas.Bool.{cases_eq}
use Rattle.vox_geom.specs.declared.coordinate.Coord.{Coord}
use Rattle.vox_geom.specs.Space.{IsInSpace, coordinate_at, coordinates, numbers_from, place}
use Rattle.vox_geom.proofs.Places.{coordinate_at-place, place-coordinate_at}
use Rattle.vox_geom.proofs.Firsts.{place_below}

none_passes : (test : Coord → Bool) (f : ℕ → Coord) (n a : ℕ) → ((j : ℕ) → a ≤ j → test (f j) ≡ false)
    → filter test (map f (numbers_from a n)) ≡ []
none_passes test f zero a h = refl
none_passes test f (suc n) a h = let not_test : test (f a) ≡ false = h a (omega arith) in rw not_test (none_passes test f n (a + 1) (λ j l. h j (omega arith)))

only_at : (test : Coord → Bool) (f : ℕ → Coord) (n a k : ℕ) → a ≤ k → k < a + n
    → ((j : ℕ) → (j ≡ k → ⊥) → test (f j) ≡ false)
    → filter test (map f (numbers_from a n)) ≡ cond (test (f k)) (f k ∷ []) []
only_at test f zero a k l m h = absurd (omega arith)
only_at test f (suc n) a k l m h = elim (cases_eq a k) [
  | inl e ↦
      let rest : filter test (map f (numbers_from (a + 1) n)) ≡ [] = none_passes test f n (a + 1) (λ j g. h j (λ i. omega arith)) in
      ap (λ xs. cond (test (f a)) (f a ∷ xs) xs) rest ∙ ap (λ i. cond (test (f i)) (f i ∷ []) []) e
  | inr ne ↦ let not_test : test (f a) ≡ false = h a ne in rw not_test (only_at test f n (a + 1) k (omega arith) (omega arith) h)
]

-- a test that passes at one coordinate alone
pub only_one : (r : ℕ) (test : Coord → Bool) (c : Coord) → IsInSpace r c → ((d : Coord) → (d ≡ c → ⊥) → test d ≡ false)
    → filter test (coordinates r) ≡ cond (test c) (c ∷ []) []
only_one r test c s h =
    let coordinate_is : coordinate_at r (place r c) ≡ c = coordinate_at-place r c s in
    let below_r : place r c < r * r * r = place_below r c s in
    only_at test (coordinate_at r) (r * r * r) 0 (place r c) (omega arith) (omega arith) (λ j ne. h (coordinate_at r j) (λ g. ne (sym (place-coordinate_at r j) ∙ ap (place r) g)))
    ∙ ap (λ d. cond (test d) (d ∷ []) []) coordinate_is

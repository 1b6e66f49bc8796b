-- Lists whose elements differ.
use Rattle.std.proofs.Common.{◌≡◌, ◌≢◌, ℕ, zero, suc, ◌+◌, ◌*◌, ◌≤◌, refl, sym, ◌∙◌, ap, subst, inl, inr, ◌⊎◌, arith, List, [], ◌∷◌, ◌++◌, Bool, true, false, cond, map}
use Rattle.std.specs.Prelude.{filter, flat_map}
use Rattle.std.specs.List.{AllPairs, Contains}
use Rattle.vox_geom.specs.declared.coordinate.Coord.{Coord}
use Rattle.vox_geom.specs.Space.{coordinate_at, coordinates, numbers_from, place}
use Rattle.vox_geom.proofs.Places.{place-coordinate_at}
use Rattle.step_order.proofs.Lists.{In, filter_in, flat_in, in_either, in_place, place_in}

-- no element repeats
abbrev pub Apart : {X : Type 0} → List X → Type 0
Apart [] = Unit {0}
Apart (x ∷ xs) = (In x xs → ⊥) × Apart xs

pub pairs_of : {X : Type 0} (xs : List X) → Apart xs → AllPairs ◌≢◌ xs
pairs_of [] h i j d l k e = omega arith
pairs_of (x ∷ xs) h zero zero d l k e = omega arith
pairs_of {X} (x ∷ xs) h zero (suc j) d l k e = h.0 (subst (λ (y : X). In y xs) (sym e) (place_in d xs j (omega arith)))
pairs_of (x ∷ xs) h (suc i) zero d l k e = omega arith
pairs_of (x ∷ xs) h (suc i) (suc j) d l k e = pairs_of xs h.1 i j d (omega arith) (omega arith) e

pub holds : {X : Type 0} (x : X) (xs : List X) → In x xs → Contains xs x
holds x xs h = let place_found = in_place x x xs h in (place_found.0, place_found.1, place_found.2)

pub apart_filter : {X : Type 0} (p : X → Bool) (xs : List X) → Apart xs → Apart (filter p xs)
apart_filter p [] h = tt
apart_filter {X} p (x ∷ xs) h = by (p x) (apart_filter p xs h.1)
  where
    by : (b : Bool) → Apart (filter p xs) → Apart (cond b (x ∷ filter p xs) (filter p xs))
    by true r = ((λ i. h.0 (filter_in p x xs i).0), r)
    by false r = r

pub apart_append : {X : Type 0} (xs ys : List X) → Apart xs → Apart ys → ((x : X) → In x xs → In x ys → ⊥)
    → Apart (xs ++ ys)
apart_append [] ys h k d = k
apart_append {X} (x ∷ xs) ys h k d = ((λ i. by (in_either x xs ys i)), apart_append xs ys h.1 k (λ y i j. d y (inr i) j))
  where
    by : In x xs ⊎ In x ys → ⊥
    by (inl i) = h.0 i
    by (inr j) = d x (inl refl) j

pub apart_flat : {X Y : Type 0} (f : X → List Y) (xs : List X) → Apart xs → ((x : X) → In x xs → Apart (f x))
    → ((x z : X) (y : Y) → In x xs → In z xs → In y (f x) → In y (f z) → (x ≡ z → ⊥) → ⊥) → Apart (flat_map f xs)
apart_flat f [] h a d = tt
apart_flat {X} {Y} f (x ∷ xs) h a d = apart_append (f x) (flat_map f xs) (a x (inl refl)) (apart_flat f xs h.1 (λ z i. a z (inr i)) (λ z w y i j k l n. d z w y (inr i) (inr j) k l n)) apart
  where
    apart : (y : Y) → In y (f x) → In y (flat_map f xs) → ⊥
    apart y i j = let origin = flat_in f y xs j in d x origin.0 y (inl refl) (inr origin.1) i origin.2 (λ (e : x ≡ origin.0). h.0 (subst (λ (z : X). In z xs) (sym e) origin.1))

-- ---- all coordinates differ

from_here : (r n a : ℕ) (c : Coord) → In c (map (coordinate_at r) (numbers_from a n)) → a ≤ place r c
from_here r zero a c h = absurd h
from_here r (suc n) a c (inl e) = let place_is = ap (place r) e ∙ place-coordinate_at r a in omega arith
from_here r (suc n) a c (inr h) = let at_most_place : a + 1 ≤ place r c = from_here r n (a + 1) c h in omega arith

apart_from : (r n a : ℕ) → Apart (map (coordinate_at r) (numbers_from a n))
apart_from r zero a = tt
apart_from r (suc n) a = ((λ i. let at_most_place : a + 1 ≤ place r (coordinate_at r a) = from_here r n (a + 1) (coordinate_at r a) i in let same_place = place-coordinate_at r a in omega arith), apart_from r n (a + 1))

pub apart_coordinates : (r : ℕ) → Apart (coordinates r)
apart_coordinates r = apart_from r (r * r * r) 0

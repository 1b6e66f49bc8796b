-- The empty model has no full voxel, so that each is grounded.
use Rattle.std.proofs.Common.{◌≡◌, ℕ, zero, suc, refl, sym, subst, List, [], ◌∷◌, Bool, true, false, ◌&&◌, get_or, map}
use Rattle.std.specs.Prelude.{None, IsTrue}
use Rattle.vox_geom.specs.declared.coordinate.Coord.{Coord}
use Rattle.vox_geom.specs.Space.{coordinates, place}
use Rattle.nano_spec.specs.First.{FirstFailing}
use Rattle.nano_spec.specs.Grounded.{FirstUngrounded, Grounded}
use Rattle.nano_spec.specs.Matrix.{Matrix, empty, is_full}

pub none_there : (xs : List Coord) (k : ℕ) → get_or (map (λ _. false) xs) k false ≡ false
none_there [] k = refl
none_there (x ∷ xs) zero = refl
none_there (x ∷ xs) (suc k) = none_there xs k

pub not_full : (r : ℕ) (c : Coord) → is_full (empty r) c ≡ true → ⊥
not_full r c e = by _ _ (none_there (coordinates r) (place r c)) e
  where
    by : (a b : Bool) → b ≡ false → (a && b) ≡ true → ⊥
    by true true f g = cc
    by true false f g = cc
    by false b f g = cc

pub all_hold : (P : Coord → Type 0) (xs : List Coord) → ((c : Coord) → P c) → FirstFailing P xs None
all_hold P [] h = tt
all_hold P (x ∷ xs) h = (h x, all_hold P xs h)

pub empty_is_grounded : (m : Matrix) (r : ℕ) → m ≡ empty r → FirstUngrounded m None
empty_is_grounded m r e =
    subst (λ (n : Matrix). FirstUngrounded n None) (sym e)
    (all_hold (λ c. IsTrue (is_full (empty r) c) → Grounded (empty r) c) (coordinates r) (λ c f. absurd (not_full r c f)))

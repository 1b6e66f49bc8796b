-- The opening of a legal model is well-formed, and that of a whole model is ready.
use Rattle.std.proofs.Common.{◌≡◌, ℕ, zero, suc, ◌+◌, ◌<◌, ◌≤◌, refl, ◌∙◌, length, arith, Bool, true, false, ◌&&◌, not, List, [], ◌∷◌, get_or}
use Rattle.std.specs.Prelude.{IsTrue, IsFalse, Some, None, find}
use Rattle.std.specs.List.{list_all}
use Rattle.vox_geom.specs.Space.{IsInSpace, numbers_from}
use Rattle.nano_spec.specs.declared.system.Bot.{Bot}
use Rattle.nano_spec.specs.declared.system.Profile.{Profile}
use Rattle.nano_spec.specs.Grounded.{FirstUngrounded}
use Rattle.nano_spec.specs.Legal.{IsLegal, first_outside, in_legal_box, leaves_box, floats_inside, stands_inside}
use Rattle.nano_spec.specs.Matrix.{Matrix, is_full, all_of}
use Rattle.nano_spec.specs.Model.{volume}
use Rattle.nano_spec.specs.State.{IsReady, IsWellFormed, opening, origin, first_bot, is_seed}
use Rattle.nano_spec.proofs.Coordinates.{at_full}
use Rattle.nano_spec.proofs.Seeds.{none_below, numbers_rise, seed_is}

none_found : {A : Type 0} (test : A → Bool) (xs : List A) → find test xs ≡ None
    → IsTrue (list_all (λ x. not (test x)) xs)
none_found test [] e = refl
none_found test (x ∷ xs) e = by (test x) refl (none_found test xs)
  where
    by : (b : Bool) → test x ≡ b → (find test xs ≡ None → IsTrue (list_all (λ y. not (test y)) xs))
        → IsTrue (not (test x) && list_all (λ y. not (test y)) xs)
    by true f later = absurd (not_none (rw f at e))
      where
        not_none : Some x ≡ None → ⊥
        not_none g = cc
    by false f later = rw f (later (rw f at e))

-- a legal model has no voxel outside the legal box, and is grounded
pub legal_is : (m : Matrix) → IsLegal m → (first_outside m ≡ None) × FirstUngrounded m None
legal_is m (leaves_box c e f) = cc
legal_is m (floats_inside c e u f) = cc
legal_is m (stands_inside e u f) = (e, u)

at_origin : (m : Matrix) (b : Bool) → is_full m origin ≡ b → first_outside m ≡ None → IsFalse (is_full m origin)
at_origin m false e f = e
at_origin m true e f = absurd (contrary (rw e at (at_full (λ c. not (is_full m c && not (in_legal_box m.resolution c))) m origin e (none_found (λ c. is_full m c && not (in_legal_box m.resolution c)) (all_of m) f))))
  where
    contrary : IsTrue (not (true && not (in_legal_box m.resolution origin))) → ⊥
    contrary h = cc

-- the origin of a legal model is void
pub origin_void : (m : Matrix) → IsLegal m → IsFalse (is_full m origin)
origin_void m h = at_origin m (is_full m origin) refl (legal_is m h).0

-- a fact about a bot is one about all bots if it is the only one
pub alone : (b : Bot) (P : Bot → Type 0) → P b → (k : ℕ) (d : Bot) → k < 1 → P (get_or (b ∷ []) k d)
alone b P h zero d l = h
alone b P h (suc k) d l = absurd (omega arith)

-- the seeds of the first bot begin with 2, so its own bid is none of them
pub first_bid : (profile : Profile) → IsFalse (is_seed (first_bot profile).seeds 1)
first_bid profile =
    let same_seeds : profile.seeds + 2 ≡ suc (suc profile.seeds) = omega arith in
    let rising = numbers_rise 2 profile.seeds in
    let two : 1 < 2 = omega arith in
    rw same_seeds (seed_is 2 (numbers_from 2 profile.seeds) rising 1 ∙ none_below 2 (numbers_from 2 profile.seeds) rising 1 two)

-- the opening of a legal model is well-formed
pub well_formed_opening : (m : Matrix) (profile : Profile) → IsLegal m → IsWellFormed (opening m profile)
well_formed_opening m profile h = record {
  grounded = λ _. (legal_is m h).1;
  bids = λ i j d k l. absurd (omega arith);
  positions = λ i j d k l. absurd (omega arith);
  void = alone (first_bot profile) (λ b. IsFalse (is_full m b.pos)) (origin_void m h);
  seeds = λ i j d k l. absurd (omega arith);
  unborn = alone (first_bot profile) (λ a. (k : ℕ) (d : Bot) → k < 1 → IsFalse (is_seed a.seeds (get_or (first_bot profile ∷ []) k d).bid)) (alone (first_bot profile) (λ b. IsFalse (is_seed (first_bot profile).seeds b.bid)) (first_bid profile));
}

-- the opening of a model with a voxel for each coordinate is ready
pub ready_opening : (m : Matrix) (profile : Profile) → 1 ≤ m.resolution → length m.voxels ≡ volume m.resolution
    → IsReady (opening m profile)
ready_opening m profile some whole = record {
  whole = whole;
  within = alone (first_bot profile) (λ b. IsInSpace m.resolution b.pos) (record { x = omega arith; y = omega arith; z = omega arith });
  rising = λ i j d k l. absurd (omega arith);
  positions = λ i j d k l. absurd (omega arith);
  seeds = λ i j d k l. absurd (omega arith);
  unborn = alone (first_bot profile) (λ a. (k : ℕ) (d : Bot) → k < 1 → IsFalse (is_seed a.seeds (get_or (first_bot profile ∷ []) k d).bid)) (alone (first_bot profile) (λ b. IsFalse (is_seed (first_bot profile).seeds b.bid)) (first_bid profile));
}

-- The bytes of far differences.
use Rattle.std.proofs.Common.{◌≡◌, ◌≢◌, ℕ, ◌<◌, ◌≤◌, sym, arith, List, [], ◌∷◌, ◌++◌, length, pos}
use Rattle.std.specs.Prelude.{IsTrue, ◌&&◌, All, nat_le, unsigned_abs, ◌-ℤ◌}
use Rattle.std.specs.List.{AllByRecursion}
use Rattle.std.proofs.lemmas.Int.{ints}
use Rattle.std.proofs.lemmas.Bool.Decides.{nat_tests}
use Rattle.std.proofs.lemmas.List.Elements.{All-from_recursion, recursion_from_All}
use Rattle.vox_geom.specs.declared.difference.Diff.{Diff}
use Rattle.vox_geom.specs.Difference.{IsFar, clen}
use Rattle.nano_spec.specs.Spelling.{far_bytes, raised}
use Rattle.nano_spec.proofs.Codes.{far_of, far_bounds, raised_small}

lowered_raised : (x : ℕ) → raised (pos x -ℤ pos 30) 30 ≡ x
lowered_raised x = omega (arith, ints)

lowered_small : (x : ℕ) → x ≤ 60 → unsigned_abs (pos x -ℤ pos 30) ≤ 30
lowered_small x l = omega (arith, ints)

is_far_at : (x y : ℕ) → x ≤ 60 → y ≤ 60 → IsFar (far_of x y 31)
is_far_at x y l m = by_clen (clen (far_of x y 31)) (omega (arith, ints, lowered_small x l, lowered_small y m)) (omega (arith, ints, lowered_small x l, lowered_small y m))
  where
    by_clen : (n : ℕ) → 1 ≤ n → n ≤ 30 → IsTrue (nat_le 1 n && nat_le n 30)
    by_clen n p q = grind (arith, nat_tests)

far_bytes-far_of : (x y z : ℕ) → far_bytes (far_of x y z) ≡ x ∷ y ∷ z ∷ []
far_bytes-far_of x y z = λ i. lowered_raised x i ∷ lowered_raised y i ∷ lowered_raised z i ∷ []

-- up to two bytes of at most 60 begin the bytes of a far difference
begins_far_by : (bytes : List ℕ) → length bytes < 3 → AllByRecursion (λ b. b ≤ 60) bytes
    → (f : Diff) × (more : List ℕ) × IsFar f × (more ≢ []) × (bytes ++ more ≡ far_bytes f)
begins_far_by [] l h = (far_of 31 31 31, 31 ∷ 31 ∷ 31 ∷ [], is_far_at 31 31 (omega arith) (omega arith), λ e. cc, sym (far_bytes-far_of 31 31 31))
begins_far_by (x ∷ []) l h = (far_of x 31 31, 31 ∷ 31 ∷ [], is_far_at x 31 h.0 (omega arith), λ e. cc, sym (far_bytes-far_of x 31 31))
begins_far_by (x ∷ y ∷ []) l h = (far_of x y 31, 31 ∷ [], is_far_at x y h.0 h.1.0, λ e. cc, sym (far_bytes-far_of x y 31))
begins_far_by (x ∷ y ∷ z ∷ more) l h = absurd (omega arith)

pub begins_far : (bytes : List ℕ) → length bytes < 3 → All (λ b. b ≤ 60) bytes
    → (f : Diff) × (more : List ℕ) × IsFar f × (more ≢ []) × (bytes ++ more ≡ far_bytes f)
begins_far bytes l h = begins_far_by bytes l (recursion_from_All (λ b. b ≤ 60) bytes h)

far_small : (d : Diff) → IsFar d → (raised d.dx 30 ≤ 60) × (raised d.dy 30 ≤ 60) × (raised d.dz 30 ≤ 60)
far_small d h = let bounds = far_bounds d h in (raised_small d.dx 30 bounds.0, raised_small d.dy 30 bounds.1, raised_small d.dz 30 bounds.2)

below : (x a : ℕ) (xs ys : List ℕ) → x ∷ xs ≡ a ∷ ys → a ≤ 60 → x ≤ 60
below x a xs ys e l = let x_is : x ≡ a = cc in omega arith

pub tail_is : (x a : ℕ) (xs ys : List ℕ) → x ∷ xs ≡ a ∷ ys → xs ≡ ys
tail_is x a xs ys e = cc

-- bytes that agree with those of a far difference are at most 60
are_small_by : (bytes more rest : List ℕ) (f : Diff) → length bytes < 3 → IsFar f → bytes ++ more ≡ far_bytes f ++ rest
    → AllByRecursion (λ b. b ≤ 60) bytes
are_small_by [] more rest f l h e = tt
are_small_by (x ∷ []) more rest f l h e = (below x _ _ _ e (far_small f h).0, tt)
are_small_by (x ∷ y ∷ []) more rest f l h e = (below x _ _ _ e (far_small f h).0, (below y _ _ _ (tail_is x _ _ _ e) (far_small f h).1, tt))
are_small_by (x ∷ y ∷ z ∷ bytes) more rest f l h e = absurd (omega arith)

pub are_small : (bytes more rest : List ℕ) (f : Diff) → length bytes < 3 → IsFar f → bytes ++ more ≡ far_bytes f ++ rest
    → All (λ b. b ≤ 60) bytes
are_small bytes more rest f l h e = All-from_recursion (λ b. b ≤ 60) bytes (are_small_by bytes more rest f l h e)

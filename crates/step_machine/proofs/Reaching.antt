-- Each voxel has a level or none: the set of voxels on paths of at most n voxels grows with n, until it stays.
use Rattle.std.proofs.Common.{◌≡◌, ℕ, zero, suc, ◌+◌, ◌≤◌, ◌<◌, ◌⊎◌, inl, inr, refl, ap, sym, ◌∙◌, arith, Bool, true, false, ◌&&◌, ◌||◌, not, List, [], ◌∷◌, length}
use Rattle.std.specs.Prelude.{IsTrue, Option, Some, None, count_by, ◌==◌}
use Rattle.std.specs.List.{list_any}
use Rattle.std.proofs.lemmas.Bool.{cases_lt}
use Rattle.std.proofs.lemmas.List.Sums.{count_by-le-length}
use Rattle.vox_geom.specs.declared.coordinate.Coord.{Coord}
use Rattle.vox_geom.specs.Point.{are_adjacent, point, same_point}
use Rattle.vox_geom.specs.Space.{in_space}
use Rattle.vox_geom.proofs.Truths.{first_of_two, not_is_true, one_of_two, or_by_first, or_by_second, second_of_two}
use Rattle.vox_geom.proofs.Points.{coordinate_by_test, space_by_test}
use Rattle.nano_spec.specs.First.{FirstFailing}
use Rattle.nano_spec.specs.Grounded.{FirstUngrounded, Grounded, is_path, is_path_from}
use Rattle.nano_spec.specs.Level.{Level}
use Rattle.nano_spec.specs.Matrix.{Matrix, all_of, is_full}
use Rattle.nano_spec.specs.Work.{LevelsOf}
use Rattle.step_order.proofs.Lists.{In, any_in, any_none, both, in_any, not_both, true_or_false}
use Rattle.step_order.proofs.Voxels.{coordinates_within, in_coordinates}
use Rattle.support_forest.proofs.Counts.{count_more}
use Rattle.support_forest.proofs.Levels.{same_point_itself}

-- ---- the voxels supported by a path of at most n + 1 voxels

abbrev reached : Matrix → ℕ → Coord → Bool
reached m zero c = is_full m c && c.y == 0
reached m (suc n) c = reached m n c || (is_full m c && list_any (λ d. are_adjacent c d && reached m n d) (all_of m))

-- whether a neighbor supports the voxel
abbrev holds : Matrix → ℕ → Coord → Coord → Bool
holds m n c d = are_adjacent c d && reached m n d

abbrev is_held : Matrix → ℕ → Coord → Bool
is_held m n c = is_full m c && list_any (holds m n c) (all_of m)

full_reached : (m : Matrix) (n : ℕ) (c : Coord) → reached m n c ≡ true → is_full m c ≡ true
full_reached m zero c h = first_of_two (is_full m c) (c.y == 0) h
full_reached m (suc n) c h = by (one_of_two (reached m n c) (is_held m n c) h) (full_reached m n c)
  where
    by : (reached m n c ≡ true) ⊎ (is_held m n c ≡ true) → (reached m n c ≡ true → is_full m c ≡ true)
        → is_full m c ≡ true
    by (inl e) before = before e
    by (inr e) before = first_of_two (is_full m c) (list_any (holds m n c) (all_of m)) e

listed : (m : Matrix) (c : Coord) → is_full m c ≡ true → In c (all_of m)
listed m c h = in_coordinates m.resolution c (space_by_test m.resolution c (first_of_two (in_space m.resolution (point c)) _ h))

held : (m : Matrix) (n : ℕ) (c d : Coord) → is_full m c ≡ true → are_adjacent c d ≡ true → reached m n d ≡ true
    → reached m (suc n) c ≡ true
held m n c d f a h = or_by_second (reached m n c) (is_held m n c) (both f (in_any (holds m n c) d (all_of m) (listed m d (full_reached m n d h)) (both a h)))

-- ---- paths

abbrev PathOf : Matrix → Coord → ℕ → Type 0
PathOf m c n = (more : List Coord) × IsTrue (is_path m (c ∷ more)) × (length more ≤ n)

path_of : (m : Matrix) (n : ℕ) (c : Coord) → reached m n c ≡ true → PathOf m c n
path_of m zero c h = ([], h, omega arith)
path_of m (suc n) c h = by (one_of_two (reached m n c) (is_held m n c) h) (path_of m n)
  where
    by : (reached m n c ≡ true) ⊎ (is_held m n c ≡ true) → ((d : Coord) → reached m n d ≡ true → PathOf m d n)
        → PathOf m c (suc n)
    by (inl e) before = let before_here = before c e in (before_here.0, before_here.1, (let l = before_here.2 in omega arith))
    by (inr e) before =
        let witness = any_in (holds m n c) (all_of m) (second_of_two (is_full m c) (list_any (holds m n c) (all_of m)) e) in
        let before_here = before witness.0 (second_of_two (are_adjacent c witness.0) (reached m n witness.0) witness.2) in
        let full : is_full m c ≡ true = first_of_two (is_full m c) (list_any (holds m n c) (all_of m)) e in
        let near : are_adjacent c witness.0 ≡ true = first_of_two (are_adjacent c witness.0) (reached m n witness.0) witness.2 in
        (witness.0 ∷ before_here.0, both (both full near) before_here.1, (let l = before_here.2 in omega arith))

reached_by : (m : Matrix) (n : ℕ) (a : Coord) (path : List Coord) → IsTrue (is_path m (a ∷ path)) → length path ≤ n
    → reached m n a ≡ true
reached_by m zero a [] p l = p
reached_by m zero a (b ∷ path) p l = absurd (omega arith)
reached_by m (suc n) a [] p l = or_by_first (reached m n a) (is_held m n a) (reached_by m n a [] p (omega arith))
reached_by m (suc n) a (b ∷ path) p l =
    let step : (is_full m a && are_adjacent a b) ≡ true = first_of_two (is_full m a && are_adjacent a b) (is_path m (b ∷ path)) p in
    held m n a b (first_of_two (is_full m a) (are_adjacent a b) step) (second_of_two (is_full m a) (are_adjacent a b) step)
    (reached_by m n b path (second_of_two (is_full m a && are_adjacent a b) (is_path m (b ∷ path)) p) (omega arith))

-- no path of at most n + 1 voxels leads from a voxel that they do not support
too_short : (m : Matrix) (n : ℕ) (a : Coord) (path : List Coord) → reached m n a ≡ false → IsTrue (is_path m (a ∷ path))
    → n < length path
too_short m n a path f p = elim (cases_lt n (length path)) [ inl l ↦ l | inr l ↦ absurd (not_both (reached_by m n a path p l) f) ]

begins : (c a : Coord) (path : List Coord) (m : Matrix) → IsTrue (is_path_from m c (a ∷ path)) → c ≡ a
begins c a path m p = coordinate_by_test c a (first_of_two (same_point (point c) (point a)) (is_path m (a ∷ path)) p)

longer : (m : Matrix) (n : ℕ) (c : Coord) → reached m n c ≡ false → (path : List Coord) → IsTrue (is_path_from m c path)
    → suc n < length path
longer m n c f [] p = cc
longer m n c f (a ∷ path) p =
    let below_length : n < length path = too_short m n a path (ap (reached m n) (sym (begins c a path m p)) ∙ f) (second_of_two (same_point (point c) (point a)) (is_path m (a ∷ path)) p) in
    omega arith

-- ---- the level is the least such number

from_itself : (m : Matrix) (c : Coord) (more : List Coord) → IsTrue (is_path m (c ∷ more))
    → IsTrue (is_path_from m c (c ∷ more))
from_itself m c more p = both (same_point_itself c) p

level_least : (m : Matrix) (n : ℕ) (c : Coord) → reached m (suc n) c ≡ true → reached m n c ≡ false
    → Level m c (Some (suc n))
level_least m n c h f =
    let path = path_of m (suc n) c h in
    let least : n < length path.0 = too_short m n c path.0 f path.1 in
    let most : length path.0 ≤ suc n = path.2 in
    ((c ∷ path.0, from_itself m c path.0 path.1, omega arith), longer m n c f)

level_some : (m : Matrix) (n : ℕ) (c : Coord) → reached m n c ≡ true → (level : ℕ) × Level m c (Some level)
level_some m zero c h = (0, ((c ∷ [], from_itself m c [] h, refl), some))
  where
    some : (path : List Coord) → IsTrue (is_path_from m c path) → 0 < length path
    some [] p = cc
    some (a ∷ path) p = omega arith
level_some m (suc n) c h = by (true_or_false (reached m n c)) (level_some m n c)
  where
    by : (reached m n c ≡ true) ⊎ (reached m n c ≡ false)
        → (reached m n c ≡ true → (level : ℕ) × Level m c (Some level)) → (level : ℕ) × Level m c (Some level)
    by (inl e) before = before e
    by (inr e) before = (suc n, level_least m n c h e)

-- ---- a number from which on no more voxels are supported

abbrev Stays : Matrix → ℕ → Type 0
Stays m n = (c : Coord) → reached m (suc n) c ≡ true → reached m n c ≡ true

reached_all : (m : Matrix) (n : ℕ) → Stays m n → (a : Coord) (path : List Coord) → IsTrue (is_path m (a ∷ path))
    → reached m n a ≡ true
reached_all m n stays a [] p = reached_by m n a [] p (omega arith)
reached_all m n stays a (b ∷ path) p =
    let step : (is_full m a && are_adjacent a b) ≡ true = first_of_two (is_full m a && are_adjacent a b) (is_path m (b ∷ path)) p in
    stays a (held m n a b (first_of_two (is_full m a) (are_adjacent a b) step) (second_of_two (is_full m a) (are_adjacent a b) step)
    (reached_all m n stays b path (second_of_two (is_full m a && are_adjacent a b) (is_path m (b ∷ path)) p)))

no_level : (m : Matrix) (n : ℕ) (c : Coord) → Stays m n → reached m n c ≡ false → Grounded m c → ⊥
no_level m n c stays f ([], p) = cc
no_level m n c stays f (a ∷ path, p) = not_both (ap (reached m n) (begins c a path m p) ∙ reached_all m n stays a path (second_of_two (same_point (point c) (point a)) (is_path m (a ∷ path)) p)) f

-- whether a path with one more voxel supports it
abbrev is_new : Matrix → ℕ → Coord → Bool
is_new m n c = reached m (suc n) c && not (reached m n c)

stays_from : (m : Matrix) (n : ℕ) → list_any (is_new m n) (all_of m) ≡ false → Stays m n
stays_from m n e c h = by (true_or_false (reached m n c))
  where
    by : (reached m n c ≡ true) ⊎ (reached m n c ≡ false) → reached m n c ≡ true
    by (inl f) = f
    by (inr f) = absurd (not_both (both h (ap not f)) (any_none (is_new m n) c (all_of m) e (listed m c (full_reached m (suc n) c h))))

more_reached : (m : Matrix) (n : ℕ) → list_any (is_new m n) (all_of m) ≡ true
    → count_by (reached m n) (all_of m) + 1 ≤ count_by (reached m (suc n)) (all_of m)
more_reached m n e =
    let witness = any_in (is_new m n) (all_of m) e in
    count_more m.resolution (reached m n) (reached m (suc n)) (λ c h. or_by_first (reached m n c) (is_held m n c) h) witness.0 (coordinates_within m.resolution witness.0 witness.1)
    (not_is_true (reached m n witness.0) (second_of_two (reached m (suc n) witness.0) (not (reached m n witness.0)) witness.2)) (first_of_two (reached m (suc n) witness.0) (not (reached m n witness.0)) witness.2)

settles : (m : Matrix) (rounds n : ℕ) → length (all_of m) ≤ count_by (reached m n) (all_of m) + rounds
    → (k : ℕ) × Stays m k
settles m zero n l = by (true_or_false (list_any (is_new m n) (all_of m)))
  where
    by : (list_any (is_new m n) (all_of m) ≡ true) ⊎ (list_any (is_new m n) (all_of m) ≡ false) → (k : ℕ) × Stays m k
    by (inl e) =
        let more = more_reached m n e in
        let most = count_by-le-length (reached m (suc n)) (all_of m) in
        absurd (omega (arith, more, most, l))
    by (inr e) = (n, stays_from m n e)
settles m (suc rounds) n l = by (true_or_false (list_any (is_new m n) (all_of m))) (settles m rounds (suc n))
  where
    by : (list_any (is_new m n) (all_of m) ≡ true) ⊎ (list_any (is_new m n) (all_of m) ≡ false)
        → (length (all_of m) ≤ count_by (reached m (suc n)) (all_of m) + rounds → (k : ℕ) × Stays m k)
        → (k : ℕ) × Stays m k
    by (inl e) later = later (let more = more_reached m n e in omega (arith, more, l))
    by (inr e) later = (n, stays_from m n e)

-- ---- levels

pub level_of : (m : Matrix) (c : Coord) → (level : Option ℕ) × Level m c level
level_of m c = let settles_here = settles m (length (all_of m)) 0 (omega arith) in by settles_here.0 settles_here.1 (true_or_false (reached m settles_here.0 c))
  where
    by : (n : ℕ) → Stays m n → (reached m n c ≡ true) ⊎ (reached m n c ≡ false) → (level : Option ℕ) × Level m c level
    by n stays (inl e) = let has_level = level_some m n c e in (Some has_level.0, has_level.1)
    by n stays (inr e) = (None, no_level m n c stays e)

pub levels_of : (m : Matrix) (cs : List Coord) → (levels : List (Option ℕ)) × LevelsOf m cs levels
levels_of m [] = ([], tt)
levels_of m (c ∷ cs) = let the_level = level_of m c in let more = levels_of m cs in (the_level.0 ∷ more.0, (the_level.1, more.1))

-- ---- ungrounded voxels

grounded_or_not : (m : Matrix) (c : Coord) (level : Option ℕ) → Level m c level → Grounded m c ⊎ (Grounded m c → ⊥)
grounded_or_not m c None h = inr h
grounded_or_not m c (Some n) h = inl (h.0.0, h.0.1)

abbrev pub IsHeldUp : Matrix → Coord → Type 0
IsHeldUp m c = IsTrue (is_full m c) → Grounded m c

pub held_or_not : (m : Matrix) (c : Coord) → IsHeldUp m c ⊎ (IsHeldUp m c → ⊥)
held_or_not m c = let the_level = level_of m c in by (true_or_false (is_full m c)) (grounded_or_not m c the_level.0 the_level.1)
  where
    by : (is_full m c ≡ true) ⊎ (is_full m c ≡ false) → Grounded m c ⊎ (Grounded m c → ⊥)
        → IsHeldUp m c ⊎ (IsHeldUp m c → ⊥)
    by (inl e) (inl g) = inl (λ f. g)
    by (inl e) (inr n) = inr (λ h. n (h e))
    by (inr e) g = inl (λ f. absurd (not_both f e))

first_failing : (m : Matrix) (cs : List Coord) → (at : Option Coord) × FirstFailing (IsHeldUp m) cs at
first_failing m [] = (None, tt)
first_failing m (c ∷ cs) = by (held_or_not m c) (first_failing m cs)
  where
    by : IsHeldUp m c ⊎ (IsHeldUp m c → ⊥) → (at : Option Coord) × FirstFailing (IsHeldUp m) cs at
        → (at : Option Coord) × FirstFailing (IsHeldUp m) (c ∷ cs) at
    by (inl h) (None, f) = (None, (h, f))
    by (inl h) (Some at, f) = (Some at, inr (h, f))
    by (inr n) later = (Some c, inl (n, refl))

pub first_ungrounded : (m : Matrix) → (at : Option Coord) × FirstUngrounded m at
first_ungrounded m = first_failing m (all_of m)

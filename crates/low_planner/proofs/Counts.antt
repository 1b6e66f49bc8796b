-- The number of full voxels, and the remaining work of a sweep.
use Rattle.std.proofs.Common.{◌≡◌, ℕ, zero, suc, ◌+◌, ◌*◌, ◌<◌, ◌≤◌, inl, inr, refl, sym, ◌∙◌, ap, arith, Bool, cond, List, [], ◌∷◌, ◌++◌, length, map}
use Rattle.std.specs.Prelude.{count_by, Some}
use Rattle.std.proofs.lemmas.List.{length-append}
use Rattle.std.proofs.lemmas.List.Sums.{sum_by-cons}
use Rattle.std.proofs.lemmas.Bool.{cases_eq}
use Rattle.vox_geom.specs.declared.coordinate.Coord.{Coord}
use Rattle.vox_geom.specs.Space.{place, coordinate_at, coordinates, numbers_from}
use Rattle.vox_geom.proofs.Places.{coordinate_at-place, place-coordinate_at}
use Rattle.vox_geom.proofs.Firsts.{place_below}
use Rattle.nano_spec.specs.Matrix.{Matrix, is_full, full_count}
use Rattle.low_planner.specs.declared.sweep.Sweep.{Sweep}
use Rattle.low_planner.specs.declared.sweep.Visit.{Visit}
use Rattle.low_planner.specs.declared.sweep.Visit.TheVariants.{First, Onward, Back}
use Rattle.low_planner.specs.Sweep.{LosesVoxel, Visits, sweep_weight}
use Rattle.plan_tape.proofs.LegalModels.{full_within}

abbrev tally : Bool → ℕ
tally b = cond b 1 0

counted : (p : Coord → Bool) (c : Coord) (cs : List Coord) → count_by p (c ∷ cs) ≡ tally (p c) + count_by p cs
counted p c cs = sum_by-cons (λ d. cond (p d) 1 0) c cs

same_count : (p q : Coord → Bool) (f : ℕ → Coord) (n a : ℕ) → ((j : ℕ) → a ≤ j → j < a + n → p (f j) ≡ q (f j))
    → count_by p (map f (numbers_from a n)) ≡ count_by q (map f (numbers_from a n))
same_count p q f zero a h = refl
same_count p q f (suc n) a h =
    let counted_here = counted p (f a) (map f (numbers_from (a + 1) n)) in
    let counted_here_too = counted q (f a) (map f (numbers_from (a + 1) n)) in
    let same_tally : tally (p (f a)) ≡ tally (q (f a)) = ap tally (h a (omega arith) (omega arith)) in
    let count_is : count_by p (map f (numbers_from (a + 1) n)) ≡ count_by q (map f (numbers_from (a + 1) n)) = same_count p q f n (a + 1) (λ j k l. h j (omega arith) (omega arith)) in
    omega arith

-- two tests that differ at one number
change_at : (p q : Coord → Bool) (f : ℕ → Coord) (n a k : ℕ) → a ≤ k → k < a + n
    → ((j : ℕ) → (j ≡ k → ⊥) → p (f j) ≡ q (f j))
    → count_by q (map f (numbers_from a n)) + tally (p (f k)) ≡ count_by p (map f (numbers_from a n)) + tally (q (f k))
change_at p q f zero a k l m h = absurd (omega arith)
change_at p q f (suc n) a k l m h =
    let counted_here = counted p (f a) (map f (numbers_from (a + 1) n)) in
    let counted_here_too = counted q (f a) (map f (numbers_from (a + 1) n)) in
    elim (cases_eq a k) [
      | inl e ↦
          let tally_is : tally (p (f a)) ≡ tally (p (f k)) = ap (λ (i : ℕ). tally (p (f i))) e in
          let same_tally : tally (q (f a)) ≡ tally (q (f k)) = ap (λ (i : ℕ). tally (q (f i))) e in
          let count_is : count_by p (map f (numbers_from (a + 1) n)) ≡ count_by q (map f (numbers_from (a + 1) n)) = same_count p q f n (a + 1) (λ j i o. h j (λ u. omega arith)) in
          omega arith
      | inr ne ↦
          let same_tally : tally (p (f a)) ≡ tally (q (f a)) = ap tally (h a ne) in
          let more : count_by q (map f (numbers_from (a + 1) n)) + tally (p (f k)) ≡ count_by p (map f (numbers_from (a + 1) n)) + tally (q (f k)) = change_at p q f n (a + 1) k (omega arith) (omega arith) h in
          omega arith
    ]

-- a voxel that is full no longer
pub one_less : (old new : Matrix) (c : Coord) → LosesVoxel old new c → full_count new + 1 ≡ full_count old
one_less old new c h =
    let resolution = old.resolution in
    let within = full_within old c h.before in
    let at : coordinate_at resolution (place resolution c) ≡ c = coordinate_at-place resolution c within in
    let below : place resolution c < resolution * resolution * resolution = place_below resolution c within in
    let change : count_by (is_full new) (coordinates resolution) + tally (is_full old (coordinate_at resolution (place resolution c))) ≡ count_by (is_full old) (coordinates resolution) + tally (is_full new (coordinate_at resolution (place resolution c))) = change_at (is_full old) (is_full new) (coordinate_at resolution) (resolution * resolution * resolution) 0 (place resolution c) (omega arith) (omega arith) (λ j u. sym (h.others (coordinate_at resolution j) (λ v. u (sym (place-coordinate_at resolution j) ∙ ap (place resolution) v)))) in
    let one : tally (is_full old (coordinate_at resolution (place resolution c))) ≡ 1 = ap tally (ap (is_full old) at ∙ h.before) in
    let none : tally (is_full new (coordinate_at resolution (place resolution c))) ≡ 0 = ap tally (ap (is_full new) at ∙ h.after) in
    let same : count_by (is_full new) (coordinates new.resolution) ≡ count_by (is_full new) (coordinates resolution) = ap (λ n. count_by (is_full new) (coordinates n)) h.resolution in
    omega arith

-- each visit reduces the remaining work
pub visit_lessens : (m : Matrix) (old new : Sweep) (v : Visit) → Visits m old new (Some v)
    → sweep_weight new < sweep_weight old
visit_lessens m old new (First c) h =
    let less = one_less old.remaining new.remaining c h.loses in
    let short = h.short in
    let size : length new.trail.items ≡ 1 = ap length h.trail in
    omega arith
visit_lessens m old new (Onward c) h =
    let less = one_less old.remaining new.remaining c h.takes.loses in
    let size : length new.trail.items ≡ length old.trail.items + 1 = ap length h.takes.trail ∙ length-append old.trail.items (c ∷ []) in
    omega arith
visit_lessens m old new (Back c) h =
    let same : full_count new.remaining ≡ full_count old.remaining = ap full_count h.remaining in
    let size : length old.trail.items ≡ length new.trail.items + 1 = ap length h.ended ∙ (length-append (h.most ++ c ∷ []) (h.last ∷ []) ∙ ap (λ n. n + 1) (sym (ap length h.ends))) in
    omega arith

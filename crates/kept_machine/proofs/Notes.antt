-- Notes one after another, and their instants.
use Rattle.std.proofs.Common.{◌≡◌, ℕ, zero, suc, ◌-◌, ◌≤◌, refl, sym, ◌∙◌, ap, subst, arith, List, [], ◌∷◌, ◌++◌, length, take, drop}
use Rattle.std.specs.Prelude.{None, Some, slice_get}
use Rattle.std.proofs.lemmas.List.{drop_all}
use Rattle.circular_buffer.specs.Buffer.{keep_last}
use Rattle.step_machine.specs.Undoing.{MayUndo}
use Rattle.step_machine.specs.declared.undo.Undo.{Undo}
use Rattle.kept_machine.specs.Kept.{CanBeTakenBack, Instant, first_instant, instant_before, instants_of}

pub instants_many : (p : Instant) (notes : List Undo) → length (instants_of p notes) ≡ length notes
instants_many p [] = refl
instants_many p (u ∷ notes) = ap suc (instants_many p notes)

-- ---- one note more

earliest_more : (p : Instant) (notes : List Undo) (u : Undo)
    → first_instant p (notes ++ u ∷ []) ≡ first_instant (instant_before p u) notes
earliest_more p [] u = refl
earliest_more p (n ∷ notes) u = ap (λ (q : Instant). instant_before q n) (earliest_more p notes u)

pub instants_more : (p : Instant) (notes : List Undo) (u : Undo)
    → instants_of p (notes ++ u ∷ []) ≡ instants_of (instant_before p u) notes ++ instant_before p u ∷ []
instants_more p [] u = refl
instants_more p (n ∷ notes) u = λ i. instant_before (earliest_more p notes u i) n ∷ instants_more p notes u i

pub back_more : (p : Instant) (notes : List Undo) (u : Undo) → CanBeTakenBack (instant_before p u) notes
    → MayUndo p.state u → CanBeTakenBack p (notes ++ u ∷ [])
back_more p [] u h may = (may, tt)
back_more p (n ∷ notes) u h may = (subst (λ (q : Instant). MayUndo q.state n) (sym (earliest_more p notes u)) h.0, back_more p notes u h.1 may)

pub back_less : (p : Instant) (notes : List Undo) (u : Undo) → CanBeTakenBack p (notes ++ u ∷ [])
    → MayUndo p.state u × CanBeTakenBack (instant_before p u) notes
back_less p [] u h = (h.0, tt)
back_less p (n ∷ notes) u h = let back_and_less = back_less p notes u h.1 in (back_and_less.0, (subst (λ (q : Instant). MayUndo q.state n) (earliest_more p notes u) h.0, back_and_less.1))

-- ---- without the oldest

instants_drop : (p : Instant) (k : ℕ) (notes : List Undo) → instants_of p (drop k notes) ≡ drop k (instants_of p notes)
instants_drop p zero notes = refl
instants_drop p (suc k) [] = refl
instants_drop p (suc k) (n ∷ notes) = instants_drop p k notes

back_drop : (p : Instant) (k : ℕ) (notes : List Undo) → CanBeTakenBack p notes → CanBeTakenBack p (drop k notes)
back_drop p zero notes h = h
back_drop p (suc k) [] h = tt
back_drop p (suc k) (n ∷ notes) h = back_drop p k notes h.1

pub instants_last : (p : Instant) (k : ℕ) (notes : List Undo)
    → instants_of p (keep_last k notes) ≡ keep_last k (instants_of p notes)
instants_last p k notes = instants_drop p (length notes - k) notes ∙ ap (λ n. drop (n - k) (instants_of p notes)) (sym (instants_many p notes))

pub back_last : (p : Instant) (k : ℕ) (notes : List Undo) → CanBeTakenBack p notes
    → CanBeTakenBack p (keep_last k notes)
back_last p k notes h = back_drop p (length notes - k) notes h

-- ---- the last

pub last_split : {X : Type 0} (xs : List X) (x : X) → slice_get xs (length xs - 1) ≡ Some x
    → xs ≡ take (length xs - 1) xs ++ x ∷ []
last_split [] x h = cc
last_split (y ∷ []) x h = let y_is_x : y ≡ x = cc in ap (λ z. z ∷ []) y_is_x
last_split {X} (y ∷ z ∷ xs) x h =
    let less : length (y ∷ z ∷ xs) - 1 ≡ suc (length (z ∷ xs) - 1) = omega arith in
    ap (λ (ys : List X). y ∷ ys) (last_split (z ∷ xs) x (subst (λ (n : ℕ). slice_get (y ∷ z ∷ xs) n ≡ Some x) less h)) ∙ ap (λ n. take n (y ∷ z ∷ xs) ++ x ∷ []) (sym less)

-- no list without a last element has one
pub none_last : {X : Type 0} (xs : List X) → slice_get xs (length xs - 1) ≡ None → xs ≡ []
none_last [] h = refl
none_last (y ∷ []) h = cc
none_last {X} (y ∷ z ∷ xs) h =
    let less : length (y ∷ z ∷ xs) - 1 ≡ suc (length (z ∷ xs) - 1) = omega arith in
    absurd (more (none_last (z ∷ xs) (subst (λ (n : ℕ). slice_get (y ∷ z ∷ xs) n ≡ None) less h)))
  where
    more : z ∷ xs ≡ [] → ⊥
    more e = cc

-- ---- if none is kept

empty_of : {X : Type 0} (xs : List X) → length xs ≤ 0 → xs ≡ []
empty_of [] few = refl
empty_of (x ∷ xs) few = absurd (omega arith)

pub none_noted : (p : Instant) (notes : List Undo) (past : List Instant) (room : ℕ) → room ≡ 0 → length notes ≤ room
    → instants_of p notes ≡ keep_last room past
none_noted p notes past room none few =
    ap (instants_of p) (empty_of notes (omega (arith, none, few)))
    ∙ sym (ap (λ n. keep_last n past) none ∙ drop_all (length past - 0) past (omega arith))

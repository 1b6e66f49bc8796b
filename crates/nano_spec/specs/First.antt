-- The first of a list, a first before others, and lists of one element at most.
use Rattle.std.specs.Prelude.{◌≡◌, ◌⊎◌, List, [], ◌∷◌, Option, Some, None, Result, Ok, Err}

-- the first value that there is in a list of options
abbrev pub first_value : {A : Type 0} → List (Option A) → Option A
first_value [] = None
first_value (Some a ∷ more) = Some a
first_value (None ∷ more) = first_value more

-- `at` is the first element of which P fails, or `None` if P holds of each
abbrev pub FirstFailing : {A : Type 0} → (A → Type 0) → List A → Option A → Type 0
FirstFailing P [] None = Unit {0}
FirstFailing P [] (Some at) = ⊥
FirstFailing P (a ∷ more) None = P a × FirstFailing P more None
FirstFailing P (a ∷ more) (Some at) = ((P a → ⊥) × (at ≡ a)) ⊎ (P a × FirstFailing P more (Some at))

-- one more before those that were read, if they could be read
abbrev pub with_first : {A E : Type 0} → A → Result (List A) E → Result (List A) E
with_first a (Ok more) = Ok (a ∷ more)
with_first a (Err e) = Err e

-- the list has one element at most
abbrev pub HasOneAtMost : {A : Type 0} → List A → Type 0
HasOneAtMost [] = Unit {0}
HasOneAtMost (a ∷ []) = Unit {0}
HasOneAtMost (a ∷ b ∷ more) = ⊥

-- The group index of each bot: the index of the first bot of its group (docs/FORMATS.md, "Groups").
use Rattle.std.specs.Prelude.{◌≡◌, ℕ, ◌==◌, cond, List, [], ◌∷◌, map}
use Rattle.std.specs.List.{position_or_len}
use Rattle.nano_spec.specs.Act.{Act}
use Rattle.nano_spec.specs.Group.{are_together, members}

-- the group index of an act: the index of the first act of its group
abbrev pub group_number : List Act → Act → ℕ
group_number all a = position_or_len (are_together a) all

-- each act has its group index
abbrev pub AreNumbers : List Act → List ℕ → Type 0
AreNumbers all numbers = numbers ≡ map (group_number all) all

-- the elements with the group index
abbrev pub with_number : {A : Type 0} → ℕ → List A → List ℕ → List A
with_number number [] numbers = []
with_number number (x ∷ xs) [] = []
with_number number (x ∷ xs) (n ∷ numbers) =
    cond (n == number) (x ∷ with_number number xs numbers) (with_number number xs numbers)

-- the acts with the group index are the members of the act's group
abbrev pub TellsMembers : List Act → List ℕ → ℕ → Act → Type 0
TellsMembers all numbers number a = with_number number all numbers ≡ members all a

-- A machine's target, and the number of its differences.
use Rattle.std.specs.Prelude.{◌≡◌, ℕ, ◌+◌, not, count_by, Option, Some, None, option_map, ⊤}
use Rattle.nano_spec.specs.Matrix.{Matrix, is_full}
use Rattle.step_machine.specs.declared.undo.Undo.{Undo}
use Rattle.kept_machine.specs.declared.aim.KeptTarget.{KeptTarget}
use Rattle.kept_machine.specs.Calls.{difference_count}

-- the target, if there is one
abbrev pub target_of : Option KeptTarget → Option Matrix
target_of aim = option_map (λ a. a.target) aim

-- the target has the resolution of the matrix, and the count is theirs
abbrev pub IsTargetCounted : Matrix → Option KeptTarget → Type 0
IsTargetCounted m None = ⊤
IsTargetCounted m (Some aim) =
    (m.resolution ≡ aim.target.resolution) × (aim.differences ≡ difference_count m aim.target)

-- the number of a note's voxels that are now as in the target, and of those that are not
abbrev pub became_right : Matrix → Undo → ℕ
became_right target undo =
    count_by (is_full target) undo.filled.items + count_by (λ c. not (is_full target c)) undo.voided.items

abbrev pub became_wrong : Matrix → Undo → ℕ
became_wrong target undo =
    count_by (λ c. not (is_full target c)) undo.filled.items + count_by (is_full target) undo.voided.items

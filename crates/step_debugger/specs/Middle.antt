-- The matrix between the groups of a step (docs/FORMATS.md, "Sessions").
use Rattle.std.specs.Prelude.{◌≡◌, ℕ, Bool, true, false, not, List, Option, Some, None}
use Rattle.vox_geom.specs.declared.coordinate.Coord.{Coord}
use Rattle.nano_spec.specs.declared.commands.Command.{Command}
use Rattle.nano_spec.specs.Act.{Act, acts}
use Rattle.nano_spec.specs.Matrix.{Matrix}
use Rattle.nano_spec.specs.Serial.{acts_of}
use Rattle.nano_spec.specs.State.{State}
use Rattle.step_machine.specs.Edits.{is_edited}
use Rattle.step_order.specs.SomeGroups.{after_some}

-- the matrix after the groups of the leaders with these bids
abbrev pub matrix_after_some : State → List Command → List ℕ → Matrix
matrix_after_some s commands bids = (after_some s (acts s.bots commands) (acts_of (acts s.bots commands) bids)).matrix

-- the effect of an act on the voxel at a coordinate: full or void, or none if it neither fills nor voids it
abbrev pub IsEditOf : Act → Coord → Option Bool → Type 0
IsEditOf a c None = (is_edited true a c ≡ false) × (is_edited false a c ≡ false)
IsEditOf a c (Some full) = is_edited (not full) a c ≡ true

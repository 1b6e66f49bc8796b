-- The state after a step: all effects at once (task description, section on execution;
-- that two Flips cancel is this project's own: docs/FORMATS.md, "Commands").
use Rattle.std.specs.Prelude.{◌%◌, ◌+ℤ◌, Bool, cond, ◌&&◌, ◌||◌, not, ◌==◌, List, count_by}
use Rattle.std.specs.List.{list_any}
use Rattle.vox_geom.specs.declared.coordinate.Coord.{Coord}
use Rattle.vox_geom.specs.Point.{point}
use Rattle.vox_geom.specs.Region.{is_within}
use Rattle.nano_spec.specs.declared.commands.Command.{Command}
use Rattle.nano_spec.specs.declared.system.Harmonics.{Harmonics}
use Rattle.nano_spec.specs.declared.system.Harmonics.TheVariants.{Low, High}
use Rattle.nano_spec.specs.Act.{Act, acts, position, filled, voided, is_flip}
use Rattle.nano_spec.specs.Bots.{bots_after}
use Rattle.nano_spec.specs.Energy.{upkeep, groups_cost}
use Rattle.nano_spec.specs.Matrix.{Matrix, is_full, matrix_where}
use Rattle.nano_spec.specs.State.{State}

-- whether some bot fills the coordinate
abbrev pub is_filled : List Act → Coord → Bool
is_filled all c = list_any (λ a. list_any (λ s. is_within s (point c)) (filled (position a) a.command)) all

-- whether some bot voids the coordinate
abbrev pub is_voided : List Act → Coord → Bool
is_voided all c = list_any (λ a. list_any (λ s. is_within s (point c)) (voided (position a) a.command)) all

-- a voxel is full afterwards if it is filled, or if it was full and is not voided
abbrev pub matrix_after : Matrix → List Act → Matrix
matrix_after m all = matrix_where m.resolution (λ c. is_filled all c || (is_full m c && not (is_voided all c)))

-- the other harmonics
abbrev pub flipped : Harmonics → Harmonics
flipped Low = High
flipped High = Low

-- harmonics change if the number of Flips is odd
abbrev pub harmonics_after : Harmonics → List Act → Harmonics
harmonics_after h all = cond (count_by (λ a. is_flip a.command) all % 2 == 1) (flipped h) h

-- the state after the acts of a step
abbrev pub after_acts : State → List Act → State
after_acts s all = record {
  matrix = matrix_after s.matrix all;
  harmonics = harmonics_after s.harmonics all;
  bots = bots_after all;
  energy = (s.energy +ℤ upkeep s) +ℤ groups_cost s.matrix all;
  profile = s.profile;
}

-- the state after the commands of a step
abbrev pub after : State → List Command → State
after s commands = after_acts s (acts s.bots commands)

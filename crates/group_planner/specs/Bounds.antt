-- How many steps and bytes a group plan has at most, by the rows and runs of both models (docs/FORMATS.md, "Printed
-- lines").
use Rattle.std.specs.Prelude.{ℕ, ◌+◌, ◌*◌}
use Rattle.nano_spec.specs.Matrix.{Matrix}
use Rattle.group_planner.specs.Rows.{rows, runs}

-- the steps of a group plan between two models, at most
abbrev pub most_group_steps : Matrix → Matrix → ℕ
most_group_steps source target =
    8 * (runs source + runs target) + 160 * (rows source + rows target) + 200 * source.resolution + 400

-- the bytes of the spellings of its commands, at most
abbrev pub most_bytes : Matrix → Matrix → ℕ
most_bytes source target =
    36 * (runs source + runs target) + 640 * (rows source + rows target) + 800 * source.resolution + 1600

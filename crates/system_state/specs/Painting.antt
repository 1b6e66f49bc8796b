-- Matrices after some voxels were filled or voided.
use Rattle.std.specs.Prelude.{ℕ, Bool, cond, not, ◌&&◌, List, count_by}
use Rattle.std.specs.List.{list_any}
use Rattle.vox_geom.specs.declared.coordinate.Coord.{Coord}
use Rattle.vox_geom.specs.Point.{point, same_point}
use Rattle.vox_geom.specs.Region.{Span, is_within}
use Rattle.nano_spec.specs.declared.commands.Command.{Command}
use Rattle.nano_spec.specs.declared.system.Bot.{Bot}
use Rattle.nano_spec.specs.Matrix.{Matrix, all_of, is_full, matrix_where}
use Rattle.energy_sum.specs.Costs.{is_met, met}

-- whether the coordinate is one of the cells
abbrev pub is_cell : List Coord → Coord → Bool
is_cell cells d = list_any (λ c. same_point (point d) (point c)) cells

-- the matrix with the cells full or void, and all other voxels as they were
abbrev pub with_cells : Matrix → List Coord → Bool → Matrix
with_cells m cells full = matrix_where m.resolution (λ d. cond (is_cell cells d) full (is_full m d))

-- the matrix with the region between two points full or void
abbrev pub with_span : Matrix → Span → Bool → Matrix
with_span m s full = matrix_where m.resolution (λ d. cond (is_within s (point d)) full (is_full m d))

-- the number of void voxels of the region, and of full ones
abbrev pub void_in : Matrix → Span → ℕ
void_in m s = count_by (λ c. is_within s (point c) && not (is_full m c)) (all_of m)

abbrev pub full_in : Matrix → Span → ℕ
full_in m s = count_by (λ c. is_within s (point c) && is_full m c) (all_of m)

-- the number of coordinates of the region
abbrev pub size_in : Matrix → Span → ℕ
size_in m s = count_by (λ c. is_within s (point c)) (all_of m)

-- the number of coordinates that the command fills or voids
abbrev pub met_count : Matrix → Bot → Command → ℕ
met_count m bot command = count_by (is_met (met (point bot.pos) command)) (all_of m)

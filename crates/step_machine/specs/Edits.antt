-- The changes of the matrix by the groups of a step (docs/FORMATS.md, "Commands").
use Rattle.std.specs.Prelude.{ℕ, Bool, true, false, cond, not, ◌&&◌, List, count_by, filter, flat_map, sum_by}
use Rattle.std.specs.List.{list_any}
use Rattle.vox_geom.specs.declared.coordinate.Coord.{Coord}
use Rattle.vox_geom.specs.Point.{point}
use Rattle.vox_geom.specs.Region.{Span, is_within}
use Rattle.nano_spec.specs.declared.commands.Command.{Command}
use Rattle.nano_spec.specs.declared.commands.Command.TheVariants.{Fill, Void, GFill, GVoid}
use Rattle.nano_spec.specs.Act.{Act, acts, filled, position, voided}
use Rattle.nano_spec.specs.Group.{leaders}
use Rattle.nano_spec.specs.State.{State}
use Rattle.nano_spec.specs.Matrix.{Matrix, all_of}
use Rattle.vox_planes.specs.Voxel.{is_state}

-- whether the command fills or voids something
abbrev pub is_edit : Command → Bool
is_edit (Fill d) = true
is_edit (Void d) = true
is_edit (GFill d f) = true
is_edit (GVoid d f) = true
is_edit _ = false

-- whether the command voids something (true), or fills something (false)
abbrev pub is_change : Bool → Command → Bool
is_change full (Void d) = full
is_change full (GVoid d f) = full
is_change full (Fill d) = not full
is_change full (GFill d f) = not full
is_change full _ = false

-- the spans that an act voids (true), or fills (false)
abbrev pub edited : Bool → Act → List Span
edited full a = cond full (voided (position a) a.command) (filled (position a) a.command)

-- whether the act voids the coordinate (true), or fills it (false)
abbrev pub is_edited : Bool → Act → Coord → Bool
is_edited full a c = list_any (λ s. is_within s (point c)) (edited full a)

-- the voxels that the act changes by voiding (true), or by filling (false)
abbrev pub cells_of : Matrix → Bool → Act → List Coord
cells_of m full a = filter (λ c. is_state m full c && is_edited full a c) (all_of m)

-- the voxels that the groups of these leaders change so, leader by leader: the members of a group name the same region
abbrev pub cells_of_all : Matrix → Bool → List Act → List Coord
cells_of_all m full leaders = flat_map (cells_of m full) leaders

-- the voxels that the commands of a step change by voiding (true), or by filling (false)
abbrev pub edits_of : State → List Command → Bool → List Coord
edits_of s commands full = cells_of_all s.matrix full (leaders (acts s.bots commands))

-- the number of coordinates that an act voids (true), or fills (false)
abbrev pub edit_count : Matrix → Bool → Act → ℕ
edit_count m full a = count_by (is_edited full a) (all_of m)

-- the number of coordinates that the groups of these leaders void (true), or fill (false)
abbrev pub edits_total : Matrix → Bool → List Act → ℕ
edits_total m full leaders = sum_by (edit_count m full) leaders

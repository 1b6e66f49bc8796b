-- The matrix after a list of edits.
use Rattle.std.specs.Prelude.{◌≡◌, Bool, false, ◌&&◌, ◌||◌, not, List, [], ◌∷◌}
use Rattle.vox_geom.specs.declared.coordinate.Coord.{Coord}
use Rattle.vox_geom.specs.Point.{point, same_point}
use Rattle.nano_spec.specs.Matrix.{Matrix}
use Rattle.support_forest.specs.ForestView.{AreAdded, AreRemoved}

-- the cells of an `add`, or those of a `remove`
pub data Edit : Type 0 where
  adds : List Coord → Edit
  removes : List Coord → Edit

-- the edits lead from one matrix to the other, each by the effect of the forest's call
abbrev pub AreEdited : Matrix → List Edit → Matrix → Type 0
AreEdited old [] new = new ≡ old
AreEdited old (adds cells ∷ more) new = (next : Matrix) × AreAdded old next cells × AreEdited next more new
AreEdited old (removes cells ∷ more) new = (next : Matrix) × AreRemoved old next cells × AreEdited next more new

-- whether the coordinate is one of the cells
abbrev pub is_among : Coord → List Coord → Bool
is_among c [] = false
is_among c (d ∷ more) = same_point (point c) (point d) || is_among c more

-- whether a voxel is full after the edits, by whether it was before: the last that names it decides
abbrev pub is_left : List Edit → Coord → Bool → Bool
is_left [] c full = full
is_left (adds cells ∷ more) c full = is_left more c (full || is_among c cells)
is_left (removes cells ∷ more) c full = is_left more c (full && not (is_among c cells))

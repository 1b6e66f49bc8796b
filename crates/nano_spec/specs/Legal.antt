-- Whether a model is legal (task description, section on models; docs/FORMATS.md, "Geometry").
use Rattle.std.specs.Prelude.{◌≡◌, ℕ, ◌+◌, Bool, ◌&&◌, not, nat_le, nat_lt, Option, Some, None, find}
use Rattle.vox_geom.specs.declared.coordinate.Coord.{Coord}
use Rattle.nano_spec.specs.Grounded.{FirstUngrounded}
use Rattle.nano_spec.specs.Matrix.{Matrix, is_full, all_of}

-- the reason why a model is not legal: a full voxel outside the legal box, or one that is not grounded
pub data NotLegal : Type 0 where
  Border : Coord → NotLegal
  Floating : Coord → NotLegal

-- the legal box: x and z from 1 to r - 2, and y from 0 to r - 2
abbrev pub in_legal_box : ℕ → Coord → Bool
in_legal_box r c = nat_le 1 c.x && nat_lt (c.x + 1) r && nat_lt (c.y + 1) r && nat_le 1 c.z && nat_lt (c.z + 1) r

-- the least full coordinate outside the legal box
abbrev pub first_outside : Matrix → Option Coord
first_outside m = find (λ c. is_full m c && not (in_legal_box m.resolution c)) (all_of m)

-- whether a model is legal
pub data Legality (m : Matrix) (answer : Option NotLegal) : Type 0 where
  -- a full voxel is outside the legal box: the least of them is reported
  leaves_box : (c : Coord) → first_outside m ≡ Some c → answer ≡ Some (Border c) → Legality m answer
  -- none is, but full voxels are not grounded: the least of them is reported
  floats_inside : (c : Coord) → first_outside m ≡ None → FirstUngrounded m (Some c) → answer ≡ Some (Floating c)
      → Legality m answer
  -- none is, and each full voxel is grounded
  stands_inside : first_outside m ≡ None → FirstUngrounded m None → answer ≡ None → Legality m answer

-- the model is legal
abbrev pub IsLegal : Matrix → Type 0
IsLegal m = Legality m None

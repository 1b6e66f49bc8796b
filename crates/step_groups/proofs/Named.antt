-- The coordinates that a command names, if they are in space, and the parts of an action.
use Rattle.std.proofs.Common.{◌≡◌, ℕ, Bool, true, false, ◌&&◌}
use Rattle.std.specs.Prelude.{IsTrue}
use Rattle.vox_geom.specs.declared.coordinate.Coord.{Coord}
use Rattle.vox_geom.specs.Point.{Point, point}
use Rattle.vox_geom.specs.Space.{IsInSpace, coordinate, in_space}
use Rattle.vox_geom.proofs.Truths.{first_of_two, second_of_two}
use Rattle.step_order.proofs.Ends.{space_is}
use Rattle.step_groups.specs.declared.deed.Deed.{Deed}
use Rattle.step_groups.specs.declared.deed.Deed.TheVariants.{Edits}

-- a point in space is that of its coordinate, which is in space
pub point_of : (r : ℕ) (p : Point) → IsTrue (in_space r p) → point (coordinate p) ≡ p
point_of r p h = (space_is r p h).1

pub within_of : (r : ℕ) (p : Point) → IsTrue (in_space r p) → IsInSpace r (coordinate p)
within_of r p h = (space_is r p h).0

-- of the only named point, and of the second of two
pub only_named : (b : Bool) → IsTrue (b && true) → IsTrue b
only_named b h = first_of_two b true h

pub last_named : (b c : Bool) → IsTrue (b && (c && true)) → IsTrue c
last_named b c h = only_named c (second_of_two b (c && true) h)

-- ---- the corners of a region that is edited, and whether it is to be full

abbrev pub near_of : Deed → Coord
near_of (Edits near far full together) = near
near_of _ = record { x = 0; y = 0; z = 0 }

abbrev pub far_of : Deed → Coord
far_of (Edits near far full together) = far
far_of _ = record { x = 0; y = 0; z = 0 }

abbrev pub full_of : Deed → Bool
full_of (Edits near far full together) = full
full_of _ = false

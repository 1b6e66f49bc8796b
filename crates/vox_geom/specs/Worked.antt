-- Worked examples of differences, neighbors, places and regions (docs/FORMATS.md, "Geometry").
use Rattle.std.specs.Prelude.{◌≡◌, ℤ, pos, negsuc, [], ◌∷◌, true, false, map}
use Rattle.vox_geom.specs.declared.difference.Diff.{Diff}
use Rattle.vox_geom.specs.Difference.{is_far, is_linear, is_long, is_near, is_short, mlen, clen}
use Rattle.vox_geom.specs.Point.{are_adjacent, below, coord, minus, plus, point, same_point}
use Rattle.vox_geom.specs.Region.{Span, between, dimension, is_within, just, same_region, size}
use Rattle.vox_geom.specs.Space.{coordinate, coordinate_at, coordinates, in_space, is_before, numbers_below, place}

-- a difference by its components
abbrev pub towards : ℤ → ℤ → ℤ → Diff
towards x y z = record { dx = x; dy = y; dz = z }

-- lengths and kinds of differences
pub record WorkedDifferences : Type 0 where
  pub manhattan : mlen (towards (pos 2) (negsuc 2) (pos 1)) ≡ 6
  pub chessboard : clen (towards (pos 2) (negsuc 2) (pos 1)) ≡ 3
  -- along one axis, along two, and along none
  pub linear : map is_linear
      (towards (pos 0) (negsuc 4) (pos 0) ∷ towards (pos 1) (pos 0) (pos 1) ∷ towards (pos 0) (pos 0) (pos 0) ∷ [])
      ≡ true ∷ false ∷ false ∷ []
  pub short : map is_short (towards (pos 5) (pos 0) (pos 0) ∷ towards (pos 6) (pos 0) (pos 0) ∷ []) ≡ true ∷ false ∷ []
  pub long :
      map is_long (towards (pos 0) (pos 0) (negsuc 14) ∷ towards (pos 0) (pos 0) (negsuc 15) ∷ []) ≡ true ∷ false ∷ []
  -- at a face, at an edge, at a corner, at nothing, and two away
  pub near : map is_near (towards (pos 1) (pos 0) (pos 0) ∷ towards (pos 1) (negsuc 0) (pos 0)
      ∷ towards (pos 1) (pos 1) (pos 1) ∷ towards (pos 0) (pos 0) (pos 0) ∷ towards (pos 2) (pos 0) (pos 0) ∷ [])
      ≡ true ∷ true ∷ false ∷ false ∷ false ∷ []
  pub far : map is_far
      (towards (pos 30) (negsuc 29) (pos 1) ∷ towards (pos 0) (pos 31) (pos 0) ∷ towards (pos 0) (pos 0) (pos 0)
      ∷ towards (pos 0) (pos 0) (pos 1) ∷ [])
      ≡ true ∷ false ∷ false ∷ true ∷ []

-- coordinates, their order and their places
pub record WorkedCoordinates : Type 0 where
  -- at a face, at an edge, two away, and the same
  pub neighbours : map (are_adjacent (coord 1 1 1)) (coord 1 0 1 ∷ coord 2 1 2 ∷ coord 1 3 1 ∷ coord 1 1 1 ∷ [])
      ≡ true ∷ false ∷ false ∷ false ∷ []
  pub a_sum :
      plus (point (coord 1 0 2)) (towards (negsuc 1) (pos 3) (pos 1)) ≡ record { x = negsuc 0; y = pos 3; z = pos 3 }
  pub a_difference : minus (coord 1 0 2) (coord 2 3 2) ≡ towards (negsuc 0) (negsuc 2) (pos 0)
  -- by x, then y, then z
  pub by_x_first : map (is_before (coord 1 2 2)) (coord 2 0 0 ∷ coord 0 3 3 ∷ []) ≡ true ∷ false ∷ []
  pub by_y_then : map (is_before (coord 1 1 2)) (coord 1 2 0 ∷ coord 1 0 3 ∷ []) ≡ true ∷ false ∷ []
  pub by_z_last :
      map (is_before (coord 1 1 1)) (coord 1 1 2 ∷ coord 1 1 1 ∷ coord 1 1 0 ∷ []) ≡ true ∷ false ∷ false ∷ []
  -- 27 = 1 * 16 + 2 * 4 + 3
  pub a_place : place 4 (coord 1 2 3) ≡ 27
  pub at_a_place : coordinate_at 4 27 ≡ coord 1 2 3
  pub numbers : numbers_below 3 ≡ 0 ∷ 1 ∷ 2 ∷ []
  pub all_in_their_order : coordinates 2 ≡ coord 0 0 0 ∷ coord 0 0 1 ∷ coord 0 1 0 ∷ coord 0 1 1 ∷ coord 1 0 0
      ∷ coord 1 0 1 ∷ coord 1 1 0 ∷ coord 1 1 1 ∷ []
  pub of_a_point : coordinate (point (coord 1 2 3)) ≡ coord 1 2 3
  -- one coordinate lower, and on the floor
  pub right_below : map below (coord 1 2 3 ∷ coord 1 0 3 ∷ []) ≡ coord 1 1 3 ∷ coord 1 0 3 ∷ []
  -- the same, and another on each axis
  pub same_points : map (same_point (point (coord 1 1 1)))
      (point (coord 1 1 1) ∷ point (coord 2 1 1) ∷ point (coord 1 2 1) ∷ point (coord 1 1 2) ∷ [])
      ≡ true ∷ false ∷ false ∷ false ∷ []
  -- the least corner, the greatest one, and one past that or below 0 on each axis
  pub within_space : map (in_space 3) (point (coord 0 0 0) ∷ point (coord 2 2 2) ∷ point (coord 3 2 2)
      ∷ point (coord 2 3 2) ∷ point (coord 2 2 3) ∷ record { x = negsuc 0; y = pos 0; z = pos 0 }
      ∷ record { x = pos 0; y = negsuc 0; z = pos 0 } ∷ record { x = pos 0; y = pos 0; z = negsuc 0 } ∷ [])
      ≡ true ∷ true ∷ false ∷ false ∷ false ∷ false ∷ false ∷ false ∷ []

-- a box of two by one by four coordinates, by two corners that neither rise nor fall on all axes
abbrev pub box : Span
box = between (point (coord 2 1 0)) (point (coord 1 1 3))

-- regions
pub record WorkedRegions : Type 0 where
  -- its corners and a coordinate between them
  pub within : map (λ c. is_within box (point c)) (coord 2 1 0 ∷ coord 1 1 3 ∷ coord 1 1 0 ∷ coord 2 1 2 ∷ [])
      ≡ true ∷ true ∷ true ∷ true ∷ []
  -- next to it on each axis
  pub beside :
      map (λ c. is_within box (point c)) (coord 0 1 1 ∷ coord 3 1 1 ∷ coord 1 0 1 ∷ coord 1 2 1 ∷ coord 1 1 4 ∷ [])
      ≡ false ∷ false ∷ false ∷ false ∷ false ∷ []
  pub its_size : size box ≡ 8
  pub its_dimension : dimension box ≡ 2
  pub along_one_axis : dimension (between (point (coord 1 0 1)) (point (coord 1 2 1))) ≡ 1
  pub along_all_axes : dimension (between (point (coord 0 0 0)) (point (coord 1 1 1))) ≡ 3
  pub of_one_coordinate : size (just (point (coord 1 1 1))) ≡ 1
  pub of_no_dimension : dimension (just (point (coord 1 1 1))) ≡ 0
  -- the same region, by other corners
  pub by_other_corners : same_region box (between (point (coord 1 1 0)) (point (coord 2 1 3))) ≡ true
  -- another end on each axis
  pub not_by_other_ends : map (same_region box)
      (between (point (coord 0 1 0)) (point (coord 2 1 3)) ∷ between (point (coord 1 0 0)) (point (coord 2 1 3))
      ∷ between (point (coord 1 1 0)) (point (coord 2 1 2)) ∷ []) ≡ false ∷ false ∷ false ∷ []
  -- the first end of one is the second end of the other
  pub not_by_one_end_alone : same_region (between (point (coord 0 0 0)) (point (coord 1 0 0)))
      (between (point (coord 2 0 0)) (point (coord 0 0 0))) ≡ false

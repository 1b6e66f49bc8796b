-- The worked examples of differences, neighbors, places and regions, each by computing.
use Rattle.std.proofs.Common.{refl}
use Rattle.vox_geom.specs.Worked.{WorkedCoordinates, WorkedDifferences, WorkedRegions}

pub worked_differences : WorkedDifferences
worked_differences = record {
  manhattan = refl;
  chessboard = refl;
  linear = refl;
  short = refl;
  long = refl;
  near = refl;
  far = refl;
}

pub worked_coordinates : WorkedCoordinates
worked_coordinates = record {
  neighbours = refl;
  a_sum = refl;
  a_difference = refl;
  by_x_first = refl;
  by_y_then = refl;
  by_z_last = refl;
  a_place = refl;
  at_a_place = refl;
  numbers = refl;
  all_in_their_order = refl;
  of_a_point = refl;
  right_below = refl;
  same_points = refl;
  within_space = refl;
}

pub worked_regions : WorkedRegions
worked_regions = record {
  within = refl;
  beside = refl;
  its_size = refl;
  its_dimension = refl;
  along_one_axis = refl;
  along_all_axes = refl;
  of_one_coordinate = refl;
  of_no_dimension = refl;
  by_other_corners = refl;
  not_by_other_ends = refl;
  not_by_one_end_alone = refl;
}

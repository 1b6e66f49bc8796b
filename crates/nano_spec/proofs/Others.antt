-- Worked examples of the forge, of steps whose groups act one after another, of work, of paths and of names, each by
-- computing.
use Rattle.std.proofs.Common.{refl, ◌<◌, arith, List, [], ◌∷◌, length}
use Rattle.std.specs.Prelude.{IsTrue}
use Rattle.vox_geom.specs.declared.coordinate.Coord.{Coord}
use Rattle.nano_spec.specs.declared.outcomes.Rule.TheVariants.{TraceEnds, OutOfSpace, Seeds}
use Rattle.nano_spec.specs.Grounded.{is_path_from}
use Rattle.nano_spec.specs.Matrix.{Matrix}
use Rattle.nano_spec.specs.State.{seed_numbers}
use Rattle.nano_spec.specs.Work.{stops}
use Rattle.nano_spec.proofs.WorkDone.{work_of_a_floating_voxel, work_of_a_refused_group, work_of_a_ring, work_of_another_post, work_of_groups_that_meet, work_where_the_trace_ends, work_without_a_change}
use Rattle.nano_spec.specs.WorkedOthers.{WorkedForge, WorkedNames, WorkedOrders, WorkedPaths, WorkedWork, hanging}
use Rattle.nano_spec.specs.Next.{breaks_at_start}
use Rattle.vox_geom.specs.Point.{coord}

pub worked_forge : WorkedForge
worked_forge = record {
  mixed_numbers = (refl, refl, refl, refl);
  another_mixed_number = refl;
  one_column = refl;
  one_column_written = refl;
  no_column = refl;
  two_columns = refl;
  two_columns_written = refl;
  no_room = refl;
  no_column_of_four = refl;
  a_wrapped_number = refl;
  a_number_of_1024 = refl;
  lines_on_top = refl;
  the_first_of_two_tallest = refl;
}

pub worked_orders : WorkedOrders
unfolding seed_numbers
worked_orders = record {
  in_rising_order = refl;
  in_falling_order = refl;
  a_group_acts_once = refl;
  a_way_is_filled = refl;
  a_later_corner_twice = refl;
  three_corners = refl;
}

pub worked_work : WorkedWork
unfolding seed_numbers
worked_work = record {
  no_work = stops (record { step = 1; bid = 1; rule = TraceEnds; at = coord 0 0 0 }) refl (breaks_at_start (record { step = 1; bid = 1; rule = TraceEnds; at = coord 0 0 0 }) refl refl) refl;
  work_of_a_refused_fission = stops (record { step = 1; bid = 1; rule = Seeds; at = coord 0 0 0 }) refl (breaks_at_start (record { step = 1; bid = 1; rule = Seeds; at = coord 0 0 0 }) refl refl) refl;
  work_of_a_ring = work_of_a_ring;
  work_of_a_command_out_of_space = stops (record { step = 1; bid = 1; rule = OutOfSpace; at = coord 0 0 0 }) refl (breaks_at_start (record { step = 1; bid = 1; rule = OutOfSpace; at = coord 0 0 0 }) refl refl) refl;
  work_of_a_refused_group = work_of_a_refused_group;
  work_of_another_post = work_of_another_post;
  work_of_a_floating_voxel = work_of_a_floating_voxel;
  work_where_the_trace_ends = work_where_the_trace_ends;
  work_without_a_change = work_without_a_change;
  work_of_groups_that_meet = work_of_groups_that_meet;
}

has_a_coordinate : (m : Matrix) (c : Coord) (path : List Coord) → IsTrue (is_path_from m c path) → 0 < length path
has_a_coordinate m c [] t = cc
has_a_coordinate m c (a ∷ path) t = omega arith

pub worked_paths : WorkedPaths
worked_paths = record {
  on_the_floor = refl;
  along_the_arm = refl;
  up_and_down = refl;
  no_coordinate = refl;
  from_elsewhere = refl;
  above_the_floor = refl;
  from_a_void_voxel = refl;
  through_a_void_voxel = refl;
  to_a_void_voxel = refl;
  full_within_the_matrix = (refl, refl);
  outside_the_matrix = refl;
  full_without_voxels = refl;
  over_an_edge = refl;
  over_a_gap = refl;
  level_on_the_floor = ((coord 1 0 1 ∷ [], refl, refl), has_a_coordinate hanging (coord 1 0 1));
}

pub worked_names : WorkedNames
unfolding seed_numbers
worked_names = record {
  rule_numbers = refl;
  rule_names = refl;
  full_allows = refl;
  light_allows = refl;
  indexes = refl;
  the_greatest_seed = refl;
  past_the_greatest_seed = refl;
  only_one_is_allowed = refl;
}

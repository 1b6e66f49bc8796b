-- The worked examples of rows and runs, by computing.
use Rattle.std.proofs.Common.{refl}
use Rattle.group_planner.specs.Rows.{full_before, sum_below}
use Rattle.group_planner.specs.Worked.{WorkedRows}

pub worked_rows : WorkedRows
unfolding full_before sum_below
worked_rows = record {
  one_run_of_31 = refl;
  two_runs_of_32 = refl;
  a_run_behind_a_gap = refl;
  one_row = refl;
  steps = refl;
  bytes = refl;
}

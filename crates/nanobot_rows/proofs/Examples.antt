-- The worked examples of lines and answers, by computing.
use Rattle.std.proofs.Common.{codes, ◌≡◌, ◌+◌, ◌<◌, refl, sym, subst, Bool}
use Rattle.std.specs.Prelude.{Some, None, Ok, Err, MatchBool, ⊤}
use Rattle.std.specs.Fmt.{digits}
use Rattle.nano_spec.specs.Matrix.{Matrix}
use Rattle.vox_depot.specs.Files.{Files}
use Rattle.group_planner.specs.Bounds as group
use Rattle.group_planner.specs.Rows.{full_before, rows, runs, sum_below}
use Rattle.vox_geom.proofs.Tests.{test_less, test_not_less}
use Rattle.nanobot_rows.specs.declared.report.Report.TheVariants as report
use Rattle.nanobot_rows.specs.declared.status.Status.TheVariants as is
use Rattle.nanobot_rows.specs.Answer.{CanPlan, Found}
use Rattle.nanobot_words.specs.declared.planner.Planner.TheVariants.{Group}
use Rattle.nanobot_rows.specs.Lines.{long_line}
use Rattle.nanobot_rows.specs.Report.{report_line}
use Rattle.nanobot_rows.specs.Worked.{WorkedBounds, WorkedLengths, WorkedLimits, WorkedLines, WorkedStatuses}
use Rattle.nanobot_rows.proofs.Loads.{fits}

pub worked_lines : WorkedLines
unfolding digits
worked_lines = record {
  a_run = refl;
  a_run_that_gains = refl;
  a_model = refl;
  a_trace = refl;
  a_forged_model = refl;
  a_plan = refl;
  an_exercise = refl;
  a_broken_rule = refl;
  a_floating_voxel = refl;
  a_forbidden_command = refl;
  no_byte = refl;
  a_resolution = refl;
  too_few_bytes = refl;
  too_many_bytes = refl;
  outside_the_box = refl;
  a_floating_model = refl;
  a_wide_head = refl;
  a_wide_resolution = refl;
  a_wide_run = refl;
  too_few_wide_runs = refl;
  bytes_after_the_runs = refl;
  two_resolutions = refl;
  a_long_group_plan = refl;
  a_bad_byte = refl;
  a_cut_command = refl;
  a_long_trace = refl;
  a_high_byte = refl;
  a_word = refl;
  a_shape = refl;
  a_range = refl;
  a_long_text = refl;
  an_unsupported_part = refl;
}

pub worked_limits : WorkedLimits
worked_limits = record {
  of_a_run_a_text_and_a_plan = refl;
  of_a_printed_trace = refl;
  of_a_script = refl;
}

pub worked_bounds : WorkedBounds
unfolding full_before sum_below
worked_bounds = record {
  strips = (refl, refl, refl, refl, refl);
  full_voxels = refl;
  rows_of_voxels = refl;
  runs_of_voxels = refl;
  group_steps = refl;
  group_bytes = refl;
  void_steps = (refl, refl, refl);
}

pub worked_statuses : WorkedStatuses
worked_statuses = record {
  exit_statuses = refl;
}

-- a group plan, by whether it may be too long
abbrev Choice : Matrix → Matrix → Bool → Found ⊤ → Type 0
Choice source target long found =
    MatchBool long
    (found ≡ Err (is.Model, report_line (report.GroupLong (runs source + runs target) (rows source + rows target))))
    (found ≡ Ok tt)

too_long : (files : Files) (source target : Matrix) → 1073741824 < group.most_bytes source target → CanPlan Group source
    target files
    (Err (is.Model, report_line (report.GroupLong (runs source + runs target) (rows source + rows target))))
too_long files source target many = subst (λ (t : Bool). Choice source target t (Err (is.Model, report_line (report.GroupLong (runs source + runs target) (rows source + rows target))))) (sym (test_less 1073741824 (group.most_bytes source target) many)) refl

pub worked_lengths : WorkedLengths
worked_lengths = record {
  of_a_text = λ files name bytes commands there few reads. (Ok bytes, fits files name bytes 1073741824 is.Text (long_line (codes "text") 1073741824) there few, rw reads refl);
  of_a_trace_of_a_session = λ files source trace script bytes m commands lines reply found there few decodes says session. (Ok m, found, (Ok commands, (Ok bytes, fits files trace bytes 50000000 is.Trace (long_line (codes "trace") 50000000) there few, (Ok commands, decodes, refl)), (Ok lines, says, session)));
  of_a_group_plan = λ files source target few. subst (λ (t : Bool). Choice source target t (Ok tt)) (sym (test_not_less 1073741824 (group.most_bytes source target) few)) refl;
  of_too_long_a_group_plan = too_long;
  of_a_plan_that_is_too_long = λ files name source target many. (Err (is.Model, report_line (report.GroupLong (runs source + runs target) (rows source + rows target))), too_long files source target many, refl);
  of_a_low_plan = λ files source target each. (None, each, refl);
  of_an_unsupported_part = λ files source target at first. (Some at, first, refl);
}

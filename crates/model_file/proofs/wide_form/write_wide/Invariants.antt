use Rattle.std.proofs.Common.{◌≡◌, ◌≤◌, ◌++◌, take, List, Bool}
use Rattle.model_file.specs.Runs.{with_runs}
use Rattle.model_file.proofs.wide_form.write_wide.Given as goal

abbrev pub invariant-loop-p : goal.invariant-loop-p
invariant-loop-p g l = record {
  same : (more : List Bool) → with_runs l.writer.bytes.items l.writer.run l.writer.full more ≡ with_runs l.initial.writer.bytes.items l.initial.writer.run l.initial.writer.full (take l.p l.planes.voxels ++ more);
  run : l.writer.run ≤ l.p;
}

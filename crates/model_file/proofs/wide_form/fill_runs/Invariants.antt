use Rattle.std.proofs.Common.{◌-◌, length}
use Rattle.model_file.proofs.WideForms.{HasRuns}
use Rattle.model_file.proofs.wide_form.fill_runs.Given as goal

abbrev pub invariant-loop-sum : goal.invariant-loop-sum
invariant-loop-sum l = HasRuns l.fn.planes.resolution l.bytes l.planes l.at l.index l.sum l.full

abbrev pub decreases-loop-sum : goal.decreases-loop-sum
decreases-loop-sum l = length l.bytes - l.at

use Rattle.run_progress.proofs.Leading.{finished_is_the_verdict}
use Rattle.run_progress.proofs.laws.the_progress_is_the_verdict.Goals as goal

pub returns : goal.returns
returns c = finished_is_the_verdict

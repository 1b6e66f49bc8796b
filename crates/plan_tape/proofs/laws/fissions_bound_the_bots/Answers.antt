use Rattle.std.proofs.Common.{◌+◌, arith}
use Rattle.std.specs.Prelude.{count_by}
use Rattle.plan_tape.specs.Fissions.{is_fission}
use Rattle.plan_tape.proofs.Fissions.{few_at_most}
use Rattle.plan_tape.proofs.laws.fissions_bound_the_bots.Goals as goal

pub returns : goal.returns
returns c = λ source profile commands. few_at_most source profile commands (1 + count_by is_fission commands) (omega arith)

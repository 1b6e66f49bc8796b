use Rattle.trace_judge.proofs.Judging.{IsJudging}
use Rattle.trace_judge.proofs.runner.judge_by.Given as goal

abbrev pub invariant-loop-command : goal.invariant-loop-command
invariant-loop-command g l = IsJudging l.fn.source l.fn.profile l.commands l.command-index l.runner l.initial.steps l.steps

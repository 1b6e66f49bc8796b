use Rattle.std.proofs.Common.{subst}
use Rattle.kept_machine.specs.Aiming.{target_of}
use Rattle.kept_machine.specs.Calls.{WouldAnswer}
use Rattle.kept_machine.specs.Kept.{Kept, kept_of, trace_of}
use Rattle.kept_machine.proofs.Targets.{would_aimed}
use Rattle.kept_machine.proofs.kept.KeptMachine.judge.Goals as goal

pub returns-clause-answer : goal.returns-clause-answer
returns-clause-answer c =
    subst (λ (k : Kept). WouldAnswer k c.args.commands.now c.judge_step.result) c.self.view_is
    (would_aimed (target_of c.self.inside.aim) (kept_of c.self.inside.machine c.self.inside.notes (trace_of c.self.inside.trace)) c.args.commands.now c.judge_step.result
    (c.judge_step.ensures.answer c.self.inside.notes (trace_of c.self.inside.trace)))

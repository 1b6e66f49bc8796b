use Rattle.std.proofs.Common.{◌≡◌, List, subst, rules}
use Rattle.nano_spec.specs.declared.commands.Command.{Command}
use Rattle.machine_c.specs.Judging.{WouldStep}
use Rattle.machine_c.proofs.Answered.{comes_to}
use Rattle.machine_c.proofs.judging.judge_by.Goals as goal

pub returns-in-Ok-clause-answer : goal.returns-in-Ok-clause-answer
returns-in-Ok-clause-answer c =
    let same : c.as_slice.result.now ≡ c.in-Ok.commands = search rules in
    let would = subst (λ (xs : List Command). WouldStep c.args.machine.now xs c.judge_of-in-Ok.result) same c.judge_of-in-Ok.ensures.answer in
    (would.0, comes_to c.args.machine.now would.0 c.args.bytes.now c.in-Ok.commands c.judge_of-in-Ok.result c.in-Ok.ensures.answer would.1)

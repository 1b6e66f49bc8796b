use Rattle.std.proofs.Common.{◌≡◌, List, subst, rules}
use Rattle.nano_spec.specs.declared.commands.Command.{Command}
use Rattle.machine_c.specs.Calls.{StepComesTo}
use Rattle.machine_c.proofs.Answered.{comes_to}
use Rattle.machine_c.proofs.stepping.step_by.Goals as goal

pub returns-in-Ok : goal.returns-in-Ok
returns-in-Ok c =
    let same : c.as_slice.result.now ≡ c.in-Ok.commands = search rules in
    comes_to c.args.machine.now c.step_of-in-Ok.new.machine c.args.bytes.now c.in-Ok.commands c.step_of-in-Ok.result c.in-Ok.ensures.answer
    (subst (λ (xs : List Command). StepComesTo c.args.machine.now xs c.step_of-in-Ok.new.machine c.step_of-in-Ok.result) same c.step_of-in-Ok.ensures)

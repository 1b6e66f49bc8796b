use Rattle.std.proofs.Common.{rules, ◌≡◌, w64, to_z, of_z}
use Rattle.step_machine.proofs.Ends.{made_alone, only_command}
use Rattle.step_machine.proofs.machine.Machine.step.Goals as goal

pub returns-in-Made-clause-stepped : goal.returns-in-Made-clause-stepped
returns-in-Made-clause-stepped g c =
    let one = only_command c.args.commands.now c.index-commands-0.result (search rules) (search rules) in
    let paid : to_z w64 (of_z w64 c.energy.result) ≡ c.step_alone.new.self.state.energy = search rules in
    made_alone c.args.self.now c.step_alone.new.self c.args.commands.now c.index-commands-0.result (to_z w64 (of_z w64 c.energy.result)) c.step_alone.new.fault c.args.steps.now c.step_alone.new.steps
    one paid (c.step_alone.ensures.tried.made c.in-Made.is)

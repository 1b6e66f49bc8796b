use Rattle.std.proofs.Common.{◌+◌, sym, subst, eqb, not, List, [], ◌∷◌}
use Rattle.nano_spec.specs.declared.commands.Command.{Command}
use Rattle.step_groups.specs.Judging.{edit_of}
use Rattle.step_machine.specs.Settling.{IsDeclined}
use Rattle.step_machine.specs.Situation.{Situation}
use Rattle.step_machine.specs.Stepped.{Stepped, answer_of}
use Rattle.step_machine.proofs.machine.Machine.edit_alone.Goals as goal

pub returns-then-edit_at_once : goal.returns-then-edit_at_once
returns-then-edit_at_once g c = c.edit_at_once.ensures.made c.if-edit_at_once.true c.args.fault.now

pub returns : goal.returns
returns g c =
    let commands : List Command = edit_of (not (eqb g.row.FULL 0)) c.args.d ∷ [] in
    let stays = c.edit_at_once.ensures.stays c.if-edit_at_once.false in
    subst (λ (v : Situation). Stepped v c.edit_and_settle.new.self commands (answer_of c.edit_and_settle.result c.edit_and_settle.new.self.state c.edit_and_settle.new.fault) c.args.steps.now c.edit_and_settle.new.steps) stays
    (c.edit_and_settle.ensures c.args.steps.now
    (subst (λ (v : Situation). IsDeclined v.state commands (v.steps + 1) c.args.steps.now c.edit_at_once.new.steps) (sym stays) (c.edit_at_once.ensures.declined c.if-edit_at_once.false)))

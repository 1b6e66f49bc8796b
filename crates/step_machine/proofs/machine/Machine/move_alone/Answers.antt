use Rattle.std.proofs.Common.{◌+◌, ◌≤◌, sym, subst, [], ◌∷◌}
use Rattle.nano_spec.specs.declared.commands.Command.TheVariants.{SMove}
use Rattle.nano_spec.specs.Act.{acts}
use Rattle.nano_spec.specs.Work.{volatile_total}
use Rattle.step_machine.specs.Situation.{Situation}
use Rattle.step_machine.specs.Stepped.{Stepped, answer_of}
use Rattle.step_machine.proofs.machine.Machine.move_alone.Goals as goal

pub returns-then-move_at_once-clause-stepped : goal.returns-then-move_at_once-clause-stepped
returns-then-move_at_once-clause-stepped g c = c.move_at_once.ensures.made c.if-move_at_once.true c.args.fault.now

pub returns-clause-stepped : goal.returns-clause-stepped
returns-clause-stepped g c =
    let stays = c.move_at_once.ensures.stays c.if-move_at_once.false in
    subst (λ (v : Situation). Stepped v c.move_far.new.self (SMove c.args.d ∷ []) (answer_of c.move_far.result c.move_far.new.self.state c.move_far.new.fault) c.args.steps.now c.move_far.new.steps) stays
    (c.move_far.ensures.stepped c.args.steps.now
    (subst (λ (v : Situation). c.move_at_once.new.steps ≤ c.args.steps.now + volatile_total v.state.matrix (acts v.state.bots (SMove c.args.d ∷ []))) (sym stays) c.move_at_once.ensures.touches))

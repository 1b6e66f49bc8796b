use Rattle.std.proofs.Common.{◌≡◌, ◌+◌, refl, false, sym, ◌∙◌, ap, subst, arith, length, [], ◌∷◌}
use Rattle.std.specs.Prelude.{None}
use Rattle.nano_spec.specs.declared.commands.Command.TheVariants.{SMove}
use Rattle.nano_spec.specs.declared.system.Harmonics.TheVariants.{Low}
use Rattle.nano_spec.specs.Grounded.{FirstUngrounded}
use Rattle.nano_spec.specs.State.{State}
use Rattle.step_machine.specs.Settling.{IsSettled}
use Rattle.step_machine.specs.Situation.{Situation}
use Rattle.step_machine.proofs.Answering.{bots_left, made}
use Rattle.step_machine.proofs.Stepping.{formed_on, sound_on}
use Rattle.step_machine.proofs.Still.{still}
use Rattle.step_machine.proofs.machine.Machine.move_at_once.Given.{Over}
use Rattle.step_machine.proofs.machine.Machine.move_at_once.Goals as goal

settled : (g : Over) (c : goal.After-self-1 g) → IsSettled c.self.inside.system (SMove c.args.d ∷ [])
    (c.self.inside.steps + 1) c.self.inside.forest c.move_at_once.new.steps c.move_at_once.new.steps
settled g c =
    let stands : c.self.inside.spent ≡ false = ap (λ (v : Situation). v.spent) c.self.view_is ∙ c.requires.alone.stands in
    still c.self.inside.system c.args.d (ap (λ (v : Situation). length v.state.bots) c.self.view_is ∙ c.requires.alone.one) c.recall.ensures.whole (c.self.inside.steps + 1) c.self.inside.forest c.move_at_once.new.steps
    (c.if-not-move_at_once.ensures.keeps refl (c.self.inside.steps + 1))
    (subst (λ (v : Situation). v.state.harmonics ≡ Low → FirstUngrounded v.state.matrix None) (sym c.self.view_is) c.requires.alone.held)
    (c.self.invariant.tied stands) (c.self.invariant.stands stands)

pub invariant_of-self-2 : goal.invariant_of-self-2
invariant_of-self-2 g c =
    let settled_there = settled g c in
    sound_on c.self.inside.system c.move_at_once.new.self (SMove c.args.d ∷ []) c.self.inside.forest c.self.inside.forest c.self.inside.changed c.self.inside.changed c.self.inside.steps c.self.inside.spent c.args.self.now c.self.invariant c.self.view_is c.requires.steps
    (c.if-not-move_at_once.ensures.moved refl) settled_there.stands settled_there.tied c.self.invariant.room c.recall_step.ensures.rises c.recall_step.ensures.falls

pub returns-clause-made : goal.returns-clause-made
returns-clause-made g c = λ _ fault.
    let state : State = c.self.inside.system in
    let settled_there = settled g c in
    made state (SMove c.args.d ∷ []) c.self.inside.steps c.self.inside.spent c.args.self.now c.self.view_is (ap (λ (v : Situation). v.spent) c.self.view_is ∙ c.requires.alone.stands) c.args.steps.now
    c.move_at_once.new.steps (c.if-not-move_at_once.ensures.keeps refl (c.self.inside.steps + 1)) (omega (arith, c.move_at_once.ensures.touches))
    c.move_at_once.new.self c.self.inside.forest (record { energy = c.move_at_once.new.self.energy; halted = false }) c.move_at_once.new.steps c.move_at_once.new.steps settled_there (c.if-not-move_at_once.ensures.moved refl) refl (bots_left c.move_at_once.new.self.bots (c.if-not-move_at_once.ensures.one refl))
    (formed_on state c.move_at_once.new.self (SMove c.args.d ∷ []) (c.self.inside.steps + 1) c.recall_step.ensures.well_formed settled_there.goes (c.if-not-move_at_once.ensures.moved refl))
    (omega arith)

use Rattle.std.proofs.Common.{◌≡◌, ◌+◌, ◌≤◌, refl, false, sym, ◌∙◌, ap, subst, arith, length, [], ◌∷◌}
use Rattle.std.specs.Prelude.{None, Err}
use Rattle.nano_spec.specs.declared.commands.Command.TheVariants.{SMove}
use Rattle.nano_spec.specs.declared.system.Harmonics.TheVariants.{Low}
use Rattle.nano_spec.specs.Grounded.{FirstUngrounded}
use Rattle.nano_spec.specs.Act.{acts}
use Rattle.nano_spec.specs.State.{State}
use Rattle.nano_spec.specs.Work.{volatile_total}
use Rattle.step_machine.specs.declared.machine.StepFault.TheVariants as fault
use Rattle.step_machine.specs.Settling.{IsSettled}
use Rattle.step_machine.specs.Situation.{Situation}
use Rattle.step_machine.specs.Stepped.{Stepped}
use Rattle.step_machine.proofs.Answering.{bots_left, broken_at_start, made}
use Rattle.step_machine.proofs.Stepping.{formed_on, seen, sound_on}
use Rattle.step_machine.proofs.Still.{still}
use Rattle.step_machine.proofs.machine.Machine.move_far.Given.{Over}
use Rattle.step_machine.proofs.machine.Machine.move_far.Goals as goal

pub returns-in-Some-clause-stepped : goal.returns-in-Some-clause-stepped
returns-in-Some-clause-stepped g c = λ began touched.
    let few = subst (λ (v : Situation). c.args.steps.now ≤ began + volatile_total v.state.matrix (acts v.state.bots (SMove c.args.d ∷ []))) (sym c.self.view_is) touched in
    let state : State = c.self.inside.system in
    let stands : c.self.inside.spent ≡ false = ap (λ (v : Situation). v.spent) c.self.view_is ∙ c.requires.alone.stands in
    let one : length state.bots ≡ 1 = ap (λ (v : Situation). length v.state.bots) c.self.view_is ∙ c.requires.alone.one in
    subst (λ (t : State). Stepped c.args.self.now (seen t c.self.inside.steps c.self.inside.spent) (SMove c.args.d ∷ []) (Err (fault.Broken c.in-Some.broken)) began c.move_alone.new.steps) (sym c.in-Some.ensures.stays)
    (broken_at_start state (SMove c.args.d ∷ []) c.self.inside.steps c.self.inside.spent c.args.self.now c.self.view_is stands began
    c.in-Some.broken c.move_alone.new.steps (sym c.move_alone.ensures.value ∙ c.in-Some.is) (omega (arith, few, c.move_alone.ensures.touches)) (λ lacks. absurd (omega (arith, one, lacks))))

settled : (g : Over) (c : goal.After-self-1 g) → IsSettled c.self.inside.system (SMove c.args.d ∷ [])
    (c.self.inside.steps + 1) c.self.inside.forest c.move_alone.new.steps c.move_alone.new.steps
settled g c =
    let stands : c.self.inside.spent ≡ false = ap (λ (v : Situation). v.spent) c.self.view_is ∙ c.requires.alone.stands in
    still c.self.inside.system c.args.d (ap (λ (v : Situation). length v.state.bots) c.self.view_is ∙ c.requires.alone.one) c.recall.ensures.whole (c.self.inside.steps + 1) c.self.inside.forest c.move_alone.new.steps
    (sym c.move_alone.ensures.value ∙ c.in_default.is)
    (subst (λ (v : Situation). v.state.harmonics ≡ Low → FirstUngrounded v.state.matrix None) (sym c.self.view_is) c.requires.alone.held)
    (c.self.invariant.tied stands) (c.self.invariant.stands stands)

pub invariant_of-self-2 : goal.invariant_of-self-2
invariant_of-self-2 g c =
    let settled_there = settled g c in
    sound_on c.self.inside.system c.move_alone.new.self (SMove c.args.d ∷ []) c.self.inside.forest c.self.inside.forest c.self.inside.changed c.self.inside.changed c.self.inside.steps c.self.inside.spent c.args.self.now c.self.invariant c.self.view_is c.requires.steps
    c.in_default.ensures.moved settled_there.stands settled_there.tied c.self.invariant.room c.recall_step.ensures.rises c.recall_step.ensures.falls

pub returns-clause-stepped : goal.returns-clause-stepped
returns-clause-stepped g c = λ began touched.
    let few = subst (λ (v : Situation). c.args.steps.now ≤ began + volatile_total v.state.matrix (acts v.state.bots (SMove c.args.d ∷ []))) (sym c.self.view_is) touched in
    let state : State = c.self.inside.system in
    let settled_there = settled g c in
    made state (SMove c.args.d ∷ []) c.self.inside.steps c.self.inside.spent c.args.self.now c.self.view_is (ap (λ (v : Situation). v.spent) c.self.view_is ∙ c.requires.alone.stands) began
    c.move_alone.new.steps (sym c.move_alone.ensures.value ∙ c.in_default.is) (omega (arith, few, c.move_alone.ensures.touches))
    c.move_alone.new.self c.self.inside.forest (record { energy = c.move_alone.new.self.energy; halted = false }) c.move_alone.new.steps c.move_alone.new.steps settled_there c.in_default.ensures.moved refl (bots_left c.move_alone.new.self.bots c.in_default.ensures.one)
    (formed_on state c.move_alone.new.self (SMove c.args.d ∷ []) (c.self.inside.steps + 1) c.recall_step.ensures.well_formed settled_there.goes c.in_default.ensures.moved)
    (omega arith)

use Rattle.std.proofs.Common.{◌≡◌, ℕ, ◌+◌, refl, false, sym, ◌∙◌, ap, subst, arith, eqb, length, List, [], ◌∷◌, Bool, not, pos}
use Rattle.std.specs.Prelude.{None, ◌<ℤ◌, ◌+ℤ◌}
use Rattle.nano_spec.specs.declared.commands.Command.{Command}
use Rattle.nano_spec.specs.Next.{Goes, Next}
use Rattle.nano_spec.specs.Rules.{broken}
use Rattle.nano_spec.specs.State.{IsWellFormed, State}
use Rattle.nano_spec.specs.Step.{after}
use Rattle.step_groups.specs.Judging.{edit_of, rule_broken}
use Rattle.step_machine.specs.Settling.{IsSettled}
use Rattle.step_machine.specs.Situation.{Situation}
use Rattle.step_machine.proofs.Answering.{bots_left, made}
use Rattle.step_machine.proofs.Stepping.{formed_on, sound_on}
use Rattle.step_machine.proofs.Still.{only_bot}
use Rattle.step_machine.proofs.machine.Machine.edit_at_once.Given.{Over}
use Rattle.step_machine.proofs.machine.Machine.edit_at_once.Goals as goal

-- whether the voxel is filled, by the constant of the proof
abbrev full_of : Over → Bool
full_of g = not (eqb g.row.FULL 0)

keeps : (g : Over) (c : goal.After-self-1 g)
    → broken c.self.inside.system (edit_of (full_of g) c.args.d ∷ []) (c.self.inside.steps + 1) ≡ None
keeps g c = sym c.judge_edit.ensures.value ∙ ap rule_broken c.in-Ok.is

settled : (g : Over) (c : goal.After-self-1 g) → IsSettled c.self.inside.system (edit_of (full_of g) c.args.d ∷ [])
    (c.self.inside.steps + 1) c.settle_at_once.new.forest c.args.steps.now c.settle_at_once.new.steps
settled g c = subst (λ (k : Command). IsSettled c.self.inside.system (k ∷ []) (c.self.inside.steps + 1) c.settle_at_once.new.forest c.args.steps.now c.settle_at_once.new.steps) c.edit.ensures c.in-Some.ensures.settled

changed : (g : Over) (c : goal.After-self-1 g)
    → c.edit_alone.new.self ≡ after c.self.inside.system (edit_of (full_of g) c.args.d ∷ [])
changed g c =
    let only = only_bot c.self.inside.system.bots (ap (λ (v : Situation). length v.state.bots) c.self.view_is ∙ c.requires.alone.one) in
    c.edit_alone.ensures.value only.0 c.args.d only.1 (c.in-Ok.ensures.named only.0 only.1)

one_left : (g : Over) (c : goal.After-self-1 g) → length c.edit_alone.new.self.bots ≡ 1
one_left g c = ap length c.edit_alone.ensures.bots ∙ (ap (λ (v : Situation). length v.state.bots) c.self.view_is ∙ c.requires.alone.one)

pub invariant_of-self-2 : goal.invariant_of-self-2
invariant_of-self-2 g c =
    let state : State = c.self.inside.system in
    let settled_there = settled g c in
    let rises = subst (λ (k : Command). (after state (k ∷ [])).energy <ℤ (state.energy +ℤ pos 3000000000)) c.edit.ensures c.recall_step.ensures.rises in
    let falls = subst (λ (k : Command). state.energy <ℤ ((after state (k ∷ [])).energy +ℤ pos 3000000000)) c.edit.ensures c.recall_step.ensures.falls in
    sound_on state c.edit_alone.new.self (edit_of (full_of g) c.args.d ∷ []) c.self.inside.forest c.settle_at_once.new.forest c.self.inside.changed c.self.inside.changed c.self.inside.steps c.self.inside.spent c.args.self.now c.self.invariant c.self.view_is c.requires.steps
    (changed g c) settled_there.stands settled_there.tied c.self.invariant.room rises falls

pub returns-clause-made : goal.returns-clause-made
returns-clause-made g c = λ _ fault.
    let state : State = c.self.inside.system in
    let commands : List Command = edit_of (full_of g) c.args.d ∷ [] in
    let settled_there = settled g c in
    let formed = subst (λ (k : Command). (t : State) (step : ℕ) → IsWellFormed state → Next state (k ∷ []) step (Goes t) → IsWellFormed t) c.edit.ensures c.recall_step.ensures.well_formed in
    made state commands c.self.inside.steps c.self.inside.spent c.args.self.now c.self.view_is (ap (λ (v : Situation). v.spent) c.self.view_is ∙ c.requires.alone.stands) c.args.steps.now
    c.args.steps.now (keeps g c) (omega arith)
    c.edit_alone.new.self c.settle_at_once.new.forest (record { energy = c.edit_alone.new.self.energy; halted = false }) c.settle_at_once.new.steps c.settle_at_once.new.steps settled_there (changed g c) refl (bots_left c.edit_alone.new.self.bots (one_left g c))
    (formed_on state c.edit_alone.new.self commands (c.self.inside.steps + 1) formed settled_there.goes (changed g c))
    (omega arith)

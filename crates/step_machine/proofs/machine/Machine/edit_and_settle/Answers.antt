use Rattle.std.proofs.Common.{◌≡◌, ℕ, ◌+◌, ◌≤◌, refl, false, sym, ◌∙◌, ap, subst, arith, eqb, length, List, [], ◌∷◌, Bool, not, pos}
use Rattle.std.specs.Prelude.{None, Some, Err, ◌<ℤ◌, ◌+ℤ◌}
use Rattle.std.proofs.lemmas.Int.{ints}
use Rattle.nano_spec.specs.declared.commands.Command.{Command}
use Rattle.nano_spec.specs.Next.{Goes, Next}
use Rattle.nano_spec.specs.Rules.{broken}
use Rattle.nano_spec.specs.State.{IsWellFormed, State}
use Rattle.nano_spec.specs.Step.{after}
use Rattle.step_groups.specs.Judging.{edit_of, rule_broken}
use Rattle.step_machine.specs.declared.machine.StepFault.TheVariants as fault
use Rattle.step_machine.specs.Settling.{IsSettled, IsUnsettled}
use Rattle.step_machine.specs.Situation.{Situation}
use Rattle.step_machine.specs.Stepped.{Stepped}
use Rattle.step_machine.proofs.Answering.{bots_left, broken_at_start, made, not_settled}
use Rattle.step_machine.proofs.Declining.{declined_broken, declined_few}
use Rattle.step_machine.proofs.Stepping.{formed_on, sound_on}
use Rattle.step_machine.proofs.Still.{only_bot}
use Rattle.step_machine.proofs.machine.Machine.edit_and_settle.Given.{Over}
use Rattle.step_machine.proofs.machine.Machine.edit_and_settle.Goals as goal

-- whether the voxel is filled, by the constant of the proof
abbrev full_of : Over → Bool
full_of g = not (eqb g.row.FULL 0)

pub edit_alone-requires-clause-payable : goal.edit_alone-requires-clause-payable
edit_alone-requires-clause-payable g c =
    let paid = c.self.invariant.paid in
    let few = c.self.invariant.few in
    record { above = omega (arith, ints, paid.above, few); below = omega (arith, ints, paid.below, few) }

pub returns-in-Err : goal.returns-in-Err
returns-in-Err g c = λ began declined.
    let state : State = c.self.inside.system in
    let commands : List Command = edit_of (full_of g) c.args.d ∷ [] in
    let stands : c.self.inside.spent ≡ false = ap (λ (v : Situation). v.spent) c.self.view_is ∙ c.requires.stands in
    let breaks : broken state commands (c.self.inside.steps + 1) ≡ Some c.in-Err.broken = sym c.judge_edit.ensures.value ∙ ap rule_broken c.in-Err.is in
    let first = declined_broken state commands c.self.inside.steps c.self.inside.spent c.args.self.now c.self.view_is began c.args.steps.now c.in-Err.broken breaks declined in
    subst (λ (w : Situation). Stepped c.args.self.now w commands (Err (fault.Broken c.in-Err.broken)) began c.args.steps.now) c.self.view_is
    (broken_at_start state commands c.self.inside.steps c.self.inside.spent c.args.self.now c.self.view_is stands began
    c.in-Err.broken c.args.steps.now breaks (omega (arith, first)) (λ lacks. first))

pub returns-in-Err-settle_one : goal.returns-in-Err-settle_one
returns-in-Err-settle_one g c = λ began declined.
    let state : State = c.self.inside.system in
    let stands : c.self.inside.spent ≡ false = ap (λ (v : Situation). v.spent) c.self.view_is ∙ c.requires.stands in
    let few = declined_few c.args.self.now.state (edit_of (full_of g) c.args.d ∷ []) (c.args.self.now.steps + 1) began c.args.steps.now declined in
    not_settled state (edit_of (full_of g) c.args.d ∷ []) c.self.inside.steps c.self.inside.spent c.args.self.now c.self.view_is stands began
    began (sym c.judge_edit.ensures.value ∙ ap rule_broken c.in-Ok.is) (omega arith) c.in-Err-settle_one.unsettled c.settle_one.new.steps
    (subst (λ (k : Command). IsUnsettled state (k ∷ []) (c.self.inside.steps + 1) c.in-Err-settle_one.unsettled began c.settle_one.new.steps) c.edit.ensures (c.in-Err-settle_one.ensures.unsettled began few))

keeps : (g : Over) (c : goal.After-self-2-1 g)
    → broken c.self.inside.system (edit_of (full_of g) c.args.d ∷ []) (c.self.inside.steps + 1) ≡ None
keeps g c = sym c.judge_edit.ensures.value ∙ ap rule_broken c.in-Ok.is

settled : (g : Over) (c : goal.After-self-2-1 g) (began : ℕ) → c.args.steps.now ≤ began + 9
    → IsSettled c.self.inside.system (edit_of (full_of g) c.args.d ∷ [])
    (c.self.inside.steps + 1) c.settle_one.new.forest began c.settle_one.new.steps
settled g c began few = subst (λ (k : Command). IsSettled c.self.inside.system (k ∷ []) (c.self.inside.steps + 1) c.settle_one.new.forest began c.settle_one.new.steps) c.edit.ensures (c.in-Ok-settle_one.ensures.settled began few)

changed : (g : Over) (c : goal.After-self-2-1 g)
    → c.edit_alone.new.self ≡ after c.self.inside.system (edit_of (full_of g) c.args.d ∷ [])
changed g c =
    let only = only_bot c.self.inside.system.bots (ap (λ (v : Situation). length v.state.bots) c.self.view_is ∙ c.requires.one) in
    c.edit_alone.ensures.value only.0 c.args.d only.1 (c.in-Ok.ensures.named only.0 only.1)

one_left : (g : Over) (c : goal.After-self-2-1 g) → length c.edit_alone.new.self.bots ≡ 1
one_left g c = ap length c.edit_alone.ensures.bots ∙ (ap (λ (v : Situation). length v.state.bots) c.self.view_is ∙ c.requires.one)

pub invariant_of-self-2 : goal.invariant_of-self-2
invariant_of-self-2 g c =
    let state : State = c.self.inside.system in
    let settled_there = settled g c c.args.steps.now (omega arith) in
    let rises = subst (λ (k : Command). (after state (k ∷ [])).energy <ℤ (state.energy +ℤ pos 3000000000)) c.edit.ensures c.recall_step.ensures.rises in
    let falls = subst (λ (k : Command). state.energy <ℤ ((after state (k ∷ [])).energy +ℤ pos 3000000000)) c.edit.ensures c.recall_step.ensures.falls in
    sound_on state c.edit_alone.new.self (edit_of (full_of g) c.args.d ∷ []) c.self.inside.forest c.settle_one.new.forest c.self.inside.changed c.self.inside.changed c.self.inside.steps c.self.inside.spent c.args.self.now c.self.invariant c.self.view_is c.requires.steps
    (changed g c) settled_there.stands settled_there.tied c.self.invariant.room rises falls

pub returns : goal.returns
returns g c = λ began declined.
    let state : State = c.self.inside.system in
    let commands : List Command = edit_of (full_of g) c.args.d ∷ [] in
    let few = declined_few c.args.self.now.state commands (c.args.self.now.steps + 1) began c.args.steps.now declined in
    let settled_there = settled g c began few in
    let formed = subst (λ (k : Command). (t : State) (step : ℕ) → IsWellFormed state → Next state (k ∷ []) step (Goes t) → IsWellFormed t) c.edit.ensures c.recall_step.ensures.well_formed in
    made state commands c.self.inside.steps c.self.inside.spent c.args.self.now c.self.view_is (ap (λ (v : Situation). v.spent) c.self.view_is ∙ c.requires.stands) began
    began (keeps g c) (omega arith)
    c.edit_alone.new.self c.settle_one.new.forest (record { energy = c.edit_alone.new.self.energy; halted = false }) c.settle_one.new.steps c.settle_one.new.steps settled_there (changed g c) refl (bots_left c.edit_alone.new.self.bots (one_left g c))
    (formed_on state c.edit_alone.new.self commands (c.self.inside.steps + 1) formed settled_there.goes (changed g c))
    (omega arith)

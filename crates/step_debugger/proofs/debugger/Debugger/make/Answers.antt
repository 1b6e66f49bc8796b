use Rattle.std.proofs.Common.{sym, ◌∙◌, ap, subst, List, take, drop}
use Rattle.nano_spec.specs.declared.commands.Command.{Command}
use Rattle.step_machine.specs.Restoring.{IsNotMade}
use Rattle.step_machine.specs.declared.machine.StepFault.{StepFault}
use Rattle.step_debugger.proofs.Making.{all_given, kept_dropped, kept_made, refused_within, session_made, session_refused, session_ungrounded, some_bots, step_within}
use Rattle.step_debugger.proofs.debugger.Debugger.make.Goals as goal

pub invariant_of-self : goal.invariant_of-self
invariant_of-self g c =
    let count = c.from.ensures ∙ c.active-count.ensures in
    let next = c.next_commands-next.ensures ∙ ((λ i. take (sym c.from.ensures i) (drop c.self.inside.taken (c.as_slice.ensures i)))) in
    let all = all_given c.self.inside.machine c.self.inside.history c.self.inside.commands c.self.inside.taken c.self.inside.begun.items c.self.inside.left.items c.self.inside.middle c.args.self.now c.self.view_is c.self.invariant c.requires.stands c.from.result c.next_commands-next.result.now count next c.requires.all in
    let some = some_bots c.self.inside.machine c.self.inside.history c.self.inside.commands c.self.inside.taken c.self.inside.begun.items c.self.inside.left.items c.self.inside.middle c.args.self.now c.self.view_is c.self.invariant c.requires.stands c.from.result c.next_commands-next.result.now count next c.requires.some in
    kept_made c.self.inside.machine c.self.inside.history c.self.inside.commands c.self.inside.taken c.self.inside.begun.items c.self.inside.left.items c.self.inside.middle c.args.self.now c.self.view_is c.self.invariant c.requires.stands c.from.result c.next_commands-next.result.now count next all some c.step_noted.new.self c.in-Ok.undo c.in-Ok.ok c.args.steps.now c.step_noted.new.steps c.in-Ok.ensures.made c.in-Ok.ensures.before c.in-Ok.ensures.counted c.in-Ok.ensures.undo
    c.push_back.new.self c.push_back.ensures.items c.clear.new.self.items c.clear.ensures c.copy-self-inside.result (c.copy-self-inside.ensures ∙ c.crew.ensures.value) c.crew.ensures.ready

pub returns-in-Ok-clause-touches : goal.returns-in-Ok-clause-touches
returns-in-Ok-clause-touches g c =
    let count = c.from.ensures ∙ c.active-count.ensures in
    let next = c.next_commands-next.ensures ∙ ((λ i. take (sym c.from.ensures i) (drop c.self.inside.taken (c.as_slice.ensures i)))) in
    let all = all_given c.self.inside.machine c.self.inside.history c.self.inside.commands c.self.inside.taken c.self.inside.begun.items c.self.inside.left.items c.self.inside.middle c.args.self.now c.self.view_is c.self.invariant c.requires.stands c.from.result c.next_commands-next.result.now count next c.requires.all in
    let some = some_bots c.self.inside.machine c.self.inside.history c.self.inside.commands c.self.inside.taken c.self.inside.begun.items c.self.inside.left.items c.self.inside.middle c.args.self.now c.self.view_is c.self.invariant c.requires.stands c.from.result c.next_commands-next.result.now count next c.requires.some in
    step_within c.self.inside.machine c.self.inside.history c.self.inside.commands c.self.inside.taken c.self.inside.begun.items c.self.inside.left.items c.self.inside.middle c.args.self.now c.self.view_is c.self.invariant c.requires.stands c.from.result c.next_commands-next.result.now count next all some c.step_noted.new.self c.in-Ok.undo c.in-Ok.ok c.args.steps.now c.step_noted.new.steps c.in-Ok.ensures.made c.in-Ok.ensures.before c.in-Ok.ensures.counted c.in-Ok.ensures.undo
    c.push_back.new.self c.push_back.ensures.items

pub returns-in-Ok-clause-session : goal.returns-in-Ok-clause-session
returns-in-Ok-clause-session g c =
    let count = c.from.ensures ∙ c.active-count.ensures in
    let next = c.next_commands-next.ensures ∙ ((λ i. take (sym c.from.ensures i) (drop c.self.inside.taken (c.as_slice.ensures i)))) in
    let all = all_given c.self.inside.machine c.self.inside.history c.self.inside.commands c.self.inside.taken c.self.inside.begun.items c.self.inside.left.items c.self.inside.middle c.args.self.now c.self.view_is c.self.invariant c.requires.stands c.from.result c.next_commands-next.result.now count next c.requires.all in
    let some = some_bots c.self.inside.machine c.self.inside.history c.self.inside.commands c.self.inside.taken c.self.inside.begun.items c.self.inside.left.items c.self.inside.middle c.args.self.now c.self.view_is c.self.invariant c.requires.stands c.from.result c.next_commands-next.result.now count next c.requires.some in
    session_made c.self.inside.machine c.self.inside.history c.self.inside.commands c.self.inside.taken c.self.inside.begun.items c.self.inside.left.items c.self.inside.middle c.args.self.now c.self.view_is c.self.invariant c.requires.stands c.from.result c.next_commands-next.result.now count next all some c.step_noted.new.self c.in-Ok.undo c.in-Ok.ok c.args.steps.now c.step_noted.new.steps c.in-Ok.ensures.made c.in-Ok.ensures.before c.in-Ok.ensures.counted c.in-Ok.ensures.undo
    c.push_back.new.self c.push_back.ensures.items c.clear.new.self.items c.clear.ensures

pub returns-then-not-drops_groups-clause-session : goal.returns-then-not-drops_groups-clause-session
returns-then-not-drops_groups-clause-session g c =
    let count = c.active-count.ensures in
    let next = c.next_commands-next.ensures ∙ ap (λ (xs : List Command). take c.active-count.result (drop c.self.inside.taken xs)) c.as_slice.ensures in
    let all = all_given c.self.inside.machine c.self.inside.history c.self.inside.commands c.self.inside.taken c.self.inside.begun.items c.self.inside.left.items c.self.inside.middle c.args.self.now c.self.view_is c.self.invariant c.requires.stands c.active-count.result c.next_commands-next.result.now count next c.requires.all in
    let some = some_bots c.self.inside.machine c.self.inside.history c.self.inside.commands c.self.inside.taken c.self.inside.begun.items c.self.inside.left.items c.self.inside.middle c.args.self.now c.self.view_is c.self.invariant c.requires.stands c.active-count.result c.next_commands-next.result.now count next c.requires.some in
    let refusal = subst (λ (f : StepFault). IsNotMade c.self.inside.machine c.step_noted.new.self c.next_commands-next.result.now f c.args.steps.now c.step_noted.new.steps) c.in-Err-Broken.field-0-is c.in-Err-Broken.ensures.refused in
    session_refused c.self.inside.machine c.self.inside.history c.self.inside.commands c.self.inside.taken c.self.inside.begun.items c.self.inside.left.items c.self.inside.middle c.args.self.now c.self.view_is c.self.invariant c.requires.stands c.active-count.result c.next_commands-next.result.now count next all some c.step_noted.new.self c.in-Err-Broken.broken c.args.steps.now c.step_noted.new.steps refusal
    (λ rule. let ungrounded = c.drops_groups.ensures.1 rule in let other = c.if-not-drops_groups.true in cc)

pub invariant_of-self-in-Err-Broken : goal.invariant_of-self-in-Err-Broken
invariant_of-self-in-Err-Broken g c =
    let count = c.active-count.ensures in
    let next = c.next_commands-next.ensures ∙ ap (λ (xs : List Command). take c.active-count.result (drop c.self.inside.taken xs)) c.as_slice.ensures in
    let all = all_given c.self.inside.machine c.self.inside.history c.self.inside.commands c.self.inside.taken c.self.inside.begun.items c.self.inside.left.items c.self.inside.middle c.args.self.now c.self.view_is c.self.invariant c.requires.stands c.active-count.result c.next_commands-next.result.now count next c.requires.all in
    let some = some_bots c.self.inside.machine c.self.inside.history c.self.inside.commands c.self.inside.taken c.self.inside.begun.items c.self.inside.left.items c.self.inside.middle c.args.self.now c.self.view_is c.self.invariant c.requires.stands c.active-count.result c.next_commands-next.result.now count next c.requires.some in
    let refusal = subst (λ (f : StepFault). IsNotMade c.self.inside.machine c.step_noted.new.self c.next_commands-next.result.now f c.args.steps.now c.step_noted.new.steps) c.in-Err-Broken.field-0-is c.in-Err-Broken.ensures.refused in
    kept_dropped c.self.inside.machine c.self.inside.history c.self.inside.commands c.self.inside.taken c.self.inside.begun.items c.self.inside.left.items c.self.inside.middle c.args.self.now c.self.view_is c.self.invariant c.requires.stands c.active-count.result c.next_commands-next.result.now count next all some c.step_noted.new.self c.in-Err-Broken.broken c.args.steps.now c.step_noted.new.steps refusal
    c.clear-in-Err-Broken.new.self.items c.clear-in-Err-Broken.ensures c.copy-self-inside-in-Err-Broken.result (c.copy-self-inside-in-Err-Broken.ensures ∙ c.crew-in-Err-Broken.ensures.value) c.crew-in-Err-Broken.ensures.ready

pub returns-else-not-drops_groups-clause-session : goal.returns-else-not-drops_groups-clause-session
returns-else-not-drops_groups-clause-session g c =
    let count = c.active-count.ensures in
    let next = c.next_commands-next.ensures ∙ ap (λ (xs : List Command). take c.active-count.result (drop c.self.inside.taken xs)) c.as_slice.ensures in
    let all = all_given c.self.inside.machine c.self.inside.history c.self.inside.commands c.self.inside.taken c.self.inside.begun.items c.self.inside.left.items c.self.inside.middle c.args.self.now c.self.view_is c.self.invariant c.requires.stands c.active-count.result c.next_commands-next.result.now count next c.requires.all in
    let some = some_bots c.self.inside.machine c.self.inside.history c.self.inside.commands c.self.inside.taken c.self.inside.begun.items c.self.inside.left.items c.self.inside.middle c.args.self.now c.self.view_is c.self.invariant c.requires.stands c.active-count.result c.next_commands-next.result.now count next c.requires.some in
    let refusal = subst (λ (f : StepFault). IsNotMade c.self.inside.machine c.step_noted.new.self c.next_commands-next.result.now f c.args.steps.now c.step_noted.new.steps) c.in-Err-Broken.field-0-is c.in-Err-Broken.ensures.refused in
    session_ungrounded c.self.inside.machine c.self.inside.history c.self.inside.commands c.self.inside.taken c.self.inside.begun.items c.self.inside.left.items c.self.inside.middle c.args.self.now c.self.view_is c.self.invariant c.requires.stands c.active-count.result c.next_commands-next.result.now count next all some c.step_noted.new.self c.in-Err-Broken.broken c.args.steps.now c.step_noted.new.steps refusal
    c.clear-in-Err-Broken.new.self.items c.clear-in-Err-Broken.ensures (c.drops_groups.ensures.0 c.if-not-drops_groups.false)

pub returns-then-not-drops_groups-clause-touches_refused : goal.returns-then-not-drops_groups-clause-touches_refused
returns-then-not-drops_groups-clause-touches_refused g c =
    let count = c.active-count.ensures in
    let next = c.next_commands-next.ensures ∙ ap (λ (xs : List Command). take c.active-count.result (drop c.self.inside.taken xs)) c.as_slice.ensures in
    let all = all_given c.self.inside.machine c.self.inside.history c.self.inside.commands c.self.inside.taken c.self.inside.begun.items c.self.inside.left.items c.self.inside.middle c.args.self.now c.self.view_is c.self.invariant c.requires.stands c.active-count.result c.next_commands-next.result.now count next c.requires.all in
    let some = some_bots c.self.inside.machine c.self.inside.history c.self.inside.commands c.self.inside.taken c.self.inside.begun.items c.self.inside.left.items c.self.inside.middle c.args.self.now c.self.view_is c.self.invariant c.requires.stands c.active-count.result c.next_commands-next.result.now count next c.requires.some in
    let refusal = subst (λ (f : StepFault). IsNotMade c.self.inside.machine c.step_noted.new.self c.next_commands-next.result.now f c.args.steps.now c.step_noted.new.steps) c.in-Err-Broken.field-0-is c.in-Err-Broken.ensures.refused in
    refused_within c.self.inside.machine c.self.inside.history c.self.inside.commands c.self.inside.taken c.self.inside.begun.items c.self.inside.left.items c.self.inside.middle c.args.self.now c.self.view_is c.self.invariant c.requires.stands c.active-count.result c.next_commands-next.result.now count next all some c.step_noted.new.self c.in-Err-Broken.broken c.args.steps.now c.step_noted.new.steps refusal

pub returns-else-not-drops_groups-clause-touches_refused : goal.returns-else-not-drops_groups-clause-touches_refused
returns-else-not-drops_groups-clause-touches_refused g c =
    let count = c.active-count.ensures in
    let next = c.next_commands-next.ensures ∙ ap (λ (xs : List Command). take c.active-count.result (drop c.self.inside.taken xs)) c.as_slice.ensures in
    let all = all_given c.self.inside.machine c.self.inside.history c.self.inside.commands c.self.inside.taken c.self.inside.begun.items c.self.inside.left.items c.self.inside.middle c.args.self.now c.self.view_is c.self.invariant c.requires.stands c.active-count.result c.next_commands-next.result.now count next c.requires.all in
    let some = some_bots c.self.inside.machine c.self.inside.history c.self.inside.commands c.self.inside.taken c.self.inside.begun.items c.self.inside.left.items c.self.inside.middle c.args.self.now c.self.view_is c.self.invariant c.requires.stands c.active-count.result c.next_commands-next.result.now count next c.requires.some in
    let refusal = subst (λ (f : StepFault). IsNotMade c.self.inside.machine c.step_noted.new.self c.next_commands-next.result.now f c.args.steps.now c.step_noted.new.steps) c.in-Err-Broken.field-0-is c.in-Err-Broken.ensures.refused in
    refused_within c.self.inside.machine c.self.inside.history c.self.inside.commands c.self.inside.taken c.self.inside.begun.items c.self.inside.left.items c.self.inside.middle c.args.self.now c.self.view_is c.self.invariant c.requires.stands c.active-count.result c.next_commands-next.result.now count next all some c.step_noted.new.self c.in-Err-Broken.broken c.args.steps.now c.step_noted.new.steps refusal

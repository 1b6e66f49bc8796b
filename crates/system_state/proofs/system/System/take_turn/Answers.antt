use Rattle.std.proofs.Common.{◌≡◌, ◌+◌, ◌≤◌, ◌∙◌, sym, ap, subst}
use Rattle.std.specs.Prelude.{IfSome, Option, Some}
use Rattle.nano_spec.specs.declared.commands.Command.{Command}
use Rattle.nano_spec.specs.declared.system.Bot.{Bot}
use Rattle.nano_spec.specs.State.{State}
use Rattle.bot_crew.specs.Crew.{bot_of}
use Rattle.system_state.specs.Effects.{after_turn}
use Rattle.system_state.specs.Painting.{met_count}
use Rattle.system_state.proofs.Still.{waited}
use Rattle.system_state.proofs.system.System.take_turn.Goals as goal

pub returns-in-Wait-clause-value : goal.returns-in-Wait-clause-value
returns-in-Wait-clause-value g c =
    let old : State = record { matrix = c.self.inside.matrix; harmonics = c.self.inside.harmonics; bots = c.self.inside.crew; energy = c.self.inside.energy; profile = c.self.inside.profile } in
    subst (λ (t : State). IfSome (bot_of t.bots c.args.turn.leader) (λ bot. t ≡ after_turn t bot c.args.turn.partner c.args.command.now)) c.self.view_is
    (subst (λ (o : Option Bot). IfSome o (λ bot. old ≡ after_turn old bot c.args.turn.partner c.args.command.now)) c.in-Some.ensures
    (waited old c.in-Some.bot c.args.turn.partner c.recall.ensures.whole.voxels ∙ ap (after_turn old c.in-Some.bot c.args.turn.partner) (sym c.in-Wait.is)))

pub returns-in-SMove-clause-value : goal.returns-in-SMove-clause-value
returns-in-SMove-clause-value g c =
    let found : Some c.in-Some.bot ≡ bot_of c.args.self.now.bots c.args.turn.leader = c.in-Some.ensures ∙ ap (λ (t : State). bot_of t.bots c.args.turn.leader) c.self.view_is in
    subst (λ (o : Option Bot). IfSome o (λ bot. c.take_move.new.self ≡ after_turn c.args.self.now bot c.args.turn.partner c.args.command.now)) found
    (c.take_move.ensures.value c.args.turn.partner ∙ ap (after_turn c.args.self.now c.in-Some.bot c.args.turn.partner) (sym c.in-SMove.is))

pub returns-in-LMove-clause-value : goal.returns-in-LMove-clause-value
returns-in-LMove-clause-value g c =
    let found : Some c.in-Some.bot ≡ bot_of c.args.self.now.bots c.args.turn.leader = c.in-Some.ensures ∙ ap (λ (t : State). bot_of t.bots c.args.turn.leader) c.self.view_is in
    subst (λ (o : Option Bot). IfSome o (λ bot. c.take_moves.new.self ≡ after_turn c.args.self.now bot c.args.turn.partner c.args.command.now)) found
    (c.take_moves.ensures.value c.args.turn.partner ∙ ap (after_turn c.args.self.now c.in-Some.bot c.args.turn.partner) (sym c.in-LMove.is))

pub returns-in-Fill-clause-value : goal.returns-in-Fill-clause-value
returns-in-Fill-clause-value g c =
    let found : Some c.in-Some.bot ≡ bot_of c.args.self.now.bots c.args.turn.leader = c.in-Some.ensures ∙ ap (λ (t : State). bot_of t.bots c.args.turn.leader) c.self.view_is in
    subst (λ (o : Option Bot). IfSome o (λ bot. c.take_edit.new.self ≡ after_turn c.args.self.now bot c.args.turn.partner c.args.command.now)) found
    (c.take_edit.ensures.value c.args.turn.partner ∙ ap (after_turn c.args.self.now c.in-Some.bot c.args.turn.partner) (sym c.in-Fill.is))

pub returns-in-Void-clause-value : goal.returns-in-Void-clause-value
returns-in-Void-clause-value g c =
    let found : Some c.in-Some.bot ≡ bot_of c.args.self.now.bots c.args.turn.leader = c.in-Some.ensures ∙ ap (λ (t : State). bot_of t.bots c.args.turn.leader) c.self.view_is in
    subst (λ (o : Option Bot). IfSome o (λ bot. c.take_edit-in-Void.new.self ≡ after_turn c.args.self.now bot c.args.turn.partner c.args.command.now)) found
    (c.take_edit-in-Void.ensures.value c.args.turn.partner ∙ ap (after_turn c.args.self.now c.in-Some.bot c.args.turn.partner) (sym c.in-Void.is))

pub returns-in-Fill-clause-touches : goal.returns-in-Fill-clause-touches
returns-in-Fill-clause-touches g c =
    let found : Some c.in-Some.bot ≡ bot_of c.args.self.now.bots c.args.turn.leader = c.in-Some.ensures ∙ ap (λ (t : State). bot_of t.bots c.args.turn.leader) c.self.view_is in
    subst (λ (o : Option Bot). IfSome o (λ bot. c.take_edit.new.steps ≤ c.args.steps.now + met_count c.args.self.now.matrix bot c.args.command.now)) found
    (subst (λ (k : Command). c.take_edit.new.steps ≤ c.args.steps.now + met_count c.args.self.now.matrix c.in-Some.bot k) (sym c.in-Fill.is) c.take_edit.ensures.touches)

pub returns-in-Void-clause-touches : goal.returns-in-Void-clause-touches
returns-in-Void-clause-touches g c =
    let found : Some c.in-Some.bot ≡ bot_of c.args.self.now.bots c.args.turn.leader = c.in-Some.ensures ∙ ap (λ (t : State). bot_of t.bots c.args.turn.leader) c.self.view_is in
    subst (λ (o : Option Bot). IfSome o (λ bot. c.take_edit-in-Void.new.steps ≤ c.args.steps.now + met_count c.args.self.now.matrix bot c.args.command.now)) found
    (subst (λ (k : Command). c.take_edit-in-Void.new.steps ≤ c.args.steps.now + met_count c.args.self.now.matrix c.in-Some.bot k) (sym c.in-Void.is) c.take_edit-in-Void.ensures.touches)

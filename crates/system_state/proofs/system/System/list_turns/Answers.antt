use Rattle.std.proofs.Common.{◌≡◌, ◌<◌, ◌∙◌, ap, length, List, subst, sym}
use Rattle.std.specs.Prelude.{AllPairs}
use Rattle.nano_spec.specs.declared.system.Bot.{Bot}
use Rattle.nano_spec.specs.Act.{acts}
use Rattle.nano_spec.specs.Group.{leaders}
use Rattle.nano_spec.specs.State.{State}
use Rattle.step_groups.proofs.Lone.{all_lone}
use Rattle.system_state.specs.Turns.{AreTurns}
use Rattle.step_groups.proofs.Telling.{as_many_numbers}
use Rattle.system_state.proofs.system.System.list_turns.Goals as goal

pub list_turns-requires-clause-lengths : goal.list_turns-requires-clause-lengths
list_turns-requires-clause-lengths c = as_many_numbers c.bots-bots.result.now c.args.commands.now c.as_slice.result.now (c.requires ∙ (sym (ap (λ (s : State). length s.bots) c.self.view_is) ∙ sym (ap length c.bots-bots.ensures.value))) (c.as_slice.ensures.value ∙ c.number_groups-numbers.ensures)

pub returns-then-all_act_alone : goal.returns-then-all_act_alone
returns-then-all_act_alone c =
    let bots = c.bots-bots.result.now in
    let commands = c.args.commands.now in
    let bots_are : bots ≡ c.args.self.now.bots = c.bots-bots.ensures.value ∙ ap (λ (s : State). s.bots) c.self.view_is in
    let lengths : length commands ≡ length bots = c.requires ∙ sym (ap length bots_are) in
    let rising = subst (λ (bs : List Bot). AllPairs (λ a b. a.bid < b.bid) bs) (sym c.bots-bots.ensures.value) c.bots-bots.ensures.crew.rising in
    let lone = all_lone c.self.inside.matrix bots commands lengths rising (sym c.if-all_act_alone.ensures) in
    subst (λ (bs : List Bot). AreTurns (acts bs commands) (leaders (acts bs commands)) c.list_lone_turns.new.turns.items) bots_are (c.list_lone_turns.ensures commands lengths lone)

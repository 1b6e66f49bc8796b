use Rattle.std.proofs.Common.{◌<◌, sym, ◌∙◌, ap, subst, List, length, map, get_or}
use Rattle.std.specs.Prelude.{All}
use Rattle.std.specs.List.{Contains}
use Rattle.vox_geom.specs.Space.{IsInSpace}
use Rattle.nano_spec.specs.declared.system.Bot.{Bot}
use Rattle.nano_spec.specs.State.{State}
use Rattle.system_state.specs.declared.turns.Turn.{Turn}
use Rattle.system_state.specs.Effects.{MayTake}
use Rattle.system_state.specs.Turns.{leader_of}
use Rattle.system_state.proofs.Advancing.{turns_of}
use Rattle.system_state.proofs.Bots.{turn_within}
use Rattle.system_state.proofs.Following.{has_one, may, moved_on, never_none, place_there}
use Rattle.system_state.proofs.system.System.move_group.Goals as goal

pub turn_of-turn-requires : goal.turn_of-turn-requires
turn_of-turn-requires c =
    subst (λ (ts : List Turn). Contains (map leader_of ts) c.args.leader) (sym c.list.ensures)
    (has_one c.args.self.now c.args.commands.now c.requires.judged.0 c.recall.ensures.ready c.requires.judged.1 c.recall_all.ensures c.args.turns.now c.requires.turns c.args.leader c.requires.next.0 c.requires.next.1 c.args.crew.now c.requires.next.2)

pub returns-in_default-clause-bots : goal.returns-in_default-clause-bots
returns-in_default-clause-bots c = λ before rest f.
    absurd (never_none c.args.self.now c.args.commands.now c.requires.judged.0 c.recall.ensures.ready c.requires.judged.1 c.recall_all.ensures c.args.turns.now c.requires.turns c.args.leader c.turn_of-turn.result c.turn_of-turn.ensures.leader (subst (λ (ts : List Turn). Contains ts c.turn_of-turn.result) c.list.ensures c.turn_of-turn.ensures.is_one)
    (turns_of c.groups_take_turns.ensures.bots c.groups_take_turns.ensures.rules c.groups_take_turns.ensures.places c.groups_take_turns.ensures.next) before rest c.args.crew.now f c.recall-2.ensures.crew c.requires.within (sym c.bot.ensures ∙ c.in_default.is))

pub bounds-commands-from : goal.bounds-commands-from
bounds-commands-from c =
    subst (λ n. n < length c.args.commands.now) (sym c.from.ensures)
    (place_there c.args.self.now c.args.commands.now c.requires.judged.0 c.recall.ensures.ready c.requires.judged.1 c.recall_all.ensures c.args.turns.now c.requires.turns c.args.leader c.turn_of-turn.result c.turn_of-turn.ensures.leader (subst (λ (ts : List Turn). Contains ts c.turn_of-turn.result) c.list.ensures c.turn_of-turn.ensures.is_one)
    (turns_of c.groups_take_turns.ensures.bots c.groups_take_turns.ensures.rules c.groups_take_turns.ensures.places c.groups_take_turns.ensures.next) c.requires.next.0 c.requires.next.1 c.args.crew.now c.requires.next.2 c.recall-2.ensures.crew c.requires.within)

pub move_bots-requires : goal.move_bots-requires
move_bots-requires c =
    subst (λ n. MayTake n c.args.crew.now c.in-Some.bot c.turn_of-turn.result.partner c.index-commands-from.result) (sym (c.resolution.ensures.value ∙ ap (λ (s : State). s.matrix.resolution) c.self.view_is))
    (may c.args.self.now c.args.commands.now c.requires.judged.0 c.recall.ensures.ready c.requires.judged.1 c.recall_all.ensures c.args.turns.now c.requires.turns c.args.leader c.turn_of-turn.result c.turn_of-turn.ensures.leader (subst (λ (ts : List Turn). Contains ts c.turn_of-turn.result) c.list.ensures c.turn_of-turn.ensures.is_one)
    (turns_of c.groups_take_turns.ensures.bots c.groups_take_turns.ensures.rules c.groups_take_turns.ensures.places c.groups_take_turns.ensures.next) c.requires.next.0 c.requires.next.1 c.args.crew.now c.requires.next.2 c.recall-2.ensures.crew c.requires.within
    c.in-Some.bot c.index-commands-from.result (sym c.bot.ensures ∙ c.in-Some.is) (c.index-commands-from.is ∙ ap (λ n. get_or c.args.commands.now n c.index-commands-from.result) c.from.ensures))

pub returns-clause-bots : goal.returns-clause-bots
returns-clause-bots c = λ before rest f.
    moved_on c.args.self.now c.args.commands.now c.requires.judged.0 c.recall.ensures.ready c.requires.judged.1 c.recall_all.ensures c.args.turns.now c.requires.turns c.args.leader c.turn_of-turn.result c.turn_of-turn.ensures.leader (subst (λ (ts : List Turn). Contains ts c.turn_of-turn.result) c.list.ensures c.turn_of-turn.ensures.is_one)
    (turns_of c.groups_take_turns.ensures.bots c.groups_take_turns.ensures.rules c.groups_take_turns.ensures.places c.groups_take_turns.ensures.next) before rest c.args.crew.now f c.recall-2.ensures.crew c.requires.within
    c.group_is_replaced.ensures c.in-Some.bot c.index-commands-from.result c.move_bots.new.crew (sym c.bot.ensures ∙ c.in-Some.is) (c.index-commands-from.is ∙ ap (λ n. get_or c.args.commands.now n c.index-commands-from.result) c.from.ensures) c.move_bots.ensures

pub returns-clause-within : goal.returns-clause-within
returns-clause-within c =
    subst (λ (bots : List Bot). All (λ b. IsInSpace c.args.self.now.matrix.resolution b.pos) bots) (sym c.move_bots.ensures)
    (turn_within c.args.self.now.matrix.resolution c.args.crew.now c.in-Some.bot c.turn_of-turn.result.partner c.index-commands-from.result c.requires.within
    (may c.args.self.now c.args.commands.now c.requires.judged.0 c.recall.ensures.ready c.requires.judged.1 c.recall_all.ensures c.args.turns.now c.requires.turns c.args.leader c.turn_of-turn.result c.turn_of-turn.ensures.leader (subst (λ (ts : List Turn). Contains ts c.turn_of-turn.result) c.list.ensures c.turn_of-turn.ensures.is_one)
    (turns_of c.groups_take_turns.ensures.bots c.groups_take_turns.ensures.rules c.groups_take_turns.ensures.places c.groups_take_turns.ensures.next) c.requires.next.0 c.requires.next.1 c.args.crew.now c.requires.next.2 c.recall-2.ensures.crew c.requires.within
    c.in-Some.bot c.index-commands-from.result (sym c.bot.ensures ∙ c.in-Some.is) (c.index-commands-from.is ∙ ap (λ n. get_or c.args.commands.now n c.index-commands-from.result) c.from.ensures)))

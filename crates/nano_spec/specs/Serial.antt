-- The groups of a step one after another, in some order of their leaders: each starts in the state that those before it
-- leave (docs/FORMATS.md, "Groups").
use Rattle.std.specs.Prelude.{ℕ, ◌+ℤ◌, Bool, cond, ◌&&◌, not, ◌==◌, List, [], ◌∷◌, ◌++◌, map, filter, find, flat_map, unwrap_or, Option, Some, None, is_none}
use Rattle.std.specs.List.{list_all, list_any}
use Rattle.nano_spec.specs.declared.commands.Command.{Command}
use Rattle.nano_spec.specs.declared.system.Bot.{Bot}
use Rattle.nano_spec.specs.Act.{Act, acts}
use Rattle.nano_spec.specs.Bots.{in_rising_order, successors}
use Rattle.nano_spec.specs.Energy.{upkeep, groups_cost}
use Rattle.nano_spec.specs.Group.{leaders, members}
use Rattle.nano_spec.specs.Rules.{fault, rules_of_bots}
use Rattle.nano_spec.specs.State.{State}
use Rattle.nano_spec.specs.Step.{matrix_after, harmonics_after}

-- the bot with its current state among the bots of a state
abbrev pub bot_in : List Bot → Bot → Bot
bot_in bots bot = unwrap_or (find (λ b. b.bid == bot.bid) bots) bot

-- the group of a leader as it was found at the start, with the bots of a later state
abbrev pub group_in : State → List Act → Act → List Act
group_in s all leader = map (λ a. record { bot = bot_in s.bots a.bot; command = a.command }) (members all leader)

-- whether a bot is active in a state
abbrev pub is_active : State → Bot → Bool
is_active s bot = list_any (λ b. b.bid == bot.bid) s.bots

-- whether the bots of a group are active in a state and keep the rules of single bots there
abbrev pub keeps_rules : State → List Act → Bool
keeps_rules s group =
    list_all (λ a. is_active s a.bot && list_all (λ rule. is_none (fault s group a rule)) rules_of_bots) group

-- the bots that are not of the group
abbrev pub bots_outside : List Bot → List Act → List Bot
bots_outside bots group = filter (λ b. not (list_any (λ a. a.bot.bid == b.bid) group)) bots

-- the state after the acts of one group
abbrev pub after_group : State → List Act → State
after_group s group = record {
  matrix = matrix_after s.matrix group;
  harmonics = harmonics_after s.harmonics group;
  bots = in_rising_order (flat_map (λ a. successors group a a.command) group ++ bots_outside s.bots group);
  energy = s.energy +ℤ groups_cost s.matrix group;
  profile = s.profile;
}

-- the state after the groups of some leaders, one after another; none if a group breaks a rule in the state that it
-- starts in
abbrev pub in_turn : State → List Act → List Act → Option State
in_turn s all [] = Some s
in_turn s all (leader ∷ more) =
    cond (keeps_rules s (group_in s all leader)) (in_turn (after_group s (group_in s all leader)) all more) None

-- the acts of the bots with these bids, in their order
abbrev pub acts_of : List Act → List ℕ → List Act
acts_of all bids = flat_map (λ k. filter (λ a. a.bot.bid == k) all) bids

-- the upkeep, and then the groups of the leaders with these bids, in their order
abbrev pub serial : State → List Command → List ℕ → Option State
serial s commands order =
    in_turn (record s { energy = s.energy +ℤ upkeep s }) (acts s.bots commands) (acts_of (acts s.bots commands) order)

-- the bids of the leaders in rising order
abbrev pub leader_bids : List Act → List ℕ
leader_bids all = map (λ a. a.bot.bid) (leaders all)

-- The turns of the groups of a step (docs/FORMATS.md, "Groups").
use Rattle.std.specs.Prelude.{◌≡◌, ℕ, List, [], ◌∷◌, ◌++◌, filter, map, slice_get, slice_index_or, IsPermutation, Some}
use Rattle.nano_spec.specs.declared.commands.Command.{Command}
use Rattle.nano_spec.specs.declared.system.Bot.{Bot}
use Rattle.nano_spec.specs.Act.{Act, acts}
use Rattle.nano_spec.specs.Group.{are_together, leaders, members}
use Rattle.nano_spec.specs.Serial.{acts_of, leader_bids}
use Rattle.nano_spec.specs.State.{State}
use Rattle.step_order.specs.SomeGroups.{after_some}
use Rattle.system_state.specs.declared.turns.Turn.{Turn}
use Rattle.step_groups.specs.Groups.{bid_of}

-- the bid of the first of some acts in this act's group, or 0 if there is none
abbrev pub first_mate : Act → List Act → ℕ
first_mate a more = slice_index_or (map bid_of (filter (are_together a) more)) 0 0

-- the turn of the group that the act's bot leads: its index among the acts, and the bid of the second member, or 0 if it is
-- alone
pub record IsTurn (all : List Act) (a : Act) (t : Turn) : Type 0 where
  pub leader : t.leader ≡ a.bot.bid
  pub place : slice_get all t.place ≡ Some a
  pub partner : t.partner ≡ slice_index_or (map bid_of (members all a)) 1 0

-- the turns of the groups of these leaders, in their order
abbrev pub AreTurns : List Act → List Act → List Turn → Type 0
AreTurns all [] [] = Unit {0}
AreTurns all [] (t ∷ turns) = ⊥
AreTurns all (a ∷ firsts) [] = ⊥
AreTurns all (a ∷ firsts) (t ∷ turns) = IsTurn all a t × AreTurns all firsts turns

-- the bid of a turn's leader
abbrev pub leader_of : Turn → ℕ
leader_of t = t.leader

-- the turns of all groups of a step, each once, in some order of their leaders
pub record AreAllTurns (all : List Act) (turns : List Turn) : Type 0 where
  pub order : List Act
  pub groups : IsPermutation (leaders all) order
  pub each : AreTurns all order turns

-- the bots after the groups of the leaders with these bids
abbrev pub bots_after_some : State → List Command → List ℕ → List Bot
bots_after_some s commands bids = (after_some s (acts s.bots commands) (acts_of (acts s.bots commands) bids)).bots

-- the group of a leader is applied after those of some others, which led to the bots
pub record FollowsOn (s : State) (commands : List Command) (before : List ℕ) (leader : ℕ) (rest : List ℕ)
    (bots : List Bot) : Type 0 where
  pub leaders : IsPermutation (leader_bids (acts s.bots commands)) (before ++ leader ∷ rest)
  pub bots_are : bots ≡ bots_after_some s commands before

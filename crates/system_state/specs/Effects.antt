-- The condition and the effect of a group's turn, by the bot and the command of its leader (docs/FORMATS.md, "Commands").
use Rattle.std.specs.Prelude.{◌≡◌, ◌≢◌, ℕ, ◌+◌, ◌≤◌, ◌+ℤ◌, List, [], ◌∷◌, length, true, false, Some, option_map, unwrap_or, IfSome, IsNone, IsTrue}
use Rattle.vox_geom.specs.declared.coordinate.Coord.{Coord}
use Rattle.vox_geom.specs.Point.{point}
use Rattle.vox_geom.specs.Space.{IsInSpace}
use Rattle.nano_spec.specs.declared.commands.Command.{Command}
use Rattle.nano_spec.specs.declared.system.Bot.{Bot}
use Rattle.nano_spec.specs.Act.{stays_in_space}
use Rattle.nano_spec.specs.Bots.{fused, moved, newborn, parent}
use Rattle.nano_spec.specs.Energy.{group_cost}
use Rattle.nano_spec.specs.State.{State, seed_list}
use Rattle.nano_spec.specs.Step.{harmonics_after, matrix_after}
use Rattle.bot_crew.specs.Crew.{IsActive, bot_at, bot_of, replaced}
use Rattle.step_groups.specs.declared.deed.Deed.{Deed}
use Rattle.step_groups.specs.declared.deed.Deed.TheVariants.{Halts, Moves, Bends, Splits, Fuses}
use Rattle.step_groups.specs.Deeds.{deed_by}
use Rattle.step_groups.specs.Judging.{act}

-- no other bot is there
abbrev pub IsFreeFor : List Bot → Bot → Coord → Type 0
IsFreeFor bots bot c = IfSome (bot_at bots c) (λ b. b.bid ≡ bot.bid)

-- the conditions of the turn on the bots, by the bot's action
abbrev pub Needs : List Bot → Bot → ℕ → Deed → Type 0
Needs bots bot partner Halts = length bots ≡ 1
Needs bots bot partner (Moves to) = IsFreeFor bots bot to
Needs bots bot partner (Bends middle to) = IsFreeFor bots bot to
Needs bots bot partner (Splits to seeds) = IsNone (bot_at bots to) × (seeds + 1 ≤ length (seed_list bot.seeds))
Needs bots bot partner (Fuses place primary) = IsActive bots partner × (bot.bid ≢ partner)
Needs bots bot partner _ = Unit {0}

-- the turn of this bot's group is possible
pub record MayTake (r : ℕ) (bots : List Bot) (bot : Bot) (partner : ℕ) (command : Command) : Type 0 where
  pub active : bot_of bots bot.bid ≡ Some bot
  pub within : IsInSpace r bot.pos
  pub stays : IsTrue (stays_in_space r (act bot command))
  pub needs : Needs bots bot partner (deed_by (point bot.pos) command)

-- the partner is changed, if it is active
abbrev pub with_partner : List Bot → ℕ → (Bot → List Bot) → List Bot
with_partner bots partner change = unwrap_or (option_map change (bot_of bots partner)) bots

-- the bots after the turn, by the bot's action
abbrev pub bots_after_deed : List Bot → Bot → ℕ → Deed → List Bot
bots_after_deed bots bot partner Halts = []
bots_after_deed bots bot partner (Moves to) = replaced bots (bot.bid ∷ []) (moved bot (point to) ∷ [])
bots_after_deed bots bot partner (Bends middle to) = replaced bots (bot.bid ∷ []) (moved bot (point to) ∷ [])
bots_after_deed bots bot partner (Splits to seeds) =
    replaced bots (bot.bid ∷ []) (parent bot seeds ∷ newborn bot (point to) seeds ∷ [])
bots_after_deed bots bot partner (Fuses place true) =
    with_partner bots partner (λ other. replaced bots (bot.bid ∷ partner ∷ []) (fused bot other ∷ []))
bots_after_deed bots bot partner (Fuses place false) =
    with_partner bots partner (λ other. replaced bots (partner ∷ bot.bid ∷ []) (fused other bot ∷ []))
bots_after_deed bots bot partner _ = bots

-- the same by its command
abbrev pub bots_after_turn : List Bot → Bot → ℕ → Command → List Bot
bots_after_turn bots bot partner command = bots_after_deed bots bot partner (deed_by (point bot.pos) command)

-- the state after the turn
abbrev pub after_turn : State → Bot → ℕ → Command → State
after_turn s bot partner command = record {
  matrix = matrix_after s.matrix (act bot command ∷ []);
  harmonics = harmonics_after s.harmonics (act bot command ∷ []);
  bots = bots_after_turn s.bots bot partner command;
  energy = s.energy +ℤ group_cost s.matrix (point bot.pos) command;
  profile = s.profile;
}

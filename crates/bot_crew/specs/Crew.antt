-- The invariant of the active bots, and the effect of commands of one or two of them (docs/FORMATS.md, "State" and
-- "Commands").
use Rattle.std.specs.Prelude.{◌≢◌, ℕ, ◌<◌, ◌≤◌, ◌==◌, Bool, ◌&&◌, not, List, ◌++◌, length, filter, find, Option, IsTrue, IsFalse, IsSome, All, AllPairs}
use Rattle.std.specs.List.{list_any}
use Rattle.vox_geom.specs.declared.coordinate.Coord.{Coord}
use Rattle.nano_spec.specs.declared.system.Bot.{Bot}
use Rattle.nano_spec.specs.Bots.{in_rising_order}
use Rattle.nano_spec.specs.State.{AreDisjoint, is_seed}

-- the number of a bot or of a seed
abbrev pub IsBid : ℕ → Type 0
IsBid k = (1 ≤ k) × (k ≤ 40)

-- the active bots, in rising order of their bids, with nothing in common
pub record IsCrew (bots : List Bot) : Type 0 where
  -- there are at most 40
  pub most : length bots ≤ 40
  -- the bids rise
  pub rising : AllPairs (λ a b. a.bid < b.bid) bots
  -- the positions differ
  pub positions : AllPairs (λ a b. a.pos ≢ b.pos) bots
  -- no two bots have a seed in common
  pub seeds : AllPairs (λ a b. AreDisjoint a.seeds b.seeds) bots
  -- no bot has an active bid as a seed
  pub unborn : All (λ a. All (λ b. IsFalse (is_seed a.seeds b.bid)) bots) bots
  -- bids are 1 to 40
  pub bids : All (λ a. IsBid a.bid) bots
  -- seeds are 1 to 40
  pub numbers : All (λ a. (k : ℕ) → IsTrue (is_seed a.seeds k) → IsBid k) bots

-- the bot with a bid, if it is active
abbrev pub bot_of : List Bot → ℕ → Option Bot
bot_of bots bid = find (λ b. b.bid == bid) bots

-- whether a bot with the bid is active
abbrev pub IsActive : List Bot → ℕ → Type 0
IsActive bots bid = IsSome (bot_of bots bid)

-- whether the bot is at the coordinate
abbrev pub stands_at : Coord → Bot → Bool
stands_at c b = (b.pos.x == c.x) && ((b.pos.y == c.y) && (b.pos.z == c.z))

-- the bot at a coordinate, if there is one
abbrev pub bot_at : List Bot → Coord → Option Bot
bot_at bots c = find (stands_at c) bots

-- the bots but those with some bids
abbrev pub without : List Bot → List ℕ → List Bot
without bots bids = filter (λ b. not (list_any (λ k. k == b.bid) bids)) bots

-- the bots with those of some bids replaced by others
abbrev pub replaced : List Bot → List ℕ → List Bot → List Bot
replaced bots bids others = in_rising_order (others ++ without bots bids)

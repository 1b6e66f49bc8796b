-- The bots after a step (task description, section on commands; docs/FORMATS.md, "Commands").
use Rattle.std.specs.Prelude.{ℕ, ◌+◌, cond, ◌||◌, nat_lt, ◌==◌, List, [], ◌∷◌, take, drop, slice_index, filter, flat_map, find, Option, Some, None}
use Rattle.vox_geom.specs.Point.{Point, point, plus}
use Rattle.vox_geom.specs.Space.{coordinate}
use Rattle.nano_spec.specs.declared.commands.Command.{Command}
use Rattle.nano_spec.specs.declared.commands.Command.TheVariants.{Halt, SMove, LMove, FusionP, FusionS, Fission}
use Rattle.nano_spec.specs.declared.system.Bot.{Bot}
use Rattle.nano_spec.specs.Act.{Act}
use Rattle.nano_spec.specs.Group.{is_pair}
use Rattle.nano_spec.specs.State.{seed_numbers, is_seed, seed_set, seed_list}

-- the bot at another point
abbrev pub moved : Bot → Point → Bot
moved bot p = record { bid = bot.bid; pos = coordinate p; seeds = bot.seeds }

-- the new bot of a Fission takes the first seed as its bid, and the next m as its seeds
abbrev pub newborn : Bot → Point → ℕ → Bot
newborn bot p m =
    record {
      bid = slice_index (seed_list bot.seeds) 0;
      pos = coordinate p;
      seeds = seed_set (take m (drop 1 (seed_list bot.seeds)));
    }

-- the old bot of a Fission keeps the seeds after those
abbrev pub parent : Bot → ℕ → Bot
parent bot m = record { bid = bot.bid; pos = bot.pos; seeds = seed_set (drop (m + 1) (seed_list bot.seeds)) }

-- the primary of a fusion takes the secondary's bid and seeds as seeds
abbrev pub fused : Bot → Bot → Bot
fused bot other =
    record {
      bid = bot.bid;
      pos = bot.pos;
      seeds = seed_set (filter (λ k. is_seed bot.seeds k || is_seed other.seeds k || k == other.bid) seed_numbers);
    }

-- the primary of a fusion after it, by its partner; without one it breaks a rule, and stays
abbrev pub after_fusion : Bot → Option Act → Bot
after_fusion bot None = bot
after_fusion bot (Some partner) = fused bot partner.bot

-- the bots that replace a bot after its command
abbrev pub successors : List Act → Act → Command → List Bot
successors all a Halt = []
successors all a (SMove d) = moved a.bot (plus (point a.bot.pos) d) ∷ []
successors all a (LMove d e) = moved a.bot (plus (plus (point a.bot.pos) d) e) ∷ []
successors all a (FusionP d) = after_fusion a.bot (find (is_pair a) all) ∷ []
successors all a (FusionS d) = []
successors all a (Fission d m) = parent a.bot m ∷ newborn a.bot (plus (point a.bot.pos) d) m ∷ []
successors all a _ = a.bot ∷ []

-- bots in rising order of their bids, with one more
abbrev pub with_bot : Bot → List Bot → List Bot
with_bot bot [] = bot ∷ []
with_bot bot (b ∷ more) = cond (nat_lt bot.bid b.bid) (bot ∷ b ∷ more) (b ∷ with_bot bot more)

-- the bots in rising order of their bids
abbrev pub in_rising_order : List Bot → List Bot
in_rising_order [] = []
in_rising_order (b ∷ more) = with_bot b (in_rising_order more)

-- the bots after the step, in rising order of their bids
abbrev pub bots_after : List Act → List Bot
bots_after all = in_rising_order (flat_map (λ a. successors all a a.command) all)

use Rattle.std.proofs.Common.{◌<◌, ℕ, slice_index_or}
use Rattle.nano_spec.specs.declared.system.Bot.{Bot}
use Rattle.bot_crew.proofs.crew.place_of.Given as goal

abbrev pub invariant-loop-i : goal.invariant-loop-i
invariant-loop-i l = (k : ℕ) (d : Bot) → k < l.i → (slice_index_or l.bots k d).bid < l.bid

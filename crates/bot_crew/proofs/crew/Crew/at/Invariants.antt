use Rattle.std.proofs.Common.{◌≡◌, ◌<◌, ℕ, false, slice_index_or}
use Rattle.nano_spec.specs.declared.system.Bot.{Bot}
use Rattle.bot_crew.specs.Crew.{stands_at}
use Rattle.bot_crew.proofs.crew.Crew.at.Given as goal

abbrev pub invariant-loop-bot : goal.invariant-loop-bot
invariant-loop-bot l = (k : ℕ) (d : Bot) → k < l.bot-index → stands_at l.c (slice_index_or l.self k d) ≡ false

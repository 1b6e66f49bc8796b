use Rattle.std.proofs.Common.{◌≡◌, take}
use Rattle.bot_crew.proofs.crew.Crew.copy.Given as goal

abbrev pub invariant-loop-bot : goal.invariant-loop-bot
invariant-loop-bot l = l.bots.items ≡ take l.bot-index l.self

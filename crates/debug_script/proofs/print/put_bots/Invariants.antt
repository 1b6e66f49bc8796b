use Rattle.std.proofs.Common.{◌≡◌, ◌++◌, flat_map, take}
use Rattle.debug_script.specs.Printing.{bot_line}
use Rattle.debug_script.proofs.print.put_bots.Given as goal

abbrev pub invariant-loop-bot : goal.invariant-loop-bot
invariant-loop-bot l = l.text.items ≡ l.fn.text.items ++ flat_map bot_line (take l.bot-index l.bots)

use Rattle.std.proofs.Common.{take}
use Rattle.nano_spec.specs.Cutting.{AreCommands}
use Rattle.system_state.proofs.known.recall_all.Given as goal

abbrev pub invariant-loop-command : goal.invariant-loop-command
invariant-loop-command l = AreCommands (take l.command-index l.commands)

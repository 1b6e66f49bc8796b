-- The number of commands of a trace.
use Rattle.std.specs.Prelude.{◌≡◌, ℕ, List, length, Result, Ok, Err}
use Rattle.nano_spec.specs.declared.commands.Command.{Command}
use Rattle.nano_spec.specs.Cutting.{Cutting}
use Rattle.trace_codec.specs.declared.fault.TraceFault.{TraceFault}
use Rattle.trace_codec.specs.declared.fault.TraceFault.TheVariants as trace_fault
use Rattle.trace_codec.specs.declared.fault.TraceRefusal.TheVariants.{Bad, Cut}
use Rattle.trace_codec.specs.Whole.{Decodes}
use Rattle.machine_c.specs.declared.status.TheConstants.{COMMANDS, DONE, MEMORY}

-- the bytes spell `count` commands, or they are none
abbrev pub CountsCommands : List ℕ → Result ℕ TraceFault → Type 0
CountsCommands bytes (Ok count) = (commands : List Command) × Cutting bytes commands × (count ≡ length commands)
CountsCommands bytes (Err fault) = Decodes bytes (Err fault)

-- the status, the number, and the first byte of the bad or cut command
abbrev pub status_of_commands : Result ℕ TraceFault → ℕ
status_of_commands (Ok count) = DONE
status_of_commands (Err (trace_fault.Refused refusal)) = COMMANDS
status_of_commands (Err trace_fault.Memory) = MEMORY

abbrev pub commands_by : Result ℕ TraceFault → ℕ
commands_by (Ok count) = count
commands_by (Err fault) = 0

abbrev pub offset_of : Result ℕ TraceFault → ℕ
offset_of (Err (trace_fault.Refused (Bad offset))) = offset
offset_of (Err (trace_fault.Refused (Cut offset))) = offset
offset_of _ = 0

-- the call returns the number of commands that the bytes of a trace spell
abbrev pub AreCommandsTold : List ℕ → ℕ → ℕ → ℕ → Type 0
AreCommandsTold bytes count offset status =
    (answer : Result ℕ TraceFault) × CountsCommands bytes answer
    × (count ≡ commands_by answer) × (offset ≡ offset_of answer) × (status ≡ status_of_commands answer)

-- The commands that make a bot (docs/FORMATS.md, "Commands").
use Rattle.std.specs.Prelude.{ℕ, Bool, true, false, count_by}
use Rattle.nano_spec.specs.declared.commands.Command.{Command}
use Rattle.nano_spec.specs.declared.commands.Command.TheVariants.{Fission}
use Rattle.plan_tape.specs.Progress.{TapeState}

-- whether the command makes a bot
abbrev pub is_fission : Command → Bool
is_fission (Fission d m) = true
is_fission _ = false

-- the number of such commands of a tape
unfoldable pub fissions : TapeState → ℕ
fissions p = count_by is_fission p.commands

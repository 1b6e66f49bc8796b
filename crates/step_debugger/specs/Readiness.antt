-- The reasons why the next step cannot be judged.
use Rattle.std.specs.Prelude.{◌≡◌, ◌+◌, ◌≤◌, List, [], length, Some}
use Rattle.nano_spec.specs.declared.commands.Command.{Command}
use Rattle.nano_spec.specs.Rules.{broken}
use Rattle.step_debugger.specs.declared.fault.DebugFault.{DebugFault}
use Rattle.step_debugger.specs.declared.fault.DebugFault.TheVariants as fault
use Rattle.step_debugger.specs.Session.{SessionPoint, next_commands}

-- no bot is active, or the remaining commands break a rule
abbrev pub IsUnready : List Command → SessionPoint → DebugFault → Type 0
IsUnready commands p fault.Ended = p.state.bots ≡ []
IsUnready commands p (fault.Broken b) =
    (1 ≤ length p.state.bots) × (broken p.state (next_commands commands p) (p.steps + 1) ≡ Some b)
IsUnready commands p fault.NoHistory = ⊥
IsUnready commands p (fault.NotLeader leader) = ⊥
IsUnready commands p fault.Memory = ⊥

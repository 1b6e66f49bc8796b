-- The answers of a debugger's calls, as lines of a script.
use Rattle.std.specs.Prelude.{ℕ, ◌+◌, Option, Some, None, Result, Ok, Err}
use Rattle.step_machine.specs.declared.machine.StepOk.{StepOk}
use Rattle.step_debugger.specs.declared.fault.DebugFault.{DebugFault}
use Rattle.step_debugger.specs.declared.fault.DebugFault.TheVariants as fault
use Rattle.step_debugger.specs.Session.{Begun, Ended, Made, NoHistory, NoLeader, SessionPoint, Refused, DebugReport, is_returned}

-- a fault other than out of memory, which a session does not model
abbrev pub fault_report : DebugFault → Option DebugReport
fault_report (fault.Broken b) = Some (Refused b)
fault_report fault.Ended = Some Ended
fault_report fault.NoHistory = Some NoHistory
fault_report (fault.NotLeader leader) = Some (NoLeader leader)
fault_report fault.Memory = None

-- a step, with the number of steps made after it
abbrev pub step_report : ℕ → Result StepOk DebugFault → Option DebugReport
step_report steps (Ok ok) = Some (Made steps ok.energy ok.halted)
step_report steps (Err fault) = fault_report fault

-- a group of a leader, with the number of steps made after it
abbrev pub group_report : ℕ → ℕ → Result (Option StepOk) DebugFault → Option DebugReport
group_report leader steps (Ok None) = Some (Begun leader (steps + 1))
group_report leader steps (Ok (Some ok)) = Some (Made steps ok.energy ok.halted)
group_report leader steps (Err fault) = fault_report fault

-- a step back, with the point after it
abbrev pub back_report : SessionPoint → Result Unit DebugFault → Option DebugReport
back_report p (Ok _) = Some (is_returned p)
back_report p (Err fault) = fault_report fault

-- the number of a fault
abbrev pub debug_fault_number : DebugFault → ℕ
debug_fault_number (fault.Broken b) = 1
debug_fault_number fault.Ended = 2
debug_fault_number fault.NoHistory = 3
debug_fault_number (fault.NotLeader leader) = 4
debug_fault_number fault.Memory = 5

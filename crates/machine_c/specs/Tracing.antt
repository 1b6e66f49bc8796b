-- The trace of a machine.
use Rattle.std.specs.Prelude.{◌≡◌, ◌⊎◌, ℕ, Bool, true, false, List, Option, Some, None}
use Rattle.nano_spec.specs.declared.commands.Command.{Command}
use Rattle.nano_spec.specs.Cutting.{Cutting}
use Rattle.kept_machine.specs.Calls.{BeginsTrace}
use Rattle.kept_machine.specs.Kept.{Kept}
use Rattle.machine_c.specs.declared.status.TheConstants.{BEGUN, DONE, MEMORY, NO_MACHINE, NO_TRACE}
use Rattle.machine_c.specs.Calls.{GivesAll, GivesNothing}

-- the status of a call that begins a trace: true if the machine has made no step yet
abbrev pub status_of_keep : Bool → ℕ
status_of_keep true = DONE
status_of_keep false = BEGUN

-- a machine that has made no step keeps the commands of all its steps from here on
abbrev pub BeginsToKeep : Option Kept → Option Kept → ℕ → Type 0
BeginsToKeep None new status = (new ≡ None) × (status ≡ NO_MACHINE)
BeginsToKeep (Some old) new status =
    (k : Kept) × (new ≡ Some k) × (answer : Bool) × BeginsTrace old k answer × (status ≡ status_of_keep answer)

-- the call returns the bytes that spell the commands, or runs out of memory
abbrev pub GivesTrace : List Command → List ℕ → List ℕ → ℕ → ℕ → Type 0
GivesTrace commands before after size status =
    ((bytes : List ℕ) × Cutting bytes commands × GivesAll bytes before after size status)
    ⊎ (GivesNothing before after size × (status ≡ MEMORY))

-- the call returns the machine's trace, if the machine keeps one
abbrev pub GivesKept : Option (List Command) → List ℕ → List ℕ → ℕ → ℕ → Type 0
GivesKept None before after size status = GivesNothing before after size × (status ≡ NO_TRACE)
GivesKept (Some commands) before after size status = GivesTrace commands before after size status

abbrev pub IsTraceGiven : Option Kept → List ℕ → List ℕ → ℕ → ℕ → Type 0
IsTraceGiven None before after size status = GivesNothing before after size × (status ≡ NO_MACHINE)
IsTraceGiven (Some k) before after size status = GivesKept k.trace before after size status

-- Playing traces on a machine.
use Rattle.std.specs.Prelude.{◌≡◌, ◌≢◌, ℕ, ◌+◌, ◌-◌, ◌≤◌, ◌<◌, ◌⊎◌, List, [], ◌++◌, length, take, drop, Option, Some, None, Err, ⊤}
use Rattle.nano_spec.specs.declared.commands.Command.{Command}
use Rattle.nano_spec.specs.Cutting.{Cutting, Decoding}
use Rattle.trace_codec.specs.declared.fault.TraceFault.{TraceFault}
use Rattle.trace_codec.specs.declared.fault.TraceFault.TheVariants as trace_fault
use Rattle.trace_codec.specs.declared.fault.TraceRefusal.{TraceRefusal}
use Rattle.trace_codec.specs.declared.fault.TraceRefusal.TheVariants.{Bad, Cut}
use Rattle.trace_codec.specs.Whole.{why_no_trace}
use Rattle.kept_machine.specs.Calls.{Tries}
use Rattle.kept_machine.specs.Kept.{Kept}
use Rattle.kept_machine.specs.declared.done.StepDone.{StepDone}
use Rattle.machine_c.specs.declared.playing.Played.{Played}
use Rattle.machine_c.specs.declared.status.TheConstants.{DONE, NO_MACHINE}
use Rattle.machine_c.specs.declared.stepping.StepAnswer.{StepAnswer}
use Rattle.machine_c.specs.declared.stepping.StepAnswer.TheVariants.{Made, Refused, Unread}
use Rattle.machine_c.specs.declared.reports.BrokenReport.{BrokenReport}
use Rattle.machine_c.specs.declared.reports.PlayedReport.{PlayedReport}
use Rattle.machine_c.specs.Calls.{ComesTo, high_of, rule_told, status_of_step}
use Rattle.machine_c.specs.Told.{none_broken}

-- ---- the made steps

-- this number of steps is made of the bytes, one after another, each of the bytes behind those of the steps before
-- it
pub data ArePlayed (old : Kept) : List ℕ → ℕ → Kept → Type 0 where
  none : {bytes : List ℕ} {count : ℕ} {new : Kept} → bytes ≡ [] → count ≡ 0 → new ≡ old → ArePlayed old bytes count new
  one_more : {bytes : List ℕ} {count : ℕ} {new : Kept} (before here : List ℕ) (others : ℕ) (between : Kept)
      (made : StepDone) → ArePlayed old before others between → ComesTo between here new (Made made)
      → bytes ≡ before ++ here → count ≡ others + 1 → ArePlayed old bytes count new

-- a step is made of the first `size` bytes
abbrev pub IsFrontMade : Kept → List ℕ → ℕ → Kept → Type 0
IsFrontMade old bytes size new =
    (size ≤ length bytes) × (made : StepDone) × ComesTo old (take size bytes) new (Made made)

-- ---- the step that is not made

-- the commands of the next step of `active` bots, at the front of the bytes: one for each bot, unless the bytes end before
pub record IsNextStep (bytes : List ℕ) (active : ℕ) (here : List ℕ) (commands : List Command) : Type 0 where
  pub cut : Cutting here commands
  pub few : length commands ≤ active
  pub rest : List ℕ
  pub follows : bytes ≡ here ++ rest
  pub whole : (length commands ≡ active) ⊎ (rest ≡ [])

-- the first byte of a bad or cut command
abbrev pub refused_at : TraceRefusal → ℕ
refused_at (Bad offset) = offset
refused_at (Cut offset) = offset

-- the bytes have a bad or cut command before each of `active` bots has its own
abbrev pub IsUnread : List ℕ → ℕ → TraceFault → Type 0
IsUnread bytes active (trace_fault.Refused refusal) =
    Decoding bytes (Err (why_no_trace refusal))
    × (before : List Command) × Cutting (take (refused_at refusal) bytes) before × (length before < active)
IsUnread bytes active trace_fault.Memory = ⊤

-- the reason why the step at the front of the bytes is not made: it is refused, or its bytes are no commands
abbrev pub StopsAt : Kept → List ℕ → StepAnswer → Type 0
StopsAt k bytes (Made made) = ⊥
StopsAt k bytes (Refused fault) =
    (here : List ℕ) × (commands : List Command) × IsNextStep bytes (length k.state.bots) here commands
    × Tries k commands k (Err fault)
StopsAt k bytes (Unread fault) = IsUnread bytes (length k.state.bots) fault

-- ---- a whole trace

-- the reason why no more steps are made: no step or byte is left, or the next step is not
-- made
abbrev pub EndsPlay : Kept → ℕ → List ℕ → Option StepAnswer → Type 0
EndsPlay k left rest None = (left ≡ 0) ⊎ (rest ≡ [])
EndsPlay k left rest (Some answer) = (1 ≤ left) × (rest ≢ []) × StopsAt k rest answer

-- a played trace: at most `most` steps are made, of its first bytes
pub record IsPlayed (old : Kept) (trace : List ℕ) (most : ℕ) (new : Kept) (played : Played) : Type 0 where
  pub few : played.made ≤ most
  pub within : played.used ≤ length trace
  pub steps : ArePlayed old (take played.used trace) played.made new
  pub ends : EndsPlay new (most - played.made) (drop played.used trace) played.stop

-- the status, the broken rule, and the first byte of the bad or cut command, counted from the beginning of the trace
abbrev pub status_of_play : Option StepAnswer → ℕ
status_of_play None = DONE
status_of_play (Some answer) = status_of_step answer

abbrev pub rule_of_stop : Option StepAnswer → BrokenReport
rule_of_stop None = none_broken
rule_of_stop (Some answer) = rule_told answer

abbrev pub bad_byte_of : ℕ → Option StepAnswer → ℕ
bad_byte_of used (Some (Unread (trace_fault.Refused refusal))) = used + refused_at refusal
bad_byte_of used _ = 0

-- the machine after a trace, and the reason why the next step was refused
abbrev pub played_told : Kept → Played → PlayedReport
played_told k played =
    record {
      energy = k.state.energy;
      used = played.used;
      offset = bad_byte_of played.used played.stop;
      made = played.made;
      steps = k.steps;
      active = length k.state.bots;
      high = high_of k.state.harmonics;
      broken = rule_of_stop played.stop;
    }

-- a trace played on the machine of a handle
abbrev pub IsTracePlayed : Option Kept → List ℕ → ℕ → Option Kept → PlayedReport → PlayedReport → ℕ → Type 0
IsTracePlayed None trace most new before after status = (new ≡ None) × (after ≡ before) × (status ≡ NO_MACHINE)
IsTracePlayed (Some old) trace most new before after status =
    (k : Kept) × (new ≡ Some k) × (played : Played) × IsPlayed old trace most k played
    × (after ≡ played_told k played) × (status ≡ status_of_play played.stop)

-- Judging steps without making them.
use Rattle.std.specs.Prelude.{◌≡◌, ◌==◌, ℕ, ℤ, List, length, Option, Some, None}
use Rattle.nano_spec.specs.declared.commands.Command.{Command}
use Rattle.nano_spec.specs.declared.system.Harmonics.{Harmonics}
use Rattle.kept_machine.specs.Kept.{Kept}
use Rattle.machine_c.specs.declared.status.TheConstants.{NO_MACHINE}
use Rattle.machine_c.specs.declared.stepping.StepAnswer.{StepAnswer}
use Rattle.machine_c.specs.declared.stepping.StepAnswer.TheVariants.{Made}
use Rattle.machine_c.specs.declared.reports.JudgedReport.{JudgedReport}
use Rattle.machine_c.specs.Calls.{ComesTo, StepComesTo, bit_of, changed_by, high_of, offset_by, rule_told, status_of_step}

-- the outcome of a step if the machine made it: a step of commands, or of the bytes that spell them
abbrev pub WouldStep : Kept → List Command → StepAnswer → Type 0
WouldStep k commands answer = (next : Kept) × StepComesTo k commands next answer

abbrev pub WouldComeTo : Kept → List ℕ → StepAnswer → Type 0
WouldComeTo k bytes answer = (next : Kept) × ComesTo k bytes next answer

-- the energy, the active bots and the harmonics after the step; a refused step changes none of them
abbrev pub energy_by : ℤ → StepAnswer → ℤ
energy_by energy (Made made) = made.energy
energy_by energy _ = energy

abbrev pub active_by : ℕ → StepAnswer → ℕ
active_by active (Made made) = made.active
active_by active _ = active

abbrev pub harmonics_by : Harmonics → StepAnswer → Harmonics
harmonics_by harmonics (Made made) = made.harmonics
harmonics_by harmonics _ = harmonics

-- 1 if no bot is left after the step, otherwise 0
abbrev pub halts_by : StepAnswer → ℕ
halts_by (Made made) = bit_of (made.active == 0)
halts_by _ = 0

-- the results of judging a step
abbrev pub judged_told : Kept → StepAnswer → JudgedReport
judged_told k answer =
    record {
      energy = energy_by k.state.energy answer;
      offset = offset_by answer;
      halts = halts_by answer;
      broken = rule_told answer;
      active = active_by (length k.state.bots) answer;
      high = high_of (harmonics_by k.state.harmonics answer);
      changed = changed_by answer;
    }

-- the call judges the step that the bytes spell; without a machine it changes nothing
abbrev pub IsJudged : Option Kept → List ℕ → JudgedReport → JudgedReport → ℕ → Type 0
IsJudged None bytes before after status = (after ≡ before) × (status ≡ NO_MACHINE)
IsJudged (Some k) bytes before after status =
    (answer : StepAnswer) × WouldComeTo k bytes answer × (after ≡ judged_told k answer)
    × (status ≡ status_of_step answer)

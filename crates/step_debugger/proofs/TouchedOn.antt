-- The touches of making a group or a step, by the work of the step.
use Rattle.std.proofs.Common.{◌≡◌, ℕ, ◌+◌, ◌*◌, ◌≤◌, arith, List, length, Option, None, Some}
use Rattle.std.specs.Prelude.{Err}
use Rattle.nano_spec.specs.declared.commands.Command.{Command}
use Rattle.nano_spec.specs.declared.outcomes.Broken.{Broken}
use Rattle.nano_spec.specs.Act.{acts}
use Rattle.nano_spec.specs.Rules.{broken}
use Rattle.nano_spec.specs.State.{State}
use Rattle.nano_spec.specs.Work.{WorkOfStep, volatile_total}
use Rattle.step_machine.proofs.Weighing.{nothing_taken_back, step_work}
use Rattle.step_machine.proofs.Working.{acts_work, judged_touches}
use Rattle.step_debugger.specs.declared.fault.DebugFault.{DebugFault}
use Rattle.step_debugger.specs.declared.fault.DebugFault.TheVariants as fault
use Rattle.step_debugger.specs.Session.{SessionPoint, next_commands}
use Rattle.step_debugger.specs.Touches.{IfRefused, IsRefusedWithin, IsWithinWorkOf}

-- the work of a step that breaks no rule at its start is at least the number of volatile coordinates
volatile_most : (s : State) (commands : List Command) (step n : ℕ) → broken s commands step ≡ None
    → WorkOfStep s commands step n → volatile_total s.matrix (acts s.bots commands) ≤ n
volatile_most s commands step n keeps work = let acts_work_here = (acts_work s commands step n keeps work).1 in omega (arith, acts_work_here)

-- if the next step cannot be judged, nothing is touched
pub untouched_at : (T : Type 0) (most : ℕ) (commands : List Command) (p : SessionPoint) (r : DebugFault) (began : ℕ)
    → IfRefused {T = T} (Err r) (λ b. IsRefusedWithin most commands p b began began)
untouched_at T most commands p (fault.Broken b) began =
    let work = step_work p.state (next_commands commands p) (p.steps + 1) in
    record { judged = began; within = (work.0, work.1, omega arith); back = nothing_taken_back b.rule p.state (next_commands commands p) began }
untouched_at T most commands p fault.Ended began = tt
untouched_at T most commands p fault.NoHistory began = tt
untouched_at T most commands p (fault.NotLeader leader) began = tt
untouched_at T most commands p fault.Memory began = tt

-- the judgement refuses the step of a group
pub judged_within : (commands : List Command) (p : SessionPoint) (b : Broken) (began ended : ℕ)
    → broken p.state (next_commands commands p) (p.steps + 1) ≡ Some b
    → length (next_commands commands p) ≡ length p.state.bots
    → ended ≤ began + 2 * volatile_total p.state.matrix (acts p.state.bots (next_commands commands p))
    → IsRefusedWithin 102 commands p b began ended
judged_within commands p b began ended breaks all judged =
    let work = step_work p.state (next_commands commands p) (p.steps + 1) in
    let few = judged_touches p.state (next_commands commands p) (p.steps + 1) b began ended work.0 breaks (omega (arith, judged)) (λ l. absurd (omega (arith, all, l))) work.1 in
    record { judged = ended; within = (work.0, work.1, omega (arith, few)); back = nothing_taken_back b.rule p.state (next_commands commands p) ended }

module _ (commands : List Command) (p : SessionPoint) (keeps : broken p.state (next_commands commands p) (p.steps + 1) ≡ None) (began middle : ℕ) (judged : middle ≤ began + 2 * volatile_total p.state.matrix (acts p.state.bots (next_commands commands p))) where
  -- a group begins: its step is judged
  pub begun_within : IsWithinWorkOf 102 commands p began middle
  begun_within =
      let work = step_work p.state (next_commands commands p) (p.steps + 1) in
      let most = volatile_most p.state (next_commands commands p) (p.steps + 1) work.0 keeps work.1 in
      (work.0, work.1, omega (arith, judged, most))

  -- the last group: its step is judged, and made
  pub made_within : (ended : ℕ) → IsWithinWorkOf 100 commands p middle ended → IsWithinWorkOf 102 commands p began ended
  made_within ended made =
      let most = volatile_most p.state (next_commands commands p) (p.steps + 1) made.0 keeps made.1 in
      let paid = made.2 in
      (made.0, made.1, omega (arith, judged, most, paid))

  -- or its step is refused after its judgement
  pub refused_within : (T : Type 0) (r : DebugFault) (ended : ℕ)
      → IfRefused {T = T} (Err r) (λ b. IsRefusedWithin 100 commands p b middle ended)
      → IfRefused {T = Option T} (Err r) (λ b. IsRefusedWithin 102 commands p b began ended)
  refused_within T (fault.Broken b) ended refused =
      let work = refused.within in
      let most = volatile_most p.state (next_commands commands p) (p.steps + 1) work.0 keeps work.1 in
      let paid = work.2 in
      record { judged = refused.judged; within = (work.0, work.1, omega (arith, judged, most, paid)); back = refused.back }
  refused_within T fault.Ended ended refused = tt
  refused_within T fault.NoHistory ended refused = tt
  refused_within T (fault.NotLeader leader) ended refused = tt
  refused_within T fault.Memory ended refused = tt

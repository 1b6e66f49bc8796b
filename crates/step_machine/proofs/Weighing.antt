-- Every matrix has its levels, and so every step its work and its outcome.
use Rattle.std.proofs.Common.{◌≡◌, ℕ, ◌+◌, ◌*◌, ◌≤◌, refl, arith, List, true, false}
use Rattle.std.specs.Prelude.{Option, Some, None}
use Rattle.vox_geom.specs.declared.coordinate.Coord.{Coord}
use Rattle.nano_spec.specs.declared.commands.Command.{Command}
use Rattle.nano_spec.specs.declared.outcomes.Broken.{Broken}
use Rattle.nano_spec.specs.declared.outcomes.Rule.{Rule}
use Rattle.nano_spec.specs.declared.outcomes.Rule.TheVariants.{Ungrounded}
use Rattle.nano_spec.specs.Act.{Act, acts}
use Rattle.nano_spec.specs.Grounded.{FirstUngrounded}
use Rattle.nano_spec.specs.Matrix.{Matrix, all_of}
use Rattle.nano_spec.specs.Next.{Breaks, Goes, Next, Outcome, accepts, breaks_at_start, leaves_floating, ungrounded_at}
use Rattle.nano_spec.specs.Rules.{broken}
use Rattle.nano_spec.specs.State.{State}
use Rattle.nano_spec.specs.Step.{after, matrix_after}
use Rattle.nano_spec.specs.Work.{Levels, WorkOfActs, WorkOfJudged, WorkOfStep, changed_count, differing, volatile_total, without_voided, work_by_rule}
use Rattle.nano_spec.specs.declared.system.Harmonics.{Harmonics}
use Rattle.nano_spec.specs.declared.system.Harmonics.TheVariants.{Low, High}
use Rattle.step_machine.specs.Edits.{edits_of}
use Rattle.step_machine.specs.Restoring.{IsTakenBackAfter}
use Rattle.step_machine.specs.Stepped.{IsWithinWork}
use Rattle.step_machine.specs.Undoing.{matrix_before, without_filled}
use Rattle.step_machine.proofs.Reaching.{first_ungrounded, levels_of}

-- ---- the work of a step

pub levels_of_all : (m : Matrix) → (levels : List (Option ℕ)) × Levels m levels
levels_of_all m = levels_of m (all_of m)

acts_work : (m : Matrix) (all : List Act) → (n : ℕ) × WorkOfActs m all n
acts_work m all =
    let before = levels_of m (all_of m) in
    let between = levels_of (without_voided m all) (all_of (without_voided m all)) in
    let afterwards = levels_of (matrix_after m all) (all_of (matrix_after m all)) in (
      volatile_total m all + changed_count m (matrix_after m all) + differing before.0 between.0 + differing between.0 afterwards.0,
      (record { before = before.0; between = between.0; afterwards = afterwards.0; before_are = before.1; between_are = between.1; afterwards_are = afterwards.1 }, refl),
    )

judged_work : (s : State) (all : List Act) (o : Option Broken) → (n : ℕ) × WorkOfJudged s all o n
judged_work s all None = acts_work s.matrix all
judged_work s all (Some b) = (work_by_rule s.matrix all b.rule, refl)

pub step_work : (s : State) (commands : List Command) (step : ℕ) → (n : ℕ) × WorkOfStep s commands step n
step_work s commands step = judged_work s (acts s.bots commands) (broken s commands step)

-- ---- the outcome of a step

settled_at : (s : State) (commands : List Command) (step : ℕ) → broken s commands step ≡ None → (h : Harmonics)
    → (after s commands).harmonics ≡ h → (at : Option Coord) → FirstUngrounded (after s commands).matrix at
    → (o : Outcome) × Next s commands step o
settled_at s commands step keeps High e at u = (Goes (after s commands), accepts keeps (λ low. cc) refl)
settled_at s commands step keeps Low e None u = (Goes (after s commands), accepts keeps (λ low. u) refl)
settled_at s commands step keeps Low e (Some c) u = (Breaks (ungrounded_at step c), leaves_floating c keeps e u refl)

next_at : (s : State) (commands : List Command) (step : ℕ) (b : Option Broken) → broken s commands step ≡ b
    → (o : Outcome) × Next s commands step o
next_at s commands step None e = let ungrounded_first = first_ungrounded (after s commands).matrix in settled_at s commands step e (after s commands).harmonics refl ungrounded_first.0 ungrounded_first.1
next_at s commands step (Some b) e = (Breaks b, breaks_at_start b e refl)

pub next_of : (s : State) (commands : List Command) (step : ℕ) → (o : Outcome) × Next s commands step o
next_of s commands step = next_at s commands step (broken s commands step) refl

-- a call within each work of a step is within one
pub within_one : (s : State) (commands : List Command) (step began ended : ℕ)
    → ((n : ℕ) → WorkOfStep s commands step n → ended ≤ began + 100 * n) → IsWithinWork s commands step began ended
within_one s commands step began ended h = let work = step_work s commands step in (work.0, work.1, h work.0 work.1)

-- if nothing is undone, the undo takes no touch, whatever the rule
pub nothing_taken_back : (rule : Rule) (s : State) (commands : List Command) (n : ℕ)
    → IsTakenBackAfter rule s commands n n
nothing_taken_back Ungrounded s commands n =
    let without = without_filled (after s commands).matrix (edits_of s commands false) in
    let first = levels_of_all (after s commands).matrix in
    let middle = levels_of_all without in
    let last = levels_of_all (matrix_before (after s commands).matrix (edits_of s commands false) (edits_of s commands true)) in
    (record { first = first.0; middle = middle.0; last = last.0; first_are = first.1; middle_are = middle.1; last_are = last.1 }, omega arith)
nothing_taken_back rule s commands n = refl

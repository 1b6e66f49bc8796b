-- Models have a legality, and commands a verdict.
use Rattle.std.proofs.Common.{◌≡◌, ℕ, zero, suc, ◌+◌, ◌≤◌, List, [], ◌∷◌, refl, ap, arith, length, take, drop}
use Rattle.std.specs.Prelude.{Option, Some, None}
use Rattle.std.proofs.lemmas.List.{length-drop, length-take}
use Rattle.vox_geom.specs.declared.coordinate.Coord.{Coord}
use Rattle.nano_spec.specs.declared.commands.Command.{Command}
use Rattle.nano_spec.specs.declared.outcomes.Verdict.{Verdict}
use Rattle.nano_spec.specs.declared.outcomes.Verdict.TheVariants.{Refused}
use Rattle.nano_spec.specs.declared.system.Bot.{Bot}
use Rattle.nano_spec.specs.declared.system.Profile.{Profile}
use Rattle.nano_spec.specs.Grounded.{FirstUngrounded}
use Rattle.nano_spec.specs.Legal.{Border, Floating, Legality, NotLegal, first_outside, floats_inside, leaves_box, stands_inside}
use Rattle.nano_spec.specs.Matrix.{Matrix}
use Rattle.nano_spec.specs.Next.{Breaks, Goes, Next, Outcome}
use Rattle.nano_spec.specs.State.{State, opening}
use Rattle.nano_spec.specs.Verdict.{Run, VerdictOf, breaks, ending, ends, goes}
use Rattle.step_machine.proofs.Reaching.{first_ungrounded}
use Rattle.step_machine.proofs.Weighing.{next_of}
use Rattle.plan_tape.proofs.Reached.{enough}

-- ---- a model has a legality

pub legality_of : (m : Matrix) → (answer : Option NotLegal) × Legality m answer
legality_of m = by (first_outside m) refl
  where
    inside : first_outside m ≡ None → (at : Option Coord) → FirstUngrounded m at
        → (answer : Option NotLegal) × Legality m answer
    inside e None u = (None, stands_inside e u refl)
    inside e (Some c) u = (Some (Floating c), floats_inside c e u refl)

    by : (o : Option Coord) → first_outside m ≡ o → (answer : Option NotLegal) × Legality m answer
    by None e = let ungrounded_first = first_ungrounded m in inside e ungrounded_first.0 ungrounded_first.1
    by (Some c) e = (Some (Border c), leaves_box c e refl)

-- ---- commands have a verdict

module _ (target : Matrix) where
  abbrev HasVerdict : State → List Command → ℕ → Type 0
  HasVerdict s commands steps = (v : Verdict) × Run target s commands steps v

  by_bots : (s : State) (commands : List Command) (steps : ℕ) (all : List Bot) → s.bots ≡ all
      → ((bot : Bot) (bots : List Bot) → s.bots ≡ bot ∷ bots → (t : State)
      → Next s (take (length s.bots) commands) (steps + 1) (Goes t)
      → HasVerdict t (drop (length s.bots) commands) (steps + 1)) → HasVerdict s commands steps
  by_bots s commands steps [] e later = (ending target s commands steps, ends e refl)
  by_bots s commands steps (bot ∷ bots) e later = let following = next_of s (take (length s.bots) commands) (steps + 1) in by following.0 following.1
    where
      by : (o : Outcome) → Next s (take (length s.bots) commands) (steps + 1) o → HasVerdict s commands steps
      by (Goes t) next = let more = later bot bots e t next in (more.0, goes {bot = bot} {bots = bots} {t = t} e next more.1)
      by (Breaks b) next = (Refused b, breaks {bot = bot} {bots = bots} {b = b} e next refl)

  no_step : (s t : State) (commands : List Command) (step : ℕ) (bot : Bot) (bots : List Bot) → s.bots ≡ bot ∷ bots
      → length commands ≤ 0 → Next s (take (length s.bots) commands) step (Goes t) → ⊥
  no_step s t commands step bot bots e none next =
      let there : length s.bots ≡ suc (length bots) = ap length e in
      let all = enough s t (take (length s.bots) commands) step next in
      let taken = length-take (length s.bots) commands in
      omega (arith, there, all, taken, none)

  fewer : (s : State) (commands : List Command) (most : ℕ) (bot : Bot) (bots : List Bot) → s.bots ≡ bot ∷ bots
      → length commands ≤ suc most → length (drop (length s.bots) commands) ≤ most
  fewer s commands most bot bots e few =
      let there : length s.bots ≡ suc (length bots) = ap length e in
      let left = length-drop (length s.bots) commands in
      omega (arith, there, left, few)

  verdict_from : (most : ℕ) (s : State) (commands : List Command) (steps : ℕ) → length commands ≤ most
      → HasVerdict s commands steps
  verdict_from zero s commands steps few = by_bots s commands steps s.bots refl (λ bot bots e t next. absurd (no_step s t commands (steps + 1) bot bots e few next))
  verdict_from (suc most) s commands steps few = by_bots s commands steps s.bots refl (λ bot bots e t next. verdict_from most t (drop (length s.bots) commands) (steps + 1) (fewer s commands most bot bots e few))

pub verdict_of : (source target : Matrix) (commands : List Command) (profile : Profile)
    → (v : Verdict) × VerdictOf source target commands profile v
verdict_of source target commands profile = verdict_from target (length commands) (opening source profile) commands 0 (omega arith)

-- The state that commands reach from a source's opening state if every step is accepted (docs/FORMATS.md, "Rules").
use Rattle.std.specs.Prelude.{◌≡◌, ◌⊎◌, ℕ, ◌+◌, ◌<◌, ◌≤◌, ℤ, List, [], ◌++◌, length, take, None}
use Rattle.nano_spec.specs.declared.commands.Command.{Command}
use Rattle.nano_spec.specs.declared.outcomes.Broken.{Broken}
use Rattle.nano_spec.specs.declared.outcomes.Verdict.{Verdict}
use Rattle.nano_spec.specs.declared.outcomes.Verdict.TheVariants.{Refused}
use Rattle.nano_spec.specs.declared.system.Profile.{Profile}
use Rattle.nano_spec.specs.Matrix.{Matrix}
use Rattle.nano_spec.specs.Next.{Next, Goes, Breaks}
use Rattle.nano_spec.specs.State.{State, opening}
use Rattle.nano_spec.specs.Verdict.{ending, first_difference}

-- from the source's opening state the commands make this number of accepted steps, and lead to the state
pub data Reaches (source : Matrix) (profile : Profile) : List Command → State → ℕ → Type 0 where
  starts : {commands : List Command} {s : State} {steps : ℕ} → commands ≡ [] → s ≡ opening source profile → steps ≡ 0
      → Reaches source profile commands s steps
  steps_on : {commands : List Command} {t : State} {steps : ℕ} (s : State) (before step : List Command) (done : ℕ)
      → Reaches source profile before s done → 0 < length s.bots → length step ≡ length s.bots
      → Next s step (done + 1) (Goes t) → commands ≡ before ++ step → steps ≡ done + 1
      → Reaches source profile commands t steps

-- every state that a prefix of the commands reaches has at most n bots
abbrev pub HasAtMost : Matrix → Profile → List Command → ℕ → Type 0
HasAtMost source profile commands n = (before rest : List Command) (s : State) (steps : ℕ) → commands ≡ before ++ rest
    → Reaches source profile before s steps → length s.bots ≤ n

-- the commands reach a state without bots, with this energy and step count and the target's voxels
pub record ReachesTarget (source target : Matrix) (profile : Profile) (commands : List Command) (energy : ℤ) (steps : ℕ)
    : Type 0 where
  pub last : State
  pub reaches : Reaches source profile commands last steps
  pub no_bot : last.bots ≡ []
  pub energy_is : last.energy ≡ energy
  pub same : first_difference last.matrix target ≡ None

-- the state decides the verdict after this number of steps: no bot is left, or the next commands break a rule
abbrev pub DecidesAt : Matrix → State → List Command → ℕ → Verdict → Type 0
DecidesAt target s rest done verdict = ((s.bots ≡ []) × (verdict ≡ ending target s rest done))
    ⊎ ((b : Broken) × Next s (take (length s.bots) rest) (done + 1) (Breaks b) × (verdict ≡ Refused b))

-- a prefix of the commands reaches the state that decides the verdict
pub record IsDecided (source target : Matrix) (profile : Profile) (commands : List Command) (verdict : Verdict)
    : Type 0 where
  pub before : List Command
  pub rest : List Command
  pub joined : commands ≡ before ++ rest
  pub last : State
  pub done : ℕ
  pub reaches : Reaches source profile before last done
  pub falls : DecidesAt target last rest done verdict

-- The state of a machine.
use Rattle.std.specs.Prelude.{◌≡◌, ℕ, ◌+◌, ◌*◌, ◌≤◌, ℤ, Bool, false, length, Result, Err}
use Rattle.nano_spec.specs.declared.outcomes.Broken.{Broken}
use Rattle.nano_spec.specs.declared.outcomes.Rule.{Rule}
use Rattle.nano_spec.specs.declared.outcomes.Rule.TheVariants.{Ungrounded}
use Rattle.nano_spec.specs.Matrix.{Matrix}
use Rattle.nano_spec.specs.Model.{volume}
use Rattle.nano_spec.specs.State.{State}
use Rattle.support_forest.specs.ForestView.{ForestView}
use Rattle.vox_planes.specs.Changes.{Changes}
use Rattle.system_state.specs.Bounds.{IsWithin}
use Rattle.step_machine.specs.declared.TheConstants.{MOST_CHANGED}
use Rattle.step_machine.specs.declared.machine.StepFault.{StepFault}
use Rattle.step_machine.specs.declared.machine.StepFault.TheVariants as fault

-- the state of the system, the number of steps made, and whether the machine is poisoned
pub record Situation : Type 0 where
  pub state : State
  pub steps : ℕ
  pub spent : Bool

-- each step changes the energy by less than 3,000,000,000 either way
abbrev pub IsEnergyBounded : ℤ → ℕ → Type 0
IsEnergyBounded energy steps = IsWithin (3000000000 * steps) energy

-- the parts of a machine belong together
pub record IsConsistent (system : State) (forest : ForestView) (changed : Changes) (steps : ℕ) (spent : Bool)
    : Type 0 where
  -- until the machine is poisoned, its forest is one of its matrix
  pub stands : spent ≡ false → forest.spent ≡ false
  pub tied : spent ≡ false → forest.matrix ≡ system.matrix
  -- the list has room for all changes of a step
  pub room : MOST_CHANGED ≤ changed.spare + length changed.items
  -- the profile gives no more seeds than there are bids
  pub seeds : system.profile.seeds ≤ 39
  -- energy and steps are within their types
  pub paid : IsEnergyBounded system.energy steps
  pub few : steps ≤ 1073741824

-- P holds of the broken rule, if a step breaks one
abbrev pub IfBroken : {T : Type 0} → Result T StepFault → (Broken → Type 0) → Type 0
IfBroken (Err (fault.Broken b)) P = P b
IfBroken _ P = Unit {0}

-- the voxels that a step may search beyond its work: all of them if it breaks the rule of grounding
abbrev pub searched_for : Rule → Matrix → ℕ
searched_for Ungrounded m = volume m.resolution
searched_for _ m = 0

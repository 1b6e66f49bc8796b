-- The outcome of a step that breaks no rule at its start, before its groups act.
use Rattle.std.specs.Prelude.{◌≡◌, ◌⊎◌, ℕ, ◌+◌, ◌*◌, ◌≤◌, Bool, List, [], ◌∷◌, None, Some, true, false, length}
use Rattle.vox_geom.specs.declared.coordinate.Coord.{Coord}
use Rattle.vox_geom.specs.declared.difference.Diff.{Diff}
use Rattle.vox_geom.specs.Point.{point, plus}
use Rattle.vox_geom.specs.Region.{Corners, IsOrdered, is_within, size, span}
use Rattle.vox_geom.specs.Space.{IsInSpace}
use Rattle.nano_spec.specs.declared.commands.Command.{Command}
use Rattle.nano_spec.specs.declared.outcomes.Broken.{Broken}
use Rattle.nano_spec.specs.declared.outcomes.Rule.TheVariants.{Ungrounded}
use Rattle.nano_spec.specs.declared.system.Bot.{Bot}
use Rattle.nano_spec.specs.Act.{Act, acts}
use Rattle.nano_spec.specs.Cutting.{AreCommands}
use Rattle.nano_spec.specs.Grounded.{FirstUngrounded}
use Rattle.nano_spec.specs.Group.{leaders}
use Rattle.nano_spec.specs.Matrix.{Matrix}
use Rattle.nano_spec.specs.Model.{volume}
use Rattle.nano_spec.specs.Next.{Breaks, Goes, Next}
use Rattle.nano_spec.specs.Rules.{broken}
use Rattle.nano_spec.specs.State.{State}
use Rattle.nano_spec.specs.Step.{after}
use Rattle.nano_spec.specs.Work.{WorkOfActs, volatile_total}
use Rattle.step_groups.specs.Judging.{edit_of}
use Rattle.system_state.specs.declared.turns.Turn.{Turn}
use Rattle.system_state.specs.Turns.{AreTurns}
use Rattle.support_forest.specs.ForestView.{ForestView}
use Rattle.vox_planes.specs.Changes.{Changes}
use Rattle.step_machine.specs.Edits.{edit_count, is_edit, is_edited}
use Rattle.step_machine.specs.declared.TheConstants.{MOST_CHANGED}
use Rattle.step_machine.specs.declared.machine.StepFault.{StepFault}
use Rattle.step_machine.specs.declared.machine.StepFault.TheVariants as fault

-- each touch is paid for by a hundredth of the step's work, in which each volatile coordinate still leaves 4
abbrev pub IsPaidBy : State → List Command → ℕ → ℕ → Type 0
IsPaidBy s commands began ended =
    (n : ℕ) → WorkOfActs s.matrix (acts s.bots commands) n
    → ended + 4 * volatile_total s.matrix (acts s.bots commands) ≤ began + 100 * n

-- the changes of a step may be listed and made: the turns are those of the leaders, the list has room for all changes, and the
-- forest is one of the state's matrix
pub record IsPrepared (s : State) (all : List Command) (taken : List Turn) (list : Changes) (forest : ForestView)
    : Type 0 where
  pub commands : AreCommands all
  pub turns : AreTurns (acts s.bots all) (leaders (acts s.bots all)) taken
  pub room : MOST_CHANGED ≤ list.spare + length list.items
  pub stands : forest.spent ≡ false
  pub tied : forest.matrix ≡ s.matrix

-- the step breaks no rule at its start, and the turns are those of its leaders
pub record CanTakeTurns (s : State) (commands : List Command) (taken : List Turn) : Type 0 where
  pub judged : (step : ℕ) × (broken s commands step ≡ None)
  pub turns : AreTurns (acts s.bots commands) (leaders (acts s.bots commands)) taken

-- the step breaks no rule at its start, and the forest is one of the state's matrix
pub record CanRefit (s : State) (commands : List Command) (forest : ForestView) : Type 0 where
  pub judged : (step : ℕ) × (broken s commands step ≡ None)
  pub stands : forest.spent ≡ false
  pub tied : forest.matrix ≡ s.matrix

-- the step breaks no rule at its start, and the changes of its groups may be listed and made
pub record CanBeSettled (s : State) (commands : List Command) (step : ℕ) (taken : List Turn) (list : Changes)
    (forest : ForestView) : Type 0 where
  pub judged : broken s commands step ≡ None
  pub few : length commands ≤ length s.bots
  pub prepared : IsPrepared s commands taken list forest

-- the step is one of the only bot, which fills the voxel (or voids it), and the forest is one of the state's
-- matrix
pub record CanEditOne (s : State) (commands : List Command) (d : Diff) (at : Coord) (full : Bool) (forest : ForestView)
    : Type 0 where
  pub one : length s.bots ≡ 1
  pub command : commands ≡ edit_of full d ∷ []
  pub named : (b : Bot) → s.bots ≡ b ∷ [] → point at ≡ plus (point b.pos) d
  pub within : IsInSpace s.matrix.resolution at
  pub stands : forest.spent ≡ false
  pub tied : forest.matrix ≡ s.matrix

-- the region is the one that the act voids, and the act fills nothing
pub record IsVoidedRegion (m : Matrix) (a : Act) (k : Corners) : Type 0 where
  pub ordered : IsOrdered k
  pub within : IsInSpace m.resolution k.high
  pub covers : (c : Coord) → is_within (span k) (point c) ≡ is_edited true a c
  pub fills : (c : Coord) → false ≡ is_edited false a c
  pub count : size (span k) ≡ edit_count m true a
  pub edits : is_edit a.command ≡ true

-- the step has one group, which voids the region
pub record IsOnlyRegion (s : State) (commands : List Command) (k : Corners) : Type 0 where
  pub leader : Act
  pub only : leaders (acts s.bots commands) ≡ leader ∷ []
  pub voids : IsVoidedRegion s.matrix leader k

-- the forest is that of the state to which the step goes
pub record IsRefitted (s : State) (commands : List Command) (forest : ForestView) (began ended : ℕ) : Type 0 where
  pub matrix : forest.matrix ≡ (after s commands).matrix
  pub stands : forest.spent ≡ false
  pub touches : IsPaidBy s commands began ended

-- no voxel floats, or this one is the least that does
abbrev pub FloatsAtMost : Matrix → Coord → Type 0
FloatsAtMost m c = FirstUngrounded m None ⊎ FirstUngrounded m (Some c)

-- the step goes to its state, and the forest is that of this state
pub record IsSettled (s : State) (commands : List Command) (step : ℕ) (forest : ForestView) (began ended : ℕ)
    : Type 0 where
  pub goes : Next s commands step (Goes (after s commands))
  pub tied : forest.matrix ≡ (after s commands).matrix
  pub stands : forest.spent ≡ false
  pub touches : IsPaidBy s commands began ended

-- the step breaks the rule of grounding
pub record IsFloating (s : State) (commands : List Command) (step : ℕ) (b : Broken) (began ended : ℕ) : Type 0 where
  pub breaks : Next s commands step (Breaks b)
  pub rule : b.rule ≡ Ungrounded
  pub touches : IsPaidBy s commands (began + volume s.matrix.resolution) ended

-- the step is not made: it breaks the rule of grounding, or allocation fails
abbrev pub IsUnsettled : State → List Command → ℕ → StepFault → ℕ → ℕ → Type 0
IsUnsettled s commands step (fault.Broken b) began ended = IsFloating s commands step b began ended
IsUnsettled s commands step fault.Memory began ended = Unit {0}
IsUnsettled s commands step fault.Spent began ended = ⊥

-- a fast path that was not applicable touched no voxel, or only a few if no rule is broken that is judged at the
-- start
abbrev pub IsDeclined : State → List Command → ℕ → ℕ → ℕ → Type 0
IsDeclined s commands step began ended = (ended ≡ began) ⊎ ((broken s commands step ≡ None) × (ended ≤ began + 9))

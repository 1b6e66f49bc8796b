-- The work of a run: a number that bounds how often voxels are touched (this project's own: docs/FORMATS.md, "Levels
-- and work").
use Rattle.std.specs.Prelude.{◌≡◌, ℕ, ◌+◌, Bool, true, false, ◌&&◌, not, ◌==◌, cond, List, [], ◌∷◌, length, take, drop, map, filter, sum, count_by, Option, Some, None}
use Rattle.std.specs.List.{list_any}
use Rattle.vox_geom.specs.declared.coordinate.Coord.{Coord}
use Rattle.vox_geom.specs.Point.{point}
use Rattle.nano_spec.specs.declared.commands.Command.{Command}
use Rattle.nano_spec.specs.declared.outcomes.Broken.{Broken}
use Rattle.nano_spec.specs.declared.outcomes.Rule.{Rule}
use Rattle.nano_spec.specs.declared.outcomes.Rule.TheVariants.{TraceEnds}
use Rattle.nano_spec.specs.declared.system.Bot.{Bot}
use Rattle.nano_spec.specs.declared.system.Profile.{Profile}
use Rattle.nano_spec.specs.Act.{Act, acts, stays_in_space}
use Rattle.nano_spec.specs.Group.{members, leaders}
use Rattle.nano_spec.specs.Level.{Level}
use Rattle.nano_spec.specs.Matrix.{Matrix, all_of, differ_at, is_full, matrix_where}
use Rattle.nano_spec.specs.Next.{Next, Goes, Breaks}
use Rattle.nano_spec.specs.Rules.{broken}
use Rattle.nano_spec.specs.State.{State, opening}
use Rattle.nano_spec.specs.Step.{is_voided, matrix_after}
use Rattle.nano_spec.specs.Volatile.{is_volatile_of}

-- the number of coordinates that are volatile for the group of a leader, by the members whose commands stay in space
abbrev pub volatile_count : Matrix → List Act → Act → ℕ
volatile_count m all leader =
    count_by (λ c. list_any (is_volatile_of (point c)) (filter (stays_in_space m.resolution) (members all leader)))
    (all_of m)

-- the sum over all groups
abbrev pub volatile_total : Matrix → List Act → ℕ
volatile_total m all = sum (map (volatile_count m all) (leaders all))

-- the number of voxels in which two matrices of one resolution differ
abbrev pub changed_count : Matrix → Matrix → ℕ
changed_count m n = count_by (differ_at m n) (all_of m)

-- the matrix without the voxels that the acts void
abbrev pub without_voided : Matrix → List Act → Matrix
without_voided m all = matrix_where m.resolution (λ c. is_full m c && not (is_voided all c))

-- the list has the level of each of the coordinates
abbrev pub LevelsOf : Matrix → List Coord → List (Option ℕ) → Type 0
LevelsOf m [] [] = Unit {0}
LevelsOf m [] (level ∷ levels) = ⊥
LevelsOf m (c ∷ more) [] = ⊥
LevelsOf m (c ∷ more) (level ∷ levels) = Level m c level × LevelsOf m more levels

-- the list has the level of each coordinate of the matrix, in their order
abbrev pub Levels : Matrix → List (Option ℕ) → Type 0
Levels m levels = LevelsOf m (all_of m) levels

-- whether two levels are the same
abbrev pub same_level : Option ℕ → Option ℕ → Bool
same_level None None = true
same_level (Some a) (Some b) = a == b
same_level a b = false

-- at how many indices two lists of levels differ
abbrev pub differing : List (Option ℕ) → List (Option ℕ) → ℕ
differing [] levels = 0
differing (a ∷ more) [] = 0
differing (a ∷ more) (b ∷ levels) = cond (same_level a b) (differing more levels) (1 + differing more levels)

-- the levels of a matrix, of the matrix without the voided voxels, and of the matrix after the acts
pub record LevelsOfStep (m : Matrix) (all : List Act) : Type 0 where
  pub before : List (Option ℕ)
  pub between : List (Option ℕ)
  pub afterwards : List (Option ℕ)
  pub before_are : Levels m before
  pub between_are : Levels (without_voided m all) between
  pub afterwards_are : Levels (matrix_after m all) afterwards

-- n is the work of acts that break none of the rules that are judged at a step's start: the volatile coordinates, the
-- voxels that change, those whose levels change when voxels are voided, and those whose levels change then when voxels
-- are filled
abbrev pub WorkOfActs : Matrix → List Act → ℕ → Type 0
WorkOfActs m all n =
    (levels : LevelsOfStep m all) × (n ≡ volatile_total m all + changed_count m (matrix_after m all)
    + differing levels.before levels.between + differing levels.between levels.afterwards)

-- the work of a step that is broken by a rule that is judged at its start: none if the trace ends, otherwise the
-- volatile coordinates
abbrev pub work_by_rule : Matrix → List Act → Rule → ℕ
work_by_rule m all TraceEnds = 0
work_by_rule m all _ = volatile_total m all

-- n is the work of a step, by the rule that is broken at its start, if there is one
abbrev pub WorkOfJudged : State → List Act → Option Broken → ℕ → Type 0
WorkOfJudged s all None n = WorkOfActs s.matrix all n
WorkOfJudged s all (Some b) n = n ≡ work_by_rule s.matrix all b.rule

-- n is the work of the commands of a step
abbrev pub WorkOfStep : State → List Command → ℕ → ℕ → Type 0
WorkOfStep s commands step n = WorkOfJudged s (acts s.bots commands) (broken s commands step) n

-- n is the sum of the work of the steps that are made from a state on, after this many steps, with the step that is
-- broken, if one is
pub data WorkFrom : State → List Command → ℕ → ℕ → Type 0 where
  rests : {s : State} {commands : List Command} {steps : ℕ} → s.bots ≡ [] → WorkFrom s commands steps 0
  stops : {s : State} {commands : List Command} {steps n : ℕ} {bot : Bot} {bots : List Bot} (b : Broken)
      → s.bots ≡ bot ∷ bots → Next s (take (length s.bots) commands) (steps + 1) (Breaks b)
      → WorkOfStep s (take (length s.bots) commands) (steps + 1) n → WorkFrom s commands steps n
  works : {s : State} {commands : List Command} {steps total : ℕ} {bot : Bot} {bots : List Bot} {t : State} (n more : ℕ)
      → s.bots ≡ bot ∷ bots → Next s (take (length s.bots) commands) (steps + 1) (Goes t)
      → WorkOfStep s (take (length s.bots) commands) (steps + 1) n
      → WorkFrom t (drop (length s.bots) commands) (steps + 1) more → total ≡ n + more → WorkFrom s commands steps total

-- n is the work of a trace from a source on
abbrev pub Work : Matrix → List Command → Profile → ℕ → Type 0
Work source commands profile n = WorkFrom (opening source profile) commands 0 n

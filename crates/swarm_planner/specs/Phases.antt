-- The tape after each phase of the plan.
use Rattle.std.specs.Prelude.{◌≡◌, ◌+◌, ◌-◌, ◌*◌, ◌≤◌, ℕ, length}
use Rattle.nano_spec.specs.Matrix.{Matrix}
use Rattle.nano_spec.specs.State.{origin}
use Rattle.plan_tape.specs.Leg.{moves_to}
use Rattle.plan_tape.specs.Progress.{IsVoidFrom, TapeState, spot}
use Rattle.swarm_planner.specs.Building.{swarm_layer_steps}
use Rattle.swarm_planner.specs.Crew.{IsSwarm}
use Rattle.swarm_planner.specs.Lineup.{IsSpreadOver}

-- the first bot is in the first column, above the floor, under High, and nothing is built
pub record SwarmIsOpened (t : TapeState) (nothing : Matrix) : Type 0 where
  pub source : t.source ≡ nothing
  pub matrix : t.matrix ≡ nothing
  pub spread : IsSpreadOver t 1
  pub steps_are : t.steps ≤ 3

-- the most steps of the phases, without the last path home
abbrev pub phase_steps : ℕ → ℕ
phase_steps r = (r - 1) * swarm_layer_steps r + 823

-- the target is built, and one bot is left, with all void from its height on; its steps and those home are within this
-- bound
pub record IsErected (t : TapeState) (target : Matrix) : Type 0 where
  pub swarm : IsSwarm t
  pub alone : length t.bots ≡ 1
  pub matrix : t.matrix ≡ target
  pub clear : IsVoidFrom t.matrix (spot t.bots).y
  pub steps_are : t.steps + moves_to (spot t.bots) origin ≤ phase_steps target.resolution + 20 + target.resolution

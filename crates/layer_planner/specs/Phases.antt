-- The tape before the path home.
use Rattle.std.specs.Prelude.{◌≡◌, ◌+◌, ◌*◌, ◌≤◌}
use Rattle.vox_geom.specs.declared.coordinate.Coord.{Coord}
use Rattle.nano_spec.specs.Matrix.{Matrix}
use Rattle.nano_spec.specs.State.{origin}
use Rattle.plan_tape.specs.Leg.{moves_to}
use Rattle.plan_tape.specs.Progress.{TapeState, bytes, spot}
use Rattle.layer_planner.specs.Painting.{CanSweep}
use Rattle.vox_geom.specs.Point.{coord}

-- the last possible end of sweeps: above the target
abbrev pub end : Matrix → Coord
end m = coord 0 m.resolution 0

-- the voxels are those of the target, and with the path home, a Flip and the Halt the tape is within its bounds
pub record IsRebuilt (t : TapeState) (target : Matrix) : Type 0 where
  pub matrix : t.matrix ≡ target
  pub ready : CanSweep t target
  pub bytes_are : bytes t + 2 * moves_to (spot t.bots) origin + 2
      ≤ 8 * target.resolution * target.resolution * target.resolution + 200
  pub limit : t.steps + moves_to (spot t.bots) origin + 2 ≤ 1073741824

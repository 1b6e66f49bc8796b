use Rattle.std.proofs.Common.{◌≤◌, All}
use Rattle.vox_geom.specs.declared.TheConstants.{MOST_R}
use Rattle.nano_spec.specs.Matrix.{Matrix}
use Rattle.model_file.specs.Flood.{IsFlood, IsStart, weight}
use Rattle.model_file.proofs.flood.Flood.spread.Given as goal

abbrev pub invariant-loop-stretch : goal.invariant-loop-stretch
invariant-loop-stretch g l = record {
  most : l.self.remaining.resolution ≤ MOST_R;
  starts : All (IsStart l.self.remaining.resolution) l.self.found.items;
  reaches : (m : Matrix) → IsFlood m l.initial.self → IsFlood m l.self;
}

abbrev pub decreases-loop-stretch : goal.decreases-loop-stretch
decreases-loop-stretch g l = weight l.self

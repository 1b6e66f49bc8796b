use Rattle.std.proofs.Common.{◌≡◌, ◌-◌, ◌≤◌, true}
use Rattle.vox_planes.specs.Voxel.{IsWhole}
use Rattle.vox_planes.proofs.Placed.{ArePut}
use Rattle.vox_planes.proofs.planes.Planes.fill_places.Given as goal

abbrev pub invariant-loop-at : goal.invariant-loop-at
invariant-loop-at l = record {
  put : ArePut l.initial.self l.self l.from (l.at - l.from) (λ _. true);
  begun : l.from ≤ l.at;
  few : l.at ≤ l.end;
  resolution : l.self.resolution ≡ l.initial.self.resolution;
  whole : IsWhole l.self;
}

abbrev pub decreases-loop-at : goal.decreases-loop-at
decreases-loop-at l = l.end - l.at

use Rattle.std.proofs.Common.{◌≡◌, ◌-◌, ◌≤◌}
use Rattle.vox_geom.specs.Space.{place}
use Rattle.nano_spec.specs.Model.{bit}
use Rattle.vox_planes.specs.Voxel.{IsWhole}
use Rattle.vox_planes.proofs.Placed.{ArePut}
use Rattle.vox_planes.proofs.planes.Planes.set_row_bits.Given as goal

abbrev pub invariant-loop-done : goal.invariant-loop-done
invariant-loop-done l = record {
  put : ArePut l.initial.self l.self (place l.initial.self.resolution l.first) l.done (λ p. bit l.bits (p - place l.initial.self.resolution l.first));
  few : l.done ≤ l.count;
  resolution : l.self.resolution ≡ l.initial.self.resolution;
  whole : IsWhole l.self;
}

abbrev pub decreases-loop-done : goal.decreases-loop-done
decreases-loop-done l = l.count - l.done

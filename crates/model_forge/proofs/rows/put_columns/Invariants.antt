use Rattle.std.proofs.Common.{◌≡◌, ◌-◌, ◌≤◌, ℕ, cond, length}
use Rattle.std.specs.Prelude.{nat_lt, slice_index}
use Rattle.vox_geom.specs.Space.{place}
use Rattle.vox_planes.specs.Places.{is_from, voxel_at}
use Rattle.vox_planes.specs.Voxel.{IsWhole}
use Rattle.model_forge.proofs.rows.put_columns.Given as goal

abbrev pub invariant-loop-done : goal.invariant-loop-done
invariant-loop-done l = record {
  places : (p : ℕ) → voxel_at l.planes p ≡ cond (is_from (place l.initial.planes.resolution l.first) l.done p)
      (nat_lt l.first.y (slice_index l.heights (p - place l.initial.planes.resolution l.first))) (voxel_at l.initial.planes p);
  few : l.done ≤ length l.heights;
  resolution : l.planes.resolution ≡ l.initial.planes.resolution;
  whole : IsWhole l.planes;
}

abbrev pub decreases-loop-done : goal.decreases-loop-done
decreases-loop-done l = length l.heights - l.done

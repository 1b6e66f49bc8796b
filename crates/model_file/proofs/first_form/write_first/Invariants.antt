use Rattle.std.proofs.Common.{◌≡◌, ◌∷◌, map}
use Rattle.vox_geom.specs.Space.{numbers_below}
use Rattle.nano_spec.specs.Model.{byte_at}
use Rattle.model_file.proofs.first_form.write_first.Given as goal

abbrev pub invariant-loop-k : goal.invariant-loop-k
invariant-loop-k g l = l.bytes.items ≡ l.planes.resolution ∷ map (byte_at l.planes.voxels) (numbers_below l.k)

use Rattle.vox_planes.specs.Layers.{AreZeroFrom}
use Rattle.vox_planes.proofs.planes.trim.Given as goal

abbrev pub invariant-loop : goal.invariant-loop
invariant-loop l = AreZeroFrom l.words l.left

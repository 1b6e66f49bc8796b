use Rattle.std.proofs.Common.{◌≡◌, false}
use Rattle.voxel_tests.proofs.at_once.add_arm.Given as goal

abbrev pub invariant-loop-c : goal.invariant-loop-c
invariant-loop-c g l = (l.forest.spent ≡ false) × (l.forest.matrix.resolution ≡ 5)

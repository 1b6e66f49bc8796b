use Rattle.std.proofs.Common.{◌≡◌}
use Rattle.voxel_tests.proofs.at_once.set_arm.Given as goal

abbrev pub invariant-loop-c : goal.invariant-loop-c
invariant-loop-c g l = l.planes.resolution ≡ 5

use Rattle.std.proofs.Common.{◌≡◌, ◌≤◌, take, count_by}
use Rattle.nano_spec.specs.Matrix.{is_full}
use Rattle.kept_machine.proofs.aim.count_full_in.Given as goal

abbrev pub invariant-loop-c : goal.invariant-loop-c
invariant-loop-c g l = (l.full ≡ count_by (is_full l.target) (take l.c-index l.voxels)) × (l.full ≤ l.c-index)

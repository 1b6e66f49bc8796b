use Rattle.std.proofs.Common.{◌≡◌, ◌-◌, ◌≤◌}
use Rattle.nano_spec.specs.Model.{volume}
use Rattle.kept_machine.proofs.Differences.{differing_below}
use Rattle.kept_machine.proofs.counting.count_differences.Given as goal

-- the indices so far are counted
abbrev pub invariant-loop-from : goal.invariant-loop-from
invariant-loop-from g l = (l.count ≡ differing_below l.matrix l.target l.from) × (l.from ≤ volume l.matrix.resolution)

abbrev pub decreases-loop-from : goal.decreases-loop-from
decreases-loop-from g l = l.places - l.from

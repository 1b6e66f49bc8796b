use Rattle.std.proofs.Common.{◌-◌}
use Rattle.support_forest.proofs.Segments.{IsBefore}
use Rattle.support_forest.proofs.segment.segment_before.Given as goal

abbrev pub invariant-loop-count : goal.invariant-loop-count
invariant-loop-count l = IsBefore l.gone l.end l.last l.most l.count

abbrev pub decreases-loop-count : goal.decreases-loop-count
decreases-loop-count l = l.most - l.count

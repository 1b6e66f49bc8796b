use Rattle.support_forest.proofs.Segments.{segment_from}
use Rattle.support_forest.proofs.segment.segment_before.Goals as goal

pub returns-then-c-last-clause-segment : goal.returns-then-c-last-clause-segment
returns-then-c-last-clause-segment c x h = segment_from _ _ _ _ _ x c.loop-count.invariant c.requires.within h

pub returns-else-from-end-clause-segment : goal.returns-else-from-end-clause-segment
returns-else-from-end-clause-segment c x h = segment_from _ _ _ _ _ x c.loop-count.invariant c.requires.within h

pub returns-after-loop-count-clause-segment : goal.returns-after-loop-count-clause-segment
returns-after-loop-count-clause-segment c x h = segment_from _ _ _ _ _ x c.loop-count.invariant c.requires.within h

use Rattle.support_forest.specs.Offers.{orphans_at, listed_voxels}
use Rattle.support_forest.proofs.Handling.{IsHandled, to_lose}
use Rattle.support_forest.proofs.remove.remove_and_settle.Given as goal

abbrev pub invariant-loop-i : goal.invariant-loop-i
invariant-loop-i g l = IsHandled l.fn.cells l.cells l.gone (orphans_at l.side l.queue.items) (listed_voxels l.side l.fresh.items) l.i l.fn.steps l.steps

abbrev pub decreases-loop-i : goal.decreases-loop-i
decreases-loop-i g l = to_lose l.fn.cells l.cells (orphans_at l.side l.queue.items) l.i

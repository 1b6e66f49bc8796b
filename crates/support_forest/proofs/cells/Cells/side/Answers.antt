use Rattle.std.proofs.Common.{arith}
use Rattle.support_forest.proofs.Store.{few_bricks}
use Rattle.support_forest.proofs.cells.Cells.side.Goals as goal

pub returns-clause-few : goal.returns-clause-few
returns-clause-few c = let side = c.self.invariant.0 in let few = few_bricks c.self.inside.resolution c.self.invariant.1.0.few in omega arith

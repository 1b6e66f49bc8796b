use Rattle.std.proofs.Common.{arith}
use Rattle.std.proofs.lemmas.Int.{ints}
use Rattle.plan_tape.proofs.costs.charge.Goals as goal

pub returns-clause-bounded : goal.returns-clause-bounded
returns-clause-bounded c = record {
  low = omega (arith, ints, c.requires.steps, c.requires.bounded.low, c.requires.bounded.high, c.requires.least, c.requires.most, c.requires.low, c.requires.high);
  high = omega (arith, ints, c.requires.steps, c.requires.bounded.low, c.requires.bounded.high, c.requires.least, c.requires.most, c.requires.low, c.requires.high);
}

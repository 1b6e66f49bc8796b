use Rattle.std.specs.Prelude.{refl}
use Rattle.plan_choice.proofs.Crews.{under_least}
use Rattle.plan_choice.proofs.crew.compare.Goals as goal

pub returns-clause-least : goal.returns-clause-least
returns-clause-least c =
    let other = c.args.other in
    let either = c.cheaper_of.ensures.either in
    (other.least, refl, under_least c.args.plan.energy other.plan.energy other.least.energy c.cheaper_of.result.energy c.requires either.as_first either.as_second)

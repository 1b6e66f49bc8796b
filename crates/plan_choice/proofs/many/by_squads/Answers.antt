use Rattle.std.proofs.Common.{rules}
use Rattle.nano_spec.proofs.EmptyModel.{empty_is_grounded}
use Rattle.plan_choice.proofs.many.by_squads.Goals as goal

pub cheapest-requires : goal.cheapest-requires
cheapest-requires c = record {
  grounded = empty_is_grounded c.in_ok-nothing.nothing c.resolution.result c.in_ok-nothing.ensures.value;
  resolution = search rules;
  seeds = search rules;
  accepted = search rules;
}

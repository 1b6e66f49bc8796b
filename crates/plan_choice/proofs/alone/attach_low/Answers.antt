use Rattle.std.proofs.Common.{rules}
use Rattle.nano_spec.proofs.EmptyModel.{empty_is_grounded}
use Rattle.plan_choice.proofs.alone.attach_low.Goals as goal

pub cheaper-requires : goal.cheaper-requires
cheaper-requires c = record {
  grounded = empty_is_grounded c.in_ok-nothing.nothing c.resolution-2.result c.in_ok-nothing.ensures.value;
  resolution = search rules;
  seeds = search rules;
  accepted = search rules;
}

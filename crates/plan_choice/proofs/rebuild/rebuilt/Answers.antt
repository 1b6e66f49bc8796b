use Rattle.std.proofs.Common.{rules}
use Rattle.nano_spec.proofs.EmptyModel.{empty_is_grounded}
use Rattle.plan_choice.proofs.Empty.{legal_where_empty}
use Rattle.plan_choice.proofs.rebuild.rebuilt.Goals as goal

pub plan_layers-requires : goal.plan_layers-requires
plan_layers-requires c = record {
  source = c.requires.source;
  target = legal_where_empty c.in_ok-nothing.nothing c.resolution.result c.in_ok-nothing.ensures.value;
  same = search rules;
}

pub plan_layers-requires-2 : goal.plan_layers-requires-2
plan_layers-requires-2 c = record {
  source = legal_where_empty c.in_ok-nothing.nothing c.resolution.result c.in_ok-nothing.ensures.value;
  target = c.requires.target;
  same = search rules;
}

pub by_crew-requires-2 : goal.by_crew-requires-2
by_crew-requires-2 c = record {
  grounded = empty_is_grounded c.in_ok-nothing.nothing c.resolution.result c.in_ok-nothing.ensures.value;
  resolution = search rules;
  seeds = search rules;
  accepted = search rules;
}

use Rattle.std.proofs.Common.{rules}
use Rattle.nano_spec.proofs.EmptyModel.{empty_is_grounded}
use Rattle.planner_tests.proofs.teams.is_accepted.Goals as goal

pub improvement-requires-clause-run : goal.improvement-requires-clause-run
improvement-requires-clause-run c = record {
  grounded = empty_is_grounded c.in_ok-nothing.nothing c.resolution.result c.in_ok-nothing.ensures.value;
  seeds = search rules;
}

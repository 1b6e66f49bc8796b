use Rattle.std.proofs.Common.{◌∙◌, ap}
use Rattle.nano_spec.specs.Matrix.{empty}
use Rattle.nano_spec.proofs.EmptyModel.{empty_is_grounded}
use Rattle.floor_planner.proofs.Sweeping.{begins}
use Rattle.floor_planner.proofs.plan.open.Goals as goal

pub start-requires : goal.start-requires
start-requires c = record { grounded = empty_is_grounded c.in_ok-nothing.nothing c.resolution.result c.in_ok-nothing.ensures.value }

pub returns : goal.returns
returns c = begins c.in_ok-tape.tape c.flip.new.self c.in_ok-nothing.nothing c.args.target.now _ _ (c.in_ok-nothing.ensures.value ∙ ap empty c.resolution.ensures.value) c.resolution.ensures.whole.some c.in_ok-tape.ensures c.in_ok-flip.ensures.ok

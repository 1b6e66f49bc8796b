use Rattle.std.proofs.lemmas.Result.{on_ok_weaker}
use Rattle.plan_tape.specs.Leg.{Moves}
use Rattle.low_planner.proofs.Works.{went, went_nowhere}
use Rattle.low_planner.proofs.build.go.Goals as goal

pub returns-clause-works : goal.returns-clause-works
returns-clause-works c = on_ok_weaker c.go.result (λ (m : Moves c.args.tape.now c.go.new.self c.args.to). went c.args.tape.now c.go.new.self c.args.to c.requires.working m) c.go.ensures.ok

pub returns-clause-stays : goal.returns-clause-stays
returns-clause-stays c = λ e. on_ok_weaker c.go.result (λ (m : Moves c.args.tape.now c.go.new.self c.args.to). went_nowhere c.args.tape.now c.go.new.self c.args.to e m) c.go.ensures.ok

use Rattle.std.proofs.Common.{◌≡◌, [], ◌∷◌, ◌++◌, refl, sym, ◌∙◌, ap, subst, arith, All}
use Rattle.nano_spec.specs.declared.commands.Command.TheVariants.{Halt}
use Rattle.nano_spec.specs.declared.system.Profile.{Profile}
use Rattle.nano_spec.specs.Matrix.{Matrix, empty, is_full}
use Rattle.nano_spec.specs.Profile.{light_profile}
use Rattle.nano_spec.specs.State.{origin}
use Rattle.plan_tape.specs.Progress.{AreAlike, IsAccepted, spot}
use Rattle.low_planner.specs.Commands.{IsPlain}
use Rattle.low_planner.proofs.Builds.{steps_home}
use Rattle.low_planner.proofs.Works.{plain_and}
use Rattle.low_planner.proofs.plan.close.Goals as goal
use Rattle.plan_tape.proofs.LegalModels.{void_at_border}
use Rattle.plan_tape.proofs.ClearWays.{ways_to_border}

pub go-requires-clause-ways : goal.go-requires-clause-ways
go-requires-clause-ways c =
    let target = c.args.target.now in
    let tape = c.args.tape in
    let finished = c.requires.finished in
    ways_to_border tape.matrix (spot tape.bots) origin refl finished.here (λ d e. finished.made d ∙ void_at_border target c.requires.legal d e)

pub go-requires-clause-limit : goal.go-requires-clause-limit
go-requires-clause-limit c = let steps = steps_home c.args.target.now c.args.tape c.recall.ensures.whole.most c.requires.finished in omega arith

pub halt-requires-clause-limit : goal.halt-requires-clause-limit
halt-requires-clause-limit c =
    let steps = steps_home c.args.target.now c.args.tape c.recall.ensures.whole.most c.requires.finished in
    let went = c.in_ok-go.ensures.works.steps in
    omega arith

pub returns-clause-accepted : goal.returns-clause-accepted
returns-clause-accepted c =
    let target = c.args.target.now in
    let finished = c.requires.finished in
    let went = c.in_ok-go.ensures.works in
    let halted = c.in_ok-halt.ensures.ok in
    let plan = c.finish.result in
    let matrix : c.halt.new.self.matrix ≡ c.args.tape.matrix = halted.matrix ∙ went.matrix in
    let alike : AreAlike c.halt.new.self.matrix target = λ d. ap (λ (k : Matrix). is_full k d) matrix ∙ finished.made d in
    let source : c.halt.new.self.source ≡ empty target.resolution = halted.source ∙ (went.source ∙ finished.source) in
    let profile : c.halt.new.self.profile ≡ light_profile = halted.profile ∙ went.working.light in
    subst (λ (k : Matrix). IsAccepted k target plan.commands light_profile plan.energy plan.steps) source
    (subst (λ (k : Profile). IsAccepted c.halt.new.self.source target plan.commands k plan.energy plan.steps) profile (c.finish.ensures.accepted target alike))

pub returns-clause-plain : goal.returns-clause-plain
returns-clause-plain c =
    let commands : c.finish.result.commands ≡ c.go.new.tape.commands ++ Halt ∷ [] = c.finish.ensures.commands ∙ c.in_ok-halt.ensures.ok.commands in
    subst (All IsPlain) (sym commands) (plain_and c.go.new.tape.commands Halt tt (c.in_ok-go.ensures.works.plain c.requires.finished.plain))

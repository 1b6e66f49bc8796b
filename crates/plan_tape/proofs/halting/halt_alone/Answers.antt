use Rattle.std.proofs.Common.{◌≡◌, sym, ◌∙◌, ap, subst, List, [], ◌∷◌, ◌++◌}
use Rattle.nano_spec.specs.declared.commands.Command.{Command}
use Rattle.nano_spec.specs.declared.commands.Command.TheVariants.{Halt}
use Rattle.nano_spec.specs.declared.system.Profile.{Profile}
use Rattle.nano_spec.specs.Matrix.{Matrix, is_full}
use Rattle.plan_tape.specs.Progress.{IsAccepted, TapeState}
use Rattle.plan_tape.specs.Reaches.{HasAtMost}
use Rattle.plan_tape.proofs.Fissions.{few_at_most}
use Rattle.plan_tape.proofs.halting.halt_alone.Goals as goal

pub returns-clause-accepted : goal.returns-clause-accepted
returns-clause-accepted c = λ target alike.
    let halted = c.in_ok-halt.ensures.ok in
    let started = c.in_ok-tape.ensures in
    let matrix : c.halt.new.self.matrix ≡ c.args.source = halted.matrix ∙ ap (λ (x : TapeState). x.matrix) started in
    subst (λ (k : Profile). IsAccepted c.args.source target c.finish.result.commands k c.finish.result.energy c.finish.result.steps) (halted.profile ∙ ap (λ (x : TapeState). x.profile) started)
    (subst (λ (m : Matrix). IsAccepted m target c.finish.result.commands c.halt.new.self.profile c.finish.result.energy c.finish.result.steps) (halted.source ∙ ap (λ (x : TapeState). x.source) started)
    (c.finish.ensures.accepted target (λ q. ap (λ (m : Matrix). is_full m q) matrix ∙ alike q)))

pub returns-clause-few : goal.returns-clause-few
returns-clause-few c = λ most some.
    let halted = c.in_ok-halt.ensures.ok in
    let all : c.finish.result.commands ≡ Halt ∷ [] = c.finish.ensures.commands ∙ (halted.commands ∙ ap (λ (x : TapeState). x.commands ++ Halt ∷ []) c.in_ok-tape.ensures) in
    subst (λ (k : List Command). HasAtMost c.args.source c.args.profile k most) (sym all) (few_at_most c.args.source c.args.profile (Halt ∷ []) most some)

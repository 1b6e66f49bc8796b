use Rattle.std.proofs.Common.{refl, [], ◌∷◌, subst}
use Rattle.std.specs.Prelude.{Err}
use Rattle.step_machine.specs.Stepped.{Stepped}
use Rattle.step_machine.specs.declared.machine.StepFault.{StepFault}
use Rattle.trace_judge.proofs.Alone.{pushed_broken, pushed_made}
use Rattle.trace_judge.proofs.runner.Runner.push_alone.Goals as goal

pub returns-in-Made-clause-pushed : goal.returns-in-Made-clause-pushed
returns-in-Made-clause-pushed g c =
    let inside = c.self.inside in
    pushed_made inside.machine inside.pending inside.mark c.args.self.now c.self.view_is c.requires.alone c.args.command c.step_frequent.new.self c.step_frequent.new.fault
    c.args.steps.now c.step_frequent.new.steps (c.in-Made.ensures.tried.made refl)

pub returns-in-Broken-clause-pushed : goal.returns-in-Broken-clause-pushed
returns-in-Broken-clause-pushed g c =
    let inside = c.self.inside in
    pushed_broken inside.machine inside.pending inside.mark c.args.self.now c.self.view_is c.requires.alone c.args.command c.step_frequent.new.self c.push.new.self
    c.in-Broken.broken c.args.steps.now c.step_frequent.new.steps c.push.ensures
    (subst (λ (f : StepFault). Stepped inside.machine c.step_frequent.new.self (c.args.command ∷ []) (Err f) c.args.steps.now c.step_frequent.new.steps) c.in-Broken.is
    (c.in-Refused.ensures.tried.refused refl))

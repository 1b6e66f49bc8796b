use Rattle.std.proofs.Common.{◌≡◌, subst, sym, rules}
use Rattle.std.specs.Prelude.{Err, IfSome, Result}
use Rattle.step_machine.specs.declared.machine.StepOk.{StepOk}
use Rattle.step_debugger.specs.declared.fault.DebugFault.{DebugFault}
use Rattle.step_debugger.specs.Calls.{step_report}
use Rattle.step_debugger.specs.Session.{AnswersLine, Step}
use Rattle.step_debugger.specs.Touches.{IfRefused, IsRefusedWithin}
use Rattle.step_debugger.proofs.TouchedOn.{untouched_at}
use Rattle.step_debugger.proofs.Trying.{unready_step}
use Rattle.step_debugger.proofs.debugger.Debugger.step.Goals as goal

pub returns-in_err-ready-clause-session : goal.returns-in_err-ready-clause-session
returns-in_err-ready-clause-session g c =
    let is : c.from_residual.result ≡ Err c.in_err-ready.field-0.0 = search rules in
    subst (λ (r : Result StepOk DebugFault). IfSome (step_report c.args.self.now.session.point.steps r) (AnswersLine c.args.self.now.commands Step c.args.self.now.session c.args.self.now.session)) (sym is)
    (unready_step c.args.self.now.commands c.args.self.now.session c.in_err-ready.field-0.0 c.in_err-ready.ensures.unready)

pub returns-in_err-ready-clause-touches_refused : goal.returns-in_err-ready-clause-touches_refused
returns-in_err-ready-clause-touches_refused g c =
    let point = c.args.self.now.session.point in
    let is : c.from_residual.result ≡ Err c.in_err-ready.field-0.0 = search rules in
    subst (λ (r : Result StepOk DebugFault). IfRefused r (λ b. IsRefusedWithin 100 c.args.self.now.commands point b c.args.steps.now c.args.steps.now)) (sym is) (untouched_at StepOk 100 c.args.self.now.commands point c.in_err-ready.field-0.0 c.args.steps.now)

use Rattle.std.proofs.Common.{◌≡◌, List, Option, sym, ◌∙◌, ap, subst, length}
use Rattle.std.specs.Prelude.{Err}
use Rattle.nano_spec.specs.declared.commands.Command.{Command}
use Rattle.kept_machine.specs.Calls.{Tries}
use Rattle.kept_machine.specs.Kept.{kept_of, trace_without, trace_of}
use Rattle.kept_machine.proofs.Traces.{as_before}
use Rattle.kept_machine.proofs.stepping.step_and_keep.Goals as goal

pub returns-in-Err-clause-tries : goal.returns-in-Err-clause-tries
returns-in-Err-clause-tries g c =
    let back : trace_of c.shorten.new.self ≡ trace_of c.args.trace.now =
    c.shorten.ensures ∙ (ap (λ (t : Option (List Command)). trace_without t (length c.args.commands.now)) c.in_ok-lengthen.ensures.ok ∙ as_before (trace_of c.args.trace.now) c.args.commands.now) in
    subst (λ (t : Option (List Command)). Tries (kept_of c.args.machine.now c.args.notes.now (trace_of c.args.trace.now)) c.args.commands.now (kept_of c.try_step.new.machine c.try_step.new.notes t) (Err c.in-Err.fault)) (sym back)
    (c.in-Err.ensures.tries (trace_of c.args.trace.now))

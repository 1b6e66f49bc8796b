use Rattle.std.proofs.Common.{subst, sym, Option}
use Rattle.nano_spec.specs.Matrix.{Matrix}
use Rattle.kept_machine.specs.Aiming.{target_of}
use Rattle.kept_machine.specs.Calls.{Tries}
use Rattle.kept_machine.specs.Kept.{Kept, kept_of, trace_of}
use Rattle.kept_machine.proofs.Targets.{aimed_at, tries_aimed}
use Rattle.kept_machine.proofs.kept.KeptMachine.step.Goals as goal

pub returns : goal.returns
returns c =
    let old : Kept = kept_of c.self.inside.machine c.self.inside.notes (trace_of c.self.inside.trace) in
    let new : Kept = kept_of c.step_and_keep.new.machine c.step_and_keep.new.notes (trace_of c.step_and_keep.new.trace) in
    subst (λ (k : Kept). Tries k c.args.commands.now (aimed_at (target_of c.step_and_keep.new.aim) new) c.step_and_keep.result) c.self.view_is
    (subst (λ (t : Option Matrix). Tries (aimed_at (target_of c.self.inside.aim) old) c.args.commands.now (aimed_at t new) c.step_and_keep.result) (sym c.step_and_keep.ensures.target)
    (tries_aimed (target_of c.self.inside.aim) old new c.args.commands.now c.step_and_keep.result c.step_and_keep.ensures.tries))

use Rattle.std.proofs.Common.{subst, sym, Option}
use Rattle.nano_spec.specs.Matrix.{Matrix}
use Rattle.kept_machine.specs.Aiming.{target_of}
use Rattle.kept_machine.specs.Calls.{Undoes}
use Rattle.kept_machine.specs.Kept.{Kept, kept_of, trace_of}
use Rattle.kept_machine.proofs.Targets.{aimed_at, undoes_aimed}
use Rattle.kept_machine.proofs.kept.KeptMachine.undo.Goals as goal

pub returns : goal.returns
returns c =
    let old : Kept = kept_of c.self.inside.machine c.self.inside.notes (trace_of c.self.inside.trace) in
    let new : Kept = kept_of c.undo_and_shorten.new.machine c.undo_and_shorten.new.notes (trace_of c.undo_and_shorten.new.trace) in
    subst (λ (k : Kept). Undoes k (aimed_at (target_of c.undo_and_shorten.new.aim) new) c.undo_and_shorten.result) c.self.view_is
    (subst (λ (t : Option Matrix). Undoes (aimed_at (target_of c.self.inside.aim) old) (aimed_at t new) c.undo_and_shorten.result) (sym c.undo_and_shorten.ensures.target)
    (undoes_aimed (target_of c.self.inside.aim) old new c.undo_and_shorten.result c.undo_and_shorten.ensures.back))

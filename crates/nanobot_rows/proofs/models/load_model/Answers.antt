use Rattle.std.proofs.Common.{◌≡◌, ◌∙◌, [], Err, refl, rules}
use Rattle.vox_depot.specs.Causes.{Rose}
use Rattle.nanobot_rows.specs.declared.status.Status.TheVariants as is
use Rattle.nanobot_rows.specs.Answer.{ModelOf}
use Rattle.nanobot_rows.specs.Reading.{of_load}
use Rattle.nanobot_rows.proofs.Told.{found, not_lawful, not_loaded, not_read, told_weaker}
use Rattle.nanobot_rows.proofs.models.load_model.Goals as goal

pub returns-in_err-bytes-clause-reads : goal.returns-in_err-bytes-clause-reads
returns-in_err-bytes-clause-reads g c =
    let same : c.from_residual.result ≡ Err (of_load c.in_err-bytes.field-0.0) = search rules in
    rw same (not_loaded (ModelOf c.args.who c.args.name.now) (g.D.Depot.files c.args.depot.now) c.args.name.now (Rose (g.D.Depot.faults c.args.depot.now) (g.D.Depot.faults c.load.new.depot)) (λ files h. (Err (is.Depot, []), h, refl)) c.in_err-bytes.field-0.0 (λ e. search rules) (λ e. search rules))

pub returns-in-Err-clause-reads : goal.returns-in-Err-clause-reads
returns-in-Err-clause-reads g c =
    let loaded = told_weaker _ _ _ _ (λ file e. c.deref.ensures.value ∙ e) c.in_ok-bytes.ensures.bytes in
    rw c.of_fault.ensures (not_read _ _ _ loaded c.args.who _ c.in-Err.fault c.in-Err.ensures)

pub returns-in-Ok-legal-clause-reads : goal.returns-in-Ok-legal-clause-reads
returns-in-Ok-legal-clause-reads g c =
    let loaded = told_weaker _ _ _ _ (λ file e. c.deref.ensures.value ∙ e) c.in_ok-bytes.ensures.bytes in
    found _ _ _ loaded c.args.who _ c.in-Ok.ensures (c.in-Ok-legal.ensures {u = tt})

pub returns-clause-reads : goal.returns-clause-reads
returns-clause-reads g c =
    let loaded = told_weaker _ _ _ _ (λ file e. c.deref.ensures.value ∙ e) c.in_ok-bytes.ensures.bytes in
    rw c.of_fault-in-Err-legal.ensures (not_lawful _ _ _ loaded c.args.who _ _ c.in-Err-legal.fault c.in-Ok.ensures c.in-Err-legal.ensures)

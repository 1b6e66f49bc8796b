use Rattle.std.proofs.Common.{◌≡◌, ◌∙◌, Err, rules, sym}
use Rattle.nanobot_rows.proofs.Replies.{both_alike, both_unlike, source_stops, target_stops}
use Rattle.nanobot_rows.proofs.models.load_both.Goals as goal

pub returns-in_err-source-clause-reads : goal.returns-in_err-source-clause-reads
returns-in_err-source-clause-reads g c =
    let is : c.from_residual.result ≡ Err c.in_err-source.field-0.0 = search rules in
    rw is (source_stops c.args.source.now c.args.target.now _ _ c.in_err-source.field-0.0 (c.in_err-source.ensures {u = tt}).reads)

pub returns-in_err-target-clause-reads : goal.returns-in_err-target-clause-reads
returns-in_err-target-clause-reads g c =
    let is : c.from_residual-in_err-target.result ≡ Err c.in_err-target.field-0.0 = search rules in
    rw is
    (target_stops c.args.source.now c.args.target.now _ c.in_ok-source.source (c.in_ok-source.ensures {u = tt}).reads _ c.load_model.ensures.only_reads.files _ _ _ c.in_err-target.field-0.0 c.load_model.ensures.only_reads.later
    (c.in_err-target.ensures {u = tt}).reads)

pub returns-then-resolution-clause-reads : goal.returns-then-resolution-clause-reads
returns-then-resolution-clause-reads g c =
    both_unlike c.args.source.now c.args.target.now _ c.in_ok-source.source (c.in_ok-source.ensures {u = tt}).reads _ c.load_model.ensures.only_reads.files c.in_ok-target.target (c.in_ok-target.ensures {u = tt}).reads
    _ _ c.resolution-then-resolution.ensures.value c.resolution-then-resolution-2.ensures.value
    (λ e. c.if-resolution.true (c.resolution.ensures.value ∙ (sym c.resolution-then-resolution.ensures.value ∙ (e ∙ (c.resolution-then-resolution-2.ensures.value ∙ sym c.resolution-2.ensures.value)))))

pub returns-clause-reads : goal.returns-clause-reads
returns-clause-reads g c =
    both_alike c.args.source.now c.args.target.now _ c.in_ok-source.source (c.in_ok-source.ensures {u = tt}).reads _ c.load_model.ensures.only_reads.files c.in_ok-target.target (c.in_ok-target.ensures {u = tt}).reads
    (sym c.resolution.ensures.value ∙ (c.if-resolution.false ∙ c.resolution-2.ensures.value))

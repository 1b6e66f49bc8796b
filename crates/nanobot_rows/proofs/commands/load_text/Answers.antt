use Rattle.std.proofs.Common.{◌≡◌, ℕ, Err, List, rules, subst}
use Rattle.trace_text.specs.Text.{ReadsText}
use Rattle.nanobot_rows.proofs.Loads.{text_found, text_refused, text_stops}
use Rattle.nanobot_rows.proofs.commands.load_text.Goals as goal

pub returns-in_err-bytes-clause-reads : goal.returns-in_err-bytes-clause-reads
returns-in_err-bytes-clause-reads g c =
    let is : c.from_residual.result ≡ Err c.in_err-bytes.field-0.0 = search rules in
    rw is (text_stops c.args.name.now _ _ c.in_err-bytes.field-0.0 c.in_err-bytes.ensures.reads)

pub returns-in-Ok-clause-reads : goal.returns-in-Ok-clause-reads
returns-in-Ok-clause-reads g c =
    let whole = c.in_ok-bytes.ensures.reads in
    text_found _ _ c.in_ok-bytes.bytes.items whole c.in-Ok.commands (rw c.as_slice.ensures.value at c.in-Ok.ensures)

pub returns-clause-reads : goal.returns-clause-reads
returns-clause-reads g c =
    let whole = c.in_ok-bytes.ensures.reads in
    rw c.of_text.ensures (text_refused _ _ c.in_ok-bytes.bytes.items whole _ c.in-Err.fault (subst (λ (b : List ℕ). ReadsText b (Err c.in-Err.fault)) c.as_slice.ensures.value c.in-Err.ensures))

use Rattle.std.proofs.Common.{◌≡◌, ℕ, Err, Global, List, rules, subst}
use Rattle.debug_script.specs.Calls.{ReadsScript}
use Rattle.nanobot_rows.proofs.Loads.{script_found, script_refused, script_stops}
use Rattle.nanobot_rows.proofs.debugging.load_script.Goals as goal

pub returns-in_err-bytes-clause-reads : goal.returns-in_err-bytes-clause-reads
returns-in_err-bytes-clause-reads g c =
    let is : c.from_residual.result ≡ Err c.in_err-bytes.field-0.0 = search rules in
    rw is (script_stops c.args.resolution c.args.name.now _ _ c.in_err-bytes.field-0.0 c.in_err-bytes.ensures.reads)

pub returns-in-Ok-clause-reads : goal.returns-in-Ok-clause-reads
returns-in-Ok-clause-reads g c =
    let whole = c.in_ok-bytes.ensures.reads in
    script_found _ _ c.in_ok-bytes.bytes.items c.args.resolution whole _ (rw c.as_slice.ensures.value at c.in-Ok.ensures)

pub returns-clause-reads : goal.returns-clause-reads
returns-clause-reads g c =
    let whole = c.in_ok-bytes.ensures.reads in
    rw c.of_text.ensures (script_refused _ _ c.in_ok-bytes.bytes.items c.args.resolution whole _ c.in-Err.fault (subst (λ (b : List ℕ). ReadsScript {Y = Global} c.args.resolution b (Err c.in-Err.fault)) c.as_slice.ensures.value c.in-Err.ensures))

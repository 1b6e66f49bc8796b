use Rattle.std.proofs.Common.{◌≡◌, ℕ, Err, List, arith, rules, subst}
use Rattle.nanobot_rows.specs.Answer.{dis_limit}
use Rattle.trace_codec.specs.Whole.{Decodes}
use Rattle.nanobot_rows.proofs.Loads.{few_commands, trace_found, trace_refused, trace_stops}
use Rattle.nanobot_rows.proofs.commands.load_trace.Goals as goal

pub returns-in_err-bytes-clause-reads : goal.returns-in_err-bytes-clause-reads
returns-in_err-bytes-clause-reads g c =
    let is : c.from_residual.result ≡ Err c.in_err-bytes.field-0.0 = search rules in
    rw is (trace_stops dis_limit c.args.name.now _ _ c.in_err-bytes.field-0.0 c.in_err-bytes.ensures.reads)

pub returns-in-Ok-clause-reads : goal.returns-in-Ok-clause-reads
returns-in-Ok-clause-reads g c =
    let whole = c.in_ok-bytes.ensures.reads in
    trace_found _ _ c.in_ok-bytes.bytes.items dis_limit whole c.in-Ok.commands (rw c.as_slice.ensures.value at c.in-Ok.ensures.answer)

pub returns-clause-reads : goal.returns-clause-reads
returns-clause-reads g c =
    let whole = c.in_ok-bytes.ensures.reads in
    rw c.of_trace.ensures (trace_refused _ _ c.in_ok-bytes.bytes.items dis_limit whole _ c.in-Err.fault (subst (λ (b : List ℕ). Decodes b (Err c.in-Err.fault)) c.as_slice.ensures.value c.in-Err.ensures.answer))

pub returns-in-Ok-clause-few : goal.returns-in-Ok-clause-few
returns-in-Ok-clause-few g c = few_commands c.as_slice.result.now c.in-Ok.commands 50000000 c.in-Ok.ensures.answer (omega (arith, c.in_ok-bytes.ensures.size, c.as_slice.ensures.len))

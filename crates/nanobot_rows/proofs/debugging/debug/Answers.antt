use Rattle.std.proofs.Common.{◌≡◌, arith, refl, rules, Err}
use Rattle.std.specs.Prelude.{None}
use Rattle.nanobot_words.specs.Rows.{debug}
use Rattle.nanobot_rows.specs.Answer.{AnswerOf, ModelOf}
use Rattle.nanobot_rows.specs.Effects.{reply_by}
use Rattle.nanobot_rows.specs.declared.effect.Message.TheVariants as message
use Rattle.nanobot_rows.specs.declared.report.Who.TheVariants as who
use Rattle.nano_spec.proofs.Opening.{origin_void}
use Rattle.nanobot_rows.proofs.Debugged.{script_stops, session_ends, trace_stops}
use Rattle.nanobot_rows.proofs.Replies.{says_stops}
use Rattle.nanobot_rows.proofs.debugging.debug.Goals as goal

pub returns-in_err-planes-clause-finishes : goal.returns-in_err-planes-clause-finishes
returns-in_err-planes-clause-finishes g c =
    let source = c.args.source.now in
    let is : c.from_residual.result ≡ Err c.in_err-planes.field-0.0 = search rules in
    rw is (says_stops (ModelOf who.Source source) (AnswerOf (debug source c.args.trace.now c.args.script.now)) reply_by (λ files end h. (Err end, h, refl)) _ _ c.in_err-planes.field-0.0 (c.in_err-planes.ensures {u = tt}).reads)

pub returns-in_err-commands-clause-finishes : goal.returns-in_err-commands-clause-finishes
returns-in_err-commands-clause-finishes g c =
    let is : c.from_residual-in_err-commands.result ≡ Err c.in_err-commands.field-0.0 = search rules in
    rw is (trace_stops c.args.source.now c.args.trace.now c.args.script.now c.in_ok-planes.planes _ _ _ _ _ (c.in_ok-planes.ensures {u = tt}).reads c.load_model.ensures.only_reads.files c.load_model.ensures.only_reads.later c.in_err-commands.field-0.0 (c.in_err-commands.ensures {u = tt}).reads)

pub returns-in_err-script-clause-finishes : goal.returns-in_err-script-clause-finishes
returns-in_err-script-clause-finishes g c =
    let is : c.from_residual-in_err-script.result ≡ Err c.in_err-script.field-0.0 = search rules in
    rw is (script_stops c.args.source.now c.args.trace.now c.args.script.now c.in_ok-planes.planes _ _ _ _ _ (c.in_ok-planes.ensures {u = tt}).reads c.load_model.ensures.only_reads.files c.load_model.ensures.only_reads.later c.in_ok-commands.commands (c.in_ok-commands.ensures {u = tt}).reads
    _ _ c.load_trace.ensures.only_reads.files c.load_trace.ensures.only_reads.later c.resolution.result c.resolution.ensures.value c.in_err-script.field-0.0 (c.in_err-script.ensures {u = tt}).reads)

pub print_session-requires-clause-void : goal.print_session-requires-clause-void
print_session-requires-clause-void g c = origin_void c.in_ok-planes.planes (c.in_ok-planes.ensures {u = tt}).legal

pub print_session-requires-clause-few : goal.print_session-requires-clause-few
print_session-requires-clause-few g c = let few = (c.in_ok-commands.ensures {u = tt}).few in omega (arith, few)

pub returns-clause-finishes : goal.returns-clause-finishes
returns-clause-finishes g c =
    let printed = rw c.as_slice.ensures.value at (c.in_ok-lines.ensures {u = tt}) in
    session_ends c.args.source.now c.args.trace.now c.args.script.now c.in_ok-planes.planes _ _ _ (c.in_ok-planes.ensures {u = tt}).reads c.load_model.ensures.only_reads.files c.in_ok-commands.commands (c.in_ok-commands.ensures {u = tt}).reads
    c.load_trace.ensures.only_reads.files c.resolution.result c.resolution.ensures.value _ (c.in_ok-script.ensures {u = tt}).reads (record { message = message.Session c.in_ok-lines.lines; file = None }) (λ files. (c.in_ok-lines.lines.items, printed, refl))

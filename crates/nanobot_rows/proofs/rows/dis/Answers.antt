use Rattle.std.proofs.Common.{◌≡◌, Err, refl, rules}
use Rattle.nanobot_words.specs.Rows.{dis}
use Rattle.nanobot_rows.specs.Answer.{AnswerOf, TraceOf, dis_limit}
use Rattle.nanobot_rows.specs.Effects.{reply_by}
use Rattle.nanobot_rows.proofs.Replies.{says_stops}
use Rattle.nanobot_rows.proofs.rows.dis.Goals as goal

pub returns-in_err-commands-clause-finishes : goal.returns-in_err-commands-clause-finishes
returns-in_err-commands-clause-finishes g c =
    let trace = c.args.trace.now in
    let is : c.from_residual.result ≡ Err c.in_err-commands.field-0.0 = search rules in
    rw is (says_stops (TraceOf dis_limit trace) (AnswerOf (dis trace c.args.text.now)) reply_by (λ files end h. (Err end, h, refl)) _ _ c.in_err-commands.field-0.0 (c.in_err-commands.ensures {u = tt}).reads)

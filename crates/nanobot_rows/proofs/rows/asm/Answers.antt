use Rattle.std.proofs.Common.{◌≡◌, Err, refl, rules}
use Rattle.nanobot_words.specs.Rows.{asm}
use Rattle.nanobot_rows.specs.Answer.{AnswerOf, TextOf}
use Rattle.nanobot_rows.specs.Effects.{reply_by}
use Rattle.nanobot_rows.proofs.Replies.{says_stops}
use Rattle.nanobot_rows.proofs.rows.asm.Goals as goal

pub returns-in_err-commands-clause-finishes : goal.returns-in_err-commands-clause-finishes
returns-in_err-commands-clause-finishes g c =
    let text = c.args.text.now in
    let is : c.from_residual.result ≡ Err c.in_err-commands.field-0.0 = search rules in
    rw is (says_stops (TextOf text) (AnswerOf (asm text c.args.trace.now)) reply_by (λ files end h. (Err end, h, refl)) _ _ c.in_err-commands.field-0.0 (c.in_err-commands.ensures {u = tt}).reads)

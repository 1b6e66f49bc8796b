use Rattle.std.proofs.Common.{◌≡◌, Err, refl, rules}
use Rattle.nanobot_words.specs.Rows.{check}
use Rattle.nanobot_rows.specs.declared.report.Who.TheVariants as who
use Rattle.nanobot_rows.specs.Answer.{AnswerOf, ModelOf}
use Rattle.nanobot_rows.specs.Reading.{reply_of}
use Rattle.nanobot_rows.proofs.Replies.{says_stops}
use Rattle.nanobot_rows.proofs.rows.check.Goals as goal

pub returns-in_err-planes-clause-ends : goal.returns-in_err-planes-clause-ends
returns-in_err-planes-clause-ends g c =
    let name = c.args.model.now in
    let is : c.from_residual.result ≡ Err c.in_err-planes.field-0.0 = search rules in
    rw is (says_stops (ModelOf who.Model name) (AnswerOf (check name)) reply_of (λ files end h. (Err end, h, refl)) _ _ c.in_err-planes.field-0.0 (c.in_err-planes.ensures {u = tt}).reads)

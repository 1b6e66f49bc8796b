use Rattle.std.specs.FinMap as finite
use Rattle.std.proofs.Common.{◌∙◌, ap}
use Rattle.nano_spec.specs.Matrix.{full_count}
use Rattle.nano_spec.specs.Model.{written}
use Rattle.nanobot_words.specs.Rows.{make}
use Rattle.nanobot_rows.specs.declared.status.Status.TheVariants as is
use Rattle.nanobot_rows.specs.Answer.{AnswerOf}
use Rattle.nanobot_rows.specs.Effects.{reply_by}
use Rattle.nanobot_rows.specs.Lines.{forged_line}
use Rattle.nanobot_rows.proofs.Told.{if_some}
use Rattle.nanobot_rows.proofs.rows.make.Goals as goal

pub returns-clause-finishes : goal.returns-clause-finishes
returns-clause-finishes g c = λ told before now.
    let forged_is = (c.in_ok-planes.ensures {u = tt}).value in
    let full = c.count.ensures.value ∙ ap full_count forged_is in
    let bytes = (c.in_ok-bytes.ensures {u = tt}) ∙ ap written forged_is in
    if_some {P = λ files. AnswerOf (make c.args.number c.args.resolution c.args.model.now) files (reply_by files c.storing.result)} told (λ files _.
    ap (reply_by files) c.storing.ensures ∙ (λ i. record { status = is.Done; line = forged_line c.args.resolution (full i); after = finite.insert files c.args.model.now (bytes i) }))

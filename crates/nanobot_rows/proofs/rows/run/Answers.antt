use Rattle.std.proofs.Common.{◌∙◌, ap}
use Rattle.nanobot_words.specs.Parsing.{side_of}
use Rattle.nanobot_words.specs.Rows.{run}
use Rattle.vox_depot.specs.Causes.{Rose}
use Rattle.nanobot_rows.specs.Answer.{AnswerOf}
use Rattle.nanobot_rows.specs.Effects.{alone}
use Rattle.nanobot_rows.proofs.Replies.{ends_finish}
use Rattle.nanobot_rows.proofs.rows.run.Goals as goal

pub returns-clause-finishes : goal.returns-clause-finishes
returns-clause-finishes g c =
    let told = g.D.Depot.files c.args.depot.now in
    let rose = Rose (g.D.Depot.faults c.args.depot.now) (g.D.Depot.faults c.judge_run-told.new.depot) in
    rw c.telling.ensures (ends_finish (AnswerOf (run c.args.round (side_of c.args.source) (side_of c.args.target) c.args.trace.now)) told rose c.judge_run-told.result c.judge_run-told.ensures.ends)

pub returns-clause-within : goal.returns-clause-within
returns-clause-within g c = λ no_memory. c.judge_run-told.ensures.within (λ e. no_memory (c.telling.ensures ∙ ap alone e))

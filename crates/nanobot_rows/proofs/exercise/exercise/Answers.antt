use Rattle.vox_depot.specs.Causes.{Rose}
use Rattle.nanobot_words.specs.Rows.{exercise}
use Rattle.nanobot_rows.specs.Answer.{AnswerOf}
use Rattle.nanobot_rows.proofs.Replies.{ends_finish}
use Rattle.nanobot_rows.proofs.exercise.exercise.Goals as goal

pub returns-clause-finishes : goal.returns-clause-finishes
returns-clause-finishes g c = λ told before now. rw c.telling.ensures (ends_finish (AnswerOf (exercise c.args.number c.args.resolution)) told (Rose before now) c.judge_plans.result (c.judge_plans.ensures.ends told before now))

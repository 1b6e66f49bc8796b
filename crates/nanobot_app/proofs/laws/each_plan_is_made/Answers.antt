use Rattle.std.proofs.Common.{ap}
use Rattle.nanobot_rows.specs.Answer.{Reply}
use Rattle.nanobot_app.proofs.Plans.{plan_is_done}
use Rattle.nanobot_app.proofs.laws.each_plan_is_made.Goals as goal

pub returns-clause-plan : goal.returns-clause-plan
returns-clause-plan c = plan_is_done (record {
  legality = c.one_legality.ensures;
  decoding = c.one_decoding.ensures;
  verdicts = c.one_verdict.ensures;
  unsupported = c.one_unsupported.ensures;
  scripts = c.one_script.ensures;
  sessions = c.one_text.ensures;
})

pub returns-clause-exercise : goal.returns-clause-exercise
returns-clause-exercise c = λ number resolution files reply h. ap (λ (r : Reply). r.status) h.4

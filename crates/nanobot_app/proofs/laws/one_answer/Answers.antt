use Rattle.nanobot_app.proofs.Determined.{answer_once, status_once}
use Rattle.nanobot_app.proofs.laws.one_answer.Goals as goal

pub returns-clause-status : goal.returns-clause-status
returns-clause-status c = status_once c.one_row.ensures (record {
  legality = c.one_legality.ensures;
  decoding = c.one_decoding.ensures;
  verdicts = c.one_verdict.ensures;
  unsupported = c.one_unsupported.ensures;
  scripts = c.one_script.ensures;
  sessions = c.one_text.ensures;
})

pub returns-clause-answer : goal.returns-clause-answer
returns-clause-answer c = answer_once c.one_row.ensures (record {
  legality = c.one_legality.ensures;
  decoding = c.one_decoding.ensures;
  verdicts = c.one_verdict.ensures;
  unsupported = c.one_unsupported.ensures;
  scripts = c.one_script.ensures;
  sessions = c.one_text.ensures;
})

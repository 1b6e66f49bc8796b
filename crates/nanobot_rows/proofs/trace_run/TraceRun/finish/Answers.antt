use Rattle.std.proofs.Common.{◌≡◌, subst, sym}
use Rattle.nanobot_rows.specs.Reading.{AnswerOfBytes, HasRun, RunState, reply_of}
use Rattle.nanobot_rows.proofs.Running.{ends_bad, ends_cut, ends_run}
use Rattle.nanobot_rows.specs.declared.report.Report.{Report}
use Rattle.nanobot_rows.proofs.trace_run.TraceRun.finish.Goals as goal

pub returns-in-Err-Bad-clause-report : goal.returns-in-Err-Bad-clause-report
returns-in-Err-Bad-clause-report g c = λ source profile bytes run files.
    let run_state : RunState = record { decoder = c.self.inside.decoder; run = c.self.inside.runner } in
    ends_bad source c.args.target.now profile bytes run_state (subst (λ (t : RunState). HasRun source profile bytes t) (sym c.self.view_is) run) files c.in-Err-Bad.offset (rw c.in-Err-Bad.field-0-is at c.in-Err-Bad.ensures)

pub returns-in-Err-Cut-clause-report : goal.returns-in-Err-Cut-clause-report
returns-in-Err-Cut-clause-report g c = λ source profile bytes run files.
    let run_state : RunState = record { decoder = c.self.inside.decoder; run = c.self.inside.runner } in
    ends_cut source c.args.target.now profile bytes run_state (subst (λ (t : RunState). HasRun source profile bytes t) (sym c.self.view_is) run) files c.pieces_decode.ensures.cut c.in-Err-Cut.offset (rw c.in-Err-Cut.field-0-is at c.in-Err-Cut.ensures)

pub returns-clause-report : goal.returns-clause-report
returns-clause-report g c = λ source profile bytes run files.
    let run_state : RunState = record { decoder = c.self.inside.decoder; run = c.self.inside.runner } in
    let is : c.of_verdict.result ≡ _ = c.of_verdict.ensures in
    subst (λ (r : Report). AnswerOfBytes profile source c.args.target.now bytes files (reply_of files r)) (sym is)
    (ends_run source c.args.target.now profile bytes run_state (subst (λ (t : RunState). HasRun source profile bytes t) (sym c.self.view_is) run) files c.pieces_decode.ensures.whole (λ commands p v. c.the_progress_is_the_verdict.ensures source c.args.target.now profile commands p v) c.finish.result c.in-Ok.ensures c.finish.ensures.value)

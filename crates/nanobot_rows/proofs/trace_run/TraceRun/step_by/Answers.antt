use Rattle.nanobot_rows.proofs.AloneBytes.{goes_got}
use Rattle.nanobot_rows.proofs.trace_run.TraceRun.step_by.Goals as goal

pub returns-in_ok-alone-in-Got : goal.returns-in_ok-alone-in-Got
returns-in_ok-alone-in-Got g c =
    let law = c.pieces_decode.ensures in
    let inside = c.self.inside in
    let front = c.in-Got.ensures.takes in
    let pushed = c.in_ok-alone-in-Got.ensures in
    goes_got law.got law.all law.bad c.the_work_pays.ensures.push c.args.self.now inside.decoder c.take_front.new.self inside.runner c.push_alone.new.self c.args.piece.now c.in-Got.command c.in-Got.len c.in_ok-alone-in-Got.alone c.args.steps.now c.push_alone.new.steps
    c.self.view_is c.requires.alone.alone.stands front.1 front.0 pushed.pushed pushed.alone

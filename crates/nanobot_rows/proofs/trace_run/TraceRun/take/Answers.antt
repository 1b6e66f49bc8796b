use Rattle.nanobot_rows.proofs.TakenBytes.{takes_if_ok}
use Rattle.nanobot_rows.proofs.trace_run.TraceRun.take.Goals as goal

pub returns : goal.returns
returns g c =
    let law = c.pieces_decode.ensures in
    takes_if_ok law.got law.all law.bad c.the_work_pays.ensures.push c.push.result c.args.self.now c.self.inside.decoder c.feed-fed.new.self c.self.inside.runner c.push.new.runner c.args.piece.now c.feed-fed.result c.args.steps.now c.push.new.steps
    c.self.view_is c.requires.feeds.stands c.feed-fed.ensures.after c.feed-fed.ensures.answer c.requires.some c.push.ensures.gets

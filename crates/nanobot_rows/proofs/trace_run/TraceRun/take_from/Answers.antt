use Rattle.std.proofs.Common.{ap, arith, length}
use Rattle.nanobot_rows.proofs.TakenBytes.{takes_if_ok}
use Rattle.nanobot_rows.proofs.trace_run.TraceRun.take_from.Goals as goal

pub returns : goal.returns
returns g c =
    let law = c.pieces_decode.ensures in
    takes_if_ok law.got law.all law.bad c.the_work_pays.ensures.push c.push.result c.args.self.now c.self.inside.decoder c.feed_from-fed.new.self c.self.inside.runner c.push.new.runner c.args.piece.now c.feed_from-fed.result c.args.steps.now c.push.new.steps
    c.self.view_is c.requires.feeds.stands c.feed_from-fed.ensures.after c.feed_from-fed.ensures.answer (let size = ap length c.requires.head.1 in omega arith) c.push.ensures.gets

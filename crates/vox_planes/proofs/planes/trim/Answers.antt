use Rattle.std.proofs.Common.{◌<◌, arith}
use Rattle.vox_planes.proofs.Ends.{one_word_less}
use Rattle.vox_planes.proofs.planes.trim.Goals as goal

pub loop-preserved : goal.loop-preserved
loop-preserved c =
    let some : 0 < c.loop.left = omega (arith, c.if-left-eq0.false) in
    one_word_less c.args.words.now c.loop.left some c.loop.invariant c.if-words-left-ne0.false

use Rattle.std.proofs.Common.{arith}
use Rattle.support_forest.proofs.SettlingSteps.{can_spread_fewer, spreading_fewer}
use Rattle.support_forest.proofs.settle.spread.Goals as goal

pub spread_by-requires-clause-can : goal.spread_by-requires-clause-can
spread_by-requires-clause-can g c = let touches = c.words_in-beside.ensures.touches in can_spread_fewer _ _ _ _ _ _ c.requires.can (omega arith)

pub returns : goal.returns
returns g c = λ old start before limit s. let touches = c.words_in-beside.ensures.touches in c.in_ok-spread_by.ensures old start before limit (spreading_fewer _ _ _ _ _ _ _ _ _ _ s (omega arith))

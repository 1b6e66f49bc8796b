use Rattle.std.proofs.Common.{◌<◌}
use Rattle.model_file.specs.Flood.{LooksAround}
use Rattle.model_file.proofs.flood.Flood.take_beside_all.Given as goal

abbrev pub invariant-loop-y : goal.invariant-loop-y
invariant-loop-y g l = LooksAround l.planes (λ d. d.y < l.y) l.initial.self l.self

use Rattle.std.proofs.Common.{◌≡◌, ◌<◌}
use Rattle.model_file.specs.Flood.{LooksAround}
use Rattle.model_file.proofs.flood.Flood.take_beside_layer.Given as goal

abbrev pub invariant-loop-x : goal.invariant-loop-x
invariant-loop-x g l = LooksAround l.planes (λ d. (d.y ≡ l.y) × (d.x < l.x)) l.initial.self l.self

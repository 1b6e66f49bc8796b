use Rattle.std.proofs.Common.{◌≡◌, ◌*◌, ◌<◌}
use Rattle.model_file.specs.Flood.{LooksAround}
use Rattle.model_file.proofs.flood.Flood.take_beside_row.Given as goal

abbrev pub invariant-loop-k : goal.invariant-loop-k
invariant-loop-k g l = LooksAround l.planes (λ d. (d.x ≡ l.x) × (d.y ≡ l.y) × (d.z < 64 * l.k)) l.initial.self l.self

use Rattle.std.proofs.Common.{◌≡◌, ◌+◌, ◌*◌, ◌<◌, ◌⊎◌, inl, inr, arith}
use Rattle.std.proofs.lemmas.Bool.{cases_lt}
use Rattle.std.proofs.lemmas.Grind.{div_ceil_times}
use Rattle.vox_geom.specs.declared.coordinate.Coord.{Coord}
use Rattle.vox_geom.specs.Space.{IsInSpace}
use Rattle.model_file.specs.Flood.{IsNextTo}
use Rattle.model_file.proofs.Beginnings.{begun_still, looks_none, looks_then, looks_wider}
use Rattle.model_file.proofs.flood.Flood.take_beside_row.Goals as goal

pub loop-k-init : goal.loop-k-init
loop-k-init g c = looks_none c.args.planes.now (λ d. (d.x ≡ c.args.x) × (d.y ≡ c.args.y) × (d.z < 64 * 0)) c.args.self.now (λ d e area t n. absurd (omega (arith, area.2)))

pub take_beside-requires-clause-begun : goal.take_beside-requires-clause-begun
take_beside-requires-clause-begun g c = begun_still c.args.planes.now c.args.self.now c.loop-k.self c.requires.begun c.loop-k.invariant.takes

pub loop-k-preserved : goal.loop-k-preserved
loop-k-preserved g c =
    looks_then c.args.planes.now (λ d. (d.x ≡ c.args.x) × (d.y ≡ c.args.y) × (d.z < 64 * c.loop-k.k)) (IsNextTo (record { x = c.args.x; y = c.args.y; z = 64 * c.loop-k.k }))
    (λ d. (d.x ≡ c.args.x) × (d.y ≡ c.args.y) × (d.z < 64 * (c.loop-k.k + 1))) c.args.self.now c.loop-k.self c.take_beside.new.self joined c.loop-k.invariant c.in_ok-take_beside.ensures
  where
    joined : (d : Coord) → IsInSpace c.args.planes.now.resolution d
        → (d.x ≡ c.args.x) × (d.y ≡ c.args.y) × (d.z < 64 * (c.loop-k.k + 1))
        → ((d.x ≡ c.args.x) × (d.y ≡ c.args.y) × (d.z < 64 * c.loop-k.k))
        ⊎ IsNextTo (record { x = c.args.x; y = c.args.y; z = 64 * c.loop-k.k }) d
    joined d i h = elim (cases_lt d.z (64 * c.loop-k.k)) [ inl l ↦ inl (h.0, h.1, l) | inr l ↦ inr (record { x = h.0; y = h.1; from = l; to = omega (arith, h.2) }) ]

pub returns : goal.returns
returns g c =
    looks_wider c.args.planes.now (λ d. (d.x ≡ c.args.x) × (d.y ≡ c.args.y) × (d.z < 64 * c.loop-k.k)) (λ d. (d.x ≡ c.args.x) × (d.y ≡ c.args.y)) c.args.self.now c.loop-k.self all c.loop-k.invariant
  where
    all : (d : Coord) → IsInSpace c.args.planes.now.resolution d → (d.x ≡ c.args.x) × (d.y ≡ c.args.y)
        → (d.x ≡ c.args.x) × (d.y ≡ c.args.y) × (d.z < 64 * c.loop-k.k)
    all d i h = (h.0, h.1, (let along_z = i.z in let ceiling_times = div_ceil_times c.args.planes.now.resolution 64 (omega arith) in omega (arith, c.loop-k-test.false, c.div_ceil-words.ensures, c.resolution.ensures.value)))

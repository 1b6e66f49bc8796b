use Rattle.std.proofs.Common.{◌≡◌, ◌+◌, ◌<◌, ◌⊎◌, inl, inr, arith}
use Rattle.std.proofs.lemmas.Bool.{cases_lt}
use Rattle.vox_geom.specs.declared.coordinate.Coord.{Coord}
use Rattle.vox_geom.specs.Space.{IsInSpace}
use Rattle.model_file.proofs.Beginnings.{begun_still, looks_bare_layer, looks_none, looks_then, looks_wider}
use Rattle.model_file.proofs.flood.Flood.take_beside_layer.Goals as goal

pub returns-then-is_bare_at : goal.returns-then-is_bare_at
returns-then-is_bare_at g c = looks_bare_layer c.args.planes.now c.args.self.now c.args.y (c.is_bare_at.ensures c.if-is_bare_at.true)

pub loop-x-init : goal.loop-x-init
loop-x-init g c = looks_none c.args.planes.now (λ d. (d.y ≡ c.args.y) × (d.x < 0)) c.args.self.now (λ d e area t n. absurd (omega (arith, area.1)))

pub take_beside_row-requires-clause-begun : goal.take_beside_row-requires-clause-begun
take_beside_row-requires-clause-begun g c = begun_still c.args.planes.now c.args.self.now c.loop-x.self c.requires.begun c.loop-x.invariant.takes

pub loop-x-preserved : goal.loop-x-preserved
loop-x-preserved g c =
    looks_then c.args.planes.now (λ d. (d.y ≡ c.args.y) × (d.x < c.loop-x.x)) (λ d. (d.x ≡ c.loop-x.x) × (d.y ≡ c.args.y)) (λ d. (d.y ≡ c.args.y) × (d.x < c.loop-x.x + 1))
    c.args.self.now c.loop-x.self c.take_beside_row.new.self joined c.loop-x.invariant c.in_ok-take_beside_row.ensures
  where
    joined : (d : Coord) → IsInSpace c.args.planes.now.resolution d → (d.y ≡ c.args.y) × (d.x < c.loop-x.x + 1)
        → ((d.y ≡ c.args.y) × (d.x < c.loop-x.x)) ⊎ ((d.x ≡ c.loop-x.x) × (d.y ≡ c.args.y))
    joined d i h = elim (cases_lt d.x c.loop-x.x) [ inl l ↦ inl (h.0, l) | inr l ↦ inr (omega (arith, h.1), h.0) ]

pub returns : goal.returns
returns g c =
    looks_wider c.args.planes.now (λ d. (d.y ≡ c.args.y) × (d.x < c.loop-x.x)) (λ d. d.y ≡ c.args.y) c.args.self.now c.loop-x.self
    (λ d i h. (h, (let along_x = i.x in omega (arith, c.loop-x-test.false, c.resolution-x-end.ensures.value)))) c.loop-x.invariant

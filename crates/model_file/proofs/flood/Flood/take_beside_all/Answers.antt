use Rattle.std.proofs.Common.{◌≡◌, ◌+◌, ◌<◌, ◌⊎◌, inl, inr, arith}
use Rattle.std.proofs.lemmas.Bool.{cases_lt}
use Rattle.vox_geom.specs.declared.coordinate.Coord.{Coord}
use Rattle.vox_geom.specs.Space.{IsInSpace}
use Rattle.model_file.proofs.Beginnings.{begun_still, looks_none, looks_then, looks_wider}
use Rattle.model_file.proofs.flood.Flood.take_beside_all.Goals as goal

pub loop-y-init : goal.loop-y-init
loop-y-init g c = looks_none c.args.planes.now (λ d. d.y < 0) c.args.self.now (λ d e area t n. absurd (omega arith))

pub take_beside_layer-requires-clause-begun : goal.take_beside_layer-requires-clause-begun
take_beside_layer-requires-clause-begun g c = begun_still c.args.planes.now c.args.self.now c.loop-y.self c.requires.begun c.loop-y.invariant.takes

pub loop-y-preserved : goal.loop-y-preserved
loop-y-preserved g c =
    looks_then c.args.planes.now (λ d. d.y < c.loop-y.y) (λ d. d.y ≡ c.loop-y.y) (λ d. d.y < c.loop-y.y + 1)
    c.args.self.now c.loop-y.self c.take_beside_layer.new.self joined c.loop-y.invariant c.in_ok-take_beside_layer.ensures
  where
    joined : (d : Coord) → IsInSpace c.args.planes.now.resolution d → d.y < c.loop-y.y + 1
        → (d.y < c.loop-y.y) ⊎ (d.y ≡ c.loop-y.y)
    joined d i h = elim (cases_lt d.y c.loop-y.y) [ inl l ↦ inl l | inr l ↦ inr (omega arith) ]

pub returns : goal.returns
returns g c =
    looks_wider c.args.planes.now (λ d. d.y < c.loop-y.y) (λ _. Unit {0}) c.args.self.now c.loop-y.self
    (λ d i h. let along_y = i.y in omega (arith, c.loop-y-test.false, c.resolution-y-end.ensures.value)) c.loop-y.invariant

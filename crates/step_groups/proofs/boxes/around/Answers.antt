use Rattle.std.proofs.Common.{ap, arith}
use Rattle.vox_geom.specs.declared.coordinate.Coord.{Coord}
use Rattle.step_groups.proofs.Hulls.{widened}
use Rattle.step_groups.proofs.boxes.around.Goals as goal

pub returns-clause-first : goal.returns-clause-first
returns-clause-first c =
    widened c.args.a.now c.of.result (record { x = c.min.result; y = c.min-2.result; z = c.min-3.result }) (record { x = c.max.result; y = c.max-2.result; z = c.max-3.result }) c.low-low.ensures.ordered
    (omega (arith, c.min.ensures, ap (λ (v : Coord). v.x) c.low-low.ensures.value))
    (omega (arith, c.min-2.ensures, ap (λ (v : Coord). v.y) c.low-low.ensures.value))
    (omega (arith, c.min-3.ensures, ap (λ (v : Coord). v.z) c.low-low.ensures.value))
    (omega (arith, c.max.ensures, ap (λ (v : Coord). v.x) c.high-high.ensures.value))
    (omega (arith, c.max-2.ensures, ap (λ (v : Coord). v.y) c.high-high.ensures.value))
    (omega (arith, c.max-3.ensures, ap (λ (v : Coord). v.z) c.high-high.ensures.value))
    c.of.ensures.covers

pub returns-clause-second : goal.returns-clause-second
returns-clause-second c =
    widened c.args.b.now c.of.result (record { x = c.min.result; y = c.min-2.result; z = c.min-3.result }) (record { x = c.max.result; y = c.max-2.result; z = c.max-3.result }) c.low-other_low.ensures.ordered
    (omega (arith, c.min.ensures, ap (λ (v : Coord). v.x) c.low-other_low.ensures.value))
    (omega (arith, c.min-2.ensures, ap (λ (v : Coord). v.y) c.low-other_low.ensures.value))
    (omega (arith, c.min-3.ensures, ap (λ (v : Coord). v.z) c.low-other_low.ensures.value))
    (omega (arith, c.max.ensures, ap (λ (v : Coord). v.x) c.high-other_high.ensures.value))
    (omega (arith, c.max-2.ensures, ap (λ (v : Coord). v.y) c.high-other_high.ensures.value))
    (omega (arith, c.max-3.ensures, ap (λ (v : Coord). v.z) c.high-other_high.ensures.value))
    c.of.ensures.covers

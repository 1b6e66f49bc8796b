use Rattle.std.proofs.Common.{◌∙◌, ap, arith, find, sym}
use Rattle.vox_geom.specs.declared.coordinate.Coord.{Coord}
use Rattle.nano_spec.specs.Matrix.{is_full}
use Rattle.vox_planes.specs.Walk.{row}
use Rattle.vox_planes.proofs.Lines.{row_alone}
use Rattle.vox_planes.proofs.Ends.{none_above}
use Rattle.vox_planes.proofs.planes.Planes.region_full.Goals as goal

pub returns-then-low-high-5-clause-value : goal.returns-then-low-high-5-clause-value
returns-then-low-high-5-clause-value g c =
    let low_x = ap (λ (d : Coord). d.x) c.low-low.ensures.value in
    let high_x = ap (λ (d : Coord). d.x) c.high-high.ensures.value in
    let low_y = ap (λ (d : Coord). d.y) c.low-low.ensures.value in
    let high_y = ap (λ (d : Coord). d.y) c.high-high.ensures.value in
    c.row_next.ensures.value
    ∙ ((λ i. find (is_full c.args.self.now) (row (c.low-low.ensures.value i) (c.high-high.ensures.value i).z))
    ∙ row_alone c.args.self.now.resolution c.args.b.now (is_full c.args.self.now) c.low-low.ensures.ordered c.requires (omega (arith, low_x, high_x)) (omega (arith, low_y, high_y)))

pub returns-then-is_void_from-clause-value : goal.returns-then-is_void_from-clause-value
returns-then-is_void_from-clause-value g c =
    let low_y = ap (λ (d : Coord). d.y) c.low-low.ensures.value in
    sym (none_above c.args.self.now c.args.b.now c.low-low.ensures.ordered (λ d from. c.is_void_from.ensures.void c.if-is_void_from.true d (omega (arith, from, low_y))))

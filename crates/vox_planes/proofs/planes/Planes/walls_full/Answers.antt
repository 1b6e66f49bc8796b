use Rattle.std.proofs.Common.{◌≡◌, ◌+◌, sym, ◌∙◌, ap, arith, find}
use Rattle.vox_geom.specs.declared.coordinate.Coord.{Coord}
use Rattle.vox_geom.specs.Space.{place}
use Rattle.nano_spec.specs.Matrix.{is_full}
use Rattle.vox_planes.specs.Walk.{coordinates_from, passes_in, row_start, wall_size}
use Rattle.vox_planes.proofs.Walks.{find-end, find-start, left-more, none_or, size-walls}
use Rattle.vox_planes.proofs.planes.Planes.walls_full.Goals as goal

pub loop-x-init : goal.loop-x-init
loop-x-init g c =
    let corners = c.args.b.now in
    let same_x = ap (λ (d : Coord). d.x) c.low-low.ensures.value in
    record {
      same =
          ap (λ x. find (passes_in corners (is_full c.args.self.now)) (coordinates_from c.args.self.now.resolution (place c.args.self.now.resolution (row_start corners x corners.low.y)))) same_x
          ∙ sym (find-start c.args.self.now.resolution corners (is_full c.args.self.now) c.low-low.ensures.ordered c.requires);
      touches = rw same_x (omega (arith, size-walls corners c.low-low.ensures.ordered));
    }

pub returns-then-is_some-clause-touches : goal.returns-then-is_some-clause-touches
returns-then-is_some-clause-touches g c =
    let same_x = ap (λ (d : Coord). d.x) c.high-high.ensures.value in
    omega (arith, left-more c.args.b.now.high.x c.loop-x.x (wall_size c.args.b.now) (omega arith), c.loop-x.invariant.touches, c.wall_full-found.ensures.touches)

pub returns-else-is_some-clause-value : goal.returns-else-is_some-clause-value
returns-else-is_some-clause-value g c =
    let corners = c.args.b.now in
    let end : c.loop-x.x ≡ corners.high.x = (let same_x = ap (λ (d : Coord). d.x) c.high-high.ensures.value in omega arith) in
    sym (find-end c.args.self.now.resolution corners (is_full c.args.self.now) c.low-low.ensures.ordered c.requires)
    ∙ (ap (λ x. find (passes_in corners (is_full c.args.self.now)) (coordinates_from c.args.self.now.resolution (place c.args.self.now.resolution (row_start corners (x + 1) corners.low.y)))) (sym end)
    ∙ (sym (none_or c.wall_full-found.result _ (sym c.is_some.ensures ∙ c.if-is_some.false))
    ∙ (c.wall_full-found.ensures.value ∙ c.loop-x.invariant.same)))

pub returns-else-is_some-clause-touches : goal.returns-else-is_some-clause-touches
returns-else-is_some-clause-touches g c =
    let same_x = ap (λ (d : Coord). d.x) c.high-high.ensures.value in
    omega (arith, left-more c.args.b.now.high.x c.loop-x.x (wall_size c.args.b.now) (omega arith), c.loop-x.invariant.touches, c.wall_full-found.ensures.touches)

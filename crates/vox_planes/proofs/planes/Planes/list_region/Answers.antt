use Rattle.std.proofs.Common.{◌≡◌, ◌+◌, sym, ◌∙◌, ap, arith, ◌++◌, append-nil, filter}
use Rattle.vox_geom.specs.declared.coordinate.Coord.{Coord}
use Rattle.vox_geom.specs.Space.{place}
use Rattle.vox_planes.specs.Voxel.{is_state}
use Rattle.vox_planes.specs.Walk.{coordinates_from, passes_in, row_start, wall_size}
use Rattle.vox_planes.proofs.Walks.{filter-end, filter-start, left-more, size-walls}
use Rattle.vox_planes.proofs.planes.Planes.list_region.Goals as goal

pub loop-x-init : goal.loop-x-init
loop-x-init g c =
    let corners = c.args.b.now in
    let same_x = ap (λ (d : Coord). d.x) c.low-low.ensures.value in
    let walls = size-walls corners c.low-low.ensures.ordered in
    record {
      items =
          ap (λ x. c.args.list.now.items ++ filter (passes_in corners (is_state c.args.self.now c.args.full)) (coordinates_from c.args.self.now.resolution (place c.args.self.now.resolution (row_start corners x corners.low.y)))) same_x
          ∙ ap (λ zs. c.args.list.now.items ++ zs) (sym (filter-start c.args.self.now.resolution corners (is_state c.args.self.now c.args.full) c.low-low.ensures.ordered c.requires.within));
      room = omega arith;
      left = rw same_x (omega (arith, walls));
      touches = rw same_x (omega (arith, walls));
    }

pub list_wall-requires-clause-room : goal.list_wall-requires-clause-room
list_wall-requires-clause-room g c =
    let same_x = ap (λ (d : Coord). d.x) c.high-high.ensures.value in
    omega (arith, left-more c.args.b.now.high.x c.loop-x.x (wall_size c.args.b.now) (omega arith), c.loop-x.invariant.left, c.requires.room)

pub returns-2-clause-items : goal.returns-2-clause-items
returns-2-clause-items g c =
    let corners = c.args.b.now in
    let end : c.loop-x.x ≡ corners.high.x = (let same_x = ap (λ (d : Coord). d.x) c.high-high.ensures.value in omega arith) in
    let after = ap (λ x. filter (passes_in corners (is_state c.args.self.now c.args.full)) (coordinates_from c.args.self.now.resolution (place c.args.self.now.resolution (row_start corners (x + 1) corners.low.y)))) end ∙ filter-end c.args.self.now.resolution corners (is_state c.args.self.now c.args.full) c.low-low.ensures.ordered c.requires.within in
    sym (append-nil c.list_wall.new.list.items)
    ∙ (ap (λ zs. c.list_wall.new.list.items ++ zs) (sym after) ∙ (c.list_wall.ensures.items ∙ c.loop-x.invariant.items))

pub returns-2-clause-touches : goal.returns-2-clause-touches
returns-2-clause-touches g c =
    let same_x = ap (λ (d : Coord). d.x) c.high-high.ensures.value in
    omega (arith, left-more c.args.b.now.high.x c.loop-x.x (wall_size c.args.b.now) (omega arith), c.loop-x.invariant.touches, c.list_wall.ensures.touches)

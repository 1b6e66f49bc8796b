use Rattle.std.proofs.Common.{◌≡◌, ℕ, ◌+◌, ◌≤◌, sym, ◌∙◌, ap, arith, Bool, List, ◌++◌, filter, subst}
use Rattle.vox_geom.specs.declared.coordinate.Coord.{Coord}
use Rattle.vox_geom.specs.Region.{Corners, IsOrdered}
use Rattle.vox_geom.specs.Space.{IsInSpace, place}
use Rattle.nano_spec.specs.Matrix.{Matrix}
use Rattle.vox_planes.specs.Voxel.{is_state}
use Rattle.vox_planes.specs.Walk.{coordinates_from, passes_in, row, row_size, row_start}
use Rattle.vox_planes.proofs.Walks.{appended, filter-next_wall, filter-step, left-more}
use Rattle.vox_planes.proofs.planes.Planes.list_wall.Goals as goal

-- the walk after the row's list, for the corners that the code has read
step : (m : Matrix) (full : Bool) (k : Corners) (low high : Coord) (x y : ℕ) (xs ys : List Coord) → IsOrdered k
    → IsInSpace m.resolution k.high → low ≡ k.low → high ≡ k.high → k.low.x ≤ x → x ≤ k.high.x → low.y ≤ y → y ≤ high.y
    → ys ≡ xs ++ filter (is_state m full) (row (record { x = x; y = y; z = low.z }) high.z) → ys
    ++ filter (passes_in k (is_state m full))
    (coordinates_from m.resolution (place m.resolution (row_start k x (y + 1)))) ≡ xs
    ++ filter (passes_in k (is_state m full)) (coordinates_from m.resolution (place m.resolution (row_start k x y)))
step m full k low high x y xs ys o s el eh xl xh yl yh e =
    appended xs ys _ _ _ (e ∙ (λ i. xs ++ filter (is_state m full) (row (record { x = x; y = y; z = (el i).z }) (eh i).z)))
    (filter-step m.resolution k (is_state m full) o s x y xl xh (subst (λ (c : Coord). c.y ≤ y) el yl) (subst (λ (c : Coord). y ≤ c.y) eh yh))

pub loop-y-preserved : goal.loop-y-preserved
loop-y-preserved g c =
    let low = ap (λ (d : Coord). d.z) c.low-low.ensures.value in
    let high = ap (λ (d : Coord). d.z) c.high-high.ensures.value in
    let top = ap (λ (d : Coord). d.y) c.high-high.ensures.value in
    let more = left-more c.args.b.now.high.y c.loop-y.y (row_size c.args.b.now) (omega arith) in
    record {
      items =
          step c.args.self.now c.args.full c.args.b.now c.low-low.result c.high-high.result c.args.x c.loop-y.y c.loop-y.list.items c.list_row.new.list.items c.low-low.ensures.ordered c.requires.within c.low-low.ensures.value c.high-high.ensures.value c.requires.low c.requires.high c.loop-y.auto.y c.loop-y-test.true c.list_row.ensures.items
          ∙ c.loop-y.invariant.items;
      room = omega (arith, c.loop-y.invariant.room, c.list_row.ensures.room);
      left = omega (arith, more, c.loop-y.invariant.left, c.list_row.ensures.left);
      touches = omega (arith, more, c.loop-y.invariant.touches, c.list_row.ensures.touches);
    }

pub returns-2-clause-items : goal.returns-2-clause-items
returns-2-clause-items g c =
    let end : c.loop-y.y ≡ c.args.b.now.high.y = (let same_y = ap (λ (d : Coord). d.y) c.high-high.ensures.value in omega arith) in
    ap (λ zs. c.list_row.new.list.items ++ zs)
    (sym (filter-next_wall c.args.self.now.resolution c.args.b.now (is_state c.args.self.now c.args.full) c.low-low.ensures.ordered c.requires.within c.args.x)
    ∙ ap (λ y. filter (passes_in c.args.b.now (is_state c.args.self.now c.args.full)) (coordinates_from c.args.self.now.resolution (place c.args.self.now.resolution (row_start c.args.b.now c.args.x (y + 1))))) (sym end))
    ∙ (step c.args.self.now c.args.full c.args.b.now c.low-low.result c.high-high.result c.args.x c.loop-y.y c.loop-y.list.items c.list_row.new.list.items c.low-low.ensures.ordered c.requires.within c.low-low.ensures.value c.high-high.ensures.value c.requires.low c.requires.high c.loop-y.auto.y c.loop-y-test.true c.list_row.ensures.items
    ∙ c.loop-y.invariant.items)

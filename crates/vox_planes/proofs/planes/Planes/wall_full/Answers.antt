use Rattle.std.proofs.Common.{◌≡◌, ℕ, ◌+◌, ◌≤◌, sym, ◌∙◌, ap, arith, find, Option, subst}
use Rattle.std.specs.Option.{option_or}
use Rattle.vox_geom.specs.declared.coordinate.Coord.{Coord}
use Rattle.vox_geom.specs.Region.{Corners, IsOrdered}
use Rattle.vox_geom.specs.Space.{IsInSpace, place}
use Rattle.nano_spec.specs.Matrix.{Matrix, is_full}
use Rattle.vox_planes.specs.Walk.{coordinates_from, passes_in, row, row_start, row_size}
use Rattle.vox_planes.proofs.Walks.{find-next_wall, find-step, left-more, none_or, some_or}
use Rattle.vox_planes.proofs.planes.Planes.wall_full.Goals as goal

-- the walk after the row's search, for the corners that the code has read
step : (m : Matrix) (k : Corners) (low high : Coord) (x y : ℕ) (found : Option Coord) → IsOrdered k
    → IsInSpace m.resolution k.high → low ≡ k.low → high ≡ k.high → k.low.x ≤ x → x ≤ k.high.x → low.y ≤ y → y ≤ high.y
    → found ≡ find (is_full m) (row (record { x = x; y = y; z = low.z }) high.z) → option_or found
    (find (passes_in k (is_full m)) (coordinates_from m.resolution (place m.resolution (row_start k x (y + 1)))))
    ≡ find (passes_in k (is_full m)) (coordinates_from m.resolution (place m.resolution (row_start k x y)))
step m k low high x y found o s el eh xl xh yl yh e =
    ap (λ f. option_or f (find (passes_in k (is_full m)) (coordinates_from m.resolution (place m.resolution (row_start k x (y + 1)))))) (e ∙ (λ i. find (is_full m) (row (record { x = x; y = y; z = (el i).z }) (eh i).z)))
    ∙ find-step m.resolution k (is_full m) o s x y xl xh (subst (λ (c : Coord). c.y ≤ y) el yl) (subst (λ (c : Coord). y ≤ c.y) eh yh)

pub returns-then-is_some-clause-value : goal.returns-then-is_some-clause-value
returns-then-is_some-clause-value g c =
    some_or c.row_next-found.result _ _ (sym c.is_some.ensures ∙ c.if-is_some.true)
    ∙ (step c.args.self.now c.args.b.now c.low-low.result c.high-high.result c.args.x c.loop-y.y c.row_next-found.result c.low-low.ensures.ordered c.requires.within c.low-low.ensures.value c.high-high.ensures.value c.requires.low c.requires.high c.loop-y.auto.y c.loop-y-test.true c.row_next-found.ensures.value
    ∙ c.loop-y.invariant.same)

pub loop-y-preserved : goal.loop-y-preserved
loop-y-preserved g c = record {
  same =
      sym (none_or c.row_next-found.result _ (sym c.is_some.ensures ∙ c.if-is_some.false))
      ∙ (step c.args.self.now c.args.b.now c.low-low.result c.high-high.result c.args.x c.loop-y.y c.row_next-found.result c.low-low.ensures.ordered c.requires.within c.low-low.ensures.value c.high-high.ensures.value c.requires.low c.requires.high c.loop-y.auto.y c.loop-y-test.true c.row_next-found.ensures.value
      ∙ c.loop-y.invariant.same);
  touches = (
      let low = ap (λ (d : Coord). d.z) c.low-low.ensures.value in
      let high = ap (λ (d : Coord). d.z) c.high-high.ensures.value in
      let top = ap (λ (d : Coord). d.y) c.high-high.ensures.value in
      omega (arith, left-more c.args.b.now.high.y c.loop-y.y (row_size c.args.b.now) (omega arith), c.loop-y.invariant.touches, c.row_next-found.ensures.touches)
      );
}

pub returns-else-is_some-clause-value : goal.returns-else-is_some-clause-value
returns-else-is_some-clause-value g c =
    let end : c.loop-y.y ≡ c.args.b.now.high.y = (let same_y = ap (λ (d : Coord). d.y) c.high-high.ensures.value in omega arith) in
    sym (find-next_wall c.args.self.now.resolution c.args.b.now (is_full c.args.self.now) c.low-low.ensures.ordered c.requires.within c.args.x)
    ∙ (ap (λ y. find (passes_in c.args.b.now (is_full c.args.self.now)) (coordinates_from c.args.self.now.resolution (place c.args.self.now.resolution (row_start c.args.b.now c.args.x (y + 1))))) (sym end)
    ∙ (sym (none_or c.row_next-found.result _ (sym c.is_some.ensures ∙ c.if-is_some.false))
    ∙ (step c.args.self.now c.args.b.now c.low-low.result c.high-high.result c.args.x c.loop-y.y c.row_next-found.result c.low-low.ensures.ordered c.requires.within c.low-low.ensures.value c.high-high.ensures.value c.requires.low c.requires.high c.loop-y.auto.y c.loop-y-test.true c.row_next-found.ensures.value
    ∙ c.loop-y.invariant.same)))

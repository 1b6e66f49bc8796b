use Rattle.std.proofs.Common.{◌≡◌, ℕ, ◌+◌, ◌-◌, ◌*◌, ◌^◌, ◌<◌, ◌≤◌, List, length, get_or, sym, subst, arith}
use Rattle.std.proofs.Math.Nat.{mul-le-mul}
use Rattle.std.proofs.lemmas.List.{get_or_read}
use Rattle.nano_spec.specs.Matrix.{Matrix}
use Rattle.nano_spec.specs.Model.{volume}
use Rattle.vox_planes.specs.Heap.{HasNoOverhangs}
use Rattle.vox_planes.specs.Layers.{layer_words}
use Rattle.vox_planes.proofs.Heaps.{AreStacked, held_more, held_none, has_no_overhangs-held, none_lost}
use Rattle.vox_planes.proofs.Totals.{words_most}
use Rattle.vox_planes.proofs.planes.Planes.has_no_overhangs.Goals as goal

-- the result of the two reads
stacked : (ws : List ℕ) (layer i w u : ℕ) → layer ≤ i → i < length ws → w ≡ get_or ws i w → u ≡ get_or ws (i - layer) u
    → w < 2 ^ 64 → u < 2 ^ 64 → AreStacked ws layer i w u
stacked ws layer i w u above end ew eu fits lower_fits = record {
  above = above;
  upper = get_or_read ws i w end ew 0;
  lower = get_or_read ws (i - layer) u (omega arith) eu 0;
  fits = fits;
  lower_fits = lower_fits;
}

pub loop-i-init : goal.loop-i-init
loop-i-init g c = record { held = held_none c.self.inside.words.items c.self.inside.layer; touches = omega arith }

pub loop-i-preserved : goal.loop-i-preserved
loop-i-preserved g c =
    let ws = c.self.inside.words.items in
    let end : c.loop-i.i < length ws = omega (arith, c.loop-i-test.true, c.len-i-end.ensures) in
    record {
      held = held_more ws c.self.inside.layer c.loop-i.i c.index.result.now c.index-in-loop-i.result.now
          (stacked ws c.self.inside.layer c.loop-i.i c.index.result.now c.index-in-loop-i.result.now
          c.loop-i.auto.i end c.index.ensures c.index-in-loop-i.ensures (omega arith) (omega arith))
          c.if-index-ne0.false c.loop-i.invariant.held;
      touches = omega (arith, c.loop-i.invariant.touches, c.tick.ensures, c.tick-in-loop-i.ensures);
    }

pub returns-then-index-ne0-clause-other : goal.returns-then-index-ne0-clause-other
returns-then-index-ne0-clause-other g c = λ _ heap.
    let ws = c.self.inside.words.items in
    let end : c.loop-i.i < length ws = omega (arith, c.loop-i-test.true, c.len-i-end.ensures) in
    none_lost c.self.inside.resolution ws c.self.invariant.0 (subst HasNoOverhangs (sym c.self.view_is) heap)
    c.self.inside.layer c.loop-i.i c.index.result.now c.index-in-loop-i.result.now c.self.invariant.1 (omega (arith, c.self.invariant.0.whole))
    (stacked ws c.self.inside.layer c.loop-i.i c.index.result.now c.index-in-loop-i.result.now
    c.loop-i.auto.i end c.index.ensures c.index-in-loop-i.ensures (omega arith) (omega arith))
    (omega (arith, c.if-index-ne0.true))

pub returns-clause-heap : goal.returns-clause-heap
returns-clause-heap g c = λ _.
    let resolution = c.self.inside.resolution in
    let ws = c.self.inside.words.items in
    let all : resolution * layer_words resolution ≤ c.loop-i.i = omega (arith, c.loop-i-test.false, c.len-i-end.ensures, c.self.invariant.0.whole) in
    subst HasNoOverhangs c.self.view_is (has_no_overhangs-held resolution ws c.self.inside.layer c.loop-i.i c.self.invariant.1 all c.loop-i.invariant.held)

pub returns-then-index-ne0-clause-touches : goal.returns-then-index-ne0-clause-touches
returns-then-index-ne0-clause-touches g c =
    let ws = c.self.inside.words.items in
    let end : c.loop-i.i < length ws = omega (arith, c.loop-i-test.true, c.len-i-end.ensures) in
    let most = words_most c.self.inside.resolution (length ws) c.self.invariant.0.some c.self.invariant.0.whole in
    subst (λ (m : Matrix). c.tick-in-loop-i.new.self ≤ c.args.steps.now + 2 * volume m.resolution) c.self.view_is
    (omega (arith, most, end, c.loop-i.invariant.touches, c.tick.ensures, c.tick-in-loop-i.ensures))

pub returns-clause-touches : goal.returns-clause-touches
returns-clause-touches g c =
    let ws = c.self.inside.words.items in
    let most = words_most c.self.inside.resolution (length ws) c.self.invariant.0.some c.self.invariant.0.whole in
    let layer = layer_words c.self.inside.resolution in
    let rows : 1 * layer ≤ c.self.inside.resolution * layer = mul-le-mul c.self.invariant.0.some (omega arith) in
    let fewer : c.self.inside.layer ≤ length ws = omega (arith, rows, c.self.invariant.1, c.self.invariant.0.whole) in
    let end : c.loop-i.i ≤ length ws = omega (arith, fewer, c.len-i-end.ensures) in
    subst (λ (m : Matrix). c.loop-i.steps ≤ c.args.steps.now + 2 * volume m.resolution) c.self.view_is
    (omega (arith, most, end, c.loop-i.invariant.touches))

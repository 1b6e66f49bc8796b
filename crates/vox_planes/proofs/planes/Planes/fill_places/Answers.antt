use Rattle.std.proofs.Common.{◌≡◌, ◌+◌, ◌-◌, ◌≤◌, ◌^◌, ℕ, sym, ◌∙◌, ap, subst, arith, true, cond}
use Rattle.vox_geom.specs.Space.{place}
use Rattle.nano_spec.specs.Matrix.{Matrix}
use Rattle.nano_spec.specs.Model.{bit}
use Rattle.vox_planes.specs.Places.{is_from, voxel_at}
use Rattle.vox_planes.proofs.Placed.{ArePut}
use Rattle.vox_planes.proofs.Placed.{full_bit, put_from, put_parts}
use Rattle.vox_planes.proofs.planes.Planes.fill_places.Goals as goal

-- one more part of full voxels
filled_more : (old mid new : Matrix) (from at count most : ℕ) → from ≤ at → count ≤ most → most ≤ 64
    → ArePut old mid from (at - from) (λ _. true)
    → ((p : ℕ) → voxel_at new p ≡ cond (is_from at count p) (bit (2 ^ 64 - 1) (p - at)) (voxel_at mid p))
    → ArePut old new from (at + count - from) (λ _. true)
filled_more old mid new from at count most begun few less h set =
    let here : at ≡ from + (at - from) = omega arith in
    let next : at - from + count ≡ at + count - from = omega arith in
    subst (λ (n : ℕ). ArePut old new from n (λ _. true)) next
    (put_parts old mid new from (at - from) count (λ _. true) (λ p. bit (2 ^ 64 - 1) (p - at)) h
    (λ p. set p ∙ ap (λ n. cond (is_from n count p) (bit (2 ^ 64 - 1) (p - at)) (voxel_at mid p)) here)
    (λ p l m. full_bit (p - at) (omega arith)))

pub loop-at-preserved : goal.loop-at-preserved
loop-at-preserved c = record {
  put = filled_more c.args.self.now c.loop-at.self c.set_part-at.new.self c.args.from c.loop-at.at c.set_part-at.result c.min.result c.loop-at.invariant.begun c.set_part-at.ensures.most (omega (arith, c.min.ensures)) c.loop-at.invariant.put
      (put_from c.loop-at.self c.set_part-at.new.self _ _ _ (λ k. bit (2 ^ 64 - 1) k)
      (sym (ap (λ (m : Matrix). place m.resolution c.of_place-first.result) c.self-in-loop-at.view_is) ∙ c.of_place-first.ensures.inverse) c.set_part-at.ensures.places);
  begun = omega (arith, c.loop-at.invariant.begun);
  few = omega (arith, c.set_part-at.ensures.most, c.min.ensures, c.loop-at.invariant.few);
  resolution = c.set_part-at.ensures.resolution ∙ c.loop-at.invariant.resolution;
  whole = c.set_part-at.ensures.whole;
}

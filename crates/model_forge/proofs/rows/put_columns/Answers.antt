use Rattle.std.proofs.Common.{◌≡◌, ℕ, ◌+◌, ◌-◌, ◌∙◌, ap, arith}
use Rattle.std.specs.Prelude.{nat_lt, slice_index}
use Rattle.vox_geom.specs.Space.{place}
use Rattle.nano_spec.specs.Model.{bit}
use Rattle.vox_planes.proofs.Placed.{put_from, put_parts}
use Rattle.model_forge.proofs.rows.put_columns.Goals as goal

pub loop-done-preserved : goal.loop-done-preserved
loop-done-preserved c =
    let start : ℕ = place c.args.planes.now.resolution c.args.first in
    let along : place c.loop-done.planes.resolution (record { x = c.args.first.x; y = c.args.first.y; z = c.args.first.z + c.loop-done.done }) ≡ start + c.loop-done.done =
    ap (λ (n : ℕ). place n (record { x = c.args.first.x; y = c.args.first.y; z = c.args.first.z + c.loop-done.done })) c.loop-done.invariant.resolution ∙ omega arith in
    let put = put_parts c.args.planes.now c.loop-done.planes c.set_row_bits.new.self start c.loop-done.done _ (λ p. nat_lt c.args.first.y (slice_index c.args.heights.now (p - start))) (λ p. bit c.column_bits.result (p - (start + c.loop-done.done)))
    (record { voxels = c.loop-done.invariant.places })
    (put_from c.loop-done.planes c.set_row_bits.new.self _ _ _ (λ k. bit c.column_bits.result k) along c.set_row_bits.ensures.places)
    (λ p l m.
    let index : c.loop-done.done + (p - (start + c.loop-done.done)) ≡ p - start = omega arith in
    c.column_bits.ensures (p - (start + c.loop-done.done)) (omega arith) ∙ ap (λ k. nat_lt c.args.first.y (slice_index c.args.heights.now k)) index) in
    record {
      places = put.voxels;
      few = omega arith;
      resolution = c.set_row_bits.ensures.resolution ∙ c.loop-done.invariant.resolution;
      whole = c.set_row_bits.ensures.whole;
    }

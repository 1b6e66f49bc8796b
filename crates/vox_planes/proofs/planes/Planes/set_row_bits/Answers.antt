use Rattle.std.proofs.Common.{◌≡◌, ◌≤◌, ◌+◌, ◌-◌, ◌/◌, ◌^◌, ◌∙◌, sym, ap, subst, arith, ℕ}
use Rattle.vox_geom.specs.Space.{place}
use Rattle.nano_spec.specs.Model.{bit, volume}
use Rattle.vox_planes.proofs.Placed.{left_bit, put_from, put_parts, row_ends}
use Rattle.vox_planes.proofs.planes.Planes.set_row_bits.Goals as goal

pub set_part-done-requires-clause-end : goal.set_part-done-requires-clause-end
set_part-done-requires-clause-end c =
    let most = row_ends c.args.self.now.resolution c.args.first c.args.count c.requires.within c.requires.row in
    subst (λ (n : ℕ). place n (record { x = c.args.first.x; y = c.args.first.y; z = c.args.first.z + c.loop-done.done }) + (c.args.count - c.loop-done.done) ≤ volume n)
    (sym c.loop-done.invariant.resolution) (omega (arith, most, c.loop-done-test.true))

pub loop-done-preserved : goal.loop-done-preserved
loop-done-preserved c =
    let start : ℕ = place c.args.self.now.resolution c.args.first in
    let along : place c.loop-done.self.resolution (record { x = c.args.first.x; y = c.args.first.y; z = c.args.first.z + c.loop-done.done }) ≡ start + c.loop-done.done =
    ap (λ (n : ℕ). place n (record { x = c.args.first.x; y = c.args.first.y; z = c.args.first.z + c.loop-done.done })) c.loop-done.invariant.resolution ∙ omega arith in
    record {
      put = put_parts c.args.self.now c.loop-done.self c.set_part-done.new.self start c.loop-done.done _ (λ p. bit c.args.bits (p - start)) (λ p. bit (c.args.bits / 2 ^ c.loop-done.done) (p - (start + c.loop-done.done)))
          c.loop-done.invariant.put (put_from c.loop-done.self c.set_part-done.new.self _ _ _ (λ k. bit (c.args.bits / 2 ^ c.loop-done.done) k) along c.set_part-done.ensures.places) (λ p l m. left_bit c.args.bits start c.loop-done.done p l);
      few = omega (arith, c.set_part-done.ensures.most, c.loop-done.invariant.few);
      resolution = c.set_part-done.ensures.resolution ∙ c.loop-done.invariant.resolution;
      whole = c.set_part-done.ensures.whole;
    }

use Rattle.std.proofs.Common.{◌≡◌, ℕ, ◌+◌, ◌-◌, sym, ◌∙◌, ap, arith, ◌++◌, append-nil, length, List, []}
use Rattle.std.specs.Int.{bit_at, trailing_zeros, w64}
use Rattle.std.proofs.lemmas.List.{length_push}
use Rattle.std.proofs.lemmas.Nat.Bits.{bit_at-trailing_zeros, bit_at-zero}
use Rattle.vox_geom.specs.declared.coordinate.Coord.{Coord}
use Rattle.vox_planes.specs.Walk.{at}
use Rattle.vox_planes.proofs.Searches.{left_after, next_listed, none_left}
use Rattle.vox_planes.proofs.Walks.{pushed}
use Rattle.vox_planes.proofs.planes.regions.list_bits.Goals as goal

-- if none is left to be listed, the list is whole
whole : (xs ys zs : List Coord) → xs ++ ys ≡ zs → ys ≡ [] → xs ≡ zs
whole xs ys zs e none = sym (append-nil xs) ∙ (ap (λ ws. xs ++ ws) (sym none) ∙ e)

pub loop-left-preserved : goal.loop-left-preserved
loop-left-preserved c =
    let t : ℕ = trailing_zeros w64 c.loop-left.left in
    let low = bit_at-trailing_zeros w64 c.loop-left.left (omega (arith, c.loop-left-test.true)) c.loop-left.auto.left-fits.fits in
    let longer = ap length c.push.ensures.items ∙ length_push c.loop-left.list.items (at c.args.first (c.loop-left.z + t)) in
    record {
      low = omega (arith, c.loop-left.invariant.low);
      high = omega (arith, c.if-gap-end.false, c.loop-left.invariant.high);
      bits = left_after c.args.bits c.loop-left.left (c.loop-left.z - c.args.first.z) t _ c.loop-left.invariant.bits (omega (arith, c.loop-left.invariant.low));
      items = pushed c.loop-left.list.items c.push.new.self.items _ _ (at c.args.first (c.loop-left.z + t)) c.push.ensures.items
          (next_listed c.args.bits c.loop-left.left c.args.first c.loop-left.z c.args.last t c.loop-left.invariant.bits c.loop-left.invariant.low (omega (arith, c.if-gap-end.false)) low.1 low.2)
          ∙ c.loop-left.invariant.items;
      room = omega (arith, longer, c.loop-left.invariant.room, c.push.ensures.room);
      spare = omega (arith, c.loop-left.invariant.low, c.loop-left.invariant.spare, c.push.ensures.room);
    }

pub returns-after-loop-left-clause-items : goal.returns-after-loop-left-clause-items
returns-after-loop-left-clause-items c =
    whole c.loop-left.list.items _ _ c.loop-left.invariant.items
    (none_left c.args.bits c.loop-left.left c.args.first c.loop-left.z c.args.last c.loop-left.invariant.bits c.loop-left.invariant.low c.loop-left.invariant.high
    (λ j m. ap (λ n. bit_at n j) c.loop-left-test.false ∙ bit_at-zero j))

pub returns-then-gap-end-clause-items : goal.returns-then-gap-end-clause-items
returns-then-gap-end-clause-items c =
    let low = bit_at-trailing_zeros w64 c.loop-left.left (omega (arith, c.loop-left-test.true)) c.loop-left.auto.left-fits.fits in
    whole c.loop-left.list.items _ _ c.loop-left.invariant.items
    (none_left c.args.bits c.loop-left.left c.args.first c.loop-left.z c.args.last c.loop-left.invariant.bits c.loop-left.invariant.low c.loop-left.invariant.high
    (λ j m. low.2 j (omega (arith, c.if-gap-end.true))))

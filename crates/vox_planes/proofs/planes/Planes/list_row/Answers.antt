use Rattle.std.proofs.Common.{◌≡◌, ℕ, ◌+◌, ◌-◌, sym, ◌∙◌, ap, subst, arith, ◌++◌, append-nil, filter}
use Rattle.vox_geom.specs.Space.{IsInSpace}
use Rattle.nano_spec.specs.Matrix.{Matrix}
use Rattle.vox_planes.specs.Voxel.{is_state}
use Rattle.vox_planes.specs.Walk.{at}
use Rattle.vox_planes.proofs.Searches.{word_listed}
use Rattle.vox_planes.proofs.Walks.{appended, row-end}
use Rattle.vox_planes.proofs.planes.Planes.list_row.Goals as goal

pub loop-z-preserved : goal.loop-z-preserved
loop-z-preserved g c =
    let same_resolution : c.self.inside.resolution ≡ c.args.self.now.resolution = ap (λ (m : Matrix). m.resolution) c.self.view_is in
    let index : ℕ = c.bit_index.result - c.from.result + c.from-in-loop-z.result in
    let next = word_listed c.self.inside.resolution c.self.inside.words.items c.deref.result.now c.args.self.now c.args.first c.loop-z.z c.min-stop.result c.args.last index c.bits_from-bits.result c.args.full
    c.self.view_is c.deref.ensures.value (subst (λ (n : ℕ). IsInSpace n c.args.first) (sym same_resolution) c.requires.within) (omega (arith, same_resolution, c.requires.end))
    c.loop-z.invariant.low (omega (arith, c.loop-z-test.true, c.min-stop.ensures)) (omega (arith, c.min-stop.ensures))
    (omega (arith, c.bit_index.ensures.value, c.from.ensures, c.from-in-loop-z.ensures)) (omega (arith, c.min-stop.ensures, c.loop-z-test.true)) c.bits_from-bits.ensures in
    record {
      low = omega (arith, c.loop-z.invariant.low, c.loop-z-test.true, c.min-stop.ensures);
      high = omega (arith, c.min-stop.ensures);
      items = appended c.loop-z.list.items c.list_bits.new.list.items _ _ _ c.list_bits.ensures.items (sym next) ∙ c.loop-z.invariant.items;
      room = omega (arith, c.loop-z.invariant.room, c.list_bits.ensures.room);
      left = omega (arith, c.loop-z.invariant.left, c.list_bits.ensures.left, c.min-stop.ensures, c.loop-z-test.true);
      touches = omega (arith, c.loop-z.invariant.touches, c.tick.ensures, c.min-stop.ensures, c.loop-z-test.true);
    }

pub returns-clause-items : goal.returns-clause-items
returns-clause-items g c =
    let none = ap (filter (is_state c.args.self.now c.args.full)) (row-end (at c.args.first c.loop-z.z) c.args.last (omega (arith, c.loop-z-test.false))) in
    sym (append-nil c.loop-z.list.items) ∙ (ap (λ xs. c.loop-z.list.items ++ xs) (sym none) ∙ c.loop-z.invariant.items)

use Rattle.std.proofs.Common.{◌≡◌, refl, sym, subst, arith, rules}
use Rattle.brick_arena.specs.Slots.{swapped}
use Rattle.support_forest.specs.Grid.{Grid, word_at}
use Rattle.std.specs.Prelude.{◌==◌}
use Rattle.vox_geom.specs.Space.{IsInSpace}
use Rattle.support_forest.specs.Words.{IsWritten, is_overhang}
use Rattle.support_forest.proofs.Store.{index_there, slot_offset_below}
use Rattle.support_forest.proofs.Writes.{counted, count_few, wrote}
use Rattle.support_forest.proofs.cells.Cells.write_offset.Goals as goal

pub overflow_add-self : goal.overflow_add-self
overflow_add-self g c =
    let inside = c.self.inside in
    let floating_few = count_few (λ n. n == 1) (record { resolution = inside.resolution; table = inside.table.items; bricks = inside.bricks }) c.self.invariant.1.0.few in
    let invariant = c.self.invariant.1.1.0 in
    let few = c.floats.ensures.few in
    omega arith

pub overflow_sub-self : goal.overflow_sub-self
overflow_sub-self g c =
    let inside = c.self.inside in
    (wrote (record { resolution = inside.resolution; table = inside.table.items; bricks = inside.bricks }) c.args.self.now c.set_word_at.new.self c.requires.0 c.args.slot (swapped c.args.at) c.args.old c.args.word inside.floating c.floats.result c.floats-2.result c.self.view_is c.self.invariant.1.0 c.self.invariant.1.1.0 c.requires.1.within c.requires.1.slot c.requires.1.stands (index_there c.requires.0 c.args.at c.requires.1.offset) c.set_word_at.ensures.value c.set_word_at.ensures.written c.floats.ensures.value c.floats-2.ensures.value).enough

pub overflow_add-self-2 : goal.overflow_add-self-2
overflow_add-self-2 g c =
    let inside = c.self.inside in
    let overhangs_few = count_few is_overhang (record { resolution = inside.resolution; table = inside.table.items; bricks = inside.bricks }) c.self.invariant.1.0.few in
    let invariant = c.self.invariant.1.1.1 in
    let few = c.is_overhang-up.ensures.few in
    omega arith

pub overflow_sub-self-2 : goal.overflow_sub-self-2
overflow_sub-self-2 g c =
    let inside = c.self.inside in
    let wrote_here = wrote (record { resolution = inside.resolution; table = inside.table.items; bricks = inside.bricks }) c.args.self.now c.set_word_at.new.self c.requires.0 c.args.slot (swapped c.args.at) c.args.old c.args.word inside.floating c.floats.result c.floats-2.result c.self.view_is c.self.invariant.1.0 c.self.invariant.1.1.0 c.requires.1.within c.requires.1.slot c.requires.1.stands (index_there c.requires.0 c.args.at c.requires.1.offset) c.set_word_at.ensures.value c.set_word_at.ensures.written c.floats.ensures.value c.floats-2.ensures.value in
    let overhangs = counted is_overhang (record { resolution = inside.resolution; table = inside.table.items; bricks = inside.bricks }) (record { resolution = inside.resolution; table = inside.table.items; bricks = c.set_word_at.new.self }) c.requires.0 c.args.old c.args.word inside.overhangs c.is_overhang-up.result c.is_overhang-down.result refl
    (subst (λ (q : Grid). IsInSpace q.resolution c.requires.0) (sym c.self.view_is) c.requires.1.within) (subst (λ (q : Grid). c.args.old ≡ word_at q c.requires.0) (sym c.self.view_is) c.requires.1.stands) wrote_here.written c.self.invariant.1.1.1 c.is_overhang-up.ensures.value c.is_overhang-down.ensures.value in
    overhangs.0

pub invariant_of-self : goal.invariant_of-self
invariant_of-self g c =
    let inside = c.self.inside in
    let wrote_here = wrote (record { resolution = inside.resolution; table = inside.table.items; bricks = inside.bricks }) c.args.self.now c.set_word_at.new.self c.requires.0 c.args.slot (swapped c.args.at) c.args.old c.args.word inside.floating c.floats.result c.floats-2.result c.self.view_is c.self.invariant.1.0 c.self.invariant.1.1.0 c.requires.1.within c.requires.1.slot c.requires.1.stands (index_there c.requires.0 c.args.at c.requires.1.offset) c.set_word_at.ensures.value c.set_word_at.ensures.written c.floats.ensures.value c.floats-2.ensures.value in
    let overhangs = counted is_overhang (record { resolution = inside.resolution; table = inside.table.items; bricks = inside.bricks }) (record { resolution = inside.resolution; table = inside.table.items; bricks = c.set_word_at.new.self }) c.requires.0 c.args.old c.args.word inside.overhangs c.is_overhang-up.result c.is_overhang-down.result refl
    (subst (λ (q : Grid). IsInSpace q.resolution c.requires.0) (sym c.self.view_is) c.requires.1.within) (subst (λ (q : Grid). c.args.old ≡ word_at q c.requires.0) (sym c.self.view_is) c.requires.1.stands) wrote_here.written c.self.invariant.1.1.1 c.is_overhang-up.ensures.value c.is_overhang-down.ensures.value in
    (c.self.invariant.0, (wrote_here.store, (wrote_here.count, (let same = c.if-up-down.true in omega (arith, overhangs.1)))))

pub invariant_of-self-2 : goal.invariant_of-self-2
invariant_of-self-2 g c =
    let inside = c.self.inside in
    let wrote_here = wrote (record { resolution = inside.resolution; table = inside.table.items; bricks = inside.bricks }) c.args.self.now c.set_word_at.new.self c.requires.0 c.args.slot (swapped c.args.at) c.args.old c.args.word inside.floating c.floats.result c.floats-2.result c.self.view_is c.self.invariant.1.0 c.self.invariant.1.1.0 c.requires.1.within c.requires.1.slot c.requires.1.stands (index_there c.requires.0 c.args.at c.requires.1.offset) c.set_word_at.ensures.value c.set_word_at.ensures.written c.floats.ensures.value c.floats-2.ensures.value in
    let overhangs = counted is_overhang (record { resolution = inside.resolution; table = inside.table.items; bricks = inside.bricks }) (record { resolution = inside.resolution; table = inside.table.items; bricks = c.set_word_at.new.self }) c.requires.0 c.args.old c.args.word inside.overhangs c.is_overhang-up.result c.is_overhang-down.result refl
    (subst (λ (q : Grid). IsInSpace q.resolution c.requires.0) (sym c.self.view_is) c.requires.1.within) (subst (λ (q : Grid). c.args.old ≡ word_at q c.requires.0) (sym c.self.view_is) c.requires.1.stands) wrote_here.written c.self.invariant.1.1.1 c.is_overhang-up.ensures.value c.is_overhang-down.ensures.value in
    (c.self.invariant.0, (wrote_here.store, (wrote_here.count, overhangs.1)))

pub set_word_at-requires-clause-place : goal.set_word_at-requires-clause-place
set_word_at-requires-clause-place g c = let below = slot_offset_below c.requires.0 in let same = c.requires.1.offset in omega arith

pub returns : goal.returns
returns g c = λ voxel is.
    let inside = c.self.inside in
    let old : Grid = record { resolution = inside.resolution; table = inside.table.items; bricks = inside.bricks } in
    let new : Grid = record { resolution = inside.resolution; table = inside.table.items; bricks = c.set_word_at.new.self } in
    let wrote_here = wrote old c.args.self.now c.set_word_at.new.self voxel c.args.slot (swapped c.args.at) c.args.old c.args.word inside.floating c.floats.result c.floats-2.result c.self.view_is c.self.invariant.1.0 c.self.invariant.1.1.0 is.within is.slot is.stands (index_there voxel c.args.at is.offset) c.set_word_at.ensures.value c.set_word_at.ensures.written c.floats.ensures.value c.floats-2.ensures.value in
    record {
      resolution = search rules;
      slots = search rules;
      written = subst (λ (q : Grid). IsWritten (word_at q) (word_at new) voxel c.args.word) c.self.view_is wrote_here.written;
      touch = search rules;
    }

pub returns-then-up-down : goal.returns-then-up-down
returns-then-up-down g c = λ voxel is.
    let inside = c.self.inside in
    let old : Grid = record { resolution = inside.resolution; table = inside.table.items; bricks = inside.bricks } in
    let new : Grid = record { resolution = inside.resolution; table = inside.table.items; bricks = c.set_word_at.new.self } in
    let wrote_here = wrote old c.args.self.now c.set_word_at.new.self voxel c.args.slot (swapped c.args.at) c.args.old c.args.word inside.floating c.floats.result c.floats-2.result c.self.view_is c.self.invariant.1.0 c.self.invariant.1.1.0 is.within is.slot is.stands (index_there voxel c.args.at is.offset) c.set_word_at.ensures.value c.set_word_at.ensures.written c.floats.ensures.value c.floats-2.ensures.value in
    record {
      resolution = search rules;
      slots = search rules;
      written = subst (λ (q : Grid). IsWritten (word_at q) (word_at new) voxel c.args.word) c.self.view_is wrote_here.written;
      touch = search rules;
    }

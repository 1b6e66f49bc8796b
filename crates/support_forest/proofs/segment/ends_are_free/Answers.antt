use Rattle.std.proofs.Common.{◌≡◌, ◌+◌, ◌-◌, ◌∙◌, Bool, Some, ap, arith, false, not, refl, subst, sym, true}
use Rattle.vox_geom.specs.declared.coordinate.Coord.{Coord}
use Rattle.vox_geom.specs.Space.{IsInSpace}
use Rattle.support_forest.specs.Grid.{side, slot_of, word_at}
use Rattle.support_forest.specs.FillingOne.{IsWordToward}
use Rattle.support_forest.specs.Indices.{voxel_in}
use Rattle.support_forest.specs.Segments.{further}
use Rattle.support_forest.proofs.WithoutOverhangs.{ends_without_overhangs}
use Rattle.support_forest.proofs.Segments.{end_free, far_free, row_slot, row_space}
use Rattle.support_forest.proofs.Voxels.{part_there, index_small, voxel_further}
use Rattle.support_forest.proofs.segment.ends_are_free.Goals as goal

not_so : (b : Bool) → not b ≡ true → b ≡ false
not_so true e = sym e
not_so false e = refl

pub chunk-chunk-requires : goal.chunk-chunk-requires
chunk-chunk-requires g c = c.recall.ensures.store.live _ c.args.own c.requires.own

pub overflow_add-last : goal.overflow_add-last
overflow_add-last g c =
    let small = index_small c.args.cells.now.resolution c.args.index c.recall.ensures.few c.requires.row.within in
    let part = part_there (side c.args.cells.now.resolution) c.args.index c.args.count c.requires.row.row in
    omega (arith, c.from.ensures)

pub word_toward-far-requires-clause-read : goal.word_toward-far-requires-clause-read
word_toward-far-requires-clause-read g c =
    let cells = c.args.cells.now in
    let some = c.requires.some in
    let behind : c.from.result ≡ c.args.count - 1 = c.from.ensures in
    let part = part_there (side cells.resolution) c.args.index c.args.count c.requires.row.row in
    let last : voxel_in cells (c.args.index + c.from.result) ≡ further (voxel_in cells c.args.index) (c.args.count - 1) =
    voxel_further (side cells.resolution) c.args.index c.from.result (omega arith) ∙ ap (further (voxel_in cells c.args.index)) behind in
    record {
      within = subst (λ (p : Coord). IsInSpace cells.resolution p) (sym last) (row_space cells (voxel_in cells c.args.index) c.args.count (c.args.count - 1) c.requires.row (omega arith));
      slot = subst (λ (p : Coord). slot_of cells p ≡ Some c.args.own) (sym last) (sym (row_slot cells (voxel_in cells c.args.index) c.args.count (c.args.count - 1) (Some c.args.own) c.requires.row (omega arith) (sym c.requires.own)));
      space = c.requires.space;
      chunk = c.chunk-chunk.ensures;
      at = omega (arith, c.offset_in_chunk-at.ensures, c.from-2.ensures);
    }

pub returns-then-has_no_overhangs-clause-free : goal.returns-then-has_no_overhangs-clause-free
returns-then-has_no_overhangs-clause-free g c t = ends_without_overhangs (word_at c.args.cells.now) (voxel_in c.args.cells.now c.args.index) c.args.count (c.has_no_overhangs.ensures c.if-has_no_overhangs.true)

pub returns-clause-free : goal.returns-clause-free
returns-clause-free g c t =
    let cells = c.args.cells.now in
    let some = c.requires.some in
    let behind : c.from.result ≡ c.args.count - 1 = c.from.ensures in
    let part = part_there (side cells.resolution) c.args.index c.args.count c.requires.row.row in
    let last : voxel_in cells (c.args.index + c.from.result) ≡ further (voxel_in cells c.args.index) (c.args.count - 1) =
    voxel_further (side cells.resolution) c.args.index c.from.result (omega arith) ∙ ap (further (voxel_in cells c.args.index)) behind in
    record {
      near = end_free (word_at cells) (voxel_in cells c.args.index) 5 6 c.word_toward-near.result c.word_toward-near.ensures.word (c.hangs.ensures c.if-hangs.false);
      far = far_free (word_at cells) (voxel_in cells c.args.index) c.args.count some
          (end_free (word_at cells) (further (voxel_in cells c.args.index) (c.args.count - 1)) 6 5 c.word_toward-far.result
          (subst (λ (p : Coord). IsWordToward (word_at cells) p 6 c.word_toward-far.result) last c.word_toward-far.ensures.word) (c.hangs-2.ensures (not_so c.hangs-2.result t)));
    }

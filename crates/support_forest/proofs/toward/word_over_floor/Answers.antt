use Rattle.std.proofs.Common.{◌+◌, ◌∙◌, ap, arith, refl}
use Rattle.support_forest.specs.Grid.{word_at}
use Rattle.support_forest.specs.FillingOne.{IsOffsetToward}
use Rattle.support_forest.proofs.Nearby.{is_offset_over, lies_beside}
use Rattle.support_forest.proofs.Sides.{one_toward}
use Rattle.support_forest.proofs.Store.{slot_offset_below}
use Rattle.support_forest.proofs.toward.word_over_floor.Goals as goal

pub word_of-requires-clause-live : goal.word_of-requires-clause-live
word_of-requires-clause-live g c = c.recall.ensures.store.live _ c.args.slot c.requires.slot

pub word_of-requires-clause-offset : goal.word_of-requires-clause-offset
word_of-requires-clause-offset g c =
    let over : IsOffsetToward c.args.c 4 (c.offset_in_slot.result + 64) = is_offset_over c.args.c 4 c.offset_in_slot.result (c.offset_in_slot.result + 64) refl c.offset_in_slot.ensures.value (let floor = c.requires.floor in omega arith) refl in
    let below = slot_offset_below over.there in
    let same = over.at_offset in
    omega arith

pub returns-clause-word : goal.returns-clause-word
returns-clause-word g c =
    let over : IsOffsetToward c.args.c 4 (c.offset_in_slot.result + 64) = is_offset_over c.args.c 4 c.offset_in_slot.result (c.offset_in_slot.result + 64) refl c.offset_in_slot.ensures.value (let floor = c.requires.floor in omega arith) refl in
    let word_of_value = c.word_of.ensures.value over.there (lies_beside c.args.cells.now c.args.c 4 c.args.slot (c.offset_in_slot.result + 64) c.requires.within c.requires.slot over) in
    record {
      each = λ q k. ap (word_at c.args.cells.now) (one_toward 4 c.args.c q over.there k over.toward) ∙ word_of_value;
      some = λ f. (over.there, over.toward);
    }

use Rattle.std.proofs.Common.{◌≡◌, sym, subst, ◌∙◌, Some}
use Rattle.vox_geom.specs.Space.{IsInSpace}
use Rattle.support_forest.specs.Grid.{Grid, slot_of, word_at}
use Rattle.support_forest.proofs.Store.{index_there}
use Rattle.support_forest.proofs.Writes.{reads, reads_none}
use Rattle.support_forest.proofs.cells.Cells.word_in.Goals as goal

pub returns-in-Some-clause-value : goal.returns-in-Some-clause-value
returns-in-Some-clause-value g c =
    let inside = c.self.inside in
    let old : Grid = record { resolution = inside.resolution; table = inside.table.items; bricks = inside.bricks } in
    subst (λ (q : Grid). c.word_at.result ≡ word_at q c.args.at) c.self.view_is
    (reads old c.args.at c.in-Some.slot _ c.word_at.result (subst (λ (q : Grid). IsInSpace q.resolution c.args.at) (sym c.self.view_is) c.requires.within) (subst (λ (q : Grid). Some c.in-Some.slot ≡ slot_of q c.args.at) (sym c.self.view_is) (sym c.in-Some.is ∙ c.requires.slot)) (index_there c.args.at _ c.offset_in_slot.ensures.value) c.word_at.ensures.value)

pub returns-in-None-clause-value : goal.returns-in-None-clause-value
returns-in-None-clause-value g c = reads_none c.args.self.now c.args.at c.requires.within (sym c.in-None.is ∙ c.requires.slot)

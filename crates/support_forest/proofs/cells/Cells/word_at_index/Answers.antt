use Rattle.std.proofs.Common.{◌≡◌, ◌/◌, ◌%◌, ◌<◌, ◌∙◌, None, Some, length, refl, subst, sym}
use Rattle.std.proofs.lemmas.List.{get_or_default}
use Rattle.support_forest.specs.Grid.{Grid, LiesAtOffset, slot_at, word_at}
use Rattle.support_forest.proofs.Across.{reads_in_brick}
use Rattle.support_forest.proofs.cells.Cells.word_at_index.Goals as goal

pub returns-in-Some-clause-value : goal.returns-in-Some-clause-value
returns-in-Some-clause-value g c =
    let inside = c.self.inside in
    let old : Grid = record { resolution = inside.resolution; table = inside.table.items; bricks = inside.bricks } in
    let below : (c.args.index / 512) < length inside.table.items = subst (λ (x : Grid). (c.args.index / 512) < length x.table) (sym c.self.view_is) c.requires in
    let slot : Some c.in-Some.slot ≡ slot_at inside.table.items (c.args.index / 512) = sym (get_or_default inside.table.items (c.args.index / 512) None c.index.result.now below ∙ (sym c.index.ensures ∙ c.in-Some.is)) in
    λ q h. subst (λ (x : Grid). word_at x q ≡ c.word_at.result) c.self.view_is
    (reads_in_brick old (c.args.index / 512) (c.args.index % 512) c.word_at.result _ c.self.invariant.1.0 slot c.word_at.ensures.value q (subst (λ (x : Grid). LiesAtOffset x.resolution (c.args.index / 512) (c.args.index % 512) q) (sym c.self.view_is) h))

pub returns-in-None-clause-value : goal.returns-in-None-clause-value
returns-in-None-clause-value g c =
    let inside = c.self.inside in
    let old : Grid = record { resolution = inside.resolution; table = inside.table.items; bricks = inside.bricks } in
    let below : (c.args.index / 512) < length inside.table.items = subst (λ (x : Grid). (c.args.index / 512) < length x.table) (sym c.self.view_is) c.requires in
    let slot : None ≡ slot_at inside.table.items (c.args.index / 512) = sym (get_or_default inside.table.items (c.args.index / 512) None c.index.result.now below ∙ (sym c.index.ensures ∙ c.in-None.is)) in
    λ q h. subst (λ (x : Grid). word_at x q ≡ 0) c.self.view_is
    (reads_in_brick old (c.args.index / 512) (c.args.index % 512) 0 _ c.self.invariant.1.0 slot refl q (subst (λ (x : Grid). LiesAtOffset x.resolution (c.args.index / 512) (c.args.index % 512) q) (sym c.self.view_is) h))

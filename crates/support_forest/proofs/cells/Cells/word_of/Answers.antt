use Rattle.std.proofs.Common.{◌≡◌, sym, subst}
use Rattle.support_forest.specs.Grid.{Grid, LiesAt, word_at}
use Rattle.support_forest.proofs.Writes.{reads_offset}
use Rattle.support_forest.proofs.cells.Cells.word_of.Goals as goal

pub returns-clause-value : goal.returns-clause-value
returns-clause-value g c =
    let inside = c.self.inside in
    let old : Grid = record { resolution = inside.resolution; table = inside.table.items; bricks = inside.bricks } in
    λ q h. subst (λ (x : Grid). word_at x q ≡ c.word_at.result) c.self.view_is
    (reads_offset old q c.args.slot c.args.at c.word_at.result c.self.invariant.1.0 (subst (λ (x : Grid). LiesAt x c.args.slot c.args.at q) (sym c.self.view_is) h) c.word_at.ensures.value)

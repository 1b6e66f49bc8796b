use Rattle.std.proofs.Common.{◌≡◌, ℕ, sym, ap, ◌∙◌, arith, eqb, true}
use Rattle.std.proofs.lemmas.Bool.Decides.{nat_tests}
use Rattle.support_forest.specs.Grid.{Grid, word_at}
use Rattle.support_forest.proofs.Writes.{blank_void}
use Rattle.support_forest.proofs.cells.Cells.is_blank.Goals as goal

zero_by : (n : ℕ) → eqb n 0 ≡ true → n ≡ 0
zero_by n h = grind (arith, nat_tests)

pub returns : goal.returns
returns c e d =
    let inside = c.self.inside in
    sym (ap (λ (g : Grid). word_at g d) c.self.view_is) ∙ blank_void (record { resolution = inside.resolution; table = inside.table.items; bricks = inside.bricks }) c.self.invariant.1.0 (sym c.live.ensures.count ∙ zero_by c.live.result e) d

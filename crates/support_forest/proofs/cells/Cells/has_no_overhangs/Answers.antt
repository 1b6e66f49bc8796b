use Rattle.std.proofs.Common.{◌≡◌, ◌∙◌, arith, subst, sym}
use Rattle.std.proofs.lemmas.Bool.Decides.{nat_tests}
use Rattle.support_forest.specs.Grid.{Grid, word_at}
use Rattle.support_forest.specs.Words.{NoneOverhangs}
use Rattle.support_forest.proofs.WithoutOverhangs.{none_overhangs}
use Rattle.support_forest.proofs.cells.Cells.has_no_overhangs.Goals as goal

pub returns : goal.returns
returns c t =
    let inside = c.self.inside in
    let none : inside.overhangs ≡ 0 = grind (arith, nat_tests) in
    subst (λ (q : Grid). NoneOverhangs (word_at q)) c.self.view_is
    (none_overhangs (record { resolution = inside.resolution; table = inside.table.items; bricks = inside.bricks }) (sym c.self.invariant.1.1.1 ∙ none))

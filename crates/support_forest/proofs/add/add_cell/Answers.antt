use Rattle.std.proofs.Common.{◌≡◌, ◌+◌, ◌≤◌, arith, refl, [], ◌∷◌}
use Rattle.support_forest.specs.FillingOne.{HaveFilledOne}
use Rattle.support_forest.proofs.FillingOne.{filled_added, when}
use Rattle.support_forest.proofs.add.add_cell.Goals as goal

pub fill_locally-requires : goal.fill_locally-requires
fill_locally-requires g c = record { exact = c.requires.exact; within = c.requires.space _ (0, omega arith, refl); void = c.requires.void _ (0, omega arith, refl) }

pub returns-then-branch : goal.returns-then-branch
returns-then-branch g c =
    filled_added c.args.cells.now c.fill_locally.new.cells (c.args.c ∷ []) c.args.c c.args.steps.now c.fill_locally.new.steps refl refl c.requires
    (when c.in_ok-fill_locally.field-0 (HaveFilledOne c.args.cells.now c.fill_locally.new.cells c.args.c c.args.steps.now c.fill_locally.new.steps) ((c.fill_locally.new.cells ≡ c.args.cells.now) × (c.fill_locally.new.steps ≤ c.args.steps.now + 6)) c.if-branch.true c.in_ok-fill_locally.ensures)

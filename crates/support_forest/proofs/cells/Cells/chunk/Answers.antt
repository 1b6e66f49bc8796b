use Rattle.std.proofs.Common.{subst}
use Rattle.brick_arena.specs.Slots.{HasSlot}
use Rattle.support_forest.specs.Grid.{Grid}
use Rattle.support_forest.proofs.cells.Cells.chunk.Goals as goal

pub returns : goal.returns
returns c = subst (λ (x : Grid). HasSlot x.bricks c.args.slot c.chunk.result.now) c.self.view_is c.chunk.ensures

use Rattle.std.proofs.Common.{◌≡◌, ℕ, ◌/◌, ◌∙◌, ap, arith}
use Rattle.support_forest.specs.Grid.{brick_number, slot_at}
use Rattle.support_forest.specs.Indices.{voxel_in}
use Rattle.support_forest.proofs.Voxels.{number_at, number_below}
use Rattle.support_forest.proofs.cells.Cells.take_slot_at.Goals as goal

pub slot_for-requires : goal.slot_for-requires
slot_for-requires c = let below = number_below c.args.self.now.resolution c.args.index c.requires in let bricks = c.recall.ensures.store.bricks in omega arith

pub returns-clause-slot : goal.returns-clause-slot
returns-clause-slot c =
    let at = voxel_in c.args.self.now c.args.index in
    let number : brick_number c.slot_for.new.self.resolution at ≡ c.args.index / 512 = ap (λ (r : ℕ). brick_number r at) c.slot_for.ensures.resolution ∙ number_at c.args.self.now.resolution c.args.index in
    ap (slot_at c.slot_for.new.self.table) number ∙ c.in_ok-slot.ensures.taken.slot

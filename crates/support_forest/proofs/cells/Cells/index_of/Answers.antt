use Rattle.std.proofs.Common.{◌∙◌, ap, arith}
use Rattle.support_forest.specs.Grid.{side}
use Rattle.support_forest.specs.Indices.{store_index, voxel_of}
use Rattle.support_forest.proofs.Store.{brick_inside}
use Rattle.support_forest.proofs.Voxels.{few_numbers, voxel_at_index}
use Rattle.support_forest.proofs.cells.Cells.index_of.Goals as goal

pub overflow_cast-result : goal.overflow_cast-result
overflow_cast-result c = let few = few_numbers c.args.self.now.resolution c.args.at c.recall.ensures.few c.requires in let number = c.brick_number.ensures.value in omega arith

pub overflow_mul-result : goal.overflow_mul-result
overflow_mul-result c = let few = few_numbers c.args.self.now.resolution c.args.at c.recall.ensures.few c.requires in let number = c.brick_number.ensures.value in omega arith

pub overflow_add-result : goal.overflow_add-result
overflow_add-result c = let few = few_numbers c.args.self.now.resolution c.args.at c.recall.ensures.few c.requires in let number = c.brick_number.ensures.value in let below = c.offset_in_slot.ensures.below in omega (arith, c.from.ensures)

pub returns-clause-value : goal.returns-clause-value
unfolding store_index
returns-clause-value c = omega (arith, c.brick_number.ensures.value, c.from.ensures, c.offset_in_slot.ensures.value)

pub returns-clause-voxel : goal.returns-clause-voxel
unfolding store_index
returns-clause-voxel c = ap (voxel_of (side c.args.self.now.resolution)) (omega (arith, c.brick_number.ensures.value, c.from.ensures, c.offset_in_slot.ensures.value)) ∙ voxel_at_index c.args.self.now.resolution c.args.at (brick_inside c.args.self.now.resolution c.args.at c.requires)

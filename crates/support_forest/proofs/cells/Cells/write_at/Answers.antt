use Rattle.std.proofs.Common.{sym}
use Rattle.support_forest.specs.Grid.{side}
use Rattle.support_forest.specs.Indices.{voxel_in}
use Rattle.support_forest.proofs.Voxels.{slot_offset_at}
use Rattle.support_forest.proofs.cells.Cells.write_at.Goals as goal

pub write_offset-requires : goal.write_offset-requires
write_offset-requires g c = (voxel_in c.args.self.now c.args.index, record { within = c.requires.within; slot = c.requires.slot; offset = sym (slot_offset_at (side c.args.self.now.resolution) c.args.index); stands = c.requires.stands })

pub returns : goal.returns
returns g c = c.write_offset.ensures (voxel_in c.args.self.now c.args.index) (record { within = c.requires.within; slot = c.requires.slot; offset = sym (slot_offset_at (side c.args.self.now.resolution) c.args.index); stands = c.requires.stands })

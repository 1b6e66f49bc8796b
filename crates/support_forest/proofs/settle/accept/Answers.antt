use Rattle.std.proofs.Common.{◌∙◌, sym, arith}
use Rattle.support_forest.specs.Indices.{voxel_of}
use Rattle.support_forest.proofs.Writes.{reads_none}
use Rattle.support_forest.proofs.settle.accept.Goals as goal

pub returns-in_default-clause-accepted : goal.returns-in_default-clause-accepted
returns-in_default-clause-accepted g c = let none_read = reads_none c.args.cells.now (voxel_of c.args.side c.args.offer.index) c.requires.within (sym c.in_default.is ∙ c.requires.slot) in let improves = c.requires.improves.0 in absurd (omega arith)

pub returns-in_default-clause-touch : goal.returns-in_default-clause-touch
returns-in_default-clause-touch g c = let none_read = reads_none c.args.cells.now (voxel_of c.args.side c.args.offer.index) c.requires.within (sym c.in_default.is ∙ c.requires.slot) in let improves = c.requires.improves.0 in absurd (omega arith)

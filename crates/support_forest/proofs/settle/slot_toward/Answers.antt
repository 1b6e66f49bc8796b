use Rattle.std.proofs.Common.{◌∙◌, ap, sym}
use Rattle.vox_geom.specs.declared.coordinate.Coord.{Coord}
use Rattle.support_forest.specs.Grid.{slot_of}
use Rattle.support_forest.specs.Indices.{voxel_of}
use Rattle.support_forest.proofs.Nearby.{same_slot}
use Rattle.support_forest.proofs.settle.slot_toward.Goals as goal

pub returns-then-not-ends_brick : goal.returns-then-not-ends_brick
returns-then-not-ends_brick g c =
    let beside = c.requires.some in
    same_slot c.args.cells.now (voxel_of c.args.side c.args.index) beside.there c.args.own (c.if-not-ends_brick.ensures c.args.side beside.there beside.toward) c.requires.own
    ∙ ap (λ (q : Coord). slot_of c.args.cells.now q) (sym (c.requires.next beside.there beside.toward beside.within))

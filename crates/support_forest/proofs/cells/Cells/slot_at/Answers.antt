use Rattle.std.proofs.Common.{◌≡◌, ◌/◌, ◌<◌, ◌∙◌, None, arith, length, subst, sym}
use Rattle.std.specs.Prelude.{IfSome}
use Rattle.std.proofs.lemmas.List.{get_or_default}
use Rattle.brick_arena.specs.Slots.{IsLive}
use Rattle.vox_geom.specs.Space.{IsInSpace}
use Rattle.support_forest.specs.Grid.{Grid, slot_of}
use Rattle.support_forest.specs.Indices.{voxel_in}
use Rattle.support_forest.proofs.Voxels.{live_slot, number_below, slot_there}
use Rattle.support_forest.proofs.cells.Cells.slot_at.Goals as goal

pub index-requires : goal.index-requires
index-requires c =
    let inside = c.self.inside in
    let old : Grid = record { resolution = inside.resolution; table = inside.table.items; bricks = inside.bricks } in
    let below = number_below inside.resolution c.args.index (subst (λ (g : Grid). IsInSpace g.resolution (voxel_in g c.args.index)) (sym c.self.view_is) c.requires) in
    let bricks = c.self.invariant.1.0.bricks in
    omega arith

pub returns-clause-value : goal.returns-clause-value
returns-clause-value c =
    let inside = c.self.inside in
    let old : Grid = record { resolution = inside.resolution; table = inside.table.items; bricks = inside.bricks } in
    let within = subst (λ (g : Grid). IsInSpace g.resolution (voxel_in g c.args.index)) (sym c.self.view_is) c.requires in
    let below : c.args.index / 512 < length inside.table.items = let number = number_below inside.resolution c.args.index within in let bricks = c.self.invariant.1.0.bricks in omega arith in
    let is = c.index.ensures ∙ sym (get_or_default inside.table.items (c.args.index / 512) None c.index.result.now below) in
    subst (λ (g : Grid). c.index.result.now ≡ slot_of g (voxel_in g c.args.index)) c.self.view_is (slot_there old c.args.index c.index.result.now is)

pub returns-clause-live : goal.returns-clause-live
returns-clause-live c =
    let inside = c.self.inside in
    let old : Grid = record { resolution = inside.resolution; table = inside.table.items; bricks = inside.bricks } in
    let within = subst (λ (g : Grid). IsInSpace g.resolution (voxel_in g c.args.index)) (sym c.self.view_is) c.requires in
    let below : c.args.index / 512 < length inside.table.items = let number = number_below inside.resolution c.args.index within in let bricks = c.self.invariant.1.0.bricks in omega arith in
    let is = c.index.ensures ∙ sym (get_or_default inside.table.items (c.args.index / 512) None c.index.result.now below) in
    subst (λ (g : Grid). IfSome c.index.result.now (IsLive g.bricks)) c.self.view_is (live_slot old (c.args.index / 512) c.index.result.now c.self.invariant.1.0 is)

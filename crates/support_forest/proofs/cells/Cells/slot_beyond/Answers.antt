use Rattle.std.proofs.Common.{◌≡◌, ◌/◌, ◌<◌, ◌∙◌, None, length, subst, sym}
use Rattle.std.specs.Prelude.{IfSome}
use Rattle.std.proofs.lemmas.List.{get_or_default}
use Rattle.brick_arena.specs.Slots.{IsLive}
use Rattle.support_forest.specs.Grid.{Grid, slot_at}
use Rattle.support_forest.proofs.Voxels.{live_slot}
use Rattle.support_forest.proofs.cells.Cells.slot_beyond.Goals as goal

pub returns-clause-value : goal.returns-clause-value
returns-clause-value c =
    let inside = c.self.inside in
    let below : c.args.index / 512 < length inside.table.items = subst (λ (x : Grid). c.args.index / 512 < length x.table) (sym c.self.view_is) c.requires in
    let is = c.index.ensures ∙ sym (get_or_default inside.table.items (c.args.index / 512) None c.index.result.now below) in
    subst (λ (g : Grid). c.index.result.now ≡ slot_at g.table (c.args.index / 512)) c.self.view_is is

pub returns-clause-live : goal.returns-clause-live
returns-clause-live c =
    let inside = c.self.inside in
    let old : Grid = record { resolution = inside.resolution; table = inside.table.items; bricks = inside.bricks } in
    let below : c.args.index / 512 < length inside.table.items = subst (λ (x : Grid). c.args.index / 512 < length x.table) (sym c.self.view_is) c.requires in
    let is = c.index.ensures ∙ sym (get_or_default inside.table.items (c.args.index / 512) None c.index.result.now below) in
    subst (λ (g : Grid). IfSome c.index.result.now (IsLive g.bricks)) c.self.view_is (live_slot old (c.args.index / 512) c.index.result.now c.self.invariant.1.0 is)

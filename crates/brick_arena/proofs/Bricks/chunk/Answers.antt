use Rattle.std.proofs.Common.{◌<◌, ◌/◌, ◌∙◌, [], arith, length}
use Rattle.std.proofs.lemmas.List.{get_or_default}
use Rattle.brick_arena.proofs.Standing.{has_slot, live_at}
use Rattle.brick_arena.proofs.Bricks.chunk.Goals as goal

pub index-requires : goal.index-requires
index-requires c =
    let inside = c.self.inside in
    let at = live_at inside.chunks.items inside.first_vacant inside.vacant inside.reached c.self.invariant c.args.self.now c.self.view_is c.args.slot c.requires in
    omega (arith, at.2)

pub returns : goal.returns
returns c =
    let inside = c.self.inside in let slot = c.args.slot in
    let at = live_at inside.chunks.items inside.first_vacant inside.vacant inside.reached c.self.invariant c.args.self.now c.self.view_is slot c.requires in
    let below_length : slot / 64 < length inside.chunks.items = omega (arith, at.2) in
    has_slot inside.chunks.items inside.first_vacant inside.vacant inside.reached c.self.invariant c.args.self.now c.self.view_is slot c.requires c.index.result.now
    (c.index.ensures ∙ get_or_default inside.chunks.items (slot / 64) c.index.result.now [] below_length)

use Rattle.std.proofs.Common.{◌≡◌, ◌∙◌, ◌+◌, refl, sym, ap, Bool, true, false}
use Rattle.std.proofs.Math.Bool.{beq}
use Rattle.std.proofs.lemmas.Result.{on_ok_weaker}
use Rattle.nano_spec.specs.declared.commands.Command.TheVariants.{Fill, Void}
use Rattle.nano_spec.specs.Matrix.{Matrix, is_full}
use Rattle.vox_planes.specs.Voxel.{with_voxel}
use Rattle.plan_tape.specs.Parts.{voxel}
use Rattle.plan_tape.specs.Progress.{Writes, beside}
use Rattle.layer_planner.proofs.Paints.{painted_yet, paints_yet}
use Rattle.layer_planner.proofs.Sweeps.{wrote}
use Rattle.layer_planner.proofs.paint.paint_voxel.Goals as goal
use Rattle.vox_geom.specs.Point.{coord, down}

alike : (a b : Bool) → beq a b ≡ true → a ≡ b
alike true true e = refl
alike false false e = refl
alike true false e = cc
alike false true e = cc

pub returns-then-is_full-is_wanted : goal.returns-then-is_full-is_wanted
returns-then-is_full-is_wanted c =
    let tape = c.args.tape.now in
    let at = coord c.args.x (c.args.y + 1) c.args.z in
    let same : is_full tape.matrix (coord c.args.x c.args.y c.args.z) ≡ is_full c.args.goal.now (coord c.args.x c.args.y c.args.z) =
    ap (λ (m : Matrix). is_full m (coord c.args.x c.args.y c.args.z)) (sym c.matrix.ensures.value) ∙ (sym c.is_full.ensures ∙ (alike c.is_full.result c.is_full-is_wanted.result c.if-is_full-is_wanted.true ∙ c.is_full-is_wanted.ensures)) in
    paints_yet tape c.args.goal.now (voxel c.args.x c.args.y c.args.z) at 1 c.requires.ready.sweep (painted_yet tape.matrix c.args.goal.now (coord c.args.x c.args.y c.args.z) same)

pub returns-then-is_wanted : goal.returns-then-is_wanted
returns-then-is_wanted c =
    let self_after_go = c.go.new.self in
    let wanted : is_full c.args.goal.now (coord c.args.x c.args.y c.args.z) ≡ true = sym c.is_full-is_wanted.ensures ∙ c.if-is_wanted.true in
    on_ok_weaker c.fill.result
    (λ (w : Writes self_after_go c.fill.new.self (Fill c.down.result) (with_voxel self_after_go.matrix (beside self_after_go c.down.result) true) self_after_go.harmonics self_after_go.bots _).
    wrote c.args.tape.now self_after_go c.fill.new.self c.args.goal.now (Fill down) true _ c.args.x c.args.y c.args.z c.requires.ready c.requires.x c.requires.z c.in_ok-go.ensures.ok (rw c.down.ensures at w) refl refl wanted)
    c.fill.ensures.ok

pub returns-else-is_wanted : goal.returns-else-is_wanted
returns-else-is_wanted c =
    let self_after_go = c.go.new.self in
    let wanted : is_full c.args.goal.now (coord c.args.x c.args.y c.args.z) ≡ false = sym c.is_full-is_wanted.ensures ∙ c.if-is_wanted.false in
    on_ok_weaker c.void.result
    (λ (w : Writes self_after_go c.void.new.self (Void c.down-else-is_wanted.result) (with_voxel self_after_go.matrix (beside self_after_go c.down-else-is_wanted.result) false) self_after_go.harmonics self_after_go.bots _).
    wrote c.args.tape.now self_after_go c.void.new.self c.args.goal.now (Void down) false _ c.args.x c.args.y c.args.z c.requires.ready c.requires.x c.requires.z c.in_ok-go.ensures.ok (rw c.down-else-is_wanted.ensures at w) refl refl wanted)
    c.void.ensures.ok

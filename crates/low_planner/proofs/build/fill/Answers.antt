use Rattle.std.proofs.Common.{◌≡◌, true, sym, ◌∙◌, ap, subst}
use Rattle.std.specs.Prelude.{None}
use Rattle.std.proofs.lemmas.Result.{on_ok_weaker}
use Rattle.nano_spec.specs.declared.commands.Command.TheVariants.{Fill}
use Rattle.nano_spec.specs.Grounded.{FirstUngrounded}
use Rattle.nano_spec.specs.Matrix.{Matrix}
use Rattle.vox_planes.specs.Voxel.{with_voxel}
use Rattle.plan_tape.specs.Progress.{Writes, beside}
use Rattle.low_planner.proofs.Grounds.{filled_is_grounded}
use Rattle.low_planner.proofs.Works.{below_spot, filled, lower_in_space}
use Rattle.low_planner.proofs.build.fill.Goals as goal

pub fill-requires-clause-held : goal.fill-requires-clause-held
fill-requires-clause-held c = λ _.
    let tape = c.args.tape.now in
    let tape_after_go_above = c.go_above.new.tape in
    let at = c.args.c in
    let went = c.in_ok-go_above.ensures in
    let held = filled_is_grounded tape.matrix at (lower_in_space tape.matrix.resolution at c.requires.can_go.within) (c.recall_ready.ensures.held c.requires.can_go.working.low) c.requires.carried in
    let here : beside tape_after_go_above c.down.result ≡ at = ap (beside tape_after_go_above) c.down.ensures ∙ below_spot tape_after_go_above at went.there in
    let same : with_voxel tape_after_go_above.matrix (beside tape_after_go_above c.down.result) true ≡ with_voxel tape.matrix at true = (λ i. with_voxel (went.matrix i) (here i) true) in
    subst (λ (m : Matrix). FirstUngrounded m None) (sym same) held

pub returns : goal.returns
returns c =
    let tape_after_go_above = c.go_above.new.tape in
    on_ok_weaker c.fill.result
    (λ (w : Writes tape_after_go_above c.fill.new.self (Fill c.down.result) (with_voxel tape_after_go_above.matrix (beside tape_after_go_above c.down.result) true) tape_after_go_above.harmonics tape_after_go_above.bots _).
    filled c.args.tape.now tape_after_go_above c.fill.new.self c.args.c _ _ c.in_ok-go_above.ensures (rw c.down.ensures at w))
    c.fill.ensures.ok

use Rattle.std.proofs.Common.{sym, ◌∙◌, ap, subst, []}
use Rattle.nano_spec.specs.Matrix.{Matrix}
use Rattle.nano_spec.specs.State.{State, opening}
use Rattle.vox_planes.specs.Voxel.{IsWhole}
use Rattle.plan_tape.specs.Progress.{IsReached, progress_of}
use Rattle.plan_tape.proofs.Written.{started}
use Rattle.plan_tape.proofs.tape.Tape.start_as.Goals as goal

pub invariant_of-result : goal.invariant_of-result
invariant_of-result c =
    rw c.new.ensures.items (subst (λ (s : State). IsReached (progress_of c.args.source [] s 0)) (sym (c.opening-system.ensures ∙ ap (λ (m : Matrix). opening m c.args.profile) c.in_ok-matrix.ensures.value))
    (started c.args.source c.args.profile (subst IsWhole c.in_ok-matrix.ensures.value c.in_ok-matrix.ensures.whole) c.requires.grounded))

use Rattle.std.proofs.Common.{ℕ, ◌+◌, ◌≤◌, [], ◌∷◌, ◌++◌, length, refl, sym, subst}
use Rattle.std.specs.Prelude.{Err}
use Rattle.vox_geom.specs.Space.{IsInSpace}
use Rattle.nano_spec.specs.Matrix.{Matrix}
use Rattle.kept_machine.specs.declared.fault.NoStep.{NoStep}
use Rattle.kept_machine.specs.Calls.{Tries}
use Rattle.kept_machine.specs.Kept.{instant_of, instants_of, kept_of}
use Rattle.kept_machine.proofs.Notes.{none_noted}
use Rattle.kept_machine.proofs.OneVoxel.{one_step, told_one, within_first}
use Rattle.kept_machine.proofs.Steps.{refused_so}
use Rattle.kept_machine.proofs.stepping.step_one_voxel.Goals as goal

pub full_at-before-requires : goal.full_at-before-requires
full_at-before-requires g c =
    subst (λ (m : Matrix). IsInSpace m.resolution c.args.c) (sym c.matrix.ensures.value) (within_first c.args.machine.now.state c.args.commands.now c.args.c c.requires.one)

pub full_at-after-requires : goal.full_at-after-requires
full_at-after-requires g c =
    let changed = one_step c.args.machine.now.state c.step.new.self.state c.args.commands.now (c.args.machine.now.steps + 1) c.args.c c.requires.one c.in-Ok.ensures.stepped.goes in
    subst (λ (m : Matrix). IsInSpace m.resolution c.args.c) (sym c.matrix-in-Ok.ensures.value) changed.within

pub returns-in-Ok-clause-tries : goal.returns-in-Ok-clause-tries
returns-in-Ok-clause-tries g c = λ trace. record {
  some = c.requires.can.some;
  each = c.requires.can.each;
  goes = c.in-Ok.ensures.stepped.goes;
  counted = c.in-Ok.ensures.stepped.counted;
  past =
      none_noted (instant_of c.step.new.self) c.args.notes.now.items (instants_of (instant_of c.args.machine.now) c.args.notes.now.items ++ instant_of c.args.machine.now ∷ []) c.args.notes.now.capacity c.requires.none
      (subst (λ (n : ℕ). length c.args.notes.now.items ≤ n) c.capacity-room.ensures.capacity c.capacity-room.ensures.within.0);
  room = refl;
  trace = refl;
  target = refl;
  tells =
      told_one c.args.machine.now.state c.step.new.self.state c.args.commands.now (c.args.machine.now.steps + 1) c.args.c c.matrix.result.now c.matrix-in-Ok.result.now
      c.full_at-before.result c.full_at-after.result c.changed_voxels.result c.done.result c.requires.one c.in-Ok.ensures.stepped.goes
      c.done.ensures.energy c.done.ensures.harmonics c.done.ensures.active c.done.ensures.changed c.changed_voxels.ensures
      c.full_at-before.ensures.value c.matrix.ensures.value c.full_at-after.ensures.value c.matrix-in-Ok.ensures.value;
}

pub returns-in-Err-clause-tries : goal.returns-in-Err-clause-tries
returns-in-Err-clause-tries g c = λ trace.
    subst (λ (r : NoStep). Tries (kept_of c.args.machine.now c.args.notes.now trace) c.args.commands.now (kept_of c.step.new.self c.args.notes.now trace) (Err r)) (sym c.of.ensures)
    (refused_so c.args.machine.now c.step.new.self c.args.notes.now c.args.commands.now trace c.in-Err.fault _ _ c.requires.can c.in-Err.ensures.stepped)

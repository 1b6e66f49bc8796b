use Rattle.std.proofs.Common.{ℕ, ◌+◌, ◌≤◌, [], ◌∷◌, ◌++◌, length, refl, sym, subst}
use Rattle.std.specs.Prelude.{Err}
use Rattle.kept_machine.specs.declared.fault.NoStep.{NoStep}
use Rattle.kept_machine.specs.Calls.{Tries}
use Rattle.kept_machine.specs.Kept.{instant_of, instants_of, kept_of}
use Rattle.kept_machine.proofs.Aimed.{still_aimed}
use Rattle.kept_machine.proofs.Changing.{told_still}
use Rattle.kept_machine.proofs.Notes.{none_noted}
use Rattle.kept_machine.proofs.Steps.{refused_so}
use Rattle.kept_machine.proofs.stepping.step_once.Goals as goal

pub returns-in-Ok-clause-tries : goal.returns-in-Ok-clause-tries
returns-in-Ok-clause-tries g c = λ trace. record {
  some = c.requires.can.some;
  each = c.requires.can.each;
  goes = c.in-Ok.ensures.stepped.goes;
  counted = c.in-Ok.ensures.stepped.counted;
  past =
      none_noted (instant_of c.step.new.self) c.args.notes.now.items (instants_of (instant_of c.args.machine.now) c.args.notes.now.items ++ instant_of c.args.machine.now ∷ []) c.args.notes.now.capacity c.requires.none
      (subst (λ (n : ℕ). length c.args.notes.now.items ≤ n) c.capacity-room.ensures.capacity c.capacity-room.ensures.within.0);
  room = refl;
  trace = refl;
  target = refl;
  tells =
      told_still c.args.machine.now.state c.step.new.self.state c.args.commands.now (c.args.machine.now.steps + 1) c.done.result c.requires.still c.in-Ok.ensures.stepped.goes
      c.done.ensures.energy c.done.ensures.harmonics c.done.ensures.active c.done.ensures.changed;
}

pub returns-in-Err-clause-tries : goal.returns-in-Err-clause-tries
returns-in-Err-clause-tries g c = λ trace.
    subst (λ (r : NoStep). Tries (kept_of c.args.machine.now c.args.notes.now trace) c.args.commands.now (kept_of c.step.new.self c.args.notes.now trace) (Err r)) (sym c.of.ensures)
    (refused_so c.args.machine.now c.step.new.self c.args.notes.now c.args.commands.now trace c.in-Err.fault c.args.steps.now c.step.new.steps c.requires.can c.in-Err.ensures.stepped)

pub returns-in-Ok-clause-aimed : goal.returns-in-Ok-clause-aimed
returns-in-Ok-clause-aimed g c = still_aimed c.args.machine.now.state c.step.new.self.state c.args.commands.now (c.args.machine.now.steps + 1) c.requires.still c.in-Ok.ensures.stepped.goes

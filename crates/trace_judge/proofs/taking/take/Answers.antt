use Rattle.std.proofs.Common.{◌≡◌, ◌≤◌, ◌∙◌, ◌++◌, ◌∷◌, [], refl, ap, subst, arith, true, false, List, count_by}
use Rattle.std.specs.Prelude.{Err}
use Rattle.std.proofs.lemmas.Grind.{common_steps}
use Rattle.nano_spec.specs.declared.commands.Command.{Command}
use Rattle.step_machine.specs.declared.machine.StepFault.{StepFault}
use Rattle.step_machine.specs.Edits.{is_edit}
use Rattle.trace_judge.proofs.Running.{halted_refused, halted_waits, made_not_refused, made_waits, refused_waits, step_answered, step_moved, waits_refused}
use Rattle.trace_judge.proofs.taking.take.Goals as goal

pub returns-then-as_slice-from : goal.returns-then-as_slice-from
returns-then-as_slice-from g c = record {
  full = λ n. absurd (n refl);
  stepped = tt;
  cleared = tt;
  kept = waits_refused;
  memory = λ e _. waits_refused e;
  lacks = λ _. grind (arith, common_steps);
  joins = λ _. c.push.ensures;
  stays = λ _. refl;
  untouched = λ _. refl;
}

pub returns-then-ok : goal.returns-then-ok
returns-then-ok g c = record {
  full = λ _. grind (arith, common_steps);
  stepped = step_answered c.args.machine.now c.args.machine.now c.make_step.new.self c.args.pending.now c.args.pending.now c.as_slice-2.result.now c.args.command c.make_step.result c.in-Ok.ok true c.args.steps.now c.args.steps.now c.make_step.new.steps
      refl refl (c.as_slice-2.ensures ∙ c.push.ensures) refl c.in-Ok.is c.if-ok.true c.make_step.ensures.stepped;
  cleared = c.clear.ensures;
  kept = halted_refused;
  memory = λ e _. halted_refused e;
  lacks = halted_waits;
  joins = halted_waits;
  stays = halted_waits;
  untouched = halted_waits;
}

pub returns-else-ok : goal.returns-else-ok
returns-else-ok g c = record {
  full = λ _. grind (arith, common_steps);
  stepped = step_answered c.args.machine.now c.args.machine.now c.make_step.new.self c.args.pending.now c.args.pending.now c.as_slice-2.result.now c.args.command c.make_step.result c.in-Ok.ok false c.args.steps.now c.args.steps.now c.make_step.new.steps
      refl refl (c.as_slice-2.ensures ∙ c.push.ensures) refl c.in-Ok.is c.if-ok.false c.make_step.ensures.stepped;
  cleared = c.clear.ensures;
  kept = made_not_refused;
  memory = λ e _. made_not_refused e;
  lacks = made_waits;
  joins = made_waits;
  stays = made_waits;
  untouched = made_waits;
}

pub returns-in-Err : goal.returns-in-Err
returns-in-Err g c =
    let all : c.as_slice-2.result.now ≡ c.args.pending.now ++ c.args.command ∷ [] = c.as_slice-2.ensures ∙ c.push.ensures in
    record {
      full = λ _. grind (arith, common_steps);
      stepped = step_moved c.args.machine.now c.args.machine.now c.make_step.new.self c.args.pending.now c.args.pending.now c.as_slice-2.result.now c.args.command c.make_step.result (Err c.in-Err.refusal) c.args.steps.now c.args.steps.now c.make_step.new.steps
          refl refl (c.as_slice-2.ensures ∙ c.push.ensures) refl c.in-Err.is c.make_step.ensures.stepped;
      cleared = tt;
      kept = λ _. c.push.ensures;
      memory = λ _ f. subst (λ (xs : List Command). 1 ≤ count_by is_edit xs) all (c.make_step.ensures.memory (c.in-Err.is ∙ ap (λ (x : StepFault). Err x) f));
      lacks = refused_waits;
      joins = refused_waits;
      stays = refused_waits;
      untouched = refused_waits;
    }

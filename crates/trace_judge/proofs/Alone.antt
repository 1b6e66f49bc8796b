-- The run of an only bot, and the effect of a frequent command on it.
use Rattle.std.proofs.Common.{◌≡◌, ℕ, ◌+◌, refl, sym, ◌∙◌, ap, subst, arith, List, [], ◌∷◌, ◌++◌, true, false, length}
use Rattle.std.specs.Prelude.{Err}
use Rattle.nano_spec.specs.declared.commands.Command.{Command}
use Rattle.nano_spec.specs.declared.outcomes.Broken.{Broken}
use Rattle.nano_spec.specs.Next.{Breaks, Goes, Next}
use Rattle.nano_spec.specs.State.{State}
use Rattle.nano_spec.proofs.Accepted.{accepted_step}
use Rattle.run_progress.specs.Progress as progress
use Rattle.run_progress.specs.Progress.{Progress}
use Rattle.step_machine.specs.Situation.{Situation}
use Rattle.step_machine.specs.Stepped.{IsWithinWork, Stepped, answer_of}
use Rattle.step_machine.specs.declared.machine.StepFault.{StepFault}
use Rattle.step_machine.specs.declared.machine.StepFault.TheVariants as fault
use Rattle.trace_judge.specs.declared.runner.Mark.{Mark}
use Rattle.trace_judge.specs.declared.runner.Mark.TheVariants as mark
use Rattle.trace_judge.specs.Alone.{HasPushed, RunsAlone}
use Rattle.trace_judge.specs.Course.{Course, course_of, mark_by, searched_by, spent_by}
use Rattle.trace_judge.specs.Payment.{Touches}
use Rattle.trace_judge.proofs.Running.{made, running_mark}

running_as : (m : Mark) → mark_by m ≡ progress.Running → m ≡ mark.Running
running_as mark.Running e = refl
running_as (mark.Refused b) e = cc
running_as mark.Halted e = cc
running_as mark.Followed e = cc

-- the parts of a course that is alone
module _ (old : Situation) (pending : List Command) (m : Mark) (v : Course) (seen : course_of old pending m ≡ v) (alone : RunsAlone v) where
  pub runs : m ≡ mark.Running
  runs = running_as m (ap (λ (c : Course). c.progress.mark) seen ∙ alone.runs)

  pub none : pending ≡ []
  none = ap (λ (c : Course). c.progress.pending) seen ∙ alone.none

  pub one : length old.state.bots ≡ 1
  one = ap (λ (c : Course). length c.progress.state.bots) seen ∙ alone.one

  full : length pending + 1 ≡ length old.state.bots
  full = ap (λ (xs : List Command). length xs + 1) none ∙ sym one

  module _ (command : Command) where
    joined : (P : List Command → Type 0) → P (command ∷ []) → P (pending ++ command ∷ [])
    joined P h = subst (λ (xs : List Command). P (xs ++ command ∷ [])) (sym none) h

    -- it makes a step, so the claim on commands that make none is vacuous
    touches : (q : Progress) (began ended : ℕ)
        → IsWithinWork old.state (command ∷ []) (old.steps + 1) (began + searched_by q.mark old.state.matrix) ended
        → Touches v.progress q command began ended
    touches q began ended w = subst (λ (c : Course). Touches c.progress q command began ended) seen (record {
      untouched = λ no. absurd (no (ap mark_by runs) full);
      paid = joined (λ xs. IsWithinWork old.state xs (old.steps + 1) (began + searched_by q.mark old.state.matrix) ended) w;
    })

    pub pushed_made : (new : Situation) (fault : StepFault) (began ended : ℕ)
        → Stepped old new (command ∷ []) (answer_of true new.state fault) began ended
        → HasPushed v command (course_of new pending m) began ended
    pushed_made new fault began ended s =
        let runs_on : mark_by m ≡ progress.Running = ap mark_by runs in
        let is = (accepted_step old.state new.state (command ∷ []) (old.steps + 1) s.goes).is in
        record {
          progress = made old pending m v seen runs command (Goes new.state) (course_of new pending m).progress full
              (joined (λ xs. Next old.state xs (old.steps + 1) (Goes new.state)) s.goes)
              (λ i. record { state = new.state; steps = s.counted i; pending = none i; mark = (runs_on ∙ running_mark new.state.bots false s.halted refl) i });
          stands = subst (λ (k : Mark). spent_by new.spent k ≡ false) (sym runs) s.stands.1;
          resolution = ap (λ (t : State). t.matrix.resolution) is ∙ ap (λ (c : Course). c.progress.state.matrix.resolution) seen;
          touches = touches (course_of new pending m).progress began ended
              (subst (λ (k : progress.Mark). IsWithinWork old.state (command ∷ []) (old.steps + 1) (began + searched_by k old.state.matrix) ended) (sym runs_on)
              (let its_touches = s.touches in (its_touches.0, its_touches.1, omega (arith, its_touches.2))));
        }

    pub pushed_broken : (new : Situation) (after : List Command) (b : Broken) (began ended : ℕ)
        → after ≡ pending ++ command ∷ [] → Stepped old new (command ∷ []) (Err (fault.Broken b)) began ended
        → HasPushed v command (course_of new after (mark.Refused b)) began ended
    pushed_broken new after b began ended kept s = record {
      progress = made old pending m v seen runs command (Breaks b) (course_of new after (mark.Refused b)).progress full
          (joined (λ xs. Next old.state xs (old.steps + 1) (Breaks b)) s.breaks.1)
          (λ i. record { state = s.stays.0 i; steps = s.stays.1 i; pending = kept i; mark = progress.Refused b });
      stands = refl;
      resolution = ap (λ (t : State). t.matrix.resolution) s.stays.0 ∙ ap (λ (c : Course). c.progress.state.matrix.resolution) seen;
      touches = touches (course_of new after (mark.Refused b)).progress began ended s.touches_broken;
    }

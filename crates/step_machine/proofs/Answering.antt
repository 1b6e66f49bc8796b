-- The answers to a step: it breaks a rule at its start, is not made after all, or is made.
use Rattle.std.proofs.Common.{◌≡◌, ℕ, ◌+◌, ◌*◌, ◌≤◌, ◌<◌, refl, sym, ap, subst, arith, List, [], Bool, true, false, length}
use Rattle.std.specs.Prelude.{◌↔◌, Some, None, Ok, Err}
use Rattle.nano_spec.specs.declared.commands.Command.{Command}
use Rattle.nano_spec.specs.declared.outcomes.Broken.{Broken}
use Rattle.nano_spec.specs.declared.system.Bot.{Bot}
use Rattle.nano_spec.specs.declared.outcomes.Rule.{Rule}
use Rattle.nano_spec.specs.declared.outcomes.Rule.TheVariants.{Ungrounded}
use Rattle.nano_spec.specs.Act.{acts}
use Rattle.nano_spec.specs.Matrix.{Matrix}
use Rattle.nano_spec.specs.Model.{volume}
use Rattle.nano_spec.specs.Next.{Goes, Next, breaks_at_start}
use Rattle.nano_spec.specs.Rules.{broken}
use Rattle.nano_spec.specs.State.{IsWellFormed, State}
use Rattle.nano_spec.specs.Step.{after}
use Rattle.nano_spec.specs.Work.{volatile_total}
use Rattle.support_forest.specs.ForestView.{ForestView}
use Rattle.step_machine.specs.Settling.{IsSettled, IsUnsettled}
use Rattle.step_machine.specs.Situation.{Situation, searched_for}
use Rattle.step_machine.specs.Stepped.{Stepped}
use Rattle.step_machine.specs.declared.machine.StepOk.{StepOk}
use Rattle.step_machine.specs.declared.machine.StepFault.{StepFault}
use Rattle.step_machine.specs.declared.machine.StepFault.TheVariants as fault
use Rattle.step_machine.proofs.Stepping.{not_grounding, seen}
use Rattle.step_machine.proofs.Weighing.{within_one}
use Rattle.step_machine.proofs.Working.{acts_work, judged_touches}

searched_all : (rule : Rule) (m : Matrix) → rule ≡ Ungrounded → searched_for rule m ≡ volume m.resolution
searched_all rule m e = λ i. searched_for (e i) m

-- if bots are left, the run has not halted
pub bots_left : (bots : List Bot) → length bots ≡ 1 → (false ≡ true ↔ bots ≡ [])
bots_left bots one = ((λ h. cc), (λ e. let none = ap length e in absurd (omega (arith, none, one))))

-- the parts of a machine that is not poisoned, and its situation
module _ (s : State) (commands : List Command) (steps : ℕ) (spent : Bool) (v : Situation) (e : seen s steps spent ≡ v) (stands : spent ≡ false) (began : ℕ) where
  -- a rule is broken that is judged at the start
  pub broken_at_start : (b : Broken) (ended : ℕ) → broken s commands (steps + 1) ≡ Some b
      → ended ≤ began + 3 * volatile_total s.matrix (acts s.bots commands)
      → (length commands < length s.bots → ended ≡ began)
      → Stepped v (seen s steps spent) commands (Err (fault.Broken b)) began ended
  broken_at_start b ended f touches ends = subst (λ (w : Situation). Stepped w (seen s steps spent) commands (Err (fault.Broken b)) began ended) e (record {
    goes = tt;
    counted = tt;
    energy = tt;
    halted = tt;
    well_formed = tt;
    breaks = (stands, breaks_at_start b f refl);
    stays = (refl, refl);
    stands = tt;
    ungrounded = ((λ h. cc), (λ h. absurd (not_grounding s commands (steps + 1) b f h)));
    memory = λ x. cc;
    spent = ((λ x. cc), (λ x. cc));
    stays_spent = λ x. x;
    touches = tt;
    touches_broken = within_one s commands (steps + 1) (began + searched_for b.rule s.matrix) ended (λ n w. let touches_bound = judged_touches s commands (steps + 1) b began ended n f touches ends w in omega (arith, touches_bound));
  })

  module _ (judged : ℕ) (keeps : broken s commands (steps + 1) ≡ None) (start : judged ≤ began + 3 * volatile_total s.matrix (acts s.bots commands)) where
    -- allocation fails
    pub no_memory : (ended : ℕ) → Stepped v (seen s steps true) commands (Err fault.Memory) began ended
    no_memory ended = subst (λ (w : Situation). Stepped w (seen s steps true) commands (Err fault.Memory) began ended) e (record {
      goes = tt;
      counted = tt;
      energy = tt;
      halted = tt;
      well_formed = tt;
      breaks = tt;
      stays = (refl, refl);
      stands = tt;
      ungrounded = tt;
      memory = λ x. refl;
      spent = ((λ x. cc), (λ x. cc));
      stays_spent = λ x. refl;
      touches = tt;
      touches_broken = tt;
    })

    -- a voxel would float, or allocation fails
    pub not_settled : (f : StepFault) (ended : ℕ) → IsUnsettled s commands (steps + 1) f judged ended
        → Stepped v (seen s steps true) commands (Err f) began ended
    not_settled fault.Spent ended h = absurd h
    not_settled fault.Memory ended h = no_memory ended
    not_settled (fault.Broken b) ended h = subst (λ (w : Situation). Stepped w (seen s steps true) commands (Err (fault.Broken b)) began ended) e (record {
      goes = tt;
      counted = tt;
      energy = tt;
      halted = tt;
      well_formed = tt;
      breaks = (stands, h.breaks);
      stays = (refl, refl);
      stands = tt;
      ungrounded = ((λ x. h.rule), (λ x. refl));
      memory = λ x. refl;
      spent = ((λ x. cc), (λ x. cc));
      stays_spent = λ x. refl;
      touches = tt;
      touches_broken = within_one s commands (steps + 1) (began + searched_for b.rule s.matrix) ended (λ n w.
          let touches = h.touches n (acts_work s commands (steps + 1) n keeps w) in
          let all = searched_all b.rule s.matrix h.rule in
          omega (arith, touches, all, start));
    })

    -- the step is made
    pub made : (t : State) (forest : ForestView) (ok : StepOk) (settled ended : ℕ)
        → IsSettled s commands (steps + 1) forest judged settled → t ≡ after s commands → ok.energy ≡ t.energy
        → (ok.halted ≡ true ↔ t.bots ≡ []) → (IsWellFormed s → IsWellFormed t)
        → ended ≤ settled + volatile_total s.matrix (acts s.bots commands)
        → Stepped v (seen t (steps + 1) spent) commands (Ok ok) began ended
    made t forest ok settled ended h is paid halted formed turns = subst (λ (w : Situation). Stepped w (seen t (steps + 1) spent) commands (Ok ok) began ended) e (record {
      goes = subst (λ (u : State). Next s commands (steps + 1) (Goes u)) (sym is) h.goes;
      counted = refl;
      energy = paid;
      halted = halted;
      well_formed = formed;
      breaks = tt;
      stays = tt;
      stands = (stands, stands);
      ungrounded = tt;
      memory = λ x. cc;
      spent = ((λ x. cc), (λ x. cc));
      stays_spent = λ x. x;
      touches = within_one s commands (steps + 1) began ended (λ n w. let touches = h.touches n (acts_work s commands (steps + 1) n keeps w) in omega (arith, touches, start, turns));
      touches_broken = tt;
    })

-- a machine that was poisoned before the step
pub already_spent : (s : Situation) (commands : List Command) (n : ℕ) → s.spent ≡ true
    → Stepped s s commands (Err fault.Spent) n n
already_spent s commands n spent = record {
  goes = tt;
  counted = tt;
  energy = tt;
  halted = tt;
  well_formed = tt;
  breaks = tt;
  stays = (refl, refl);
  stands = tt;
  ungrounded = tt;
  memory = λ _. spent;
  spent = (λ _. spent, λ _. refl);
  stays_spent = λ e. e;
  touches = tt;
  touches_broken = tt;
}

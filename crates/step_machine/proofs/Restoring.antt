-- A step with a note that is not made: it is undone at once if a voxel would float.
use Rattle.std.proofs.Common.{◌≡◌, ℕ, ◌+◌, ◌*◌, ◌≤◌, ◌<◌, refl, sym, ◌∙◌, ap, subst, List, Bool, true, false, length}
use Rattle.std.specs.Prelude.{◌↔◌, Some, None}
use Rattle.vox_geom.proofs.Truths.{false_by}
use Rattle.nano_spec.specs.declared.commands.Command.{Command}
use Rattle.nano_spec.specs.declared.outcomes.Broken.{Broken}
use Rattle.nano_spec.specs.declared.outcomes.Rule.{Rule}
use Rattle.nano_spec.specs.Act.{acts}
use Rattle.nano_spec.specs.Rules.{broken}
use Rattle.nano_spec.specs.State.{State}
use Rattle.nano_spec.specs.Work.{volatile_total}
use Rattle.support_forest.specs.ForestView.{ForestView}
use Rattle.vox_planes.specs.Changes.{Changes}
use Rattle.step_machine.specs.declared.TheConstants.{MOST_CHANGED}
use Rattle.step_machine.specs.declared.machine.StepFault.{StepFault}
use Rattle.step_machine.specs.declared.machine.StepFault.TheVariants as fault
use Rattle.step_machine.specs.Restoring.{IsNotMade, IsRestored, IsTakenBackAfter, IsTakenBackBy}
use Rattle.step_machine.specs.Settling.{IsUnsettled}
use Rattle.step_machine.specs.Situation.{IsConsistent, Situation}
use Rattle.step_machine.proofs.Answering.{already_spent, broken_at_start, not_settled}
use Rattle.step_machine.proofs.Stepping.{seen}
use Rattle.step_machine.proofs.Weighing.{nothing_taken_back}

-- the forest after a step that was not made, whose changes were undone
pub restored_by : (s : State) (commands : List Command) (step : ℕ) (f : StepFault) (forest : ForestView)
    (began judged ended : ℕ) → IsUnsettled s commands step f began judged → forest.matrix ≡ s.matrix
    → forest.spent ≡ false → IsTakenBackBy s commands judged ended → IsRestored s commands step f forest began ended
restored_by s commands step (fault.Broken b) forest began judged ended h tied stands back = record { judged = judged; floats = h; tied = tied; stands = stands; back = back }
restored_by s commands step fault.Memory forest began judged ended h tied stands back = tt
restored_by s commands step fault.Spent forest began judged ended h tied stands back = absurd h

restored_parts : (s : State) (commands : List Command) (step : ℕ) (f : StepFault) (forest : ForestView)
    (began ended : ℕ) (spends : Bool) → (spends ≡ true ↔ f ≡ fault.Memory) → spends ≡ false
    → IsRestored s commands step f forest began ended → (forest.spent ≡ false) × (forest.matrix ≡ s.matrix)
restored_parts s commands step (fault.Broken b) forest began ended spends is e h = (h.stands, h.tied)
restored_parts s commands step fault.Memory forest began ended spends is e h = let spent : spends ≡ true = is.1 refl in absurd (cc)
restored_parts s commands step fault.Spent forest began ended spends is e h = absurd h

-- the machine's parts are consistent after it
pub sound_put_back : (s : State) (commands : List Command) (step : ℕ) (f : StepFault) (old new : ForestView)
    (changed list : Changes) (steps : ℕ) (spent spends : Bool) (began ended : ℕ)
    → IsConsistent s old changed steps spent → (spends ≡ true ↔ f ≡ fault.Memory)
    → IsRestored s commands step f new began ended → MOST_CHANGED ≤ list.spare + length list.items
    → IsConsistent s new list steps spends
sound_put_back s commands step f old new changed list steps spent spends began ended sound is h room = record {
  stands = λ e. (restored_parts s commands step f new began ended spends is e h).0;
  tied = λ e. (restored_parts s commands step f new began ended spends is e h).1;
  room = room;
  seeds = sound.seeds;
  paid = sound.paid;
  few = sound.few;
}

-- a machine's parts, which are not poisoned, and its situation
module _ (s : State) (commands : List Command) (steps : ℕ) (spent : Bool) (v : Situation) (e : seen s steps spent ≡ v) (stands : spent ≡ false) (began : ℕ) where
  -- a rule is broken that is judged at the start
  pub refused_at_start : (b : Broken) (ended : ℕ) → broken s commands (steps + 1) ≡ Some b
      → ended ≤ began + 3 * volatile_total s.matrix (acts s.bots commands)
      → (length commands < length s.bots → ended ≡ began)
      → IsNotMade v (seen s steps spent) commands (fault.Broken b) began ended
  refused_at_start b ended f touches ends = record {
    left = seen s steps spent;
    judged = ended;
    stepped = broken_at_start s commands steps spent v e stands began b ended f touches ends;
    broken = e;
    memory = λ x. cc;
    spent = λ x. cc;
    back = nothing_taken_back b.rule v.state commands ended;
  }

  -- a voxel would float, and the step is undone; or allocation fails
  pub not_made : (judged : ℕ) → broken s commands (steps + 1) ≡ None
      → judged ≤ began + 3 * volatile_total s.matrix (acts s.bots commands) → (f : StepFault) (spends : Bool)
      → (spends ≡ true ↔ f ≡ fault.Memory) → (forest : ForestView) (ended : ℕ)
      → IsRestored s commands (steps + 1) f forest judged ended
      → IsNotMade v (seen s steps spends) commands f began ended
  not_made judged keeps start fault.Spent spends is forest ended h = absurd h
  not_made judged keeps start fault.Memory spends is forest ended h = record {
    left = seen s steps true;
    judged = ended;
    stepped = not_settled s commands steps spent v e stands began judged keeps start fault.Memory ended tt;
    broken = tt;
    memory = λ _. (λ i. seen s steps (is.1 refl i)) ∙ ap (λ (w : Situation). record w { spent = true }) e;
    spent = λ x. cc;
    back = tt;
  }
  not_made judged keeps start (fault.Broken b) spends is forest ended h =
      let standing : spends ≡ false = false_by spends (λ x. let memory = is.0 x in cc) in
      record {
        left = seen s steps true;
        judged = h.judged;
        stepped = not_settled s commands steps spent v e stands began judged keeps start (fault.Broken b) h.judged h.floats;
        broken = (λ i. seen s steps ((standing ∙ sym stands) i)) ∙ e;
        memory = λ x. cc;
        spent = λ x. cc;
        back = subst (λ (w : Situation). IsTakenBackAfter b.rule w.state commands h.judged ended) e (subst (λ (r : Rule). IsTakenBackAfter r s commands h.judged ended) (sym h.floats.rule) h.back);
      }

-- a machine that was poisoned before the step
pub refused_as_spent : (s : Situation) (commands : List Command) (n : ℕ) → s.spent ≡ true
    → IsNotMade s s commands fault.Spent n n
refused_as_spent s commands n spent = record {
  left = s;
  judged = n;
  stepped = already_spent s commands n spent;
  broken = tt;
  memory = λ x. cc;
  spent = λ _. refl;
  back = tt;
}

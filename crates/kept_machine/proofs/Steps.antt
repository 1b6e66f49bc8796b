-- The view of a machine and its notes after a step, and after an undo.
use Rattle.std.proofs.Common.{◌≡◌, ℕ, ◌-◌, refl, sym, ◌∙◌, ap, subst, List, [], ◌∷◌, ◌++◌, length, take, Option}
use Rattle.std.specs.Prelude.{Ok, Err, Some, false}
use Rattle.circular_buffer.specs.Buffer.{Buffer, buffer, keep_last, last_item}
use Rattle.nano_spec.specs.declared.commands.Command.{Command}
use Rattle.nano_spec.specs.declared.system.Profile.{Profile}
use Rattle.nano_spec.specs.Matrix.{Matrix}
use Rattle.nano_spec.specs.State.{IsWellFormed, opening}
use Rattle.step_machine.specs.Restoring.{IsNotMade}
use Rattle.step_machine.specs.Situation.{Situation}
use Rattle.step_machine.specs.Stepped.{Stepped}
use Rattle.step_machine.specs.Undoing.{MayUndo, state_before}
use Rattle.step_machine.specs.declared.machine.StepOk.{StepOk}
use Rattle.step_machine.specs.declared.machine.StepFault.{StepFault}
use Rattle.step_machine.specs.declared.machine.StepFault.TheVariants as fault
use Rattle.step_machine.specs.declared.undo.Undo.{Undo}
use Rattle.kept_machine.specs.declared.done.StepDone.{StepDone}
use Rattle.kept_machine.specs.declared.fault.NoStep.{NoStep}
use Rattle.kept_machine.specs.declared.fault.NoStep.TheVariants as no_step
use Rattle.kept_machine.specs.Calls.{IsMade, IsTakenBack, Tells, Tries, WouldAnswer, no_step_of}
use Rattle.kept_machine.specs.Kept.{CanBeTakenBack, CanStep, CannotStep, Instant, IsNoted, Kept, instant_before, instant_of, instants_of, kept_of, trace_with, present, trace_without}
use Rattle.kept_machine.proofs.Notes.{back_last, back_less, back_more, instants_last, instants_more, last_split}
use Rattle.kept_machine.proofs.Standing.{looks_the_same}

-- ---- a machine that was started

pub opened_is_kept : (source : Matrix) (profile : Profile) (room : ℕ) (m : Situation) (notes : Buffer Undo)
    → m ≡ record { state = opening source profile; steps = 0; spent = false } → notes ≡ buffer [] room
    → IsWellFormed (opening source profile) → IsNoted m notes
opened_is_kept source profile room m notes is none formed = record {
  well_formed = subst (λ (x : Situation). IsWellFormed x.state) (sym is) formed;
  back = subst (λ (b : Buffer Undo). CanBeTakenBack (instant_of m) b.items) (sym none) tt;
}

-- ---- a step that was made and noted

module _ (v w : Situation) (notes rest : Buffer Undo) (commands : List Command) (undo : Undo) (ok : StepOk) (made : StepDone) (began ended : ℕ)
    (kept : IsNoted v notes) (tells : Tells v.state w.state made) (stepped : Stepped v w commands (Ok ok) began ended) (before : state_before w.state undo ≡ v.state) (counted : undo.steps ≡ v.steps)
    (may : IsWellFormed v.state → MayUndo w.state undo) (pushed : rest ≡ buffer (keep_last notes.capacity (notes.items ++ undo ∷ [])) notes.capacity) where
  before_is : instant_before (instant_of w) undo ≡ instant_of v
  before_is = λ i. record { state = before i; steps = counted i }

  items_are : rest.items ≡ keep_last notes.capacity (notes.items ++ undo ∷ [])
  items_are = ap (λ (b : Buffer Undo). b.items) pushed

  pub kept_noted : IsNoted w rest
  kept_noted = record {
    well_formed = stepped.well_formed kept.well_formed;
    back =
        subst (λ (us : List Undo). CanBeTakenBack (instant_of w) us) (sym items_are)
        (back_last (instant_of w) notes.capacity (notes.items ++ undo ∷ [])
        (back_more (instant_of w) notes.items undo (subst (λ (p : Instant). CanBeTakenBack p notes.items) (sym before_is) kept.back) (may kept.well_formed)));
  }

  past_is : instants_of (instant_of w) rest.items
      ≡ keep_last notes.capacity (instants_of (instant_of v) notes.items ++ instant_of v ∷ [])
  past_is =
      ap (instants_of (instant_of w)) items_are
      ∙ (instants_last (instant_of w) notes.capacity (notes.items ++ undo ∷ [])
      ∙ ap (keep_last notes.capacity) (instants_more (instant_of w) notes.items undo ∙ (λ i. instants_of (before_is i) notes.items ++ before_is i ∷ [])))

  pub made_noted : CanStep v commands → (trace : Option (List Command))
      → IsMade (kept_of v notes trace) commands (kept_of w rest (trace_with trace commands)) made
  made_noted can trace = record {
    some = can.some;
    each = can.each;
    goes = stepped.goes;
    counted = stepped.counted;
    past = past_is;
    room = ap (λ (b : Buffer Undo). b.capacity) pushed;
    trace = refl;
    target = refl;
    tells = tells;
  }

-- ---- a step that was not made

module _ (v w : Situation) (notes : Buffer Undo) (commands : List Command) where
  pub refused_so : (trace : Option (List Command)) (f : StepFault) (began ended : ℕ) → CanStep v commands
      → Stepped v w commands (Err f) began ended
      → Tries (kept_of v notes trace) commands (kept_of w notes trace) (Err (no_step_of f))
  refused_so trace (fault.Broken b) began ended can stepped = (looks_the_same v w notes stepped.stays.0 stepped.stays.1 trace, can.each, stepped.breaks.1)
  refused_so trace fault.Memory began ended can stepped = looks_the_same v w notes stepped.stays.0 stepped.stays.1 trace
  refused_so trace fault.Spent began ended can stepped = looks_the_same v w notes stepped.stays.0 stepped.stays.1 trace

  -- a step with a note that was not made
  pub restored_so : (trace : Option (List Command)) (f : StepFault) (began ended : ℕ) → CanStep v commands
      → IsNotMade v w commands f began ended
      → Tries (kept_of v notes trace) commands (kept_of w notes trace) (Err (no_step_of f))
  restored_so trace (fault.Broken b) began ended can h = (ap (λ (m : Situation). kept_of m notes trace) h.broken, can.each, h.stepped.breaks.1)
  restored_so trace fault.Memory began ended can h = ap (λ (m : Situation). kept_of m notes trace) (h.memory refl)
  restored_so trace fault.Spent began ended can h = ap (λ (m : Situation). kept_of m notes trace) (h.spent refl)

  -- the answer to a step that is made and then undone
  pub would_make : (trace : Option (List Command)) (ok : StepOk) (made : StepDone) (began ended : ℕ)
      → CanStep v commands → Tells v.state w.state made → Stepped v w commands (Ok ok) began ended
      → WouldAnswer (kept_of v notes trace) commands (Ok made)
  would_make trace ok made began ended can tells stepped =
      let kept : Kept = kept_of v notes trace in (
        record { state = w.state; steps = w.steps; past = keep_last kept.room (kept.past ++ present kept ∷ []); room = kept.room; trace = trace_with trace commands; target = kept.target },
        record { some = can.some; each = can.each; goes = stepped.goes; counted = stepped.counted; past = refl; room = refl; trace = refl; target = refl; tells = tells },
      )

-- the commands cannot be judged, and nothing was done
pub cannot_so : (k : Kept) (v : Situation) (notes : Buffer Undo) (trace : Option (List Command))
    (commands : List Command) (f : NoStep) → k ≡ kept_of v notes trace → CannotStep v commands f
    → Tries (kept_of v notes trace) commands k (Err f)
cannot_so k v notes trace commands (no_step.Broken b) same h = absurd h
cannot_so k v notes trace commands no_step.Ended same h = (same, h)
cannot_so k v notes trace commands no_step.Count same h = (same, h.0, h.1)
cannot_so k v notes trace commands no_step.Long same h = (same, h.0, h.1, h.2)
cannot_so k v notes trace commands no_step.Memory same h = absurd h

-- ---- the last step is undone

module _ (v w : Situation) (notes rest : Buffer Undo) (undo : Undo) (kept : IsNoted v notes) (last : last_item notes.items ≡ Some undo) where
  split : notes.items ≡ take (length notes.items - 1) notes.items ++ undo ∷ []
  split = last_split notes.items undo last

  less : MayUndo v.state undo
      × CanBeTakenBack (instant_before (instant_of v) undo) (take (length notes.items - 1) notes.items)
  less = back_less (instant_of v) (take (length notes.items - 1) notes.items) undo (subst (λ (us : List Undo). CanBeTakenBack (instant_of v) us) split kept.back)

  pub may_go_back : MayUndo v.state undo
  may_go_back = less.0

  module _ (state_is : w.state ≡ state_before v.state undo) (steps_are : w.steps ≡ undo.steps) (popped : rest ≡ buffer (take (length notes.items - 1) notes.items) notes.capacity) where
    before_was : instant_before (instant_of v) undo ≡ instant_of w
    before_was = λ i. record { state = sym state_is i; steps = sym steps_are i }

    items_left : rest.items ≡ take (length notes.items - 1) notes.items
    items_left = ap (λ (b : Buffer Undo). b.items) popped

    pub kept_back : IsNoted w rest
    kept_back = record {
      well_formed = subst IsWellFormed (sym state_is) less.0.before.well_formed;
      back =
          subst (λ (us : List Undo). CanBeTakenBack (instant_of w) us) (sym items_left)
          (subst (λ (p : Instant). CanBeTakenBack p (take (length notes.items - 1) notes.items)) before_was less.1);
    }

    pub taken_back : (trace : Option (List Command))
        → IsTakenBack (kept_of v notes trace) (kept_of w rest (trace_without trace (length w.state.bots)))
    taken_back trace = record {
      past =
          ap (instants_of (instant_of v)) split
          ∙ (instants_more (instant_of v) (take (length notes.items - 1) notes.items) undo
          ∙ ((λ i. instants_of (before_was i) (take (length notes.items - 1) notes.items) ++ before_was i ∷ [])
          ∙ ap (λ (us : List Undo). instants_of (instant_of w) us ++ instant_of w ∷ []) (sym items_left)));
      room = ap (λ (b : Buffer Undo). b.capacity) popped;
      trace = refl;
      target = refl;
    }

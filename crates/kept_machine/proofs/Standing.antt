-- A machine that is rebuilt in its state, and its view.
use Rattle.std.proofs.Common.{◌≡◌, ap, List, Option, None, false}
use Rattle.circular_buffer.specs.Buffer.{Buffer}
use Rattle.nano_spec.specs.declared.commands.Command.{Command}
use Rattle.step_machine.specs.Situation.{Situation}
use Rattle.step_machine.specs.declared.undo.Undo.{Undo}
use Rattle.kept_machine.specs.Kept.{instant_of, instants_of, kept_of}

-- ---- a machine that stays in its state, poisoned or not

module _ (v w : Situation) (notes : Buffer Undo) (state : w.state ≡ v.state) (steps : w.steps ≡ v.steps) where
  same_instant : instant_of w ≡ instant_of v
  same_instant = λ i. record { state = state i; steps = steps i }

  pub looks_the_same : (trace : Option (List Command)) → kept_of w notes trace ≡ kept_of v notes trace
  looks_the_same trace = λ i. record { state = state i; steps = steps i; past = instants_of (same_instant i) notes.items; room = notes.capacity; trace = trace; target = None }

-- a rebuilt machine looks the same, and keeps the same
module _ (v w : Situation) (notes : Buffer Undo) (anew : w ≡ record v { spent = false }) where
  pub anew_looks_the_same : (trace : Option (List Command)) → kept_of w notes trace ≡ kept_of v notes trace
  anew_looks_the_same = looks_the_same v w notes (ap (λ (m : Situation). m.state) anew) (ap (λ (m : Situation). m.steps) anew)

-- An accepted step ends in the state of its groups applied one after another, in any order.
use Rattle.std.proofs.Common.{◌≡◌, ℕ, List, sym, ◌∙◌, ap}
use Rattle.std.specs.Prelude.{Some, None, Result, Ok, Err, IfOk, IsPermutation}
use Rattle.nano_spec.specs.declared.commands.Command.{Command}
use Rattle.nano_spec.specs.Act.{acts}
use Rattle.nano_spec.specs.Next.{Goes, Next}
use Rattle.nano_spec.specs.Rules.{broken}
use Rattle.nano_spec.specs.Serial.{leader_bids, serial}
use Rattle.nano_spec.specs.State.{IsReady, State}
use Rattle.nano_spec.specs.Step.{after}
use Rattle.nano_spec.proofs.Accepted.{accepted_step}

abbrev pub OrderLaw : Type 0
OrderLaw = (s : State) (commands : List Command) (step : ℕ) (order : List ℕ) → IsReady s → broken s commands step ≡ None → IsPermutation (leader_bids (acts s.bots commands)) order → serial s commands order ≡ Some (after s commands)

serial_is : (law : OrderLaw) (s t : State) (commands : List Command) (step : ℕ) (order : List ℕ) → IsReady s
    → IsPermutation (leader_bids (acts s.bots commands)) order → Next s commands step (Goes t)
    → serial s commands order ≡ Some t
serial_is law s t commands step order ready permuted next = let accepted = accepted_step s t commands step next in law s commands step order ready accepted.keeps permuted ∙ ap Some (sym accepted.is)

-- if a step was made
pub made_in_order : {A E : Type 0} (law : OrderLaw) (s t : State) (commands : List Command) (step : ℕ) (order : List ℕ)
    → IsReady s → IsPermutation (leader_bids (acts s.bots commands)) order → (r : Result A E)
    → IfOk r (λ _. Next s commands step (Goes t)) → IfOk r (λ _. serial s commands order ≡ Some t)
made_in_order law s t commands step order ready permuted (Ok x) next = serial_is law s t commands step order ready permuted next
made_in_order law s t commands step order ready permuted (Err e) next = tt

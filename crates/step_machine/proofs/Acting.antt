-- Facts of the acts of a step that breaks no rule.
use Rattle.std.proofs.Common.{◌≡◌, ℕ, refl, List, Bool, true, false, not}
use Rattle.std.specs.Prelude.{None, IsTrue}
use Rattle.nano_spec.specs.declared.commands.Command.{Command}
use Rattle.nano_spec.specs.declared.outcomes.Rule.TheVariants.{OutOfSpace}
use Rattle.nano_spec.specs.Act.{Act, acts, stays_in_space}
use Rattle.nano_spec.specs.Group.{is_leader, leaders}
use Rattle.nano_spec.specs.Rules.{broken, here}
use Rattle.nano_spec.specs.State.{IsReady, State}
use Rattle.step_order.proofs.Facts.{good_is}
use Rattle.step_order.proofs.Lists.{In, filter_in}
use Rattle.step_order.proofs.JudgedRules.{out_of_space_is_judged}

not_here : (a : Act) (b : Bool) → here a (not b) ≡ None → b ≡ true
not_here a true e = refl
not_here a false e = cc

module _ (s : State) (commands : List Command) (step : ℕ) (ready : IsReady s) (keeps : broken s commands step ≡ None) where
  -- each act stays in space
  pub stays : (a : Act) → In a (acts s.bots commands) → IsTrue (stays_in_space s.matrix.resolution a)
  stays a i = not_here a (stays_in_space s.matrix.resolution a) ((good_is s commands step ready keeps).keeps a OutOfSpace i out_of_space_is_judged)

  pub leader_stays : (a : Act) → In a (leaders (acts s.bots commands)) → IsTrue (stays_in_space s.matrix.resolution a)
  leader_stays a i = stays a (filter_in (is_leader (acts s.bots commands)) a (acts s.bots commands) i).0

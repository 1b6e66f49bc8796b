-- The worked examples of `HasAtMost`, which bounds the bots of a plan, proved by computing.
use Rattle.std.proofs.Common.{◌≤◌, refl, arith, [], ◌∷◌}
use Rattle.nano_spec.specs.declared.commands.Command.TheVariants.{Halt}
use Rattle.nano_spec.specs.Matrix.{empty}
use Rattle.nano_spec.specs.Next.{accepts}
use Rattle.nano_spec.specs.Profile.{full_profile}
use Rattle.nano_spec.specs.State.{State, opening, seed_numbers}
use Rattle.nano_spec.specs.Step.{after}
use Rattle.nano_spec.proofs.Simulation.{grounded_is}
use Rattle.plan_tape.specs.Reaches.{starts, steps_on}
use Rattle.plan_tape.specs.Worked.{WorkedCrews, divides, fuses_and_halts}

abbrev undivided : State
undivided = opening (empty 3) full_profile

abbrev divided : State
divided = after undivided divides

pub worked_crews : WorkedCrews
unfolding seed_numbers
worked_crews = record {
  not_one_at_most = λ h. let few : 2 ≤ 1 = h divides fuses_and_halts divided 1 refl (steps_on undivided [] divides 0 (starts refl refl refl) (omega arith) refl (accepts refl (λ low. grounded_is 6 (empty 3) refl) refl) refl refl) in omega arith;
  not_none_at_most = λ h. let few : 1 ≤ 0 = h [] (Halt ∷ []) undivided 0 refl (starts refl refl refl) in omega arith;
}

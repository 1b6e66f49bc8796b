-- A proposal that is better than a plan may replace it.
use Rattle.std.proofs.Common.{◌≡◌, ◌∙◌, ap, arith, subst, sym, List, [], ◌∷◌, length}
use Rattle.std.specs.Prelude.{ℤ}
use Rattle.std.proofs.lemmas.Int.{ints}
use Rattle.nano_spec.specs.declared.commands.Command.{Command}
use Rattle.nano_spec.specs.declared.commands.Command.TheVariants.{Halt}
use Rattle.nano_spec.specs.declared.system.Profile.{Profile}
use Rattle.nano_spec.specs.Matrix.{Matrix}
use Rattle.plan_tape.specs.declared.tape.Plan.{Plan}
use Rattle.plan_tape.specs.Progress.{IsAccepted}
use Rattle.plan_tape.proofs.Fissions.{few_at_most}
use Rattle.plan_choice.specs.declared.bounds.Bounds.{Bounds}
use Rattle.plan_choice.specs.declared.choice.Price.{Price}
use Rattle.plan_choice.specs.Better.{IsBetter, MayStandFor}

-- a plan may replace itself
pub stays : (source target : Matrix) (profile : Profile) (most : Bounds) (plan : Plan)
    → IsAccepted source target plan.commands profile plan.energy plan.steps
    → MayStandFor source target profile most plan plan
stays source target profile most plan accepted = record {
  accepted = accepted;
  energy = omega (arith, ints);
  steps = λ h. h;
  commands = λ h. h;
  bytes = λ h. h;
  bots = λ h. h;
}

-- the proposal of this cost, if it was found better
pub taken : (source target : Matrix) (profile : Profile) (most : Bounds) (plan : Plan) (proposal : List Command)
    (cost : Price) (energy : ℤ) → energy ≡ cost.energy
    → IsAccepted source target proposal profile cost.energy cost.steps
    → IsBetter plan.energy most proposal cost.energy cost.steps
    → MayStandFor source target profile most plan (record { commands = proposal; energy = energy; steps = cost.steps })
taken source target profile most plan proposal cost energy same accepted within = record {
  accepted = subst (λ (z : ℤ). IsAccepted source target proposal profile z cost.steps) (sym same) accepted;
  energy = let less = within.cheaper in omega (arith, ints, same, less);
  steps = λ _. within.steps_are;
  commands = λ _. within.commands_are;
  bytes = λ _. within.bytes_are;
  bots = λ _. few_at_most source profile proposal most.bots (let few = within.fissions_are in omega (arith, few));
}

-- the relation is transitive
pub in_turn : (source target : Matrix) (profile : Profile) (most : Bounds) (plan first it : Plan)
    → MayStandFor source target profile most plan first → MayStandFor source target profile most first it
    → MayStandFor source target profile most plan it
in_turn source target profile most plan first it a b = record {
  accepted = b.accepted;
  energy = let its_energy = a.energy in let energy_here = b.energy in omega (arith, ints, its_energy, energy_here);
  steps = λ h. b.steps (a.steps h);
  commands = λ h. b.commands (a.commands h);
  bytes = λ h. b.bytes (a.bytes h);
  bots = λ h. b.bots (a.bots h);
}

-- a Halt alone that stays is one
pub alone_stays : (first it : List Command) → first ≡ Halt ∷ [] → (length first ≡ 1 → it ≡ first) → it ≡ Halt ∷ []
alone_stays first it e h = h (ap length e) ∙ e

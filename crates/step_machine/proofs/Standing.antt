-- A new machine in the state of another.
use Rattle.std.proofs.Common.{◌≡◌, ℕ, ◌≤◌, sym, subst, List}
use Rattle.std.specs.Prelude.{ℤ}
use Rattle.nano_spec.specs.declared.system.Bot.{Bot}
use Rattle.nano_spec.specs.declared.system.Harmonics.{Harmonics}
use Rattle.nano_spec.specs.declared.system.Profile.{Profile}
use Rattle.nano_spec.specs.Matrix.{Matrix}
use Rattle.nano_spec.specs.State.{IsReady, IsWellFormed, State}
use Rattle.step_machine.specs.Situation.{IsEnergyBounded}
use Rattle.step_machine.specs.Undoing.{IsMachineState, state_with}

pub may_stand : (s : State) (steps : ℕ) (matrix : Matrix) (bots : List Bot) (harmonics : Harmonics) (energy : ℤ)
    (profile : Profile) (n : ℕ) → matrix ≡ s.matrix → bots ≡ s.bots → harmonics ≡ s.harmonics → energy ≡ s.energy
    → profile ≡ s.profile → n ≡ steps → IsWellFormed s → IsReady s → s.profile.seeds ≤ 39 → n ≤ 1073741824
    → IsEnergyBounded s.energy steps → IsMachineState (state_with matrix bots harmonics energy profile) n
may_stand s steps matrix bots harmonics energy profile n m b h e p c formed ready seeds few paid =
    let same : s ≡ state_with matrix bots harmonics energy profile = λ i. record { matrix = sym m i; harmonics = sym h i; bots = sym b i; energy = sym e i; profile = sym p i } in
    subst (λ (t : State). IsMachineState t n) same (record { well_formed = formed; within = ready.within; seeds = seeds; few = few; paid = subst (λ (k : ℕ). IsEnergyBounded s.energy k) (sym c) paid })

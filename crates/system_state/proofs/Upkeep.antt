-- A bound on the upkeep of a step.
use Rattle.std.proofs.Common.{◌≡◌, ℕ, ◌+◌, ◌*◌, ◌≤◌, arith, Bool, true, false, cond}
use Rattle.std.specs.Prelude.{ℤ, ◌+ℤ◌}
use Rattle.std.proofs.lemmas.Int.{ints}
use Rattle.std.proofs.Math.Nat.{mul-le-mul}
use Rattle.nano_spec.specs.declared.system.Harmonics.{Harmonics}
use Rattle.nano_spec.specs.State.{is_high}
use Rattle.energy_sum.specs.Costs.{space_upkeep}
use Rattle.system_state.specs.Bounds.{IsWithin}

at_most : (high : Bool) (v : ℕ) → v ≤ 64000000 → cond high 30 3 * v ≤ 1920000000
at_most true v h = omega arith
at_most false v h = omega arith

pub space_upkeep_most : (r : ℕ) (h : Harmonics) (space : ℕ) → r ≤ 400 → space ≡ space_upkeep r h → space ≤ 1920000000
space_upkeep_most r h space k e = let choice_to_1920000000 : cond (is_high h) 30 3 * (r * r * r) ≤ 1920000000 = at_most (is_high h) (r * r * r) (mul-le-mul (mul-le-mul k k) k) in omega (arith, choice_to_1920000000, e)

-- bounds on costs add up
pub within_more : (k n : ℕ) (e z : ℤ) → IsWithin k e → IsWithin n z → IsWithin (k + n) (e +ℤ z)
within_more k n e z h m = record { above = omega (arith, ints, h.above, m.above); below = omega (arith, ints, h.below, m.below) }

-- Bounds on the energy and the cost of a step.
use Rattle.std.specs.Prelude.{ℕ, ◌+◌, ℤ, pos, ◌+ℤ◌, ◌≤ℤ◌}

-- the number is at most k in absolute value
pub record IsWithin (k : ℕ) (z : ℤ) : Type 0 where
  pub above : z ≤ℤ pos k
  pub below : pos 0 ≤ℤ (z +ℤ pos k)

-- a step can be paid: the energy is at most 2 to the power of 62 in absolute value
abbrev pub IsPayable : ℤ → Type 0
IsPayable energy = IsWithin 4611686018427387904 energy

-- a turn can be paid
abbrev pub IsTurnPayable : ℤ → Type 0
IsTurnPayable energy = IsWithin 9000000000000000000 energy

-- the cost of a turn, in absolute value: at most 12 for each voxel of the greatest region
abbrev pub IsTurnCost : ℤ → Type 0
IsTurnCost cost = IsWithin 357492 cost

-- the second energy differs from the first by at most the cost of a turn
abbrev pub IsAfterTurn : ℤ → ℤ → Type 0
IsAfterTurn old new = (k : ℕ) → IsWithin k old → IsWithin (k + 357492) new

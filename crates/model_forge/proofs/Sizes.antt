-- The mixed number and the height of a column fit.
use Rattle.std.proofs.Common.{◌*◌, ◌≤◌, ℕ, arith}
use Rattle.std.proofs.Math.Nat.{mul-le-mul}

pub product_most : (x z k : ℕ) → x ≤ k → z ≤ k → 5 * x * x * z ≤ 5 * k * k * k
product_most x z k h l = let five : 5 ≤ 5 = omega arith in mul-le-mul (mul-le-mul (mul-le-mul five h) h) l

use Rattle.std.proofs.Common.{◌+◌, get_or}
use Rattle.std.specs.Prelude.{nat_lt}
use Rattle.model_forge.proofs.Bits.{IsWord}
use Rattle.model_forge.proofs.rows.column_bits.Given as goal

abbrev pub invariant-loop-k : goal.invariant-loop-k
invariant-loop-k l = IsWord l.bits l.k (λ j. nat_lt l.y (get_or l.heights (l.first + j) 0))

use Rattle.std.proofs.Common.{◌≡◌, ◌+◌, ◌<◌, ℕ, length, get_or}
use Rattle.nano_spec.specs.Forge.{column_height}
use Rattle.model_forge.proofs.columns.measure.Given as goal

abbrev pub invariant-loop-z : goal.invariant-loop-z
invariant-loop-z l = record {
  at : (k : ℕ) → k + 1 < l.z → get_or l.heights.items k 0 ≡ column_height l.number l.r l.x (k + 1);
  count : length l.heights.items + 2 ≡ l.r;
}

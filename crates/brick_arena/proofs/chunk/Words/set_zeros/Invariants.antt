use Rattle.std.proofs.Common.{◌≡◌, ◌+◌, ◌*◌, Some, None}
use Rattle.brick_arena.specs.Chunks.{SetsRange}
use Rattle.brick_arena.proofs.chunk.Words.set_zeros.Given as goal

abbrev pub invariant-loop-row : goal.invariant-loop-row
invariant-loop-row l = record {
  range : SetsRange (Some 0) None l.initial.self.words l.self.words l.start (l.start + 8 * l.row);
  at : l.self.at ≡ l.initial.self.at;
}

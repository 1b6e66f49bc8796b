use Rattle.std.proofs.Common.{◌≡◌, ◌+◌, ◌++◌, ℕ, List, length}
use Rattle.trace_codec.specs.Decoder.{HasTaken}
use Rattle.file_tests.proofs.codec.take_piece.Given as goal

abbrev pub invariant-loop-command : goal.invariant-loop-command
invariant-loop-command l =
    ((bytes : List ℕ) → HasTaken bytes l.fn.commands l.fn.decoder → (front : List ℕ) × (front ++ l.rest ≡ l.piece) × HasTaken (bytes ++ front) l.commands l.decoder)
    × (l.decoder.offset + length l.decoder.held + length l.rest ≡ l.fn.decoder.offset + length l.fn.decoder.held + length l.fn.piece)

abbrev pub decreases-loop-command : goal.decreases-loop-command
decreases-loop-command l = length l.rest

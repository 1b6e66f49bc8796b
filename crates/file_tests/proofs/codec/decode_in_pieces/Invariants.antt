use Rattle.std.proofs.Common.{◌≡◌, ◌+◌, ◌-◌, ◌≤◌, length, take}
use Rattle.trace_codec.specs.Decoder.{HasTaken}
use Rattle.file_tests.proofs.codec.decode_in_pieces.Given as goal

abbrev pub invariant-loop-start : goal.invariant-loop-start
invariant-loop-start l =
    (l.start ≤ length l.trace)
    × HasTaken (take l.start l.trace) l.commands l.decoder
    × (l.decoder.offset + length l.decoder.held ≡ l.start)

abbrev pub decreases-loop-start : goal.decreases-loop-start
decreases-loop-start l = length l.trace - l.start

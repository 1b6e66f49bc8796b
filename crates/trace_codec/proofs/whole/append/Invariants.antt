use Rattle.std.proofs.Common.{◌≡◌, ◌++◌, take}
use Rattle.trace_codec.proofs.whole.append.Given as goal

abbrev pub invariant-loop-byte : goal.invariant-loop-byte
invariant-loop-byte l = l.bytes.items ≡ l.initial.bytes.items ++ take l.byte-index l.spelling

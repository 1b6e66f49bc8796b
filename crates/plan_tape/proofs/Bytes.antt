-- The number of bytes of a tape.
use Rattle.std.proofs.Common.{◌≡◌, List, length, ap}
use Rattle.nano_spec.specs.declared.commands.Command.{Command}
use Rattle.nano_spec.specs.declared.system.Profile.{Profile}
use Rattle.nano_spec.specs.Matrix.{Matrix}
use Rattle.nano_spec.specs.Spelling.{spellings}
use Rattle.plan_tape.specs.Progress.{TapeState, bytes, starting}

-- none before the first command
pub bytes-starting : (t : TapeState) (source : Matrix) (profile : Profile) → t ≡ starting source profile → bytes t ≡ 0
unfolding bytes
bytes-starting t source profile e = ap bytes e

-- the length of the spellings of a plan
pub bytes_of : (t : TapeState) (commands : List Command) → commands ≡ t.commands → length (spellings commands) ≡ bytes t
unfolding bytes
bytes_of t commands e = ap (λ c. length (spellings c)) e

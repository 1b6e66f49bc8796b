use Rattle.trace_codec.proofs.Feeding.{pieces_taken}
use Rattle.trace_codec.proofs.TakenBytes.{taken_nothing, taken_bad, taken_ended}
use Rattle.trace_codec.proofs.laws.pieces_decode.Goals as goal

pub returns-clause-start : goal.returns-clause-start
returns-clause-start c = taken_nothing

pub returns-clause-pieces : goal.returns-clause-pieces
returns-clause-pieces c = pieces_taken

pub returns-clause-bad : goal.returns-clause-bad
returns-clause-bad c = taken_bad

pub returns-clause-cut : goal.returns-clause-cut
returns-clause-cut c = taken_ended

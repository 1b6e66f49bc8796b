use Rattle.trace_codec.proofs.WholeTraces.{decoded_again}
use Rattle.trace_codec.proofs.laws.encoding_and_decoding.Goals as goal

pub returns-clause-decoded : goal.returns-clause-decoded
returns-clause-decoded c = decoded_again

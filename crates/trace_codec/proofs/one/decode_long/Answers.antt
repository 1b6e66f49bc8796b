use Rattle.trace_codec.proofs.Fronts.{begins_long}
use Rattle.trace_codec.proofs.one.decode_long.Goals as goal

pub returns-in-empty : goal.returns-in-empty
returns-in-empty c = begins_long c.args.axis c.args.rest.now c.requires.low c.requires.high c.in-empty.len_below

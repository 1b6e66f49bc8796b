use Rattle.trace_codec.proofs.Fronts.{begins_short, refused_first, refused_second}
use Rattle.trace_codec.proofs.one.decode_short.Goals as goal

pub returns-in_default : goal.returns-in_default
returns-in_default c = begins_short c.args.first c.args.second c.args.rest.now c.requires.first_low c.requires.first_high c.requires.second_low c.requires.second_high c.in_default.len_below

pub returns-in_default-short_at : goal.returns-in_default-short_at
returns-in_default-short_at c = refused_first c.args.first c.args.second c.args.rest.now c.requires.first_high c.requires.second_high c.in-len1-up.len_at_least c.in_default-short_at.ensures

pub returns-in_default-short_at-2 : goal.returns-in_default-short_at-2
returns-in_default-short_at-2 c = refused_second c.args.first c.args.second c.args.rest.now c.requires.first_high c.requires.second_high c.in-len1-up.len_at_least c.in_default-short_at-2.ensures

use Rattle.std.proofs.Common.{ℕ, List, subst, sym}
use Rattle.std.proofs.lemmas.Slice.{first_rest}
use Rattle.trace_codec.specs.One.{BeginsWith}
use Rattle.trace_codec.specs.declared.one.One.TheVariants.{More}
use Rattle.trace_codec.proofs.Unique.{begins_below, Says-unique}
use Rattle.trace_codec.proofs.one.decode_one.Goals as goal

pub returns-in-empty-clause-answer : goal.returns-in-empty-clause-answer
returns-in-empty-clause-answer c = begins_below c.args.bytes.now c.in-empty.len_below

pub returns-in-empty-clause-only : goal.returns-in-empty-clause-only
returns-in-empty-clause-only c = λ other says. Says-unique c.args.bytes.now other More says (begins_below c.args.bytes.now c.in-empty.len_below)

pub returns-in-len1-up-clause-only : goal.returns-in-len1-up-clause-only
returns-in-len1-up-clause-only c = λ other says. Says-unique c.args.bytes.now other c.decode_from.result says (subst (λ (b : List ℕ). BeginsWith b c.decode_from.result) (sym (first_rest c.args.bytes.now 0 c.in-len1-up.len_at_least)) c.decode_from.ensures)

use Rattle.std.specs.Prelude.{Ok, Err}
use Rattle.trace_codec.specs.declared.fault.TraceFault.TheVariants.{Refused}
use Rattle.trace_codec.specs.declared.fault.TraceRefusal.TheVariants.{Bad, Cut}
use Rattle.trace_codec.proofs.WholeTraces.{cut_more, ends_in_command, is_answer, is_refused, is_whole}
use Rattle.trace_codec.proofs.whole.decode_all.Goals as goal

pub loop-start-preserved : goal.loop-start-preserved
loop-start-preserved c =
    let more = cut_more c.args.bytes.now c.loop-start.commands c.loop-start.start c.in-Got.command c.in-Got.len c.loop-start.invariant c.in-Got.ensures.answer in
    rw (c.in_ok-push-in-Got.ensures.ok, c.from-start.ensures) more

pub returns-in-More-clause-answer : goal.returns-in-More-clause-answer
returns-in-More-clause-answer c = ends_in_command c.args.bytes.now c.loop-start.commands c.loop-start.start c.loop-start.invariant c.loop-start-test.true c.in-More.ensures.answer

pub returns-in-More-clause-only : goal.returns-in-More-clause-only
returns-in-More-clause-only c = λ other decoding. is_answer c.args.bytes.now (Err (Refused (Cut c.loop-start.start))) other (ends_in_command c.args.bytes.now c.loop-start.commands c.loop-start.start c.loop-start.invariant c.loop-start-test.true c.in-More.ensures.answer) decoding

pub returns-in-Bad-clause-answer : goal.returns-in-Bad-clause-answer
returns-in-Bad-clause-answer c = is_refused c.args.bytes.now c.loop-start.commands c.loop-start.start c.loop-start.invariant c.in-Bad.ensures.answer

pub returns-in-Bad-clause-only : goal.returns-in-Bad-clause-only
returns-in-Bad-clause-only c = λ other decoding. is_answer c.args.bytes.now (Err (Refused (Bad c.loop-start.start))) other (is_refused c.args.bytes.now c.loop-start.commands c.loop-start.start c.loop-start.invariant c.in-Bad.ensures.answer) decoding

pub returns-clause-only : goal.returns-clause-only
returns-clause-only c = λ other decoding. is_answer c.args.bytes.now (Ok c.loop-start.commands) other (is_whole c.args.bytes.now c.loop-start.commands c.loop-start.start c.loop-start.invariant c.loop-start-test.false) decoding

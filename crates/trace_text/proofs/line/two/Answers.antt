use Rattle.std.proofs.Common.{rules}
use Rattle.trace_text.proofs.Differences.{no_second_there, two_there}
use Rattle.trace_text.proofs.line.two.Goals as goal

pub returns-in_err-second : goal.returns-in_err-second
returns-in_err-second c = let no = no_second_there c.args.rest.now.bytes.now c.difference.new.self.bytes.now c.in-Some.first _ c.in-Some.ensures c.in_err-second.ensures in search rules

pub returns : goal.returns
returns c = two_there c.args.rest.now.bytes.now c.difference.new.self.bytes.now c.in-Some.first c.in_ok-second.second c.in-Some.ensures c.in_ok-second.ensures

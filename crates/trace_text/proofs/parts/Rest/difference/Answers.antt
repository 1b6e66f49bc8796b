use Rattle.std.proofs.Common.{rules}
use Rattle.trace_text.proofs.Differences.{all_there, no_first, no_open, no_second, no_third}
use Rattle.trace_text.proofs.parts.Rest.difference.Goals as goal

pub returns-then-not-mark : goal.returns-then-not-mark
returns-then-not-mark c = no_open c.args.self.now.bytes.now c.skip_blanks.new.self.bytes.now c.mark.new.self.bytes.now c.skip_blanks.ensures.readings c.if-not-mark.ensures.readings

pub returns-in_err-dx : goal.returns-in_err-dx
returns-in_err-dx c = let no = no_first c.args.self.now.bytes.now c.skip_blanks.new.self.bytes.now c.mark.new.self.bytes.now c.number_and.new.self.bytes.now c.skip_blanks.ensures.readings c.if-not-mark.ensures.readings c.in_err-dx.ensures in rw c.from_residual.ensures no

pub returns-in_err-dy : goal.returns-in_err-dy
returns-in_err-dy c = let no = no_second c.args.self.now.bytes.now c.skip_blanks.new.self.bytes.now c.mark.new.self.bytes.now c.number_and.new.self.bytes.now c.number_and-2.new.self.bytes.now c.in_ok-dx.dx c.skip_blanks.ensures.readings c.if-not-mark.ensures.readings c.in_ok-dx.ensures c.in_err-dy.ensures in rw c.from_residual-in_err-dy.ensures no

pub returns-in_err-dz : goal.returns-in_err-dz
returns-in_err-dz c = let no = no_third c.args.self.now.bytes.now c.skip_blanks.new.self.bytes.now c.mark.new.self.bytes.now c.number_and.new.self.bytes.now c.number_and-2.new.self.bytes.now c.number_and-3.new.self.bytes.now c.in_ok-dx.dx c.in_ok-dy.dy c.skip_blanks.ensures.readings c.if-not-mark.ensures.readings c.in_ok-dx.ensures c.in_ok-dy.ensures c.in_err-dz.ensures in rw c.from_residual-in_err-dz.ensures no

pub returns : goal.returns
returns c = all_there c.args.self.now.bytes.now c.skip_blanks.new.self.bytes.now c.mark.new.self.bytes.now c.number_and.new.self.bytes.now c.number_and-2.new.self.bytes.now c.number_and-3.new.self.bytes.now c.in_ok-dx.dx c.in_ok-dy.dy c.in_ok-dz.dz _ _ _ (search rules) (search rules) (search rules) c.skip_blanks.ensures.readings c.if-not-mark.ensures.readings c.in_ok-dx.ensures c.in_ok-dy.ensures c.in_ok-dz.ensures

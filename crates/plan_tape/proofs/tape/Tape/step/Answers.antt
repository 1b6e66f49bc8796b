use Rattle.std.proofs.Common.{◌≡◌, ◌+◌, ◌<◌, sym, subst}
use Rattle.std.specs.Prelude.{None}
use Rattle.nano_spec.specs.Rules.{broken}
use Rattle.plan_tape.specs.contracts.tape.Tape.{the_view}
use Rattle.plan_tape.specs.Progress.{TapeState, progress_of, state_of}
use Rattle.plan_tape.proofs.AfterSteps.{Takes, bytes_stepped, payable, step_takes}
use Rattle.plan_tape.proofs.tape.Tape.step.Goals as goal

pub advance-requires-clause-payable : goal.advance-requires-clause-payable
advance-requires-clause-payable c =
    let invariant = c.self.invariant in
    payable c.self.inside.system.energy c.self.inside.steps invariant.bounded (subst (λ (p : TapeState). p.steps < 1073741824) (sym c.self.view_is) c.requires.limit)

pub advance-requires-clause-judged : goal.advance-requires-clause-judged
advance-requires-clause-judged c = (c.self.inside.steps + 1, subst (λ (p : TapeState). broken (state_of p) c.args.commands.now (p.steps + 1) ≡ None) (sym c.self.view_is) c.requires.unbroken)

takes : (c : goal.After-self-1) → Takes c.args.self.now
    (progress_of c.self.inside.source c.write_all.new.commands.items c.advance.new.system (c.self.inside.steps + 1))
    c.args.commands.now
takes c = step_takes (the_view c.self.inside) c.args.self.now c.self.view_is c.self.invariant c.args.commands.now c.write_all.new.commands.items c.advance.new.system c.requires.some c.requires.commands c.requires.unbroken c.requires.held c.requires.limit c.in_ok-write_all.ensures.ok
    (record { value = c.advance.ensures.value; whole = c.advance.ensures.whole; within = c.advance.ensures.within; rises = c.advance.ensures.rises; falls = c.advance.ensures.falls })

pub invariant_of-self-2 : goal.invariant_of-self-2
invariant_of-self-2 c = (takes c).reached

pub returns-clause-ok : goal.returns-clause-ok
returns-clause-ok c = (takes c).value

pub returns-clause-bytes : goal.returns-clause-bytes
returns-clause-bytes c = bytes_stepped c.args.self.now _ c.args.commands.now (takes c).value

use Rattle.std.proofs.Common.{arith, rules}
use Rattle.plan_choice.proofs.Scanned.{plain_all, plain_more}
use Rattle.plan_choice.proofs.plain.are_plain.Goals as goal

pub returns : goal.returns
returns c = λ _. plain_all c.args.commands.now c.loop-command.command-index (let end = c.loop-command-test.false in omega (arith, end)) c.loop-command.invariant

pub loop-command-preserved : goal.loop-command-preserved
loop-command-preserved c = plain_more c.args.commands.now c.loop-command.command-index c.command-item.result (search rules) (search rules) (c.is_plain.ensures (search rules)) c.loop-command.invariant

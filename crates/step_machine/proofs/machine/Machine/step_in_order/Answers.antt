use Rattle.step_machine.proofs.Ordered.{made_in_order}
use Rattle.step_machine.proofs.machine.Machine.step_in_order.Goals as goal

pub returns-clause-serial : goal.returns-clause-serial
returns-clause-serial g c =
    made_in_order c.every_order.ensures c.args.self.now.state c.make_step.new.self.state c.args.commands.now _ c.args.order.now c.recall.ensures.ready c.requires.order c.make_step.result c.make_step.ensures.stepped.goes

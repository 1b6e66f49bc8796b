use Rattle.step_debugger.proofs.Grouping.{middle_is}
use Rattle.step_debugger.proofs.debugger.Debugger.middle_crew.Goals as goal

pub returns : goal.returns
returns c =
    middle_is c.self.inside.machine c.self.inside.history c.self.inside.commands c.self.inside.taken c.self.inside.begun.items c.self.inside.left.items c.self.inside.middle c.args.self.now c.self.view_is c.self.invariant c.requires
    c.some_groups.ensures.state c.recall.ensures.ready

use Rattle.std.proofs.Common.{ap, arith, length, length-append}
use Rattle.step_debugger.specs.Debugging.{Debugging}
use Rattle.step_debugger.proofs.Grouping.{differ_seen}
use Rattle.step_debugger.proofs.Trying.{begun_some, order_fits}
use Rattle.step_debugger.proofs.debugger.Debugger.leaders_left.Goals as goal

pub returns-then-is_empty-clause-differ : goal.returns-then-is_empty-clause-differ
returns-then-is_empty-clause-differ c = differ_seen c.self.inside.machine.state c.args.self.now (ap (λ (d : Debugging). d.session.point.state) c.self.view_is) c.recall.ensures.ready c.requires.all

pub returns-clause-differ : goal.returns-clause-differ
returns-clause-differ c = differ_seen c.self.inside.machine.state c.args.self.now (ap (λ (d : Debugging). d.session.point.state) c.self.view_is) c.recall.ensures.ready c.requires.all

pub returns-clause-few : goal.returns-clause-few
returns-clause-few c =
    let fits = order_fits c.self.inside.machine c.self.inside.history c.self.inside.commands c.self.inside.taken c.self.inside.begun.items c.self.inside.left.items c.self.inside.middle c.args.self.now c.self.view_is c.self.invariant c.requires.stands
    (begun_some c.self.inside.begun.items c.is_empty.result c.is_empty.ensures c.if-is_empty.false) (let most = c.recall.ensures.crew.most in omega (arith, most)) in
    let begun = ap (λ (d : Debugging). length d.session.begun) c.self.view_is in
    let items = ap length c.append.ensures in
    let none = ap length c.new-left.ensures in
    let parts = length-append c.new-left.result.items c.as_slice-2.result.now in
    let left = ap length c.as_slice-2.ensures.value in
    omega (arith, fits, begun, items, none, parts, left)

use Rattle.std.proofs.Common.{ap, arith, length, length-append}
use Rattle.step_debugger.proofs.Trying.{begun_some, order_fits}
use Rattle.step_debugger.proofs.debugger.Debugger.order.Goals as goal

pub append-requires-2 : goal.append-requires-2
append-requires-2 c =
    let fits = order_fits c.self.inside.machine c.self.inside.history c.self.inside.commands c.self.inside.taken c.self.inside.begun.items c.self.inside.left.items c.self.inside.middle c.args.self.now c.self.view_is c.self.invariant c.requires.stands
    (begun_some c.self.inside.begun.items c.is_empty.result c.is_empty.ensures c.if-is_empty.false) (let most = c.recall.ensures.crew.most in omega (arith, most)) in
    let begun = ap length c.append.ensures in
    let none = ap length c.new-order.ensures in
    let parts = length-append c.new-order.result.items c.as_slice-2.result.now in
    let first = ap length c.as_slice-2.ensures.value in
    let left = ap length c.as_slice-3.ensures.value in
    omega (arith, fits, begun, none, parts, first, left)

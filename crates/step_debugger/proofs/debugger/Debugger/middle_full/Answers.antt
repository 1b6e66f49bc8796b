use Rattle.std.proofs.Common.{◌∙◌, take, drop}
use Rattle.nano_spec.specs.Matrix.{is_full}
use Rattle.step_debugger.specs.Middle.{matrix_after_some}
use Rattle.step_debugger.proofs.Between.{full_between}
use Rattle.step_debugger.proofs.Trying.{begun_some}
use Rattle.step_debugger.proofs.debugger.Debugger.middle_full.Goals as goal

pub returns-clause-value : goal.returns-clause-value
returns-clause-value g c =
    let next = c.next_commands-next.ensures ∙ ((λ i. take (c.active-count.ensures i) (drop c.self.inside.taken (c.as_slice.ensures i)))) in
    full_between c.self.inside.machine c.self.inside.history c.self.inside.commands c.self.inside.taken c.self.inside.begun.items c.self.inside.left.items c.self.inside.middle c.args.self.now c.self.view_is c.self.invariant c.requires.stands
    c.args.c c.some_groups.ensures.state c.recall.ensures.ready (begun_some c.self.inside.begun.items c.is_empty.result c.is_empty.ensures c.if-is_empty.false) c.full_after.result
    (c.full_after.ensures.value ∙ (λ i. is_full (matrix_after_some c.self.inside.machine.state (next i) (c.as_slice-2.ensures.value i)) c.args.c))

use Rattle.std.proofs.Common.{sym, ◌∙◌}
use Rattle.step_debugger.proofs.Returning.{fewer_taken, kept_back, may_go_back, none_begun, session_back, touches_back}
use Rattle.step_debugger.proofs.TouchedBack.{untouched}
use Rattle.step_debugger.proofs.debugger.Debugger.back.Goals as goal

pub returns-then-not-is_empty-clause-touches : goal.returns-then-not-is_empty-clause-touches
returns-then-not-is_empty-clause-touches g c = untouched _ _ _

pub take_back-requires-clause-may : goal.take_back-requires-clause-may
take_back-requires-clause-may g c =
    may_go_back c.self.inside.machine c.self.inside.history c.self.inside.commands c.self.inside.taken c.self.inside.begun.items c.self.inside.left.items c.self.inside.middle c.args.self.now c.self.view_is c.self.invariant c.requires (none_begun c.self.inside.begun.items c.is_empty.result c.is_empty.ensures c.if-not-is_empty.false) c.in-Some.undo (sym c.pop_back.ensures.value ∙ c.in-Some.is)

pub overflow_sub-self : goal.overflow_sub-self
overflow_sub-self g c =
    fewer_taken c.self.inside.machine c.self.inside.history c.self.inside.commands c.self.inside.taken c.self.inside.begun.items c.self.inside.left.items c.self.inside.middle c.args.self.now c.self.view_is c.self.invariant c.requires (none_begun c.self.inside.begun.items c.is_empty.result c.is_empty.ensures c.if-not-is_empty.false) c.in-Some.undo (sym c.pop_back.ensures.value ∙ c.in-Some.is)
    c.from.result (c.from.ensures ∙ c.in-Ok.ensures.count)

pub invariant_of-self-2 : goal.invariant_of-self-2
invariant_of-self-2 g c =
    kept_back c.self.inside.machine c.self.inside.history c.self.inside.commands c.self.inside.taken c.self.inside.begun.items c.self.inside.left.items c.self.inside.middle c.args.self.now c.self.view_is c.self.invariant c.requires (none_begun c.self.inside.begun.items c.is_empty.result c.is_empty.ensures c.if-not-is_empty.false) c.in-Some.undo (sym c.pop_back.ensures.value ∙ c.in-Some.is)
    c.take_back.new.machine c.from.result c.in-Ok.ensures.value (c.from.ensures ∙ c.in-Ok.ensures.count) c.pop_back.new.self c.pop_back.ensures.items c.copy-self-inside-2.result (c.copy-self-inside-2.ensures ∙ c.crew-2.ensures.value)

pub returns-clause-session : goal.returns-clause-session
returns-clause-session g c =
    session_back c.self.inside.machine c.self.inside.history c.self.inside.commands c.self.inside.taken c.self.inside.begun.items c.self.inside.left.items c.self.inside.middle c.args.self.now c.self.view_is c.self.invariant c.requires (none_begun c.self.inside.begun.items c.is_empty.result c.is_empty.ensures c.if-not-is_empty.false) c.in-Some.undo (sym c.pop_back.ensures.value ∙ c.in-Some.is)
    c.take_back.new.machine c.from.result c.in-Ok.ensures.value (c.from.ensures ∙ c.in-Ok.ensures.count) c.pop_back.new.self c.pop_back.ensures.items

pub returns-clause-touches : goal.returns-clause-touches
returns-clause-touches g c =
    touches_back c.self.inside.machine c.self.inside.history c.self.inside.commands c.self.inside.taken c.self.inside.begun.items c.self.inside.left.items c.self.inside.middle c.args.self.now c.self.view_is c.self.invariant c.requires (none_begun c.self.inside.begun.items c.is_empty.result c.is_empty.ensures c.if-not-is_empty.false) c.in-Some.undo (sym c.pop_back.ensures.value ∙ c.in-Some.is)
    c.take_back.new.machine c.from.result c.in-Ok.ensures.value (c.from.ensures ∙ c.in-Ok.ensures.count) c.pop_back.new.self c.pop_back.ensures.items c.args.steps.now c.take_back.new.steps c.in-Ok.ensures.touches

use Rattle.std.proofs.Common.{sym, subst}
use Rattle.std.proofs.lemmas.Result.{on_ok_weaker}
use Rattle.nano_spec.specs.Matrix.{Matrix}
use Rattle.plan_tape.specs.Crowd.{CalmStep, bots_fused}
use Rattle.plan_tape.specs.Progress.{IsHeld, state_of}
use Rattle.plan_tape.proofs.Crowds.{step_as}
use Rattle.plan_tape.proofs.Works.{fusions_flip_not, fusions_leave, fusions_merge}
use Rattle.plan_tape.proofs.tape.Tape.fuse_all.Goals as goal

pub act_all-requires-clause-calm : goal.act_all-requires-clause-calm
act_all-requires-clause-calm c =
    let self = c.args.self.now in
    record { free = c.requires.free; calm = fusions_flip_not self.bots c.args.fusions.now c.requires.fuses }

pub act_all-requires-clause-held : goal.act_all-requires-clause-held
act_all-requires-clause-held c =
    let self = c.args.self.now in
    let fusions = c.args.fusions.now in
    subst (λ (m : Matrix). IsHeld self.harmonics m) (sym (c.bots_act.ensures.still (state_of self) fusions c.recall_ready.ensures.ready (fusions_leave self.bots fusions c.requires.fuses))) c.recall_ready.ensures.held

pub returns-clause-ok : goal.returns-clause-ok
returns-clause-ok c =
    let self = c.args.self.now in
    let fusions = c.args.fusions.now in
    on_ok_weaker c.act_all.result
    (λ (s : CalmStep self c.act_all.new.self fusions). step_as self c.act_all.new.self fusions _ (self.matrix) self.harmonics _ (bots_fused self.bots fusions) (c.bots_act.ensures.still (state_of self) fusions c.recall_ready.ensures.ready (fusions_leave self.bots fusions c.requires.fuses)) (fusions_merge self fusions c.recall_ready.ensures.ready c.requires.commands c.requires.fuses) s)
    c.act_all.ensures.ok

pub returns-clause-primary : goal.returns-clause-primary
returns-clause-primary c = λ first second h k t.
    let self = c.args.self.now in
    c.bots_act.ensures.primary (state_of self) c.args.fusions.now first second c.recall_ready.ensures.ready c.requires.commands h k t

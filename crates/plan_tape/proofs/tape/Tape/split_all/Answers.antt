use Rattle.std.proofs.Common.{sym, subst}
use Rattle.std.proofs.lemmas.Result.{on_ok_weaker}
use Rattle.nano_spec.specs.Matrix.{Matrix}
use Rattle.plan_tape.specs.Crowd.{CalmStep, bots_split}
use Rattle.plan_tape.specs.Progress.{IsHeld, state_of}
use Rattle.plan_tape.proofs.Crowds.{step_as}
use Rattle.plan_tape.proofs.Works.{splits_flip_not, splits_leave, splits_part}
use Rattle.plan_tape.proofs.tape.Tape.split_all.Goals as goal

pub act_all-requires-clause-calm : goal.act_all-requires-clause-calm
act_all-requires-clause-calm c =
    let self = c.args.self.now in
    record { free = c.requires.free; calm = splits_flip_not self.bots c.args.splits.now c.requires.splits }

pub act_all-requires-clause-held : goal.act_all-requires-clause-held
act_all-requires-clause-held c =
    let self = c.args.self.now in
    let splits = c.args.splits.now in
    subst (λ (m : Matrix). IsHeld self.harmonics m) (sym (c.bots_act.ensures.still (state_of self) splits c.recall_ready.ensures.ready (splits_leave self.bots splits c.requires.splits))) c.recall_ready.ensures.held

pub returns-clause-ok : goal.returns-clause-ok
returns-clause-ok c =
    let self = c.args.self.now in
    let splits = c.args.splits.now in
    on_ok_weaker c.act_all.result
    (λ (s : CalmStep self c.act_all.new.self splits). step_as self c.act_all.new.self splits _ (self.matrix) self.harmonics _ (bots_split self.bots splits) (c.bots_act.ensures.still (state_of self) splits c.recall_ready.ensures.ready (splits_leave self.bots splits c.requires.splits)) (splits_part self.bots splits c.requires.splits) s)
    c.act_all.ensures.ok

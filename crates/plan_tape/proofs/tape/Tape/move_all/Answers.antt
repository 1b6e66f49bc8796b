use Rattle.std.proofs.Common.{sym, subst}
use Rattle.std.proofs.lemmas.Result.{on_ok_weaker}
use Rattle.nano_spec.specs.Act.{acts}
use Rattle.nano_spec.specs.Matrix.{Matrix}
use Rattle.plan_tape.specs.Crowd.{CalmStep, bots_gone}
use Rattle.plan_tape.specs.Progress.{IsHeld, state_of}
use Rattle.plan_tape.proofs.Crowds.{flip_by, free_by, leave_by, stay_by, step_as}
use Rattle.plan_tape.proofs.tape.Tape.move_all.Goals as goal

pub act_all-requires-clause-calm : goal.act_all-requires-clause-calm
act_all-requires-clause-calm c =
    let self = c.args.self.now in
    record { free = free_by self (acts self.bots c.args.commands.now) c.requires.moves.each c.requires.moves.apart; calm = flip_by self (acts self.bots c.args.commands.now) c.requires.moves.each }

pub act_all-requires-clause-held : goal.act_all-requires-clause-held
act_all-requires-clause-held c =
    let self = c.args.self.now in
    let commands = c.args.commands.now in
    subst (λ (m : Matrix). IsHeld self.harmonics m) (sym (c.bots_act.ensures.still (state_of self) commands c.recall_ready.ensures.ready (leave_by self (acts self.bots commands) c.requires.moves.each))) c.recall_ready.ensures.held

pub returns-clause-ok : goal.returns-clause-ok
returns-clause-ok c =
    let self = c.args.self.now in
    let commands = c.args.commands.now in
    on_ok_weaker c.act_all.result
    (λ (s : CalmStep self c.act_all.new.self commands). step_as self c.act_all.new.self commands _ (self.matrix) self.harmonics _ (bots_gone self.bots commands) (c.bots_act.ensures.still (state_of self) commands c.recall_ready.ensures.ready (leave_by self (acts self.bots commands) c.requires.moves.each)) (c.bots_act.ensures.gone (state_of self) commands c.recall_ready.ensures.ready c.requires.commands (stay_by self (acts self.bots commands) c.requires.moves.each)) s)
    c.act_all.ensures.ok

use Rattle.std.proofs.Common.{sym, ◌∙◌, subst}
use Rattle.std.proofs.lemmas.Result.{on_ok_weaker}
use Rattle.nano_spec.specs.Act.{acts}
use Rattle.nano_spec.specs.Matrix.{Matrix}
use Rattle.plan_tape.specs.Crowd.{CalmStep, with_fills}
use Rattle.plan_tape.specs.Progress.{IsHeld, state_of}
use Rattle.plan_tape.proofs.Crowds.{step_as}
use Rattle.plan_tape.proofs.Works.{fills_flip_not, fills_stand, fills_stay, matrix_filled}
use Rattle.plan_tape.proofs.tape.Tape.fill_all.Goals as goal

pub act_all-requires-clause-calm : goal.act_all-requires-clause-calm
act_all-requires-clause-calm c =
    let self = c.args.self.now in
    record { free = c.requires.free; calm = fills_flip_not self.bots c.args.fills.now c.requires.fills }

pub act_all-requires-clause-held : goal.act_all-requires-clause-held
act_all-requires-clause-held c =
    let self = c.args.self.now in
    let fills = c.args.fills.now in
    subst (λ (m : Matrix). IsHeld self.harmonics m) (sym (matrix_filled self.matrix self.bots fills c.requires.fills)) c.requires.held

pub returns-clause-ok : goal.returns-clause-ok
returns-clause-ok c =
    let self = c.args.self.now in
    let fills = c.args.fills.now in
    on_ok_weaker c.act_all.result
    (λ (s : CalmStep self c.act_all.new.self fills). step_as self c.act_all.new.self fills _ (with_fills self.matrix (acts self.bots fills)) self.harmonics _ (self.bots) (matrix_filled self.matrix self.bots fills c.requires.fills) (c.bots_act.ensures.gone (state_of self) fills c.recall_ready.ensures.ready c.requires.commands (fills_stay self.bots fills c.requires.fills) ∙ fills_stand self.bots fills c.requires.commands c.requires.fills) s)
    c.act_all.ensures.ok

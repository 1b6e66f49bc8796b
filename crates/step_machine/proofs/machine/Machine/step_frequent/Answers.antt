use Rattle.std.proofs.Common.{refl, rules, false, true}
use Rattle.step_machine.proofs.Alone.{alone_after_edit, alone_after_move}
use Rattle.step_machine.proofs.Ends.{declined_made, is_declined, is_made, is_refused, refused_made}
use Rattle.step_machine.proofs.machine.Machine.step_frequent.Goals as goal

pub returns-in_default-clause-tried : goal.returns-in_default-clause-tried
returns-in_default-clause-tried g c = is_declined refl refl

pub returns-then-move_alone-clause-tried : goal.returns-then-move_alone-clause-tried
returns-then-move_alone-clause-tried g c = is_made (search rules)

pub returns-then-edit_alone-clause-tried : goal.returns-then-edit_alone-clause-tried
returns-then-edit_alone-clause-tried g c = is_made (search rules)

pub returns-then-edit_alone-2-clause-tried : goal.returns-then-edit_alone-2-clause-tried
returns-then-edit_alone-2-clause-tried g c = is_made (search rules)

pub returns-else-move_alone-clause-tried : goal.returns-else-move_alone-clause-tried
returns-else-move_alone-clause-tried g c = is_refused (search rules) (search rules)

pub returns-else-edit_alone-clause-tried : goal.returns-else-edit_alone-clause-tried
returns-else-edit_alone-clause-tried g c = is_refused (search rules) (search rules)

pub returns-else-edit_alone-2-clause-tried : goal.returns-else-edit_alone-2-clause-tried
returns-else-edit_alone-2-clause-tried g c = is_refused (search rules) (search rules)

pub returns-in_default-clause-alone : goal.returns-in_default-clause-alone
returns-in_default-clause-alone g c = declined_made

pub returns-else-move_alone-clause-alone : goal.returns-else-move_alone-clause-alone
returns-else-move_alone-clause-alone g c = refused_made

pub returns-else-edit_alone-clause-alone : goal.returns-else-edit_alone-clause-alone
returns-else-edit_alone-clause-alone g c = refused_made

pub returns-else-edit_alone-2-clause-alone : goal.returns-else-edit_alone-2-clause-alone
returns-else-edit_alone-2-clause-alone g c = refused_made

pub returns-then-move_alone-clause-alone : goal.returns-then-move_alone-clause-alone
returns-then-move_alone-clause-alone g c = λ _. alone_after_move c.in-SMove.d c.args.self.now c.move_alone.new.self c.move_alone.new.fault c.args.steps.now
    c.move_alone.new.steps c.requires.alone.one c.if-move_alone.ensures.stepped

pub returns-then-edit_alone-clause-alone : goal.returns-then-edit_alone-clause-alone
returns-then-edit_alone-clause-alone g c = λ _. alone_after_edit true c.in-Fill.d c.args.self.now c.edit_alone.new.self c.edit_alone.new.fault c.args.steps.now
    c.edit_alone.new.steps c.requires.alone.one c.if-edit_alone.ensures

pub returns-then-edit_alone-2-clause-alone : goal.returns-then-edit_alone-2-clause-alone
returns-then-edit_alone-2-clause-alone g c = λ _. alone_after_edit false c.in-Void.d c.args.self.now c.edit_alone-in-Void.new.self
    c.edit_alone-in-Void.new.fault c.args.steps.now c.edit_alone-in-Void.new.steps c.requires.alone.one c.if-edit_alone-2.ensures

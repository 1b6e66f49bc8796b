use Rattle.nanobot_c.proofs.Given.{gives_effect, gives_gone, gives_report}
use Rattle.nanobot_c.proofs.call.call.Goals as goal

pub returns-in-Ok : goal.returns-in-Ok
returns-in-Ok c = gives_effect _ _ _ _ _ _ c.requires.new_name c.in-Ok.effect c.in-Ok.ensures.finishes c.in-Ok.ensures.named c.give_effect.ensures

pub returns-in-Err-Told : goal.returns-in-Err-Told
returns-in-Err-Told c = gives_report _ _ _ _ _ _ c.requires.new_name c.in-Err-Told.report (rw c.in-Err-Told.field-0-is at c.in-Err-Told.ensures.finishes) c.give_line.ensures

pub returns-in-Err-Depot : goal.returns-in-Err-Depot
returns-in-Err-Depot c = gives_gone _ _ _ _ _ _ c.requires.new_name (rw c.in-Err-Depot.field-0-is at c.in-Err-Depot.ensures.finishes) c.give.ensures

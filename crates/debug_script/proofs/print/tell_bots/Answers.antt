use Rattle.debug_script.proofs.Printed.{told_bots}
use Rattle.debug_script.proofs.print.tell_bots.Goals as goal

pub returns : goal.returns
returns c = told_bots c.args.debugger.now c.middle_crew.result.now _ _ c.put_bots.result c.requires c.middle_crew.ensures (rw c.bots.ensures.value at c.put_bots.ensures)

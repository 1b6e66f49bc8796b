use Rattle.std.proofs.Common.{arith, refl, inr}
use Rattle.std.specs.Prelude.{Ok, Err}
use Rattle.machine_c.proofs.starting.nanobot_machine_start_empty.Goals as goal

pub returns-in-Ok : goal.returns-in-Ok
returns-in-Ok c =
    let notes = c.if-notes-gt-MOST_NOTES.false in let some = c.if-resolution-eq0.false in let most = c.if-resolution-from.false in let from = c.from.ensures in
    inr (omega (arith, notes), omega (arith, some), omega (arith, most, from), Ok c.in-Ok.machine.value, c.in-Ok.ensures.opened, (c.put.ensures, refl))

pub returns-in-Err : goal.returns-in-Err
returns-in-Err c =
    let notes = c.if-notes-gt-MOST_NOTES.false in let some = c.if-resolution-eq0.false in let most = c.if-resolution-from.false in let from = c.from.ensures in
    inr (omega (arith, notes), omega (arith, some), omega (arith, most, from), Err c.in-Err.fault, c.in-Err.ensures.refused, (refl, c.status.ensures))

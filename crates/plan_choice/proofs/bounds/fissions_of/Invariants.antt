use Rattle.std.proofs.Common.{◌≡◌, ◌≤◌, take, count_by}
use Rattle.plan_tape.specs.Fissions.{is_fission}
use Rattle.plan_choice.proofs.bounds.fissions_of.Given as goal

abbrev pub invariant-loop-command : goal.invariant-loop-command
invariant-loop-command l = (l.fissions ≡ count_by is_fission (take l.command-index l.commands)) × (l.fissions ≤ l.command-index)

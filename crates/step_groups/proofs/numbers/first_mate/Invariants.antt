use Rattle.std.proofs.Common.{◌≡◌, ◌+◌, drop}
use Rattle.std.specs.List.{position_or_len}
use Rattle.nano_spec.specs.Act.{acts}
use Rattle.nano_spec.specs.Group.{are_together}
use Rattle.step_groups.specs.Judging.{act}
use Rattle.step_groups.proofs.numbers.first_mate.Given as goal

abbrev pub invariant-loop-i : goal.invariant-loop-i
invariant-loop-i l =
    l.i + position_or_len (are_together (act l.bot l.command)) (acts (drop l.i l.bots) (drop l.i l.commands)) ≡ position_or_len (are_together (act l.bot l.command)) (acts l.bots l.commands)

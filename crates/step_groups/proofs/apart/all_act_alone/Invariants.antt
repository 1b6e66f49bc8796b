use Rattle.std.proofs.Common.{◌≡◌, drop}
use Rattle.std.specs.List.{list_all}
use Rattle.step_groups.specs.Judging.{is_alone}
use Rattle.step_groups.proofs.apart.all_act_alone.Given as goal

abbrev pub invariant-loop-i : goal.invariant-loop-i
invariant-loop-i l = list_all is_alone (drop l.i l.commands) ≡ list_all is_alone l.commands

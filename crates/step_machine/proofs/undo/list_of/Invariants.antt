use Rattle.std.proofs.Common.{◌≡◌, ◌+◌, ◌≤◌, length, take}
use Rattle.step_machine.proofs.undo.list_of.Given as goal

abbrev pub invariant-loop-c : goal.invariant-loop-c
invariant-loop-c l = (l.list.items ≡ take l.c-index l.cells) × (length l.cells ≤ l.list.spare + l.c-index)

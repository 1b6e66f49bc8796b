use Rattle.std.proofs.Common.{◌≡◌, ◌-◌, ◌≤◌, length}
use Rattle.trace_codec.proofs.WholeTraces.{HasCut}
use Rattle.machine_c.proofs.playing.cut_step.Given as goal

-- the commands so far are those of the bytes so far
abbrev pub invariant-loop-count : goal.invariant-loop-count
invariant-loop-count l =
    HasCut l.bytes l.commands.items l.size × (l.count ≡ length l.commands.items) × (l.count ≤ l.active)

abbrev pub decreases-loop-count : goal.decreases-loop-count
decreases-loop-count l = l.active - l.count

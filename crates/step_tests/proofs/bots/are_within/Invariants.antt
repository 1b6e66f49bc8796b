use Rattle.std.proofs.Common.{ℕ, ◌<◌, get_or}
use Rattle.vox_geom.specs.Space.{IsInSpace}
use Rattle.nano_spec.specs.declared.system.Bot.{Bot}
use Rattle.step_tests.proofs.bots.are_within.Given as goal

abbrev pub invariant-loop-i : goal.invariant-loop-i
invariant-loop-i l = (k : ℕ) (d : Bot) → k < l.i → IsInSpace l.side (get_or l.bots k d).pos

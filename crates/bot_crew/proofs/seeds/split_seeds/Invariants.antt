use Rattle.std.proofs.Common.{◌≡◌, ◌+◌, drop}
use Rattle.nano_spec.specs.State.{seed_list}
use Rattle.bot_crew.proofs.seeds.split_seeds.Given as goal

abbrev pub invariant-loop-taken : goal.invariant-loop-taken
invariant-loop-taken l = seed_list l.kept ≡ drop (1 + l._taken) (seed_list l.seeds)

use Rattle.std.proofs.Common.{arith, refl}
use Rattle.nano_spec.specs.State.{seed_list}
use Rattle.bot_crew.proofs.Sets.{bit_within, bit_less, without_is}
use Rattle.bot_crew.proofs.seeds.without_least.Goals as goal

pub overflow_shl-result : goal.overflow_shl-result
overflow_shl-result c = bit_within c.args.seeds (omega arith) (seed_list c.args.seeds) refl c.requires

pub overflow_sub-result : goal.overflow_sub-result
overflow_sub-result c = bit_less c.args.seeds (omega arith) (seed_list c.args.seeds) refl c.requires

pub returns : goal.returns
returns c = without_is c.args.seeds (omega arith) (seed_list c.args.seeds) refl c.requires

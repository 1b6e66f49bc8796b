use Rattle.std.proofs.Common.{arith}
use Rattle.bot_crew.proofs.Sets.{union_is}
use Rattle.bot_crew.proofs.seeds.unite.Goals as goal

pub returns : goal.returns
returns c = union_is c.args.seeds c.args.others c.args.bid (omega arith) (omega arith) c.requires

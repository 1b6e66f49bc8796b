use Rattle.std.proofs.Common.{arith}
use Rattle.bot_crew.proofs.Sets.{ones_of}
use Rattle.bot_crew.proofs.seeds.seeds_of.Goals as goal

pub returns : goal.returns
returns c = ones_of c.args.bot.seeds (omega arith)

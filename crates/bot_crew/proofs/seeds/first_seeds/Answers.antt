use Rattle.bot_crew.proofs.Sets.{first_row}
use Rattle.bot_crew.proofs.seeds.first_seeds.Goals as goal

pub returns : goal.returns
returns c = first_row c.args.count c.requires

use Rattle.support_forest.specs.Offers.{candidates_at}
use Rattle.support_forest.specs.Indices.{voxel_of}
use Rattle.support_forest.proofs.Seeds.{seeded_none, seeded_offer}
use Rattle.support_forest.proofs.repair.push_seed.Goals as goal

pub returns-in_ok-push : goal.returns-in_ok-push
returns-in_ok-push c = λ w side o. seeded_offer w side c.args.index c.args.around c.args.seeds.now.items _ o c.if-around-ne0.true c.in_ok-push.ensures.items

pub returns-else-around-ne0 : goal.returns-else-around-ne0
returns-else-around-ne0 c = λ w side o. seeded_none w (voxel_of side c.args.index) c.args.around (candidates_at side c.args.seeds.now.items) o c.if-around-ne0.false

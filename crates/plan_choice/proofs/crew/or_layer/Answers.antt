use Rattle.plan_choice.proofs.Crews.{either_crew, layer_crew}
use Rattle.plan_choice.proofs.crew.or_layer.Goals as goal

pub returns-clause-crew : goal.returns-clause-crew
returns-clause-crew c =
    let source = c.args.source.now in
    let target = c.args.target.now in
    let other = c.in_ok-other.other.plan in
    either_crew source target c.args.plan other c.cheaper_of.result c.requires.crew (layer_crew source target other c.recall.ensures.whole.most c.in_ok-other.ensures.plan) c.cheaper_of.ensures.either

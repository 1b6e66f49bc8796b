use Rattle.std.proofs.Common.{◌≤◌, sym, ◌∙◌, ap, subst, List, length}
use Rattle.nano_spec.specs.declared.system.Bot.{Bot}
use Rattle.swarm_planner.specs.Crew.{places}
use Rattle.swarm_planner.specs.Lineup.{free_column}
use Rattle.swarm_planner.proofs.Gathering.{free_at}
use Rattle.swarm_planner.proofs.crew.free_place.Goals as goal

pub returns : goal.returns
returns c =
    let bots_is = c.bots-bots.ensures.value ∙ c.crew.ensures.value in
    let two = c.requires.two in
    free_at c.bots-bots.result.now 1 _ (subst (λ (bs : List Bot). 2 ≤ length bs) (sym bots_is) two) ∙ ap (λ (bs : List Bot). free_column 1 (places bs)) bots_is

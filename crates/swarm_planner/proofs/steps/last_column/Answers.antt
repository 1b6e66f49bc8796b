use Rattle.std.proofs.Common.{◌≤◌, sym, ◌∙◌, ap, subst, List, length}
use Rattle.nano_spec.specs.declared.system.Bot.{Bot}
use Rattle.swarm_planner.specs.Crew.{places}
use Rattle.swarm_planner.specs.Lineup.{last_column}
use Rattle.swarm_planner.proofs.Lines.{last_at}
use Rattle.swarm_planner.proofs.steps.last_column.Goals as goal

pub returns-clause-value : goal.returns-clause-value
returns-clause-value c =
    let bots_is = c.bots-bots.ensures.value ∙ c.crew.ensures.value in
    let some = c.requires.some in
    last_at c.bots-bots.result.now _ (subst (λ (bs : List Bot). 1 ≤ length bs) (sym bots_is) some) ∙ ap (λ (bs : List Bot). last_column (places bs)) bots_is

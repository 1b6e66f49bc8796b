use Rattle.std.proofs.Common.{◌≤◌, rules}
use Rattle.group_planner.specs.Bounds.{most_bytes}
use Rattle.plan_choice.specs.Planners.{byte_limit}
use Rattle.plan_choice.proofs.Crews.{either_crew, group_crew}
use Rattle.plan_choice.proofs.crew.or_group.Goals as goal

pub returns-clause-crew : goal.returns-clause-crew
returns-clause-crew c =
    let source = c.args.source.now in
    let target = c.args.target.now in
    let other = c.in_ok-other.other.plan in
    let fits : most_bytes source target ≤ byte_limit = search rules in
    either_crew source target c.args.plan other c.compare.result.plan c.requires.crew (group_crew source target other fits c.in_ok-other.ensures.plan) c.compare.ensures.either

use Rattle.low_planner.proofs.Counts.{visit_lessens}
use Rattle.low_planner.proofs.survey.finish.Goals as goal

pub loop-visit-smaller : goal.loop-visit-smaller
loop-visit-smaller c =
    let target = c.args.target.now in
    visit_lessens target c.loop-visit.sweep c.next.new.self c.in-Some._visit (rw c.in-Some.is at c.in_ok-_visit.ensures.visits)

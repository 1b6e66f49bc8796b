use Rattle.std.proofs.Common.{◌+◌, min, ◌∙◌, ap, subst, arith, true, false}
use Rattle.group_planner.specs.Runs.{IsAll, IsRunEnd}
use Rattle.group_planner.proofs.Found.{next_found, no_more}
use Rattle.group_planner.proofs.run.next_run.Goals as goal

pub returns-then-first-r-clause-none : goal.returns-then-first-r-clause-none
returns-then-first-r-clause-none c =
    let planes = c.args.planes.now in
    let e = c.if-first-r.true ∙ c.resolution-r.ensures.value in
    let void : IsAll planes c.args.x c.args.y c.args.z planes.resolution false = subst (λ n. IsAll planes c.args.x c.args.y c.args.z n false) e c.next-first.ensures.others in
    record { void = void; none_more = no_more planes c.args.x c.args.y c.args.z planes.resolution c.requires.z void }

pub returns-clause-found : goal.returns-clause-found
returns-clause-found c =
    let resolution_value = c.resolution-r.ensures.value in
    next_found c.args.planes.now c.args.x c.args.y c.args.z c.next-first.result c.next-end.result c.min-most.result c.requires.cut (omega arith) (c.min-most.ensures ∙ ap (λ n. min n (c.next-first.result + 31)) resolution_value) (subst (λ n. IsRunEnd c.args.planes.now c.args.x c.args.y c.args.z n true c.next-first.result) resolution_value c.next-first.ensures) c.next-end.ensures

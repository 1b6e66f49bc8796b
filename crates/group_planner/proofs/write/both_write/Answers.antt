use Rattle.std.proofs.Common.{ap}
use Rattle.std.proofs.lemmas.Result.{on_ok_weaker}
use Rattle.vox_geom.specs.declared.coordinate.Coord.{Coord}
use Rattle.group_planner.proofs.Groups.{can_paint, one_group, wrote_both}
use Rattle.group_planner.proofs.write.both_write.Goals as goal

pub paint_all-requires-clause-group : goal.paint_all-requires-clause-group
paint_all-requires-clause-group c = can_paint c.args.tape.now c.args.full c.all_below.result c.all_below-2.result c.rear-first.result.z c.front-last.result.z c.requires.pair c.requires.above (ap (λ (d : Coord). d.z) c.rear-first.ensures.value) (ap (λ (d : Coord). d.z) c.front-last.ensures.value) c.all_below.ensures c.all_below-2.ensures

pub returns : goal.returns
returns c =
    let tape = c.args.tape.now in
    let first = ap (λ (d : Coord). d.z) c.rear-first.ensures.value in
    let last = ap (λ (d : Coord). d.z) c.front-last.ensures.value in
    let group = one_group tape c.args.full c.all_below.result c.all_below-2.result c.rear-first.result.z c.front-last.result.z c.requires.pair c.requires.above first last c.all_below.ensures c.all_below-2.ensures in
    on_ok_weaker c.paint_all.result
    (λ s. wrote_both tape c.args.full c.all_below.result c.all_below-2.result c.rear-first.result.z c.front-last.result.z c.requires.pair c.requires.above first last c.all_below.ensures c.all_below-2.ensures c.paint_all.new.self (s _ c.args.full group))
    c.paint_all.ensures.ok

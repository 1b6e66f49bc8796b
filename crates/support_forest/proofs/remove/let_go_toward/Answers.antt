use Rattle.std.proofs.Common.{◌<◌, arith}
use Rattle.support_forest.proofs.Orphans.{few_sides, lists_index, neighbour, index_below}
use Rattle.support_forest.proofs.remove.let_go_toward.Goals as goal

pub index_toward-next-requires-clause-few : goal.index_toward-next-requires-clause-few
index_toward-next-requires-clause-few g c = few_sides c.args.cells.now.resolution c.args.side c.requires.side c.recall.ensures.few

pub index_toward-next-requires-clause-within : goal.index_toward-next-requires-clause-within
index_toward-next-requires-clause-within g c = index_below c.args.cells.now.resolution c.args.side c.args.index c.requires.side c.requires.inside.within

pub index_toward-next-requires-clause-some : goal.index_toward-next-requires-clause-some
index_toward-next-requires-clause-some g c =
    let some : 0 < c.args.word = let hangs_over_ensured = c.if-not-hangs_over.ensures.0 in let height = c.requires.height in omega arith in
    neighbour c.args.cells.now c.args.side c.args.index g.row.D c.args.word c.requires.side c.requires.inside c.requires.word some

pub returns : goal.returns
returns g c =
    let some : 0 < c.args.word = let hangs_over_ensured = c.if-not-hangs_over.ensures.0 in let height = c.requires.height in omega arith in
    lists_index _ _ _ _ _ _ _ _ _ _ c.requires.word some
    (neighbour c.args.cells.now c.args.side c.args.index g.row.D c.args.word c.requires.side c.requires.inside c.requires.word some)
    c.index_toward-next.ensures c.in_ok-push.ensures.items

use Rattle.support_forest.proofs.fill_one.look_around.Goals as goal

pub returns : goal.returns
returns c = λ w at e k.
    c.with_neighbor.ensures w at k.far
    (c.with_neighbor-around-5.ensures w at k.near
    (c.with_neighbor-around-4.ensures w at k.over
    (c.with_neighbor-around-3.ensures w at k.under
    (c.with_neighbor-around-2.ensures w at k.right
    (c.with_neighbor-around.ensures w at k.left
    (c.nothing_around-around.ensures w at e))))))

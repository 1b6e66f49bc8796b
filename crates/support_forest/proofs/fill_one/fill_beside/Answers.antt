use Rattle.std.proofs.Common.{ℕ, ◌+◌, ◌*◌, arith, refl, subst}
use Rattle.vox_geom.proofs.Sums.{most_cube}
use Rattle.support_forest.specs.Grid.{word_at}
use Rattle.support_forest.specs.Words.{IsWritten}
use Rattle.support_forest.proofs.FillingOne.{filled_alone, filled_below, toward_small, word_small}
use Rattle.support_forest.proofs.fill_one.fill_beside.Goals as goal

pub returns-then-around-eq0 : goal.returns-then-around-eq0
returns-then-around-eq0 g c = λ before few.
    filled_alone c.args.cells.now c.fill.new.self c.args.c c.look_around-around.result before c.args.steps.now c.fill.new.steps
    c.requires.can.exact c.requires.can.within c.requires.can.void (c.look_around-around.ensures _ c.args.c refl c.requires.words) c.if-around-eq0.true c.in_ok-fill.ensures.written c.fill.ensures.resolution few c.in_ok-fill.ensures.touch

pub overflow_add-around : goal.overflow_add-around
overflow_add-around g c =
    let cube = most_cube c.args.cells.now.resolution c.recall.ensures.few in
    let low = word_small c.args.cells.now.resolution (word_at c.args.cells.now) c.args.c c.look_around-around.result c.requires.can.exact cube (c.look_around-around.ensures _ c.args.c refl c.requires.words) in
    omega arith

pub overflow_mul-around : goal.overflow_mul-around
overflow_mul-around g c =
    let cube = most_cube c.args.cells.now.resolution c.recall.ensures.few in
    let low = word_small c.args.cells.now.resolution (word_at c.args.cells.now) c.args.c c.look_around-around.result c.requires.can.exact cube (c.look_around-around.ensures _ c.args.c refl c.requires.words) in
    omega arith

pub overflow_add-around-2 : goal.overflow_add-around-2
overflow_add-around-2 g c =
    let cube = most_cube c.args.cells.now.resolution c.recall.ensures.few in
    let around = c.look_around-around.ensures (word_at c.args.cells.now) c.args.c refl c.requires.words in
    let low = word_small c.args.cells.now.resolution (word_at c.args.cells.now) c.args.c c.look_around-around.result c.requires.can.exact cube around in
    let few = toward_small (word_at c.args.cells.now) c.args.c c.look_around-around.result around c.if-around-eq0.false in
    let same = c.from.ensures in
    omega arith

pub returns : goal.returns
returns g c = λ before few.
    filled_below c.args.cells.now c.fill-2.new.self c.args.c c.look_around-around.result before c.args.steps.now c.fill-2.new.steps
    c.requires.can.exact (most_cube c.args.cells.now.resolution c.recall.ensures.few) c.requires.can.within c.requires.can.void (c.look_around-around.ensures _ c.args.c refl c.requires.words) c.if-around-eq0.false c.if-around.false (let calm = c.if-around-2.false in omega arith)
    (subst (λ (t : ℕ). IsWritten (word_at c.args.cells.now) (word_at c.fill-2.new.self) c.args.c (8 * c.look_around-around.result.height + t)) c.from.ensures c.in_ok-fill-2.ensures.written) c.fill-2.ensures.resolution few c.in_ok-fill-2.ensures.touch

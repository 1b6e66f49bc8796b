use Rattle.std.proofs.Common.{◌≡◌, ◌+◌, ◌≤◌, get_or, arith, rules}
use Rattle.std.proofs.lemmas.List.{get_or_default}
use Rattle.vox_geom.specs.declared.coordinate.Coord.{Coord}
use Rattle.support_forest.specs.FillingOne.{HaveFilledOne}
use Rattle.support_forest.proofs.Each.{are_filled, filling_listed, filling_filled, filling_space}
use Rattle.support_forest.proofs.FillingOne.{unless, when}
use Rattle.support_forest.proofs.add.fill_each.Goals as goal

abbrev origin : Coord
origin = record { x = 0; y = 0; z = 0 }

pub fill_locally-requires : goal.fill_locally-requires
fill_locally-requires g c = record {
  exact = search rules;
  within = filling_space _ _ _ _ _ _ _ _ c.requires.can c.loop-c.invariant c.loop-c-test.true (get_or_default _ _ _ _ c.loop-c-test.true);
  void = search rules;
}

pub loop-c-preserved-then-branch : goal.loop-c-preserved-then-branch
loop-c-preserved-then-branch g c =
    let next = get_or c.args.new.now c.loop-c.c-index origin in
    filling_filled c.args.cells.now c.loop-c.cells c.fill_locally.new.cells c.args.new.now c.loop-c.c-index c.loop-c.rest.items c.args.steps.now c.loop-c.steps c.fill_locally.new.steps next c.requires.can c.loop-c.invariant c.loop-c-test.true
    (get_or_default c.args.new.now c.loop-c.c-index origin next c.loop-c-test.true)
    (when c.in_ok-fill_locally.field-0 (HaveFilledOne c.loop-c.cells c.fill_locally.new.cells next c.loop-c.steps c.fill_locally.new.steps) ((c.fill_locally.new.cells ≡ c.loop-c.cells) × (c.fill_locally.new.steps ≤ c.loop-c.steps + 6)) c.if-branch.true c.in_ok-fill_locally.ensures)

pub loop-c-preserved : goal.loop-c-preserved
loop-c-preserved g c =
    let next = get_or c.args.new.now c.loop-c.c-index origin in
    let stays = unless c.in_ok-fill_locally.field-0 (HaveFilledOne c.loop-c.cells c.fill_locally.new.cells next c.loop-c.steps c.fill_locally.new.steps) ((c.fill_locally.new.cells ≡ c.loop-c.cells) × (c.fill_locally.new.steps ≤ c.loop-c.steps + 6)) c.if-branch.false c.in_ok-fill_locally.ensures in
    filling_listed c.args.cells.now c.loop-c.cells c.fill_locally.new.cells c.args.new.now c.loop-c.c-index c.loop-c.rest.items c.push.new.self.items c.args.steps.now c.loop-c.steps c.fill_locally.new.steps next c.requires.can c.loop-c.invariant c.loop-c-test.true
    (get_or_default c.args.new.now c.loop-c.c-index origin next c.loop-c-test.true) stays.0 stays.1 c.in_ok-push.ensures.items

pub returns : goal.returns
returns g c = are_filled _ _ _ c.loop-c.c-index _ _ _ c.requires.can c.loop-c.invariant (let in_range = c.loop-c.auto.c-index-end in let at_end = c.loop-c-test.false in omega arith)

use Rattle.std.proofs.Common.{◌+◌, ap, drop, get_or, sym, ◌∙◌}
use Rattle.std.specs.List.{list_any}
use Rattle.std.proofs.lemmas.List.{get_or_default}
use Rattle.vox_geom.proofs.Tests.{test_equal, test_unequal}
use Rattle.vox_geom.specs.Point.{plus, point, same_point}
use Rattle.nano_spec.specs.Act.{acts}
use Rattle.step_groups.specs.Judging.{act, corner_list}
use Rattle.step_groups.specs.Numbers.{with_number}
use Rattle.step_groups.proofs.Mates.{blank}
use Rattle.step_groups.proofs.Corners.{skip_corner}
use Rattle.step_groups.proofs.Telling.{with_it, without_it}
use Rattle.step_groups.proofs.shapes.is_corner_after.Goals as goal

pub loop-j-preserved-then-numbers-j : goal.loop-j-preserved-then-numbers-j
loop-j-preserved-then-numbers-j c =
    let bots = c.args.bots.now in
    let j = c.loop-j.j in
    let bot = get_or bots j blank in
    sym (ap (λ xs. list_any (same_point (plus (point c.args.p) c.args.d)) (corner_list xs))
    (without_it c.args.number bots c.args.commands.now c.args.numbers.now j bot c.index-commands-j.result c.loop-j-test.true c.requires.lengths c.requires.numbers (get_or_default bots j blank bot c.loop-j-test.true) c.index-commands-j.is (test_unequal _ _ c.if-numbers-j.true)))
    ∙ c.loop-j.invariant

pub loop-j-preserved : goal.loop-j-preserved
loop-j-preserved c =
    let bots = c.args.bots.now in
    let j = c.loop-j.j in
    let bot = get_or bots j blank in
    let command = c.index-commands-j.result in
    sym (ap (λ xs. list_any (same_point (plus (point c.args.p) c.args.d)) (corner_list xs))
    (with_it c.args.number bots c.args.commands.now c.args.numbers.now j bot command c.loop-j-test.true c.requires.lengths c.requires.numbers (get_or_default bots j blank bot c.loop-j-test.true) c.index-commands-j.is (test_equal _ _ c.if-numbers-j.false))
    ∙ skip_corner (same_point (plus (point c.args.p) c.args.d)) (act bot command) (with_number c.args.number (acts (drop (j + 1) bots) (drop (j + 1) c.args.commands.now)) (drop (j + 1) c.args.numbers.now)) (sym c.is_corner.ensures ∙ c.if-is_corner.false))
    ∙ c.loop-j.invariant

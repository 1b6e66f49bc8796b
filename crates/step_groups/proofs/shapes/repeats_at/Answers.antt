use Rattle.std.proofs.Common.{◌+◌, ◌++◌, ◌∙◌, ap, drop, get_or, sym}
use Rattle.std.proofs.lemmas.List.{get_or_default}
use Rattle.vox_geom.proofs.Tests.{test_equal, test_unequal}
use Rattle.vox_geom.specs.Point.{point}
use Rattle.nano_spec.specs.Act.{acts}
use Rattle.nano_spec.specs.Rules.{repeats}
use Rattle.step_groups.specs.Judging.{at_corner, corner_list}
use Rattle.step_groups.specs.Numbers.{with_number}
use Rattle.step_groups.proofs.Mates.{blank}
use Rattle.step_groups.proofs.Telling.{with_it, without_it}
use Rattle.step_groups.proofs.shapes.repeats_at.Goals as goal

pub returns-then-numbers-i : goal.returns-then-numbers-i
returns-then-numbers-i c =
    let bots = c.args.bots.now in
    let i = c.args.i in
    let bot = get_or bots i blank in
    sym (ap (λ xs. repeats (corner_list xs)) (without_it c.args.number bots c.args.commands.now c.args.numbers.now i bot c.index-commands-i.result c.requires.i c.requires.lengths c.requires.numbers (get_or_default bots i blank bot c.requires.i) c.index-commands-i.is (test_unequal _ _ c.if-numbers-i.true)))

pub returns-in_default : goal.returns-in_default
returns-in_default c =
    let bots = c.args.bots.now in
    let i = c.args.i in
    let bot = get_or bots i blank in
    let behind = with_number c.args.number (acts (drop (i + 1) bots) (drop (i + 1) c.args.commands.now)) (drop (i + 1) c.args.numbers.now) in
    sym (ap (λ xs. repeats (corner_list xs)) (with_it c.args.number bots c.args.commands.now c.args.numbers.now i bot c.index-commands-i.result c.requires.i c.requires.lengths c.requires.numbers (get_or_default bots i blank bot c.requires.i) c.index-commands-i.is (test_equal _ _ c.if-numbers-i.false))
    ∙ ap (λ corners. repeats (corners ++ corner_list behind)) (c.corner_of.ensures ∙ ap (at_corner (point bot.pos)) c.in_default.is))

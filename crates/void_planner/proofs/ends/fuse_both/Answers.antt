use Rattle.std.proofs.Common.{[], ◌∷◌, ap, lit<, refl, sym, length, List}
use Rattle.std.proofs.lemmas.Result.{on_ok_weaker}
use Rattle.nano_spec.specs.declared.commands.Command.TheVariants.{FusionP, FusionS}
use Rattle.nano_spec.specs.declared.system.Bot.{Bot}
use Rattle.plan_tape.specs.Crowd.{AllStep, bots_fused}
use Rattle.plan_tape.specs.Progress.{spot}
use Rattle.void_planner.specs.Square.{four, two}
use Rattle.void_planner.proofs.Splits.{becomes, contains_as, four_of_four, fuse_both_free, fuse_both_makes, left_pair, one_of_four, right_pair, successors_as, three_of_four, two_of_four}
use Rattle.void_planner.proofs.ends.fuse_both.Goals as goal

pub fuse_all-requires-clause-commands : goal.fuse_all-requires-clause-commands
fuse_all-requires-clause-commands c = sym (ap (λ (bs : List Bot). length bs) c.requires.bots)

pub fuse_all-requires-clause-free : goal.fuse_all-requires-clause-free
fuse_all-requires-clause-free c =
    let tape = c.args.tape.now in
    fuse_both_free tape (spot tape.bots) c.ahead.result c.ahead-2.result c.behind.result c.behind-2.result c.requires.bots c.requires.can.full c.requires.can.stand c.ahead.ensures c.ahead-2.ensures c.behind.ensures c.behind-2.ensures

pub returns : goal.returns
returns c =
    let tape = c.args.tape.now in
    let commands_here = FusionP c.ahead.result ∷ FusionP c.ahead-2.result ∷ FusionS c.behind.result ∷ FusionS c.behind-2.result ∷ [] in
    let one_of_four_here = one_of_four tape (spot tape.bots) c.ahead.result c.ahead-2.result c.behind.result c.behind-2.result c.requires.bots c.requires.can.full c.requires.can.stand c.ahead.ensures c.ahead-2.ensures c.behind.ensures c.behind-2.ensures in
    let two_there = two_of_four tape (spot tape.bots) c.ahead.result c.ahead-2.result c.behind.result c.behind-2.result c.requires.bots c.requires.can.full c.requires.can.stand c.ahead.ensures c.ahead-2.ensures c.behind.ensures c.behind-2.ensures in
    let three_of_four_here = three_of_four tape (spot tape.bots) c.ahead.result c.ahead-2.result c.behind.result c.behind-2.result c.requires.bots c.requires.can.full c.requires.can.stand c.ahead.ensures c.ahead-2.ensures c.behind.ensures c.behind-2.ensures in
    let four_of_four_here = four_of_four tape (spot tape.bots) c.ahead.result c.ahead-2.result c.behind.result c.behind-2.result c.requires.bots c.requires.can.full c.requires.can.stand c.ahead.ensures c.ahead-2.ensures c.behind.ensures c.behind-2.ensures in
    let left = successors_as tape.bots (four (spot tape.bots) 1 1) commands_here one_of_four_here _ c.requires.bots (c.fuse_all.ensures.primary one_of_four_here four_of_four_here (contains_as tape.bots (four (spot tape.bots) 1 1) commands_here one_of_four_here c.requires.bots (0, lit< tt, refl)) (contains_as tape.bots (four (spot tape.bots) 1 1) commands_here four_of_four_here c.requires.bots (3, lit< tt, refl)) (left_pair tape (spot tape.bots) c.ahead.result c.ahead-2.result c.behind.result c.behind-2.result c.requires.bots c.requires.can.full c.requires.can.stand c.ahead.ensures c.ahead-2.ensures c.behind.ensures c.behind-2.ensures)) in
    let right = successors_as tape.bots (four (spot tape.bots) 1 1) commands_here two_there _ c.requires.bots (c.fuse_all.ensures.primary two_there three_of_four_here (contains_as tape.bots (four (spot tape.bots) 1 1) commands_here two_there c.requires.bots (1, lit< tt, refl)) (contains_as tape.bots (four (spot tape.bots) 1 1) commands_here three_of_four_here c.requires.bots (2, lit< tt, refl)) (right_pair tape (spot tape.bots) c.ahead.result c.ahead-2.result c.behind.result c.behind-2.result c.requires.bots c.requires.can.full c.requires.can.stand c.ahead.ensures c.ahead-2.ensures c.behind.ensures c.behind-2.ensures)) in
    on_ok_weaker c.fuse_all.result
    (λ (s : AllStep tape c.fuse_all.new.self commands_here tape.matrix tape.harmonics (bots_fused tape.bots commands_here)). becomes tape c.fuse_all.new.self commands_here (bots_fused tape.bots commands_here) (two (spot tape.bots)) 0 refl (fuse_both_makes tape (spot tape.bots) c.ahead.result c.ahead-2.result c.behind.result c.behind-2.result c.requires.bots c.requires.can.full c.requires.can.stand c.ahead.ensures c.ahead-2.ensures c.behind.ensures c.behind-2.ensures left right) c.requires.can.high c.requires.can.full s)
    c.fuse_all.ensures.ok

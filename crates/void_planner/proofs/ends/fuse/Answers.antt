use Rattle.std.proofs.Common.{[], ◌∷◌, ap, lit<, refl, sym, length, List}
use Rattle.std.proofs.lemmas.Result.{on_ok_weaker}
use Rattle.nano_spec.specs.declared.commands.Command.TheVariants.{FusionP, FusionS}
use Rattle.nano_spec.specs.declared.system.Bot.{Bot}
use Rattle.plan_tape.specs.Crowd.{AllStep, bots_fused}
use Rattle.plan_tape.specs.Progress.{spot}
use Rattle.void_planner.specs.Square.{one, two}
use Rattle.void_planner.proofs.Splits.{becomes, contains_as, first, fuse_free, fuse_makes, fuse_pair, second, successors_as}
use Rattle.void_planner.proofs.ends.fuse.Goals as goal

pub fuse_all-requires-clause-commands : goal.fuse_all-requires-clause-commands
fuse_all-requires-clause-commands c = sym (ap (λ (bs : List Bot). length bs) c.requires.bots)

pub fuse_all-requires-clause-free : goal.fuse_all-requires-clause-free
fuse_all-requires-clause-free c =
    let tape = c.args.tape.now in
    fuse_free tape (spot tape.bots) c.ahead.result c.behind.result c.requires.bots c.requires.can.full c.requires.can.stand c.ahead.ensures c.behind.ensures

pub returns : goal.returns
returns c =
    let tape = c.args.tape.now in
    let commands_here = FusionP c.ahead.result ∷ FusionS c.behind.result ∷ [] in
    let first_here = first tape (spot tape.bots) c.ahead.result c.behind.result c.requires.bots c.requires.can.full c.requires.can.stand c.ahead.ensures c.behind.ensures in
    let second_here = second tape (spot tape.bots) c.ahead.result c.behind.result c.requires.bots c.requires.can.full c.requires.can.stand c.ahead.ensures c.behind.ensures in
    let successors_as_here = successors_as tape.bots (two (spot tape.bots)) commands_here first_here _ c.requires.bots (c.fuse_all.ensures.primary first_here second_here (contains_as tape.bots (two (spot tape.bots)) commands_here first_here c.requires.bots (0, lit< tt, refl)) (contains_as tape.bots (two (spot tape.bots)) commands_here second_here c.requires.bots (1, lit< tt, refl)) (fuse_pair tape (spot tape.bots) c.ahead.result c.behind.result c.requires.bots c.requires.can.full c.requires.can.stand c.ahead.ensures c.behind.ensures)) in
    on_ok_weaker c.fuse_all.result
    (λ (s : AllStep tape c.fuse_all.new.self commands_here tape.matrix tape.harmonics (bots_fused tape.bots commands_here)). becomes tape c.fuse_all.new.self commands_here (bots_fused tape.bots commands_here) (one (spot tape.bots)) 0 refl (fuse_makes tape (spot tape.bots) c.ahead.result c.behind.result c.requires.bots c.requires.can.full c.requires.can.stand c.ahead.ensures c.behind.ensures successors_as_here) c.requires.can.high c.requires.can.full s)
    c.fuse_all.ensures.ok

use Rattle.std.proofs.Common.{[], ◌∷◌, ap, refl, sym, length, List}
use Rattle.std.proofs.lemmas.Result.{on_ok_weaker}
use Rattle.nano_spec.specs.declared.commands.Command.TheVariants.{Fission}
use Rattle.nano_spec.specs.declared.system.Bot.{Bot}
use Rattle.plan_tape.specs.Crowd.{AllStep, bots_split}
use Rattle.plan_tape.specs.Progress.{spot}
use Rattle.void_planner.specs.Square.{two}
use Rattle.void_planner.proofs.Splits.{becomes, split_free, split_makes}
use Rattle.void_planner.proofs.ends.split.Goals as goal

pub split_all-requires-clause-commands : goal.split_all-requires-clause-commands
split_all-requires-clause-commands c = sym (ap (λ (bs : List Bot). length bs) c.requires.bots)

pub split_all-requires-clause-free : goal.split_all-requires-clause-free
split_all-requires-clause-free c =
    let tape = c.args.tape.now in
    split_free tape (spot tape.bots) c.ahead.result c.requires.bots c.requires.can.full c.requires.can.stand c.ahead.ensures

pub returns : goal.returns
returns c =
    let tape = c.args.tape.now in
    let commands_here = Fission c.ahead.result 1 ∷ [] in
    on_ok_weaker c.split_all.result
    (λ (s : AllStep tape c.split_all.new.self commands_here tape.matrix tape.harmonics (bots_split tape.bots commands_here)). becomes tape c.split_all.new.self commands_here (bots_split tape.bots commands_here) (two (spot tape.bots)) 1 refl (split_makes tape (spot tape.bots) c.ahead.result c.requires.bots c.requires.can.full c.requires.can.stand c.ahead.ensures) c.requires.can.high c.requires.can.full s)
    c.split_all.ensures.ok

use Rattle.std.proofs.Common.{◌∷◌, []}
use Rattle.std.proofs.lemmas.Result.{on_ok_weaker}
use Rattle.nano_spec.specs.declared.commands.Command.TheVariants.{FusionP, FusionS}
use Rattle.plan_tape.proofs.ClearWays.{held_high}
use Rattle.plan_tape.specs.Progress.{state_of}
use Rattle.group_planner.proofs.Joined.{has_joined, join_calm, join_stays}
use Rattle.group_planner.proofs.opening.join.Goals as goal

pub act_all-requires-clause-calm : goal.act_all-requires-clause-calm
act_all-requires-clause-calm c = join_calm c.args.tape.now c.ahead.result c.behind.result c.ahead.ensures c.behind.ensures c.requires.pair c.requires.beside

pub returns : goal.returns
returns c =
    let tape = c.args.tape.now in
    let commands_here = FusionP c.ahead.result ∷ FusionS c.behind.result ∷ [] in
    let still = c.bots_act.ensures.still (state_of tape) commands_here c.recall_ready.ensures.ready (join_stays tape c.ahead.result c.behind.result c.ahead.ensures c.behind.ensures c.requires.pair c.requires.beside) in
    on_ok_weaker c.act_all.result (λ s. has_joined tape c.ahead.result c.behind.result c.ahead.ensures c.behind.ensures c.requires.pair c.requires.beside c.act_all.new.self s still) c.act_all.ensures.ok

pub act_all-requires-clause-held : goal.act_all-requires-clause-held
act_all-requires-clause-held c = held_high c.args.tape.now.harmonics _ c.requires.pair.high

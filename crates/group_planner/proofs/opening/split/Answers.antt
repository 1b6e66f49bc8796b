use Rattle.std.proofs.Common.{◌∷◌, []}
use Rattle.std.proofs.lemmas.Result.{on_ok_weaker}
use Rattle.nano_spec.specs.declared.commands.Command.TheVariants.{Fission}
use Rattle.plan_tape.proofs.ClearWays.{held_high}
use Rattle.plan_tape.specs.Progress.{state_of}
use Rattle.group_planner.proofs.Joined.{has_split, split_calm, split_stays}
use Rattle.group_planner.proofs.opening.split.Goals as goal

pub act_all-requires-clause-calm : goal.act_all-requires-clause-calm
act_all-requires-clause-calm c = split_calm c.args.tape.now c.ahead.result c.ahead.ensures c.requires.alone c.requires.full c.requires.room c.requires.within c.requires.free

pub returns : goal.returns
returns c =
    let tape = c.args.tape.now in
    let commands_here = Fission c.ahead.result 0 ∷ [] in
    let still = c.bots_act.ensures.still (state_of tape) commands_here c.recall_ready.ensures.ready (split_stays tape c.ahead.result c.ahead.ensures c.requires.alone c.requires.full c.requires.room c.requires.within c.requires.free) in
    on_ok_weaker c.act_all.result (λ s. has_split tape c.ahead.result c.ahead.ensures c.requires.alone c.requires.full c.requires.room c.requires.within c.requires.free c.act_all.new.self c.requires.unsplit c.requires.high s still) c.act_all.ensures.ok

pub act_all-requires-clause-held : goal.act_all-requires-clause-held
act_all-requires-clause-held c = held_high c.args.tape.now.harmonics _ c.requires.high

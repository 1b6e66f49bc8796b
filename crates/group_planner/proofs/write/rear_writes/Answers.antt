use Rattle.std.proofs.Common.{sym, ◌∷◌, []}
use Rattle.std.proofs.lemmas.Result.{on_ok_weaker}
use Rattle.nano_spec.specs.declared.commands.Command.TheVariants.{Wait}
use Rattle.plan_tape.proofs.ClearWays.{held_high}
use Rattle.plan_tape.specs.Progress.{state_of}
use Rattle.group_planner.proofs.Singles.{rear_calm, rear_stays, rear_wrote}
use Rattle.group_planner.proofs.write.rear_writes.Goals as goal

pub act_all-requires-clause-calm : goal.act_all-requires-clause-calm
act_all-requires-clause-calm c = rear_calm c.args.tape.now c.one_below.result c.args.full c.one_below.ensures c.requires.pair c.requires.above

pub returns : goal.returns
returns c =
    let tape = c.args.tape.now in
    let ks = (c.one_below.result ∷ Wait ∷ []) in
    let bots = c.bots_act.ensures.gone (state_of tape) ks c.recall_ready.ensures.ready (sym c.requires.pair.two) (rear_stays tape c.one_below.result c.args.full c.one_below.ensures c.requires.pair c.requires.above) in
    on_ok_weaker c.act_all.result (λ s. rear_wrote tape c.one_below.result c.args.full c.one_below.ensures c.requires.pair c.requires.above c.act_all.new.self s bots (c.bots_act.ensures.voxels (state_of tape) ks)) c.act_all.ensures.ok

pub act_all-requires-clause-held : goal.act_all-requires-clause-held
act_all-requires-clause-held c = held_high c.args.tape.now.harmonics _ c.requires.pair.high

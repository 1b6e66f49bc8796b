use Rattle.std.proofs.Common.{◌∙◌, ◌+◌, ◌-◌, ap, length, slice_set, take}
use Rattle.std.proofs.lemmas.Result.{on_ok_weaker}
use Rattle.nano_spec.specs.declared.commands.Command.TheVariants.{FusionP, FusionS}
use Rattle.plan_tape.specs.Crowd.{AllStep, bots_fused}
use Rattle.swarm_planner.specs.Crew.{places}
use Rattle.swarm_planner.specs.Lineup.{pair_ends}
use Rattle.swarm_planner.proofs.Fusing.{has_fused, is_free, is_long, only_fuses}
use Rattle.swarm_planner.proofs.Lines.{pair_ends_are}
use Rattle.swarm_planner.proofs.Splitting.{regroups}
use Rattle.swarm_planner.proofs.steps.fuse_last.Goals as goal

pub fuse_all-requires-clause-commands : goal.fuse_all-requires-clause-commands
fuse_all-requires-clause-commands c =
    let tape = c.args.tape.now in
    let required = c.requires in
    is_long tape required.line required.two required.beside _
    (pair_ends_are tape.bots c.bots.result.now c.waits-commands.result _ _ (c.bots.ensures.value ∙ c.crew.ensures.value) required.two c.crew.ensures.crew.most c.waits-commands.ensures ∙ (λ i. pair_ends (FusionP (c.ahead.ensures i)) (FusionS (c.behind.ensures i)) tape.bots))

pub fuse_all-requires-clause-fuses : goal.fuse_all-requires-clause-fuses
fuse_all-requires-clause-fuses c =
    let tape = c.args.tape.now in
    let required = c.requires in
    only_fuses tape required.line required.two required.beside _
    (pair_ends_are tape.bots c.bots.result.now c.waits-commands.result _ _ (c.bots.ensures.value ∙ c.crew.ensures.value) required.two c.crew.ensures.crew.most c.waits-commands.ensures ∙ (λ i. pair_ends (FusionP (c.ahead.ensures i)) (FusionS (c.behind.ensures i)) tape.bots))

pub fuse_all-requires-clause-free : goal.fuse_all-requires-clause-free
fuse_all-requires-clause-free c =
    let tape = c.args.tape.now in
    let required = c.requires in
    is_free tape required.line required.two required.beside _
    (pair_ends_are tape.bots c.bots.result.now c.waits-commands.result _ _ (c.bots.ensures.value ∙ c.crew.ensures.value) required.two c.crew.ensures.crew.most c.waits-commands.ensures ∙ (λ i. pair_ends (FusionP (c.ahead.ensures i)) (FusionS (c.behind.ensures i)) tape.bots))

pub returns-clause-regroups : goal.returns-clause-regroups
returns-clause-regroups c =
    let tape = c.args.tape.now in
    let last = length c.bots.result.now - 1 in
    let command_slice = take (last + 1) (slice_set (slice_set c.waits-commands.result (last - 1) (FusionP c.ahead.result)) last (FusionS c.behind.result)) in
    on_ok_weaker c.fuse_all.result (λ (s : AllStep tape c.fuse_all.new.self command_slice tape.matrix tape.harmonics (bots_fused tape.bots command_slice)). regroups tape c.fuse_all.new.self command_slice (bots_fused tape.bots command_slice) c.requires.line.swarm s) c.fuse_all.ensures.ok

pub returns-clause-places : goal.returns-clause-places
returns-clause-places c =
    let tape = c.args.tape.now in
    let required = c.requires in
    let last = length c.bots.result.now - 1 in
    let command_slice = take (last + 1) (slice_set (slice_set c.waits-commands.result (last - 1) (FusionP c.ahead.result)) last (FusionS c.behind.result)) in
    let pair_ends_are_here = pair_ends_are tape.bots c.bots.result.now c.waits-commands.result _ _ (c.bots.ensures.value ∙ c.crew.ensures.value) required.two c.crew.ensures.crew.most c.waits-commands.ensures ∙ (λ i. pair_ends (FusionP (c.ahead.ensures i)) (FusionS (c.behind.ensures i)) tape.bots) in
    on_ok_weaker c.fuse_all.result (λ (s : AllStep tape c.fuse_all.new.self command_slice tape.matrix tape.harmonics (bots_fused tape.bots command_slice)). ap places s.bots_are ∙ has_fused tape required.line required.two required.beside _ pair_ends_are_here c.fuse_all.ensures.primary) c.fuse_all.ensures.ok

use Rattle.std.proofs.Common.{◌∙◌, ◌+◌, ◌-◌, ap, length, slice_set, take}
use Rattle.std.proofs.lemmas.Result.{on_ok_weaker}
use Rattle.nano_spec.specs.declared.commands.Command.TheVariants.{Fission}
use Rattle.plan_tape.specs.Crowd.{AllStep, bots_split}
use Rattle.swarm_planner.specs.Lineup.{ends}
use Rattle.swarm_planner.proofs.Lines.{ends_are}
use Rattle.swarm_planner.proofs.Splitting.{has_split, is_free, is_long, only_splits, regroups}
use Rattle.swarm_planner.proofs.steps.split_last.Goals as goal

pub split_all-requires-clause-commands : goal.split_all-requires-clause-commands
split_all-requires-clause-commands c =
    let tape = c.args.tape.now in
    let required = c.requires in
    is_long tape required.line c.args.seeds required.bots required.seeds required.within _
    (ends_are tape.bots c.bots.result.now c.waits-commands.result _ (c.bots.ensures.value ∙ c.crew.ensures.value) required.line.some c.crew.ensures.crew.most c.waits-commands.ensures ∙ ap (λ d. ends (Fission d c.args.seeds) tape.bots) c.ahead.ensures)

pub split_all-requires-clause-splits : goal.split_all-requires-clause-splits
split_all-requires-clause-splits c =
    let tape = c.args.tape.now in
    let required = c.requires in
    only_splits tape required.line c.args.seeds required.bots required.seeds required.within _
    (ends_are tape.bots c.bots.result.now c.waits-commands.result _ (c.bots.ensures.value ∙ c.crew.ensures.value) required.line.some c.crew.ensures.crew.most c.waits-commands.ensures ∙ ap (λ d. ends (Fission d c.args.seeds) tape.bots) c.ahead.ensures)

pub split_all-requires-clause-free : goal.split_all-requires-clause-free
split_all-requires-clause-free c =
    let tape = c.args.tape.now in
    let required = c.requires in
    is_free tape required.line c.args.seeds required.bots required.seeds required.within _
    (ends_are tape.bots c.bots.result.now c.waits-commands.result _ (c.bots.ensures.value ∙ c.crew.ensures.value) required.line.some c.crew.ensures.crew.most c.waits-commands.ensures ∙ ap (λ d. ends (Fission d c.args.seeds) tape.bots) c.ahead.ensures)

pub returns-clause-regroups : goal.returns-clause-regroups
returns-clause-regroups c =
    let tape = c.args.tape.now in
    let last = length c.bots.result.now - 1 in
    let command_slice = take (last + 1) (slice_set c.waits-commands.result last (Fission c.ahead.result c.args.seeds)) in
    on_ok_weaker c.split_all.result (λ (s : AllStep tape c.split_all.new.self command_slice tape.matrix tape.harmonics (bots_split tape.bots command_slice)). regroups tape c.split_all.new.self command_slice (bots_split tape.bots command_slice) c.requires.line.swarm s) c.split_all.ensures.ok

pub returns-clause-bots : goal.returns-clause-bots
returns-clause-bots c =
    let tape = c.args.tape.now in
    let required = c.requires in
    let last = length c.bots.result.now - 1 in
    let command_slice = take (last + 1) (slice_set c.waits-commands.result last (Fission c.ahead.result c.args.seeds)) in
    let ends_are_here = ends_are tape.bots c.bots.result.now c.waits-commands.result _ (c.bots.ensures.value ∙ c.crew.ensures.value) required.line.some c.crew.ensures.crew.most c.waits-commands.ensures ∙ ap (λ d. ends (Fission d c.args.seeds) tape.bots) c.ahead.ensures in
    on_ok_weaker c.split_all.result (λ (s : AllStep tape c.split_all.new.self command_slice tape.matrix tape.harmonics (bots_split tape.bots command_slice)). s.bots_are ∙ has_split tape required.line c.args.seeds required.bots required.seeds required.within _ ends_are_here) c.split_all.ensures.ok

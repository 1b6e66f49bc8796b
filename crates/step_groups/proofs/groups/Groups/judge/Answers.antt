use Rattle.std.proofs.Common.{sym, ◌∙◌, subst, List, Some, None}
use Rattle.nano_spec.specs.Act.{Act}
use Rattle.nano_spec.specs.Group.{leaders}
use Rattle.step_groups.specs.Groups.{AreGroups}
use Rattle.step_groups.specs.Steps.{acts_of_step, start_of_step}
use Rattle.step_groups.specs.declared.groups.Group.{Group}
use Rattle.step_groups.proofs.Few.{judged}
use Rattle.step_groups.proofs.Sums.{touched}
use Rattle.step_groups.proofs.Whole.{by_bot, by_pair}
use Rattle.step_groups.proofs.groups.Groups.judge.Goals as goal

pub returns-in-Some-clause-broken : goal.returns-in-Some-clause-broken
returns-in-Some-clause-broken g c = by_bot c.args.step.now c.judge_bots.result c.in-Some.broken c.requires.step.lengths c.judge_bots.ensures.value c.in-Some.is

pub returns-in-Some-clause-touches : goal.returns-in-Some-clause-touches
returns-in-Some-clause-touches g c = touched c.args.step.now.planes.now c.args.step.now.bots.now c.args.step.now.commands.now c.args.steps.now c.judge_bots.new.steps c.requires.step.lengths c.requires.step.crew.rising c.judge_bots.ensures.touches

pub list_groups-requires-clause-judged : goal.list_groups-requires-clause-judged
list_groups-requires-clause-judged g c = judged c.args.step.now.bots.now c.args.step.now.commands.now c.requires.step.lengths c.requires.step.crew.rising c.requires.step.crew.positions (start_of_step c.args.step.now) c.args.step.now.number (sym c.judge_bots.ensures.value ∙ c.in_default.is)

pub returns-in-Some-judge_pairs-clause-broken : goal.returns-in-Some-judge_pairs-clause-broken
returns-in-Some-judge_pairs-clause-broken g c =
    let planes = c.args.step.now.planes.now in
    let all : List Act = acts_of_step c.args.step.now in
    by_pair c.args.step.now c.judge_bots.result c.judge_pairs.result (Some c.in-Some-judge_pairs.broken) c.requires.step.lengths c.judge_bots.ensures.value c.in_default.is
    (c.judge_pairs.ensures planes all (leaders all) (subst (λ (gs : List Group). AreGroups planes.resolution all (leaders all) gs) (sym c.as_slice.ensures.value) c.list_groups.ensures)) c.in-Some-judge_pairs.is

pub returns-in-Some-judge_pairs-clause-touches : goal.returns-in-Some-judge_pairs-clause-touches
returns-in-Some-judge_pairs-clause-touches g c = touched c.args.step.now.planes.now c.args.step.now.bots.now c.args.step.now.commands.now c.args.steps.now c.judge_bots.new.steps c.requires.step.lengths c.requires.step.crew.rising c.judge_bots.ensures.touches

pub returns-clause-unbroken : goal.returns-clause-unbroken
returns-clause-unbroken g c =
    let planes = c.args.step.now.planes.now in
    let all : List Act = acts_of_step c.args.step.now in
    by_pair c.args.step.now c.judge_bots.result c.judge_pairs.result None c.requires.step.lengths c.judge_bots.ensures.value c.in_default.is
    (c.judge_pairs.ensures planes all (leaders all) (subst (λ (gs : List Group). AreGroups planes.resolution all (leaders all) gs) (sym c.as_slice.ensures.value) c.list_groups.ensures)) c.in_default-judge_pairs.is

pub returns-clause-touches : goal.returns-clause-touches
returns-clause-touches g c = touched c.args.step.now.planes.now c.args.step.now.bots.now c.args.step.now.commands.now c.args.steps.now c.judge_bots.new.steps c.requires.step.lengths c.requires.step.crew.rising c.judge_bots.ensures.touches

use Rattle.std.proofs.Common.{sym, subst, List, None, Some, refl}
use Rattle.nano_spec.specs.Act.{Act}
use Rattle.nano_spec.specs.Group.{leaders}
use Rattle.step_groups.specs.Groups.{AreGroups, AreJudged}
use Rattle.step_groups.specs.Steps.{acts_of_step, start_of_step}
use Rattle.step_groups.specs.declared.groups.Group.{Group}
use Rattle.step_groups.proofs.Few.{judged}
use Rattle.step_groups.proofs.Lone.{all_lone, lone_pairs}
use Rattle.step_groups.proofs.Sums.{touched}
use Rattle.step_groups.proofs.Whole.{by_bot, by_pair}
use Rattle.step_groups.proofs.groups.Groups.judge_lone.Goals as goal

pub returns-in-Err-clause-value : goal.returns-in-Err-clause-value
returns-in-Err-clause-value g c = λ energy. sym (by_bot c.args.step.now (Some c.in-Err.broken) c.in-Err.broken c.requires.step.lengths c.in-Err.ensures.value refl energy)

pub returns-in-Err-clause-lone : goal.returns-in-Err-clause-lone
returns-in-Err-clause-lone g c = all_lone c.args.step.now.planes.now c.args.step.now.bots.now c.args.step.now.commands.now c.requires.step.lengths c.requires.step.crew.rising c.requires.lone

pub returns-in-Err-clause-touches : goal.returns-in-Err-clause-touches
returns-in-Err-clause-touches g c = touched c.args.step.now.planes.now c.args.step.now.bots.now c.args.step.now.commands.now c.args.steps.now c.judge_apart.new.steps c.requires.step.lengths c.requires.step.crew.rising c.judge_apart.ensures.touches

pub are_apart-requires-clause-stays : goal.are_apart-requires-clause-stays
are_apart-requires-clause-stays g c =
    let all : AreJudged c.args.step.now.planes.now.resolution (acts_of_step c.args.step.now) = judged c.args.step.now.bots.now c.args.step.now.commands.now c.requires.step.lengths c.requires.step.crew.rising c.requires.step.crew.positions (start_of_step c.args.step.now) c.args.step.now.number (sym c.in-Ok.ensures.value) in
    all.stays

pub returns-then-apart-clause-value : goal.returns-then-apart-clause-value
returns-then-apart-clause-value g c =
    let none = lone_pairs c.args.step.now.planes.now c.args.step.now.bots.now c.args.step.now.commands.now c.requires.step.lengths c.requires.step.crew.rising c.requires.lone c.args.step.now.number (c.in-Ok.ensures.apart c.if-apart.true) in
    λ energy. sym (by_pair c.args.step.now None None None c.requires.step.lengths c.in-Ok.ensures.value refl (sym none) refl energy)

pub returns-then-apart-clause-lone : goal.returns-then-apart-clause-lone
returns-then-apart-clause-lone g c = all_lone c.args.step.now.planes.now c.args.step.now.bots.now c.args.step.now.commands.now c.requires.step.lengths c.requires.step.crew.rising c.requires.lone

pub returns-then-apart-clause-touches : goal.returns-then-apart-clause-touches
returns-then-apart-clause-touches g c = touched c.args.step.now.planes.now c.args.step.now.bots.now c.args.step.now.commands.now c.args.steps.now c.judge_apart.new.steps c.requires.step.lengths c.requires.step.crew.rising c.judge_apart.ensures.touches

pub returns-then-are_apart-clause-value : goal.returns-then-are_apart-clause-value
returns-then-are_apart-clause-value g c =
    let none = lone_pairs c.args.step.now.planes.now c.args.step.now.bots.now c.args.step.now.commands.now c.requires.step.lengths c.requires.step.crew.rising c.requires.lone c.args.step.now.number (c.are_apart.ensures c.if-are_apart.true) in
    λ energy. sym (by_pair c.args.step.now None None None c.requires.step.lengths c.in-Ok.ensures.value refl (sym none) refl energy)

pub returns-then-are_apart-clause-lone : goal.returns-then-are_apart-clause-lone
returns-then-are_apart-clause-lone g c = all_lone c.args.step.now.planes.now c.args.step.now.bots.now c.args.step.now.commands.now c.requires.step.lengths c.requires.step.crew.rising c.requires.lone

pub returns-then-are_apart-clause-touches : goal.returns-then-are_apart-clause-touches
returns-then-are_apart-clause-touches g c = touched c.args.step.now.planes.now c.args.step.now.bots.now c.args.step.now.commands.now c.args.steps.now c.judge_apart.new.steps c.requires.step.lengths c.requires.step.crew.rising c.judge_apart.ensures.touches

pub list_groups-requires-clause-judged : goal.list_groups-requires-clause-judged
list_groups-requires-clause-judged g c = judged c.args.step.now.bots.now c.args.step.now.commands.now c.requires.step.lengths c.requires.step.crew.rising c.requires.step.crew.positions (start_of_step c.args.step.now) c.args.step.now.number (sym c.in-Ok.ensures.value)

pub returns-clause-value : goal.returns-clause-value
returns-clause-value g c = λ energy.
    let planes = c.args.step.now.planes.now in
    let all : List Act = acts_of_step c.args.step.now in
    sym (by_pair c.args.step.now None c.judge_pairs.result c.judge_pairs.result c.requires.step.lengths c.in-Ok.ensures.value refl
    (c.judge_pairs.ensures planes all (leaders all) (subst (λ (gs : List Group). AreGroups planes.resolution all (leaders all) gs) (sym c.as_slice.ensures.value) c.list_groups.ensures)) refl energy)

pub returns-clause-lone : goal.returns-clause-lone
returns-clause-lone g c = all_lone c.args.step.now.planes.now c.args.step.now.bots.now c.args.step.now.commands.now c.requires.step.lengths c.requires.step.crew.rising c.requires.lone

pub returns-clause-touches : goal.returns-clause-touches
returns-clause-touches g c = touched c.args.step.now.planes.now c.args.step.now.bots.now c.args.step.now.commands.now c.args.steps.now c.judge_apart.new.steps c.requires.step.lengths c.requires.step.crew.rising c.judge_apart.ensures.touches

use Rattle.step_groups.proofs.Alone.{single_group, single_leads}
use Rattle.step_groups.proofs.Sums.{touched}
use Rattle.step_groups.proofs.Telling.{only_number}
use Rattle.step_groups.proofs.Whole.{by_itself}
use Rattle.step_groups.proofs.single.judge_single.Goals as goal

pub judge_bots-requires-clause-numbers : goal.judge_bots-requires-clause-numbers
judge_bots-requires-clause-numbers g c = only_number c.args.step.now.bots.now c.args.step.now.commands.now c.requires.one c.requires.step.lengths

pub returns-clause-value : goal.returns-clause-value
returns-clause-value g c = by_itself c.args.step.now.planes.now c.args.step.now.harmonics c.args.step.now.profile c.args.step.now.bots.now c.args.step.now.commands.now c.args.step.now.number c.judge_bots.result c.requires.one c.requires.step.lengths c.judge_bots.ensures.value

pub returns-clause-lone : goal.returns-clause-lone
returns-clause-lone g c = record {
  leads = single_leads c.args.step.now.bots.now c.args.step.now.commands.now c.requires.one c.requires.step.lengths;
  alone = single_group c.args.step.now.bots.now c.args.step.now.commands.now c.requires.one c.requires.step.lengths;
}

pub returns-clause-touches : goal.returns-clause-touches
returns-clause-touches g c = touched c.args.step.now.planes.now c.args.step.now.bots.now c.args.step.now.commands.now c.args.steps.now c.judge_bots.new.steps c.requires.step.lengths c.requires.step.crew.rising c.judge_bots.ensures.touches

use Rattle.std.proofs.Common.{◌∙◌, ap, sym}
use Rattle.nano_spec.specs.Rules.{broken_by}
use Rattle.nano_spec.specs.declared.outcomes.Rule.TheVariants.{Blocked}
use Rattle.step_groups.proofs.Touching.{counted, smove_reads}
use Rattle.step_groups.proofs.BlockedWays.{smove}
use Rattle.step_groups.proofs.rules.end_of_move.Goals as goal

pub returns-in-None-clause-value : goal.returns-in-None-clause-value
returns-in-None-clause-value g c = λ s all.
    ap (broken_by c.args.step Blocked c.args.bot.bid) (sym c.in-None.is ∙ c.region_full.ensures.value)
    ∙ sym (smove (record s { matrix = c.args.planes.now }) all c.args.step c.args.bot c.args.d c.of.result c.in-Some.to c.in-Some.ensures.some c.in-Some.ensures.sum c.of.ensures.covers)

pub returns-in-None-clause-touches : goal.returns-in-None-clause-touches
returns-in-None-clause-touches g c =
    smove_reads c.args.planes.now c.args.bot c.args.d c.of.result c.in-Some.to c.args.steps.now c.region_full.new.steps c.in-Some.ensures.some c.in-Some.ensures.sum c.of.ensures.covers
    (counted c.args.planes.now c.of.result c.args.bot.pos c.in-Some.to c.args.steps.now c.region_full.new.steps c.of.ensures.corners c.of.ensures.ordered c.requires c.in-Some.ensures.within c.region_full.ensures.touches)

pub returns-in-Some-region_full-clause-value : goal.returns-in-Some-region_full-clause-value
returns-in-Some-region_full-clause-value g c = λ s all.
    c.breaks-in-Some-region_full.ensures
    ∙ (ap (broken_by c.args.step Blocked c.args.bot.bid) (sym c.in-Some-region_full.is ∙ c.region_full.ensures.value)
    ∙ sym (smove (record s { matrix = c.args.planes.now }) all c.args.step c.args.bot c.args.d c.of.result c.in-Some.to c.in-Some.ensures.some c.in-Some.ensures.sum c.of.ensures.covers))

pub returns-in-Some-region_full-clause-touches : goal.returns-in-Some-region_full-clause-touches
returns-in-Some-region_full-clause-touches g c =
    smove_reads c.args.planes.now c.args.bot c.args.d c.of.result c.in-Some.to c.args.steps.now c.region_full.new.steps c.in-Some.ensures.some c.in-Some.ensures.sum c.of.ensures.covers
    (counted c.args.planes.now c.of.result c.args.bot.pos c.in-Some.to c.args.steps.now c.region_full.new.steps c.of.ensures.corners c.of.ensures.ordered c.requires c.in-Some.ensures.within c.region_full.ensures.touches)

use Rattle.std.proofs.Common.{ap, ◌∙◌, sym}
use Rattle.nano_spec.specs.Rules.{broken_by}
use Rattle.nano_spec.specs.declared.outcomes.Rule.TheVariants.{Blocked}
use Rattle.step_groups.proofs.Touching.{counted, lmove_reads}
use Rattle.step_groups.proofs.BlockedWays.{lmove, lmove_out}
use Rattle.step_groups.proofs.Outlining.{ways_within}
use Rattle.step_groups.proofs.rules.hull_of_moves.Goals as goal

pub returns-in_default-reach-clause-value : goal.returns-in_default-reach-clause-value
returns-in_default-reach-clause-value g c = λ s all.
    c.breaks-in_default-reach.ensures
    ∙ sym (lmove_out (record s { matrix = c.args.planes.now }) all c.args.step c.args.bot c.args.d c.args.e c.in-Some.mid c.in-Some.ensures.sum c.in_default-reach.ensures.none)

pub returns-in-None-clause-value : goal.returns-in-None-clause-value
returns-in-None-clause-value g c = λ s all.
    ap (broken_by c.args.step Blocked c.args.bot.bid) (sym c.in-None.is ∙ c.earlier.ensures.value)
    ∙ sym (lmove (record s { matrix = c.args.planes.now }) all c.args.step c.args.bot c.args.d c.args.e c.of-first_way.result c.of-second_way.result c.in-Some.mid c.in-Some-reach.to c.region_full-first.result c.region_full-second.result c.in-Some.ensures.some c.in-Some-reach.ensures.some c.in-Some.ensures.sum c.in-Some-reach.ensures.sum c.of-first_way.ensures.covers c.of-second_way.ensures.covers c.region_full-first.ensures.value c.region_full-second.ensures.value)

pub returns-in-None-clause-hull : goal.returns-in-None-clause-hull
returns-in-None-clause-hull g c =
    ways_within c.args.bot c.args.d c.args.e c.in-Some.mid c.in-Some-reach.to c.of-first_way.result c.of-second_way.result c.around.result c.in-Some.ensures.sum c.in-Some-reach.ensures.sum
    c.of-first_way.ensures.covers c.of-second_way.ensures.covers c.around.ensures.first c.around.ensures.second

pub returns-in-None-clause-touches : goal.returns-in-None-clause-touches
returns-in-None-clause-touches g c = lmove_reads c.args.planes.now c.args.bot c.args.d c.args.e c.of-first_way.result c.of-second_way.result c.in-Some.mid c.in-Some-reach.to c.args.steps.now c.region_full-first.new.steps c.region_full-second.new.steps c.in-Some.ensures.some c.in-Some-reach.ensures.some c.in-Some.ensures.sum c.in-Some-reach.ensures.sum c.of-first_way.ensures.covers c.of-second_way.ensures.covers (counted c.args.planes.now c.of-first_way.result c.args.bot.pos c.in-Some.mid c.args.steps.now c.region_full-first.new.steps c.of-first_way.ensures.corners c.of-first_way.ensures.ordered c.requires c.in-Some.ensures.within c.region_full-first.ensures.touches) (counted c.args.planes.now c.of-second_way.result c.in-Some.mid c.in-Some-reach.to c.region_full-first.new.steps c.region_full-second.new.steps c.of-second_way.ensures.corners c.of-second_way.ensures.ordered c.in-Some.ensures.within c.in-Some-reach.ensures.within c.region_full-second.ensures.touches)

pub returns-in-Some-earlier-clause-value : goal.returns-in-Some-earlier-clause-value
returns-in-Some-earlier-clause-value g c = λ s all.
    c.breaks-in-Some-earlier.ensures
    ∙ (ap (broken_by c.args.step Blocked c.args.bot.bid) (sym c.in-Some-earlier.is ∙ c.earlier.ensures.value)
    ∙ sym (lmove (record s { matrix = c.args.planes.now }) all c.args.step c.args.bot c.args.d c.args.e c.of-first_way.result c.of-second_way.result c.in-Some.mid c.in-Some-reach.to c.region_full-first.result c.region_full-second.result c.in-Some.ensures.some c.in-Some-reach.ensures.some c.in-Some.ensures.sum c.in-Some-reach.ensures.sum c.of-first_way.ensures.covers c.of-second_way.ensures.covers c.region_full-first.ensures.value c.region_full-second.ensures.value))

pub returns-in-Some-earlier-clause-touches : goal.returns-in-Some-earlier-clause-touches
returns-in-Some-earlier-clause-touches g c = lmove_reads c.args.planes.now c.args.bot c.args.d c.args.e c.of-first_way.result c.of-second_way.result c.in-Some.mid c.in-Some-reach.to c.args.steps.now c.region_full-first.new.steps c.region_full-second.new.steps c.in-Some.ensures.some c.in-Some-reach.ensures.some c.in-Some.ensures.sum c.in-Some-reach.ensures.sum c.of-first_way.ensures.covers c.of-second_way.ensures.covers (counted c.args.planes.now c.of-first_way.result c.args.bot.pos c.in-Some.mid c.args.steps.now c.region_full-first.new.steps c.of-first_way.ensures.corners c.of-first_way.ensures.ordered c.requires c.in-Some.ensures.within c.region_full-first.ensures.touches) (counted c.args.planes.now c.of-second_way.result c.in-Some.mid c.in-Some-reach.to c.region_full-first.new.steps c.region_full-second.new.steps c.of-second_way.ensures.corners c.of-second_way.ensures.ordered c.in-Some.ensures.within c.in-Some-reach.ensures.within c.region_full-second.ensures.touches)

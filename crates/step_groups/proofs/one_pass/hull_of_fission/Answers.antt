use Rattle.std.proofs.Common.{◌∙◌, ap, cond, length, sym, None, Some, [], ◌∷◌}
use Rattle.std.specs.Prelude.{nat_le}
use Rattle.nano_spec.specs.Rules.{broken_by}
use Rattle.nano_spec.specs.State.{seed_list}
use Rattle.nano_spec.specs.declared.outcomes.Rule.TheVariants.{Blocked, Seeds}
use Rattle.step_groups.proofs.BlockedWays.{blocked_at, fission, only_next}
use Rattle.step_groups.proofs.Outlining.{named_within}
use Rattle.step_groups.proofs.Touching.{counted, fission_reads}
use Rattle.step_groups.proofs.one_pass.hull_of_fission.Goals as goal

pub returns-in-Some-region_full-clause-value : goal.returns-in-Some-region_full-clause-value
returns-in-Some-region_full-clause-value g c = λ s all.
    c.breaks-in-Some-region_full.ensures
    ∙ sym (
    fission (record s { matrix = c.args.planes.now }) all c.args.step c.args.bot c.args.d c.args.m c.of.result c.in-Some.to c.region_full.result c.in-Some.ensures.some c.in-Some.ensures.sum c.of.ensures.covers c.region_full.ensures.value
    ∙ blocked_at c.args.step c.args.bot.bid Blocked c.region_full.result c.in-Some-region_full.at (broken_by c.args.step Seeds c.args.bot.bid (cond (nat_le (length (seed_list c.args.bot.seeds)) c.args.m) (Some c.args.bot.pos) None) ∷ []) c.in-Some-region_full.is)

pub returns-then-lacks_seeds-clause-value : goal.returns-then-lacks_seeds-clause-value
returns-then-lacks_seeds-clause-value g c = λ s all.
    let seeds = ap (λ t. broken_by c.args.step Seeds c.args.bot.bid (cond t (Some c.args.bot.pos) None)) (sym c.lacks_seeds.ensures ∙ c.if-lacks_seeds.true) in
    c.breaks-then-lacks_seeds.ensures
    ∙ sym (
    fission (record s { matrix = c.args.planes.now }) all c.args.step c.args.bot c.args.d c.args.m c.of.result c.in-Some.to c.region_full.result c.in-Some.ensures.some c.in-Some.ensures.sum c.of.ensures.covers c.region_full.ensures.value
    ∙ (only_next c.args.step c.args.bot.bid Blocked c.region_full.result (broken_by c.args.step Seeds c.args.bot.bid (cond (nat_le (length (seed_list c.args.bot.seeds)) c.args.m) (Some c.args.bot.pos) None)) c.in_default-region_full.is ∙ seeds))

pub returns-clause-value : goal.returns-clause-value
returns-clause-value g c = λ s all.
    let seeds = ap (λ t. broken_by c.args.step Seeds c.args.bot.bid (cond t (Some c.args.bot.pos) None)) (sym c.lacks_seeds.ensures ∙ c.if-lacks_seeds.false) in
    sym (
    fission (record s { matrix = c.args.planes.now }) all c.args.step c.args.bot c.args.d c.args.m c.of.result c.in-Some.to c.region_full.result c.in-Some.ensures.some c.in-Some.ensures.sum c.of.ensures.covers c.region_full.ensures.value
    ∙ (only_next c.args.step c.args.bot.bid Blocked c.region_full.result (broken_by c.args.step Seeds c.args.bot.bid (cond (nat_le (length (seed_list c.args.bot.seeds)) c.args.m) (Some c.args.bot.pos) None)) c.in_default-region_full.is ∙ seeds))

pub returns-clause-hull : goal.returns-clause-hull
returns-clause-hull g c = named_within c.args.bot c.of-2.result c.in-Some.to c.of-2.ensures.covers c.args.d c.in-Some.ensures.sum

pub returns-in-Some-region_full-clause-touches : goal.returns-in-Some-region_full-clause-touches
returns-in-Some-region_full-clause-touches g c = fission_reads c.args.planes.now c.args.bot c.args.d c.args.m c.of.result c.in-Some.to c.args.steps.now c.region_full.new.steps c.in-Some.ensures.some c.in-Some.ensures.sum c.of.ensures.covers (counted c.args.planes.now c.of.result c.in-Some.to c.in-Some.to c.args.steps.now c.region_full.new.steps c.of.ensures.corners c.of.ensures.ordered c.in-Some.ensures.within c.in-Some.ensures.within c.region_full.ensures.touches)

pub returns-then-lacks_seeds-clause-touches : goal.returns-then-lacks_seeds-clause-touches
returns-then-lacks_seeds-clause-touches g c = fission_reads c.args.planes.now c.args.bot c.args.d c.args.m c.of.result c.in-Some.to c.args.steps.now c.region_full.new.steps c.in-Some.ensures.some c.in-Some.ensures.sum c.of.ensures.covers (counted c.args.planes.now c.of.result c.in-Some.to c.in-Some.to c.args.steps.now c.region_full.new.steps c.of.ensures.corners c.of.ensures.ordered c.in-Some.ensures.within c.in-Some.ensures.within c.region_full.ensures.touches)

pub returns-clause-touches : goal.returns-clause-touches
returns-clause-touches g c = fission_reads c.args.planes.now c.args.bot c.args.d c.args.m c.of.result c.in-Some.to c.args.steps.now c.region_full.new.steps c.in-Some.ensures.some c.in-Some.ensures.sum c.of.ensures.covers (counted c.args.planes.now c.of.result c.in-Some.to c.in-Some.to c.args.steps.now c.region_full.new.steps c.of.ensures.corners c.of.ensures.ordered c.in-Some.ensures.within c.in-Some.ensures.within c.region_full.ensures.touches)

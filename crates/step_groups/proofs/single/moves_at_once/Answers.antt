use Rattle.std.proofs.Common.{◌∙◌, ◌+◌, ◌≤◌, [], ◌∷◌, ap, refl, sym, subst}
use Rattle.std.specs.Prelude.{None}
use Rattle.vox_geom.specs.declared.difference.Diff.{Diff}
use Rattle.vox_geom.specs.Region.{corners}
use Rattle.vox_geom.proofs.Covers.{covers}
use Rattle.nano_spec.specs.declared.commands.Command.TheVariants.{SMove}
use Rattle.nano_spec.specs.declared.outcomes.Rule.TheVariants.{Blocked}
use Rattle.nano_spec.specs.Act.{acts}
use Rattle.nano_spec.specs.Rules.{broken_by}
use Rattle.nano_spec.specs.Work.{volatile_total}
use Rattle.step_groups.specs.Judging.{act, first_fault, later_rules}
use Rattle.step_groups.proofs.BlockedWays.{smove}
use Rattle.step_groups.proofs.OnlyOne.{allowed, read_half}
use Rattle.step_groups.proofs.single.moves_at_once.Goals as goal

pub returns-then-is_clear_at_once-clause-keeps : goal.returns-then-is_clear_at_once-clause-keeps
returns-then-is_clear_at_once-clause-keeps g c = λ harmonics energy step.
    allowed c.args.planes.now harmonics c.args.profile c.args.bot (SMove c.args.d) step None (sym c.allows.ensures ∙ c.if-not-allows.false)
    (λ s all.
    ap (broken_by step Blocked c.args.bot.bid) (sym (c.is_clear_at_once.ensures.clear c.if-is_clear_at_once.true))
    ∙ (sym (smove (record s { matrix = c.args.planes.now }) all step c.args.bot c.diff.result (corners c.args.bot.pos c.in-Some.to) c.in-Some.to c.in-Some.ensures.some c.in-Some.ensures.sum (λ p. covers (corners c.args.bot.pos c.in-Some.to) c.args.bot.pos c.in-Some.to p refl))
    ∙ ap (λ d. first_fault (record s { matrix = c.args.planes.now }) all step (act c.args.bot (SMove d)) later_rules) c.diff.ensures.value))
    energy

pub returns-then-is_clear_at_once-clause-touches : goal.returns-then-is_clear_at_once-clause-touches
returns-then-is_clear_at_once-clause-touches g c =
    subst (λ (d : Diff). c.is_clear_at_once.new.steps ≤ c.args.steps.now + volatile_total c.args.planes.now (acts (c.args.bot ∷ []) (SMove d ∷ []))) c.diff.ensures.value
    (read_half c.args.planes.now c.args.bot c.diff.result c.in-Some.to c.args.steps.now c.is_clear_at_once.new.steps c.in-Some.ensures.some c.in-Some.ensures.sum c.requires.within c.in-Some.ensures.within c.is_clear_at_once.ensures.touches)

pub returns-clause-touches : goal.returns-clause-touches
returns-clause-touches g c =
    subst (λ (d : Diff). c.is_clear_at_once.new.steps ≤ c.args.steps.now + volatile_total c.args.planes.now (acts (c.args.bot ∷ []) (SMove d ∷ []))) c.diff.ensures.value
    (read_half c.args.planes.now c.args.bot c.diff.result c.in-Some.to c.args.steps.now c.is_clear_at_once.new.steps c.in-Some.ensures.some c.in-Some.ensures.sum c.requires.within c.in-Some.ensures.within c.is_clear_at_once.ensures.touches)

use Rattle.std.proofs.Common.{◌≡◌, ap, ◌∙◌, sym, not, map, ℕ, Bool, true, List, ◌∷◌}
use Rattle.nano_spec.specs.Act.{Act}
use Rattle.nano_spec.specs.First.{first_value}
use Rattle.nano_spec.specs.Rules.{broken_by, fault, here}
use Rattle.nano_spec.specs.State.{State}
use Rattle.nano_spec.specs.declared.outcomes.Rule.TheVariants.{Forbidden}
use Rattle.step_groups.specs.Judging.{act, later_rules}
use Rattle.step_groups.specs.Steps.{acts_of_step, start_of_step}
use Rattle.step_groups.proofs.BlockedWays.{skip}
use Rattle.step_groups.proofs.one_pass.judge_next.Goals as goal

-- if the command is allowed, the first rule that it breaks is the first of the others
allowed : (s : State) (all : List Act) (a : Act) (step bid : ℕ) (t : Bool) → t ≡ true
    → first_value (map (λ rule. broken_by step rule bid (fault s all a rule)) later_rules) ≡ first_value
    (broken_by step Forbidden bid (here a (not t))
    ∷ map (λ rule. broken_by step rule bid (fault s all a rule)) later_rules)
allowed s all a step bid t e = sym (skip step bid Forbidden a (not t) (map (λ rule. broken_by step rule bid (fault s all a rule)) later_rules) (ap not e))

pub returns-in-Ok-clause-value : goal.returns-in-Ok-clause-value
returns-in-Ok-clause-value g c =
    c.in-Ok.ensures.value
    ∙ allowed (start_of_step c.args.step.now) (acts_of_step c.args.step.now) (act c.args.bot.now c.args.command.now) c.args.step.now.number c.args.bot.now.bid _ (sym c.allows.ensures ∙ c.if-not-allows.false)

pub returns-in-Err-clause-value : goal.returns-in-Err-clause-value
returns-in-Err-clause-value g c =
    c.in-Err.ensures.value
    ∙ allowed (start_of_step c.args.step.now) (acts_of_step c.args.step.now) (act c.args.bot.now c.args.command.now) c.args.step.now.number c.args.bot.now.bid _ (sym c.allows.ensures ∙ c.if-not-allows.false)

use Rattle.std.proofs.Common.{◌≡◌, Err, refl, rules}
use Rattle.nanobot_words.specs.Parsing.{side_of}
use Rattle.nanobot_words.specs.Rows.{plan}
use Rattle.nanobot_words.proofs.Sides.{takes_a_name}
use Rattle.nanobot_rows.specs.Answer.{AnswerOf, ModelsOf}
use Rattle.nanobot_rows.specs.Effects.{reply_by}
use Rattle.nanobot_rows.proofs.Planned.{plan_ends, plan_stops, some_named}
use Rattle.nanobot_rows.proofs.Replies.{says_stops}
use Rattle.nanobot_rows.proofs.plans.plan.Goals as goal

pub load_models-requires-clause-some : goal.load_models-requires-clause-some
load_models-requires-clause-some g c = some_named _ _ (takes_a_name c.args.planner _ _ c.requires.sides)

pub returns-in_err-source-clause-finishes : goal.returns-in_err-source-clause-finishes
returns-in_err-source-clause-finishes g c =
    let is : c.from_residual.result ≡ Err c.in_err-source.field-0.0 = search rules in
    rw is (says_stops (ModelsOf (side_of c.args.source) (side_of c.args.target)) (AnswerOf (plan c.args.planner (side_of c.args.source) (side_of c.args.target) c.args.trace.now)) reply_by (λ files end h. (Err end, h, refl)) _ _ c.in_err-source.field-0.0 (c.in_err-source.ensures {u = tt}).reads)

pub returns-in_err-plan-clause-finishes : goal.returns-in_err-plan-clause-finishes
returns-in_err-plan-clause-finishes g c =
    let is : c.from_residual-in_err-plan.result ≡ Err c.in_err-plan.field-0.0 = search rules in
    rw is (plan_stops c.args.planner _ (side_of c.args.source) (side_of c.args.target) c.args.trace.now c.in_ok-source.source c.in_ok-source.target (c.in_ok-source.ensures {u = tt}).reads
    _ c.in_err-plan.field-0.0 (c.in_err-plan.ensures {u = tt}))

pub returns-clause-finishes : goal.returns-clause-finishes
returns-clause-finishes g c =
    plan_ends c.args.planner _ (side_of c.args.source) (side_of c.args.target) c.args.trace.now c.in_ok-source.source c.in_ok-source.target (c.in_ok-source.ensures {u = tt}).reads
    c.requires.sides c.in_ok-plan.plan c.in_ok-effect.effect (c.in_ok-plan.ensures {u = tt}) (c.in_ok-effect.ensures {u = tt})

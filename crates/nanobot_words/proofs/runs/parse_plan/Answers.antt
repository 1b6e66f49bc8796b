use Rattle.std.proofs.Common.{◌≡◌, None, codes, rules}
use Rattle.nanobot_words.proofs.Parsed.{not_taken, plan_operands, plan_takes, plan_written, planned_word, trace_first}
use Rattle.nanobot_words.proofs.runs.parse_plan.Goals as goal

pub returns-in_err-planner : goal.returns-in_err-planner
returns-in_err-planner c =
    let none : c.from_residual-in_err-planner.result ≡ None = search rules in
    rw none (λ p s t b row. c.in_err-planner.ensures {u = tt} p (planned_word _ _ _ _ _ _ (c.in_ok-first.ensures {u = tt}) s t b p row))

pub returns-in_err-source : goal.returns-in_err-source
returns-in_err-source c =
    let none : c.from_residual-in_err-source.result ≡ None = search rules in
    rw none (λ p s t b row. c.in_err-source.ensures {u = tt} s t b (plan_operands _ _ _ _ _ _ (c.in_ok-first.ensures {u = tt}) s t b p row))

pub returns-then-not-takes : goal.returns-then-not-takes
returns-then-not-takes c = λ p s t b row. not_taken (c.if-not-takes.ensures.1 (plan_takes _ _ _ _ _ _ (c.in_ok-first.ensures {u = tt}) s t b p row c.in_ok-planner.planner _ _ (c.in_ok-planner.ensures {u = tt}) (c.in_ok-source.ensures {u = tt})))

pub returns : goal.returns
returns c =
    let first : c.in_ok-first.first.now ≡ codes "plan" = search rules in
    let found = c.in_ok-source.ensures {u = tt} in
    record {
      written = plan_written _ _ _ _ _ _ _ _ _ (c.in_ok-first.ensures {u = tt}) first (c.in_ok-planner.ensures {u = tt}) found;
      named = trace_first _ _ _ found.named;
      of_table = search rules;
    }

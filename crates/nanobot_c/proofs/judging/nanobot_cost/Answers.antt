use Rattle.std.proofs.Common.{◌≡◌, pos, rules, arith, to_z, of_z, w32, w64, Fits, FitsSigned}
use Rattle.nanobot_c.proofs.Costs.{done_costs, refused_costs}
use Rattle.nanobot_c.proofs.Headlines.{cost_is}
use Rattle.nanobot_c.proofs.judging.nanobot_cost.Goals as goal

pub returns-in-Ok-clause-answer : goal.returns-in-Ok-clause-answer
returns-in-Ok-clause-answer c = λ has no_memory.
    let same : to_z w64 (of_z w64 c.in-Ok.of_energy) ≡ c.in-Ok.of_energy = search rules in
    done_costs _ _ _ c.run_row-row.ensures c.in-Ok.of_energy _ _ _ same c.code-in-Ok.ensures c.in-Ok.ensures

pub returns-in-Err-clause-answer : goal.returns-in-Err-clause-answer
returns-in-Err-clause-answer c = λ has no_memory. refused_costs _ _ _ c.run_row-row.ensures (pos 0) 0 _ no_memory c.in-Err.ensures

pub returns-in-Ok-clause-headline : goal.returns-in-Ok-clause-headline
returns-in-Ok-clause-headline c = λ full no_memory.
    let fits : FitsSigned w64 (to_z w64 (of_z w64 c.in-Ok.of_energy)) = search rules in
    let few : Fits w32 c.in-Ok.of_steps = search rules in
    cost_is c.one_row.ensures c.one_answer.ensures.status c.one_answer.ensures.answer c.args.light _ _ _ c.if-not-has_model.ensures full _ _ _ (returns-in-Ok-clause-answer c c.if-not-has_model.ensures no_memory)
    c.costs_are_told_apart.ensures.small fits (omega (arith, few.fits))

pub returns-in-Err-clause-headline : goal.returns-in-Err-clause-headline
returns-in-Err-clause-headline c = λ full no_memory.
    cost_is c.one_row.ensures c.one_answer.ensures.status c.one_answer.ensures.answer c.args.light _ _ _ c.if-not-has_model.ensures full (pos 0) 0 _ (returns-in-Err-clause-answer c c.if-not-has_model.ensures no_memory)
    c.costs_are_told_apart.ensures.small (record { sfits = omega arith }) (omega arith)

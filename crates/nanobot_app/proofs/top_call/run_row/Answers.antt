use Rattle.std.proofs.Common.{inl, refl}
use Rattle.nanobot_app.proofs.Outcomes.{outcome_finished, outcome_lost, outcome_memory, outcome_told}
use Rattle.nanobot_app.proofs.top_call.run_row.Goals as goal

pub returns-in-Ok-clause-outcome : goal.returns-in-Ok-clause-outcome
returns-in-Ok-clause-outcome g c = outcome_finished _ c.in-Ok.effect _ _ _ _ c.in-Ok.ensures.finishes c.in-Ok.ensures.named c.answer.ensures.only_reads.files c.answer.ensures.only_reads.later c.answer.ensures.only_reads.stores refl refl c.finish.ensures.finished

pub returns-in-Err-Told-clause-outcome : goal.returns-in-Err-Told-clause-outcome
returns-in-Err-Told-clause-outcome g c = outcome_told _ _ c.in-Err-Told.report _ (rw c.in-Err-Told.field-0-is at c.in-Err-Told.ensures.finishes) c.answer.ensures.only_reads.files c.tell.ensures

pub returns-in-Err-Depot-clause-outcome : goal.returns-in-Err-Depot-clause-outcome
returns-in-Err-Depot-clause-outcome g c = outcome_lost _ _ _ refl (rw c.in-Err-Depot.field-0-is at c.in-Err-Depot.ensures.finishes) refl (inl c.answer.ensures.only_reads.files)

pub returns-in-Err-Memory-clause-outcome : goal.returns-in-Err-Memory-clause-outcome
returns-in-Err-Memory-clause-outcome g c = outcome_memory _ _ _ refl c.answer.ensures.only_reads.files refl

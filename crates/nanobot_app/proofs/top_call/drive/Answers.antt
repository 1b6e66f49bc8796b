use Rattle.nanobot_app.proofs.Determined.{complete}
use Rattle.nanobot_app.proofs.Headlines.{headline, headline_only, headline_where, refusal}
use Rattle.nanobot_app.proofs.top_call.drive.Goals as goal

pub returns-clause-headline : goal.returns-clause-headline
returns-clause-headline g c = λ source target trace is no_depot no_sink no_memory.
    headline c.one_row.ensures c.one_answer.ensures.status c.one_answer.ensures.answer c.costs_are_told_apart.ensures.small _ _ _ _ c.run.ensures.outcome source target trace is
    c.costs_are_told_apart.ensures.apart no_depot no_sink no_memory

pub returns-clause-headline_where : goal.returns-clause-headline_where
returns-clause-headline_where g c = λ source target trace is no_depot no_sink no_memory.
    headline_where c.one_row.ensures c.one_answer.ensures.status c.one_answer.ensures.answer c.costs_are_told_apart.ensures.small _ _ _ _ c.run.ensures.outcome source target trace is
    no_depot no_sink no_memory

pub returns-clause-headline_only : goal.returns-clause-headline_only
returns-clause-headline_only g c = λ source target trace is done.
    headline_only c.one_row.ensures c.one_answer.ensures.status c.one_answer.ensures.answer c.costs_are_told_apart.ensures.small _ _ _ _ c.run.ensures.outcome source target trace is done

pub returns-clause-refusal : goal.returns-clause-refusal
returns-clause-refusal g c = λ source target trace is answered.
    refusal c.one_row.ensures c.one_answer.ensures.status c.one_answer.ensures.answer c.costs_are_told_apart.ensures.small _ _ _ _ c.run.ensures.outcome source target trace is answered

pub returns-clause-complete : goal.returns-clause-complete
returns-clause-complete g c = complete c.one_answer.ensures.status _ _ _ _ c.run.ensures.outcome

-- the search would find these too, but takes long to give up if a mutant breaks them
pub returns-clause-answer : goal.returns-clause-answer
returns-clause-answer g c = c.run.ensures.outcome.answer

pub returns-clause-in_no_row : goal.returns-clause-in_no_row
returns-clause-in_no_row g c = c.run.ensures.in_no_row

pub returns-clause-touches : goal.returns-clause-touches
returns-clause-touches g c = c.run.ensures.within

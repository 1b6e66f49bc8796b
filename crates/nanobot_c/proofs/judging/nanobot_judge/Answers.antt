use Rattle.nanobot_c.proofs.Given.{line_given}
use Rattle.nanobot_c.proofs.Headlines.{done_not_memory, done_only, done_where}
use Rattle.nanobot_c.proofs.judging.nanobot_judge.Goals as goal

pub returns-clause-answer : goal.returns-clause-answer
returns-clause-answer c = λ has no_memory. line_given c.args.light _ _ _ _ _ _ _ (rw c.run_row-row.ensures at c.call.ensures) no_memory

pub returns-clause-headline_where : goal.returns-clause-headline_where
returns-clause-headline_where c = λ full no_memory energy count takes.
    done_where c.one_row.ensures c.one_answer.ensures.status c.one_answer.ensures.answer c.args.light _ _ _ c.if-not-has_model.ensures full _ _ _ _ (returns-clause-answer c c.if-not-has_model.ensures no_memory) energy count takes

pub returns-clause-headline_only : goal.returns-clause-headline_only
returns-clause-headline_only c = λ full done.
    done_only c.one_row.ensures c.one_answer.ensures.status c.one_answer.ensures.answer c.args.light _ _ _ c.if-not-has_model.ensures full _ _ _ _ (returns-clause-answer c c.if-not-has_model.ensures (done_not_memory _ done)) done

use Rattle.std.proofs.Common.{subst, sym}
use Rattle.nanobot_words.specs.declared.row.Row.{Row}
use Rattle.nanobot_words.specs.Parsing.{row_of}
use Rattle.nanobot_rows.specs.Touching.{IsRowWithin}
use Rattle.nanobot_rows.proofs.rows.answer.Goals as goal

pub returns-in-Make-clause-finishes : goal.returns-in-Make-clause-finishes
returns-in-Make-clause-finishes g c = rw c.in-Make.is (c.make.ensures.finishes _ _ _)

pub returns-in-Exercise-clause-finishes : goal.returns-in-Exercise-clause-finishes
returns-in-Exercise-clause-finishes g c = rw c.in-Exercise.is (c.exercise.ensures.finishes _ _ _)

pub returns-in-Run-clause-within : goal.returns-in-Run-clause-within
returns-in-Run-clause-within g c = λ no_memory.
    subst (λ (row : Row). IsRowWithin (row_of row) (g.D.Depot.files c.args.depot.now) c.args.steps.now c.run.new.steps) (sym c.in-Run.is)
    (c.run.ensures.within no_memory)

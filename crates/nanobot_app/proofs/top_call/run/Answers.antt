use Rattle.std.proofs.Common.{◌≡◌, inl, refl, subst, codes, Some}
use Rattle.std.specs.Prelude.{IfSome}
use Rattle.vox_depot.specs.Files.{Files}
use Rattle.nanobot_rows.specs.Answer.{Answer}
use Rattle.nanobot_rows.specs.Lines.{words_line}
use Rattle.nanobot_words.specs.Rows.{Row, texts}
use Rattle.nanobot_rows.specs.Touching.{IsRowWithin}
use Rattle.nanobot_rows.specs.declared.status.Status.TheVariants as is
use Rattle.nanobot_app.proofs.Outcomes.{outcome_of_row, outcome_printed}
use Rattle.nanobot_rows.proofs.Told.{if_some}
use Rattle.nanobot_app.proofs.top_call.run.Goals as goal

pub returns-in-None-clause-outcome : goal.returns-in-None-clause-outcome
returns-in-None-clause-outcome g c =
    let told = g.D.Depot.files c.args.depot.now in
    let stands : IfSome told (λ files. (after : Files) × Answer (texts c.args.words.now) files (record { status = is.Words; line = words_line; after = after }) × (told ≡ Some after)) =
    if_some {P = λ files. (after : Files) × Answer (texts c.args.words.now) files (record { status = is.Words; line = words_line; after = after }) × (told ≡ Some after)} told (λ files e. (files, inl (c.in-None.ensures, refl), e)) in
    outcome_printed _ _ is.Words _ (codes "words not understood\n") tt stands c.print.ensures

pub returns-in-Some-clause-outcome : goal.returns-in-Some-clause-outcome
returns-in-Some-clause-outcome g c = outcome_of_row _ _ _ _ _ c.in-Some.ensures c.run_row.ensures.outcome

pub run_row-requires-clause-may_store : goal.run_row-requires-clause-may_store
run_row-requires-clause-may_store g c = λ name stored. c.requires.may_store _ name c.in-Some.ensures stored

pub returns-in-None-clause-within : goal.returns-in-None-clause-within
returns-in-None-clause-within g c = λ row is no_memory. absurd (c.in-None.ensures row is)

pub returns-in-Some-clause-within : goal.returns-in-Some-clause-within
returns-in-Some-clause-within g c = λ row is no_memory.
    subst (λ (x : Row). IsRowWithin x (g.D.Depot.files c.args.depot.now) c.args.steps.now c.run_row.new.steps) (c.one_row.ensures (texts c.args.words.now) _ row c.in-Some.ensures is) (c.run_row.ensures.within no_memory)

-- The effects of a top call on the outside, by its status.
use Rattle.std.specs.Prelude.{◌≡◌, ◌⊎◌, ℕ, List, [], Option, Some, take, IfSome, IsSomeAnd, ⊤}
use Rattle.std.specs.Io.KnownBytes.{append_known}
use Rattle.vox_depot.specs.Causes.{Rose}
use Rattle.vox_depot.specs.Files.{Files, others}
use Rattle.nanobot_rows.specs.declared.status.Status.{Status}
use Rattle.nanobot_rows.specs.declared.status.Status.TheVariants as is
use Rattle.nanobot_rows.specs.Answer.{Reply, Answers}
use Rattle.nanobot_rows.specs.declared.effect.Effect.{Effect}
use Rattle.nanobot_rows.specs.declared.report.Report.{Report}
use Rattle.nanobot_rows.specs.Effects.{IsUnstored, bytes_by, status_by, told_with}
use Rattle.nanobot_rows.specs.Report.{report_line, status_of}
use Rattle.nanobot_words.specs.Rows.{Row, IsRow, stores_of}

-- the depot's files, faults and failed stores, and the sink's bytes and faults
pub record Outside : Type 0 where
  pub files : Option Files
  pub depot_faults : ℕ
  pub failed_stores : ℕ
  pub written : Option (List ℕ)
  pub sink_faults : ℕ

-- those of a depot and a sink, as given by their traits
abbrev pub outside : {D O : Type 0} → (D → Option Files) → (D → ℕ) → (D → ℕ) → (O → Option (List ℕ)) → (O → ℕ) → D → O
    → Outside
outside files depot_faults failed_stores written sink_faults depot out = record {
  files = files depot;
  depot_faults = depot_faults depot;
  failed_stores = failed_stores depot;
  written = written out;
  sink_faults = sink_faults out;
}

-- a status that is no fault of the outside and not out of memory
abbrev pub IsAnswer : Status → Type 0
IsAnswer is.Depot = ⊥
IsAnswer is.Sink = ⊥
IsAnswer is.Memory = ⊥
IsAnswer _ = ⊤

-- if the files are known: there is an answer to them, and the files now are the answer's
abbrev pub AnswerStands : Answers → Outside → Outside → (Reply → Type 0) → Type 0
AnswerStands answers old new p =
    IfSome old.files (λ files. (reply : Reply) × answers files reply × (new.files ≡ Some reply.after) × p reply)

-- the files are known, and a file to be read does not exist
abbrev pub LacksFile : Answers → Outside → Type 0
LacksFile answers old =
    IsSomeAnd old.files (λ files. answers files (record { status = is.Depot; line = []; after = files }))

-- a file could not be stored: its store failed although, if the files are known, the call can succeed over them; and all
-- files but the one to store are unchanged
pub record LosesFile (answers : Answers) (stores : List ℕ → Type 0) (old new : Outside) : Type 0 where
  pub failed : Rose old.failed_stores new.failed_stores
  pub done : IfSome old.files (λ files. (reply : Reply) × answers files reply × (reply.status ≡ is.Done))
  pub name : List ℕ
  pub stored : stores name
  pub others_are : others new.files name ≡ others old.files name

-- all files are unchanged, or one could not be stored
abbrev pub SparesOthers : Answers → (List ℕ → Type 0) → Outside → Outside → Type 0
SparesOthers answers stores old new = (new.files ≡ old.files) ⊎ LosesFile answers stores old new

-- the whole line was written
abbrev pub Delivered : Status → Outside → Outside → Reply → Type 0
Delivered result old new reply = (reply.status ≡ result) × (new.written ≡ append_known old.written reply.line)

-- a prefix of the line was written
abbrev pub DeliveredPart : Outside → Outside → Reply → Type 0
DeliveredPart old new reply = (n : ℕ) × (new.written ≡ append_known old.written (take n reply.line))

pub record CallOutcome (answers : Answers) (stores : List ℕ → Type 0) (old new : Outside) (result : Status)
    : Type 0 where
  pub answer : IsAnswer result → AnswerStands answers old new (Delivered result old new)
  pub depot : result ≡ is.Depot → Rose old.depot_faults new.depot_faults ⊎ LacksFile answers old
  pub sink : result ≡ is.Sink → Rose old.sink_faults new.sink_faults
  pub after_depot : result ≡ is.Depot → (new.written ≡ old.written) × SparesOthers answers stores old new
  pub after_sink : result ≡ is.Sink → AnswerStands answers old new (DeliveredPart old new)
  pub after_memory : result ≡ is.Memory → (new.files ≡ old.files) × (new.written ≡ old.written)

-- the name that the command stores
abbrev pub StoredBy : List (List ℕ) → List ℕ → Type 0
StoredBy words name = (row : Row) × IsRow words row × (stores_of row ≡ Some name)

-- the effect of one put of a line: it was written whole, or a prefix of it
pub record Printed (status : Status) (line : List ℕ) (old new : Option (List ℕ)) (before now : ℕ) (result : Status)
    : Type 0 where
  pub cases : ((result ≡ status) × (new ≡ append_known old line))
      ⊎ ((result ≡ is.Sink) × Rose before now × ((n : ℕ) × (new ≡ append_known old (take n line))))

-- the same for a report, whose line needs an allocation
pub record Told (report : Report) (old new : Option (List ℕ)) (before now : ℕ) (result : Status) : Type 0 where
  pub cases :
      ((result ≡ is.Memory) × (new ≡ old)) ⊎ Printed (status_of report) (report_line report) old new before now result

-- the name that the command stores
abbrev pub RowStores : Row → List ℕ → Type 0
RowStores row name = stores_of row ≡ Some name

-- the effect was carried out: not at all, out of memory; or the file was not stored; or it was, and the line was put
pub record Finished (effect : Effect) (old new : Outside) (result : Status) : Type 0 where
  pub cases : ((result ≡ is.Memory) × (new.files ≡ old.files) × (new.written ≡ old.written)) ⊎ (((result ≡ is.Depot)
      × Rose old.depot_faults new.depot_faults × Rose old.failed_stores new.failed_stores × (new.written ≡ old.written)
      × IsUnstored effect.file old.files new.files) ⊎ ((new.files ≡ told_with old.files effect.file) × Printed
      (status_by effect.message) (bytes_by effect.message) old.written new.written old.sink_faults new.sink_faults
      result))

-- The caller's bytes, as the files and the names of a row.
use Rattle.std.specs.Prelude.{ℕ, Bool, true, false, List, [], ◌∷◌, codes, Option, Some, None}
use Rattle.std.specs.FinMap as finite
use Rattle.vox_depot.specs.Files.{Files}
use Rattle.nanobot_words.specs.declared.row.Round.{Round}
use Rattle.nanobot_words.specs.declared.row.Round.TheVariants.{Full, Light}
use Rattle.nanobot_words.specs.Rows.{Row, run}
use Rattle.nanobot_c.specs.declared.lent.Lent.{Lent}

-- the names of the files, and of the one that a plan is stored as
abbrev pub source_name : List ℕ
source_name = codes "s"

abbrev pub target_name : List ℕ
target_name = codes "t"

abbrev pub trace_name : List ℕ
trace_name = codes "b"

abbrev pub plan_name : List ℕ
plan_name = codes "p"

-- the files of the bytes of a source, a target and a trace
abbrev pub lent : List ℕ → List ℕ → List ℕ → Files
lent source target trace =
    finite.insert (finite.insert (finite.insert finite.empty source_name source) target_name target) trace_name trace

abbrev pub lent_files : Lent → Files
lent_files l = lent l.source.now l.target.now l.trace.now

-- the file of the name, or none if it has no bytes: that is the empty model of the other's resolution
abbrev pub side_named : List ℕ → List ℕ → Option (List ℕ)
side_named name [] = None
side_named name (b ∷ bytes) = Some name

abbrev pub source_side : List ℕ → Option (List ℕ)
source_side source = side_named source_name source

abbrev pub target_side : List ℕ → Option (List ℕ)
target_side target = side_named target_name target

-- the light round, or the full one
abbrev pub round_of : Bool → Round
round_of true = Light
round_of false = Full

-- the row that runs a trace in it
abbrev pub run_row : Bool → List ℕ → List ℕ → Row
run_row light source target = run (round_of light) (source_side source) (target_side target) trace_name

-- The table of words: each row as the words that it is written with (this project's own: docs/FORMATS.md, "Printed
-- lines").
use Rattle.std.specs.Prelude.{◌≡◌, ◌≢◌, ◌<◌, ◌≤◌, ◌^◌, ℕ, List, [], ◌∷◌, map, codes, decimal, Option, Some, None, String, string_bytes, All, ⊤}
use Rattle.vox_geom.specs.declared.TheConstants.{MOST_R}
use Rattle.nanobot_words.specs.declared.planner.Planner.{Planner}
use Rattle.nanobot_words.specs.declared.planner.Planner.TheVariants.{Layer, Group, Crew, Void, Low, Swarm}
use Rattle.nanobot_words.specs.declared.row.Round.{Round}
use Rattle.nanobot_words.specs.declared.row.Round.TheVariants.{Full, Light}

-- a source or a target is the file of a name, or by `None` the empty model of the other's resolution
pub data Row : Type 0 where
  check : (model : List ℕ) → Row
  run : (round : Round) (source target : Option (List ℕ)) (trace : List ℕ) → Row
  asm : (text trace : List ℕ) → Row
  dis : (trace text : List ℕ) → Row
  make : (number resolution : ℕ) (model : List ℕ) → Row
  plan : (planner : Planner) (source target : Option (List ℕ)) (trace : List ℕ) → Row
  exercise : (number resolution : ℕ) → Row
  debug : (source trace script : List ℕ) → Row

-- the word of a source or a target
abbrev pub side_word : Option (List ℕ) → List ℕ
side_word None = codes "-"
side_word (Some name) = name

-- the word of a round, before others: the full round has none
abbrev pub with_round : Round → List (List ℕ) → List (List ℕ)
with_round Full words = words
with_round Light words = codes "light" ∷ words

-- the word of a planner
abbrev pub planner_word : Planner → List ℕ
planner_word Layer = codes "layer"
planner_word Group = codes "group"
planner_word Crew = codes "crew"
planner_word Void = codes "void"
planner_word Low = codes "low"
planner_word Swarm = codes "swarm"

-- the words of a row
abbrev pub row_words : Row → List (List ℕ)
row_words (check model) = codes "check" ∷ model ∷ []
row_words (run round source target trace) =
    codes "run" ∷ with_round round (side_word source ∷ side_word target ∷ trace ∷ [])
row_words (asm text trace) = codes "asm" ∷ text ∷ trace ∷ []
row_words (dis trace text) = codes "dis" ∷ trace ∷ text ∷ []
row_words (make number resolution model) = codes "make" ∷ decimal number ∷ decimal resolution ∷ model ∷ []
row_words (plan planner source target trace) =
    codes "plan" ∷ planner_word planner ∷ side_word source ∷ side_word target ∷ trace ∷ []
row_words (exercise number resolution) = codes "exercise" ∷ decimal number ∷ decimal resolution ∷ []
row_words (debug source trace script) = codes "debug" ∷ source ∷ trace ∷ script ∷ []

-- a name, if there is one, before others
abbrev pub with_side : Option (List ℕ) → List (List ℕ) → List (List ℕ)
with_side None names = names
with_side (Some name) names = name ∷ names

-- the names of the files that it reads, in the order of reading
abbrev pub reads_of : Row → List (List ℕ)
reads_of (check model) = model ∷ []
reads_of (run round source target trace) = with_side source (with_side target (trace ∷ []))
reads_of (asm text trace) = text ∷ []
reads_of (dis trace text) = trace ∷ []
reads_of (plan planner source target trace) = with_side source (with_side target [])
reads_of (debug source trace script) = source ∷ trace ∷ script ∷ []
reads_of row = []

-- the name of the file that it stores
abbrev pub stores_of : Row → Option (List ℕ)
stores_of (asm text trace) = Some trace
stores_of (dis trace text) = Some text
stores_of (make number resolution model) = Some model
stores_of (plan planner source target trace) = Some trace
stores_of row = None

-- one of the two is the file of a name
abbrev pub HasName : Option (List ℕ) → Option (List ℕ) → Type 0
HasName None None = ⊥
HasName source target = ⊤

-- the first of the two alone is the file of a name
abbrev pub HasOnly : Option (List ℕ) → Option (List ℕ) → Type 0
HasOnly (Some name) None = ⊤
HasOnly side other = ⊥

-- the planner plans between such a source and such a target: between any two, from a source alone, or to a target alone
abbrev pub TakesSides : Planner → Option (List ℕ) → Option (List ℕ) → Type 0
TakesSides Void source target = HasOnly source target
TakesSides Low source target = HasOnly target source
TakesSides Swarm source target = HasOnly target source
TakesSides planner source target = HasName source target

-- a number and a resolution of the forge
abbrev pub CanForge : ℕ → ℕ → Type 0
CanForge number resolution = (number < 2 ^ 32) × (1 ≤ resolution) × (resolution ≤ MOST_R)

-- the row is of the table
abbrev pub IsOfTable : Row → Type 0
IsOfTable (run round source target trace) = HasName source target
IsOfTable (make number resolution model) = CanForge number resolution
IsOfTable (plan planner source target trace) = TakesSides planner source target
IsOfTable (exercise number resolution) = CanForge number resolution
IsOfTable row = ⊤

-- the command makes a plan, and any plan with the required facts may be made
abbrev pub MakesPlans : Row → Type 0
MakesPlans (plan planner source target trace) = ⊤
MakesPlans (exercise number resolution) = ⊤
MakesPlans row = ⊥

-- `-` is no name of a file
abbrev pub IsName : List ℕ → Type 0
IsName name = name ≢ codes "-"

-- three words are written as this source, this target and this trace
pub record AreOperands (x y z : List ℕ) (source target : Option (List ℕ)) (trace : List ℕ) : Type 0 where
  pub source_is : x ≡ side_word source
  pub target_is : y ≡ side_word target
  pub trace_is : z ≡ trace
  pub named : All IsName (with_side source (with_side target (trace ∷ [])))
  pub of_table : HasName source target

-- the words are written as the run of a trace from a source to a target in the full round
pub record IsRunOf (words : List (List ℕ)) (source target : Option (List ℕ)) (trace : List ℕ) : Type 0 where
  pub written : words ≡ codes "run" ∷ side_word source ∷ side_word target ∷ trace ∷ []
  pub named : All IsName (with_side source (with_side target (trace ∷ [])))
  pub of_table : HasName source target

-- the arguments are those of this command
pub record IsRow (words : List (List ℕ)) (row : Row) : Type 0 where
  pub written : words ≡ row_words row
  pub named : All IsName (with_side (stores_of row) (reads_of row))
  pub of_table : IsOfTable row

-- the arguments are no command
abbrev pub IsInNoRow : List (List ℕ) → Type 0
IsInNoRow words = (row : Row) → IsRow words row → ⊥

-- the bytes of each word
abbrev pub texts : {Y : Type 0} → List (String Y) → List (List ℕ)
texts words = map string_bytes words

-- each name that the command reads may be fetched
abbrev pub MayRead : (List ℕ → Type 0) → List (List ℕ) → Type 0
MayRead may_fetch words = (row : Row) → IsRow words row → All may_fetch (reads_of row)

-- the name that the command stores may be stored
abbrev pub MayStore : (List ℕ → Type 0) → List (List ℕ) → Type 0
MayStore may_store words = (row : Row) (name : List ℕ) → IsRow words row → stores_of row ≡ Some name → may_store name

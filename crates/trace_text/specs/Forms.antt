-- The readings after a word.
use Rattle.std.specs.Prelude.{◌≡◌, Bool, true, false, ℤ, List, [], ◌∷◌, Result, Ok, Err}
use Rattle.vox_geom.specs.declared.difference.Diff.{Diff}
use Rattle.nano_spec.specs.declared.commands.Command.{Command}
use Rattle.nano_spec.specs.Line.{Line, Says, Faulty}
use Rattle.trace_text.specs.declared.fault.Fault.{Fault}
use Rattle.trace_text.specs.declared.fault.Fault.TheVariants.{Shape, Range}
use Rattle.trace_text.specs.Text.{fault_of}

-- the meaning of a line with a command, or with a fault
abbrev pub said_is : Result Command Fault → Line
said_is (Ok command) = Says command
said_is (Err fault) = Faulty (fault_of fault)

-- nothing follows, and the answer is the command, or something does
abbrev pub StandsAlone : List (List ℤ) → Command → Result Command Fault → Type 0
StandsAlone readings command (Ok answer) = (readings ≡ [] ∷ []) × (answer ≡ command)
StandsAlone readings command (Err fault) = (readings ≡ []) × (fault ≡ Shape)

-- the one reading is a difference, or there is none
abbrev pub IsOne : List (List ℤ) → Result Diff Fault → Type 0
IsOne readings (Ok d) = readings ≡ (d.dx ∷ d.dy ∷ d.dz ∷ []) ∷ []
IsOne readings (Err fault) = (readings ≡ []) × (fault ≡ Shape)

-- the one reading is two differences, or there is none
abbrev pub IsTwo : List (List ℤ) → Result (Diff × Diff) Fault → Type 0
IsTwo readings (Ok (d, e)) = readings ≡ (d.dx ∷ d.dy ∷ d.dz ∷ e.dx ∷ e.dy ∷ e.dz ∷ []) ∷ []
IsTwo readings (Err fault) = (readings ≡ []) × (fault ≡ Shape)

-- the one reading is a number, or there is none
abbrev pub IsNumber : List (List ℤ) → Result ℤ Fault → Type 0
IsNumber readings (Ok n) = readings ≡ (n ∷ []) ∷ []
IsNumber readings (Err fault) = (readings ≡ []) × (fault ≡ Shape)

-- a difference is of its kind, or it is not
abbrev pub IsKind : Bool → Diff → Result Diff Fault → Type 0
IsKind is_kind difference (Ok answer) = (is_kind ≡ true) × (answer ≡ difference)
IsKind is_kind difference (Err fault) = (is_kind ≡ false) × (fault ≡ Range)

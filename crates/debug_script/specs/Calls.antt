-- The types of the code in the definitions.
use Rattle.std.specs.Prelude.{◌≡◌, ℕ, List, [], ◌∷◌, codes, map, ⊤, Result, Ok, Err, Vec}
use Rattle.nano_spec.specs.Line.{Fault}
use Rattle.trace_text.specs.declared.fault.TextFault.{TextFault}
use Rattle.trace_text.specs.declared.fault.TextFault.TheVariants.{Memory, Refused}
use Rattle.trace_text.specs.declared.fault.TextRefusal.{TextRefusal}
use Rattle.trace_text.specs.Text.{faulty_line}
use Rattle.step_debugger.specs.Session as session
use Rattle.debug_script.specs.declared.line.ScriptLine.{ScriptLine}
use Rattle.debug_script.specs.declared.line.ScriptLine.TheVariants as code
use Rattle.debug_script.specs.declared.word.ScriptWord.{ScriptWord}
use Rattle.debug_script.specs.declared.word.ScriptWord.TheVariants as word
use Rattle.debug_script.specs.Script.{ScriptSays}

-- a line, by the definitions
abbrev pub script_line_is : ScriptLine → session.DebugLine
script_line_is code.Step = session.Step
script_line_is (code.Group leader) = session.Group leader
script_line_is code.Back = session.Back
script_line_is code.Bots = session.Bots
script_line_is (code.Voxel at) = session.Voxel at

abbrev pub lines_are : List ScriptLine → List session.DebugLine
lines_are script = map script_line_is script

-- the words in the code, and their letters
abbrev pub all_words : List ScriptWord
all_words = word.Step ∷ word.Group ∷ word.Back ∷ word.Bots ∷ word.Voxel ∷ []

abbrev pub script_letters : ScriptWord → List ℕ
script_letters word.Step = codes "step"
script_letters word.Group = codes "group"
script_letters word.Back = codes "back"
script_letters word.Bots = codes "bots"
script_letters word.Voxel = codes "voxel"

-- the line of this number was read as the definition says, if P is its meaning
abbrev pub IsReadBy : (Result session.DebugLine Fault → Type 0) → ℕ → Result ScriptLine TextRefusal → Type 0
IsReadBy P number (Ok what) = P (Ok (script_line_is what))
IsReadBy P number (Err refusal) = P (Err (faulty_line refusal).fault) × ((faulty_line refusal).line ≡ number)

-- a script was read as the definition says, unless allocation failed
abbrev pub ReadsScript : {Y : Type 0} → ℕ → List ℕ → Result (Vec ScriptLine Y) TextFault → Type 0
ReadsScript r bytes (Ok script) = ScriptSays r bytes (Ok (lines_are script.items))
ReadsScript r bytes (Err (Refused refusal)) = ScriptSays r bytes (Err (faulty_line refusal))
ReadsScript r bytes (Err Memory) = ⊤

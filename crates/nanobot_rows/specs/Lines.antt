-- The as_line lines, each with its line feed (docs/FORMATS.md, "Printed lines").
use Rattle.std.specs.Prelude.{ℕ, ℤ, List, [], ◌∷◌, codes, decimal}
use Rattle.std.specs.Fmt.{signed_decimal}
use Rattle.vox_geom.specs.declared.coordinate.Coord.{Coord}
use Rattle.nano_spec.specs.Cutting.{BadAt, CutAt, NoTrace}
use Rattle.nano_spec.specs.Legal.{NotLegal, Border, Floating}
use Rattle.nano_spec.specs.Line as line
use Rattle.nano_spec.specs.Line.{Fault}
use Rattle.nano_spec.specs.Model as model
use Rattle.nano_spec.specs.Model.{NoModel}
use Rattle.debug_script.specs.Broken.{as_line, printed_place}
use Rattle.nanobot_rows.specs.declared.report.Cost.{Cost}
use Rattle.nanobot_rows.specs.declared.report.Who.{Who}
use Rattle.nanobot_rows.specs.declared.report.Who.TheVariants as who

-- ---- refusals

-- the line of arguments that are no command
abbrev pub words_line : List ℕ
words_line = codes "words not understood\n"

-- the role of a refused model
abbrev pub who_of : Who → List ℕ
who_of who.Model = codes "model"
who_of who.Source = codes "source"
who_of who.Target = codes "target"

-- the line of bytes that are no model
abbrev pub no_model_line : Who → NoModel → List ℕ
no_model_line who model.NoByte = as_line (who_of who ∷ codes " 1 NoByte" ∷ [])
no_model_line who (model.Resolution r) = as_line (who_of who ∷ codes " 2 Resolution " ∷ decimal r ∷ [])
no_model_line who (model.Short want have) =
    as_line (who_of who ∷ codes " 3 Short want " ∷ decimal want ∷ codes " have " ∷ decimal have ∷ [])
no_model_line who (model.Long want) = as_line (who_of who ∷ codes " 4 Long want " ∷ decimal want ∷ [])
no_model_line who (model.WideHead have) = as_line (who_of who ∷ codes " 8 WideHead have " ∷ decimal have ∷ [])
no_model_line who (model.WideResolution r) = as_line (who_of who ∷ codes " 9 WideResolution " ∷ decimal r ∷ [])
no_model_line who (model.WideRun index) = as_line (who_of who ∷ codes " 10 WideRun index " ∷ decimal index ∷ [])
no_model_line who (model.WideShort have) = as_line (who_of who ∷ codes " 11 WideShort have " ∷ decimal have ∷ [])
no_model_line who model.WideLong = as_line (who_of who ∷ codes " 12 WideLong" ∷ [])

-- the line of a model that is not legal
abbrev pub not_legal_line : Who → NotLegal → List ℕ
not_legal_line who (Border at) = as_line (who_of who ∷ codes " 6 Border at " ∷ printed_place at ∷ [])
not_legal_line who (Floating at) = as_line (who_of who ∷ codes " 7 Floating at " ∷ printed_place at ∷ [])

-- the line of two models of different resolutions
abbrev pub resolutions_line : ℕ → ℕ → List ℕ
resolutions_line source target = as_line (codes "resolutions " ∷ decimal source ∷ codes " " ∷ decimal target ∷ [])

-- the line of a trace that is refused from the offset on: it is no command there, or ends within one
abbrev pub trace_line : NoTrace → List ℕ
trace_line (BadAt offset) = as_line (codes "trace bad at " ∷ decimal offset ∷ [])
trace_line (CutAt offset) = as_line (codes "trace cut at " ∷ decimal offset ∷ [])

-- the line of a file over a limit in bytes: a trace, or a text or script
abbrev pub long_line : List ℕ → ℕ → List ℕ
long_line kind limit = as_line (kind ∷ codes " longer than " ∷ decimal limit ∷ [])

-- the line of a text, or of a script, with this faulty line
abbrev pub text_line : Fault → ℕ → List ℕ
text_line line.NotAscii n = as_line (codes "text 1 NotAscii line " ∷ decimal n ∷ [])
text_line line.UnknownWord n = as_line (codes "text 2 UnknownWord line " ∷ decimal n ∷ [])
text_line line.Shape n = as_line (codes "text 3 Shape line " ∷ decimal n ∷ [])
text_line line.Range n = as_line (codes "text 4 Range line " ∷ decimal n ∷ [])

-- the line of a plan of the group planner that may be too long, by runs and rows of both models
abbrev pub group_long_line : ℕ → ℕ → List ℕ
group_long_line runs rows =
    as_line (codes "group plan too long runs " ∷ decimal runs ∷ codes " rows " ∷ decimal rows ∷ [])

-- the line of a target with an unsupported part
abbrev pub unsupported_line : Coord → List ℕ
unsupported_line at = as_line (codes "unsupported at " ∷ printed_place at ∷ [])

-- ---- success

-- the line of an accepted run
abbrev pub accepted_line : ℤ → ℕ → List ℕ
accepted_line energy steps = as_line (codes "ok energy " ∷ signed_decimal energy ∷ codes " steps " ∷ decimal steps ∷ [])

-- the line of a legal model with `full` full voxels
abbrev pub legal_line : ℕ → ℕ → List ℕ
legal_line resolution full =
    as_line (codes "legal resolution " ∷ decimal resolution ∷ codes " full " ∷ decimal full ∷ [])

-- the line of a file: its length in bytes, and the number of commands in its trace or text
abbrev pub stored_line : ℕ → ℕ → List ℕ
stored_line commands bytes = as_line (codes "commands " ∷ decimal commands ∷ codes " bytes " ∷ decimal bytes ∷ [])

-- the line of a forged model
abbrev pub forged_line : ℕ → ℕ → List ℕ
forged_line resolution full =
    as_line (codes "model resolution " ∷ decimal resolution ∷ codes " full " ∷ decimal full ∷ [])

-- the line of a plan: its energy, steps, commands, and bytes of its trace
abbrev pub planned_line : ℤ → ℕ → ℕ → ℕ → List ℕ
planned_line energy steps commands bytes =
    as_line (codes "plan energy " ∷ signed_decimal energy ∷ codes " steps " ∷ decimal steps ∷ codes " commands "
    ∷ decimal commands ∷ codes " bytes " ∷ decimal bytes ∷ [])

-- the line of a forged model and of the costs of its plans
abbrev pub exercised_line : ℕ → ℕ → ℕ → Cost → Cost → List ℕ
exercised_line number resolution full layer group =
    as_line (codes "exercise number " ∷ decimal number ∷ codes " resolution " ∷ decimal resolution ∷ codes " full "
    ∷ decimal full ∷ codes " layer energy " ∷ signed_decimal layer.energy ∷ codes " steps " ∷ decimal layer.steps
    ∷ codes " group energy " ∷ signed_decimal group.energy ∷ codes " steps " ∷ decimal group.steps ∷ [])

-- The results for the bytes of a model, and for the question whether it is legal (docs/FORMATS.md, "Model files",
-- "Refusals").
use Rattle.std.specs.Prelude.{◌≡◌, ◌⊎◌, ℕ, Result, Ok, Err, Some, None, ⊤}
use mathlib.Core.Logic.{inl, inr}
use Rattle.nano_spec.specs.Legal as legal
use Rattle.nano_spec.specs.Legal.{Legality, NotLegal}
use Rattle.nano_spec.specs.Matrix.{Matrix}
use Rattle.nano_spec.specs.Model as spec
use Rattle.nano_spec.specs.Model.{NoModel}
use Rattle.model_file.specs.declared.fault.ModelFault.{ModelFault}
use Rattle.model_file.specs.declared.fault.ModelFault.TheVariants.{Memory, Refused}
use Rattle.model_file.specs.declared.fault.ModelRefusal.{ModelRefusal}
use Rattle.model_file.specs.declared.fault.ModelRefusal.TheVariants.{NoByte, Resolution, Short, Long, Border, Floating, WideHead, WideResolution, WideRun, WideShort, WideLong}

-- the number by which a refusal is printed
abbrev pub model_refusal_number : ModelRefusal → ℕ
model_refusal_number NoByte = 1
model_refusal_number (Resolution r) = 2
model_refusal_number (Short want have) = 3
model_refusal_number (Long want) = 4
model_refusal_number (Border at) = 6
model_refusal_number (Floating at) = 7
model_refusal_number (WideHead have) = 8
model_refusal_number (WideResolution r) = 9
model_refusal_number (WideRun index) = 10
model_refusal_number (WideShort have) = 11
model_refusal_number WideLong = 12

-- the reason why bytes are no model, or why a model is not legal, by the definitions
abbrev pub why_refused : ModelRefusal → NoModel ⊎ NotLegal
why_refused NoByte = inl spec.NoByte
why_refused (Resolution r) = inl (spec.Resolution r)
why_refused (Short want have) = inl (spec.Short want have)
why_refused (Long want) = inl (spec.Long want)
why_refused (Border at) = inr (legal.Border at)
why_refused (Floating at) = inr (legal.Floating at)
why_refused (WideHead have) = inl (spec.WideHead have)
why_refused (WideResolution r) = inl (spec.WideResolution r)
why_refused (WideRun index) = inl (spec.WideRun index)
why_refused (WideShort have) = inl (spec.WideShort have)
why_refused WideLong = inl spec.WideLong

-- the bytes encode no model for this reason, and the reason is none by which a model is not legal
abbrev pub SaysNone : Result Matrix NoModel → NoModel ⊎ NotLegal → Type 0
SaysNone said (inl why) = said ≡ Err why
SaysNone said (inr why) = ⊥

-- the model is not legal for this reason, and the reason is none by which bytes are no model
abbrev pub IsNotLegal : Matrix → NoModel ⊎ NotLegal → Type 0
IsNotLegal m (inl why) = ⊥
IsNotLegal m (inr why) = Legality m (Some why)

-- the result is the model or the refusal of the bytes, unless allocation failed
abbrev pub ReadsModel : Result Matrix NoModel → Result Matrix ModelFault → Type 0
ReadsModel said (Ok m) = said ≡ Ok m
ReadsModel said (Err (Refused refusal)) = SaysNone said (why_refused refusal)
ReadsModel said (Err Memory) = ⊤

-- the result is whether the model is legal, and if not, the reason, unless allocation failed
abbrev pub Judges : Matrix → Result (Unit {0}) ModelFault → Type 0
Judges m (Ok done) = Legality m None
Judges m (Err (Refused refusal)) = IsNotLegal m (why_refused refusal)
Judges m (Err Memory) = ⊤

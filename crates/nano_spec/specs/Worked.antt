-- Worked examples: the verdict on a trace, from the bytes of the two models and of the trace.
use Prim.Native.String.{String}
use Rattle.std.specs.Prelude.{◌≡◌, ℕ, ◌+◌, ◌-◌, ◌*◌, ℤ, pos, neg_ℤ, cond, nat_lt, codes, List, [], ◌∷◌, Ok}
use Rattle.std.specs.List.{list_any}
use Rattle.vox_geom.specs.declared.coordinate.Coord.{Coord}
use Rattle.vox_geom.specs.declared.difference.Diff.{Diff}
use Rattle.vox_geom.specs.Point.{point, same_point}
use Rattle.nano_spec.specs.declared.commands.Command.{Command}
use Rattle.nano_spec.specs.declared.outcomes.Rule.{Rule}
use Rattle.nano_spec.specs.declared.outcomes.Verdict.{Verdict}
use Rattle.nano_spec.specs.declared.outcomes.Verdict.TheVariants.{Accepted, Refused}
use Rattle.nano_spec.specs.declared.system.Profile.{Profile}
use Rattle.nano_spec.specs.Cutting.{Decoding}
use Rattle.nano_spec.specs.Legal.{IsLegal}
use Rattle.nano_spec.specs.Matrix.{Matrix, matrix_where}
use Rattle.nano_spec.specs.Model.{model}
use Rattle.nano_spec.specs.Profile.{full_profile, light_profile}
use Rattle.nano_spec.specs.Reading.{read}
use Rattle.nano_spec.specs.Spelling.{spellings}
use Rattle.nano_spec.specs.Verdict.{VerdictOf}

-- the value of a hexadecimal digit: 0 to 9 or A to F
abbrev pub digit_value : ℕ → ℕ
digit_value b = cond (nat_lt b 65) (b - 48) (b - 55)

-- the bytes of a text of hexadecimal digits, two for each byte, with one space between two bytes
abbrev pub bytes_of : List ℕ → List ℕ
bytes_of [] = []
bytes_of (a ∷ []) = []
bytes_of (a ∷ b ∷ []) = (16 * digit_value a + digit_value b) ∷ []
bytes_of (a ∷ b ∷ space ∷ more) = (16 * digit_value a + digit_value b) ∷ bytes_of more

-- the bytes of hexadecimal digits
abbrev pub hex : String → List ℕ
hex text = bytes_of (codes text)

-- ---- files of models

-- the empty models of the resolutions 1, 3, 4 and 5
abbrev pub empty_1 : List ℕ
empty_1 = hex "01 00"

abbrev pub empty_3 : List ℕ
empty_3 = hex "03 00 00 00 00"

abbrev pub empty_4 : List ℕ
empty_4 = hex "04 00 00 00 00 00 00 00 00"

abbrev pub empty_5 : List ℕ
empty_5 = hex "05 00 00 00 00 00 00 00 00 00 00 00 00 00 00 00 00"

-- at resolution 3 the voxel (1,0,1)
abbrev pub one_voxel : List ℕ
one_voxel = hex "03 00 04 00 00"

-- at resolution 4 the voxels (1,0,1) and (1,1,1)
abbrev pub two_voxels : List ℕ
two_voxels = hex "04 00 00 22 00 00 00 00 00"

-- at resolution 5 the voxels (1,0,1), (1,0,2) and (1,0,3)
abbrev pub a_line : List ℕ
a_line = hex "05 00 00 00 1C 00 00 00 00 00 00 00 00 00 00 00 00"

-- at resolution 5 a ring of eight voxels at y = 1 around (2,1,2), on the post (1,0,1), on that and the post (3,0,3), and
-- on the latter alone
abbrev pub ring_on_a_post : List ℕ
ring_on_a_post = hex "05 00 00 00 84 03 00 00 05 00 00 0E 00 00 00 00 00"

abbrev pub ring_on_two_posts : List ℕ
ring_on_two_posts = hex "05 00 00 00 84 03 00 00 05 00 40 0E 00 00 00 00 00"

abbrev pub ring_on_the_other_post : List ℕ
ring_on_the_other_post = hex "05 00 00 00 80 03 00 00 05 00 40 0E 00 00 00 00 00"

-- ---- commands

-- the commands of the text are spelled by the bytes
abbrev pub Assembles : String → String → Type 0
Assembles text bytes = (commands : List Command) × (read (codes text) ≡ Ok commands) × (spellings commands ≡ hex bytes)

-- ---- runs

-- the bytes of both models are legal models, those of the trace are commands, and this is the verdict with the profile
pub record Runs (profile : Profile) (source target trace : List ℕ) (verdict : Verdict) : Type 0 where
  pub from : Matrix
  pub to : Matrix
  pub commands : List Command
  pub source_is : model source ≡ Ok from
  pub target_is : model target ≡ Ok to
  pub from_is_legal : IsLegal from
  pub to_is_legal : IsLegal to
  pub trace_is : Decoding trace (Ok commands)
  pub verdict_is : VerdictOf from to commands profile verdict

-- the trace is accepted
abbrev pub Accepts : List ℕ → List ℕ → List ℕ → ℤ → ℕ → Type 0
Accepts source target trace energy steps = Runs full_profile source target trace (Accepted energy steps)

-- the trace is refused
abbrev pub Refuses : List ℕ → List ℕ → List ℕ → Rule → ℕ → ℕ → Coord → Type 0
Refuses source target trace rule step bid at =
    Runs full_profile source target trace (Refused (record { step = step; bid = bid; rule = rule; at = at }))

-- the trace is accepted with the light profile
abbrev pub AcceptsLight : List ℕ → List ℕ → List ℕ → ℤ → ℕ → Type 0
AcceptsLight source target trace energy steps = Runs light_profile source target trace (Accepted energy steps)

-- the trace is refused with the light profile
abbrev pub RefusesLight : List ℕ → List ℕ → List ℕ → Rule → ℕ → ℕ → Coord → Type 0
RefusesLight source target trace rule step bid at =
    Runs light_profile source target trace (Refused (record { step = step; bid = bid; rule = rule; at = at }))

-- a negative number
abbrev pub below_zero : ℕ → ℤ
below_zero n = neg_ℤ (pos n)

-- a difference by its components
abbrev pub diff : ℤ → ℤ → ℤ → Diff
diff x y z = record { dx = x; dy = y; dz = z }

-- the matrix with these full voxels
abbrev pub voxels_at : ℕ → List Coord → Matrix
voxels_at r cs = matrix_where r (λ c. list_any (λ d. same_point (point d) (point c)) cs)

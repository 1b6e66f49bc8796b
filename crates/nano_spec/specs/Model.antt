-- The model that the bytes of a model file encode, and how a model is written (task description, section on model
-- files; the refusals, the wide form and its runs are this project's own: docs/FORMATS.md, "Model files").
use Rattle.std.specs.Prelude.{ℕ, ◌+◌, ◌*◌, ◌/◌, ◌%◌, ◌^◌, Bool, true, false, cond, ◌&&◌, ◌||◌, not, nat_le, nat_lt, ◌==◌, List, [], ◌∷◌, ◌++◌, length, slice_index, slice_index_or, map, flat_map, sum_by, Result, Ok, Err, replicate}
use Rattle.vox_geom.specs.Space.{numbers_below}
use Rattle.nano_spec.specs.First.{with_first}
use Rattle.nano_spec.specs.Matrix.{Matrix}

-- the reason why bytes are no model. In the first form: no byte; a resolution that is not 1 to 250; too few bytes; too
-- many. In the wide form: fewer than three bytes; a resolution that is not 251 to 400; a run that is 0 or too long, by
-- its index; no whole run although voxels are missing, by the number of voxels before; bytes after the last voxel
pub data NoModel : Type 0 where
  NoByte : NoModel
  Resolution : ℕ → NoModel
  Short : ℕ → ℕ → NoModel
  Long : ℕ → NoModel
  WideHead : ℕ → NoModel
  WideResolution : ℕ → NoModel
  WideRun : ℕ → NoModel
  WideShort : ℕ → NoModel
  WideLong : NoModel

-- the number of voxels at a resolution
abbrev pub volume : ℕ → ℕ
volume r = r * r * r

-- ---- the first form: the resolution, and a bit for each voxel

-- how many bytes a model of resolution r has: the byte of the resolution, and a bit for each voxel
abbrev pub wanted : ℕ → ℕ
wanted r = 1 + (volume r + 7) / 8

-- whether bit k of a number is 1, counted from the least significant
abbrev pub bit : ℕ → ℕ → Bool
bit n k = n / 2 ^ k % 2 == 1

-- the voxel at place p is bit p mod 8 of byte p / 8 after the first
abbrev pub voxel_bit : List ℕ → ℕ → Bool
voxel_bit bytes p = bit (slice_index bytes (1 + p / 8)) (p % 8)

-- the model that the bytes of the first form encode, by their resolution, or the reason why they encode none
abbrev pub first_form : ℕ → List ℕ → Result Matrix NoModel
first_form r bytes =
    elim (nat_le 1 r && nat_le r 250) [
      | false ↦ Err (Resolution r)
      | true ↦ elim (nat_lt (length bytes) (wanted r)) [
        | true ↦ Err (Short (wanted r) (length bytes))
        | false ↦ elim (nat_lt (wanted r) (length bytes)) [
          | true ↦ Err (Long (wanted r))
          | false ↦ Ok (record { resolution = r; voxels = map (voxel_bit bytes) (numbers_below (volume r)) })
        ]
      ]
    ]

-- ---- the wide form: FF, the resolution in two bytes, and runs of voxels, of which the first, the third and so on are void

-- a run is 0 and is not the first, or it goes past the volume
abbrev pub is_no_run : ℕ → ℕ → ℕ → ℕ → Bool
is_no_run total index sum run = (nat_lt 0 index && run == 0) || nat_lt total (sum + run)

-- a number of four bytes, the most significant first
abbrev pub number_of_four : ℕ → ℕ → ℕ → ℕ → ℕ
number_of_four a b c d = ((a * 256 + b) * 256 + c) * 256 + d

-- the runs in the bytes from the run of an index on, with this sum of the runs before it; they are taken while the sum
-- is below the total
abbrev pub runs_in : ℕ → ℕ → ℕ → List ℕ → Result (List ℕ) NoModel
runs_in total index sum (a ∷ b ∷ c ∷ d ∷ more) =
    elim (nat_lt sum total) [
      | false ↦ Err WideLong
      | true ↦ elim (is_no_run total index sum (number_of_four a b c d)) [
        | true ↦ Err (WideRun index)
        | false ↦ with_first (number_of_four a b c d) (runs_in total (index + 1) (sum + number_of_four a b c d) more)
      ]
    ]
runs_in total index sum [] = elim (nat_lt sum total) [ true ↦ Err (WideShort sum) | false ↦ Ok [] ]
runs_in total index sum (a ∷ more) = elim (nat_lt sum total) [ true ↦ Err (WideShort sum) | false ↦ Err WideLong ]

-- the voxels of runs, of which the first has this value, the next the other, and so on
abbrev pub voxels_of : Bool → List ℕ → List Bool
voxels_of value [] = []
voxels_of value (run ∷ runs) = replicate run value ++ voxels_of (not value) runs

-- the model of runs
abbrev pub of_runs : ℕ → Result (List ℕ) NoModel → Result Matrix NoModel
of_runs r (Ok runs) = Ok (record { resolution = r; voxels = voxels_of false runs })
of_runs r (Err e) = Err e

-- the model of a resolution that the bytes of runs encode, or the reason why they encode none
abbrev pub wide_model : ℕ → List ℕ → Result Matrix NoModel
wide_model r bytes = elim (nat_le 251 r && nat_le r 400) [ false ↦ Err (WideResolution r) | true ↦ of_runs r (runs_in (volume r) 0 0 bytes) ]

-- the model that the bytes of the wide form encode behind their first byte, or the reason why they encode none
abbrev pub wide_form : List ℕ → Result Matrix NoModel
wide_form (high ∷ low ∷ runs) = wide_model (high * 256 + low) runs
wide_form bytes = Err (WideHead (1 + length bytes))

-- ---- both forms

-- the model that the bytes encode, or the reason why they encode none
abbrev pub model : List ℕ → Result Matrix NoModel
model [] = Err NoByte
model (r ∷ more) = elim (r == 0xFF) [ true ↦ wide_form more | false ↦ first_form r (r ∷ more) ]

-- ---- how a model is written

-- the bits of the voxels from place 8 * k on, and 0 behind the last voxel
abbrev pub byte_at : List Bool → ℕ → ℕ
byte_at voxels k = sum_by (λ i. cond (slice_index_or voxels (8 * k + i) false) (2 ^ i) 0) (numbers_below 8)

-- the lengths of the runs: n voxels of this value are counted already
abbrev pub run_lengths : ℕ → Bool → List Bool → List ℕ
run_lengths n value [] = n ∷ []
run_lengths n true (true ∷ more) = run_lengths (n + 1) true more
run_lengths n false (false ∷ more) = run_lengths (n + 1) false more
run_lengths n true (false ∷ more) = n ∷ run_lengths 1 false more
run_lengths n false (true ∷ more) = n ∷ run_lengths 1 true more

-- the four bytes of a number, the most significant first
abbrev pub four_bytes : ℕ → List ℕ
four_bytes n = n / 256 ^ 3 ∷ n / 256 ^ 2 % 256 ∷ n / 256 % 256 ∷ n % 256 ∷ []

-- the one spelling of a model: the first form up to the resolution 250, with unused bits 0, and the wide form above
abbrev pub written : Matrix → List ℕ
written m =
    elim (nat_le m.resolution 250) [
      | true ↦ m.resolution ∷ map (byte_at m.voxels) (numbers_below ((volume m.resolution + 7) / 8))
      | false ↦ 0xFF ∷ m.resolution / 256 ∷ m.resolution % 256 ∷ flat_map four_bytes (run_lengths 0 false m.voxels)
    ]

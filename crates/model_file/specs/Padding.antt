-- The bits of a model file's last byte that belong to no voxel (docs/FORMATS.md, "Model files").
use Rattle.std.specs.Prelude.{ℕ, ◌+◌, ◌-◌, ◌*◌, ◌/◌, ◌%◌, ◌^◌, true, false, ◌==◌, List, [], ◌∷◌}
use Rattle.nano_spec.specs.Model.{volume}

-- how many bits of the last byte belong to voxels, 1 to 8
abbrev pub used_bits : ℕ → ℕ
used_bits r = volume r - 8 * ((volume r + 7) / 8 - 1)

-- the bytes, with only the n lowest bits left in the last one
abbrev pub cut_last : ℕ → List ℕ → List ℕ
cut_last used [] = []
cut_last used (b ∷ []) = b % 2 ^ used ∷ []
cut_last used (b ∷ c ∷ more) = b ∷ cut_last used (c ∷ more)

-- the bytes of a model file with its padding bits 0; the wide form has none
abbrev pub without_padding : List ℕ → List ℕ
without_padding [] = []
without_padding (r ∷ more) = elim (r == 0xFF) [ true ↦ r ∷ more | false ↦ r ∷ cut_last (used_bits r) more ]

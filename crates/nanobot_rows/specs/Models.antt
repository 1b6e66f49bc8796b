-- The models of a source and a target (docs/FORMATS.md, "Words").
use Rattle.std.specs.Prelude.{◌≡◌, ℕ, List, Option, Some, None, Ok, IsSomeAnd}
use Rattle.nano_spec.specs.Legal.{IsLegal}
use Rattle.nano_spec.specs.Matrix.{Matrix, empty}
use Rattle.nano_spec.specs.Model.{model}
use Rattle.vox_depot.specs.Files.{Files, content}

-- the file of the name has the bytes of this legal model
abbrev pub IsModelOf : Files → List ℕ → Matrix → Type 0
IsModelOf files name m = IsSomeAnd (content files name) (λ bytes. (model bytes ≡ Ok m) × IsLegal m)

-- the model of a source or a target: that of its file, or for `None` the empty one of the other's resolution
abbrev pub IsSide : Files → Option (List ℕ) → Matrix → Matrix → Type 0
IsSide files None m other = m ≡ empty other.resolution
IsSide files (Some name) m other = IsModelOf files name m

-- the models of a source and a target, of the same resolution
pub record AreModels (source target : Option (List ℕ)) (files : Files) (s t : Matrix) : Type 0 where
  pub source_is : IsSide files source s t
  pub target_is : IsSide files target t s
  pub alike : s.resolution ≡ t.resolution

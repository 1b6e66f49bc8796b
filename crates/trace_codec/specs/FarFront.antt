-- The beginning of bytes at a far difference.
use Rattle.std.specs.Prelude.{◌≡◌, ◌≢◌, ℕ, List, [], ◌++◌}
use Rattle.vox_geom.specs.declared.difference.Diff.{Diff}
use Rattle.vox_geom.specs.Difference.{IsFar}
use Rattle.nano_spec.specs.Spelling.{far_bytes}
use Rattle.trace_codec.specs.declared.one.FarFront.{FarFront}
use Rattle.trace_codec.specs.declared.one.FarFront.TheVariants.{Got, More, Bad}

-- the three bytes of one, fewer that may go on as one, or neither
abbrev pub SaysFar : List ℕ → FarFront → Type 0
SaysFar bytes (Got f) = IsFar f × (rest : List ℕ) × (bytes ≡ far_bytes f ++ rest)
SaysFar bytes More = (f : Diff) × (more : List ℕ) × IsFar f × (more ≢ []) × (bytes ++ more ≡ far_bytes f)
SaysFar bytes Bad = (f : Diff) (more rest : List ℕ) → IsFar f → bytes ++ more ≡ far_bytes f ++ rest → ⊥

-- The opening state of a machine.
use Rattle.std.proofs.Common.{zero, suc, arith, ◌∷◌, []}
use Rattle.std.specs.Prelude.{All, IsFalse}
use Rattle.nano_spec.specs.declared.system.Bot.{Bot}
use Rattle.nano_spec.specs.declared.system.Profile.{Profile}
use Rattle.nano_spec.specs.State.{first_bot, origin}
use Rattle.nano_spec.specs.Matrix.{Matrix, is_full}

-- the first bot is in a void voxel
pub first_stands : (m : Matrix) (profile : Profile) → IsFalse (is_full m origin)
    → All (λ (b : Bot). IsFalse (is_full m b.pos)) (first_bot profile ∷ [])
first_stands m profile h zero d l = h
first_stands m profile h (suc i) d l = absurd (omega arith)

-- The empty matrix has no full voxel, so that each is grounded.
use Rattle.std.proofs.Common.{◌≡◌, ℕ}
use Rattle.std.specs.Prelude.{Result, Ok, Err, None, IfOk}
use Rattle.nano_spec.specs.Grounded.{FirstUngrounded}
use Rattle.nano_spec.specs.Matrix.{Matrix, empty}
use Rattle.nano_spec.proofs.EmptyModel.{empty_is_grounded}

pub made_is_grounded : {E : Type 0} (r : ℕ) (made : Result Matrix E) → IfOk made (λ m. m ≡ empty r)
    → IfOk made (λ m. FirstUngrounded m None)
made_is_grounded r (Ok m) e = empty_is_grounded m r e
made_is_grounded r (Err x) e = tt

-- The source and the target of a plan.
use Rattle.std.specs.Prelude.{◌≡◌}
use Rattle.nano_spec.specs.Legal.{IsLegal}
use Rattle.nano_spec.specs.Matrix.{Matrix}

-- both models are legal, and of one resolution
pub record AreLegalModels (s t : Matrix) : Type 0 where
  pub source : IsLegal s
  pub target : IsLegal t
  pub same : s.resolution ≡ t.resolution

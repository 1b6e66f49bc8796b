use Rattle.std.proofs.Common.{ℕ, List, subst, sym, ◌∙◌}
use Rattle.vox_planes.specs.Layers.{IsLayered}
use Rattle.vox_planes.proofs.Voxels.{layered_whole}
use Rattle.vox_planes.proofs.planes.Planes.copy.Goals as goal

pub returns-clause-whole : goal.returns-clause-whole
returns-clause-whole c =
    layered_whole _ _ (subst (λ (ws : List ℕ). IsLayered c.self.inside.resolution ws) (sym (c.in_ok-words.ensures.items ∙ c.as_slice.ensures.value)) c.self.invariant.0)

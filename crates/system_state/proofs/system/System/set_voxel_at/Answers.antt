use Rattle.std.proofs.Common.{sym, ◌∙◌, ap, subst}
use Rattle.std.specs.Prelude.{All}
use Rattle.vox_geom.specs.Space.{IsInSpace}
use Rattle.energy_sum.specs.Costs.{space_upkeep}
use Rattle.system_state.proofs.system.System.set_voxel_at.Goals as goal

pub invariant_of-self : goal.invariant_of-self
invariant_of-self c = (
  subst (λ r. All (λ b. IsInSpace r b.pos) c.self.inside.crew) (sym c.set_at_bit.ensures.resolution) c.self.invariant.0,
  c.self.invariant.1 ∙ ap (λ r. space_upkeep r c.self.inside.harmonics) (sym c.set_at_bit.ensures.resolution),
)

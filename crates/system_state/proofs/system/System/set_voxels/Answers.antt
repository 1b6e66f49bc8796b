use Rattle.std.proofs.Common.{sym, ◌∙◌, ap, subst}
use Rattle.std.specs.Prelude.{All}
use Rattle.vox_geom.specs.Space.{IsInSpace}
use Rattle.nano_spec.specs.Matrix.{Matrix}
use Rattle.energy_sum.specs.Costs.{space_upkeep}
use Rattle.system_state.proofs.system.System.set_voxels.Goals as goal

pub invariant_of-self : goal.invariant_of-self
invariant_of-self c =
    let same = ap (λ (m : Matrix). m.resolution) c.set_cells.ensures.value in (
      subst (λ r. All (λ b. IsInSpace r b.pos) c.self.inside.crew) (sym same) c.self.invariant.0,
      c.self.invariant.1 ∙ ap (λ r. space_upkeep r c.self.inside.harmonics) (sym same),
    )

use Rattle.std.proofs.Common.{◌∙◌, ap}
use Rattle.std.specs.Prelude.{◌+ℤ◌}
use Rattle.nano_spec.specs.Energy.{upkeep}
use Rattle.nano_spec.specs.State.{State}
use Rattle.vox_planes.specs.Voxel.{with_voxel}
use Rattle.system_state.specs.Edited.{edit_cost}
use Rattle.system_state.proofs.OnlyEdit.{edited_on}
use Rattle.system_state.proofs.system.System.edit_alone.Goals as goal

pub returns-clause-value : goal.returns-clause-value
returns-clause-value c = λ b d only named.
    let state : State = c.args.self.now in
    c.edit_voxel.ensures.value
    ∙ (ap (λ (t : State). record t { matrix = with_voxel t.matrix c.args.at c.args.full; energy = t.energy +ℤ edit_cost c.args.full c.args.was_full }) c.pay_upkeep_of.ensures.value
    ∙ (ap (λ t. record state { matrix = with_voxel state.matrix c.args.at c.args.full; energy = (state.energy +ℤ upkeep state) +ℤ edit_cost c.args.full t }) c.requires.was
    ∙ edited_on state b d c.args.at c.args.full only c.requires.within named))

pub returns-clause-bots : goal.returns-clause-bots
returns-clause-bots c = ap (λ (t : State). t.bots) c.edit_voxel.ensures.value ∙ ap (λ (t : State). t.bots) c.pay_upkeep_of.ensures.value

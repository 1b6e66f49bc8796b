use Rattle.std.proofs.Common.{rules, ◌≡◌, ◌∙◌, sym, ap, subst, w64, to_z, of_z}
use Rattle.std.specs.Prelude.{◌+ℤ◌, ℤ}
use Rattle.nano_spec.specs.State.{State}
use Rattle.vox_planes.specs.Voxel.{with_voxel}
use Rattle.system_state.specs.Bounds.{IsAfterTurn, IsWithin}
use Rattle.system_state.proofs.system.System.edit_voxel.Goals as goal

pub pay-requires-clause-small : goal.pay-requires-clause-small
pay-requires-clause-small c =
    let same : to_z w64 (of_z w64 c.cost_of_edit.result) ≡ c.cost_of_edit.result = search rules in
    subst (λ (z : ℤ). IsWithin 357492 z) (sym same) c.cost_of_edit.ensures.small

pub returns-clause-value : goal.returns-clause-value
returns-clause-value c =
    let state : State = c.args.self.now in
    let same : to_z w64 (of_z w64 c.cost_of_edit.result) ≡ c.cost_of_edit.result = search rules in
    c.set_voxel_at.ensures.value
    ∙ (ap (λ (t : State). record t { matrix = with_voxel t.matrix c.args.at c.args.full }) c.pay.ensures.value
    ∙ ap (λ z. record state { matrix = with_voxel state.matrix c.args.at c.args.full; energy = state.energy +ℤ z }) (same ∙ c.cost_of_edit.ensures.value))

pub returns-clause-within : goal.returns-clause-within
returns-clause-within c = subst (λ (t : State). IsAfterTurn c.args.self.now.energy t.energy) (sym c.set_voxel_at.ensures.value) c.pay.ensures.within

-- The step of the only bot by `SMove`.
use Rattle.std.proofs.Common.{◌≡◌, ◌*◌, refl, sym, subst, [], ◌∷◌}
use Rattle.std.specs.Prelude.{pos, ◌+ℤ◌}
use Rattle.vox_geom.specs.declared.coordinate.Coord.{Coord}
use Rattle.vox_geom.specs.declared.difference.Diff.{Diff}
use Rattle.vox_geom.specs.Difference.{mlen}
use Rattle.vox_geom.specs.Point.{point, plus}
use Rattle.nano_spec.specs.declared.commands.Command.TheVariants.{SMove}
use Rattle.nano_spec.specs.declared.system.Bot.{Bot}
use Rattle.nano_spec.specs.Bots.{moved}
use Rattle.nano_spec.specs.Energy.{upkeep}
use Rattle.nano_spec.specs.State.{State}
use Rattle.nano_spec.specs.Step.{after}
use Rattle.vox_planes.specs.Voxel.{IsWhole}
use Rattle.system_state.proofs.OnlyBot.{cost_is, untouched}
use Rattle.step_groups.specs.Judging.{act}

-- the state after the move
pub moved_on : (s : State) (b : Bot) (d : Diff) (to : Coord) → s.bots ≡ b ∷ [] → IsWhole s.matrix
    → point to ≡ plus (point b.pos) d
    → record s { energy = (s.energy +ℤ upkeep s) +ℤ pos (2 * mlen d); bots = moved b (point to) ∷ [] }
    ≡ after s (SMove d ∷ [])
moved_on s b d to only whole there =
    let start : State = record s { bots = b ∷ [] } in
    let same : start ≡ s = λ i. record s { bots = sym only i } in
    let matrix = sym (untouched s.matrix (act b (SMove d)) whole refl refl) in
    let cost = sym (cost_is s.matrix b (SMove d)) in
    subst (λ (t : State). record t { energy = (t.energy +ℤ upkeep t) +ℤ pos (2 * mlen d); bots = moved b (point to) ∷ [] } ≡ after t (SMove d ∷ [])) same
    (λ i. record { matrix = matrix i; harmonics = s.harmonics; bots = moved b (there i) ∷ []; energy = (s.energy +ℤ upkeep start) +ℤ cost i; profile = s.profile })

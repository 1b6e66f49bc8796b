use Rattle.std.proofs.Common.{ℕ, ap, arith, inl, refl, subst}
use Rattle.vox_geom.specs.Space.{IsInSpace}
use Rattle.support_forest.specs.Grid.{word_at}
use Rattle.support_forest.specs.Indices.{voxel_of, voxel_in}
use Rattle.support_forest.proofs.Writes.{reads_none}
use Rattle.support_forest.proofs.remove.handle.Goals as goal

pub returns-in_default-clause-done : goal.returns-in_default-clause-done
returns-in_default-clause-done g c =
    let cells = c.args.cells.now in
    let index = c.args.x.index in
    let within : IsInSpace cells.resolution (voxel_in cells index) = subst (λ (k : ℕ). IsInSpace cells.resolution (voxel_of k index)) c.requires.side c.requires.inside.within in
    let none_read = reads_none cells (voxel_in cells index) within c.in_default.ensures.value in
    let same_word = ap (λ (k : ℕ). word_at cells (voxel_of k index)) c.requires.side in
    inl (record { other = λ a b. absurd (omega arith); cells = refl; queued = refl; freshly = refl })

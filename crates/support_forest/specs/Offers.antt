-- The voxels of lists of indices, for n bricks along an axis.
use Rattle.std.specs.Prelude.{ℕ, List, map}
use Rattle.vox_geom.specs.declared.coordinate.Coord.{Coord}
use Rattle.support_forest.specs.declared.offer.IndexOffer.{IndexOffer}
use Rattle.support_forest.specs.declared.orphan.OrphanIndex.{OrphanIndex}
use Rattle.support_forest.specs.Candidates.{Candidate, Orphan}
use Rattle.support_forest.specs.Indices.{voxel_of}

-- the pending candidates: the sources that are left, and the frontier
pub record Offers : Type 0 where
  pub seeds : List IndexOffer
  pub found : List IndexOffer

-- the candidate of a `IndexOffer`
abbrev pub candidate_at : ℕ → IndexOffer → Candidate
candidate_at bricks offer =
    record { at = voxel_of bricks offer.index; height = offer.height; toward = offer.toward }

abbrev pub candidates_at : ℕ → List IndexOffer → List Candidate
candidates_at bricks offers = map (λ (offer : IndexOffer). candidate_at bricks offer) offers

-- the voxel that lost its parent
abbrev pub orphan_at : ℕ → OrphanIndex → Orphan
orphan_at bricks orphan = record { at = voxel_of bricks orphan.index; height = orphan.height }

abbrev pub orphans_at : ℕ → List OrphanIndex → List Orphan
orphans_at bricks orphans = map (λ (orphan : OrphanIndex). orphan_at bricks orphan) orphans

-- the voxels at the indices
abbrev pub listed_voxels : ℕ → List ℕ → List Coord
listed_voxels bricks indices = map (λ (index : ℕ). voxel_of bricks index) indices

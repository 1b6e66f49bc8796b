-- The invariant while the orphans of a removal are handled.
use Rattle.std.specs.Prelude.{◌≡◌, ℕ, ◌+◌, ◌*◌, ◌<◌, ◌≤◌, List, length}
use Rattle.std.specs.List.{Contains}
use Rattle.vox_geom.specs.declared.coordinate.Coord.{Coord}
use Rattle.support_forest.specs.Candidates.{Orphan}
use Rattle.support_forest.specs.Grid.{Grid, word_at}
use Rattle.support_forest.specs.Losing.{AreLosing}
use Rattle.support_forest.specs.Words.{changed}

-- a removal is under way: the waiting voxels are not exact yet, and dirty voxels lost their heights
pub record IsRemoving (old now : Grid) (gone : List Coord) (queue : List Orphan) (fresh : List Coord)
    (waits : Coord → ℕ → Type 0) : Type 0 where
  pub resolution : now.resolution ≡ old.resolution
  pub losing : AreLosing (word_at old) (word_at now) (Contains gone) waits (Contains fresh)
  pub void : (c : Coord) → Contains gone c → word_at now c ≡ 0
  pub listed : (x : Orphan) → Contains queue x → (1 < x.height) × (0 < word_at old x.at)
  pub few : length queue ≤ 6 * length gone + 6 * length fresh
  pub lost : length fresh ≤ changed old.resolution (word_at old) (word_at now)

-- The invariant while the neighbors of a frontier voxel are relaxed.
use Rattle.std.specs.Prelude.{◌≡◌, ℕ, ◌+◌, ◌-◌, ◌*◌, ◌<◌, ◌≤◌, ◌⊎◌, List, length}
use Rattle.std.specs.List.{Contains}
use Rattle.vox_geom.specs.declared.coordinate.Coord.{Coord}
use Rattle.vox_geom.specs.Space.{IsInSpace}
use Rattle.support_forest.specs.Candidates.{Candidate}
use Rattle.support_forest.specs.Directions.{Toward}
use Rattle.support_forest.specs.Grid.{Grid, word_at}
use Rattle.support_forest.specs.Waiting.{Waiting, number}
use Rattle.support_forest.specs.Words.{height, AreSettling, IsBeyond, changed}

-- the pending candidates: the sources, and the next height for each neighbor of the frontier
abbrev pub Ahead : ℕ → List Candidate → List Candidate → Candidate → Type 0
Ahead r seeds found y = Contains seeds y ⊎ ((f : Candidate) × Contains found f × IsBeyond r f y)

-- the same, and the remaining directions of the voxel being expanded
abbrev pub AtHand : ℕ → List Candidate → List Candidate → Candidate → ℕ → Candidate → Type 0
AtHand r seeds found x d y = Ahead r seeds found y ⊎ ((k : ℕ) × (d ≤ k) × Toward k x.at y.at × IsBeyond r x y)

-- no height is above what it was, or above a pending candidate
pub record IsRising (w v : Coord → ℕ) (P : Candidate → Type 0) : Type 0 where
  pub low : (c : Coord) (y : Candidate) → P y → (height v c ≡ height w c) ⊎ (height v c ≤ y.height)
  pub kept : (c : Coord) → 8 ≤ w c → 8 ≤ v c

-- the voxels that are full stay
pub record AreSame (old now : Grid) : Type 0 where
  pub resolution : now.resolution ≡ old.resolution
  pub full : (c : Coord) → 0 < word_at now c → 0 < word_at old c
  pub kept : (c : Coord) → 0 < word_at old c → 0 < word_at now c

-- the work that is left
abbrev pub to_do : Grid → Grid → Waiting → ℕ
to_do old now q =
    7 * (old.resolution * old.resolution * old.resolution - changed old.resolution (word_at old) (word_at now))
    + number q

-- a search is under way, and expands the candidate: its neighbors from a direction on are still to be relaxed
pub record IsSpreading (old now : Grid) (start q : Waiting) (x : Candidate) (d before steps limit : ℕ) : Type 0 where
  pub same : AreSame old now
  pub settling : AreSettling old.resolution (word_at now) (AtHand old.resolution q.seeds q.found x d)
  pub rising : IsRising (word_at old) (word_at now) (AtHand old.resolution q.seeds q.found x d)
  pub low : (f : Candidate) → Contains q.found f → x.height ≤ f.height
  pub high : (f : Candidate) → Contains q.found f → f.height ≤ x.height + 1
  pub above : (s : Candidate) → Contains q.seeds s → x.height + 1 ≤ s.height
  pub few : (f : Candidate) → Contains q.found f
      → (f.height ≤ old.resolution * old.resolution * old.resolution + 1) × IsInSpace old.resolution f.at
  pub here : (x.height ≤ old.resolution * old.resolution * old.resolution + 1) × IsInSpace old.resolution x.at
  pub cost : steps + length q.seeds + 6 * length q.found + 7
      ≤ before + number start + 7 * changed old.resolution (word_at old) (word_at now) + d
  pub less : to_do old now q ≤ limit

-- some search is under way and expands the candidate
pub record CanSpread (now : Grid) (q : Waiting) (x : Candidate) (d steps : ℕ) : Type 0 where
  pub old : Grid
  pub start : Waiting
  pub before : ℕ
  pub limit : ℕ
  pub is : IsSpreading old now start q x d before steps limit

-- every search goes on from one direction to another
abbrev pub Spreads : Grid → Grid → Waiting → Waiting → Candidate → ℕ → ℕ → ℕ → ℕ → Type 0
Spreads now new q p x d e steps after =
    (old : Grid) (start : Waiting) (before limit : ℕ) → IsSpreading old now start q x d before steps limit
    → IsSpreading old new start p x e before after limit

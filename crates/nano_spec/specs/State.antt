-- The state of the system (task description, section on the system's state; docs/FORMATS.md, "State").
use Rattle.std.specs.Prelude.{◌≡◌, ◌≢◌, ℕ, ◌+◌, ◌*◌, ◌/◌, ◌%◌, ◌^◌, ◌<◌, ℤ, pos, Bool, true, false, ◌==◌, List, [], ◌∷◌, length, drop, filter, sum_by, None, IsTrue, IsFalse, All, AllPairs}
use Rattle.vox_geom.specs.declared.coordinate.Coord.{Coord}
use Rattle.vox_geom.specs.Space.{IsInSpace, numbers_below}
use Rattle.nano_spec.specs.declared.system.Bot.{Bot}
use Rattle.nano_spec.specs.declared.system.Harmonics.{Harmonics}
use Rattle.nano_spec.specs.declared.system.Harmonics.TheVariants.{Low, High}
use Rattle.nano_spec.specs.declared.system.Profile.{Profile}
use Rattle.nano_spec.specs.Grounded.{FirstUngrounded}
use Rattle.nano_spec.specs.Matrix.{Matrix, is_full}

-- the matrix, the harmonics, the active bots in rising order of their bids, the energy, and the profile, which no step
-- changes
pub record State : Type 0 where
  pub matrix : Matrix
  pub harmonics : Harmonics
  pub bots : List Bot
  pub energy : ℤ
  pub profile : Profile

-- whether the harmonics are High
abbrev pub is_high : Harmonics → Bool
is_high Low = false
is_high High = true

-- whether k is in a set of seeds: its bit k is 1
abbrev pub is_seed : ℕ → ℕ → Bool
is_seed seeds k = seeds / 2 ^ k % 2 == 1

-- the set of the seeds in a list without duplicates
abbrev pub seed_set : List ℕ → ℕ
seed_set ks = sum_by (λ k. 2 ^ k) ks

-- the numbers of the bits of a set of seeds; it unfolds only on demand of a proof, so that no goal has 64 cases
unfoldable pub seed_numbers : List ℕ
seed_numbers = numbers_below 64

-- the seeds of a set in rising order
abbrev pub seed_list : ℕ → List ℕ
seed_list seeds = filter (is_seed seeds) seed_numbers

-- no seed is in both sets
abbrev pub AreDisjoint : ℕ → ℕ → Type 0
AreDisjoint seeds others = (k : ℕ) → IsTrue (is_seed seeds k) → IsFalse (is_seed others k)

-- the position of the first bot
abbrev pub origin : Coord
origin = record { x = 0; y = 0; z = 0 }

-- the first bot: bid 1, at the origin, with the profile's number of seeds from 2 on
abbrev pub first_bot : Profile → Bot
first_bot profile = record { bid = 1; pos = origin; seeds = seed_set (drop 2 (numbers_below (profile.seeds + 2))) }

-- the state before the first step
abbrev pub opening : Matrix → Profile → State
opening source profile =
    record { matrix = source; harmonics = Low; bots = first_bot profile ∷ []; energy = pos 0; profile = profile }

-- a state is well-formed
pub record IsWellFormed (s : State) : Type 0 where
  -- under Low each full voxel is grounded
  pub grounded : s.harmonics ≡ Low → FirstUngrounded s.matrix None
  -- the bids differ
  pub bids : AllPairs (λ a b. a.bid ≢ b.bid) s.bots
  -- the positions differ, and are void
  pub positions : AllPairs (λ a b. a.pos ≢ b.pos) s.bots
  pub void : All (λ a. IsFalse (is_full s.matrix a.pos)) s.bots
  -- no two bots have a seed in common
  pub seeds : AllPairs (λ a b. AreDisjoint a.seeds b.seeds) s.bots
  -- no bot has an active bid as a seed
  pub unborn : All (λ a. All (λ b. IsFalse (is_seed a.seeds b.bid)) s.bots) s.bots

-- a state is ready for a step: its matrix is whole, and its bots are in space, in rising order of their bids, with
-- nothing in common. A ready state is well-formed if it is grounded under Low and its bots are in void voxels; a
-- well-formed one is ready if its matrix is whole, its bots are in space and their bids rise
pub record IsReady (s : State) : Type 0 where
  -- the matrix has a voxel for each of its coordinates
  pub whole : length s.matrix.voxels ≡ s.matrix.resolution * s.matrix.resolution * s.matrix.resolution
  -- the bots are in space
  pub within : All (λ a. IsInSpace s.matrix.resolution a.pos) s.bots
  -- the bids rise
  pub rising : AllPairs (λ a b. a.bid < b.bid) s.bots
  -- the positions differ
  pub positions : AllPairs (λ a b. a.pos ≢ b.pos) s.bots
  -- no two bots have a seed in common
  pub seeds : AllPairs (λ a b. AreDisjoint a.seeds b.seeds) s.bots
  -- no bot has an active bid as a seed
  pub unborn : All (λ a. All (λ b. IsFalse (is_seed a.seeds b.bid)) s.bots) s.bots

-- A sweep over a model: the voxels not visited yet, the trail through the current part, and the start of that part.
use Rattle.std.specs.Prelude.{◌≡◌, ◌≢◌, ℕ, ◌+◌, ◌*◌, ◌<◌, ◌≤◌, false, List, [], ◌∷◌, ◌++◌, IsTrue, Contains, length, Option, Some, None, ◌⊎◌}
use Rattle.vox_geom.specs.declared.coordinate.Coord.{Coord}
use Rattle.vox_geom.specs.Point.{are_adjacent}
use Rattle.vox_geom.specs.Space.{IsInSpace}
use Rattle.nano_spec.specs.Matrix.{Matrix, is_full, full_count}
use Rattle.plan_tape.specs.Leg.{distance}
use Rattle.low_planner.specs.declared.sweep.Sweep.{Sweep}
use Rattle.low_planner.specs.declared.sweep.Visit.{Visit}
use Rattle.low_planner.specs.declared.sweep.Visit.TheVariants.{First, Onward, Back}
use Rattle.low_planner.specs.Supported.{IsSupported, rests}

-- the two coordinates are adjacent within a layer
pub record AreBesideInLayer (a b : Coord) : Type 0 where
  pub adjacent : IsTrue (are_adjacent a b)
  pub level : b.y ≡ a.y

-- the voxel was there before and is there no longer
pub record IsVisited (m left : Matrix) (c : Coord) : Type 0 where
  pub before : IsTrue (is_full m c)
  pub after : is_full left c ≡ false

-- ---- rows

-- no voxel of a coordinate's row is full, from it on
abbrev pub IsVoidRow : Matrix → Coord → Type 0
IsVoidRow m from = (d : Coord) → d.x ≡ from.x → d.y ≡ from.y → from.z ≤ d.z → is_full m d ≡ false

-- c is the first full voxel of a coordinate's row, from it on
pub record IsNextFull (m : Matrix) (from c : Coord) : Type 0 where
  pub within : IsInSpace m.resolution c
  pub x : c.x ≡ from.x
  pub y : c.y ≡ from.y
  pub z : from.z ≤ c.z
  pub full : IsTrue (is_full m c)
  pub first : (d : Coord) → d.x ≡ from.x → d.y ≡ from.y → from.z ≤ d.z → d.z < c.z → is_full m d ≡ false

-- the resting voxels of a coordinate's row before a component z were visited, from the coordinate on
abbrev pub IsSweptRow : Matrix → Matrix → Coord → ℕ → Type 0
IsSweptRow m left from end =
    (d : Coord) → d.x ≡ from.x → d.y ≡ from.y → from.z ≤ d.z → d.z < end → IsTrue (rests m d) → is_full left d ≡ false

-- c is the first voxel of a coordinate's row, from it on, that rests and was not visited
pub record IsStartInRow (m left : Matrix) (from c : Coord) : Type 0 where
  pub within : IsInSpace m.resolution c
  pub x : c.x ≡ from.x
  pub y : c.y ≡ from.y
  pub z : from.z ≤ c.z
  pub here : IsTrue (is_full left c)
  pub resting : IsTrue (rests m c)
  pub first : IsSweptRow m left from c.z

-- ---- the order of a sweep: layers from the floor up, rows by rising x, cells by rising z

-- all resting voxels before a coordinate were visited
pub record AreSwept (m left : Matrix) (at : Coord) : Type 0 where
  pub layers : (c : Coord) → c.y < at.y → IsTrue (rests m c) → is_full left c ≡ false
  pub rows : (c : Coord) → c.y ≡ at.y → c.x < at.x → IsTrue (rests m c) → is_full left c ≡ false
  pub cells : (c : Coord) → c.y ≡ at.y → c.x ≡ at.x → c.z < at.z → IsTrue (rests m c) → is_full left c ≡ false

-- all voxels that rest were visited
abbrev pub AreAllSwept : Matrix → Matrix → Type 0
AreAllSwept m left = (c : Coord) → IsTrue (rests m c) → is_full left c ≡ false

-- an upper bound of the path along all rows from the first coordinate to one
abbrev pub reach : ℕ → Coord → ℕ
reach r c = 3 * r * (c.y * r + c.x) + c.z

-- the path from one coordinate to another is no longer than the part between them along the rows
abbrev pub IsWithinReach : ℕ → Coord → Coord → Type 0
IsWithinReach r a b = reach r a + distance a b ≤ reach r b

-- the next row begins there
pub record IsNextRow (r : ℕ) (from next : Coord) : Type 0 where
  pub x : next.x < r
  pub z : next.z ≡ 0
  pub forth : ((next.y ≡ from.y) × (next.x ≡ from.x + 1)) ⊎ ((next.y ≡ from.y + 1) × (next.x ≡ 0) × (from.x + 1 ≡ r))
  pub near : IsWithinReach r from next
  pub swept : (m left : Matrix) → m.resolution ≡ r → left.resolution ≡ r → AreSwept m left from
      → IsSweptRow m left from r → AreSwept m left next

-- the next part begins there
pub record IsPartStart (m : Matrix) (s : Sweep) (c : Coord) : Type 0 where
  pub within : IsInSpace m.resolution c
  pub here : IsTrue (is_full s.remaining c)
  pub resting : IsTrue (rests m c)
  pub swept : AreSwept m s.remaining c
  pub up : s.at.y ≤ c.y
  pub near : IsWithinReach m.resolution s.at c

-- ---- the trail

-- each coordinate is next to the one before it
abbrev pub IsChain : Coord → List Coord → Type 0
IsChain a [] = Unit {0}
IsChain a (b ∷ more) = AreBesideInLayer a b × IsChain b more

-- the trail begins at a coordinate
abbrev pub IsTrail : Coord → List Coord → Type 0
IsTrail at [] = Unit {0}
IsTrail at (a ∷ more) = (a ≡ at) × IsChain a more

-- the progress of the sweep of a matrix: the visited voxels are supported,
-- and next to a visited voxel none of its layer is left, unless it is on the trail
pub record IsSweep (m : Matrix) (s : Sweep) : Type 0 where
  pub resolution : s.remaining.resolution ≡ m.resolution
  pub fewer : (c : Coord) → is_full m c ≡ false → is_full s.remaining c ≡ false
  pub supported : (c : Coord) → IsVisited m s.remaining c → IsSupported m c
  pub closed : (a b : Coord) → IsVisited m s.remaining a → AreBesideInLayer a b → IsTrue (is_full s.remaining b)
      → Contains s.trail.items a
  pub ahead : (c : Coord) → IsVisited m s.remaining c → c.y ≤ s.at.y
  pub swept : AreSwept m s.remaining s.at
  pub place : IsInSpace m.resolution s.at
  pub trail : IsTrail s.at s.trail.items
  pub on_trail : (c : Coord) → Contains s.trail.items c → IsVisited m s.remaining c × (c.y ≡ s.at.y)

-- the voxel is no longer full, and all others are unchanged
pub record LosesVoxel (old new : Matrix) (c : Coord) : Type 0 where
  pub resolution : new.resolution ≡ old.resolution
  pub before : IsTrue (is_full old c)
  pub after : is_full new c ≡ false
  pub others : (d : Coord) → d ≢ c → is_full new d ≡ is_full old d

-- a voxel was visited, and it is the last one of the trail
pub record TakesVoxel (old new : Sweep) (c : Coord) : Type 0 where
  pub loses : LosesVoxel old.remaining new.remaining c
  pub trail : new.trail.items ≡ old.trail.items ++ c ∷ []

-- ---- visits

-- the sweep begins a part at a voxel
pub record BeginsPart (m : Matrix) (old new : Sweep) (c : Coord) : Type 0 where
  pub short : length old.trail.items ≤ 1
  pub loses : LosesVoxel old.remaining new.remaining c
  pub trail : new.trail.items ≡ c ∷ []
  pub at : new.at ≡ c
  pub resting : IsTrue (rests m c)
  pub up : old.at.y ≤ c.y
  pub near : IsWithinReach m.resolution old.at c

-- the sweep continues to a voxel next to the last one of the trail
pub record GoesOn (old new : Sweep) (c : Coord) : Type 0 where
  pub most : List Coord
  pub last : Coord
  pub ends : old.trail.items ≡ most ++ last ∷ []
  pub beside : AreBesideInLayer last c
  pub takes : TakesVoxel old new c
  pub at : new.at ≡ old.at

-- the sweep leaves the last voxel of the trail for the one before it
pub record TurnsBack (old new : Sweep) (c : Coord) : Type 0 where
  pub most : List Coord
  pub last : Coord
  pub ends : new.trail.items ≡ most ++ c ∷ []
  pub ended : old.trail.items ≡ (most ++ c ∷ []) ++ last ∷ []
  pub beside : AreBesideInLayer c last
  pub remaining : new.remaining ≡ old.remaining
  pub at : new.at ≡ old.at

-- the sweep has visited all
pub record EndsSweep (m : Matrix) (old new : Sweep) : Type 0 where
  pub short : length old.trail.items ≤ 1
  pub none : new.trail.items ≡ []
  pub remaining : new.remaining ≡ old.remaining
  pub at : new.at ≡ old.at
  pub all : AreAllSwept m new.remaining

-- the action of the sweep
abbrev pub Visits : Matrix → Sweep → Sweep → Option Visit → Type 0
Visits m old new (Some (First c)) = BeginsPart m old new c
Visits m old new (Some (Onward c)) = GoesOn old new c
Visits m old new (Some (Back c)) = TurnsBack old new c
Visits m old new None = EndsSweep m old new

-- how much a sweep still has to do at most
abbrev pub sweep_weight : Sweep → ℕ
sweep_weight s = 2 * full_count s.remaining + length s.trail.items

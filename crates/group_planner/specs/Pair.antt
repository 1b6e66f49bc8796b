-- Two bots in one row along z, and their moves.
use Rattle.std.specs.Prelude.{◌≡◌, ◌≢◌, ℕ, ◌+◌, ◌-◌, ◌*◌, ◌≤◌, ◌<◌, Bool, cond, ◌&&◌, ◌==◌, nat_le, nat_lt, List, [], ◌∷◌, length}
use Rattle.vox_geom.specs.declared.coordinate.Coord.{Coord}
use Rattle.nano_spec.specs.declared.system.Bot.{Bot}
use Rattle.nano_spec.specs.declared.system.Harmonics.TheVariants.{High}
use Rattle.nano_spec.specs.Matrix.{Matrix, is_full}
use Rattle.nano_spec.specs.Profile.{full_profile}
use Rattle.nano_spec.specs.State.{origin}
use Rattle.plan_tape.specs.declared.axis.Axis.TheVariants.{Z}
use Rattle.plan_tape.specs.Fissions.{fissions}
use Rattle.plan_tape.specs.Leg.{IsOnward, moves, put}
use Rattle.plan_tape.specs.Progress.{TapeState, bytes, spot, IsVoidFrom}

-- the position of the second bot
abbrev pub second_spot : List Bot → Coord
second_spot [] = origin
second_spot (bot ∷ bots) = spot bots

-- the position of the rear bot, the first
abbrev pub rear : TapeState → Coord
rear p = spot p.bots

-- the position of the front bot, the second
abbrev pub front : TapeState → Coord
front p = second_spot p.bots

-- two coordinates of one row, the second ahead of the first along z
pub record AreInRow (r : ℕ) (a b : Coord) : Type 0 where
  pub x : a.x < r
  pub y : a.y < r
  pub z : b.z < r
  pub same_x : b.x ≡ a.x
  pub same_y : b.y ≡ a.y
  pub order : a.z < b.z

-- there are two bots, made by one Fission, in one row, under High, and all is void from their height on
pub record IsPair (p : TapeState) : Type 0 where
  pub two : length p.bots ≡ 2
  pub one_split : fissions p ≡ 1
  pub high : p.harmonics ≡ High
  pub full : p.profile ≡ full_profile
  pub in_row : AreInRow p.matrix.resolution (rear p) (front p)
  pub free : IsVoidFrom p.matrix (rear p).y

-- in the steps of a part of the plan at most two bots act, and this many of them fill or void a region
pub record Spends (old new : TapeState) (groups : ℕ) : Type 0 where
  pub commands_are : length new.commands + 2 * old.steps ≤ length old.commands + 2 * new.steps
  pub bytes_are : bytes new + 4 * old.steps ≤ bytes old + 4 * new.steps + 4 * groups

-- the pair has moved to two coordinates in at most this many steps, and no voxel has changed
pub record PairGoes (old new : TapeState) (a b : Coord) (steps : ℕ) : Type 0 where
  pub source : new.source ≡ old.source
  pub matrix : new.matrix ≡ old.matrix
  pub pair : IsPair new
  pub rear_is : rear new ≡ a
  pub front_is : front new ≡ b
  pub steps_are : new.steps ≤ old.steps + steps
  pub spends : Spends old new 0

-- both bots may make a move along z in one step: each move is one towards the bot's end, and all of the rear one's path
-- is before all of the front one's
pub record MaySlide (behind rear_next rear_to ahead front_next front_to : ℕ) : Type 0 where
  pub rear_differs : behind ≢ rear_next
  pub rear_near : (rear_next ≤ behind + 15) × (behind ≤ rear_next + 15)
  pub rear_left : moves behind rear_to ≡ moves rear_next rear_to + 1
  pub front_differs : ahead ≢ front_next
  pub front_near : (front_next ≤ ahead + 15) × (ahead ≤ front_next + 15)
  pub front_left : moves ahead front_to ≡ moves front_next front_to + 1
  pub front_onward : IsOnward ahead front_next front_to
  pub clear : rear_next < ahead
  pub past : behind < front_next
  pub order : rear_next < front_next

-- the pair has moved on towards two positions of its row, in as many steps as that saves moves
pub record Slides (old new : TapeState) (rear_to front_to : ℕ) : Type 0 where
  pub behind : ℕ
  pub ahead : ℕ
  pub left : moves behind rear_to + moves ahead front_to ≤ moves (rear old).z rear_to + moves (front old).z front_to
  pub goes : PairGoes old new (put Z (rear old) behind) (put Z (front old) ahead)
      (moves (rear old).z rear_to + moves (front old).z front_to - (moves behind rear_to + moves ahead front_to))

-- the voxels of a row from a first z on and before an end
abbrev pub in_part : ℕ → ℕ → ℕ → ℕ → Coord → Bool
in_part x y first end c = c.x == x && c.y == y && nat_le first c.z && nat_lt c.z end

-- if the test holds, the voxels are full, otherwise void; the others are unchanged
abbrev pub AreSet : Matrix → Matrix → (Coord → Bool) → Bool → Type 0
AreSet new old test full = (c : Coord) → is_full new c ≡ cond (test c) full (is_full old c)

-- the pair, at any position afterwards, has made voxels of a row full, or void, in at most this many steps
pub record Sets (old new : TapeState) (x y first end : ℕ) (full : Bool) (a b : Coord) (steps groups : ℕ) : Type 0 where
  pub source : new.source ≡ old.source
  pub resolution : new.matrix.resolution ≡ old.matrix.resolution
  pub set : AreSet new.matrix old.matrix (in_part x y first end) full
  pub pair : IsPair new
  pub rear_is : rear new ≡ a
  pub front_is : front new ≡ b
  pub steps_are : new.steps ≤ old.steps + steps
  pub spends : Spends old new groups

-- One bounding box of all that is volatile for some bots.
use Rattle.std.specs.Prelude.{◌≡◌, ◌≤◌, true, List, IsTrue}
use Rattle.std.specs.List.{list_any}
use Rattle.vox_geom.specs.declared.coordinate.Coord.{Coord}
use Rattle.vox_geom.specs.Point.{point}
use Rattle.vox_geom.specs.Region.{Corners, is_within, span}
use Rattle.nano_spec.specs.Act.{Act}
use Rattle.nano_spec.specs.Volatile.{is_volatile_of}
use Rattle.step_groups.specs.declared.one_pass.Outline.{Outline}
use Rattle.step_groups.specs.Apart.{AreAllApart}

-- a coordinate lies between the ends of the box
pub record LiesBetween (low high c : Coord) : Type 0 where
  pub from_x : low.x ≤ c.x
  pub from_y : low.y ≤ c.y
  pub from_z : low.z ≤ c.z
  pub to_x : c.x ≤ high.x
  pub to_y : c.y ≤ high.y
  pub to_z : c.z ≤ high.z

-- a box extended by P; it claims that all are disjoint only if it did so before, and P held of nothing in it
pub record TakesIn (P : Coord → Type 0) (old new : Outline) : Type 0 where
  pub keeps : (c : Coord) → LiesBetween old.low old.high c → LiesBetween new.low new.high c
  pub takes : (c : Coord) → P c → LiesBetween new.low new.high c
  pub was : new.apart ≡ true → old.apart ≡ true
  pub beside : new.apart ≡ true → (c : Coord) → P c → LiesBetween old.low old.high c → ⊥

-- a coordinate is volatile for the bot
abbrev pub IsVolatileFor : Act → Coord → Type 0
IsVolatileFor a c = IsTrue (is_volatile_of (point c) a)

-- a box holds each coordinate that is volatile for the bot
abbrev pub IsHullFor : Act → Corners → Type 0
IsHullFor a k = (c : Coord) → IsVolatileFor a c → IsTrue (is_within (span k) (point c))

-- the meaning of the box for these bots
pub record IsOutlineOf (outline : Outline) (xs : List Act) : Type 0 where
  pub around : (c : Coord) → IsTrue (list_any (is_volatile_of (point c)) xs) → LiesBetween outline.low outline.high c
  pub apart : outline.apart ≡ true → AreAllApart xs

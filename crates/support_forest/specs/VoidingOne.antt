-- Voiding a voxel that is no other's parent, so that no other level changes.
use Rattle.std.specs.Prelude.{◌≡◌, ℕ, ◌+◌, ◌*◌, ◌%◌, ◌<◌, ◌≤◌, ◌⊎◌, Bool, false, List, MatchBool, length}
use Rattle.std.specs.List.{Contains}
use Rattle.vox_geom.specs.declared.coordinate.Coord.{Coord}
use Rattle.support_forest.specs.declared.beside.Beside.{Beside}
use Rattle.support_forest.specs.Directions.{Toward}
use Rattle.support_forest.specs.Grid.{Grid, word_at}
use Rattle.support_forest.specs.Losing.{CanRemove}
use Rattle.support_forest.specs.Words.{AreExact}

-- the word has no parent in that direction
abbrev pub HangsNot : ℕ → ℕ → Type 0
HangsNot word toward = 8 ≤ word → word % 8 ≡ toward → ⊥

-- the voxel between these six neighbors is the parent of none
pub record HasNoChild (b : Beside) : Type 0 where
  pub left : HangsNot b.left 2
  pub right : HangsNot b.right 1
  pub under : HangsNot b.under 4
  pub over : HangsNot b.over 3
  pub near : HangsNot b.near 6
  pub far : HangsNot b.far 5

-- the voxel is the parent of none
abbrev pub IsNoParent : (Coord → ℕ) → Coord → Type 0
IsNoParent w c = (q : Coord) → 8 ≤ w q → Toward (w q % 8) q c → ⊥

-- if the result is false, the voxel is the parent of none; at most six touches
pub record TellsParent (told : Bool) (g : Grid) (c : Coord) (before after : ℕ) : Type 0 where
  pub parent : told ≡ false → IsNoParent (word_at g) c
  pub touches : after ≤ before + 6

-- the forest is consistent, and the voxel is full
pub record CanVoid (g : Grid) (c : Coord) : Type 0 where
  pub exact : AreExact g.resolution (word_at g)
  pub full : 0 < word_at g c

-- the voxel became void, no other word changed, and the forest is consistent
pub record HaveVoidedOne (old new : Grid) (c : Coord) (before after : ℕ) : Type 0 where
  pub resolution : new.resolution ≡ old.resolution
  pub exact : AreExact new.resolution (word_at new)
  pub gone : word_at new c ≡ 0
  pub kept : (d : Coord) → (d ≡ c → ⊥) → word_at new d ≡ word_at old d
  pub cost : after ≤ before + 8

-- the voxel became void, or nothing changed
abbrev pub VoidsOrStays : Bool → Grid → Grid → Coord → ℕ → ℕ → Type 0
VoidsOrStays done old new c before after =
    MatchBool done (HaveVoidedOne old new c before after) ((new ≡ old) × (after ≤ before + 6))

-- voxels of `gone` became void one after another, each without children; the rest may still be removed
pub record HaveVoidedEach (old new : Grid) (gone rest : List Coord) (before after : ℕ) : Type 0 where
  pub resolution : new.resolution ≡ old.resolution
  pub left : CanRemove new rest
  pub listed : (c : Coord) → Contains rest c → Contains gone c
  pub each : (c : Coord) → (word_at new c ≡ word_at old c) ⊎ ((word_at new c ≡ 0) × Contains gone c)
  pub taken : (c : Coord) → Contains gone c → (word_at new c ≡ 0) ⊎ Contains rest c
  pub few : length rest ≤ length gone
  pub cost : after + 2 * length rest ≤ before + 8 * length gone

-- The next bit of a value among the bits of words.
use Rattle.std.specs.Prelude.{◌≡◌, ℕ, ◌+◌, ◌-◌, ◌*◌, ◌%◌, ◌<◌, ◌≤◌, Bool, true, false, cond, not, List, count_by}
use Rattle.vox_geom.specs.declared.coordinate.Coord.{Coord}
use Rattle.vox_geom.specs.Space.{numbers_from}
use Rattle.nano_spec.specs.Model.{bit}
use Rattle.vox_planes.specs.Layers.{is_set}

-- whether a bit has the value
abbrev pub has_value : Bool → Bool → Bool
has_value value b = cond value b (not b)

-- the bits of the word v are 1 if those of the word w have the value
pub record IsMarked (w v : ℕ) (value : Bool) : Type 0 where
  pub bits : (k : ℕ) → k < 64 → bit v k ≡ has_value value (bit w k)

-- the bits of the word v are 1 if those from an index on to the end of its word have the value
pub record AreBitsFrom (ws : List ℕ) (from v : ℕ) (value : Bool) : Type 0 where
  pub bits : (k : ℕ) → from % 64 + k < 64 → bit v k ≡ has_value value (is_set ws (from + k))

-- the bit of a coordinate of a row is 1, the lowest bit being that of the first coordinate
abbrev pub has_bit : ℕ → Coord → Coord → Bool
has_bit v first c = bit v (c.z - first.z)

-- no bit of the value is from an index on and before an end
pub record LacksValue (ws : List ℕ) (from end : ℕ) (value : Bool) : Type 0 where
  pub free : (j : ℕ) → from ≤ j → j < end → is_set ws j ≡ not value

-- the bit at an index has the value, and none before it does
pub record IsNextBit (ws : List ℕ) (from at : ℕ) (value : Bool) : Type 0 where
  pub first : from ≤ at
  pub before : LacksValue ws from at value
  pub here : is_set ws at ≡ value

-- none of `count` bits is 1: the first is at an index, and each `apart` after the one before
pub record AreClear (ws : List ℕ) (from apart count : ℕ) : Type 0 where
  pub free : (n : ℕ) → n < count → is_set ws (from + n * apart) ≡ false

-- of such bits the one with this number is 1, and none before it is
pub record IsFirstBit (ws : List ℕ) (from apart n : ℕ) : Type 0 where
  pub before : AreClear ws from apart n
  pub here : is_set ws (from + n * apart) ≡ true

-- how many of n bits from an index on have the other value
abbrev pub others_of : List ℕ → ℕ → ℕ → Bool → ℕ
others_of ws index count value = count_by (λ j. has_value (not value) (is_set ws j)) (numbers_from index count)

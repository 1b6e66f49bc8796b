-- The search for the first voxel that floats: parts of rows, rows, and all of space.
use Rattle.std.proofs.Common.{◌≡◌, ℕ, zero, suc, ◌+◌, ◌-◌, ◌*◌, ◌%◌, ◌<◌, ◌≤◌, inl, inr, sym, ◌∙◌, ap, subst, arith, List, Option, Some, None}
use Rattle.std.specs.Prelude.{◌≢◌}
use Rattle.std.proofs.lemmas.Bool.{cases_lt}
use Rattle.std.proofs.Math.Arith.{digits_lt, digits_mod}
use Rattle.brick_arena.specs.Slots.{HasSlot, start_in_chunk}
use Rattle.nano_spec.specs.Model.{volume}
use Rattle.vox_geom.specs.declared.coordinate.Coord.{Coord}
use Rattle.vox_geom.specs.Space.{IsInSpace, coordinate_at, place}
use Rattle.vox_geom.proofs.Firsts.{place_below}
use Rattle.vox_geom.proofs.Places.{coordinate_at-place}
use Rattle.support_forest.specs.Floating.{FirstOne, IsFirstOne, NoneIsOne, words_along, words_from}
use Rattle.support_forest.specs.Grid.{FloatsFirst, Grid, IsStore, NoneFloatsBelow, offset_in_slot, slot_of, word_at}
use Rattle.support_forest.specs.Segments.{LieInRow, further}
use Rattle.support_forest.proofs.Store.{brick_inside}
use Rattle.support_forest.proofs.Segments.{row_slot, row_space, row_word}
use Rattle.support_forest.proofs.Writes.{reads_none}

-- ---- a part of a row, which lies in one brick

-- numbers that are the same have the same first 1
first_same : {f h : ℕ → ℕ} {n : ℕ} (o : Option ℕ) → ((k : ℕ) → k < n → h k ≡ f k) → FirstOne f n o → FirstOne h n o
first_same None same first = λ k l e. first k l (sym (same k l) ∙ e)
first_same (Some k) same first = record {
  below = first.below;
  one = same k first.below ∙ first.one;
  first = λ j l e. first.first j l (sym (same j (let below = first.below in omega arith)) ∙ e);
}

pub part_first : (g : Grid) (chunk : List ℕ) (slot slot_offset from n : ℕ) (c : Coord) (o : Option ℕ) → IsStore g
    → LieInRow g c n → slot_of g c ≡ Some slot → HasSlot g.bricks slot chunk → slot_offset ≡ offset_in_slot c
    → from ≡ start_in_chunk slot + slot_offset → FirstOne (words_from chunk from) n o → FirstOne (words_along g c) n o
part_first g chunk slot slot_offset from n c o store row own has at start =
    first_same o (row_word g chunk slot slot_offset from n c store (brick_inside g.resolution c row.within) row.row own has at start)

-- no voxel of a brick without a slot floats
pub part_void : (g : Grid) (c : Coord) (n : ℕ) → LieInRow g c n → None ≡ slot_of g c → NoneIsOne (words_along g c) n
part_void g c n row none k l e =
    let void : 0 ≡ word_at g (further c k) = reads_none g (further c k) (row_space g c n k row l) (row_slot g c n k None row l none) in
    absurd (omega arith)

-- ---- a row of space

-- of the first voxels of a row none floats
abbrev pub NoneFloatsTo : Grid → Coord → ℕ → Type 0
NoneFloatsTo g start z = (k : ℕ) → k < z → k < g.resolution → word_at g (further start k) ≢ 1

-- the part of a row that begins at this z
abbrev pub part_at : Coord → ℕ → Coord
part_at start z = record { x = start.x; y = start.y; z = z }

further_on : (start : Coord) (z k : ℕ) → start.z ≡ 0 → further (part_at start z) k ≡ further start (z + k)
further_on start z k begins = let same : z + k ≡ start.z + (z + k) = omega arith in λ i. record { x = start.x; y = start.y; z = same i }

pub row_goes_on : (g : Grid) (start : Coord) (z n next : ℕ) → start.z ≡ 0 → NoneFloatsTo g start z
    → NoneIsOne (words_along g (part_at start z)) n → ((k : ℕ) → k < next → k < g.resolution → k < z + n)
    → NoneFloatsTo g start next
row_goes_on g start z n next begins before none reach k l within = elim (cases_lt k z) [
  | inl is_before ↦ before k is_before within
  | inr is_after ↦
      let in_part : k - z < n = let below = reach k l within in omega arith in
      let sum_is : z + (k - z) ≡ k = omega arith in
      λ e. none (k - z) in_part (ap (word_at g) (further_on start z (k - z) begins ∙ ap (further start) sum_is) ∙ e)
]

pub row_found : (g : Grid) (start : Coord) (z n k : ℕ) → start.z ≡ 0 → z + n ≤ g.resolution → NoneFloatsTo g start z
    → IsFirstOne (words_along g (part_at start z)) n k → IsFirstOne (words_along g start) g.resolution (z + k)
row_found g start z n k begins within before found = record {
  below = let below = found.below in omega arith;
  one = sym (ap (word_at g) (further_on start z k begins)) ∙ found.one;
  first = λ j l. elim (cases_lt j z) [
    | inl is_before ↦ before j is_before (let below = found.below in omega arith)
    | inr is_after ↦ λ e. found.first (j - z) (omega arith) (ap (word_at g) (further_on start z (j - z) begins ∙ ap (further start) (let sum_is : z + (j - z) ≡ j = omega arith in sum_is)) ∙ e)
  ];
}

-- ---- all rows of space

-- the coordinates from the start of a row on
along_row : (r p k : ℕ) (start : Coord) → IsInSpace r start → place r start ≡ p → start.z + k < r
    → coordinate_at r (p + k) ≡ further start k
along_row r p k start within at below =
    let sum_is : p + k ≡ place r (further start k) = omega arith in
    ap (coordinate_at r) sum_is ∙ coordinate_at-place r (further start k) (record { x = within.x; y = within.y; z = below })

pub row_ends : (r s row : ℕ) → s ≡ r → row < s * s → row * r + r ≤ volume r
row_ends zero s row e below = omega arith
row_ends (suc r) s row e below =
    let last : row * suc r + r < suc r * suc r * suc r = digits_lt (subst (λ (n : ℕ). row < n * n) e below) (omega arith) in
    omega arith

-- the row begins there: x and y of its number, and z 0
pub record IsRowStart (g : Grid) (row : ℕ) (start : Coord) : Type 0 where
  pub within : IsInSpace g.resolution start
  pub at : place g.resolution start ≡ row * g.resolution
  pub begins : start.z ≡ 0

pub row_below : (r s row : ℕ) → s ≡ r → row < s * s → row * s < r * r * r
row_below r s row e below = subst (λ (n : ℕ). row * s < n * n * n) e (omega (arith, digits_lt below (positive s row below)))
  where
    positive : (s row : ℕ) → row < s * s → 0 < s
    positive zero row h = absurd (omega arith)
    positive (suc s) row h = omega arith

pub row_begins : (g : Grid) (r s row : ℕ) (start : Coord) → r ≡ g.resolution → s ≡ g.resolution
    → start ≡ coordinate_at r (row * s) → IsInSpace r start → place r start ≡ row * s → IsRowStart g row start
row_begins g r s row start re se is within at = record {
  within = subst (λ (n : ℕ). IsInSpace n start) re within;
  at = subst (λ (n : ℕ). place n start ≡ row * s) re at ∙ ap (λ (n : ℕ). row * n) se;
  begins =
      let sum_is : row * s ≡ row * r + 0 = omega (arith, ap (λ (n : ℕ). row * n) (se ∙ sym re)) in
      ap (λ (c : Coord). c.z) is ∙ (ap (λ (p : ℕ). p % r) sum_is ∙ digits_mod row (let x = within.x in omega arith));
}

pub space_goes_on : (g : Grid) (row : ℕ) (start : Coord) → IsRowStart g row start
    → NoneFloatsBelow g (row * g.resolution) → NoneIsOne (words_along g start) g.resolution
    → NoneFloatsBelow g ((row + 1) * g.resolution)
space_goes_on g row start row_start before none p l = elim (cases_lt p (row * g.resolution)) [
  | inl is_before ↦ before p is_before
  | inr is_after ↦
      let below : p - row * g.resolution < g.resolution = omega arith in
      let sum_is : p ≡ row * g.resolution + (p - row * g.resolution) = omega arith in
      let here : coordinate_at g.resolution p ≡ further start (p - row * g.resolution) = ap (coordinate_at g.resolution) sum_is ∙ along_row g.resolution (row * g.resolution) (p - row * g.resolution) start row_start.within row_start.at (let begins = row_start.begins in omega arith) in
      λ e. none (p - row * g.resolution) below (sym (ap (word_at g) here) ∙ e)
]

pub space_found : (g : Grid) (row z : ℕ) (start : Coord) → IsRowStart g row start
    → NoneFloatsBelow g (row * g.resolution) → IsFirstOne (words_along g start) g.resolution z
    → FloatsFirst g (record { x = start.x; y = start.y; z = z })
space_found g row z start row_start before found = record {
  place = row * g.resolution + z;
  below = let below = place_below g.resolution (further start z) (further_within z found.below) in let at = row_start.at in let begins = row_start.begins in omega arith;
  here = further_is ∙ sym (on z found.below);
  floats = ap (word_at g) further_is ∙ found.one;
  first = λ p l. elim (cases_lt p (row * g.resolution)) [
    | inl is_before ↦ before p is_before
    | inr is_after ↦
        let sum_is : p ≡ row * g.resolution + (p - row * g.resolution) = omega arith in
        let below : p - row * g.resolution < g.resolution = let below = found.below in omega arith in
        λ e. found.first (p - row * g.resolution) (omega arith) (sym (ap (word_at g) (ap (coordinate_at g.resolution) sum_is ∙ on (p - row * g.resolution) below)) ∙ e)
  ];
}
  where
    further_is : record { x = start.x; y = start.y; z = z } ≡ further start z
    further_is = let begins = row_start.begins in let same : z ≡ start.z + z = omega arith in λ i. record { x = start.x; y = start.y; z = same i }

    further_within : (k : ℕ) → k < g.resolution → IsInSpace g.resolution (further start k)
    further_within k l = record { x = row_start.within.x; y = row_start.within.y; z = let begins = row_start.begins in omega arith }

    on : (k : ℕ) → k < g.resolution → coordinate_at g.resolution (row * g.resolution + k) ≡ further start k
    on k l = along_row g.resolution (row * g.resolution) k start row_start.within row_start.at (let begins = row_start.begins in omega arith)

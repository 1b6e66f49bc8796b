-- The bricks of a store, their slots and their words.
use Rattle.std.proofs.Common.{◌≡◌, ℕ, zero, suc, ◌+◌, ◌*◌, ◌/◌, ◌%◌, ◌<◌, ◌≤◌, refl, sym, ◌∙◌, ap, arith, true, false, cond, ◌&&◌, List, [], ◌∷◌, length, get_or, get_or-set_other, Option, Some, None, is_some, inl, inr, unwrap_or}
use Rattle.std.specs.Prelude.{nat_lt, count_by}
use Rattle.std.proofs.Math.ListN.{set}
use Rattle.std.proofs.lemmas.Bool.{cases_eq, eq-eqb, ne_eqb}
use Rattle.std.proofs.lemmas.List.Sums.{sum_by-cons, count_by-le-length}
use Rattle.std.specs.Cmp.{nat_cmp_total, unsigned_tied}
use Rattle.std.specs.FinMap.{get, insert, len, get-insert, len-insert}
use Rattle.vox_geom.specs.declared.coordinate.Coord.{Coord}
use Rattle.vox_geom.specs.Space.{IsInSpace, place, coordinate_at}
use Rattle.vox_geom.proofs.Places.{coordinate_at-place}
use Rattle.vox_geom.proofs.Truths.{both_true, first_of_two, second_of_two}
use Rattle.vox_geom.proofs.Tests.{less_by_test, test_less}
use Rattle.brick_arena.specs.Slots.{Slots, IsLive, swapped, words_of}
use Rattle.support_forest.specs.Grid.{Grid, side, brick, brick_number, word_index, offset_in_slot, slot_at, is_inside, IsStore}

pub inside : (r : ℕ) (c : Coord) → IsInSpace r c → is_inside r c ≡ true
inside r c h = both_true (nat_lt c.x r && nat_lt c.y r) (nat_lt c.z r) (both_true (nat_lt c.x r) (nat_lt c.y r) (test_less c.x r h.x) (test_less c.y r h.y)) (test_less c.z r h.z)

pub in_space : (r : ℕ) (c : Coord) → is_inside r c ≡ true → IsInSpace r c
in_space r c h = record {
  x = less_by_test c.x r (first_of_two (nat_lt c.x r) (nat_lt c.y r) (first_of_two (nat_lt c.x r && nat_lt c.y r) (nat_lt c.z r) h));
  y = less_by_test c.y r (second_of_two (nat_lt c.x r) (nat_lt c.y r) (first_of_two (nat_lt c.x r && nat_lt c.y r) (nat_lt c.z r) h));
  z = less_by_test c.z r (second_of_two (nat_lt c.x r && nat_lt c.y r) (nat_lt c.z r) h);
}

-- ---- bricks

pub brick_inside : (r : ℕ) (c : Coord) → IsInSpace r c → IsInSpace (side r) (brick c)
unfolding side
brick_inside r c h = let along_x = h.x in let along_y = h.y in let along_z = h.z in record { x = omega arith; y = omega arith; z = omega arith }

pub few_bricks : (r : ℕ) → r ≤ 400 → side r ≤ 51
unfolding side
few_bricks r h = omega arith

pub cube_of_bricks : (n : ℕ) → n ≤ 51 → n * n * n ≤ 132651
cube_of_bricks n h =
    let at_most_product : n * n ≤ 51 * n = grind arith in
    let at_most_n : n * n * n ≤ 51 * n * n = grind arith in
    omega arith

pub slot_offset_below : (c : Coord) → offset_in_slot c < 512
unfolding offset_in_slot
slot_offset_below c = omega arith

-- the index of the word at a voxel's offset
pub index_there : (c : Coord) (at : ℕ) → at ≡ offset_in_slot c → swapped at ≡ word_index c
unfolding swapped offset_in_slot word_index
index_there c at e = omega arith

digits : (a b c d e f : ℕ) → 64 * (a % 8) + 8 * (b % 8) + c % 8 ≡ 64 * (d % 8) + 8 * (e % 8) + f % 8
    → (a % 8 ≡ d % 8) × (b % 8 ≡ e % 8) × (c % 8 ≡ f % 8)
digits a b c d e f h = (omega arith, omega arith, omega arith)

same_digits : (a b : ℕ) → a / 8 ≡ b / 8 → a % 8 ≡ b % 8 → a ≡ b
same_digits a b h k = omega arith

-- two voxels of one brick with one index are one voxel, also beyond space
pub same_voxel : (r : ℕ) (c d : Coord) → IsInSpace (side r) (brick c) → IsInSpace (side r) (brick d)
    → brick_number r c ≡ brick_number r d → word_index c ≡ word_index d → c ≡ d
unfolding brick_number word_index
same_voxel r c d h k n i =
    let same_brick_here : brick c ≡ brick d = sym (coordinate_at-place (side r) (brick c) h) ∙ (ap (coordinate_at (side r)) n ∙ coordinate_at-place (side r) (brick d) k) in
    let all_digits = digits c.x c.y c.z d.x d.y d.z i in
    let same_x : c.x ≡ d.x = same_digits c.x d.x (ap (λ (p : Coord). p.x) same_brick_here) all_digits.0 in
    let same_y : c.y ≡ d.y = same_digits c.y d.y (ap (λ (p : Coord). p.y) same_brick_here) all_digits.1 in
    let same_z : c.z ≡ d.z = same_digits c.z d.z (ap (λ (p : Coord). p.z) same_brick_here) all_digits.2 in
    λ j. record { x = same_x j; y = same_y j; z = same_z j }

-- ---- slots

pub get_here : (v : Slots) (s : ℕ) (words : List ℕ) (q : ℕ) → q ≡ s → get (insert v s words) q ≡ Some words
get_here v s words q e = get-insert nat_cmp_total v s words q ∙ ap (λ b. cond b (Some words) (get v q)) (unsigned_tied q s ∙ eq-eqb q s e)

pub get_other : (v : Slots) (s : ℕ) (words : List ℕ) (q : ℕ) → (q ≡ s → ⊥) → get (insert v s words) q ≡ get v q
get_other v s words q n = get-insert nat_cmp_total v s words q ∙ ap (λ b. cond b (Some words) (get v q)) (unsigned_tied q s ∙ ne_eqb q s n)

pub still_live : (v : Slots) (s : ℕ) (words : List ℕ) (q : ℕ) → IsLive v q → IsLive (insert v s words) q
still_live v s words q h = elim (cases_eq q s) [ inl e ↦ ap is_some (get_here v s words q e) | inr n ↦ ap is_some (get_other v s words q n) ∙ h ]

pub len_replaced : (v : Slots) (s : ℕ) (words : List ℕ) → IsLive v s → len (insert v s words) ≡ len v
len_replaced v s words h = len-insert nat_cmp_total v s words ∙ ap (λ b. cond b (len v) (len v + 1)) h

pub len_added : (v : Slots) (s : ℕ) (words : List ℕ) → get v s ≡ None → len (insert v s words) ≡ len v + 1
len_added v s words h = len-insert nat_cmp_total v s words ∙ ap (λ o. cond (is_some o) (len v) (len v + 1)) h

-- a write changes one word
pub other_word : (v : Slots) (s i w t j : ℕ) → (t ≡ s → j ≡ i → ⊥)
    → get_or (words_of (insert v s (set (words_of v s) i w)) t) j 0 ≡ get_or (words_of v t) j 0
other_word v s i w t j n = elim (cases_eq t s) [
  | inl e ↦
      let ne : j ≡ i → ⊥ = n e in
      let same_element : get_or (set (words_of v s) i w) j 0 ≡ get_or (words_of v s) j 0 = (rw get_or-set_other refl) in
      ap (λ (o : Option (List ℕ)). get_or (unwrap_or o []) j 0) (get_here v s (set (words_of v s) i w) t e) ∙ (same_element ∙ ap (λ (q : ℕ). get_or (words_of v q) j 0) (sym e))
  | inr ne ↦ ap (λ (o : Option (List ℕ)). get_or (unwrap_or o []) j 0) (get_other v s (set (words_of v s) i w) t ne)
]

one_more : (o : Option ℕ) (n : ℕ) → o ≡ None → 1 + n ≡ cond (is_some o) 1 0 + n + 1
one_more None n e = omega arith
one_more (Some s) n e = absurd (none_some s e)
  where
    none_some : (s : ℕ) → Some s ≡ None → ⊥
    none_some s e = let true_is_false : true ≡ false = ap is_some e in cc

-- one more brick has a slot
pub count_taken : (table : List (Option ℕ)) (n s : ℕ) → n < length table → slot_at table n ≡ None
    → count_by is_some (set table n (Some s)) ≡ count_by is_some table + 1
count_taken [] n s l e = absurd (omega arith)
count_taken (o ∷ more) zero s l e =
    sum_by-cons (λ (p : Option ℕ). cond (is_some p) 1 0) (Some s) more ∙ (one_more o (count_by is_some more) e ∙ ap (λ (k : ℕ). k + 1) (sym (sum_by-cons (λ (p : Option ℕ). cond (is_some p) 1 0) o more)))
count_taken (o ∷ more) (suc n) s l e =
    let sum_is : count_by is_some (o ∷ set more n (Some s)) ≡ cond (is_some o) 1 0 + count_by is_some (set more n (Some s)) = sum_by-cons (λ (p : Option ℕ). cond (is_some p) 1 0) o (set more n (Some s)) in
    let count_is : count_by is_some (o ∷ more) ≡ cond (is_some o) 1 0 + count_by is_some more = sum_by-cons (λ (p : Option ℕ). cond (is_some p) 1 0) o more in
    let same_count : count_by is_some (set more n (Some s)) ≡ count_by is_some more + 1 = count_taken more n s (omega arith) e in
    omega arith

-- there is room for the slot of each brick
pub few_live : (g : Grid) → IsStore g → len g.bricks ≤ 132651
few_live g h =
    let at_most_length : count_by is_some g.table ≤ length g.table = count_by-le-length is_some g.table in
    let length_is : length g.table ≡ side g.resolution * side g.resolution * side g.resolution = h.bricks in
    let few_bricks_here : side g.resolution * side g.resolution * side g.resolution ≤ 132651 = cube_of_bricks (side g.resolution) (few_bricks g.resolution h.few) in
    let len_is : len g.bricks ≡ count_by is_some g.table = h.count in
    omega arith

-- ---- the results of the code

pub number_is : (r s n : ℕ) (c : Coord) → s ≡ side r → n ≡ place s (brick c) → n ≡ brick_number r c
unfolding brick_number
number_is r s n c e h = h ∙ ap (λ (k : ℕ). place k (brick c)) e

pub side_is : (r n : ℕ) → (r ≤ n * 8) × (n * 8 < r + 8) → n + 1 ≡ side r
unfolding side
side_is r n h = omega arith

-- voxels of one brick have its number
pub same_brick : (r : ℕ) (c d : Coord) → brick c ≡ brick d → brick_number r c ≡ brick_number r d
unfolding brick_number
same_brick r c d e = ap (place (side r)) e

pub brick_is : (r : ℕ) (c d : Coord) → IsInSpace r c → IsInSpace r d → brick_number r c ≡ brick_number r d
    → brick c ≡ brick d
unfolding brick_number
brick_is r c d h k n = sym (coordinate_at-place (side r) (brick c) (brick_inside r c h)) ∙ (ap (coordinate_at (side r)) n ∙ coordinate_at-place (side r) (brick d) (brick_inside r d k))

-- Neighbors that lie in another brick.
use Rattle.std.proofs.Common.{◌≡◌, ℕ, zero, suc, ◌+◌, ◌-◌, ◌*◌, ◌/◌, ◌%◌, ◌<◌, ◌≤◌, inl, inr, refl, sym, ◌∙◌, ap, arith, Option, None, Some}
use Rattle.std.specs.Prelude.{MatchOption}
use Rattle.std.proofs.Math.Nat.{add-mul, mul-le-mul_right, suc-mul}
use Rattle.std.proofs.lemmas.Bool.{cases_lt}
use Rattle.brick_arena.specs.Slots.{swapped}
use Rattle.vox_geom.specs.declared.coordinate.Coord.{Coord}
use Rattle.vox_geom.specs.Space.{IsInSpace, place}
use Rattle.vox_geom.proofs.Firsts.{place_below}
use Rattle.support_forest.specs.Directions.{lies_left, lies_right, lies_under, lies_over, lies_near, lies_far}
use Rattle.support_forest.specs.Grid.{Grid, IsStore, LiesAtOffset, brick, brick_number, offset_in_slot, side, slot_at, word_at, word_in, word_index}
use Rattle.support_forest.specs.FillingOne.{EndsBrick, IsOwnIndex, IsIndexAcross, IsIndexToward, IsWordToward, NoneToward, IsOffsetBeyond}
use Rattle.support_forest.specs.Indices.{voxel_of}
use Rattle.support_forest.proofs.Sides.{goes, one_toward}
use Rattle.support_forest.proofs.Voxels.{digit_x, digit_y, digit_z, own_index}
use Rattle.support_forest.proofs.Store.{brick_inside, cube_of_bricks, index_there}

-- ---- the number of the next brick

pub wall_before : (s x y z number own : ℕ) → 0 < x → number + s * s ≡ own → own ≡ x * s * s + y * s + z
    → (x - 1) * s * s + y * s + z ≡ number
wall_before s zero y z number own l e h = absurd (omega arith)
wall_before s (suc x) y z number own l e h =
    let less : suc x - 1 ≡ x = omega arith in
    let product : suc x * s * s ≡ x * s * s + s * s = ap (λ (k : ℕ). k * s) (suc-mul x s) ∙ add-mul (x * s) s s in
    ap (λ (k : ℕ). k * s * s + y * s + z) less ∙ omega arith

pub wall_behind : (s x y z number own : ℕ) → number ≡ own + s * s → own ≡ x * s * s + y * s + z
    → (x + 1) * s * s + y * s + z ≡ number
wall_behind s x y z number own e h =
    let more : x + 1 ≡ suc x = omega arith in
    let product : suc x * s * s ≡ x * s * s + s * s = ap (λ (k : ℕ). k * s) (suc-mul x s) ∙ add-mul (x * s) s s in
    ap (λ (k : ℕ). k * s * s + y * s + z) more ∙ omega arith

pub row_before : (s x y z number own : ℕ) → 0 < y → number + s ≡ own → own ≡ x * s * s + y * s + z
    → x * s * s + (y - 1) * s + z ≡ number
row_before s x zero z number own l e h = absurd (omega arith)
row_before s x (suc y) z number own l e h =
    let less : suc y - 1 ≡ y = omega arith in
    let product : suc y * s ≡ y * s + s = suc-mul y s in
    ap (λ (k : ℕ). x * s * s + k * s + z) less ∙ omega arith

pub row_behind : (s x y z number own : ℕ) → number ≡ own + s → own ≡ x * s * s + y * s + z
    → x * s * s + (y + 1) * s + z ≡ number
row_behind s x y z number own e h =
    let more : y + 1 ≡ suc y = omega arith in
    let product : suc y * s ≡ y * s + s = suc-mul y s in
    ap (λ (k : ℕ). x * s * s + k * s + z) more ∙ omega arith

pub wall_fits : (s x y z own : ℕ) → 0 < x → own ≡ x * s * s + y * s + z → s * s ≤ own
wall_fits s zero y z own l e = absurd (omega arith)
wall_fits s (suc x) y z own l e =
    let product : suc x * s * s ≡ x * s * s + s * s = ap (λ (k : ℕ). k * s) (suc-mul x s) ∙ add-mul (x * s) s s in
    omega arith

pub row_fits : (s x y z own : ℕ) → 0 < y → own ≡ x * s * s + y * s + z → s ≤ own
row_fits s x zero z own l e = absurd (omega arith)
row_fits s x (suc y) z own l e = let product : suc y * s ≡ y * s + s = suc-mul y s in omega arith

pub square_of_bricks : (n : ℕ) → n ≤ 51 → n * n ≤ 2601
square_of_bricks n h =
    let at_most_n : n * n ≤ 51 * n = grind arith in
    omega arith

pub lies_below : (r number slot_offset : ℕ) (c : Coord) → LiesAtOffset r number slot_offset c
    → number < side r * side r * side r
unfolding brick_number
lies_below r number slot_offset c s = let below = place_below (side r) (brick c) s.within in let in_brick = s.in_brick in omega arith

-- ---- the index of the neighbor

-- as many bricks are before it, unless it is in the first of them
pub own_below : (r : ℕ) (c : Coord) (number slot_offset : ℕ) → IsOwnIndex r c number slot_offset → side r ≤ 51
    → number < 132651
unfolding brick_number
own_below r c number slot_offset own few =
    let below = place_below (side r) (brick c) (brick_inside r c own.within) in
    let cube = cube_of_bricks (side r) few in
    let in_brick = own.in_brick in
    omega arith

pub wall_before_own : (r : ℕ) (c : Coord) (number slot_offset : ℕ) → IsOwnIndex r c number slot_offset → c.x % 8 ≡ 0
    → 0 < c.x → side r * side r ≤ number
unfolding brick_number
wall_before_own r c number slot_offset own last some = wall_fits (side r) (c.x / 8) (c.y / 8) (c.z / 8) number (omega arith) own.in_brick

pub row_before_own : (r : ℕ) (c : Coord) (number slot_offset : ℕ) → IsOwnIndex r c number slot_offset → c.y % 8 ≡ 0
    → 0 < c.y → side r ≤ number
unfolding brick_number
row_before_own r c number slot_offset own last some = row_fits (side r) (c.x / 8) (c.y / 8) (c.z / 8) number (omega arith) own.in_brick

pub one_before_own : (r : ℕ) (c : Coord) (number slot_offset : ℕ) → IsOwnIndex r c number slot_offset → c.z % 8 ≡ 0
    → 0 < c.z → 1 ≤ number
unfolding brick_number
one_before_own r c number slot_offset own last some = let in_brick = own.in_brick in omega arith

pub index_left : (r : ℕ) (c : Coord) (d own place number slot_offset : ℕ) → IsOwnIndex r c own place → d ≡ 1
    → c.x % 8 ≡ 0 → 0 < c.x → number + side r * side r ≡ own → slot_offset ≡ place + 56
    → IsIndexToward r c d number slot_offset
unfolding brick_number offset_in_slot
index_left r c d own place number slot_offset own_index e last some n i =
    let bricks = brick_inside r c own_index.within in
    let in_x = bricks.x in
    let at = own_index.at_offset in
    let before : (c.x - 1) / 8 ≡ c.x / 8 - 1 = omega arith in
    record {
      there = record { x = c.x - 1; y = c.y; z = c.z };
      toward = lies_left (e, omega arith, refl, refl);
      stands = record {
        within = record { x = omega arith; y = bricks.y; z = bricks.z };
        in_brick = ap (λ (k : ℕ). k * side r * side r + c.y / 8 * side r + c.z / 8) before ∙ wall_before (side r) (c.x / 8) (c.y / 8) (c.z / 8) number own (omega arith) n own_index.in_brick;
        at_offset = omega arith;
      };
    }

pub index_right : (r : ℕ) (c : Coord) (d own place number slot_offset : ℕ) → IsOwnIndex r c own place → d ≡ 2
    → c.x % 8 ≡ 7 → number ≡ own + side r * side r → slot_offset + 56 ≡ place → IsIndexToward r c d number slot_offset
unfolding brick_number offset_in_slot side
index_right r c d own place number slot_offset own_index e last n i =
    let bricks = brick_inside r c own_index.within in
    let along = own_index.within.x in
    let at = own_index.at_offset in
    let behind : (c.x + 1) / 8 ≡ c.x / 8 + 1 = omega arith in
    record {
      there = record { x = c.x + 1; y = c.y; z = c.z };
      toward = lies_right (e, omega arith, refl, refl);
      stands = record {
        within = record { x = omega arith; y = bricks.y; z = bricks.z };
        in_brick = ap (λ (k : ℕ). k * side r * side r + c.y / 8 * side r + c.z / 8) behind ∙ wall_behind (side r) (c.x / 8) (c.y / 8) (c.z / 8) number own n own_index.in_brick;
        at_offset = omega arith;
      };
    }

pub index_under : (r : ℕ) (c : Coord) (d own place number slot_offset : ℕ) → IsOwnIndex r c own place → d ≡ 3
    → c.y % 8 ≡ 0 → 0 < c.y → number + side r ≡ own → slot_offset ≡ place + 448 → IsIndexToward r c d number slot_offset
unfolding brick_number offset_in_slot
index_under r c d own place number slot_offset own_index e last some n i =
    let bricks = brick_inside r c own_index.within in
    let in_y = bricks.y in
    let at = own_index.at_offset in
    let before : (c.y - 1) / 8 ≡ c.y / 8 - 1 = omega arith in
    record {
      there = record { x = c.x; y = c.y - 1; z = c.z };
      toward = lies_under (e, refl, omega arith, refl);
      stands = record {
        within = record { x = bricks.x; y = omega arith; z = bricks.z };
        in_brick = ap (λ (k : ℕ). c.x / 8 * side r * side r + k * side r + c.z / 8) before ∙ row_before (side r) (c.x / 8) (c.y / 8) (c.z / 8) number own (omega arith) n own_index.in_brick;
        at_offset = omega arith;
      };
    }

pub index_over : (r : ℕ) (c : Coord) (d own place number slot_offset : ℕ) → IsOwnIndex r c own place → d ≡ 4
    → c.y % 8 ≡ 7 → number ≡ own + side r → slot_offset + 448 ≡ place → IsIndexToward r c d number slot_offset
unfolding brick_number offset_in_slot side
index_over r c d own place number slot_offset own_index e last n i =
    let bricks = brick_inside r c own_index.within in
    let along = own_index.within.y in
    let at = own_index.at_offset in
    let behind : (c.y + 1) / 8 ≡ c.y / 8 + 1 = omega arith in
    record {
      there = record { x = c.x; y = c.y + 1; z = c.z };
      toward = lies_over (e, refl, omega arith, refl);
      stands = record {
        within = record { x = bricks.x; y = omega arith; z = bricks.z };
        in_brick = ap (λ (k : ℕ). c.x / 8 * side r * side r + k * side r + c.z / 8) behind ∙ row_behind (side r) (c.x / 8) (c.y / 8) (c.z / 8) number own n own_index.in_brick;
        at_offset = omega arith;
      };
    }

pub index_near : (r : ℕ) (c : Coord) (d own place number slot_offset : ℕ) → IsOwnIndex r c own place → d ≡ 5
    → c.z % 8 ≡ 0 → 0 < c.z → number + 1 ≡ own → slot_offset ≡ place + 7 → IsIndexToward r c d number slot_offset
unfolding brick_number offset_in_slot
index_near r c d own place number slot_offset own_index e last some n i =
    let bricks = brick_inside r c own_index.within in
    let in_z = bricks.z in
    let at = own_index.at_offset in
    let in_brick = own_index.in_brick in
    record {
      there = record { x = c.x; y = c.y; z = c.z - 1 };
      toward = lies_near (e, refl, refl, omega arith);
      stands = record { within = record { x = bricks.x; y = bricks.y; z = omega arith }; in_brick = omega arith; at_offset = omega arith };
    }

pub index_far : (r : ℕ) (c : Coord) (d own place number slot_offset : ℕ) → IsOwnIndex r c own place → d ≡ 6
    → c.z % 8 ≡ 7 → number ≡ own + 1 → slot_offset + 7 ≡ place → IsIndexToward r c d number slot_offset
unfolding brick_number offset_in_slot side
index_far r c d own place number slot_offset own_index e last n i =
    let bricks = brick_inside r c own_index.within in
    let along = own_index.within.z in
    let at = own_index.at_offset in
    let in_brick = own_index.in_brick in
    record {
      there = record { x = c.x; y = c.y; z = c.z + 1 };
      toward = lies_far (e, refl, refl, omega arith);
      stands = record { within = record { x = bricks.x; y = bricks.y; z = omega arith }; in_brick = omega arith; at_offset = omega arith };
    }

-- ---- no neighbor at the border of space

pub none_left : (r : ℕ) (c : Coord) (d : ℕ) → d ≡ 1 → c.x ≡ 0 → NoneToward r c d
none_left r c d e h = λ q t s. let some = (goes d r c q t s).one e in absurd (omega arith)

pub none_under : (r : ℕ) (c : Coord) (d : ℕ) → d ≡ 3 → c.y ≡ 0 → NoneToward r c d
none_under r c d e h = λ q t s. let some = (goes d r c q t s).three e in absurd (omega arith)

pub none_near : (r : ℕ) (c : Coord) (d : ℕ) → d ≡ 5 → c.z ≡ 0 → NoneToward r c d
none_near r c d e h = λ q t s. let some = (goes d r c q t s).five e in absurd (omega arith)

-- ---- the last voxel of a brick

pub ends_left : (c : Coord) (d : ℕ) → d ≡ 1 → c.x % 8 ≡ 0 → EndsBrick c d
ends_left c d e h = record { left = λ k. h; right = λ k. absurd (omega arith); under = λ k. absurd (omega arith); over = λ k. absurd (omega arith); near = λ k. absurd (omega arith); far = λ k. absurd (omega arith) }

pub ends_right : (c : Coord) (d : ℕ) → d ≡ 2 → c.x % 8 ≡ 7 → EndsBrick c d
ends_right c d e h = record { left = λ k. absurd (omega arith); right = λ k. h; under = λ k. absurd (omega arith); over = λ k. absurd (omega arith); near = λ k. absurd (omega arith); far = λ k. absurd (omega arith) }

pub ends_under : (c : Coord) (d : ℕ) → d ≡ 3 → c.y % 8 ≡ 0 → EndsBrick c d
ends_under c d e h = record { left = λ k. absurd (omega arith); right = λ k. absurd (omega arith); under = λ k. h; over = λ k. absurd (omega arith); near = λ k. absurd (omega arith); far = λ k. absurd (omega arith) }

pub ends_over : (c : Coord) (d : ℕ) → d ≡ 4 → c.y % 8 ≡ 7 → EndsBrick c d
ends_over c d e h = record { left = λ k. absurd (omega arith); right = λ k. absurd (omega arith); under = λ k. absurd (omega arith); over = λ k. h; near = λ k. absurd (omega arith); far = λ k. absurd (omega arith) }

pub ends_near : (c : Coord) (d : ℕ) → d ≡ 5 → c.z % 8 ≡ 0 → EndsBrick c d
ends_near c d e h = record { left = λ k. absurd (omega arith); right = λ k. absurd (omega arith); under = λ k. absurd (omega arith); over = λ k. absurd (omega arith); near = λ k. h; far = λ k. absurd (omega arith) }

pub ends_far : (c : Coord) (d : ℕ) → d ≡ 6 → c.z % 8 ≡ 7 → EndsBrick c d
ends_far c d e h = record { left = λ k. absurd (omega arith); right = λ k. absurd (omega arith); under = λ k. absurd (omega arith); over = λ k. absurd (omega arith); near = λ k. absurd (omega arith); far = λ k. h }

-- ---- the bricks beyond space

first_wall : (s x y z own : ℕ) → x ≡ 0 → y < s → z < s → own ≡ x * s * s + y * s + z → own < s * s
first_wall s (suc x) y z own e l k h = absurd (omega arith)
first_wall s zero y z own e l k h =
    let less : suc y * s ≤ s * s = mul-le-mul_right s (omega arith) in
    let product : suc y * s ≡ y * s + s = suc-mul y s in
    omega arith

first_row : (s x y z own : ℕ) → x ≡ 0 → y ≡ 0 → z < s → own ≡ x * s * s + y * s + z → own < s
first_row s (suc x) y z own e f k h = absurd (omega arith)
first_row s zero (suc y) z own e f k h = absurd (omega arith)
first_row s zero zero z own e f k h = omega arith

-- the brick before the first brick of a row lies in the wall before: it is the last of its rows
row_around : (s x z number own : ℕ) → 0 < x → 0 < s → number + s ≡ own → own ≡ x * s * s + 0 * s + z
    → (x - 1) * s * s + (s - 1) * s + z ≡ number
row_around s zero z number own l k n h = absurd (omega arith)
row_around zero (suc x) z number own l k n h = absurd (omega arith)
row_around (suc s) (suc x) z number own l k n h =
    let less : suc x - 1 ≡ x = omega arith in
    let last : suc s - 1 ≡ s = omega arith in
    let product : suc x * suc s * suc s ≡ x * suc s * suc s + suc s * suc s = ap (λ (k : ℕ). k * suc s) (suc-mul x (suc s)) ∙ add-mul (x * suc s) (suc s) (suc s) in
    let square : suc s * suc s ≡ s * suc s + suc s = suc-mul s (suc s) in
    ap (λ (k : ℕ). k * suc s * suc s + (suc s - 1) * suc s + z) less ∙ (ap (λ (k : ℕ). x * suc s * suc s + k * suc s + z) last ∙ omega arith)

-- the brick before the first brick of a line is the last of the line before
line_around : (s x y number own : ℕ) → 0 < y → 0 < s → number + 1 ≡ own → own ≡ x * s * s + y * s + 0
    → x * s * s + (y - 1) * s + (s - 1) ≡ number
line_around s x zero number own l k n h = absurd (omega arith)
line_around zero x (suc y) number own l k n h = absurd (omega arith)
line_around (suc s) x (suc y) number own l k n h =
    let less : suc y - 1 ≡ y = omega arith in
    let product : suc y * suc s ≡ y * suc s + suc s = suc-mul y (suc s) in
    ap (λ (k : ℕ). x * suc s * suc s + k * suc s + (suc s - 1)) less ∙ omega arith

wall_around : (s x number own : ℕ) → 0 < x → 0 < s → number + 1 ≡ own → own ≡ x * s * s + 0 * s + 0
    → (x - 1) * s * s + (s - 1) * s + (s - 1) ≡ number
wall_around s zero number own l k n h = absurd (omega arith)
wall_around zero (suc x) number own l k n h = absurd (omega arith)
wall_around (suc s) (suc x) number own l k n h =
    let less : suc x - 1 ≡ x = omega arith in
    let last : suc s - 1 ≡ s = omega arith in
    let product : suc x * suc s * suc s ≡ x * suc s * suc s + suc s * suc s = ap (λ (k : ℕ). k * suc s) (suc-mul x (suc s)) ∙ add-mul (x * suc s) (suc s) (suc s) in
    let square : suc s * suc s ≡ s * suc s + suc s = suc-mul s (suc s) in
    ap (λ (k : ℕ). k * suc s * suc s + (suc s - 1) * suc s + (suc s - 1)) less ∙ (ap (λ (k : ℕ). x * suc s * suc s + k * suc s + k) last ∙ omega arith)

-- ---- the word there

-- a fact about an option's value or about its absence
pub match_so : {A : Type 0} (o : Option A) (N M : Type 0) (P Q : A → Type 0) → (N → M) → ((a : A) → P a → Q a)
    → MatchOption o N P → MatchOption o M Q
match_so None N M P Q n k h = n h
match_so (Some a) N M P Q n k h = k a h

-- the word at an offset of a brick is that of each voxel with this offset
pub reads_in_brick : (g : Grid) (number at word : ℕ) (slot : Option ℕ) → IsStore g → slot ≡ slot_at g.table number
    → word ≡ word_in g.bricks slot (swapped at) → (q : Coord) → LiesAtOffset g.resolution number at q
    → word_at g q ≡ word
reads_in_brick g number at word slot h e k q s =
    sym (h.words q s.within) ∙ (ap (λ (n : ℕ). word_in g.bricks (slot_at g.table n) (word_index q)) s.in_brick ∙ (ap (λ (j : ℕ). word_in g.bricks (slot_at g.table number) j) (sym (index_there q at (sym s.at_offset))) ∙ (ap (λ (x : Option ℕ). word_in g.bricks x (swapped at)) (sym e) ∙ sym k)))

-- if no voxel lies in the direction, the word is 0
pub no_word : (g : Grid) (c : Coord) (d word : ℕ) → ((q : Coord) → 0 < word_at g q → IsInSpace g.resolution q)
    → NoneToward g.resolution c d → word ≡ 0 → IsWordToward (word_at g) c d word
no_word g c d word space none e = record {
  each = λ q t. elim (cases_lt 0 (word_at g q)) [ inl f ↦ absurd (none q t (space q f)) | inr f ↦ omega arith ];
  some = λ f. absurd (omega arith);
}

pub that_word : (g : Grid) (c : Coord) (d number slot_offset word : ℕ)
    → IsIndexToward g.resolution c d number slot_offset
    → ((q : Coord) → LiesAtOffset g.resolution number slot_offset q → word_at g q ≡ word)
    → IsWordToward (word_at g) c d word
that_word g c d number slot_offset word s value = record {
  each = λ q k. ap (word_at g) (one_toward d c q s.there k s.toward) ∙ value s.there s.stands;
  some = λ f. (s.there, s.toward);
}

-- a word beyond space is 0
void_word : (g : Grid) (q : Coord) (word : ℕ) → ((p : Coord) → 0 < word_at g p → IsInSpace g.resolution p)
    → (IsInSpace g.resolution q → ⊥) → word_at g q ≡ word → word ≡ 0
void_word g q word space out e = elim (cases_lt 0 (word_at g q)) [ inl f ↦ absurd (out (space q f)) | inr f ↦ omega arith ]

-- ---- the voxel over the border

-- the number of its brick is in the table
pub across_below : (r : ℕ) (c : Coord) (d next : ℕ) → IsIndexAcross r c d next
    → next / 512 < side r * side r * side r
across_below r c d next (inl s) = lies_below r (next / 512) (next % 512) s.there s.stands
across_below r c d next (inr s) = lies_below r (next / 512) (next % 512) s.1.there s.1.stands

-- the word there is that of the neighbor, and 0 if none lies in space
pub word_there : (g : Grid) (c : Coord) (d next word : ℕ) → ((q : Coord) → 0 < word_at g q → IsInSpace g.resolution q)
    → IsIndexAcross g.resolution c d next
    → ((q : Coord) → LiesAtOffset g.resolution (next / 512) (next % 512) q → word_at g q ≡ word)
    → IsWordToward (word_at g) c d word
word_there g c d next word space (inl s) value = that_word g c d (next / 512) (next % 512) word s value
word_there g c d next word space (inr s) value =
    no_word g c d word space s.0 (void_word g s.1.there word space s.1.out (value s.1.there s.1.stands))

pub across_left : (r p t next : ℕ) → t ≡ side r * side r → IsInSpace r (voxel_of (side r) p)
    → (voxel_of (side r) p).x % 8 ≡ 0 → next + 512 * t ≡ p + 56 → IsIndexAcross r (voxel_of (side r) p) 1 next
unfolding brick_number
across_left r p t next e within last is =
    let c = voxel_of (side r) p in
    let own = own_index r p within in
    let digit : p % 512 / 8 % 8 ≡ 0 = sym (digit_x (side r) p) ∙ last in
    let bricks = brick_inside r c within in
    elim (cases_lt 0 c.x) [
      | inl some ↦ inl (index_left r c 1 (p / 512) (p % 512) (next / 512) (next % 512) own refl last some (omega arith) (omega arith))
      | inr none ↦ let below = first_wall (side r) (c.x / 8) (c.y / 8) (c.z / 8) (p / 512) (omega arith) bricks.y bricks.z own.in_brick in absurd (omega arith)
    ]

pub no_left : (r p t : ℕ) → t ≡ side r * side r → IsInSpace r (voxel_of (side r) p)
    → (voxel_of (side r) p).x % 8 ≡ 0 → (p + 56) / 512 < t → NoneToward r (voxel_of (side r) p) 1
no_left r p t e within last few =
    let c = voxel_of (side r) p in
    let own = own_index r p within in
    let digit : p % 512 / 8 % 8 ≡ 0 = sym (digit_x (side r) p) ∙ last in
    elim (cases_lt 0 c.x) [
      | inl some ↦ let before = wall_before_own r c (p / 512) (p % 512) own last some in absurd (omega arith)
      | inr none ↦ none_left r c 1 refl (omega arith)
    ]

pub across_right : (r p t next : ℕ) → t ≡ side r * side r → IsInSpace r (voxel_of (side r) p)
    → (voxel_of (side r) p).x % 8 ≡ 7 → next + 56 ≡ p + 512 * t → IsIndexAcross r (voxel_of (side r) p) 2 next
across_right r p t next e within last is =
    let own = own_index r p within in
    let digit : p % 512 / 8 % 8 ≡ 7 = sym (digit_x (side r) p) ∙ last in
    inl (index_right r (voxel_of (side r) p) 2 (p / 512) (p % 512) (next / 512) (next % 512) own refl last (omega arith) (omega arith))

pub across_over : (r p t next : ℕ) → t ≡ side r → IsInSpace r (voxel_of (side r) p)
    → (voxel_of (side r) p).y % 8 ≡ 7 → next + 448 ≡ p + 512 * t → IsIndexAcross r (voxel_of (side r) p) 4 next
across_over r p t next e within last is =
    let own = own_index r p within in
    let digit : p % 512 / 64 ≡ 7 = sym (digit_y (side r) p) ∙ last in
    inl (index_over r (voxel_of (side r) p) 4 (p / 512) (p % 512) (next / 512) (next % 512) own refl last (omega arith) (omega arith))

pub across_far : (r p next : ℕ) → IsInSpace r (voxel_of (side r) p) → (voxel_of (side r) p).z % 8 ≡ 7
    → next + 7 ≡ p + 512 → IsIndexAcross r (voxel_of (side r) p) 6 next
across_far r p next within last is =
    let own = own_index r p within in
    let digit : p % 512 % 8 ≡ 7 = sym (digit_z (side r) p) ∙ last in
    inl (index_far r (voxel_of (side r) p) 6 (p / 512) (p % 512) (next / 512) (next % 512) own refl last (omega arith) (omega arith))

-- the brick before the first of its row lies beyond space
beyond_row : (r p next : ℕ) → IsInSpace r (voxel_of (side r) p) → (voxel_of (side r) p).y ≡ 0
    → next + 512 * side r ≡ p + 448 → IsOffsetBeyond r (next / 512) (next % 512)
unfolding brick_number offset_in_slot side
beyond_row r p next within floor is =
    let c = voxel_of (side r) p in
    let own = own_index r p within in
    let bricks = brick_inside r c within in
    let digit : p % 512 / 64 ≡ 0 = sym (digit_y (side r) p) ∙ omega arith in
    let there : Coord = record { x = c.x - 8; y = 8 * (side r - 1) + 7; z = c.z } in
    let in_x = bricks.x in
    let in_z = bricks.z in
    let wall : 0 < c.x / 8 = elim (cases_lt 0 (c.x / 8)) [
      | inl k ↦ k
      | inr k ↦ let below = first_row (side r) (c.x / 8) (c.y / 8) (c.z / 8) (p / 512) (omega arith) (omega arith) in_z own.in_brick in absurd (omega arith)
    ] in
    let x_is : (c.x - 8) / 8 ≡ c.x / 8 - 1 = omega arith in
    let y_is : (8 * (side r - 1) + 7) / 8 ≡ side r - 1 = omega arith in
    let at = own.at_offset in
    let row : p / 512 ≡ c.x / 8 * side r * side r + 0 * side r + c.z / 8 = own.in_brick ∙ ap (λ (k : ℕ). c.x / 8 * side r * side r + k * side r + c.z / 8) (omega arith) in
    let number : next / 512 + side r ≡ p / 512 = omega arith in
    record {
      there = there;
      out = λ s. let in_y = s.y in omega arith;
      stands = record {
        within = record { x = omega arith; y = omega arith; z = in_z };
        in_brick = ap (λ (k : ℕ). k * side r * side r + (8 * (side r - 1) + 7) / 8 * side r + c.z / 8) x_is ∙ (ap (λ (k : ℕ). (c.x / 8 - 1) * side r * side r + k * side r + c.z / 8) y_is ∙ row_around (side r) (c.x / 8) (c.z / 8) (next / 512) (p / 512) wall (omega arith) number row);
        at_offset = omega arith;
      };
    }

pub across_under : (r p t next : ℕ) → t ≡ side r → IsInSpace r (voxel_of (side r) p)
    → (voxel_of (side r) p).y % 8 ≡ 0 → next + 512 * t ≡ p + 448 → IsIndexAcross r (voxel_of (side r) p) 3 next
across_under r p t next e within last is =
    let c = voxel_of (side r) p in
    let own = own_index r p within in
    let digit : p % 512 / 64 ≡ 0 = sym (digit_y (side r) p) ∙ last in
    elim (cases_lt 0 c.y) [
      | inl some ↦ inl (index_under r c 3 (p / 512) (p % 512) (next / 512) (next % 512) own refl last some (omega arith) (omega arith))
      | inr none ↦ inr (none_under r c 3 refl (omega arith), beyond_row r p next within (omega arith) (omega arith))
    ]

pub no_under : (r p t : ℕ) → t ≡ side r → IsInSpace r (voxel_of (side r) p) → (voxel_of (side r) p).y % 8 ≡ 0
    → (p + 448) / 512 < t → NoneToward r (voxel_of (side r) p) 3
no_under r p t e within last few =
    let c = voxel_of (side r) p in
    let own = own_index r p within in
    let digit : p % 512 / 64 ≡ 0 = sym (digit_y (side r) p) ∙ last in
    elim (cases_lt 0 c.y) [
      | inl some ↦ let before = row_before_own r c (p / 512) (p % 512) own last some in absurd (omega arith)
      | inr none ↦ none_under r c 3 refl (omega arith)
    ]

-- the brick before the first of its line lies beyond space
beyond_line : (r p next : ℕ) → IsInSpace r (voxel_of (side r) p) → (voxel_of (side r) p).z ≡ 0
    → next + 512 ≡ p + 7 → IsOffsetBeyond r (next / 512) (next % 512)
unfolding brick_number offset_in_slot side
beyond_line r p next within first is =
    let c = voxel_of (side r) p in
    let own = own_index r p within in
    let bricks = brick_inside r c within in
    let in_x = bricks.x in
    let in_y = bricks.y in
    let digit : p % 512 % 8 ≡ 0 = sym (digit_z (side r) p) ∙ omega arith in
    let at = own.at_offset in
    let z_is : (8 * (side r - 1) + 7) / 8 ≡ side r - 1 = omega arith in
    let number : next / 512 + 1 ≡ p / 512 = omega arith in
    let line : p / 512 ≡ c.x / 8 * side r * side r + c.y / 8 * side r + 0 = own.in_brick ∙ ap (λ (k : ℕ). c.x / 8 * side r * side r + c.y / 8 * side r + k) (omega arith) in
    elim (cases_lt 0 (c.y / 8)) [
      | inl k ↦
          let y_is : (c.y - 8) / 8 ≡ c.y / 8 - 1 = omega arith in
          record {
            there = record { x = c.x; y = c.y - 8; z = 8 * (side r - 1) + 7 };
            out = λ s. let in_z = s.z in omega arith;
            stands = record {
              within = record { x = in_x; y = omega arith; z = omega arith };
              in_brick = ap (λ (j : ℕ). c.x / 8 * side r * side r + j * side r + (8 * (side r - 1) + 7) / 8) y_is ∙ (ap (λ (j : ℕ). c.x / 8 * side r * side r + (c.y / 8 - 1) * side r + j) z_is ∙ line_around (side r) (c.x / 8) (c.y / 8) (next / 512) (p / 512) k (omega arith) number line);
              at_offset = omega arith;
            };
          }
      | inr k ↦
          let none : c.y / 8 ≡ 0 = omega arith in
          let wall_line : p / 512 ≡ c.x / 8 * side r * side r + 0 * side r + 0 = line ∙ ap (λ (j : ℕ). c.x / 8 * side r * side r + j * side r + 0) none in
          let wall : 0 < c.x / 8 = elim (cases_lt 0 (c.x / 8)) [
            | inl m ↦ m
            | inr m ↦ let first_is : c.x / 8 * side r * side r ≡ 0 * side r * side r = ap (λ (j : ℕ). j * side r * side r) (omega arith) in absurd (omega arith)
          ] in
          let x_is : (c.x - 8) / 8 ≡ c.x / 8 - 1 = omega arith in
          let y_is : (8 * (side r - 1) + c.y % 8) / 8 ≡ side r - 1 = omega arith in
          record {
            there = record { x = c.x - 8; y = 8 * (side r - 1) + c.y % 8; z = 8 * (side r - 1) + 7 };
            out = λ s. let in_z = s.z in omega arith;
            stands = record {
              within = record { x = omega arith; y = omega arith; z = omega arith };
              in_brick = ap (λ (j : ℕ). j * side r * side r + (8 * (side r - 1) + c.y % 8) / 8 * side r + (8 * (side r - 1) + 7) / 8) x_is ∙ (ap (λ (j : ℕ). (c.x / 8 - 1) * side r * side r + j * side r + (8 * (side r - 1) + 7) / 8) y_is ∙ (ap (λ (j : ℕ). (c.x / 8 - 1) * side r * side r + (side r - 1) * side r + j) z_is ∙ wall_around (side r) (c.x / 8) (next / 512) (p / 512) wall (omega arith) number wall_line));
              at_offset = omega arith;
            };
          }
    ]

pub across_near : (r p next : ℕ) → IsInSpace r (voxel_of (side r) p) → (voxel_of (side r) p).z % 8 ≡ 0
    → next + 512 ≡ p + 7 → IsIndexAcross r (voxel_of (side r) p) 5 next
across_near r p next within last is =
    let c = voxel_of (side r) p in
    let own = own_index r p within in
    let digit : p % 512 % 8 ≡ 0 = sym (digit_z (side r) p) ∙ last in
    elim (cases_lt 0 c.z) [
      | inl some ↦ inl (index_near r c 5 (p / 512) (p % 512) (next / 512) (next % 512) own refl last some (omega arith) (omega arith))
      | inr none ↦ inr (none_near r c 5 refl (omega arith), beyond_line r p next within (omega arith) (omega arith))
    ]

pub no_near : (r p : ℕ) → IsInSpace r (voxel_of (side r) p) → (voxel_of (side r) p).z % 8 ≡ 0
    → (p + 7) / 512 < 1 → NoneToward r (voxel_of (side r) p) 5
no_near r p within last few =
    let c = voxel_of (side r) p in
    let own = own_index r p within in
    let digit : p % 512 % 8 ≡ 0 = sym (digit_z (side r) p) ∙ last in
    elim (cases_lt 0 c.z) [
      | inl some ↦ let before = one_before_own r c (p / 512) (p % 512) own last some in absurd (omega arith)
      | inr none ↦ none_near r c 5 refl (omega arith)
    ]

-- The voxels at indices.
use Rattle.std.proofs.Common.{◌≡◌, ℕ, ◌+◌, ◌*◌, ◌/◌, ◌%◌, ◌<◌, ◌≤◌, sym, ◌∙◌, ap, arith, inl, inr, Option, None, Some, rules}
use Rattle.std.specs.Prelude.{◌==◌, IfSome}
use Rattle.std.proofs.lemmas.Bool.{cases_eq}
use Rattle.brick_arena.specs.Slots.{IsLive}
use Rattle.vox_geom.specs.declared.coordinate.Coord.{Coord}
use Rattle.vox_geom.specs.Space.{IsInSpace, coordinate_at, place}
use Rattle.vox_geom.proofs.Firsts.{place_below}
use Rattle.vox_geom.proofs.Places.{coordinate_at-place, place-coordinate_at}
use Rattle.vox_geom.proofs.Tests.{test_equal, test_unequal}
use Rattle.support_forest.specs.Grid.{Grid, IsStore, brick, brick_number, offset_in_slot, side, slot_at, slot_of}
use Rattle.support_forest.specs.FillingOne.{IsOwnIndex}
use Rattle.support_forest.specs.Indices.{store_index, voxel_of, voxel_in, voxel_of_brick}
use Rattle.support_forest.specs.Segments.{further, whole_row_start}
use Rattle.support_forest.proofs.Store.{brick_inside, cube_of_bricks, few_bricks, slot_offset_below}

high : (b i : ℕ) → i < 8 → (8 * b + i) / 8 ≡ b
high b i h = omega arith

low : (b i : ℕ) → i < 8 → (8 * b + i) % 8 ≡ i
low b i h = omega arith

-- the brick of the voxel at an index
pub brick_at : (s p : ℕ) → brick (voxel_of s p) ≡ coordinate_at s (p / 512)
unfolding voxel_of
brick_at s p =
    let x_is = high (p / 512 / (s * s)) (p % 512 / 8 % 8) (omega arith) in
    let y_is = high (p / 512 / s % s) (p % 512 / 64) (omega arith) in
    let z_is = high (p / 512 % s) (p % 512 % 8) (omega arith) in
    λ j. record { x = x_is j; y = y_is j; z = z_is j }

-- its digits in the brick
pub digit_x : (s p : ℕ) → (voxel_of s p).x % 8 ≡ p % 512 / 8 % 8
unfolding voxel_of
digit_x s p = low (p / 512 / (s * s)) (p % 512 / 8 % 8) (omega arith)

pub digit_y : (s p : ℕ) → (voxel_of s p).y % 8 ≡ p % 512 / 64
unfolding voxel_of
digit_y s p = low (p / 512 / s % s) (p % 512 / 64) (omega arith)

pub digit_z : (s p : ℕ) → (voxel_of s p).z % 8 ≡ p % 512 % 8
unfolding voxel_of
digit_z s p = low (p / 512 % s) (p % 512 % 8) (omega arith)

-- an index is the number of a brick times 512 plus an offset in its slot
pub place_at : (s p : ℕ) → place s (brick (voxel_of s p)) ≡ p / 512
place_at s p = ap (place s) (brick_at s p) ∙ place-coordinate_at s (p / 512)

pub number_at : (r p : ℕ) → brick_number r (voxel_of (side r) p) ≡ p / 512
unfolding brick_number
number_at r p = place_at (side r) p

pub slot_offset_at : (s p : ℕ) → offset_in_slot (voxel_of s p) ≡ p % 512
unfolding offset_in_slot
slot_offset_at s p =
    let x_is = digit_x s p in
    let y_is = digit_y s p in
    let z_is = digit_z s p in
    omega arith

of_brick : (c : Coord) → voxel_of_brick (brick c) (offset_in_slot c) ≡ c
unfolding offset_in_slot
of_brick c =
    let x_is : 8 * (c.x / 8) + (64 * (c.y % 8) + 8 * (c.x % 8) + c.z % 8) / 8 % 8 ≡ c.x = omega arith in
    let y_is : 8 * (c.y / 8) + (64 * (c.y % 8) + 8 * (c.x % 8) + c.z % 8) / 64 ≡ c.y = omega arith in
    let z_is : 8 * (c.z / 8) + (64 * (c.y % 8) + 8 * (c.x % 8) + c.z % 8) % 8 ≡ c.z = omega arith in
    λ j. record { x = x_is j; y = y_is j; z = z_is j }

-- the voxel at a voxel's index, and at any index that has its brick and its offset there
pub voxel_is : (s p : ℕ) (c : Coord) → IsInSpace s (brick c) → place s (brick c) ≡ p / 512 → offset_in_slot c ≡ p % 512
    → voxel_of s p ≡ c
unfolding voxel_of
voxel_is s p c h n i =
    ap (λ (k : ℕ). voxel_of_brick (coordinate_at s k) (p % 512)) (sym n)
    ∙ (ap (λ (b : Coord). voxel_of_brick b (p % 512)) (coordinate_at-place s (brick c) h)
    ∙ (ap (voxel_of_brick (brick c)) (sym i) ∙ of_brick c))

pub voxel_there : (r p : ℕ) (c : Coord) → IsInSpace (side r) (brick c) → brick_number r c ≡ p / 512
    → offset_in_slot c ≡ p % 512 → voxel_of (side r) p ≡ c
unfolding brick_number
voxel_there r p c h n i = voxel_is (side r) p c h n i

pub voxel_at_index : (r : ℕ) (c : Coord) → IsInSpace (side r) (brick c) → voxel_of (side r) (store_index r c) ≡ c
unfolding store_index
voxel_at_index r c h =
    let below = slot_offset_below c in
    voxel_there r (512 * brick_number r c + offset_in_slot c) c h (omega arith) (omega arith)

pub own_index : (r p : ℕ) → IsInSpace r (voxel_of (side r) p) → IsOwnIndex r (voxel_of (side r) p) (p / 512) (p % 512)
own_index r p h = record { within = h; in_brick = sym (number_at r p); at_offset = sym (slot_offset_at (side r) p) }

-- the number of a brick in the table
pub number_below : (r p : ℕ) → IsInSpace r (voxel_of (side r) p) → p / 512 < side r * side r * side r
unfolding brick_number
number_below r p h =
    let below = place_below (side r) (brick (voxel_of (side r) p)) (brick_inside r (voxel_of (side r) p) h) in
    let number_is = number_at r p in
    omega arith

-- the number of a voxel's brick is small
pub few_numbers : (r : ℕ) (c : Coord) → r ≤ 400 → IsInSpace r c → brick_number r c < 132651
unfolding brick_number
few_numbers r c few h =
    let below = place_below (side r) (brick c) (brick_inside r c h) in
    let cube = cube_of_bricks (side r) (few_bricks r few) in
    omega arith

pub index_small : (r p : ℕ) → r ≤ 400 → IsInSpace r (voxel_of (side r) p) → p < 67917312
index_small r p few h =
    let below = number_below r p h in
    let cube = cube_of_bricks (side r) (few_bricks r few) in
    omega arith

-- the slot of the voxel at an index
pub slot_there : (g : Grid) (p : ℕ) (slot : Option ℕ) → slot ≡ slot_at g.table (p / 512)
    → slot ≡ slot_of g (voxel_in g p)
slot_there g p slot e = e ∙ ap (λ (n : ℕ). slot_at g.table n) (sym (number_at g.resolution p))

pub live_slot : (g : Grid) (number : ℕ) (slot : Option ℕ) → IsStore g → slot ≡ slot_at g.table number
    → IfSome slot (IsLive g.bricks)
live_slot g number None h e = search rules
live_slot g number (Some slot) h e = h.live number slot (sym e)

-- ---- along a row of a brick

pub voxel_further : (s p k : ℕ) → p % 8 + k < 8 → voxel_of s (p + k) ≡ further (voxel_of s p) k
unfolding voxel_of
voxel_further s p k r =
    let number : (p + k) / 512 ≡ p / 512 = omega arith in
    let x_is : (p + k) % 512 / 8 % 8 ≡ p % 512 / 8 % 8 = omega arith in
    let y_is : (p + k) % 512 / 64 ≡ p % 512 / 64 = omega arith in
    let z_is : (p + k) % 512 % 8 ≡ p % 512 % 8 + k = omega arith in
    let same : voxel_of_brick (coordinate_at s ((p + k) / 512)) ((p + k) % 512) ≡ voxel_of_brick (coordinate_at s (p / 512)) ((p + k) % 512) = ap (λ (n : ℕ). voxel_of_brick (coordinate_at s n) ((p + k) % 512)) number in
    let brick_is = coordinate_at s (p / 512) in
    let sum_is : 8 * brick_is.z + (p % 512 % 8 + k) ≡ 8 * brick_is.z + p % 512 % 8 + k = omega arith in
    same ∙ (λ j. record { x = 8 * brick_is.x + x_is j; y = 8 * brick_is.y + y_is j; z = 8 * brick_is.z + z_is j }) ∙ (λ j. record { x = 8 * brick_is.x + p % 512 / 8 % 8; y = 8 * brick_is.y + p % 512 / 64; z = sum_is j })

pub whole_row_there : (s p : ℕ) → voxel_of s (p / 8 * 8) ≡ whole_row_start (voxel_of s p)
unfolding voxel_of
whole_row_there s p =
    let number : p / 8 * 8 / 512 ≡ p / 512 = omega arith in
    let x_is : p / 8 * 8 % 512 / 8 % 8 ≡ p % 512 / 8 % 8 = omega arith in
    let y_is : p / 8 * 8 % 512 / 64 ≡ p % 512 / 64 = omega arith in
    let brick_is = coordinate_at s (p / 512) in
    let z_is : 8 * brick_is.z + p / 8 * 8 % 512 % 8 ≡ (8 * brick_is.z + p % 512 % 8) / 8 * 8 = omega arith in
    ap (λ (n : ℕ). voxel_of_brick (coordinate_at s n) (p / 8 * 8 % 512)) number
    ∙ (λ j. record { x = 8 * brick_is.x + x_is j; y = 8 * brick_is.y + y_is j; z = z_is j })

-- ---- along a line through space

pub voxel_along : (r line : ℕ) (c : Coord) → line ≡ store_index r (record { x = c.x; y = c.y; z = 0 }) → IsInSpace r c
    → voxel_of (side r) (line + 512 * (c.z / 8) + c.z % 8) ≡ c
unfolding store_index brick_number offset_in_slot
voxel_along r line c e h =
    let bricks = brick_inside r c h in
    voxel_there r (line + 512 * (c.z / 8) + c.z % 8) c bricks (omega arith) (omega arith)

-- the part of an index in its row of eight is that of its voxel
pub part_there : (s p n : ℕ) → (voxel_of s p).z % 8 + n ≤ 8 → p % 8 + n ≤ 8
part_there s p n h = let digit = digit_z s p in omega arith

pub part_of_row : (s p n : ℕ) → p % 8 + n ≤ 8 → (voxel_of s p).z % 8 + n ≤ 8
part_of_row s p n h = let digit = digit_z s p in omega arith

-- ---- the floor

pub some_side : (r : ℕ) → 0 < side r
unfolding side
some_side r = omega arith

pub floor_there : (s p : ℕ) → p / 64 % 8 ≡ 0 → (p / 512 / s % s == 0) ≡ ((voxel_of s p).y == 0)
unfolding voxel_of
floor_there s p e = elim (cases_eq (p / 512 / s % s) 0) [
  | inl f ↦ test_equal (p / 512 / s % s) 0 f ∙ sym (test_equal (8 * (p / 512 / s % s) + p % 512 / 64) 0 (omega arith))
  | inr n ↦ test_unequal (p / 512 / s % s) 0 n ∙ sym (test_unequal (8 * (p / 512 / s % s) + p % 512 / 64) 0 (λ k. n (omega arith)))
]

pub raised_there : (s p : ℕ) → (p / 64 % 8 ≡ 0 → ⊥) → (p / 64 % 8 == 0) ≡ ((voxel_of s p).y == 0)
unfolding voxel_of
raised_there s p n = test_unequal (p / 64 % 8) 0 n ∙ sym (test_unequal (8 * (p / 512 / s % s) + p % 512 / 64) 0 (λ k. n (omega arith)))

-- The next bit of a value, and the next voxel of a row that is full or void.
use Rattle.std.proofs.Common.{◌≡◌, ℕ, zero, suc, ◌+◌, ◌-◌, ◌/◌, ◌%◌, ◌^◌, ◌<◌, ◌≤◌, refl, sym, ◌∙◌, ap, subst, arith, Bool, true, false, cond, not, ◌==◌, List, [], ◌∷◌, ◌++◌, get_or, filter, find, Some, None, inl, inr}
use Rattle.std.specs.Prelude.{◌⊎◌}
use Rattle.std.specs.Int.{bit_at, bit_not, trailing_zeros, w64}
use Rattle.std.proofs.lemmas.Bool.{cases_lt}
use Rattle.std.proofs.lemmas.List.Elements.{filter-append}
use Rattle.std.proofs.lemmas.Nat.{shr-shr, shr_below, shr_le}
use Rattle.std.proofs.lemmas.Nat.Bits.{bit_at_above, bit_at-lt, bit_at_not, bit_at-trailing_zeros, bit_at-zero}
use Rattle.vox_geom.specs.declared.coordinate.Coord.{Coord}
use Rattle.vox_geom.specs.Space.{IsInSpace}
use Rattle.nano_spec.specs.Matrix.{Matrix, is_full}
use Rattle.nano_spec.specs.Model.{bit}
use Rattle.vox_planes.specs.Bits.{AreBitsFrom, LacksValue, IsMarked, IsNextBit, has_bit, has_value}
use Rattle.vox_planes.specs.Layers.{bit_index, is_set, layered}
use Rattle.vox_planes.specs.Voxel.{is_state}
use Rattle.vox_planes.specs.Walk.{at, row}
use Rattle.vox_planes.proofs.Voxels.{is_full-layered}
use Rattle.vox_planes.proofs.Walks.{row-end, row-more}
use Rattle.vox_planes.proofs.Chunks.{shifted_bit}
use Rattle.vox_planes.proofs.Bits.{one as is_one, zero_bit}

-- ---- the bits of a word from one on

state-true : (value b : Bool) → has_value value b ≡ true → b ≡ value
state-true true b e = e
state-true false true e = cc
state-true false false e = refl

state-false : (value b : Bool) → has_value value b ≡ false → b ≡ not value
state-false true b e = e
state-false false true e = refl
state-false false false e = cc

bit_from : (ws : List ℕ) (i k : ℕ) → i % 64 + k < 64 → is_set ws (i + k) ≡ bit (get_or ws (i / 64) 0) (i % 64 + k)
unfolding is_set
bit_from ws i k l =
    let same_quotient : (i + k) / 64 ≡ i / 64 = omega arith in
    let remainder_is : (i + k) % 64 ≡ i % 64 + k = omega arith in
    λ t. bit (get_or ws (same_quotient t) 0) (remainder_is t)

-- a bit past the shift that is not marked has the other value
unmarked : (ws : List ℕ) (i w v k : ℕ) (value : Bool) → w ≡ get_or ws (i / 64) 0 → IsMarked w v value → i % 64 + k < 64
    → bit_at (v / 2 ^ (i % 64)) k ≡ 0 → is_set ws (i + k) ≡ not value
unmarked ws i w v k value e h l z =
    bit_from ws i k l
    ∙ (ap (λ n. bit n (i % 64 + k)) (sym e)
    ∙ state-false value (bit w (i % 64 + k)) (sym (h.bits (i % 64 + k) l) ∙ zero_bit v (i % 64 + k) (sym (shifted_bit v (i % 64) k) ∙ z)))

-- the other word marks the bits of the other value
pub mark_other : (w : ℕ) → w < 2 ^ 64 → IsMarked w (bit_not w64 w) false
mark_other w h = record { bits = λ k l. ap (λ n. n == 1) (bit_at_not w64 w k h l) ∙ by (bit_at w k) (bit_at-lt w k) }
  where
    by : (v : ℕ) → v < 2 → (1 - v == 1) ≡ not (v == 1)
    by zero m = refl
    by (suc zero) m = refl
    by (suc (suc v)) m = absurd (omega arith)

pub free_word : (ws : List ℕ) (from i w v : ℕ) (value : Bool) → w ≡ get_or ws (i / 64) 0 → IsMarked w v value
    → v / 2 ^ (i % 64) ≡ 0 → LacksValue ws from i value → LacksValue ws from (i + (64 - i % 64)) value
free_word ws from i w v value e h z f = record { free = λ j l m. by j l m (cases_lt j i) }
  where
    by : (j : ℕ) → from ≤ j → j < i + (64 - i % 64) → ((j < i) ⊎ (i ≤ j)) → is_set ws j ≡ not value
    by j l m (inl a) = f.free j l a
    by j l m (inr a) =
        let difference : ℕ = j - i in
        let same : i + difference ≡ j = omega arith in
        sym (ap (is_set ws) same) ∙ unmarked ws i w v difference value e h (omega arith) (ap (λ n. bit_at n difference) z ∙ bit_at-zero difference)

pub next_in_word : (ws : List ℕ) (from i w v : ℕ) (value : Bool) → w ≡ get_or ws (i / 64) 0 → v < 2 ^ 64
    → IsMarked w v value → 0 < v / 2 ^ (i % 64) → from ≤ i → LacksValue ws from i value
    → IsNextBit ws from (i + trailing_zeros w64 (v / 2 ^ (i % 64))) value
next_in_word ws from i w v value e l h p o f =
    let bits : ℕ = v / 2 ^ (i % 64) in
    let remainder : ℕ = i % 64 in
    let whole : bits < 2 ^ 64 = (let shr_le_here = shr_le v remainder in omega arith) in
    let lowest_bit = bit_at-trailing_zeros w64 bits p whole in
    let t : ℕ = trailing_zeros w64 bits in
    let fits : v < 2 ^ (64 - remainder + remainder) = (let s_is : 64 ≡ 64 - remainder + remainder = omega arith in subst (λ (n : ℕ). v < 2 ^ n) s_is l) in
    let short : bits < 2 ^ (64 - remainder) = shr_below v (64 - remainder) remainder fits in
    let near : remainder + t < 64 = in_range bits remainder t lowest_bit.1 short (omega arith) in
    record {
      first = omega arith;
      before = record { free = λ j a b. by j a b lowest_bit.2 near (cases_lt j i) };
      here =
          bit_from ws i t near
          ∙ (ap (λ n. bit n (remainder + t)) (sym e)
          ∙ state-true value (bit w (remainder + t)) (sym (h.bits (remainder + t) near) ∙ is_one v (remainder + t) (sym (shifted_bit v remainder t) ∙ lowest_bit.1)));
    }
  where
    in_range : (bits s t : ℕ) → bit_at bits t ≡ 1 → bits < 2 ^ (64 - s) → s < 64 → s + t < 64
    in_range bits s t one short l = by (cases_lt t (64 - s))
      where
        by : ((t < 64 - s) ⊎ (64 - s ≤ t)) → s + t < 64
        by (inl a) = omega arith
        by (inr a) = absurd (let none = bit_at_above bits (64 - s) t short a in omega arith)

    by : (j : ℕ) → from ≤ j → j < i + trailing_zeros w64 (v / 2 ^ (i % 64))
        → ((k : ℕ) → k < trailing_zeros w64 (v / 2 ^ (i % 64)) → bit_at (v / 2 ^ (i % 64)) k ≡ 0)
        → i % 64 + trailing_zeros w64 (v / 2 ^ (i % 64)) < 64 → ((j < i) ⊎ (i ≤ j)) → is_set ws j ≡ not value
    by j a b zeros near (inl c) = f.free j a c
    by j a b zeros near (inr c) =
        let difference : ℕ = j - i in
        let same : i + difference ≡ j = omega arith in
        sym (ap (is_set ws) same) ∙ unmarked ws i w v difference value e h (omega arith) (zeros difference (omega arith))

-- ---- the voxels of a row

find_at : (test : Coord → Bool) (n : ℕ) (c : Coord) (last z : ℕ) → z ≡ c.z + n → z ≤ last → test (at c z) ≡ true
    → ((y : ℕ) → c.z ≤ y → y < z → test (at c y) ≡ false) → find test (row c last) ≡ Some (at c z)
find_at test zero c last z e l t none =
    let same : z ≡ c.z = omega arith in
    ap (find test) (row-more c last (omega arith))
    ∙ (ap (λ b. cond b (Some c) (find test (row (at c (c.z + 1)) last))) (sym (ap (λ y. test (at c y)) same) ∙ t)
    ∙ ap (λ y. Some (at c y)) (sym same))
find_at test (suc n) c last z e l t none =
    ap (find test) (row-more c last (omega arith))
    ∙ (ap (λ b. cond b (Some c) (find test (row (at c (c.z + 1)) last))) (none c.z (omega arith) (omega arith))
    ∙ find_at test n (at c (c.z + 1)) last z (omega arith) l t (λ y a b. none y (omega arith) b))

find_none : (test : Coord → Bool) (n : ℕ) (c : Coord) (last : ℕ) → last + 1 ≡ c.z + n
    → ((y : ℕ) → c.z ≤ y → y ≤ last → test (at c y) ≡ false) → find test (row c last) ≡ None
find_none test zero c last e none = ap (find test) (row-end c last (omega arith))
find_none test (suc n) c last e none =
    ap (find test) (row-more c last (omega arith))
    ∙ (ap (λ b. cond b (Some c) (find test (row (at c (c.z + 1)) last))) (none c.z (omega arith) (omega arith))
    ∙ find_none test n (at c (c.z + 1)) last (omega arith) (λ y a b. none y (omega arith) b))

-- a voxel of a row, by its bit
bit_of : (r : ℕ) (ws : List ℕ) (c : Coord) (z : ℕ) → IsInSpace r c → c.z ≤ z → z < r
    → is_full (layered r ws) (at c z) ≡ is_set ws (bit_index r c + (z - c.z))
bit_of r ws c z h l m =
    let within : IsInSpace r (at c z) = record { x = h.x; y = h.y; z = m } in
    let same : bit_index r (at c z) ≡ bit_index r c + (z - c.z) = omega arith in
    is_full-layered r ws (at c z) within ∙ ap (is_set ws) same

is-state : (m : Matrix) (value : Bool) (c : Coord) (b : Bool) → is_full m c ≡ b → b ≡ value → is_state m value c ≡ true
is-state m true c b e f = e ∙ f
is-state m false c b e f = ap not (e ∙ f)

is-no_state : (m : Matrix) (value : Bool) (c : Coord) (b : Bool) → is_full m c ≡ b → b ≡ not value
    → is_state m value c ≡ false
is-no_state m true c b e f = e ∙ f
is-no_state m false c b e f = ap not (e ∙ f)

pub row_found : (r : ℕ) (ws : List ℕ) (m : Matrix) (c : Coord) (last i : ℕ) (value : Bool) → layered r ws ≡ m
    → IsInSpace r c → last < r → i ≤ bit_index r c + (last - c.z) → c.z ≤ last → IsNextBit ws (bit_index r c) i value
    → find (is_state m value) (row c last) ≡ Some (at c (c.z + (i - bit_index r c)))
row_found r ws m c last i value e h l il cl n =
    ap (λ v. find (is_state v value) (row c last)) (sym e)
    ∙ find_at (is_state (layered r ws) value) (i - bit_index r c) c last (c.z + (i - bit_index r c)) (omega arith) (omega arith) hit none
  where
    hit : is_state (layered r ws) value (at c (c.z + (i - bit_index r c))) ≡ true
    hit =
        let sum_z : ℕ = c.z + (i - bit_index r c) in
        let same : bit_index r c + (sum_z - c.z) ≡ i = (let first = n.first in omega arith) in
        is-state (layered r ws) value (at c sum_z) (is_set ws i) (bit_of r ws c sum_z h (omega arith) (omega arith) ∙ ap (is_set ws) same) n.here

    none : (y : ℕ) → c.z ≤ y → y < c.z + (i - bit_index r c) → is_state (layered r ws) value (at c y) ≡ false
    none y a b = is-no_state (layered r ws) value (at c y) (is_set ws (bit_index r c + (y - c.z))) (bit_of r ws c y h a (omega arith)) ((n.before).free (bit_index r c + (y - c.z)) (omega arith) (omega arith))

pub row_free : (r : ℕ) (ws : List ℕ) (m : Matrix) (c : Coord) (last : ℕ) (value : Bool) → layered r ws ≡ m
    → IsInSpace r c → last < r → c.z ≤ last → LacksValue ws (bit_index r c) (bit_index r c + (last - c.z) + 1) value
    → find (is_state m value) (row c last) ≡ None
row_free r ws m c last value e h l cl f =
    ap (λ v. find (is_state v value) (row c last)) (sym e)
    ∙ find_none (is_state (layered r ws) value) (last + 1 - c.z) c last (omega arith) (λ y a b.
    is-no_state (layered r ws) value (at c y) (is_set ws (bit_index r c + (y - c.z))) (bit_of r ws c y h a (omega arith)) (f.free (bit_index r c + (y - c.z)) (omega arith) (omega arith)))

-- ---- the list of a row, one found voxel after another

-- the coordinate is found in a row and is of that row, and the list of those that pass begins with it
pub record IsHead (test : Coord → Bool) (c : Coord) (last : ℕ) (d : Coord) : Type 0 where
  pub is : d ≡ at c d.z
  pub low : c.z ≤ d.z
  pub high : d.z ≤ last
  pub list : filter test (row c last) ≡ d ∷ filter test (row (at c (d.z + 1)) last)

head_by : (test : Coord → Bool) (n : ℕ) (c : Coord) (last : ℕ) (d : Coord) → n ≡ last + 1 - c.z
    → find test (row c last) ≡ Some d → IsHead test c last d
head_by test zero c last d e f = absurd (let none = ap (find test) (row-end c last (omega arith)) in cc)
head_by test (suc n) c last d e f = by (test c) refl (λ later. head_by test n (at c (c.z + 1)) last d (omega arith) later)
  where
    by : (b : Bool) → test c ≡ b
        → (find test (row (at c (c.z + 1)) last) ≡ Some d → IsHead test (at c (c.z + 1)) last d) → IsHead test c last d
    by true t rest =
        let more = row-more c last (omega arith) in
        let here : Some c ≡ Some d = sym (ap (find test) more ∙ ap (λ b. cond b (Some c) (find test (row (at c (c.z + 1)) last))) t) ∙ f in
        let same : c ≡ d = cc in
        subst (λ (v : Coord). IsHead test c last v) same (record {
          is = refl;
          low = omega arith;
          high = omega arith;
          list = ap (filter test) more ∙ ap (λ b. cond b (c ∷ filter test (row (at c (c.z + 1)) last)) (filter test (row (at c (c.z + 1)) last))) t;
        })
    by false t rest =
        let more = row-more c last (omega arith) in
        let later : find test (row (at c (c.z + 1)) last) ≡ Some d = sym (ap (find test) more ∙ ap (λ b. cond b (Some c) (find test (row (at c (c.z + 1)) last))) t) ∙ f in
        let rest_here = rest later in
        record {
          is = rest_here.is;
          low = omega (arith, rest_here.low);
          high = rest_here.high;
          list = ap (filter test) more ∙ (ap (λ b. cond b (c ∷ filter test (row (at c (c.z + 1)) last)) (filter test (row (at c (c.z + 1)) last))) t ∙ rest_here.list);
        }

pub head_of : (test : Coord → Bool) (c : Coord) (last : ℕ) (d : Coord) → find test (row c last) ≡ Some d
    → IsHead test c last d
head_of test c last d f = head_by test (last + 1 - c.z) c last d refl f

none_by : (test : Coord → Bool) (xs : List Coord) → find test xs ≡ None → filter test xs ≡ []
none_by test [] f = refl
none_by test (x ∷ xs) f = by (test x) f (none_by test xs)
  where
    by : (b : Bool) → cond b (Some x) (find test xs) ≡ None → (find test xs ≡ None → filter test xs ≡ [])
        → cond b (x ∷ filter test xs) (filter test xs) ≡ []
    by true g rest = cc
    by false g rest = rest g

pub list_ended : (test : Coord → Bool) (c : Coord) (last : ℕ) → find test (row c last) ≡ None
    → filter test (row c last) ≡ []
list_ended test c last f = none_by test (row c last) f

pub free_less : (ws : List ℕ) (from a b : ℕ) (value : Bool) → b ≤ a → LacksValue ws from a value
    → LacksValue ws from b value
free_less ws from a b value l f = record { free = λ j m n. f.free j m (omega arith) }

-- the effect of `next_bit`, for the words as they are kept
pub free_as : (ws us : List ℕ) (from s end e : ℕ) (value : Bool) → ws ≡ us → from ≡ s → end ≡ e
    → LacksValue ws from end value → LacksValue us s e value
free_as ws us from s end e value ew es ee f = subst (λ (v : List ℕ). LacksValue v s e value) ew (subst (λ (v : ℕ). LacksValue ws v e value) es (subst (λ (v : ℕ). LacksValue ws from v value) ee f))

pub next_as : (ws us : List ℕ) (from s i : ℕ) (value : Bool) → ws ≡ us → from ≡ s → IsNextBit ws from i value
    → IsNextBit us s i value
next_as ws us from s i value ew es n = subst (λ (v : List ℕ). IsNextBit v s i value) ew (subst (λ (v : ℕ). IsNextBit ws v i value) es n)

-- ---- the list of a row, word by word

row-split : (n : ℕ) (c : Coord) (mid last : ℕ) → n ≡ mid - c.z → c.z ≤ mid → mid ≤ last
    → row c last ≡ row c mid ++ row (at c (mid + 1)) last
row-split zero c mid last e l m =
    let here : c.z ≡ mid = omega arith in
    row-more c last (omega arith)
    ∙ (ap (λ z. c ∷ row (at c (z + 1)) last) here
    ∙ ap (λ xs. xs ++ row (at c (mid + 1)) last) (sym (row-more c mid l ∙ ap (λ xs. c ∷ xs) (row-end (at c (c.z + 1)) mid (omega arith)))))
row-split (suc n) c mid last e l m =
    row-more c last (omega arith)
    ∙ (ap (λ xs. c ∷ xs) (row-split n (at c (c.z + 1)) mid last (omega arith) (omega arith) m)
    ∙ ap (λ xs. xs ++ row (at c (mid + 1)) last) (sym (row-more c mid l)))

-- two tests that agree on a row keep the same of it
same_kept : (n : ℕ) (f g : Coord → Bool) (c : Coord) (last : ℕ) → n ≡ last + 1 - c.z
    → ((z : ℕ) → c.z ≤ z → z ≤ last → f (at c z) ≡ g (at c z)) → filter f (row c last) ≡ filter g (row c last)
same_kept zero f g c last e h = ap (filter f) (row-end c last (omega arith)) ∙ sym (ap (filter g) (row-end c last (omega arith)))
same_kept (suc n) f g c last e h =
    let more = row-more c last (omega arith) in
    let rest = same_kept n f g (at c (c.z + 1)) last (omega arith) (λ z a b. h z (omega arith) b) in
    ap (filter f) more
    ∙ (ap (λ b. cond b (c ∷ filter f (row (at c (c.z + 1)) last)) (filter f (row (at c (c.z + 1)) last))) (h c.z (omega arith) (omega arith))
    ∙ (ap (λ xs. cond (g c) (c ∷ xs) xs) rest ∙ sym (ap (filter g) more)))

-- a bit of a word without n of its lowest bits
left_bit : (v left s k : ℕ) → left ≡ v / 2 ^ s → bit v (s + k) ≡ bit left k
left_bit v left s k e = ap (λ n. n == 1) (sym (shifted_bit v s k)) ∙ ap (λ n. bit n k) (sym e)

no_bit : (v left : ℕ) (c : Coord) (z y : ℕ) → left ≡ v / 2 ^ (z - c.z) → c.z ≤ z → z ≤ y → bit_at left (y - z) ≡ 0
    → has_bit v c (at c y) ≡ false
no_bit v left c z y e l m h =
    let same : y - c.z ≡ z - c.z + (y - z) = omega arith in
    ap (bit v) same ∙ (left_bit v left (z - c.z) (y - z) e ∙ zero_bit left (y - z) h)

-- no bit is left in the row: so none of it is listed
pub none_left : (v left : ℕ) (c : Coord) (z last : ℕ) → left ≡ v / 2 ^ (z - c.z) → c.z ≤ z → z ≤ last + 1
    → ((j : ℕ) → j < last + 1 - z → bit_at left j ≡ 0) → filter (has_bit v c) (row (at c z) last) ≡ []
none_left v left c z last e l m h =
    list_ended (has_bit v c) (at c z) last
    (find_none (has_bit v c) (last + 1 - z) (at c z) last (omega arith) (λ y a b. no_bit v left c z y e l a (h (y - z) (omega arith))))

-- the lowest bit that is left is the next that is listed
pub next_listed : (v left : ℕ) (c : Coord) (z last t : ℕ) → left ≡ v / 2 ^ (z - c.z) → c.z ≤ z → t < last + 1 - z
    → bit_at left t ≡ 1 → ((j : ℕ) → j < t → bit_at left j ≡ 0)
    → filter (has_bit v c) (row (at c z) last) ≡ at c (z + t) ∷ filter (has_bit v c) (row (at c (z + t + 1)) last)
next_listed v left c z last t e l m one zeros =
    (head_of (has_bit v c) (at c z) last (at c (z + t))
    (find_at (has_bit v c) t (at c z) last (z + t) refl (omega arith) hit (λ y a b. no_bit v left c z y e l a (zeros (y - z) (omega arith))))).list
  where
    hit : has_bit v c (at c (z + t)) ≡ true
    hit =
        let same : z + t - c.z ≡ z - c.z + t = omega arith in
        ap (bit v) same ∙ (left_bit v left (z - c.z) t e ∙ is_one left t one)

-- the bits that are left without that one
pub left_after : (v left s t k : ℕ) → left ≡ v / 2 ^ s → k ≡ s + (t + 1) → left / 2 ^ t / 2 ^ 1 ≡ v / 2 ^ k
left_after v left s t k e f = shr-shr left t 1 ∙ (ap (λ n. n / 2 ^ (t + 1)) e ∙ (shr-shr v s (t + 1) ∙ ap (λ n. v / 2 ^ n) (sym f)))

-- the marked bits of a word, shifted down to an index
pub bits_marked : (ws : List ℕ) (i v : ℕ) (value : Bool) → IsMarked (get_or ws (i / 64) 0) v value
    → AreBitsFrom ws i (v / 2 ^ (i % 64)) value
bits_marked ws i v value marks = record {
  bits = λ k l.
      ap (λ n. n == 1) (shifted_bit v (i % 64) k) ∙ (marks.bits (i % 64 + k) l ∙ ap (has_value value) (sym (bit_from ws i k l)));
}

-- the bits of a word of the row, from a place on, give the voxels up to the end of the word
pub word_listed : (r : ℕ) (ws us : List ℕ) (m : Matrix) (c : Coord) (z stop last i v : ℕ) (value : Bool)
    → layered r ws ≡ m → us ≡ ws → IsInSpace r c → last < r → c.z ≤ z → z ≤ stop → stop ≤ last
    → i ≡ bit_index r c - c.z + z → stop - z + i % 64 < 64 → AreBitsFrom us i v value
    → filter (is_state m value) (row (at c z) last)
    ≡ filter (has_bit v (at c z)) (row (at c z) stop) ++ filter (is_state m value) (row (at c (stop + 1)) last)
word_listed r ws us m c z stop last i v value e f h l low order high place short marks =
    ap (filter (is_state m value)) (row-split (stop - z) (at c z) stop last refl order high)
    ∙ (filter-append (is_state m value) (row (at c z) stop) (row (at c (stop + 1)) last)
    ∙ ap (λ xs. xs ++ filter (is_state m value) (row (at c (stop + 1)) last)) (same_kept (stop + 1 - z) (is_state m value) (has_bit v (at c z)) (at c z) stop refl tells))
  where
    state_is : (value b : Bool) (d : Coord) → is_full m d ≡ b → is_state m value d ≡ has_value value b
    state_is true b d f = f
    state_is false b d f = ap not f

    tells : (y : ℕ) → z ≤ y → y ≤ stop → is_state m value (at c y) ≡ has_bit v (at c z) (at c y)
    tells y a b =
        let index : bit_index r c + (y - c.z) ≡ i + (y - z) = omega arith in
        state_is value (is_set us (i + (y - z))) (at c y)
        (ap (λ n. is_full n (at c y)) (sym e)
        ∙ (bit_of r ws c y h (omega arith) (omega arith)
        ∙ (ap (is_set ws) index ∙ ap (λ xs. is_set xs (i + (y - z))) (sym f))))
        ∙ sym (marks.bits (y - z) (omega arith))

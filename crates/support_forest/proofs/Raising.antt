-- Columns of a matrix that are written from the floor up, voxel by voxel, and the full voxels above, which are
-- deferred.
use Rattle.std.proofs.Common.{◌≡◌, ℕ, zero, suc, ◌+◌, ◌-◌, ◌*◌, ◌/◌, ◌%◌, ◌^◌, ◌<◌, ◌≤◌, ◌⊎◌, inl, inr, refl, sym, ◌∙◌, ap, subst, arith, Bool, true, false, not, cond, List, [], ◌∷◌, ◌++◌, length, length-append, get_or, Some, bit_and}
use Rattle.std.proofs.Common.{[], ext_get_or}
use Rattle.std.specs.Prelude.{◌==◌, ◌&&◌, IsTrue, IsFalse, nat_lt}
use Rattle.std.specs.List.{Contains}
use Rattle.std.proofs.Math.Nat.{div-div-eq-div-mul}
use Rattle.std.proofs.lemmas.Bool.{cases_lt}
use Rattle.std.proofs.lemmas.Bool.Decides.{nat_tests}
use Rattle.std.proofs.lemmas.List.Elements.{Contains-append_left, Contains-push, Contains-push_cases}
use Rattle.std.proofs.lemmas.Nat.{pow-add}
use Rattle.std.proofs.lemmas.Nat.Bits.{bit_at-zero, bit_at_ones}
use Rattle.vox_geom.specs.declared.coordinate.Coord.{Coord}
use Rattle.vox_geom.specs.Space.{IsInSpace, place, coordinate_at}
use Rattle.vox_geom.specs.Point.{below as under}
use Rattle.vox_geom.proofs.Firsts.{at_in_space}
use Rattle.vox_geom.proofs.Places.{place-coordinate_at}
use Rattle.vox_geom.proofs.Points.{coordinate_by_parts, in_space_is, same_or_not, space_by_test}
use Rattle.vox_geom.proofs.Tests.{less_by_test, test_less, test_not_less, test_unequal}
use Rattle.vox_geom.proofs.Truths.{both_true, false_and_true, first_of_two, no_second, second_of_two}
use Rattle.nano_spec.specs.Matrix.{Matrix, is_full, matrix_where}
use Rattle.nano_spec.specs.Model.{bit, volume}
use Rattle.vox_planes.specs.Places.{voxel_at}
use Rattle.vox_planes.specs.Voxel.{IsWhole}
use Rattle.vox_planes.proofs.Voxels.{get_or-where, length-where}
use Rattle.vox_planes.proofs.Chunks.{chunk_bit}
use Rattle.vox_planes.proofs.Placed.{full_bit}
use Rattle.vox_planes.proofs.TakenBits.{and_bit}
use Rattle.support_forest.specs.Directions.{Toward, lies_left, lies_right, lies_under, lies_over, lies_near, lies_far}
use Rattle.support_forest.specs.Grid.{Grid, brick, brick_number, slot_at, slot_of, word_at}
use Rattle.support_forest.specs.Columns.{AreRowBits, AreSupportedBits, CanScan, IsScanned, column_word, is_deferred, is_raised, is_column_full, scan_index}
use Rattle.support_forest.specs.ForestView.{matrix_of}
use Rattle.support_forest.specs.Segments.{AreWritten, further}
use Rattle.support_forest.specs.Waiting.{CanAdd, HaveAdded}
use Rattle.support_forest.specs.Words.{height, AreExact, IsWritten}
use Rattle.support_forest.proofs.Counts.{changed_most}
use Rattle.support_forest.proofs.Each.{differ_more}
use Rattle.support_forest.proofs.Nearby.{same_slot}

-- ---- columns

space_of : (m : Matrix) (c : Coord) → IsTrue (is_full m c) → IsInSpace m.resolution c
space_of m c f = space_by_test m.resolution c (first_of_two _ _ f)

column_one_higher : (m : Matrix) (c : Coord)
    → is_column_full m c.x c.z (c.y + 1) ≡ (is_column_full m c.x c.z c.y && is_full m c)
column_one_higher m c = let one_more : c.y + 1 ≡ suc c.y = omega arith in ap (is_column_full m c.x c.z) one_more

full_in_column : (m : Matrix) (c : Coord) → IsTrue (is_column_full m c.x c.z (c.y + 1)) → IsTrue (is_full m c)
full_in_column m c s = second_of_two (is_column_full m c.x c.z c.y) (is_full m c) (sym (column_one_higher m c) ∙ s)

same_scan_index : (r : ℕ) (c d : Coord) → r ≤ 400 → IsInSpace r c → IsInSpace r d → scan_index c ≡ scan_index d → c ≡ d
same_scan_index r c d few v w e =
    let cx = v.x in let cy = v.y in let cz = v.z in let dx = w.x in let dy = w.y in let dz = w.z in
    coordinate_by_parts c d (omega arith) (omega arith) (omega arith)

-- the voxels before an index that pass stay the same if no voxel between that index and the next passes
same_before : (t p q : ℕ) (b : Bool) → p ≤ q → (b ≡ true → p ≤ t → t < q → ⊥) → (nat_lt t q && b) ≡ (nat_lt t p && b)
same_before t p q false l n = no_second (nat_lt t q) false refl ∙ sym (no_second (nat_lt t p) false refl)
same_before t p q true l n = elim (cases_lt t p) [
  | inl a ↦ ap (λ v. v && true) (test_less t q (omega arith) ∙ sym (test_less t p a))
  | inr a ↦ elim (cases_lt t q) [
    | inl k ↦ absurd (n refl a k)
    | inr k ↦ ap (λ v. v && true) (test_not_less t q k ∙ sym (test_not_less t p a))
  ]
]

deferred_later : (m : Matrix) (p q : ℕ) (c : Coord) → p ≤ q → IsTrue (is_deferred m p c) → IsTrue (is_deferred m q c)
deferred_later m p q c l h =
    let before = less_by_test (scan_index c) p (first_of_two _ _ h) in
    both_true _ _ (test_less (scan_index c) q (omega arith)) (second_of_two _ _ h)

-- ---- from an index to a later one

pub raised_on : (m : Matrix) (g : Grid) (p q : ℕ) (rest : List Coord) → p ≤ q
    → ((c : Coord) → IsInSpace m.resolution c → IsTrue (is_full m c) → p ≤ scan_index c → scan_index c < q → ⊥)
    → IsScanned m g p rest → IsScanned m g q rest
raised_on m g p q rest l none h = record {
  resolution = h.resolution;
  words = λ c. h.words c ∙ ap (λ b. cond b (column_word c.y) 0)
      (sym (same_before (scan_index c) p q (is_column_full m c.x c.z (c.y + 1)) l (λ s. let full = full_in_column m c s in none c (space_of m c full) full)));
  listed = λ c k. deferred_later m p q c l (h.listed c k);
  all = λ c k. h.all c (sym (same_before (scan_index c) p q (is_full m c && not (is_column_full m c.x c.z (c.y + 1))) l
      (λ s. let full = first_of_two _ _ s in none c (space_of m c full) full)) ∙ k);
  differ = h.differ;
}

pub raised_at : (m : Matrix) (g : Grid) (p q : ℕ) (rest : List Coord) → p ≡ q → IsScanned m g p rest
    → IsScanned m g q rest
raised_at m g p q rest e h = subst (λ (n : ℕ). IsScanned m g n rest) e h

pub raised_same : (m : Matrix) (old new : Grid) (p : ℕ) (rest : List Coord) → new.resolution ≡ old.resolution
    → ((c : Coord) → word_at new c ≡ word_at old c) → IsScanned m old p rest → IsScanned m new p rest
raised_same m old new p rest r e h = record {
  resolution = r ∙ h.resolution;
  words = λ c. e c ∙ h.words c;
  listed = h.listed;
  all = h.all;
  differ = h.differ;
}

-- ---- one voxel

module _ (m : Matrix) (g : Grid) (p : ℕ) (rest : List Coord) (d : Coord) (few : m.resolution ≤ 400) (within : IsInSpace m.resolution d)
    (here : scan_index d ≡ p) (h : IsScanned m g p rest) where
  other : (c : Coord) → IsTrue (is_full m c) → (c ≡ d → ⊥) → p ≤ scan_index c → scan_index c < p + 1 → ⊥
  other c f n a b = n (same_scan_index m.resolution c d few (space_of m c f) within (omega arith))

  void_next : IsFalse (is_full m d) → IsScanned m g (p + 1) rest
  void_next v = raised_on m g p (p + 1) rest (omega arith)
      (λ c w f a b. false_and_true (is_full m d) v (subst (λ (x : Coord). IsTrue (is_full m x)) (same_scan_index m.resolution c d few w within (omega arith)) f)) h

  written_next : (new : Grid) (word : ℕ) → IsTrue (is_column_full m d.x d.z (d.y + 1)) → new.resolution ≡ g.resolution
      → IsWritten (word_at g) (word_at new) d word → word ≡ column_word d.y → IsScanned m new (p + 1) rest
  written_next new word s r k word_is = record {
    resolution = r ∙ h.resolution;
    words = λ c. elim (same_or_not c d) [
      | inl e ↦ subst (λ (x : Coord). word_at new x ≡ cond (is_raised m (p + 1) x) (column_word x.y) 0) (sym e)
          (k.here ∙ (word_is ∙ sym (ap (λ b. cond b (column_word d.y) 0)
          (both_true (nat_lt (scan_index d) (p + 1)) (is_column_full m d.x d.z (d.y + 1)) (test_less (scan_index d) (p + 1) (omega arith)) s))))
      | inr n ↦ k.kept c n ∙ (h.words c ∙ ap (λ b. cond b (column_word c.y) 0)
          (sym (same_before (scan_index c) p (p + 1) (is_column_full m c.x c.z (c.y + 1)) (omega arith) (λ t. other c (full_in_column m c t) n))))
    ];
    listed = λ c k. deferred_later m p (p + 1) c (omega arith) (h.listed c k);
    all = λ c k. h.all c (sym (same_before (scan_index c) p (p + 1) (is_full m c && not (is_column_full m c.x c.z (c.y + 1))) (omega arith)
        (λ t a b. other c (first_of_two _ _ t) (not_here c (second_of_two _ _ t)) a b)) ∙ k);
    differ = h.differ;
  }
    where
      not_here : (c : Coord) → IsTrue (not (is_column_full m c.x c.z (c.y + 1))) → c ≡ d → ⊥
      not_here c t e = false_and_true (not (is_column_full m c.x c.z (c.y + 1))) (ap not (subst (λ (x : Coord). IsTrue (is_column_full m x.x x.z (x.y + 1))) (sym e) s)) t

  listed_next : (more : List Coord) → IsTrue (is_full m d) → IsFalse (is_column_full m d.x d.z (d.y + 1))
      → more ≡ rest ++ d ∷ [] → IsScanned m g (p + 1) more
  listed_next more f s e = subst (λ (xs : List Coord). IsScanned m g (p + 1) xs) (sym e) (record {
    resolution = h.resolution;
    words = λ c. h.words c ∙ ap (λ b. cond b (column_word c.y) 0)
        (sym (same_before (scan_index c) p (p + 1) (is_column_full m c.x c.z (c.y + 1)) (omega arith)
        (λ t. other c (full_in_column m c t) (λ i. false_and_true (is_column_full m d.x d.z (d.y + 1)) s (subst (λ (x : Coord). IsTrue (is_column_full m x.x x.z (x.y + 1))) i t)))));
    listed = λ c k. elim (Contains-push_cases rest d c k) [
      | inl o ↦ deferred_later m p (p + 1) c (omega arith) (h.listed c o)
      | inr o ↦ subst (λ (x : Coord). IsTrue (is_deferred m (p + 1) x)) o
          (both_true _ _ (test_less (scan_index d) (p + 1) (omega arith)) (both_true _ _ f (ap not s)))
    ];
    all = λ c k. elim (same_or_not c d) [
      | inl i ↦ subst (λ (x : Coord). Contains (rest ++ d ∷ []) x) (sym i) (Contains-push rest d)
      | inr n ↦ Contains-append_left rest (d ∷ []) c (h.all c (sym (same_before (scan_index c) p (p + 1) (is_full m c && not (is_column_full m c.x c.z (c.y + 1))) (omega arith)
          (λ t. other c (first_of_two _ _ t) n)) ∙ k))
    ];
    differ = differ_more rest d h.differ (λ c k i.
        let before = less_by_test (scan_index c) p (first_of_two _ _ (h.listed c k)) in
        let same : scan_index c ≡ scan_index d = ap scan_index i in
        omega arith);
  })

-- ---- bits of a row

low_bit : (n k : ℕ) → k < 8 → bit (n % 2 ^ 8) k ≡ bit n k
low_bit n k l =
    let whole : n / 2 ^ 0 ≡ n = omega arith in
    let here : 0 + k ≡ k = omega arith in
    sym (ap (λ v. bit (v % 2 ^ 8) k) whole) ∙ (chunk_bit n 0 8 k l ∙ ap (bit n) here)

pub no_bit : (n k : ℕ) → n ≡ 0 → bit n k ≡ false
no_bit n k z = ap (λ v. bit v k) z ∙ ap (λ d. d == 1) (bit_at-zero k)

pub zero_bit : (n k : ℕ) → n % 256 ≡ 0 → k < 8 → bit n k ≡ false
zero_bit n k z l = sym (low_bit n k l) ∙ no_bit (n % 256) k z

one_bit : (n k : ℕ) → n % 256 ≡ 255 → k < 8 → bit n k ≡ true
one_bit n k f l = sym (low_bit n k l) ∙ (ap (λ v. bit v k) f ∙ ap (λ d. d == 1) (bit_at_ones 8 k l))

shifted : (bits k j : ℕ) → bit (bits / 2 ^ k) j ≡ bit bits (k + j)
shifted bits k j = ap (λ v. v % 2 == 1) (div-div-eq-div-mul bits (2 ^ k) (2 ^ j) ∙ ap (λ v. bits / v) (sym (pow-add 2 k j)))

-- ---- the voxels of a row

module _ (m : Matrix) (g : Grid) (c : Coord) (n bits supported : ℕ) (start : List Coord) (can : CanScan m g c n bits supported start) where
  -- a part of the row
  pub part_of : (now : Grid) (rest : List Coord) (k part : ℕ) → k + part ≤ n → 0 < part
      → IsScanned m now (scan_index c + k) rest
      → CanScan m now (further c k) part (bits / 2 ^ k) (supported / 2 ^ k) rest
  part_of now rest k part l some h =
      let within = can.within in let row = can.row in let block = can.block in let z_below : c.z + k < m.resolution = omega arith in
      record {
        within = record { x = within.x; y = within.y; z = z_below };
        row = omega arith;
        block = omega arith;
        few = can.few;
        full = λ j i. let sum_is : c.z + (k + j) ≡ c.z + k + j = omega arith in
            shifted bits k j ∙ (can.full (k + j) (omega arith) ∙ ap (λ (z : ℕ). is_full m (record { x = c.x; y = c.y; z = z })) sum_is);
        columns = λ j i. let sum_is : c.z + (k + j) ≡ c.z + k + j = omega arith in
            shifted supported k j ∙ (can.columns (k + j) (omega arith) ∙ ap (λ (z : ℕ). is_column_full m c.x z (c.y + 1)) sum_is);
        raised = raised_at m now (scan_index c + k) (scan_index (further c k)) rest (omega arith) h;
      }

  module _ (now : Grid) (rest : List Coord) (k : ℕ) (l : k < n) (h : IsScanned m now (scan_index c + k) rest) where
    within_along : IsInSpace m.resolution (further c k)
    within_along = let within = can.within in let row = can.row in record { x = within.x; y = within.y; z = omega arith }

    scan_index_along : scan_index (further c k) ≡ scan_index c + k
    scan_index_along = let block = can.block in omega arith

    at_next : (new : Grid) (more : List Coord) → IsScanned m new (scan_index c + k + 1) more
        → IsScanned m new (scan_index c + (k + 1)) more
    at_next new more i = raised_at m new (scan_index c + k + 1) (scan_index c + (k + 1)) more (omega arith) i

    pub void_along : IsFalse (bit bits k) → IsScanned m now (scan_index c + (k + 1)) rest
    void_along b = at_next now rest (void_next m now (scan_index c + k) rest (further c k) can.few within_along scan_index_along h
        (sym (can.full k l) ∙ b))

    pub written_along : (new : Grid) (word : ℕ) → IsTrue (bit supported k) → new.resolution ≡ now.resolution
        → IsWritten (word_at now) (word_at new) (further c k) word → word ≡ column_word c.y
        → IsScanned m new (scan_index c + (k + 1)) rest
    written_along new word b r w i = at_next new rest (written_next m now (scan_index c + k) rest (further c k) can.few within_along scan_index_along h new word
        (sym (can.columns k l) ∙ b) r w i)

    pub listed_along : (more : List Coord) → IsTrue (bit bits k) → IsFalse (bit supported k)
        → more ≡ rest ++ further c k ∷ [] → IsScanned m now (scan_index c + (k + 1)) more
    listed_along more b s e = at_next now more (listed_next m now (scan_index c + k) rest (further c k) can.few within_along scan_index_along h more
        (sym (can.full k l) ∙ b) (sym (can.columns k l) ∙ s) e)

  -- no voxel of the row is full
  pub blank : ((k : ℕ) → k < n → IsFalse (bit bits k)) → IsScanned m g (scan_index c + n) start
  blank void = step n (omega arith)
    where
      step : (k : ℕ) → k ≤ n → IsScanned m g (scan_index c + k) start
      step zero i = raised_at m g (scan_index c) (scan_index c + 0) start (omega arith) can.raised
      step (suc k) i = let one_more : k + 1 ≡ suc k = omega arith in
          raised_at m g (scan_index c + (k + 1)) (scan_index c + suc k) start (omega arith)
          (void_along g start k (omega arith) (step k (omega arith)) (void k (omega arith)))

  -- a whole row gets its word
  pub whole_row : (old new : Grid) (word : ℕ) → n ≡ 8 → supported % 256 ≡ 255 → IsScanned m old (scan_index c) start
      → old.resolution ≡ m.resolution → (w : AreWritten old new c word) → word ≡ column_word c.y
      → IsScanned m new (scan_index c + n) start
  whole_row old new word e f h r w i = subst (λ (x : Grid). IsScanned m x (scan_index c + n) start) w.last
      (raised_at m (w.after 8) (scan_index c + 8) (scan_index c + n) start (omega arith) (step 8 (omega arith)))
    where
      step : (k : ℕ) → k ≤ 8 → IsScanned m (w.after k) (scan_index c + k) start
      step zero j = subst (λ (x : Grid). IsScanned m x (scan_index c + 0) start) (sym w.first) (raised_at m old (scan_index c) (scan_index c + 0) start (omega arith) h)
      step (suc k) j = let one_more : k + 1 ≡ suc k = omega arith in
          subst (λ (q : ℕ). IsScanned m (w.after q) (scan_index c + q) start) one_more
          (written_along (w.after k) start k (omega arith) (step k (omega arith)) (w.after (k + 1)) word (one_bit supported k f (omega arith))
          (w.resolution (k + 1) ∙ sym (w.resolution k)) (w.each k (omega arith)) i)

pub length_more : (xs ys : List Coord) (d : Coord) → ys ≡ xs ++ d ∷ [] → length ys ≡ length xs + 1
length_more xs ys d e = ap length e ∙ length-append xs (d ∷ [])

-- ---- slots

pub slot_kept : (old new : Grid) (c : Coord) → new.table ≡ old.table → new.resolution ≡ old.resolution
    → slot_of new c ≡ slot_of old c
slot_kept old new c t r = λ i. slot_at (t i) (brick_number (r i) c)

pub slot_along : (g : Grid) (c : Coord) (z own : ℕ) → z / 8 ≡ c.z / 8 → slot_of g c ≡ Some own
    → slot_of g (record { x = c.x; y = c.y; z = z }) ≡ Some own
slot_along g c z own e s =
    let there : Coord = record { x = c.x; y = c.y; z = z } in
    let same : brick there ≡ brick c = λ i. record { x = c.x / 8; y = c.y / 8; z = e i } in
    sym (same_slot g c there (Some own) same (sym s))

-- ---- layers of columns

pub row_bits : (m : Matrix) (c : Coord) (n read : ℕ) → n ≤ 64
    → ((k : ℕ) → k < n → bit read k ≡ (bit (2 ^ 64 - 1) k && is_full m (further c k))) → AreRowBits m c n read
row_bits m c n read few h k l = h k l ∙ ap (λ b. b && is_full m (further c k)) (full_bit k (omega arith))

-- no voxel of a column is scanned yet
pub columns_begin : (m : Matrix) (x z n : ℕ) → n ≤ 64 → AreSupportedBits m x z n 0 (2 ^ 64 - 1)
columns_begin m x z n few k l = full_bit k (omega arith)

pub supported_bits : (m : Matrix) (c : Coord) (n bits supported : ℕ) → AreRowBits m c n bits
    → AreSupportedBits m c.x c.z n c.y supported → AreSupportedBits m c.x c.z n (c.y + 1) (bit_and supported bits)
supported_bits m c n bits supported f s k l =
    let one_more : suc c.y ≡ c.y + 1 = omega arith in
    and_bit supported bits k ∙ ((λ i. s k l i && f k l i) ∙ ap (is_column_full m c.x (c.z + k)) one_more)

-- after the last voxel of a row comes the next layer
pub next_layer : (m : Matrix) (g : Grid) (x y z n : ℕ) (rest : List Coord) → m.resolution ≤ 400 → y < m.resolution
    → z < m.resolution → z % 64 ≡ 0 → n ≤ 64 → (n < 64 → z + n ≡ m.resolution)
    → IsScanned m g (262144 * x + 512 * z + 64 * y + n) rest → IsScanned m g (262144 * x + 512 * z + 64 * (y + 1)) rest
next_layer m g x y z n rest small high far whole few most h = raised_on m g (262144 * x + 512 * z + 64 * y + n) (262144 * x + 512 * z + 64 * (y + 1)) rest (omega arith) none h
  where
    none : (c : Coord) → IsInSpace m.resolution c → IsTrue (is_full m c)
        → 262144 * x + 512 * z + 64 * y + n ≤ scan_index c → scan_index c < 262144 * x + 512 * z + 64 * (y + 1) → ⊥
    none c w f a b =
        let along_y = w.y in
        let along_z = w.z in
        let block : c.z / 64 ≡ z / 64 = omega arith in
        let some : n < 64 = omega arith in
        let last = most some in
        omega arith

-- after the last layer, or the first of only void layers, come the next columns
pub next_columns : (m : Matrix) (g : Grid) (x y z : ℕ) (rest : List Coord) → m.resolution ≤ 400 → z % 64 ≡ 0 → y ≤ 400
    → ((c : Coord) → y ≤ c.y → is_full m c ≡ false) → IsScanned m g (262144 * x + 512 * z + 64 * y) rest
    → IsScanned m g (262144 * x + 512 * z + 32768) rest
next_columns m g x y z rest few whole high void h = raised_on m g (262144 * x + 512 * z + 64 * y) (262144 * x + 512 * z + 32768) rest (omega arith) none h
  where
    none : (c : Coord) → IsInSpace m.resolution c → IsTrue (is_full m c) → 262144 * x + 512 * z + 64 * y ≤ scan_index c
        → scan_index c < 262144 * x + 512 * z + 32768 → ⊥
    none c w f a b =
        let along_y = w.y in
        let along_z = w.z in
        let over : y ≤ c.y = omega arith in
        false_and_true (is_full m c) (void c over) f

-- no voxel is above the last layer
pub void_over : (m : Matrix) (c : Coord) → m.resolution ≤ c.y → is_full m c ≡ false
void_over m c l = by_value (is_full m c) refl
  where
    by_value : (b : Bool) → is_full m c ≡ b → is_full m c ≡ false
    by_value true e = let along_y = (space_of m c e).y in absurd (omega arith)
    by_value false e = e

-- after the last columns of a wall comes the next wall
pub next_wall : (m : Matrix) (g : Grid) (x z : ℕ) (rest : List Coord) → m.resolution ≤ 400 → z % 64 ≡ 0
    → m.resolution ≤ z → z ≤ 512 → IsScanned m g (262144 * x + 512 * z) rest → IsScanned m g (262144 * (x + 1)) rest
next_wall m g x z rest few whole last most h = raised_on m g (262144 * x + 512 * z) (262144 * (x + 1)) rest (omega arith) none h
  where
    none : (c : Coord) → IsInSpace m.resolution c → IsTrue (is_full m c) → 262144 * x + 512 * z ≤ scan_index c
        → scan_index c < 262144 * (x + 1) → ⊥
    none c w f a b =
        let along_y = w.y in
        let along_z = w.z in
        omega arith

-- ---- the words

column_above : (y : ℕ) → 0 < y → column_word y ≡ 8 * y + 11
column_above y l = ap (λ b. cond b 8 (8 * y + 11)) (test_unequal y 0 (λ e. omega arith))

column_level : (y : ℕ) → (8 ≤ column_word y) × (column_word y / 8 ≡ y + 1)
column_level zero = (omega arith, omega arith)
column_level (suc y) = let word = column_above (suc y) (omega arith) in (omega arith, omega arith)

cond_some : (b : Bool) (x n : ℕ) → n ≡ cond b x 0 → 0 < n → (b ≡ true) × (n ≡ x)
cond_some true x n e l = (refl, e)
cond_some false x n e l = absurd (omega arith)

near_level : (d : ℕ) (a b : Coord) → Toward d a b → a.y ≤ b.y + 1
near_level d a b (lies_left h) = omega arith
near_level d a b (lies_right h) = omega arith
near_level d a b (lies_under h) = omega arith
near_level d a b (lies_over h) = omega arith
near_level d a b (lies_near h) = omega arith
near_level d a b (lies_far h) = omega arith

module _ (m : Matrix) (g : Grid) (p : ℕ) (rest : List Coord) (h : IsScanned m g p rest) where
  is_up : (c : Coord) → 0 < word_at g c → IsTrue (is_raised m p c)
  is_up c l = (cond_some (is_raised m p c) (column_word c.y) (word_at g c) (h.words c) l).0

  word_is : (c : Coord) → 0 < word_at g c → word_at g c ≡ column_word c.y
  word_is c l = (cond_some (is_raised m p c) (column_word c.y) (word_at g c) (h.words c) l).1

  full_by_word : (c : Coord) → 0 < word_at g c → IsTrue (is_full m c)
  full_by_word c l = full_in_column m c (second_of_two _ _ (is_up c l))

  level_is : (c : Coord) → 0 < word_at g c → (8 ≤ word_at g c) × (height (word_at g) c ≡ c.y + 1)
  level_is c l = subst (λ (n : ℕ). (8 ≤ n) × (n / 8 ≡ c.y + 1)) (sym (word_is c l)) (column_level c.y)

  up_word : (c : Coord) → IsTrue (is_raised m p c) → 0 < word_at g c
  up_word c u = let level = column_level c.y in
      let same : word_at g c ≡ column_word c.y = h.words c ∙ ap (λ b. cond b (column_word c.y) 0) u in omega arith

  under_up : (c : Coord) (y : ℕ) → c.y ≡ suc y → 0 < word_at g c → 0 < word_at g (under c)
  under_up c y e l =
      let before = less_by_test (scan_index c) p (first_of_two _ _ (is_up c l)) in
      let whole : (is_column_full m c.x c.z c.y && is_full m c) ≡ true = sym (column_one_higher m c) ∙ second_of_two _ _ (is_up c l) in
      let same : c.y ≡ c.y - 1 + 1 = omega arith in
      up_word (under c) (both_true _ _ (test_less (scan_index (under c)) p (omega arith)) (sym (ap (is_column_full m c.x c.z) same) ∙ first_of_two (is_column_full m c.x c.z c.y) (is_full m c) whole))

  exact : AreExact g.resolution (word_at g)
  exact = record {
    space = λ c k. subst (λ (r : ℕ). IsInSpace r c) (sym h.resolution) (space_of m c (full_by_word c k));
    form = λ c k. elim (cases_lt 0 (word_at g c)) [ inl l ↦ let level = level_is c l in absurd (omega arith) | inr l ↦ omega arith ];
    floor = λ c k y. word_is c k ∙ ap column_word y;
    parent = λ c k. by_floor c k c.y refl;
    near = λ a b k l n.
        let one = level_is a k in
        let two = level_is b (omega arith) in
        let apart = near_level n.direction a b n.toward in
        (one.0, omega arith);
  }
    where
      by_floor : (c : Coord) → 8 ≤ word_at g c → (y : ℕ) → c.y ≡ y → ((word_at g c ≡ 8) × (c.y ≡ 0)) ⊎ ((q : Coord)
          × Toward (word_at g c % 8) c q × (8 ≤ word_at g q) × (height (word_at g) q + 1 ≡ height (word_at g) c))
      by_floor c k zero e = inl (word_is c (omega arith) ∙ ap column_word e, e)
      by_floor c k (suc y) e =
          let there = level_is (under c) (under_up c y e (omega arith)) in
          let own = level_is c (omega arith) in
          let same : word_at g c ≡ 8 * (suc y) + 11 = word_is c (omega arith) ∙ (ap column_word e ∙ column_above (suc y) (omega arith)) in
          let digit : 3 ≡ word_at g c % 8 = omega arith in
          inr (under c, subst (λ (j : ℕ). Toward j c (under c)) digit (lies_under (refl, refl, omega arith, refl)), there.0, omega arith)

  full_by_list : (c : Coord) → Contains rest c → IsTrue (is_full m c)
  full_by_list c k = first_of_two _ _ (second_of_two _ _ (h.listed c k))

  pub can_add_rest : CanAdd g rest
  can_add_rest = record {
    differ = h.differ;
    exact = exact;
    space = λ c k. subst (λ (r : ℕ). IsInSpace r c) (sym h.resolution) (space_of m c (full_by_list c k));
    void = λ c k. elim (cases_lt 0 (word_at g c)) [
      | inl l ↦ absurd (false_and_true (not (is_column_full m c.x c.z (c.y + 1))) (ap not (second_of_two _ _ (is_up c l))) (second_of_two _ _ (second_of_two _ _ (h.listed c k))))
      | inr l ↦ omega arith
    ];
  }

  done : (c : Coord) → scan_index c < p → IsTrue (is_full m c) → (0 < word_at g c) ⊎ Contains rest c
  done c l f = by_test (is_column_full m c.x c.z (c.y + 1)) refl
    where
      by_test : (b : Bool) → is_column_full m c.x c.z (c.y + 1) ≡ b → (0 < word_at g c) ⊎ Contains rest c
      by_test true e = inl (up_word c (both_true _ _ (test_less (scan_index c) p l) e))
      by_test false e = inr (h.all c (both_true _ _ (test_less (scan_index c) p l) (both_true _ _ f (ap not e))))

-- ---- the whole matrix

same_bool : (a b : Bool) → (IsTrue a → IsTrue b) → (IsTrue b → IsTrue a) → a ≡ b
same_bool true b f g = sym (f refl)
same_bool false true f g = g refl
same_bool false false f g = refl

pub positive : (n : ℕ) → IsTrue (nat_lt 0 n) → 0 < n
positive n h = grind (arith, nat_tests)

pub is_positive : (n : ℕ) → 0 < n → IsTrue (nat_lt 0 n)
is_positive n h = grind (arith, nat_tests)

full_at : (m : Matrix) (c : Coord) → IsInSpace m.resolution c → is_full m c ≡ voxel_at m (place m.resolution c)
full_at m c w = λ i. in_space_is m.resolution c w i && voxel_at m (place m.resolution c)

module _ (m : Matrix) (mid new : Grid) (rest : List Coord) (before after : ℕ) (whole : IsWhole m) (h : IsScanned m mid (262144 * m.resolution) rest)
    (a : HaveAdded mid new rest 20 before after) where
  voxel : (k : ℕ) → k < m.resolution * m.resolution * m.resolution
      → nat_lt 0 (word_at new (coordinate_at m.resolution k)) ≡ voxel_at m k
  voxel k l = same_bool (nat_lt 0 (word_at new c)) (is_full m c) (λ t. by (a.full c (positive (word_at new c) t)))
      (λ t. is_positive (word_at new c) (back (done m mid (262144 * m.resolution) rest h c in_time t)))
      ∙ (full_at m c within ∙ ap (voxel_at m) (place-coordinate_at m.resolution k))
    where
      c : Coord
      c = coordinate_at m.resolution k

      within : IsInSpace m.resolution (coordinate_at m.resolution k)
      within = at_in_space m.resolution k l

      in_time : scan_index (coordinate_at m.resolution k) < 262144 * m.resolution
      in_time = let along_x = (within).x in let along_y = (within).y in let along_z = (within).z in let most = whole.most in omega arith

      by : (0 < word_at mid (coordinate_at m.resolution k)) ⊎ Contains rest (coordinate_at m.resolution k)
          → IsTrue (is_full m (coordinate_at m.resolution k))
      by (inl f) = full_by_word m mid (262144 * m.resolution) rest h (coordinate_at m.resolution k) f
      by (inr f) = full_by_list m mid (262144 * m.resolution) rest h (coordinate_at m.resolution k) f

      back : (0 < word_at mid (coordinate_at m.resolution k)) ⊎ Contains rest (coordinate_at m.resolution k)
          → 0 < word_at new (coordinate_at m.resolution k)
      back (inl f) = a.kept (coordinate_at m.resolution k) f
      back (inr f) = a.added (coordinate_at m.resolution k) f

  pub matrix_is : matrix_of new ≡ m
  unfolding matrix_of
  matrix_is =
      let test : Coord → Bool = λ c. nat_lt 0 (word_at new c) in
      let made : Matrix = matrix_where m.resolution test in
      let long : length made.voxels ≡ m.resolution * m.resolution * m.resolution = length-where m.resolution test in
      let each : (k : ℕ) → k < m.resolution * m.resolution * m.resolution → get_or made.voxels k false ≡ get_or m.voxels k false =
      λ k l. get_or-where m.resolution test k l ∙ voxel k l in
      let same : made.voxels ≡ m.voxels =
      ext_get_or false made.voxels m.voxels (long ∙ sym whole.voxels) (λ k l. each k (subst (λ (n : ℕ). k < n) long l)) in
      ap (λ (n : ℕ). matrix_where n test) (a.resolution ∙ h.resolution) ∙ (λ i. record { resolution = m.resolution; voxels = same i })

  pub touches_are : (start : ℕ) → before + 20 * length rest ≤ start + 21 * volume m.resolution
      → after ≤ start + 91 * volume m.resolution
  touches_are start b =
      let few = changed_most mid.resolution (word_at mid) (word_at new) in
      let side : mid.resolution * mid.resolution * mid.resolution ≡ volume m.resolution = ap volume h.resolution in
      omega (arith, b, few, side, a.cost)

-- Bits of words that are cleared, and the voxels of a row.
use Rattle.std.proofs.Common.{◌≡◌, ℕ, ◌+◌, ◌-◌, ◌*◌, ◌/◌, ◌%◌, ◌^◌, ◌<◌, ◌≤◌, refl, sym, ◌∙◌, ap, subst, arith, Bool, true, false, not, ◌&&◌, ◌==◌, List, length, get_or, min, bit_and, inl, inr}
use Rattle.std.specs.Prelude.{◌⊎◌}
use Rattle.std.specs.Int.{bit_at, bit_not, w64}
use Rattle.std.proofs.lemmas.Bool.{cases_lt}
use Rattle.std.proofs.lemmas.Bool.Decides.{nat_tests}
use Rattle.std.proofs.lemmas.Nat.Bits.{bit_at-lt, bit_at_and, bit_at_not}
use Rattle.vox_geom.specs.declared.coordinate.Coord.{Coord}
use Rattle.vox_geom.specs.Point.{point}
use Rattle.vox_geom.specs.Space.{IsInSpace, in_space, place}
use Rattle.vox_geom.proofs.Tests.{other_bit}
use Rattle.vox_geom.proofs.Points.{space_by_test}
use Rattle.nano_spec.specs.Matrix.{is_full}
use Rattle.nano_spec.specs.Model.{bit}
use Rattle.vox_planes.specs.Layers.{IsLayered, bit_index, is_set, layer_words, layered}
use Rattle.vox_planes.specs.Places.{is_from, is_marked}
use Rattle.vox_planes.specs.Walk.{at}
use Rattle.vox_planes.proofs.Bits.{one_bit}
use Rattle.vox_planes.proofs.Chunks.{ArePutBits, shifted_bit}
use Rattle.vox_planes.proofs.Placed.{HasBits, after_these, before_these, bits_joined, left_bit, none_of_these, one_of_these}
use Rattle.vox_planes.proofs.Voxels.{is_full-layered}

-- ---- one bit

both_ones : (x y : ℕ) → x < 2 → y < 2 → (min x y == 1) ≡ ((x == 1) && (y == 1))
both_ones x y l m = grind (arith, nat_tests)

pub and_bit : (a b k : ℕ) → bit (bit_and a b) k ≡ (bit a k && bit b k)
and_bit a b k = ap (λ d. d == 1) (bit_at_and a b k) ∙ both_ones (bit_at a k) (bit_at b k) (bit_at-lt a k) (bit_at-lt b k)

pub not_bit : (b k : ℕ) → b < 2 ^ 64 → k < 64 → bit (bit_not w64 b) k ≡ not (bit b k)
not_bit b k l m = ap (λ d. d == 1) (bit_at_not w64 b k l m) ∙ other_bit (bit_at b k) (bit_at-lt b k)

turned : (a b : Bool) → (a && b) ≡ (b && a)
turned true true = refl
turned true false = refl
turned false true = refl
turned false false = refl

kept : (a b : Bool) → (a && not (false && b)) ≡ a
kept true b = refl
kept false b = refl

-- ---- bits of one word

pub part_was : (old : List ℕ) (index count bits present : ℕ)
    → ((k : ℕ) → k < count → bit present k ≡ is_set old (index + k)) → (k : ℕ) → k < count
    → bit (bit_and present bits) k ≡ (bit bits k && is_set old (index + k))
part_was old index count bits present h k l = and_bit present bits k ∙ (turned (bit present k) (bit bits k) ∙ ap (λ b. bit bits k && b) (h k l))

pub part_left : (old new : List ℕ) (index count bits present : ℕ)
    → ArePutBits old new index count (bit_and present (bit_not w64 bits))
    → ((k : ℕ) → k < count → bit present k ≡ is_set old (index + k)) → count ≤ 64 → bits < 2 ^ 64 → (j : ℕ)
    → is_set new j ≡ (is_set old j && not (is_from index count j && bit bits (j - index)))
part_left old new index count bits present put h few fits j = by (cases_lt j index) (cases_lt j (index + count))
  where
    other : is_from index count j ≡ false
        → is_set new j ≡ (is_set old j && not (is_from index count j && bit bits (j - index)))
    other f = put.others j f ∙ (sym (kept (is_set old j) (bit bits (j - index))) ∙ ap (λ b. is_set old j && not (b && bit bits (j - index))) (sym f))

    by : ((j < index) ⊎ (index ≤ j)) → ((j < index + count) ⊎ (index + count ≤ j))
        → is_set new j ≡ (is_set old j && not (is_from index count j && bit bits (j - index)))
    by (inl l) m = other (before_these index count j l)
    by (inr l) (inr m) = other (after_these index count j m)
    by (inr l) (inl m) =
        let on : index + (j - index) ≡ j = omega arith in
        ap (is_set new) (sym on)
        ∙ (put.here (j - index) (omega arith)
        ∙ (and_bit present (bit_not w64 bits) (j - index)
        ∙ ((λ i. (h (j - index) (omega arith) ∙ ap (is_set old) on) i && not_bit bits (j - index) fits (omega arith) i)
        ∙ ap (λ b. is_set old j && not (b && bit bits (j - index))) (sym (one_of_these index count j l m)))))

-- ---- bits of words

-- the marked bits, of `done` from an index on, were cleared
pub record AreTaken (old now : List ℕ) (index done bits taken : ℕ) : Type 0 where
  pub was : HasBits taken done (λ k. bit bits k && is_set old (index + k))
  pub left : (j : ℕ) → is_set now j ≡ (is_set old j && not (is_from index done j && bit bits (j - index)))

-- one part more of the marked bits was read
pub peeked_more : (words : List ℕ) (index done count bits part taken both : ℕ)
    → HasBits taken done (λ k. bit bits k && is_set words (index + k)) → done + count ≤ 64
    → ((k : ℕ) → k < count → bit part k ≡ (bit (bits / 2 ^ done) k && is_set words (index + done + k)))
    → part < 2 ^ count → both ≡ taken + part * 2 ^ done % 2 ^ 64
    → HasBits both (done + count) (λ k. bit bits k && is_set words (index + k))
peeked_more words index done count bits part taken both h few full below e =
    bits_joined taken part both done count (λ k. bit bits k && is_set words (index + k)) h below (λ k l. full k l ∙ (λ i. again k i && ap (is_set words) (there k) i)) few e
  where
    again : (k : ℕ) → bit (bits / 2 ^ done) k ≡ bit bits (done + k)
    again k = ap (λ d. d == 1) (shifted_bit bits done k)

    there : (k : ℕ) → index + done + k ≡ index + (done + k)
    there k = omega arith

pub taken_more : (old mid new : List ℕ) (index done count bits part taken both : ℕ)
    → AreTaken old mid index done bits taken → done + count ≤ 64
    → ((k : ℕ) → k < count → bit part k ≡ (bit (bits / 2 ^ done) k && is_set mid (index + done + k))) → part < 2 ^ count
    → ((j : ℕ) → is_set new j
    ≡ (is_set mid j && not (is_from (index + done) count j && bit (bits / 2 ^ done) (j - (index + done)))))
    → both ≡ taken + part * 2 ^ done % 2 ^ 64 → AreTaken old new index (done + count) bits both
taken_more old mid new index done count bits part taken both h few was below left e = record {
  was = bits_joined taken part both done count (λ k. bit bits k && is_set old (index + k)) h.was below (λ k l. was k l ∙ (λ i. again k i && here k i)) few e;
  left = λ j. left j ∙ by j (cases_lt j (index + done)) (cases_lt j (index + done + count));
}
  where
    again : (k : ℕ) → bit (bits / 2 ^ done) k ≡ bit bits (done + k)
    again k = ap (λ d. d == 1) (shifted_bit bits done k)

    unmoved : (j : ℕ) → index + done ≤ j → is_set mid j ≡ is_set old j
    unmoved j l = h.left j ∙ (ap (λ b. is_set old j && not (b && bit bits (j - index))) (after_these index done j l) ∙ kept (is_set old j) (bit bits (j - index)))

    here : (k : ℕ) → is_set mid (index + done + k) ≡ is_set old (index + (done + k))
    here k = let same_index : index + done + k ≡ index + (done + k) = omega arith in ap (is_set mid) same_index ∙ unmoved (index + (done + k)) (omega arith)

    earlier : (j : ℕ) → j < index + done → is_from index done j ≡ is_from index (done + count) j
    earlier j l = grind (arith, nat_tests)

    by : (j : ℕ) → ((j < index + done) ⊎ (index + done ≤ j)) → ((j < index + done + count) ⊎ (index + done + count ≤ j))
        → (is_set mid j && not (is_from (index + done) count j && bit (bits / 2 ^ done) (j - (index + done))))
        ≡ (is_set old j && not (is_from index (done + count) j && bit bits (j - index)))
    by j (inl l) m =
        ap (λ b. is_set mid j && not (b && bit (bits / 2 ^ done) (j - (index + done)))) (before_these (index + done) count j l)
        ∙ (kept (is_set mid j) (bit (bits / 2 ^ done) (j - (index + done)))
        ∙ (h.left j ∙ ap (λ b. is_set old j && not (b && bit bits (j - index))) (earlier j l)))
    by j (inr l) (inl m) =
        (λ i. unmoved j l i && not (one_of_these (index + done) count j l m i && left_bit bits index done j l i))
        ∙ sym (ap (λ b. is_set old j && not (b && bit bits (j - index))) (one_of_these index (done + count) j (omega arith) (omega arith)))
    by j (inr l) (inr m) =
        (λ i. unmoved j l i && not (after_these (index + done) count j m i && bit (bits / 2 ^ done) (j - (index + done))))
        ∙ sym (ap (λ b. is_set old j && not (b && bit bits (j - index))) (after_these index (done + count) j (omega arith)))

-- ---- voxels of a row

module _ (r : ℕ) (old new : List ℕ) (first : Coord) (count bits taken : ℕ) (within : IsInSpace r first) (row : first.z + count ≤ r) (few : count ≤ 64) (h : AreTaken old new (bit_index r first) count bits taken) where
  in_row : (k : ℕ) → k < count → IsInSpace r (at first (first.z + k))
  in_row k l = record { x = within.x; y = within.y; z = omega arith }

  on : (k : ℕ) → bit_index r (at first (first.z + k)) ≡ bit_index r first + k
  on k = omega arith

  pub row_was : (k : ℕ) → k < count → bit taken k ≡ (bit bits k && is_full (layered r old) (at first (first.z + k)))
  row_was k l = h.was.bits k l ∙ ap (λ b. bit bits k && b) (ap (is_set old) (sym (on k)) ∙ sym (is_full-layered r old (at first (first.z + k)) (in_row k l)))

  -- the coordinate has its bit among these if and only if it is of the row
  marked : (d : Coord) → IsInSpace r d
      → (is_from (bit_index r first) count (bit_index r d) && bit bits (bit_index r d - bit_index r first))
      ≡ is_marked first count bits d
  marked d i = by ((d.x == first.x) && (d.y == first.y) && is_from first.z count d.z) refl
    where
      parts : ((d.x == first.x) && (d.y == first.y) && is_from first.z count d.z) ≡ true
          → (d.x ≡ first.x) × (d.y ≡ first.y) × (first.z ≤ d.z) × (d.z < first.z + count)
      parts t = grind (arith, nat_tests)

      mine : (k : ℕ) → ((first.x == first.x) && (first.y == first.y) && is_from first.z count (first.z + k))
          ≡ is_from first.z count (first.z + k)
      mine k = grind (arith, nat_tests)

      by : (b : Bool) → ((d.x == first.x) && (d.y == first.y) && is_from first.z count d.z) ≡ b
          → (is_from (bit_index r first) count (bit_index r d) && bit bits (bit_index r d - bit_index r first))
          ≡ is_marked first count bits d
      by true t =
          let parts_here = parts t in
          let d_is : d ≡ at first (first.z + (d.z - first.z)) = (λ j. record { x = parts_here.0 j; y = parts_here.1 j; z = (let z_is : d.z ≡ first.z + (d.z - first.z) = omega arith in z_is) j }) in
          let same_bit_index : bit_index r d ≡ bit_index r first + (d.z - first.z) = ap (bit_index r) d_is ∙ on (d.z - first.z) in
          let bit_index_is : bit_index r d - bit_index r first ≡ d.z - first.z = omega arith in
          (λ j. one_of_these (bit_index r first) count (bit_index r d) (omega arith) (omega arith) j && bit bits (bit_index_is j))
          ∙ sym (ap (λ b. b && bit bits (d.z - first.z)) t)
      by false f =
          ap (λ b. b && bit bits (bit_index r d - bit_index r first)) (none_of_these (bit_index r first) count (bit_index r d) (λ k l e. other k l (one_bit r d (at first (first.z + k)) i (in_row k l) (e ∙ sym (on k)))))
          ∙ sym (ap (λ b. b && bit bits (d.z - first.z)) f)
        where
          other : (k : ℕ) → k < count → d ≡ at first (first.z + k) → ⊥
          other k l e =
              let both_hold : ((d.x == first.x) && (d.y == first.y) && is_from first.z count d.z) ≡ true = ap (λ (v : Coord). (v.x == first.x) && (v.y == first.y) && is_from first.z count v.z) e ∙ (mine k ∙ one_of_these first.z count (first.z + k) (omega arith) (omega arith)) in
              cc

  pub row_left : (d : Coord)
      → is_full (layered r new) d ≡ (is_full (layered r old) d && not (is_marked first count bits d))
  row_left d = by (in_space r (point d)) refl
    where
      none : (ws : List ℕ) → in_space r (point d) ≡ false → is_full (layered r ws) d ≡ false
      none ws s = ap (λ t. t && get_or (layered r ws).voxels (place r d) false) s

      by : (s : Bool) → in_space r (point d) ≡ s
          → is_full (layered r new) d ≡ (is_full (layered r old) d && not (is_marked first count bits d))
      by false s = none new s ∙ sym (ap (λ b. b && not (is_marked first count bits d)) (none old s))
      by true s =
          let is_in_space : IsInSpace r d = space_by_test r d s in
          is_full-layered r new d is_in_space
          ∙ (h.left (bit_index r d)
          ∙ (λ j. sym (is_full-layered r old d is_in_space) j && not (marked d is_in_space j)))

  pub row_layered : length new ≡ length old → IsLayered r old → IsLayered r new
  row_layered same w = record {
    some = w.some;
    most = w.most;
    whole = same ∙ w.whole;
    unused = λ y i l m n. h.left (y * layer_words r * 64 + i) ∙ ap (λ b. b && not (is_from (bit_index r first) count (y * layer_words r * 64 + i) && bit bits (y * layer_words r * 64 + i - bit_index r first))) (w.unused y i l m n);
  }

-- the marked bits that were read of a row are its full voxels
pub row_peeked : (r : ℕ) (ws : List ℕ) (first : Coord) (count bits found : ℕ) → IsInSpace r first → first.z + count ≤ r
    → ((k : ℕ) → k < count → bit found k ≡ (bit bits k && is_set ws (bit_index r first + k))) → (k : ℕ) → k < count
    → bit found k ≡ (bit bits k && is_full (layered r ws) (at first (first.z + k)))
row_peeked r ws first count bits found within row h k l =
    let on : bit_index r (at first (first.z + k)) ≡ bit_index r first + k = omega arith in
    let here : IsInSpace r (at first (first.z + k)) = record { x = within.x; y = within.y; z = omega arith } in
    h k l ∙ ap (λ b. bit bits k && b) (ap (is_set ws) (sym on) ∙ sym (is_full-layered r ws (at first (first.z + k)) here))

-- the effect of `take_bits`, for the words before and after the call
pub taken_by : (r : ℕ) (first : Coord) (old old' new new' : List ℕ) (i count bits taken : ℕ) → old' ≡ old → new ≡ new'
    → i ≡ bit_index r first → taken < 2 ^ count
    → ((k : ℕ) → k < count → bit taken k ≡ (bit bits k && is_set old' (i + k)))
    → ((j : ℕ) → is_set new j ≡ (is_set old' j && not (is_from i count j && bit bits (j - i))))
    → AreTaken old new' (bit_index r first) count bits taken
taken_by r first old old' new new' i count bits taken eo en ei below was left =
    subst (λ (n : ℕ). AreTaken old new' n count bits taken) ei
    (subst (λ (w : List ℕ). AreTaken old w i count bits taken) en (record {
      was = record { bits = λ k l. was k l ∙ ap (λ w. bit bits k && is_set w (i + k)) eo; below = below };
      left = λ j. left j ∙ ap (λ w. is_set w j && not (is_from i count j && bit bits (j - i))) eo;
    }))

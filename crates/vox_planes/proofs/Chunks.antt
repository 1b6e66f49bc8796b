-- Several bits of one word, read and written.
use Rattle.std.proofs.Common.{◌≡◌, ℕ, zero, suc, ◌+◌, ◌-◌, ◌*◌, ◌/◌, ◌%◌, ◌^◌, ◌<◌, ◌≤◌, sym, ◌∙◌, ap, subst, arith, true, ◌==◌, List, length, get_or, set, bit_and, bit_or, min, max, inl, inr}
use Rattle.std.specs.Prelude.{IsFalse, ◌⊎◌}
use Rattle.std.specs.Int.{bit_at, bit_not, w64}
use Rattle.std.proofs.Math.Nat.{div-add-mod, div-div-eq-div-mul, mod-eq_of_lt, pow-le-pow_right}
use Rattle.std.proofs.lemmas.Bool.{cases_lt}
use Rattle.std.proofs.lemmas.Bool.Decides.{nat_tests}
use Rattle.std.proofs.lemmas.List.{get_or-set_same, get_or-set_other}
use Rattle.std.proofs.lemmas.Nat.{and_mask, pow-add, pow_pos}
use Rattle.std.proofs.lemmas.Nat.Bits.{bit_at-lt, bit_at_and, bit_at_or, bit_at_not, bit_at_cat_low, bit_at_cat_high, bit_at_mask_above, bit_at_mask_below, bit_at_mask_inside, ones_shr}
use native.Mathlib.Decide.{ℕ_discrete}
use Rattle.vox_geom.specs.declared.coordinate.Coord.{Coord}
use Rattle.vox_geom.specs.Space.{coordinate_at}
use Rattle.nano_spec.specs.Model.{bit}
use Rattle.vox_planes.specs.Layers.{bit_index, is_set}
use Rattle.vox_planes.specs.Places.{is_from}

-- ---- bits of a shifted word, and of one cut short

pub shifted_bit : (n s k : ℕ) → bit_at (n / 2 ^ s) k ≡ bit_at n (s + k)
shifted_bit n s k = ap (λ v. v % 2) (div-div-eq-div-mul n (2 ^ s) (2 ^ k) ∙ ap (λ v. n / v) (sym (pow-add 2 s k)))

low_bit : (n count i : ℕ) → i < count → bit_at (n % 2 ^ count) i ≡ bit_at n i
low_bit n count i l =
    let split : n / 2 ^ count * 2 ^ count + n % 2 ^ count ≡ n = omega (arith, div-add-mod n (2 ^ count)) in
    sym (bit_at_cat_low (n / 2 ^ count) count (n % 2 ^ count) i l) ∙ ap (λ v. bit_at v i) split

raised_bit : (n s j : ℕ) → s ≤ j → bit_at (n * 2 ^ s) j ≡ bit_at n (j - s)
raised_bit n s j l = ap (λ v. bit_at v j) (let product_is : n * 2 ^ s ≡ n * 2 ^ s + 0 = omega arith in product_is) ∙ bit_at_cat_high n s 0 j (pow_pos s) l

-- ---- reading

pub chunk_bit : (w s count k : ℕ) → k < count → bit ((w / 2 ^ s) % 2 ^ count) k ≡ bit w (s + k)
chunk_bit w s count k l = ap (λ d. d == 1) (low_bit (w / 2 ^ s) count k l ∙ shifted_bit w s k)

in_one_word : (ws : List ℕ) (index count k : ℕ) → k < count → index % 64 + count ≤ 64
    → is_set ws (index + k) ≡ bit (get_or ws (index / 64) 0) (index % 64 + k)
unfolding is_set
in_one_word ws index count k l h =
    let same_quotient : (index + k) / 64 ≡ index / 64 = omega arith in
    let same_index : (index + k) % 64 ≡ index % 64 + k = omega arith in
    λ t. bit (get_or ws (same_quotient t) 0) (same_index t)

pub chunk_is : (ws : List ℕ) (index count k w v m : ℕ) → k < count → index % 64 + count ≤ 64
    → w ≡ get_or ws (index / 64) 0 → m ≡ 2 ^ (0 + count) - 2 ^ 0 → v ≡ bit_and (w / 2 ^ (index % 64)) m
    → bit v k ≡ is_set ws (index + k)
chunk_is ws index count k w v m l h ew em ev =
    let all : 2 ^ (0 + count) - 2 ^ 0 ≡ 2 ^ count - 1 = ap (λ n. 2 ^ n - 1) (let count_is : 0 + count ≡ count = omega arith in count_is) in
    ap (λ n. bit n k) (ev ∙ (ap (bit_and (w / 2 ^ (index % 64))) (em ∙ all) ∙ and_mask (w / 2 ^ (index % 64)) count))
    ∙ (chunk_bit w (index % 64) count k l
    ∙ (ap (λ n. bit n (index % 64 + k)) ew ∙ sym (in_one_word ws index count k l h)))

-- ---- writing

-- the word in which the masked bits are those of another
abbrev pub mixed : ℕ → ℕ → ℕ → ℕ → ℕ
mixed w bits s m = bit_or (bit_and w (bit_not w64 m)) (bit_and (bits * 2 ^ s % 2 ^ 64) m)

taken_bit : (a b c d : ℕ) → a < 2 → b ≡ 1 - d → c < 2 → d ≡ 1 → max (min a b) (min c d) ≡ c
taken_bit a b c d la eb lc ed = omega arith

left_bit : (a b c d : ℕ) → a < 2 → b ≡ 1 - d → c < 2 → d ≡ 0 → max (min a b) (min c d) ≡ a
left_bit a b c d la eb lc ed = omega arith

mixed_bit : (w bits s m j : ℕ) → bit_at (mixed w bits s m) j
    ≡ max (min (bit_at w j) (bit_at (bit_not w64 m) j)) (min (bit_at (bits * 2 ^ s % 2 ^ 64) j) (bit_at m j))
mixed_bit w bits s m j = bit_at_or (bit_and w (bit_not w64 m)) (bit_and (bits * 2 ^ s % 2 ^ 64) m) j ∙ (λ i. max (bit_at_and w (bit_not w64 m) j i) (bit_at_and (bits * 2 ^ s % 2 ^ 64) m j i))

mask_small : (s count : ℕ) → s + count ≤ 64 → 2 ^ (s + count) - 2 ^ s < 2 ^ 64
mask_small s count h =
    let most : 2 ^ (s + count) ≤ 2 ^ 64 = pow-le-pow_right {n = 2} (omega arith) h in
    let some : 0 < 2 ^ s = pow_pos s in
    omega arith

mixed_here : (w bits s count k : ℕ) → s + count ≤ 64 → k < count
    → bit (mixed w bits s (2 ^ (s + count) - 2 ^ s)) (s + k) ≡ bit bits k
mixed_here w bits s count k h l =
    let difference : ℕ = 2 ^ (s + count) - 2 ^ s in
    let one : bit_at (2 ^ (s + count) - 2 ^ s) (s + k) ≡ 1 = bit_at_mask_inside s (s + count) (s + k) (omega arith) (omega arith) in
    let back : s + k - s ≡ k = omega arith in
    ap (λ d. d == 1)
    (mixed_bit w bits s (2 ^ (s + count) - 2 ^ s) (s + k)
    ∙ (taken_bit (bit_at w (s + k)) (bit_at (bit_not w64 (2 ^ (s + count) - 2 ^ s)) (s + k)) (bit_at (bits * 2 ^ s % 2 ^ 64) (s + k)) (bit_at (2 ^ (s + count) - 2 ^ s) (s + k)) (bit_at-lt w (s + k))
    (bit_at_not w64 (2 ^ (s + count) - 2 ^ s) (s + k) (mask_small s count h) (omega arith)) (bit_at-lt (bits * 2 ^ s % 2 ^ 64) (s + k)) one
    ∙ (low_bit (bits * 2 ^ s) 64 (s + k) (omega arith)
    ∙ (raised_bit bits s (s + k) (omega arith) ∙ ap (bit_at bits) back))))

mixed_other : (w bits s count j : ℕ) → s + count ≤ 64 → j < 64 → ((j < s) ⊎ (s + count ≤ j))
    → bit (mixed w bits s (2 ^ (s + count) - 2 ^ s)) j ≡ bit w j
mixed_other w bits s count j h l o =
    ap (λ d. d == 1)
    (mixed_bit w bits s (2 ^ (s + count) - 2 ^ s) j
    ∙ left_bit (bit_at w j) (bit_at (bit_not w64 (2 ^ (s + count) - 2 ^ s)) j) (bit_at (bits * 2 ^ s % 2 ^ 64) j) (bit_at (2 ^ (s + count) - 2 ^ s) j) (bit_at-lt w j)
    (bit_at_not w64 (2 ^ (s + count) - 2 ^ s) j (mask_small s count h) l) (bit_at-lt (bits * 2 ^ s % 2 ^ 64) j) (none o))
  where
    none : ((j < s) ⊎ (s + count ≤ j)) → bit_at (2 ^ (s + count) - 2 ^ s) j ≡ 0
    none (inl m) = bit_at_mask_below s (s + count) j m
    none (inr m) = bit_at_mask_above s (s + count) j m

pub outside : (index count j : ℕ) → IsFalse (is_from index count j) → (j < index) ⊎ (index + count ≤ j)
outside index count j h = by (cases_lt j index) (cases_lt j (index + count))
  where
    inside : index ≤ j → j < index + count → is_from index count j ≡ true
    inside a b = grind (arith, nat_tests)

    by : ((j < index) ⊎ (index ≤ j)) → ((j < index + count) ⊎ (index + count ≤ j)) → (j < index) ⊎ (index + count ≤ j)
    by (inl l) m = inl l
    by (inr l) (inr m) = inr m
    by (inr l) (inl m) = let inside_here = inside l m in cc

-- words of which n bits from one on are those of another word
pub record ArePutBits (old new : List ℕ) (index count bits : ℕ) : Type 0 where
  pub here : (k : ℕ) → k < count → is_set new (index + k) ≡ bit bits k
  pub others : (j : ℕ) → IsFalse (is_from index count j) → is_set new j ≡ is_set old j

pub put_bits : (ws : List ℕ) (index count bits v : ℕ) → index < 64 * length ws → index % 64 + count ≤ 64
    → v ≡ mixed (get_or ws (index / 64) 0) bits (index % 64) (2 ^ (index % 64 + count) - 2 ^ (index % 64))
    → ArePutBits ws (set ws (index / 64) v) index count bits
unfolding is_set
put_bits ws index count bits v within h ev = record {
  here = λ k l.
      in_one_word (set ws (index / 64) v) index count k l h
      ∙ (ap (λ w. bit w (index % 64 + k)) (get_or-set_same ws (index / 64) v 0 (omega arith) ∙ ev)
      ∙ mixed_here (get_or ws (index / 64) 0) bits (index % 64) count k h l);
  others = λ j f. other j (outside index count j f) (ℕ_discrete (j / 64) (index / 64));
}
  where
    other : (j : ℕ) → ((j < index) ⊎ (index + count ≤ j)) → Dec (j / 64 ≡ index / 64)
        → is_set (set ws (index / 64) v) j ≡ is_set ws j
    other j o (no n) = ap (λ w. bit w (j % 64)) (get_or-set_other ws (index / 64) (j / 64) v 0 n)
    other j o (yes s) =
        ap (λ q. bit (get_or (set ws (index / 64) v) q 0) (j % 64)) s
        ∙ (ap (λ w. bit w (j % 64)) (get_or-set_same ws (index / 64) v 0 (omega arith) ∙ ev)
        ∙ (mixed_other (get_or ws (index / 64) 0) bits (index % 64) count (j % 64) h (omega arith) (side o)
        ∙ ap (λ q. bit (get_or ws q 0) (j % 64)) (sym s)))
      where
        side : ((j < index) ⊎ (index + count ≤ j)) → (j % 64 < index % 64) ⊎ (index % 64 + count ≤ j % 64)
        side (inl l) = inl (omega arith)
        side (inr l) = inr (omega arith)

-- ---- masks

less_one : (x y : ℕ) → 0 < x → (x - 1) * y ≡ x * y - y
less_one zero y l = absurd (omega arith)
less_one (suc x) y l = let difference_is : suc x - 1 ≡ x = omega arith in ap (λ v. v * y) difference_is ∙ omega arith

pub mask_is : (first count : ℕ) → 1 ≤ count → first + count ≤ 64
    → (2 ^ 64 - 1) / 2 ^ (64 - count) * 2 ^ first % 2 ^ 64 ≡ 2 ^ (first + count) - 2 ^ first
mask_is first count some within =
    let back : 64 - (64 - count) ≡ count = omega arith in
    let ones : (2 ^ 64 - 1) / 2 ^ (64 - count) ≡ 2 ^ count - 1 = ones_shr 64 (64 - count) (omega arith) ∙ ap (λ n. 2 ^ n - 1) back in
    let both : 2 ^ (first + count) ≡ 2 ^ first * 2 ^ count = pow-add 2 first count in
    let raised : (2 ^ count - 1) * 2 ^ first ≡ 2 ^ (first + count) - 2 ^ first = less_one (2 ^ count) (2 ^ first) (pow_pos count) ∙ omega arith in
    ap (λ n. n * 2 ^ first % 2 ^ 64) ones ∙ (ap (λ n. n % 2 ^ 64) raised ∙ mod-eq_of_lt (mask_small first count within))

-- the effect of `put_bits`, for the words before and after the call
pub put_by : (r from : ℕ) (c : Coord) (old old' new new' : List ℕ) (i count bits : ℕ) → old' ≡ old → new ≡ new'
    → c ≡ coordinate_at r from → i ≡ bit_index r c → ((k : ℕ) → k < count → is_set new (i + k) ≡ bit bits k)
    → ((j : ℕ) → IsFalse (is_from i count j) → is_set new j ≡ is_set old' j)
    → ArePutBits old new' (bit_index r (coordinate_at r from)) count bits
put_by r from c old old' new new' i count bits eo en ec ei here others =
    subst (λ (n : ℕ). ArePutBits old new' n count bits) (ei ∙ ap (bit_index r) ec)
    (subst (λ (w : List ℕ). ArePutBits old w i count bits) en (record { here = here; others = λ j f. others j f ∙ ap (λ w. is_set w j) eo }))

-- The least coordinate at which the bits of two matrices differ, layer by layer.
use Rattle.std.proofs.Common.{◌≡◌, ℕ, ◌+◌, ◌-◌, ◌*◌, ◌/◌, ◌%◌, ◌^◌, ◌<◌, ◌≤◌, refl, sym, ◌∙◌, ap, subst, arith, Bool, true, false, cond, not, ◌&&◌, ◌||◌, ◌==◌, List, get_or, Option, Some, None, inl, inr, bit_xor}
use Rattle.std.specs.Prelude.{IsTrue, IsFalse, nat_lt, find, ◌⊎◌}
use Rattle.std.specs.Int.{bit_at, trailing_zeros, w64}
use Rattle.std.proofs.Math.Arith.{digits_lt}
use Rattle.std.proofs.Math.Nat.{div-add-mod, div-lt_iff_lt-mul, mod-lt}
use Rattle.std.proofs.lemmas.Bool.{cases_lt}
use Rattle.std.proofs.lemmas.Bool.Decides.{nat_tests}
use Rattle.std.proofs.lemmas.List.{get_or_read}
use Rattle.std.proofs.lemmas.Nat.{mul-add-lt}
use Rattle.std.proofs.lemmas.Nat.Bits.{bit_at_xor, bit_at-lt, bit_at-trailing_zeros, bit_at-zero}
use Rattle.vox_geom.specs.declared.coordinate.Coord.{Coord}
use Rattle.vox_geom.specs.Least.{LeastOf}
use Rattle.vox_geom.specs.Space.{IsInSpace, coordinates, is_before}
use Rattle.vox_geom.proofs.Firsts.{before-trans, first_is}
use Rattle.vox_geom.proofs.Truths.{false_by, one_of_two, or_by_first, or_by_second, true_and_false}
use Rattle.vox_geom.proofs.Tests.{same_bit}
use Rattle.nano_spec.specs.Matrix.{Matrix, differ_at}
use Rattle.nano_spec.specs.Model.{bit}
use Rattle.vox_planes.specs.Layers.{IsLayered, bit_index, is_set, layer_words, layered}
use Rattle.vox_planes.specs.Difference.{earlier, in_layer_differ}
use Rattle.vox_planes.proofs.Bits.{in_layer}
use Rattle.vox_planes.proofs.Voxels.{is_full-layered}

-- ---- two words

same_value : (a b : ℕ) → a < 2 → b < 2 → (a + b) % 2 ≡ 0 → a ≡ b
same_value a b l m e = omega arith

other_value : (a b : ℕ) → (a + b) % 2 ≡ 1 → a ≡ b → ⊥
other_value a b e f = omega arith

bits_same : (w u k : ℕ) → bit_at (bit_xor w u) k ≡ 0 → bit w k ≡ bit u k
bits_same w u k e = ap (λ v. v == 1) (same_value (bit_at w k) (bit_at u k) (bit_at-lt w k) (bit_at-lt u k) (sym (bit_at_xor w u k) ∙ e))

bits_differ : (w u k : ℕ) → bit_at (bit_xor w u) k ≡ 1 → bit w k ≡ bit u k → ⊥
bits_differ w u k e f = other_value (bit_at w k) (bit_at u k) (sym (bit_at_xor w u k) ∙ e) (same_bit (bit_at w k) (bit_at u k) (bit_at-lt w k) (bit_at-lt u k) f)

-- ---- the bits of a layer, from its first word on

-- the first n bits from a word on are the same in both lists of words
pub record AreAlike (ws us : List ℕ) (first n : ℕ) : Type 0 where
  pub same : (j : ℕ) → j < n → is_set ws (first * 64 + j) ≡ is_set us (first * 64 + j)

in_word : (ws : List ℕ) (first i k : ℕ) → k < 64
    → is_set ws (first * 64 + (64 * i + k)) ≡ bit (get_or ws (first + i) 0) k
unfolding is_set
in_word ws first i k l =
    let same_first : (first * 64 + (64 * i + k)) / 64 ≡ first + i = omega arith in
    let remainder_is : (first * 64 + (64 * i + k)) % 64 ≡ k = omega arith in
    λ t. bit (get_or ws (same_first t) 0) (remainder_is t)

-- up to the bit k of the next word, if its bits below k are the same
alike_to : (ws us : List ℕ) (first i k w u : ℕ) → k ≤ 64 → w ≡ get_or ws (first + i) 0 → u ≡ get_or us (first + i) 0
    → AreAlike ws us first (64 * i) → ((j : ℕ) → j < k → bit_at (bit_xor w u) j ≡ 0) → AreAlike ws us first (64 * i + k)
alike_to ws us first i k w u l ew eu a none = record { same = λ j m. by j m (cases_lt j (64 * i)) }
  where
    by : (j : ℕ) → j < 64 * i + k → ((j < 64 * i) ⊎ (64 * i ≤ j))
        → is_set ws (first * 64 + j) ≡ is_set us (first * 64 + j)
    by j m (inl h) = a.same j h
    by j m (inr h) =
        let difference : ℕ = j - 64 * i in
        let j_is : j ≡ 64 * i + difference = omega arith in
        ap (λ v. is_set ws (first * 64 + v)) j_is
        ∙ (in_word ws first i difference (omega arith)
        ∙ (ap (λ v. bit v difference) (sym ew)
        ∙ (bits_same w u difference (none difference (omega arith))
        ∙ (ap (λ v. bit v difference) eu
        ∙ (sym (in_word us first i difference (omega arith))
        ∙ ap (λ v. is_set us (first * 64 + v)) (sym j_is))))))

pub alike_more : (ws us : List ℕ) (first i w u : ℕ) → w ≡ get_or ws (first + i) 0 → u ≡ get_or us (first + i) 0
    → bit_xor w u ≡ 0 → AreAlike ws us first (64 * i) → AreAlike ws us first (64 * (i + 1))
alike_more ws us first i w u ew eu z a =
    subst (λ (n : ℕ). AreAlike ws us first n) (omega arith) (alike_to ws us first i 64 w u (omega arith) ew eu a (λ j l. ap (λ v. bit_at v j) z ∙ bit_at-zero j))

-- the bits are the same before one at which they differ
pub record IsFirst (ws us : List ℕ) (first at : ℕ) : Type 0 where
  pub before : AreAlike ws us first at
  pub differs : is_set ws (first * 64 + at) ≡ is_set us (first * 64 + at) → ⊥

pub first_differs : (ws us : List ℕ) (first i w u : ℕ) → w ≡ get_or ws (first + i) 0 → u ≡ get_or us (first + i) 0
    → 0 < bit_xor w u → bit_xor w u < 2 ^ 64 → AreAlike ws us first (64 * i)
    → (trailing_zeros w64 (bit_xor w u) < 64) × IsFirst ws us first (64 * i + trailing_zeros w64 (bit_xor w u))
first_differs ws us first i w u ew eu p l a =
    let lowest_bit = bit_at-trailing_zeros w64 (bit_xor w u) p l in
    let k : ℕ = trailing_zeros w64 (bit_xor w u) in (
      lowest_bit.0,
      record {
        before = alike_to ws us first i k w u (let m = lowest_bit.0 in omega arith) ew eu a lowest_bit.2;
        differs = λ e. bits_differ w u k lowest_bit.1 (ap (λ v. bit v k) ew ∙ (sym (in_word ws first i k lowest_bit.0) ∙ (e ∙ (in_word us first i k lowest_bit.0 ∙ ap (λ v. bit v k) (sym eu)))));
      },
    )

-- ---- the voxels of a layer

differ-same : (a b : Bool) → a ≡ b → ((a && not b) || (b && not a)) ≡ false
differ-same true true e = refl
differ-same true false e = cc
differ-same false true e = cc
differ-same false false e = refl

differ-other : (a b : Bool) → (a ≡ b → ⊥) → ((a && not b) || (b && not a)) ≡ true
differ-other true true n = absurd (n refl)
differ-other true false n = refl
differ-other false true n = refl
differ-other false false n = absurd (n refl)

differ-bits : (r : ℕ) (ws us : List ℕ) (c : Coord) → IsInSpace r c → differ_at (layered r ws) (layered r us) c
    ≡ ((is_set ws (bit_index r c) && not (is_set us (bit_index r c)))
    || (is_set us (bit_index r c) && not (is_set ws (bit_index r c))))
differ-bits r ws us c h = λ i. (is_full-layered r ws c h i && not (is_full-layered r us c h i)) || (is_full-layered r us c h i && not (is_full-layered r ws c h i))

layer-of : (a : Bool) (b y : ℕ) → IsTrue (a && (b == y)) → (a ≡ true) × (b ≡ y)
layer-of true b y h = (refl, grind (arith, nat_tests))
layer-of false b y h = cc

-- a coordinate of the layer at which they differ has a bit that is not alike
at_bit : (r : ℕ) (ws us : List ℕ) (y n : ℕ) (d : Coord) → AreAlike ws us (y * layer_words r) n → IsInSpace r d
    → IsTrue (in_layer_differ (layered r ws) (layered r us) y d) → (d.y ≡ y) × (n ≤ d.x * r + d.z)
at_bit r ws us y n d a h t = (parts.1, by (cases_lt (d.x * r + d.z) n))
  where
    parts : (differ_at (layered r ws) (layered r us) d ≡ true) × (d.y ≡ y)
    parts = layer-of (differ_at (layered r ws) (layered r us) d) d.y y t

    by : ((d.x * r + d.z < n) ⊎ (n ≤ d.x * r + d.z)) → n ≤ d.x * r + d.z
    by (inr l) = l
    by (inl l) =
        let bit_index_is : bit_index r d ≡ y * layer_words r * 64 + (d.x * r + d.z) = ap (λ v. v * layer_words r * 64 + (d.x * r + d.z)) parts.1 in
        let same : is_set ws (bit_index r d) ≡ is_set us (bit_index r d) = ap (is_set ws) bit_index_is ∙ (a.same (d.x * r + d.z) l ∙ sym (ap (is_set us) bit_index_is)) in
        let no = differ-bits r ws us d h ∙ differ-same (is_set ws (bit_index r d)) (is_set us (bit_index r d)) same in
        let yes = parts.0 in
        cc

pub layer_alike : (r : ℕ) (ws us : List ℕ) (y : ℕ) → AreAlike ws us (y * layer_words r) (64 * layer_words r)
    → LeastOf r (in_layer_differ (layered r ws) (layered r us) y) None
layer_alike r ws us y a = λ d h. false_by (in_layer_differ (layered r ws) (layered r us) y d) (λ t.
    let far = (at_bit r ws us y (64 * layer_words r) d a h t).1 in
    let near = in_layer r d h in
    omega arith)

before-bits : (d : Coord) (r x y z : ℕ) → d.z < r → z < r → d.y ≡ y
    → IsTrue (is_before d (record { x = x; y = y; z = z })) → d.x * r + d.z < x * r + z
before-bits d r x y z ld lz e t = by (row d x y z e t)
  where
    row : (d : Coord) (x y z : ℕ) → d.y ≡ y → IsTrue (is_before d (record { x = x; y = y; z = z }))
        → (d.x < x) ⊎ ((d.x ≡ x) × (d.z < z))
    row d x y z e t = grind (arith, nat_tests)

    by : ((d.x < x) ⊎ ((d.x ≡ x) × (d.z < z))) → d.x * r + d.z < x * r + z
    by (inl l) = digits_lt' l
      where
        digits_lt' : d.x < x → d.x * r + d.z < x * r + z
        digits_lt' l = let below_x : d.x * r + d.z < x * r = digits_lt l ld in omega arith
    by (inr p) = let product_is : d.x * r ≡ x * r = ap (λ v. v * r) p.0 in omega (arith, p.1)

pub layer_differs : (r : ℕ) (ws us : List ℕ) (y at : ℕ) → IsLayered r ws → IsLayered r us → y < r
    → at < 64 * layer_words r → IsFirst ws us (y * layer_words r) at → (at < r * r)
    × LeastOf r (in_layer_differ (layered r ws) (layered r us) y) (Some (record { x = at / r; y = y; z = at % r }))
layer_differs r ws us y at hw hu ly la f = (used, record { within = within; passes = passes; least = least })
  where
    used : at < r * r
    used = by (cases_lt at (r * r))
      where
        by : ((at < r * r) ⊎ (r * r ≤ at)) → at < r * r
        by (inl l) = l
        by (inr l) = absurd (f.differs (hw.unused y at ly l (omega arith) ∙ sym (hu.unused y at ly l (omega arith))))

    c : Coord
    c = record { x = at / r; y = y; z = at % r }

    some : 0 < r
    some = omega (arith, hw.some)

    within : IsInSpace r (record { x = at / r; y = y; z = at % r })
    within = record { x = (div-lt_iff_lt-mul some).1 used; y = ly; z = mod-lt at some }

    back : at / r * r + at % r ≡ at
    back = omega (arith, div-add-mod at r)

    passes : IsTrue (in_layer_differ (layered r ws) (layered r us) y (record { x = at / r; y = y; z = at % r }))
    passes =
        let place_there : Coord = record { x = at / r; y = y; z = at % r } in
        let bit_index_is : bit_index r place_there ≡ y * layer_words r * 64 + at = ap (λ v. y * layer_words r * 64 + v) back in
        let differ : differ_at (layered r ws) (layered r us) place_there ≡ true = differ-bits r ws us place_there within ∙ differ-other (is_set ws (bit_index r place_there)) (is_set us (bit_index r place_there)) (λ s. f.differs (sym (ap (is_set ws) bit_index_is) ∙ (s ∙ ap (is_set us) bit_index_is))) in
        rw differ same_layer
      where
        same_layer : (y == y) ≡ true
        same_layer = grind (arith, nat_tests)

    least : (d : Coord) → IsInSpace r d → IsTrue (in_layer_differ (layered r ws) (layered r us) y d)
        → IsFalse (is_before d (record { x = at / r; y = y; z = at % r }))
    least d h t = false_by (is_before d (record { x = at / r; y = y; z = at % r })) (λ b.
        let far = at_bit r ws us y at d f.before h t in
        let near = before-bits d r (at / r) y (at % r) h.z (mod-lt at some) far.0 b in
        omega (arith, back, far.1, near))

-- ---- layer after layer

-- whether the matrices differ at a coordinate below a layer
abbrev pub below_differ : Matrix → Matrix → ℕ → Coord → Bool
below_differ m n y c = differ_at m n c && nat_lt c.y y

between : (a b d : Coord) → IsTrue (is_before d a) → IsFalse (is_before d b) → IsTrue (is_before b a)
between a b d h k = grind (arith, nat_tests)

-- the earlier of the least that pass two tests is the least that passes either
pub earlier-least : (r : ℕ) (f g : Coord → Bool) (a b : Option Coord) → LeastOf r f a → LeastOf r g b
    → LeastOf r (λ c. f c || g c) (earlier a b)
earlier-least r f g None None h k = λ d i. false_by (f d || g d) (λ t. by d i (one_of_two (f d) (g d) t))
  where
    by : (d : Coord) → IsInSpace r d → IsTrue (f d) ⊎ IsTrue (g d) → ⊥
    by d i (inl t) = true_and_false (f d) t (h d i)
    by d i (inr t) = true_and_false (g d) t (k d i)
earlier-least r f g (Some a) None h k = record {
  within = h.within;
  passes = or_by_first (f a) (g a) h.passes;
  least = λ d i t. by d i (one_of_two (f d) (g d) t);
}
  where
    by : (d : Coord) → IsInSpace r d → IsTrue (f d) ⊎ IsTrue (g d) → IsFalse (is_before d a)
    by d i (inl t) = h.least d i t
    by d i (inr t) = absurd (true_and_false (g d) t (k d i))
earlier-least r f g None (Some b) h k = record {
  within = k.within;
  passes = or_by_second (f b) (g b) k.passes;
  least = λ d i t. by d i (one_of_two (f d) (g d) t);
}
  where
    by : (d : Coord) → IsInSpace r d → IsTrue (f d) ⊎ IsTrue (g d) → IsFalse (is_before d b)
    by d i (inl t) = absurd (true_and_false (f d) t (h d i))
    by d i (inr t) = k.least d i t
earlier-least r f g (Some a) (Some b) h k = by (is_before b a) refl
  where
    second : IsTrue (is_before b a) → (d : Coord) → IsInSpace r d → IsTrue (f d) ⊎ IsTrue (g d)
        → IsFalse (is_before d b)
    second e d i (inl t) = false_by (is_before d b) (λ l. true_and_false (is_before d a) (before-trans d b a l e) (h.least d i t))
    second e d i (inr t) = k.least d i t

    first : IsFalse (is_before b a) → (d : Coord) → IsInSpace r d → IsTrue (f d) ⊎ IsTrue (g d)
        → IsFalse (is_before d a)
    first e d i (inl t) = h.least d i t
    first e d i (inr t) = false_by (is_before d a) (λ l. true_and_false (is_before b a) (between a b d l (k.least d i t)) e)

    by : (t : Bool) → is_before b a ≡ t → LeastOf r (λ c. f c || g c) (cond t (Some b) (Some a))
    by true e = record { within = k.within; passes = or_by_second (f b) (g b) k.passes; least = λ d i t. second e d i (one_of_two (f d) (g d) t) }
    by false e = record { within = h.within; passes = or_by_first (f a) (g a) h.passes; least = λ d i t. first e d i (one_of_two (f d) (g d) t) }

below-next : (b : Bool) (v y : ℕ) → ((b && nat_lt v y) || (b && (v == y))) ≡ (b && nat_lt v (y + 1))
below-next true v y = grind (arith, nat_tests)
below-next false v y = refl

-- tests that agree have one least
least-same : (r : ℕ) (f g : Coord → Bool) → ((c : Coord) → f c ≡ g c) → (o : Option Coord) → LeastOf r f o
    → LeastOf r g o
least-same r f g same None h = λ d i. sym (same d) ∙ h d i
least-same r f g same (Some c) h = record { within = h.within; passes = sym (same c) ∙ h.passes; least = λ d i t. h.least d i (same d ∙ t) }

-- the least below a layer and the least of that layer give the least below the next one
pub least_more : (r : ℕ) (m n : Matrix) (y : ℕ) (a b : Option Coord) → LeastOf r (below_differ m n y) a
    → LeastOf r (in_layer_differ m n y) b → LeastOf r (below_differ m n (y + 1)) (earlier a b)
least_more r m n y a b h k =
    least-same r (λ c. below_differ m n y c || in_layer_differ m n y c) (below_differ m n (y + 1)) (λ c. below-next (differ_at m n c) c.y y) (earlier a b)
    (earlier-least r (below_differ m n y) (in_layer_differ m n y) a b h k)

all_below : (b : Bool) (v r : ℕ) → v < r → (b && nat_lt v r) ≡ b
all_below true v r l = grind (arith, nat_tests)
all_below false v r l = refl

-- the least below all layers is the first of all coordinates at which they differ
pub least_all : (r : ℕ) (m n : Matrix) (o : Option Coord) → LeastOf r (below_differ m n r) o
    → find (differ_at m n) (coordinates r) ≡ o
least_all r m n o h = first_is r (differ_at m n) o (by o h)
  where
    by : (o : Option Coord) → LeastOf r (below_differ m n r) o → LeastOf r (differ_at m n) o
    by None h = λ d i. sym (all_below (differ_at m n d) d.y r i.y) ∙ h d i
    by (Some c) h = record {
      within = h.within;
      passes = sym (all_below (differ_at m n c) c.y r (h.within).y) ∙ h.passes;
      least = λ d i t. h.least d i (all_below (differ_at m n d) d.y r i.y ∙ t);
    }

-- ---- the words i of a layer, of both matrices, from the layer's first word on

pub record IsRead (r : ℕ) (ws us : List ℕ) (y i first count w u : ℕ) : Type 0 where
  pub left : IsLayered r ws
  pub right : IsLayered r us
  pub layer : y < r
  pub index : i < layer_words r
  pub first_is : first ≡ y * layer_words r
  pub word : w ≡ get_or ws (first + i) 0
  pub other : u ≡ get_or us (first + i) 0
  pub alike : AreAlike ws us first (64 * i)

pub read_by : (r s : ℕ) (ws us : List ℕ) (y i first from count w u : ℕ) → IsLayered r ws → IsLayered s us → r ≡ s
    → y < r → i < count → count ≡ layer_words r → from ≡ y → first ≡ from * count → w ≡ get_or ws (first + i) w
    → u ≡ get_or us (first + i) u → AreAlike ws us first (64 * i) → IsRead r ws us y i first count w u
read_by r s ws us y i first from count w u hw hu e ly li ec ef e1 ew eu a =
    let here : first ≡ y * layer_words r = e1 ∙ (λ t. ef t * ec t) in
    let below_layer_words : i < layer_words r = omega arith in
    let hu' : IsLayered r us = subst (λ (n : ℕ). IsLayered n us) (sym e) hu in
    let within : y * layer_words r + i < layer_words r * r = mul-add-lt y (layer_words r) i r ly below_layer_words in
    record {
      left = hw;
      right = hu';
      layer = ly;
      index = below_layer_words;
      first_is = here;
      word = get_or_read ws (first + i) w (omega (arith, hw.whole)) ew 0;
      other = get_or_read us (first + i) u (omega (arith, hu'.whole)) eu 0;
      alike = a;
    }

pub read_differs : (r s : ℕ) (ws us : List ℕ) (m n : Matrix) (y i first count w u side : ℕ)
    → IsRead r ws us y i first count w u → r ≡ s → layered r ws ≡ m → layered s us ≡ n → side ≡ r
    → (bit_xor w u ≡ 0 → ⊥) → bit_xor w u < 2 ^ 64 → ((i * 64 + trailing_zeros w64 (bit_xor w u)) / side < r) × LeastOf
    m.resolution (in_layer_differ m n y) (Some (record {
      x = (i * 64 + trailing_zeros w64 (bit_xor w u)) / side;
      y = y;
      z = (i * 64 + trailing_zeros w64 (bit_xor w u)) % side;
    }))
read_differs r s ws us m n y i first count w u side h e em en es nz l =
    let k : ℕ = trailing_zeros w64 (bit_xor w u) in
    let found = first_differs ws us first i w u h.word h.other (omega arith) l h.alike in
    let near : 64 * i + k < 64 * layer_words r = (let a = found.0 in let index = h.index in omega arith) in
    let here = layer_differs r ws us y (64 * i + k) h.left h.right h.layer near (subst (λ (f : ℕ). IsFirst ws us f (64 * i + k)) h.first_is found.1) in
    let turn : 64 * i + k ≡ i * 64 + k = omega arith in
    let other : layered r us ≡ n = ap (λ v. layered v us) e ∙ en in
    let below_r : (i * 64 + k) / side < r = (let below_r : (64 * i + k) / r < r = (div-lt_iff_lt-mul (omega (arith, (h.left).some))).1 here.0 in subst (λ (v : ℕ). v / side < r) turn (subst (λ (v : ℕ). (64 * i + k) / v < r) (sym es) below_r)) in (
      below_r,
      subst (λ (v : ℕ). LeastOf v (in_layer_differ m n y) (Some (record { x = (i * 64 + k) / side; y = y; z = (i * 64 + k) % side }))) (ap (λ (v : Matrix). v.resolution) em)
          (subst (λ (v : ℕ). LeastOf r (in_layer_differ m n y) (Some (record { x = v / side; y = y; z = v % side }))) turn
          (subst (λ (v : ℕ). LeastOf r (in_layer_differ m n y) (Some (record { x = (64 * i + k) / v; y = y; z = (64 * i + k) % v }))) (sym es)
          (subst (λ (v : Matrix). LeastOf r (in_layer_differ m v y) (Some (record { x = (64 * i + k) / r; y = y; z = (64 * i + k) % r }))) other
          (subst (λ (v : Matrix). LeastOf r (in_layer_differ v (layered r us) y) (Some (record { x = (64 * i + k) / r; y = y; z = (64 * i + k) % r }))) em here.1)))),
    )

pub all_alike : (r s : ℕ) (ws us : List ℕ) (m n : Matrix) (y i first from count : ℕ) → r ≡ s → layered r ws ≡ m
    → layered s us ≡ n → count ≡ layer_words r → from ≡ y → first ≡ from * count → i ≡ count
    → AreAlike ws us first (64 * i) → LeastOf r (in_layer_differ m n y) None
all_alike r s ws us m n y i first from count e em en ec ef e1 ei a =
    let here : AreAlike ws us (y * layer_words r) (64 * layer_words r) = subst (λ (v : ℕ). AreAlike ws us (y * layer_words r) (64 * v)) (ei ∙ ec) (subst (λ (v : ℕ). AreAlike ws us v (64 * i)) (e1 ∙ (λ t. ef t * ec t)) a) in
    subst (λ (v : Matrix). LeastOf r (in_layer_differ m v y) None) (ap (λ v. layered v us) e ∙ en)
    (subst (λ (v : Matrix). LeastOf r (in_layer_differ v (layered r us) y) None) em (layer_alike r ws us y here))

-- Forests without overhangs: each full voxel has the level of its y.
use Rattle.std.proofs.Common.{◌≡◌, ℕ, zero, suc, ◌+◌, ◌*◌, ◌/◌, ◌%◌, ◌<◌, ◌≤◌, ◌⊎◌, inl, inr, refl, ap, subst, arith, false, not, ◌||◌}
use Rattle.std.specs.Prelude.{◌==◌}
use Rattle.std.proofs.lemmas.Bool.{cases_lt, cases_eq}
use Rattle.std.proofs.lemmas.Bool.Decides.{nat_tests}
use Rattle.vox_geom.specs.declared.coordinate.Coord.{Coord}
use Rattle.support_forest.specs.Directions.{Toward, AreBeside, lies_left, lies_right, lies_under, lies_over, lies_near, lies_far}
use Rattle.support_forest.specs.FillingOne.{IsWordToward}
use Rattle.support_forest.specs.Grid.{Grid, count_words, word_at}
use Rattle.support_forest.specs.Segments.{EndsAreFree, SideHangsNot, SidesAreFree, further}
use Rattle.support_forest.proofs.ForestView.{none_passes}
use Rattle.support_forest.proofs.Writes.{word_in_space}
use Rattle.support_forest.specs.VoidingOne.{HangsNot, IsNoParent}
use Rattle.support_forest.specs.Words.{AreExact, NoneOverhangs, height, is_overhang}
use Rattle.support_forest.proofs.Nearby.{toward_down}
use Rattle.support_forest.proofs.FillingOne.{Fits}

-- a word that is not an overhang
pub upright : (word : ℕ) → is_overhang word ≡ false → (word % 8 ≡ 0) ⊎ (word % 8 ≡ 3)
upright word h = elim (cases_eq (word % 8) 0) [
  | inl e ↦ inl e
  | inr n ↦ elim (cases_eq (word % 8) 3) [ inl e ↦ inr e | inr m ↦ absurd (grind (arith, nat_tests)) ]
]

-- a word that is not an overhang has no parent but the voxel below
pub hangs_on_none : (word toward : ℕ) → is_overhang word ≡ false → 0 < toward → (toward ≡ 3 → ⊥) → HangsNot word toward
hangs_on_none word toward h some other full e = elim (upright word h) [ inl z ↦ absurd (omega arith) | inr t ↦ other (omega arith) ]

no_way : (d : ℕ) (c q : Coord) → Toward d c q → d ≡ 0 → ⊥
no_way d c q (lies_left h) z = let is = h.0 in omega arith
no_way d c q (lies_right h) z = let is = h.0 in omega arith
no_way d c q (lies_under h) z = let is = h.0 in omega arith
no_way d c q (lies_over h) z = let is = h.0 in omega arith
no_way d c q (lies_near h) z = let is = h.0 in omega arith
no_way d c q (lies_far h) z = let is = h.0 in omega arith

one_higher : (w : Coord → ℕ) (c q : Coord) (n : ℕ) → is_overhang (w c) ≡ false → Toward (w c % 8) c q
    → height w q + 1 ≡ height w c → c.y ≡ suc n → (q.y ≡ n → height w q ≡ n + 1) → height w c ≡ suc n + 1
one_higher w c q n s t k y below = elim (upright (w c) s) [
  | inl z ↦ absurd (no_way (w c % 8) c q t z)
  | inr z ↦
      let down = toward_down c q (subst (λ (d : ℕ). Toward d c q) z t) in
      let under = below (omega arith) in
      omega arith
]

-- the height of a voxel is one more than its y
heights : (r : ℕ) (w : Coord → ℕ) → AreExact r w → NoneOverhangs w → (n : ℕ) (c : Coord) → c.y ≡ n → 8 ≤ w c
    → height w c ≡ n + 1
heights r w e s zero c y h = let word_is = e.floor c (omega arith) y in omega arith
heights r w e s (suc n) c y h = elim (e.parent c h) [
  | inl p ↦ absurd (let floor = p.1 in omega arith)
  | inr p ↦ one_higher w c p.0 n (s c) p.1 p.3 y (λ f. heights r w e s n p.0 f p.2)
]

pub height_is : (r : ℕ) (w : Coord → ℕ) (c : Coord) → AreExact r w → NoneOverhangs w → 8 ≤ w c → height w c ≡ c.y + 1
height_is r w c e s h = heights r w e s c.y c refl h

-- a full voxel has a height
pub has_height : (r : ℕ) (w : Coord → ℕ) (c : Coord) → AreExact r w → NoneOverhangs w → 0 < w c → 8 ≤ w c
has_height r w c e s f = elim (cases_lt (w c) 8) [
  | inl l ↦ absurd (let small = e.form c l in elim (upright (w c) (s c)) [ inl z ↦ omega arith | inr z ↦ omega arith ])
  | inr l ↦ l
]

-- the y of neighbors
near_y : (a b : Coord) → AreBeside a b → (a.y ≤ b.y + 1) × (b.y ≤ a.y + 1)
near_y a b n = by n.toward
  where
    by : Toward n.direction a b → (a.y ≤ b.y + 1) × (b.y ≤ a.y + 1)
    by (lies_left d) = (omega (arith, d.2), omega (arith, d.2))
    by (lies_right d) = (omega (arith, d.2), omega (arith, d.2))
    by (lies_under d) = (omega (arith, d.2), omega (arith, d.2))
    by (lies_over d) = (omega (arith, d.2), omega (arith, d.2))
    by (lies_near d) = (omega (arith, d.2), omega (arith, d.2))
    by (lies_far d) = (omega (arith, d.2), omega (arith, d.2))

-- a void voxel above a full one fits
pub fits_without_overhangs : (r : ℕ) (w : Coord → ℕ) (c : Coord) (under : ℕ) → AreExact r w → NoneOverhangs w
    → IsWordToward w c 3 under → 0 < under → Fits r w c (8 * (under / 8) + 11)
fits_without_overhangs r w c under e s k f =
    let down = k.some f in
    let same : w down.0 ≡ under = k.each down.0 down.1 in
    let lower = toward_down c down.0 down.1 in
    let full = has_height r w down.0 e s (omega arith) in
    let high = height_is r w down.0 e s full in
    let digit : 3 ≡ (8 * (under / 8) + 11) % 8 = omega arith in
    record {
      some = omega arith;
      form = λ h. omega arith;
      floor = λ y. absurd (omega arith);
      parent = λ h. inr (down.0, subst (λ (j : ℕ). Toward j c down.0) digit down.1, full, omega arith);
      above = λ q h n. let near = near_y c q n in let level = height_is r w q e s h in (omega arith, omega (arith, near.0));
      below = λ q g h n.
          let near = near_y q c n in
          let some = has_height r w q e s g in
          let level = height_is r w q e s some in
          (some, omega (arith, near.0));
    }

-- if no voxel is above a voxel, it is no parent
pub no_parent_without_overhangs : (w : Coord → ℕ) (c : Coord) (over : ℕ) → NoneOverhangs w → IsWordToward w c 4 over
    → over ≡ 0 → IsNoParent w c
no_parent_without_overhangs w c over s k z q h t = elim (upright (w q) (s q)) [
  | inl e ↦ no_way (w q % 8) q c t e
  | inr e ↦ up (subst (λ (d : ℕ). Toward d q c) e t)
]
  where
    up : Toward 3 q c → ⊥
    up (lies_left d) = let is = d.0 in omega arith
    up (lies_right d) = let is = d.0 in omega arith
    up (lies_under d) = let word_is = k.each q (lies_over (refl, omega (arith, d.1), omega (arith, d.2), omega (arith, d.3))) in omega arith
    up (lies_over d) = let is = d.0 in omega arith
    up (lies_near d) = let is = d.0 in omega arith
    up (lies_far d) = let is = d.0 in omega arith

-- a voxel whose parent is the voxel below is not an overhang
pub lies_upright : (h : ℕ) → is_overhang (8 * h + 11) ≡ false
lies_upright h = let digit : (8 * h + 11) % 8 ≡ 3 = omega arith in ap (λ (d : ℕ). not (d == 0 || d == 3)) digit

-- the voxel below another has a height if it is full
pub held_by : (r : ℕ) (w : Coord → ℕ) (c : Coord) (under : ℕ) → AreExact r w → NoneOverhangs w
    → IsWordToward w c 3 under → 0 < under → 8 ≤ under
held_by r w c under e s k f =
    let down = k.some f in
    let same : w down.0 ≡ under = k.each down.0 down.1 in
    let full = has_height r w down.0 e s (omega arith) in
    omega arith

-- ---- a row

not_three : (d : ℕ) → (d < 3) ⊎ (3 < d) → d ≡ 3 → ⊥
not_three d (inl l) e = omega arith
not_three d (inr l) e = omega arith

pub sides_without_overhangs : (w : Coord → ℕ) (c : Coord) (n : ℕ) → NoneOverhangs w → SideHangsNot w c n 4 3
    → SidesAreFree w c n
sides_without_overhangs w c n s over = record {
  left = λ k p l t. hangs_on_none (w p) 2 (s p) (omega arith) (not_three 2 (inl (omega arith)));
  right = λ k p l t. hangs_on_none (w p) 1 (s p) (omega arith) (not_three 1 (inl (omega arith)));
  under = λ k p l t. hangs_on_none (w p) 4 (s p) (omega arith) (not_three 4 (inr (omega arith)));
  over = over;
  own = λ k l. hangs_on_none (w (further c k)) 6 (s (further c k)) (omega arith) (not_three 6 (inr (omega arith)));
}

pub ends_without_overhangs : (w : Coord → ℕ) (c : Coord) (n : ℕ) → NoneOverhangs w → EndsAreFree w c n
ends_without_overhangs w c n s = record {
  near = λ k p l t. hangs_on_none (w p) 6 (s p) (omega arith) (not_three 6 (inr (omega arith)));
  far = λ p x y z. hangs_on_none (w p) 5 (s p) (omega arith) (not_three 5 (inr (omega arith)));
}

-- there are no overhangs if the count is 0
pub none_overhangs : (g : Grid) → count_words is_overhang g ≡ 0
    → NoneOverhangs (word_at g)
none_overhangs g h c = elim (cases_lt 0 (word_at g c)) [
  | inl f ↦ none_passes is_overhang g h c (word_in_space g c f)
  | inr f ↦ ap is_overhang (let is : word_at g c ≡ 0 = omega arith in is)
]

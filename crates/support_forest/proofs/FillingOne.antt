-- A voxel that becomes full while the levels of its neighbors stay as they are.
use Rattle.std.proofs.Common.{◌≡◌, ℕ, ◌+◌, ◌*◌, ◌/◌, ◌%◌, ◌<◌, ◌≤◌, ◌⊎◌, inl, inr, refl, sym, ◌∙◌, ap, subst, arith, Bool, true, false, List, length}
use Rattle.std.specs.Prelude.{slice_index_or, ◌==◌, MatchBool}
use Rattle.std.specs.List.{Contains}
use Rattle.std.proofs.lemmas.Bool.{cases_lt, false≢true}
use Rattle.std.proofs.lemmas.List.{get_or_default}
use Rattle.vox_geom.specs.declared.coordinate.Coord.{Coord}
use Rattle.vox_geom.specs.Space.{IsInSpace}
use Rattle.vox_geom.proofs.Points.{same_or_not}
use Rattle.vox_geom.proofs.Tests.{positive_by_test, zero_by_test}
use Rattle.support_forest.specs.Candidates.{Candidate}
use Rattle.support_forest.specs.declared.beside.Beside.{Beside}
use Rattle.support_forest.specs.declared.fill_one.Around.{Around}
use Rattle.support_forest.specs.Directions.{Toward, AreBeside, lies_left, lies_right, lies_under, lies_over, lies_near, lies_far}
use Rattle.support_forest.specs.Grid.{Grid, word_at}
use Rattle.support_forest.specs.FillingOne.{AreBesideWords, HaveFilledOne, IsAround, IsWordToward, LeavesRoom, MayLieUnder, MayBeSupported}
use Rattle.support_forest.specs.Waiting.{CanAdd, HaveAdded}
use Rattle.support_forest.specs.Words.{height, AreExact, AreSettling, IsSound, IsWritten}
use Rattle.support_forest.proofs.Nearby.{each_beside, toward_down}
use Rattle.support_forest.proofs.Depth.{not_deep}
use Rattle.support_forest.proofs.Settling.{sound_range}
use Rattle.support_forest.proofs.Sides.{back, one_toward, toward_range_seven}

pub positive : (n : ℕ) → (n ≡ 0 → ⊥) → 0 < n
positive n h = elim (cases_lt 0 n) [ inl l ↦ l | inr l ↦ absurd (h (omega arith)) ]

-- ---- one neighbor more

the_word : (w : Coord → ℕ) (c q p : Coord) (d k : ℕ) → Toward d c q → Toward k c p → d ≡ k → w p ≡ w q
the_word w c q p d k t u e = ap w (sym (one_toward k c q p (subst (λ (j : ℕ). Toward j c q) e t) u))

-- the neighborhood in the directions below, and with the one more
pub one_more : (w : Coord → ℕ) (c q : Coord) (a b : Around) (d : ℕ) → Toward d c q → IsAround w c a d →
    (c.y ≡ 0 → b.height ≡ 1) →
    ((b.height ≡ 0) ⊎ IsSound w (record { at = c; height = b.height; toward = b.toward })) →
    ((n : ℕ) → (0 < a.height) × (a.height ≤ n) → (0 < b.height) × (b.height ≤ n)) →
    a.highest ≤ b.highest → (a.is_loose ≡ true → b.is_loose ≡ true) →
    (8 ≤ w q → (0 < b.height) × (b.height ≤ height w q + 1) × (height w q ≤ b.highest)) →
    (0 < w q → w q < 8 → b.is_loose ≡ true) →
    IsAround w c b (d + 1)
one_more w c q a b d t i floor sound lower higher looser near loose = record {
  floor = floor;
  sound = sound;
  least = λ k p l u h. elim (cases_lt k d) [
    | inl m ↦ lower (height w p + 1) (i.least k p m u h)
    | inr m ↦ let same_w : w p ≡ w q = the_word w c q p d k t u (omega arith) in let near_here = near (omega arith) in (near_here.0, omega (arith, near_here.1))
  ];
  highest = λ k p l u h. elim (cases_lt k d) [
    | inl m ↦ let at_most_highest : height w p ≤ a.highest = i.highest k p m u h in omega arith
    | inr m ↦ let same_w : w p ≡ w q = the_word w c q p d k t u (omega arith) in let near_here = near (omega arith) in omega (arith, near_here.2)
  ];
  loose = λ k p l u f h. elim (cases_lt k d) [
    | inl m ↦ looser (i.loose k p m u f h)
    | inr m ↦ let same_w : w p ≡ w q = the_word w c q p d k t u (omega arith) in loose (omega arith) (omega arith)
  ];
}

-- no neighbor lies in the direction, or it is void
pub around_void : (w : Coord → ℕ) (c : Coord) (a : Around) (d : ℕ) → ((q : Coord) → Toward d c q → w q ≡ 0)
    → IsAround w c a d → IsAround w c a (d + 1)
around_void w c a d z i = record {
  floor = i.floor;
  sound = i.sound;
  least = λ k p l u h. elim (cases_lt k d) [ inl m ↦ i.least k p m u h | inr m ↦ absurd (let none_there = none k p u (omega arith) in omega arith) ];
  highest = λ k p l u h. elim (cases_lt k d) [ inl m ↦ i.highest k p m u h | inr m ↦ absurd (let none_there = none k p u (omega arith) in omega arith) ];
  loose = λ k p l u f h. elim (cases_lt k d) [ inl m ↦ i.loose k p m u f h | inr m ↦ absurd (let none_there = none k p u (omega arith) in omega arith) ];
}
  where
    none : (k : ℕ) (p : Coord) → Toward k c p → k ≡ d → w p ≡ 0
    none k p u e = z p (subst (λ (j : ℕ). Toward j c p) e u)

-- ---- exact words with one more voxel

-- no height is greater than there are coordinates
pub exact_low : (r : ℕ) (w : Coord → ℕ) (q : Coord) → AreExact r w → 8 ≤ w q → height w q ≤ r * r * r
exact_low r w q e h = not_deep r w (λ _. ⊥) (height w q) q settling (λ y n. absurd n) (omega arith) h
  where
    settling : AreSettling r w (λ _. ⊥)
    settling = record {
      space = e.space;
      form = e.form;
      floor = λ c f y. let w_is : w c ≡ 8 = e.floor c f y in inl (omega arith);
      parent = λ c g. elim (e.parent c g) [ inl k ↦ inl k | inr k ↦ inr (k.0, k.1, k.2, omega (arith, k.3)) ];
      near = λ a b f g n. inl (e.near a b f g n);
      sound = λ x n. absurd n;
      within = λ x n. absurd n;
    }

beside_back : (a b : Coord) → AreBeside a b → AreBeside b a
beside_back a b n = let back_here = back n.direction a b n.toward in record { direction = back_here.direction; toward = back_here.toward }

not_beside : (d : ℕ) (a b : Coord) → a ≡ b → Toward d a b → ⊥
not_beside d a b e h = apart (ap (λ (c : Coord). c.x) e) (ap (λ (c : Coord). c.y) e) (ap (λ (c : Coord). c.z) e) h
  where
    apart : a.x ≡ b.x → a.y ≡ b.y → a.z ≡ b.z → Toward d a b → ⊥
    apart x y z (lies_left k) = omega arith
    apart x y z (lies_right k) = omega arith
    apart x y z (lies_under k) = omega arith
    apart x y z (lies_over k) = omega arith
    apart x y z (lies_near k) = omega arith
    apart x y z (lies_far k) = omega arith

-- the conditions of the neighbors on the voxel's word
pub record Fits (r : ℕ) (w : Coord → ℕ) (c : Coord) (word : ℕ) : Type 0 where
  pub some : 0 < word
  pub form : word < 8 → word ≤ 1
  pub floor : c.y ≡ 0 → word ≡ 8
  pub parent : 8 ≤ word
      → ((word ≡ 8) × (c.y ≡ 0)) ⊎ ((q : Coord) × Toward (word % 8) c q × (8 ≤ w q) × (height w q + 1 ≡ word / 8))
  pub above : (b : Coord) → 8 ≤ w b → AreBeside c b → (8 ≤ word) × (word / 8 ≤ height w b + 1)
  pub below : (a : Coord) → 0 < w a → 8 ≤ word → AreBeside a c → (8 ≤ w a) × (height w a ≤ word / 8 + 1)

exact_with : (r : ℕ) (w v : Coord → ℕ) (c : Coord) (word : ℕ) → AreExact r w → IsInSpace r c → w c ≡ 0 → Fits r w c word
    → IsWritten w v c word → AreExact r v
exact_with r w v c word e s z f k = record {
  space = λ d g. elim (same_or_not d c) [ inl m ↦ subst (λ (x : Coord). IsInSpace r x) (sym m) s | inr m ↦ let kept = k.kept d m in e.space d (omega arith) ];
  form = λ d g. elim (same_or_not d c) [ inl m ↦ let at_here = at d m in let word_to_1 : word ≤ 1 = f.form (omega arith) in omega arith | inr m ↦ let kept = k.kept d m in let w_to_1 : w d ≤ 1 = e.form d (omega arith) in omega arith ];
  floor = λ d g y. elim (same_or_not d c) [ inl m ↦ at d m ∙ f.floor (sym (ap (λ (x : Coord). x.y) m) ∙ y) | inr m ↦ k.kept d m ∙ e.floor d (let kept = k.kept d m in omega arith) y ];
  parent = λ d g. elim (same_or_not d c) [
    | inl m ↦ own d m g
    | inr m ↦ let kept = k.kept d m in elim (e.parent d (omega arith)) [
      | inl p ↦ inl (kept ∙ p.0, p.1)
      | inr p ↦ let still_here = still p.0 p.2 in inr (p.0, subst (λ (j : ℕ). Toward (j % 8) d p.0) (sym kept) p.1, omega (arith, p.2), omega (arith, p.3))
    ]
  ];
  near = λ a b g h n. elim (same_or_not a c) [
    | inl m ↦ elim (same_or_not b c) [
      | inl o ↦ absurd (not_beside n.direction a b (m ∙ sym o) n.toward)
      | inr o ↦ let at_here = at a m in let kept = k.kept b o in let above = f.above b (omega arith) (subst (λ (t : Coord). AreBeside t b) m n) in (omega (arith, above.0), omega (arith, above.1))
    ]
    | inr m ↦ elim (same_or_not b c) [
      | inl o ↦ let kept = k.kept a m in let at_here = at b o in let below = f.below a (omega arith) (omega arith) (subst (λ (t : Coord). AreBeside a t) o n) in (omega (arith, below.0), omega (arith, below.1))
      | inr o ↦ let its_kept = k.kept a m in let kept = k.kept b o in let near = e.near a b (omega arith) (omega arith) n in (omega (arith, near.0), omega (arith, near.1))
    ]
  ];
}
  where
    at : (d : Coord) → d ≡ c → v d ≡ word
    at d m = ap v m ∙ k.here

    still : (q : Coord) → 8 ≤ w q → v q ≡ w q
    still q h = k.kept q (λ m. let same_w : w q ≡ w c = ap w m in omega arith)

    own : (d : Coord) → d ≡ c → 8 ≤ v d
        → ((v d ≡ 8) × (d.y ≡ 0)) ⊎ ((q : Coord) × Toward (v d % 8) d q × (8 ≤ v q) × (height v q + 1 ≡ height v d))
    own d m g = let at_here = at d m in elim (f.parent (omega arith)) [
      | inl p ↦ inl (at_here ∙ p.0, ap (λ (x : Coord). x.y) m ∙ p.1)
      | inr p ↦ let still_here = still p.0 p.2 in inr (p.0, subst (λ (x : Coord). Toward (v d % 8) x p.0) (sym m) (subst (λ (j : ℕ). Toward (j % 8) c p.0) (sym at_here) p.1), omega (arith, p.2), omega (arith, p.3))
    ]

-- ---- the voxel has no candidate

fits_alone : (r : ℕ) (w : Coord → ℕ) (c : Coord) (a : Around) → IsAround w c a 7 → a.height ≡ 0 → Fits r w c 1
fits_alone r w c a i z = record {
  some = omega arith;
  form = λ h. omega arith;
  floor = λ y. let height_is : a.height ≡ 1 = i.floor y in absurd (omega arith);
  parent = λ h. absurd (omega arith);
  above = λ b h n. let toward_range = toward_range_seven n.direction c b n.toward in let least = i.least n.direction b toward_range.1 n.toward h in absurd (omega (arith, least.0));
  below = λ b g h n. absurd (omega arith);
}

-- ---- the voxel has a candidate, by which no neighbor improves

fits_below : (r : ℕ) (w : Coord → ℕ) (c : Coord) (a : Around) → AreExact r w → r * r * r ≤ 64000000 → IsAround w c a 7
    → (a.height ≡ 0 → ⊥) → a.is_loose ≡ false → a.highest ≤ a.height + 1 → Fits r w c (8 * a.height + a.toward)
fits_below r w c a e few i z firm calm =
    let candidate : Candidate = record { at = c; height = a.height; toward = a.toward } in
    let sound : IsSound w candidate = elim i.sound [ inl n ↦ absurd (z n) | inr s ↦ s ] in
    let range = sound_range w candidate sound in
    let low = not_high r w c a e few i sound in
    record {
      some = omega (arith, range.0);
      form = λ h. omega (arith, range.0);
      floor = λ y. let height_is : a.height ≡ 1 = i.floor y in let on_floor_here = on_floor w candidate sound height_is in omega arith;
      parent = λ h. by_sound r w c a e i sound range.1;
      above = λ b h n. let toward_range = toward_range_seven n.direction c b n.toward in let least = i.least n.direction b toward_range.1 n.toward h in (omega (arith, range.0), omega (arith, range.1, least.1));
      below = λ b g h n. neighbour b g (beside_back b c n) range.1 low;
    }
  where
    on_floor : (w : Coord → ℕ) (x : Candidate) → IsSound w x → x.height ≡ 1 → x.toward ≡ 0
    on_floor w x (inl s) h = s.0
    on_floor w x (inr s) h = let q = s.2 in let k = s.3 in absurd (omega arith)

    not_high : (r : ℕ) (w : Coord → ℕ) (c : Coord) (a : Around) → AreExact r w → r * r * r ≤ 64000000 → IsAround w c a 7
        → IsSound w (record { at = c; height = a.height; toward = a.toward }) → a.height ≤ 64000001
    not_high r w c a e few i (inl s) = omega (arith, s.1)
    not_high r w c a e few i (inr s) =
        let toward_range = toward_range_seven a.toward c s.0 s.1 in
        let least = i.least a.toward s.0 toward_range.1 s.1 s.2 in
        let height_bound = exact_low r w s.0 e s.2 in
        omega (arith, least.1)

    by_sound : (r : ℕ) (w : Coord → ℕ) (c : Coord) (a : Around) → AreExact r w → IsAround w c a 7
        → IsSound w (record { at = c; height = a.height; toward = a.toward }) → a.toward ≤ 6
        → (((8 * a.height + a.toward) ≡ 8) × (c.y ≡ 0)) ⊎ ((q : Coord) × Toward ((8 * a.height + a.toward) % 8) c q
        × (8 ≤ w q) × (height w q + 1 ≡ (8 * a.height + a.toward) / 8))
    by_sound r w c a e i (inl s) t = inl (omega (arith, s.0, s.1), s.2)
    by_sound r w c a e i (inr s) t =
        let toward_is : a.toward ≡ (8 * a.height + a.toward) % 8 = omega arith in
        let toward_range = toward_range_seven a.toward c s.0 s.1 in
        let least = i.least a.toward s.0 toward_range.1 s.1 s.2 in
        inr (s.0, subst (λ (j : ℕ). Toward j c s.0) toward_is s.1, s.2, omega (arith, s.3, least.1))

    neighbour : (b : Coord) → 0 < w b → AreBeside c b → a.toward ≤ 6 → a.height ≤ 64000001
        → (8 ≤ w b) × (height w b ≤ (8 * a.height + a.toward) / 8 + 1)
    neighbour b g n t low =
        let toward_range = toward_range_seven n.direction c b n.toward in
        elim (cases_lt (w b) 8) [
          | inl m ↦ absurd (false≢true (sym firm ∙ i.loose n.direction b toward_range.1 n.toward g m))
          | inr m ↦ let at_most_highest : height w b ≤ a.highest = i.highest n.direction b toward_range.1 n.toward (omega arith) in (omega arith, omega arith)
        ]

-- ---- the voxel is a child of the voxel below

fits_over : (r : ℕ) (w : Coord → ℕ) (c : Coord) (b : Beside) → AreBesideWords w c b → MayBeSupported b
    → Fits r w c (8 * (b.under / 8) + 11)
fits_over r w c b k m =
    let down = k.under.some (let under = m.under in omega arith) in
    let same : w down.0 ≡ b.under = k.under.each down.0 down.1 in
    let digit : 3 ≡ (8 * (b.under / 8) + 11) % 8 = omega arith in
    record {
      some = omega arith;
      form = λ h. omega arith;
      floor = λ y. let down_is = toward_down c down.0 down.1 in absurd (omega arith);
      parent = λ h. inr (down.0, subst (λ (j : ℕ). Toward j c down.0) digit down.1, (let under = m.under in omega arith), omega arith);
      above = λ q h n. (omega arith, each_beside w c q b (λ v. 8 ≤ v → (8 * (b.under / 8) + 11) / 8 ≤ v / 8 + 1) k (above b.left m.left) (above b.right m.right) (λ u. omega arith) (above b.over m.over) (above b.near m.near) (above b.far m.far) n h);
      below = λ q f h n. each_beside w c q b (λ v. 0 < v → (8 ≤ v) × (v / 8 ≤ (8 * (b.under / 8) + 11) / 8 + 1)) k (below b.left m.left) (below b.right m.right) (λ u. (m.under, omega arith)) (below b.over m.over) (below b.near m.near) (below b.far m.far) (beside_back q c n) f;
    }
  where
    above : (v : ℕ) → LeavesRoom v (b.under / 8) → 8 ≤ v → (8 * (b.under / 8) + 11) / 8 ≤ v / 8 + 1
    above v (inl z) h = absurd (omega arith)
    above v (inr z) h = let l = z.0 in omega arith

    below : (v : ℕ) → LeavesRoom v (b.under / 8) → 0 < v → (8 ≤ v) × (v / 8 ≤ (8 * (b.under / 8) + 11) / 8 + 1)
    below v (inl z) h = absurd (omega arith)
    below v (inr z) h = let l = z.0 in let u = z.1 in let under = m.under in (omega arith, omega arith)

-- ---- the voxel is on the floor

-- a full neighbor of a voxel on the floor has height 1 too, or lies above it
floor_near : (r : ℕ) (w : Coord → ℕ) (c a : Coord) (d over : ℕ) → AreExact r w → c.y ≡ 0 → IsWordToward w c 4 over
    → MayLieUnder over → 0 < w a → Toward d c a → (8 ≤ w a) × (height w a ≤ 8 / 8 + 1)
floor_near r w c a d over e y k m f (lies_left h) = let w_is : w a ≡ 8 = e.floor a f (omega arith) in (omega arith, omega arith)
floor_near r w c a d over e y k m f (lies_right h) = let w_is : w a ≡ 8 = e.floor a f (omega arith) in (omega arith, omega arith)
floor_near r w c a d over e y k m f (lies_under h) = absurd (omega arith)
floor_near r w c a d over e y k m f (lies_over h) =
    let w_is : w a ≡ over = k.each a (lies_over (refl, omega arith, omega arith, omega arith)) in
    elim m [ inl z ↦ absurd (omega arith) | inr b ↦ (omega (arith, b.0), omega (arith, b.1)) ]
floor_near r w c a d over e y k m f (lies_near h) = let w_is : w a ≡ 8 = e.floor a f (omega arith) in (omega arith, omega arith)
floor_near r w c a d over e y k m f (lies_far h) = let w_is : w a ≡ 8 = e.floor a f (omega arith) in (omega arith, omega arith)

fits_on_floor : (r : ℕ) (w : Coord → ℕ) (c : Coord) (over : ℕ) → AreExact r w → c.y ≡ 0 → IsWordToward w c 4 over
    → MayLieUnder over → Fits r w c 8
fits_on_floor r w c over e y k m = record {
  some = omega arith;
  form = λ h. omega arith;
  floor = λ z. refl;
  parent = λ h. inl (refl, y);
  above = λ b h n. (omega arith, omega arith);
  below = λ a f h n. let back_beside = beside_back a c n in floor_near r w c a back_beside.direction over e y k m f back_beside.toward;
}

-- the word that is written is a small number
pub word_small : (r : ℕ) (w : Coord → ℕ) (c : Coord) (a : Around) → AreExact r w → r * r * r ≤ 64000000
    → IsAround w c a 7 → a.height ≤ 64000001
word_small r w c a e few i = elim i.sound [
  | inl z ↦ omega arith
  | inr s ↦ elim s [
    | inl f ↦ omega (arith, f.1)
    | inr f ↦
        let toward_range = toward_range_seven a.toward c f.0 f.1 in
        let least = i.least a.toward f.0 toward_range.1 f.1 f.2 in
        let height_bound = exact_low r w f.0 e f.2 in
        omega (arith, least.1)
  ]
]

pub toward_small : (w : Coord → ℕ) (c : Coord) (a : Around) → IsAround w c a 7 → (a.height ≡ 0 → ⊥) → a.toward ≤ 6
toward_small w c a i z = elim i.sound [ inl n ↦ absurd (z n) | inr s ↦ (sound_range w (record { at = c; height = a.height; toward = a.toward }) s).1 ]

-- ---- no neighbor is known yet

pub around_none : (w : Coord → ℕ) (c : Coord) (a : Around)
    → ((c.y ≡ 0) × (a.height ≡ 1)) ⊎ ((c.y ≡ 0 → ⊥) × (a.height ≡ 0)) → a.toward ≡ 0 → IsAround w c a 1
around_none w c a h t = record {
  floor = λ y. elim h [ inl k ↦ k.1 | inr k ↦ absurd (k.0 y) ];
  sound = elim h [ inl k ↦ inr (inl (t, k.1, k.0)) | inr k ↦ inl k.1 ];
  least = λ k q l u g. let toward_range = toward_range_seven k c q u in absurd (omega (arith, toward_range.0));
  highest = λ k q l u g. let toward_range = toward_range_seven k c q u in absurd (omega (arith, toward_range.0));
  loose = λ k q l u f g. let toward_range = toward_range_seven k c q u in absurd (omega (arith, toward_range.0));
}

-- whether a voxel is one of the floor
pub on_floor : (c : Coord) (b : Bool) → b ≡ (c.y == 0) → b ≡ true → c.y ≡ 0
on_floor c b e h = zero_by_test c.y (sym e ∙ h)

pub off_floor : (c : Coord) (b : Bool) → b ≡ (c.y == 0) → b ≡ false → 0 < c.y
off_floor c b e h = positive_by_test c.y (sym e ∙ h)

-- ---- the voxel is full

pub filled_with : (old new : Grid) (c : Coord) (word before mid after : ℕ) → AreExact old.resolution (word_at old)
    → IsInSpace old.resolution c → word_at old c ≡ 0 → Fits old.resolution (word_at old) c word
    → IsWritten (word_at old) (word_at new) c word → new.resolution ≡ old.resolution → mid ≤ before + 6
    → after ≡ mid + 1 → HaveFilledOne old new c before after
filled_with old new c word before mid after e s z f k r m t = record {
  resolution = r;
  exact = subst (λ (n : ℕ). AreExact n (word_at new)) (sym r) (exact_with old.resolution (word_at old) (word_at new) c word e s z f k);
  full = omega (arith, k.here, f.some);
  kept = k.kept;
  cost = omega arith;
}

pub filled_alone : (old new : Grid) (c : Coord) (a : Around) (before mid after : ℕ)
    → AreExact old.resolution (word_at old) → IsInSpace old.resolution c → word_at old c ≡ 0
    → IsAround (word_at old) c a 7 → a.height ≡ 0 → IsWritten (word_at old) (word_at new) c 1
    → new.resolution ≡ old.resolution → mid ≤ before + 6 → after ≡ mid + 1 → HaveFilledOne old new c before after
filled_alone old new c a before mid after e s z i h k r m t = filled_with old new c 1 before mid after e s z (fits_alone old.resolution (word_at old) c a i h) k r m t

pub filled_below : (old new : Grid) (c : Coord) (a : Around) (before mid after : ℕ)
    → AreExact old.resolution (word_at old) → old.resolution * old.resolution * old.resolution ≤ 64000000
    → IsInSpace old.resolution c → word_at old c ≡ 0 → IsAround (word_at old) c a 7 → (a.height ≡ 0 → ⊥)
    → a.is_loose ≡ false → a.highest ≤ a.height + 1 → IsWritten (word_at old) (word_at new) c (8 * a.height + a.toward)
    → new.resolution ≡ old.resolution → mid ≤ before + 6 → after ≡ mid + 1 → HaveFilledOne old new c before after
filled_below old new c a before mid after e few s z i h firm calm k r m t = filled_with old new c (8 * a.height + a.toward) before mid after e s z (fits_below old.resolution (word_at old) c a e few i h firm calm) k r m t

pub filled_over : (old new : Grid) (c : Coord) (b : Beside) (before mid after : ℕ)
    → AreExact old.resolution (word_at old) → IsInSpace old.resolution c → word_at old c ≡ 0
    → AreBesideWords (word_at old) c b → MayBeSupported b
    → IsWritten (word_at old) (word_at new) c (8 * (b.under / 8) + 11) → new.resolution ≡ old.resolution
    → mid ≤ before + 6 → after ≡ mid + 1 → HaveFilledOne old new c before after
filled_over old new c b before mid after e s z i m k r l t = filled_with old new c (8 * (b.under / 8) + 11) before mid after e s z (fits_over old.resolution (word_at old) c b i m) k r l t

-- a voxel that fits became full
pub filled_fit : (old new : Grid) (c : Coord) (word before mid after : ℕ) → AreExact old.resolution (word_at old)
    → IsInSpace old.resolution c → word_at old c ≡ 0 → Fits old.resolution (word_at old) c word
    → IsWritten (word_at old) (word_at new) c word → new.resolution ≡ old.resolution → mid ≤ before + 6
    → after ≡ mid + 1 → HaveFilledOne old new c before after
filled_fit old new c word before mid after e s z f k r l t = filled_with old new c word before mid after e s z f k r l t

pub filled_on_floor : (old new : Grid) (c : Coord) (over before mid after : ℕ) → AreExact old.resolution (word_at old)
    → IsInSpace old.resolution c → word_at old c ≡ 0 → c.y ≡ 0 → IsWordToward (word_at old) c 4 over → MayLieUnder over
    → IsWritten (word_at old) (word_at new) c 8 → new.resolution ≡ old.resolution → mid ≤ before + 1 → after ≡ mid + 1
    → HaveFilledOne old new c before after
filled_on_floor old new c over before mid after e s z y i m k r l t = filled_with old new c 8 before mid after e s z (fits_on_floor old.resolution (word_at old) c over e y i m) k r (omega arith) t

-- a voxel has a small height if one lies above it
pub under_small : (r : ℕ) (w : Coord → ℕ) (c : Coord) (under : ℕ) → AreExact r w → r * r * r ≤ 64000000
    → IsWordToward w c 3 under → 8 ≤ under → under / 8 ≤ 64000000
under_small r w c under e few k some =
    let down = k.some (omega arith) in
    let same : w down.0 ≡ under = k.each down.0 down.1 in
    let low = exact_low r w down.0 e (omega arith) in
    omega arith

-- ---- the only cell

pub only_one : (cells : List Coord) (c x : Coord) → length cells ≡ 1 → c ≡ slice_index_or cells 0 c → Contains cells x
    → c ≡ x
only_one cells c x l e h =
    let below_length : h.0 < length cells = h.1 in
    let h_is : h.0 ≡ 0 = omega arith in
    e ∙ (get_or_default cells 0 c x (omega arith) ∙ (ap (λ (n : ℕ). slice_index_or cells n x) (sym h_is) ∙ h.2))

pub filled_added : (old new : Grid) (cells : List Coord) (c : Coord) (before after : ℕ) → length cells ≡ 1
    → c ≡ slice_index_or cells 0 c → CanAdd old cells → HaveFilledOne old new c before after
    → HaveAdded old new cells 20 before after
filled_added old new cells c before after l e a p = record {
  resolution = p.resolution;
  exact = p.exact;
  full = λ x f. elim (same_or_not x c) [ inl m ↦ inr (0, omega arith, get_or_default cells 0 x c (omega arith) ∙ (sym e ∙ sym m)) | inr m ↦ let kept = p.kept x m in inl (omega arith) ];
  kept = λ x f. elim (same_or_not x c) [ inl m ↦ let same_word : word_at new x ≡ word_at new c = ap (word_at new) m in omega (arith, p.full) | inr m ↦ let kept = p.kept x m in omega arith ];
  added = λ x h. subst (λ (y : Coord). 0 < word_at new y) (only_one cells c x l e h) p.full;
  cost = omega (arith, p.cost);
}

pub when : (b : Bool) (P Q : Type 0) → b ≡ true → MatchBool b P Q → P
when true P Q e h = h
when false P Q e h = cc

pub unless : (b : Bool) (P Q : Type 0) → b ≡ false → MatchBool b P Q → Q
unless false P Q e h = h
unless true P Q e h = cc

-- Voxels that become full or void one after another while the levels of the others stay, and the deferred ones.
use Rattle.std.proofs.Common.{◌≡◌, ◌≢◌, ℕ, zero, suc, ◌+◌, ◌-◌, ◌*◌, ◌/◌, ◌%◌, ◌<◌, ◌≤◌, ◌⊎◌, inl, inr, sym, ◌∙◌, ap, subst, arith, List, [], ◌∷◌, ◌++◌, length, length-append}
use Rattle.std.specs.Prelude.{slice_index_or, count_by}
use Rattle.std.specs.List.{AllPairs, Contains}
use Rattle.std.proofs.lemmas.Bool.{cases_lt}
use Rattle.std.proofs.lemmas.List.{get_or_default, get_or_append_left}
use Rattle.std.proofs.Math.Seq.{get_or-append_seam}
use Rattle.std.proofs.lemmas.List.Elements.{Contains-append_left, Contains-push, Contains-push_cases}
use Rattle.vox_geom.specs.declared.coordinate.Coord.{Coord}
use Rattle.vox_geom.specs.Space.{IsInSpace, coordinates}
use Rattle.vox_geom.proofs.Points.{same_or_not}
use Rattle.support_forest.specs.Grid.{Grid, word_at}
use Rattle.support_forest.specs.Losing.{CanRemove, HaveRemoved}
use Rattle.support_forest.specs.FillingOne.{HaveFilledEach, HaveFilledOne}
use Rattle.support_forest.specs.Segments.{IsPast, IsVoidingEach}
use Rattle.support_forest.specs.VoidingOne.{HaveVoidedEach, HaveVoidedOne}
use Rattle.support_forest.specs.Waiting.{CanAdd, HaveAdded}
use Rattle.support_forest.specs.Words.{height, AreExact, has_changed, changed}
use Rattle.support_forest.proofs.Counts.{count_le, differ, do_differ}
use Rattle.support_forest.proofs.Marks.{IsMarked}

-- ---- lists

pub no_member : (xs : List Coord) (c : Coord) → xs ≡ [] → Contains xs c → ⊥
no_member xs c e h = let below_length : h.0 < length xs = h.1 in let length_is : length xs ≡ 0 = ap length e in omega arith

pub none_differ : (xs : List Coord) → xs ≡ [] → AllPairs ◌≢◌ xs
none_differ xs e i j d l k = let length_is : length xs ≡ 0 = ap length e in absurd (omega arith)

-- a voxel that differs from all that are listed may be listed too
pub differ_more : (xs : List Coord) (c : Coord) → AllPairs ◌≢◌ xs → ((d : Coord) → Contains xs d → d ≡ c → ⊥)
    → AllPairs ◌≢◌ (xs ++ c ∷ [])
differ_more xs c h n i j d l k e =
    let whole : length (xs ++ c ∷ []) ≡ length xs + 1 = length-append xs (c ∷ []) in
    let before : slice_index_or (xs ++ c ∷ []) i d ≡ slice_index_or xs i d = get_or_append_left xs (c ∷ []) d i (omega arith) in
    elim (cases_lt j (length xs)) [
      | inl m ↦ h i j d l m (sym before ∙ (e ∙ get_or_append_left xs (c ∷ []) d j m))
      | inr m ↦
          let last : slice_index_or (xs ++ c ∷ []) (length xs) d ≡ c = get_or-append_seam xs c [] d in
          let j_is : j ≡ length xs = omega arith in
          n (slice_index_or xs i d) (i, omega arith, get_or_default xs i (slice_index_or xs i d) d (omega arith)) (sym before ∙ (e ∙ (ap (λ (k : ℕ). slice_index_or (xs ++ c ∷ []) k d) j_is ∙ last)))
    ]

-- a voxel that has a level has one also if more voxels are full
still_level : (r s : ℕ) (w v : Coord → ℕ) → AreExact r w → AreExact s v → ((c : Coord) → 0 < w c → 0 < v c) → (n : ℕ)
    (c : Coord) → height w c ≤ n → 8 ≤ w c → 8 ≤ v c
still_level r s w v e f k zero c l h = absurd (omega arith)
still_level r s w v e f k (suc n) c l h = elim (e.parent c h) [
  | inl p ↦ let v_is : v c ≡ 8 = f.floor c (k c (omega arith)) p.1 in omega arith
  | inr p ↦
      let up : 8 ≤ v p.0 = still_level r s w v e f k n p.0 (omega (arith, p.3)) p.2 in
      (f.near c p.0 (k c (omega arith)) up (record { direction = w c % 8; toward = p.1 })).0
]

-- ---- voxels that become full

-- the first voxels are full or listed
pub record IsFillingEach (old now : Grid) (cells : List Coord) (i : ℕ) (rest : List Coord) (before steps : ℕ) : Type 0 where
  pub resolution : now.resolution ≡ old.resolution
  pub exact : AreExact now.resolution (word_at now)
  pub each : (c : Coord) → (word_at now c ≡ word_at old c) ⊎ ((0 < word_at now c) × IsMarked cells i c)
  pub done : (c : Coord) → IsMarked cells i c → (0 < word_at now c) ⊎ Contains rest c
  pub listed : (c : Coord) → Contains rest c → IsMarked cells i c × (word_at now c ≡ word_at old c)
  pub differ : AllPairs ◌≢◌ rest
  pub few : length rest ≤ i
  pub cost : steps + length rest ≤ before + 7 * i

later_mark : (cells : List Coord) (i : ℕ) (c : Coord) → IsMarked cells i c → IsMarked cells (i + 1) c
later_mark cells i c m = let below_i : m.0 < i = m.1 in (m.0, omega arith, m.2, m.3)

mark_cases : (cells : List Coord) (i : ℕ) (c x : Coord) → i < length cells → x ≡ slice_index_or cells i x
    → IsMarked cells (i + 1) c → IsMarked cells i c ⊎ (c ≡ x)
mark_cases cells i c x l e m = elim (cases_lt m.0 i) [
  | inl k ↦ inl (m.0, k, m.2, m.3)
  | inr k ↦ let below_i : m.0 < i + 1 = m.1 in let m_is : m.0 ≡ i = omega arith in inr (sym m.3 ∙ (ap (λ (h : ℕ). slice_index_or cells h c) m_is ∙ (get_or_default cells i c x l ∙ sym e)))
]

-- a later cell is none of the first
not_marked : (old : Grid) (cells : List Coord) (i : ℕ) (x : Coord) → CanAdd old cells → i < length cells
    → x ≡ slice_index_or cells i x → IsMarked cells i x → ⊥
not_marked old cells i x a l e m = a.differ m.0 i x m.1 l (m.3 ∙ e)

pub filling_space : (old now : Grid) (cells : List Coord) (i : ℕ) (rest : List Coord) (before steps : ℕ) (x : Coord)
    → CanAdd old cells → IsFillingEach old now cells i rest before steps → i < length cells
    → x ≡ slice_index_or cells i x → IsInSpace now.resolution x
filling_space old now cells i rest before steps x a p l e = subst (λ (r : ℕ). IsInSpace r x) (sym p.resolution) (a.space x (i, l, sym e))

pub filling_filled : (old now new : Grid) (cells : List Coord) (i : ℕ) (rest : List Coord) (before steps after : ℕ)
    (x : Coord) → CanAdd old cells → IsFillingEach old now cells i rest before steps → i < length cells
    → x ≡ slice_index_or cells i x → HaveFilledOne now new x steps after
    → IsFillingEach old new cells (i + 1) rest before after
filling_filled old now new cells i rest before steps after x a p l e h = record {
  resolution = h.resolution ∙ p.resolution;
  exact = h.exact;
  each = λ c. elim (same_or_not c x) [
    | inl f ↦ inr (subst (λ (d : Coord). 0 < word_at new d) (sym f) h.full, subst (λ (d : Coord). IsMarked cells (i + 1) d) (sym f) (i, omega arith, l, sym e))
    | inr n ↦ let kept = h.kept c n in elim (p.each c) [ inl g ↦ inl (kept ∙ g) | inr g ↦ let z = g.0 in inr (omega arith, later_mark cells i c g.1) ]
  ];
  done = λ c m. elim (same_or_not c x) [
    | inl f ↦ inl (subst (λ (d : Coord). 0 < word_at new d) (sym f) h.full)
    | inr n ↦ let kept = h.kept c n in elim (mark_cases cells i c x l e m) [ inl o ↦ elim (p.done c o) [ inl z ↦ inl (omega arith) | inr z ↦ inr z ] | inr o ↦ absurd (n o) ]
  ];
  listed = λ c g. let listed = p.listed c g in (later_mark cells i c listed.0, h.kept c (λ f. not_marked old cells i x a l e (subst (λ (d : Coord). IsMarked cells i d) f listed.0)) ∙ listed.1);
  differ = p.differ;
  few = omega (arith, p.few);
  cost = omega (arith, p.cost, h.cost);
}

pub filling_listed : (old now new : Grid) (cells : List Coord) (i : ℕ) (rest more : List Coord) (before steps after : ℕ)
    (x : Coord) → CanAdd old cells → IsFillingEach old now cells i rest before steps → i < length cells
    → x ≡ slice_index_or cells i x → new ≡ now → after ≤ steps + 6 → more ≡ rest ++ x ∷ []
    → IsFillingEach old new cells (i + 1) more before after
filling_listed old now new cells i rest more before steps after x a p l e s t m = subst (λ (v : Grid). IsFillingEach old v cells (i + 1) more before after) (sym s) (subst (λ (xs : List Coord). IsFillingEach old now cells (i + 1) xs before after) (sym m) (record {
  resolution = p.resolution;
  exact = p.exact;
  each = λ c. elim (p.each c) [ inl g ↦ inl g | inr g ↦ inr (g.0, later_mark cells i c g.1) ];
  done = λ c n. elim (mark_cases cells i c x l e n) [
    | inl o ↦ elim (p.done c o) [ inl z ↦ inl z | inr z ↦ inr (Contains-append_left rest (x ∷ []) c z) ]
    | inr o ↦ inr (subst (λ (d : Coord). Contains (rest ++ x ∷ []) d) (sym o) (Contains-push rest x))
  ];
  listed = λ c g. elim (Contains-push_cases rest x c g) [
    | inl o ↦ let listed = p.listed c o in (later_mark cells i c listed.0, listed.1)
    | inr o ↦ (subst (λ (d : Coord). IsMarked cells (i + 1) d) o (i, omega arith, l, sym e), elim (p.each c) [ inl f ↦ f | inr f ↦ absurd (not_marked old cells i x a l e (subst (λ (d : Coord). IsMarked cells i d) (sym o) f.1)) ])
  ];
  differ = differ_more rest x p.differ (λ d g f. not_marked old cells i x a l e (subst (λ (b : Coord). IsMarked cells i b) f (p.listed d g).0));
  few = let same_length : length (rest ++ x ∷ []) ≡ length rest + 1 = length-append rest (x ∷ []) in omega (arith, p.few);
  cost = let same_length : length (rest ++ x ∷ []) ≡ length rest + 1 = length-append rest (x ∷ []) in omega (arith, p.cost);
}))

pub are_filled : (old now : Grid) (cells : List Coord) (i : ℕ) (rest : List Coord) (before steps : ℕ) → CanAdd old cells
    → IsFillingEach old now cells i rest before steps → i ≡ length cells
    → HaveFilledEach old now cells rest before steps
are_filled old now cells i rest before steps a p e = record {
  resolution = p.resolution;
  left = record {
    differ = p.differ;
    exact = p.exact;
    space = λ c h. subst (λ (r : ℕ). IsInSpace r c) (sym p.resolution) (a.space c (in_cells c (p.listed c h).0));
    void = λ c h. let listed = p.listed c h in listed.1 ∙ a.void c (in_cells c listed.0);
  };
  listed = λ c h. in_cells c (p.listed c h).0;
  full = λ c h. elim (p.each c) [ inl f ↦ inl (omega arith) | inr f ↦ inr (in_cells c f.1) ];
  kept = λ c h. elim (p.each c) [ inl f ↦ f | inr f ↦ let void = a.void c (in_cells c f.1) in absurd (omega arith) ];
  filled = λ c h. p.done c (let below_length : h.0 < length cells = h.1 in (h.0, omega arith, below_length, h.2));
  few = omega (arith, p.few);
  cost = omega (arith, p.cost);
}
  where
    in_cells : (c : Coord) → IsMarked cells i c → Contains cells c
    in_cells c m = (m.0, m.2, m.3)

-- a level that changed since some were filled changed
changed_since_filled : (old now new : Grid) (cells rest : List Coord) (before steps : ℕ) → CanAdd old cells
    → HaveFilledEach old now cells rest before steps → AreExact new.resolution (word_at new)
    → ((c : Coord) → 0 < word_at now c → 0 < word_at new c)
    → changed now.resolution (word_at now) (word_at new) ≤ changed old.resolution (word_at old) (word_at new)
unfolding changed
changed_since_filled old now new cells rest before steps a p e k =
    subst (λ (r : ℕ). count_by (has_changed (word_at now) (word_at new)) (coordinates r) ≤ count_by (has_changed (word_at old) (word_at new)) (coordinates old.resolution)) (sym p.resolution)
    (count_le (has_changed (word_at now) (word_at new)) (has_changed (word_at old) (word_at new)) (λ c h. differ (word_at old c / 8) (word_at new c / 8) (λ f. do_differ (word_at now c / 8) (word_at new c / 8) h (by c f))) (coordinates old.resolution))
  where
    by : (c : Coord) → word_at old c / 8 ≡ word_at new c / 8 → word_at now c / 8 ≡ word_at new c / 8
    by c f = elim (cases_lt 0 (word_at old c)) [
      | inl g ↦ let kept = p.kept c g in omega arith
      | inr g ↦ elim (cases_lt (word_at now c) 8) [
        | inl low ↦ omega arith
        | inr high ↦ let word_from_8 : 8 ≤ word_at new c = still_level now.resolution new.resolution (word_at now) (word_at new) p.left.exact e k (height (word_at now) c) c (omega arith) (omega arith) in absurd (omega arith)
      ]
    ]

pub filled_and_added : (old now new : Grid) (cells rest : List Coord) (before steps after : ℕ) → CanAdd old cells
    → HaveFilledEach old now cells rest before steps → HaveAdded now new rest 14 steps after
    → HaveAdded old new cells 20 before after
filled_and_added old now new cells rest before steps after a p h = record {
  resolution = h.resolution ∙ p.resolution;
  exact = h.exact;
  full = λ c f. elim (h.full c f) [ inl g ↦ p.full c g | inr g ↦ inr (p.listed c g) ];
  kept = λ c f. let kept = p.kept c f in h.kept c (omega arith);
  added = λ c f. elim (p.filled c f) [ inl g ↦ h.kept c g | inr g ↦ h.added c g ];
  cost = omega (arith, h.cost, p.cost, p.few, changed_since_filled old now new cells rest before steps a p h.exact h.kept);
}

-- ---- voxels that become void

-- the state before the last voxel that is left
pub before_last : (old now : Grid) (gone : List Coord) (i : ℕ) (rest : List Coord) (before steps : ℕ) → 0 < i
    → IsVoidingEach old now gone i rest before steps → IsVoidingEach old now gone (i - 1 + 1) rest before steps
before_last old now gone i rest before steps s p = let i_is : i ≡ i - 1 + 1 = omega arith in subst (λ (k : ℕ). IsVoidingEach old now gone k rest before steps) i_is p

earlier_past : (gone : List Coord) (i : ℕ) (c : Coord) → IsPast gone (i + 1) c → IsPast gone i c
earlier_past gone i c m = let at_most_m : i + 1 ≤ m.0 = m.1 in (m.0, omega arith, m.2, m.3)

past_cases : (gone : List Coord) (i : ℕ) (c x : Coord) → i < length gone → x ≡ slice_index_or gone i x → IsPast gone i c
    → IsPast gone (i + 1) c ⊎ (c ≡ x)
past_cases gone i c x l e m = elim (cases_lt i m.0) [
  | inl k ↦ inl (m.0, omega arith, m.2, m.3)
  | inr k ↦ let at_most_m : i ≤ m.0 = m.1 in let m_is : m.0 ≡ i = omega arith in inr (sym m.3 ∙ (ap (λ (h : ℕ). slice_index_or gone h c) m_is ∙ (get_or_default gone i c x l ∙ sym e)))
]

not_past : (old : Grid) (gone : List Coord) (i : ℕ) (x : Coord) → CanRemove old gone → i < length gone
    → x ≡ slice_index_or gone i x → IsPast gone (i + 1) x → ⊥
not_past old gone i x a l e m = let at_most_m : i + 1 ≤ m.0 = m.1 in a.differ i m.0 x (omega arith) m.2 (sym e ∙ sym m.3)

pub voiding_voided : (old now new : Grid) (gone : List Coord) (i : ℕ) (rest : List Coord) (before steps after : ℕ)
    (x : Coord) → CanRemove old gone → IsVoidingEach old now gone (i + 1) rest before steps
    → x ≡ slice_index_or gone i x → HaveVoidedOne now new x steps after → IsVoidingEach old new gone i rest before after
voiding_voided old now new gone i rest before steps after x a p e h =
    let below_length : i < length gone = let its_within = p.within in omega arith in
    record {
      resolution = h.resolution ∙ p.resolution;
      exact = h.exact;
      each = λ c. elim (same_or_not c x) [
        | inl f ↦ inr (ap (word_at new) f ∙ h.gone, subst (λ (d : Coord). IsPast gone i d) (sym f) (i, omega arith, below_length, sym e))
        | inr n ↦ let kept = h.kept c n in elim (p.each c) [ inl g ↦ inl (kept ∙ g) | inr g ↦ inr (kept ∙ g.0, earlier_past gone i c g.1) ]
      ];
      done = λ c m. elim (same_or_not c x) [
        | inl f ↦ inl (ap (word_at new) f ∙ h.gone)
        | inr n ↦ elim (past_cases gone i c x below_length e m) [ inl o ↦ elim (p.done c o) [ inl z ↦ inl (h.kept c n ∙ z) | inr z ↦ inr z ] | inr o ↦ absurd (n o) ]
      ];
      listed = λ c g. let listed = p.listed c g in (earlier_past gone i c listed.0, h.kept c (λ f. not_past old gone i x a below_length e (subst (λ (d : Coord). IsPast gone (i + 1) d) f listed.0)) ∙ listed.1);
      differ = p.differ;
      within = omega arith;
      few = omega (arith, p.few);
      cost = omega (arith, p.cost, h.cost);
    }

pub voiding_listed : (old now new : Grid) (gone : List Coord) (i : ℕ) (rest more : List Coord) (before steps after : ℕ)
    (x : Coord) → CanRemove old gone → IsVoidingEach old now gone (i + 1) rest before steps
    → x ≡ slice_index_or gone i x → new ≡ now → after ≤ steps + 6 → more ≡ rest ++ x ∷ []
    → IsVoidingEach old new gone i more before after
voiding_listed old now new gone i rest more before steps after x a p e s t m =
    let below_length : i < length gone = let its_within = p.within in omega arith in
    subst (λ (v : Grid). IsVoidingEach old v gone i more before after) (sym s) (subst (λ (xs : List Coord). IsVoidingEach old now gone i xs before after) (sym m) (record {
      resolution = p.resolution;
      exact = p.exact;
      each = λ c. elim (p.each c) [ inl g ↦ inl g | inr g ↦ inr (g.0, earlier_past gone i c g.1) ];
      done = λ c n. elim (past_cases gone i c x below_length e n) [
        | inl o ↦ elim (p.done c o) [ inl z ↦ inl z | inr z ↦ inr (Contains-append_left rest (x ∷ []) c z) ]
        | inr o ↦ inr (subst (λ (d : Coord). Contains (rest ++ x ∷ []) d) (sym o) (Contains-push rest x))
      ];
      listed = λ c g. elim (Contains-push_cases rest x c g) [
        | inl o ↦ let listed = p.listed c o in (earlier_past gone i c listed.0, listed.1)
        | inr o ↦ (subst (λ (d : Coord). IsPast gone i d) o (i, omega arith, below_length, sym e), elim (p.each c) [ inl f ↦ f | inr f ↦ absurd (not_past old gone i x a below_length e (subst (λ (d : Coord). IsPast gone (i + 1) d) (sym o) f.1)) ])
      ];
      differ = differ_more rest x p.differ (λ d g f. not_past old gone i x a below_length e (subst (λ (b : Coord). IsPast gone (i + 1) b) f (p.listed d g).0));
      within = omega arith;
      few = let same_length : length (rest ++ x ∷ []) ≡ length rest + 1 = length-append rest (x ∷ []) in omega (arith, p.few);
      cost = let same_length : length (rest ++ x ∷ []) ≡ length rest + 1 = length-append rest (x ∷ []) in omega (arith, p.cost);
    }))

-- a level that changed since some voxels became void changed
pub changed_since : (old now new : Grid) → now.resolution ≡ old.resolution
    → ((c : Coord) → (word_at now c ≡ word_at old c) ⊎ (word_at now c ≡ 0))
    → ((c : Coord) → 0 < word_at new c → 0 < word_at now c)
    → changed now.resolution (word_at now) (word_at new) ≤ changed old.resolution (word_at old) (word_at new)
unfolding changed
changed_since old now new e each k =
    subst (λ (r : ℕ). count_by (has_changed (word_at now) (word_at new)) (coordinates r) ≤ count_by (has_changed (word_at old) (word_at new)) (coordinates old.resolution)) (sym e)
    (count_le (has_changed (word_at now) (word_at new)) (has_changed (word_at old) (word_at new)) (λ c h. differ (word_at old c / 8) (word_at new c / 8) (λ f. do_differ (word_at now c / 8) (word_at new c / 8) h (by c f))) (coordinates old.resolution))
  where
    by : (c : Coord) → word_at old c / 8 ≡ word_at new c / 8 → word_at now c / 8 ≡ word_at new c / 8
    by c f = elim (each c) [
      | inl s ↦ omega arith
      | inr s ↦ elim (cases_lt 0 (word_at new c)) [ inl g ↦ let z = k c g in absurd (omega arith) | inr g ↦ omega arith ]
    ]

pub voided_and_removed : (old now new : Grid) (gone rest : List Coord) (before steps after : ℕ)
    → HaveVoidedEach old now gone rest before steps → HaveRemoved now new rest 56 steps after
    → HaveRemoved old new gone 62 before after
voided_and_removed old now new gone rest before steps after p h = record {
  resolution = h.resolution ∙ p.resolution;
  exact = h.exact;
  full = λ c f. let full = h.full c f in elim (p.each c) [ inl s ↦ omega arith | inr s ↦ absurd (omega (arith, s.0)) ];
  voided = λ c f. elim (p.taken c f) [ inl z ↦ void c z | inr g ↦ h.voided c g ];
  kept = λ c f. elim (p.each c) [ inl s ↦ elim (h.kept c (omega arith)) [ inl g ↦ inl g | inr g ↦ inr (p.listed c g) ] | inr s ↦ inr s.1 ];
  cost = omega (arith, h.cost, p.cost, p.few, changed_since old now new p.resolution (λ c. elim (p.each c) [ inl f ↦ inl f | inr f ↦ inr f.0 ]) h.full);
}
  where
    void : (c : Coord) → word_at now c ≡ 0 → word_at new c ≡ 0
    void c z = elim (cases_lt 0 (word_at new c)) [ inl g ↦ let full = h.full c g in absurd (omega arith) | inr g ↦ omega arith ]

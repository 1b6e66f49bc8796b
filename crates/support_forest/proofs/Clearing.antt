-- The voxels of a segment become void together, or are deferred.
use Rattle.std.proofs.Common.{◌≡◌, ℕ, zero, suc, ◌+◌, ◌-◌, ◌*◌, ◌%◌, ◌<◌, ◌≤◌, ◌⊎◌, inl, inr, refl, sym, ◌∙◌, ap, subst, arith, List, [], ◌∷◌, ◌++◌}
use Rattle.std.specs.Prelude.{slice_index_or}
use Rattle.std.proofs.lemmas.Bool.{cases_lt, cases_eq}
use Rattle.vox_geom.specs.declared.coordinate.Coord.{Coord}
use Rattle.vox_geom.proofs.Points.{same_or_not}
use Rattle.support_forest.specs.Directions.{Toward, lies_left, lies_right, lies_under, lies_over, lies_near, lies_far}
use Rattle.support_forest.specs.Grid.{Grid, word_at}
use Rattle.support_forest.specs.Segments.{AreCleared, IsPast, IsSegment, IsVoidingEach, RowIsFree, VoidsMore, further}
use Rattle.support_forest.specs.VoidingOne.{HaveVoidedOne, IsNoParent}
use Rattle.support_forest.specs.Words.{AreExact, IsWritten}
use Rattle.support_forest.proofs.Each.{before_last, voiding_listed, voiding_voided}
use Rattle.support_forest.proofs.VoidingOne.{exact_without}

-- ---- voxels of a row become void

free_now : (old now : Grid) (c : Coord) (k n before steps : ℕ) → RowIsFree (word_at old) c n
    → AreCleared old now c (k + 1) n before steps → k < n → IsNoParent (word_at now) (further c k)
free_now old now c k n before steps f a l q h t = by t
  where
    by : Toward (word_at now q % 8) q (further c k) → ⊥
    by (lies_left d) =
        let same_word : word_at now q ≡ word_at old q = a.kept q (λ j b m s. let same_x : q.x ≡ c.x = ap (λ (p : Coord). p.x) s in absurd (omega arith)) in
        f.right k q l (lies_right (refl, omega arith, omega arith, omega arith)) (omega arith) (omega arith)
    by (lies_right d) =
        let same_word : word_at now q ≡ word_at old q = a.kept q (λ j b m s. let same_x : q.x ≡ c.x = ap (λ (p : Coord). p.x) s in absurd (omega arith)) in
        f.left k q l (lies_left (refl, omega arith, omega arith, omega arith)) (omega arith) (omega arith)
    by (lies_under d) =
        let same_word : word_at now q ≡ word_at old q = a.kept q (λ j b m s. let same_y : q.y ≡ c.y = ap (λ (p : Coord). p.y) s in absurd (omega arith)) in
        f.over k q l (lies_over (refl, omega arith, omega arith, omega arith)) (omega arith) (omega arith)
    by (lies_over d) =
        let same_word : word_at now q ≡ word_at old q = a.kept q (λ j b m s. let same_y : q.y ≡ c.y = ap (λ (p : Coord). p.y) s in absurd (omega arith)) in
        f.under k q l (lies_under (refl, omega arith, omega arith, omega arith)) (omega arith) (omega arith)
    by (lies_near d) = elim (cases_lt (k + 1) n) [
      | inl m ↦
          let z_is : q.z ≡ c.z + (k + 1) = omega arith in
          let same_x : q.x ≡ c.x = omega arith in
          let same_y : q.y ≡ c.y = omega arith in
          let q_is : q ≡ further c (k + 1) = λ j. record { x = same_x j; y = same_y j; z = z_is j } in
          let word_is : word_at now q ≡ 0 = ap (word_at now) q_is ∙ a.gone (k + 1) (omega arith) m in
          absurd (omega arith)
      | inr m ↦
          let same_word : word_at now q ≡ word_at old q = a.kept q (λ j b i s. let z_is : q.z ≡ c.z + j = ap (λ (p : Coord). p.z) s in absurd (omega arith)) in
          f.far q (omega arith) (omega arith) (omega arith) (omega arith) (omega arith)
    ]
    by (lies_far d) =
        let same_word_at : word_at now q ≡ word_at old q = a.kept q (λ j b i s. let z_is : q.z ≡ c.z + j = ap (λ (p : Coord). p.z) s in absurd (omega arith)) in
        elim (cases_lt 0 k) [
          | inl m ↦
              let z_is : q.z ≡ c.z + (k - 1) = omega arith in
              let same_x : q.x ≡ c.x = omega arith in
              let same_y : q.y ≡ c.y = omega arith in
              let q_is : q ≡ further c (k - 1) = λ j. record { x = same_x j; y = same_y j; z = z_is j } in
              let same_word : word_at old q ≡ word_at old (further c (k - 1)) = ap (word_at old) q_is in
              f.own (k - 1) (omega arith) (omega arith) (omega arith)
          | inr m ↦ f.near 0 q (omega arith) (lies_near (refl, omega arith, omega arith, omega arith)) (omega arith) (omega arith)
        ]

pub cleared_more : (old now new : Grid) (c : Coord) (k n before steps after : ℕ) → RowIsFree (word_at old) c n
    → AreCleared old now c (k + 1) n before steps → k < n → IsWritten (word_at now) (word_at new) (further c k) 0
    → new.resolution ≡ now.resolution → new.table ≡ now.table → after ≤ steps + 2
    → AreCleared old new c k n before after
cleared_more old now new c k n before steps after f a l w r t s = record {
  resolution = r ∙ a.resolution;
  table = t ∙ a.table;
  exact = subst (λ (i : ℕ). AreExact i (word_at new)) (sym r) (exact_without now.resolution (word_at now) (word_at new) (further c k) a.exact (free_now old now c k n before steps f a l) w);
  gone = λ j b m. elim (cases_eq j k) [
    | inl e ↦ ap (λ (i : ℕ). word_at new (further c i)) e ∙ w.here
    | inr e ↦ w.kept (further c j) (λ p. let sum_is : c.z + j ≡ c.z + k = ap (λ (q : Coord). q.z) p in e (omega arith)) ∙ a.gone j (grind arith) m
  ];
  kept = λ d h. w.kept d (h k (omega arith) l) ∙ a.kept d (λ j b m. h j (omega arith) m);
  within = omega arith;
  cost = let cost = a.cost in omega arith;
}

pub before_left : (old now : Grid) (c : Coord) (k n before steps : ℕ) → 0 < k → AreCleared old now c k n before steps
    → AreCleared old now c (k - 1 + 1) n before steps
before_left old now c k n before steps h a = let k_is : k ≡ k - 1 + 1 = omega arith in subst (λ (i : ℕ). AreCleared old now c i n before steps) k_is a

-- ---- voxels of the list that were voided or deferred

-- the voxel is one of the row, or none
pub in_row : (d c : Coord) (n : ℕ) → ((j : ℕ) × (j < n) × (d ≡ further c j)) ⊎ ((j : ℕ) → j < n → d ≡ further c j → ⊥)
in_row d c zero = inr (λ j l e. absurd (omega arith))
in_row d c (suc n) = elim (same_or_not d (further c n)) [
  | inl e ↦ inl (n, omega arith, e)
  | inr o ↦ elim (in_row d c n) [
    | inl h ↦ let below_n : h.0 < n = h.1 in inl (h.0, omega arith, h.2)
    | inr h ↦ inr (λ j l e. elim (cases_lt j n) [ inl m ↦ h j m e | inr m ↦ let j_is : j ≡ n = omega arith in o (e ∙ ap (further c) j_is) ])
  ]
]

pub one_voided : (now new : Grid) (gone : List Coord) (end count : ℕ) (rest : List Coord) (steps after : ℕ) (x : Coord)
    → count ≡ 1 → count ≤ end → x ≡ slice_index_or gone (end - count) x → HaveVoidedOne now new x steps after
    → VoidsMore now new gone end (end - count) rest rest steps after
one_voided now new gone end count rest steps after x c l e h old before a p =
    let end_is : end ≡ end - count + 1 = omega arith in
    voiding_voided old now new gone (end - count) rest before steps after x a (subst (λ (i : ℕ). IsVoidingEach old now gone i rest before steps) end_is p) e h

pub one_listed : (now new : Grid) (gone : List Coord) (end count : ℕ) (rest more : List Coord) (steps after : ℕ)
    (x : Coord) → count ≡ 1 → count ≤ end → x ≡ slice_index_or gone (end - count) x → new ≡ now → after ≤ steps + 6
    → more ≡ rest ++ x ∷ [] → VoidsMore now new gone end (end - count) rest more steps after
one_listed now new gone end count rest more steps after x c l e n s m old before a p =
    let end_is : end ≡ end - count + 1 = omega arith in
    voiding_listed old now new gone (end - count) rest more before steps after x a (subst (λ (i : ℕ). IsVoidingEach old now gone i rest before steps) end_is p) e n s m

pub list_more : (gone : List Coord) (end left : ℕ) (first rest more : List Coord) (next : Coord) → 0 < left → left ≤ end
    → ((now : Grid) (steps : ℕ) → VoidsMore now now gone end left first rest steps (steps + 6 * (end - left)))
    → next ≡ slice_index_or gone (left - 1) next → more ≡ rest ++ next ∷ [] → (now : Grid) (steps : ℕ)
    → VoidsMore now now gone end (left - 1) first more steps (steps + 6 * (end - (left - 1)))
list_more gone end left first rest more next s l h e m now steps old before a p =
    voiding_listed old now now gone (left - 1) rest more before (steps + 6 * (end - left)) (steps + 6 * (end - (left - 1))) next a
    (before_last old now gone left rest before (steps + 6 * (end - left)) s (h now steps old before a p)) e refl (omega arith) m

pub row_listed : (now : Grid) (gone : List Coord) (end count : ℕ) (rest more : List Coord) (steps after : ℕ) → 2 ≤ count
    → count ≤ end → after ≤ steps + 5 * count + 2
    → VoidsMore now now gone end (end - count) rest more steps (steps + 6 * (end - (end - count)))
    → VoidsMore now now gone end (end - count) rest more steps after
row_listed now gone end count rest more steps after b l s h old before a p =
    let t = h old before a p in
    record {
      resolution = t.resolution;
      exact = t.exact;
      each = t.each;
      done = t.done;
      listed = t.listed;
      differ = t.differ;
      within = t.within;
      few = t.few;
      cost = let cost = t.cost in omega arith;
    }

pub row_cleared : (now new : Grid) (gone : List Coord) (end count : ℕ) (rest : List Coord) (steps mid after : ℕ)
    (c : Coord) → 2 ≤ count → count ≤ end → IsSegment gone (end - count) count c → mid ≤ steps + 5 * count + 2
    → AreCleared now new c 0 count mid after → VoidsMore now new gone end (end - count) rest rest steps after
row_cleared now new gone end count rest steps mid after c b l s m h old before a p = record {
  resolution = h.resolution ∙ p.resolution;
  exact = h.exact;
  each = λ d. elim (in_row d c count) [
    | inl i ↦ inr (void d i.0 i.1 i.2, (end - count + i.0, omega arith, (let within = s.within in let below_count : i.0 < count = i.1 in omega arith), s.each i.0 d i.1 ∙ sym i.2))
    | inr n ↦ elim (p.each d) [ inl f ↦ inl (kept d n ∙ f) | inr f ↦ inr (kept d n ∙ f.0, earlier d f.1) ]
  ];
  done = λ d i. elim (in_row d c count) [
    | inl j ↦ inl (void d j.0 j.1 j.2)
    | inr n ↦ elim (p.done d (later d n i)) [ inl z ↦ inl (kept d n ∙ z) | inr z ↦ inr z ]
  ];
  listed = λ d i. let listed = p.listed d i in (earlier d listed.0, kept d (apart d listed.0) ∙ listed.1);
  differ = p.differ;
  within = let within = p.within in omega arith;
  few = let few = p.few in omega arith;
  cost = let its_cost = p.cost in let cost = h.cost in omega arith;
}
  where
    void : (d : Coord) (j : ℕ) → j < count → d ≡ further c j → word_at new d ≡ 0
    void d j k e = ap (word_at new) e ∙ h.gone j (omega arith) k

    kept : (d : Coord) → ((j : ℕ) → j < count → d ≡ further c j → ⊥) → word_at new d ≡ word_at now d
    kept d n = h.kept d (λ j o k. n j k)

    earlier : (d : Coord) → IsPast gone end d → IsPast gone (end - count) d
    earlier d i = let at_most_i : end ≤ i.0 = i.1 in (i.0, omega arith, i.2, i.3)

    apart : (d : Coord) → IsPast gone end d → (j : ℕ) → j < count → d ≡ further c j → ⊥
    apart d i j k e = let at_most_i : end ≤ i.0 = i.1 in a.differ (end - count + j) i.0 d (omega arith) i.2 (s.each j d k ∙ (sym e ∙ sym i.3))

    later : (d : Coord) → ((j : ℕ) → j < count → d ≡ further c j → ⊥) → IsPast gone (end - count) d → IsPast gone end d
    later d n i = let at_most_i : end - count ≤ i.0 = i.1 in elim (cases_lt i.0 end) [
      | inl o ↦
          let i_is : i.0 ≡ end - count + (i.0 - (end - count)) = omega arith in
          absurd (n (i.0 - (end - count)) (omega arith) (sym i.3 ∙ (ap (λ (x : ℕ). slice_index_or gone x d) i_is ∙ s.each (i.0 - (end - count)) d (omega arith))))
      | inr o ↦ (i.0, omega arith, i.2, i.3)
    ]

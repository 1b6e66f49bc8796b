-- A whole row of a brick that gets one word.
use Rattle.std.proofs.Common.{◌≡◌, ℕ, zero, suc, ◌+◌, ◌-◌, ◌%◌, ◌<◌, ◌≤◌, inl, inr, refl, sym, ◌∙◌, ap, subst, arith, false, get_or, Some}
use Rattle.std.specs.Prelude.{◌==◌}
use Rattle.std.proofs.lemmas.Bool.{cases_eq, cases_lt}
use Rattle.vox_geom.specs.declared.coordinate.Coord.{Coord}
use Rattle.vox_geom.specs.Space.{IsInSpace}
use Rattle.brick_arena.specs.Slots.{Slots, with_row, words_of}
use Rattle.support_forest.specs.Directions.{Toward, lies_left, lies_right, lies_under, lies_over, lies_near, lies_far}
use Rattle.support_forest.specs.Grid.{Grid, IsStore, count_words, floating_count, slot_of, word_at, word_index}
use Rattle.support_forest.specs.Segments.{AreCleared, AreWritten, LieInRow, RowIsFree, further}
use Rattle.support_forest.specs.Words.{AreExact, IsWritten, is_overhang}
use Rattle.support_forest.proofs.Clearing.{in_row}
use Rattle.support_forest.proofs.Segments.{row_index, row_slot, row_space}
use Rattle.support_forest.proofs.Writes.{keeps, sets, still_counted, without_overhang_not_one}

-- ---- the store

-- the store after k words of the row
abbrev pub rowed : Grid → ℕ → ℕ → ℕ → ℕ → Grid
rowed g slot index word k = record { resolution = g.resolution; table = g.table; bricks = with_row g.bricks slot index k word }

-- the facts of the row, the slot and the words
pub record CanRow (g : Grid) (c : Coord) (slot index word : ℕ) : Type 0 where
  pub store : IsStore g
  pub row : LieInRow g c 8
  pub own : slot_of g c ≡ Some slot
  pub at : index ≡ word_index c
  pub level : is_overhang word ≡ false
  pub levels : (k : ℕ) → k < 8 → is_overhang (word_at g (further c k)) ≡ false
  pub written : (k : ℕ) → k < 8
      → get_or (words_of (with_row g.bricks slot index (k + 1) word) slot) (index + k) 0 ≡ word

pub can_row : (g q : Grid) (c : Coord) (slot index word : ℕ) → g ≡ q → IsStore g → LieInRow q c 8
    → slot_of q c ≡ Some slot → index ≡ word_index c → is_overhang word ≡ false
    → ((k : ℕ) → k < 8 → is_overhang (word_at q (further c k)) ≡ false)
    → ((k : ℕ) → k < 8 → get_or (words_of (with_row g.bricks slot index (k + 1) word) slot) (index + k) 0 ≡ word)
    → CanRow g c slot index word
can_row g q c slot index word same h r o a l ls w = record {
  store = h;
  row = subst (λ (x : Grid). LieInRow x c 8) (sym same) r;
  own = subst (λ (x : Grid). slot_of x c ≡ Some slot) (sym same) o;
  at = a;
  level = l;
  levels = λ k m. ap (λ (x : Grid). is_overhang (word_at x (further c k))) same ∙ ls k m;
  written = w;
}

-- the facts after k words
record IsRowed (g : Grid) (c : Coord) (slot index word k : ℕ) : Type 0 where
  store : IsStore (rowed g slot index word k)
  floating : floating_count (rowed g slot index word k) ≡ floating_count g
  overhangs : count_words is_overhang (rowed g slot index word k) ≡ count_words is_overhang g
  later : (j : ℕ) → k ≤ j → word_at (rowed g slot index word k) (further c j) ≡ word_at g (further c j)

one_more : (g : Grid) (c : Coord) (slot index word k : ℕ) → CanRow g c slot index word
    → IsStore (rowed g slot index word k) → k < 8
    → IsWritten (word_at (rowed g slot index word k)) (word_at (rowed g slot index word (suc k))) (further c k) word
    × IsStore (rowed g slot index word (suc k))
unfolding with_row
one_more g c slot index word k h s l =
    let now = rowed g slot index word k in
    let in_space : IsInSpace g.resolution (further c k) = row_space g c 8 k h.row l in
    let some_is : Some slot ≡ slot_of now (further c k) = row_slot g c 8 k (Some slot) h.row l (sym h.own) in
    let index_is : index + k ≡ word_index (further c k) = sym (row_index c 8 k index h.row.row l h.at) in
    let sum_is : k + 1 ≡ suc k = omega arith in
    let element_is : get_or (words_of (with_row g.bricks slot index (suc k) word) slot) (index + k) 0 ≡ word = subst (λ (j : ℕ). get_or (words_of (with_row g.bricks slot index j word) slot) (index + k) 0 ≡ word) sum_is (h.written k l) in (
      sets now (further c k) slot (index + k) word (with_row g.bricks slot index (suc k) word) s in_space some_is index_is refl element_is,
      keeps now (further c k) slot (index + k) word (with_row g.bricks slot index (suc k) word) s in_space some_is index_is refl element_is,
    )

is_rowed : (g : Grid) (c : Coord) (slot index word k : ℕ) → CanRow g c slot index word → k ≤ 8
    → IsRowed g c slot index word k
unfolding with_row
is_rowed g c slot index word zero h l = record { store = h.store; floating = refl; overhangs = refl; later = λ j m. refl }
is_rowed g c slot index word (suc k) h l =
    let rowed_here = is_rowed g c slot index word k h (omega arith) in
    let k_below_8 : k < 8 = omega arith in
    let one_more_here = one_more g c slot index word k h rowed_here.store k_below_8 in
    let now : Grid = rowed g slot index word k in
    let next : Grid = rowed g slot index word (suc k) in
    let stood : is_overhang (word_at now (further c k)) ≡ false = ap is_overhang (rowed_here.later k (omega arith)) ∙ h.levels k k_below_8 in
    let within = row_space g c 8 k h.row k_below_8 in
    record {
      store = one_more_here.1;
      floating = still_counted (λ n. n == 1) now next (further c k) word refl within one_more_here.0 (without_overhang_not_one (word_at now (further c k)) stood) (without_overhang_not_one word h.level) ∙ rowed_here.floating;
      overhangs = still_counted is_overhang now next (further c k) word refl within one_more_here.0 stood h.level ∙ rowed_here.overhangs;
      later = λ j m. one_more_here.0.kept (further c j) (λ e. let sum_is : c.z + j ≡ c.z + k = ap (λ (x : Coord). x.z) e in omega arith) ∙ rowed_here.later j (omega arith);
    }

-- the store after a row was written
pub record WroteRow (g : Grid) (v : Slots) (c : Coord) (word : ℕ) : Type 0 where
  pub store : IsStore (record { resolution = g.resolution; table = g.table; bricks = v })
  pub floating : floating_count (record { resolution = g.resolution; table = g.table; bricks = v }) ≡ floating_count g
  pub overhangs :
      count_words is_overhang (record { resolution = g.resolution; table = g.table; bricks = v }) ≡ count_words is_overhang g
  pub written : AreWritten g (record { resolution = g.resolution; table = g.table; bricks = v }) c word

pub wrote_row : (g : Grid) (v : Slots) (c : Coord) (slot index word : ℕ) → CanRow g c slot index word
    → v ≡ with_row g.bricks slot index 8 word → WroteRow g v c word
unfolding with_row
wrote_row g v c slot index word h e =
    let rowed_here = is_rowed g c slot index word 8 h (omega arith) in
    subst (λ (u : Slots). WroteRow g u c word) (sym e) (record {
      store = rowed_here.store;
      floating = rowed_here.floating;
      overhangs = rowed_here.overhangs;
      written = record {
        after = λ k. rowed g slot index word k;
        first = refl;
        last = refl;
        resolution = λ k. refl;
        table = λ k. refl;
        each = λ k l.
            let successor_is : suc k ≡ k + 1 = omega arith in
            subst (λ (j : ℕ). IsWritten (word_at (rowed g slot index word k)) (word_at (rowed g slot index word j)) (further c k) word) successor_is
            (one_more g c slot index word k h (is_rowed g c slot index word k h (omega arith)).store l).0;
      };
    })

-- ---- reads of the row

-- the voxels of the row have the word, and no others changed
written_so_far : (old new : Grid) (c : Coord) (word k : ℕ) (w : AreWritten old new c word) → k ≤ 8
    → ((j : ℕ) → j < k → word_at (w.after k) (further c j) ≡ word)
    × ((d : Coord) → ((j : ℕ) → j < k → d ≡ further c j → ⊥) → word_at (w.after k) d ≡ word_at old d)
written_so_far old new c word zero w l = ((λ j m. absurd (omega arith)), (λ d h. ap (λ (g : Grid). word_at g d) w.first))
written_so_far old new c word (suc k) w l =
    let so_far = written_so_far old new c word k w (omega arith) in
    let same_k : k + 1 ≡ suc k = omega arith in
    let written : IsWritten (word_at (w.after k)) (word_at (w.after (suc k))) (further c k) word = subst (λ (j : ℕ). IsWritten (word_at (w.after k)) (word_at (w.after j)) (further c k) word) same_k (w.each k (omega arith)) in (
      (λ j m. elim (cases_eq j k) [
        | inl e ↦ ap (λ (i : ℕ). word_at (w.after (suc k)) (further c i)) e ∙ written.here
        | inr e ↦ written.kept (further c j) (λ q. let sum_is : c.z + j ≡ c.z + k = ap (λ (x : Coord). x.z) q in e (omega arith)) ∙ so_far.0 j (grind arith)
      ]),
      (λ d h. written.kept d (h k (omega arith)) ∙ so_far.1 d (λ j m. h j (omega arith))),
    )

pub row_word : (old new : Grid) (c : Coord) (word j : ℕ) → AreWritten old new c word → j < 8
    → word_at new (further c j) ≡ word
row_word old new c word j w l = ap (λ (g : Grid). word_at g (further c j)) (sym w.last) ∙ (written_so_far old new c word 8 w (omega arith)).0 j l

pub row_others : (old new : Grid) (c d : Coord) (word : ℕ) → AreWritten old new c word
    → ((j : ℕ) → j < 8 → d ≡ further c j → ⊥) → word_at new d ≡ word_at old d
row_others old new c d word w h = ap (λ (g : Grid). word_at g d) (sym w.last) ∙ (written_so_far old new c word 8 w (omega arith)).1 d h

-- ---- a row that becomes void

-- no voxel out of the row has its parent in it
no_parent : (w : Coord → ℕ) (c q : Coord) (n k : ℕ) → RowIsFree w c n → k < n → ((j : ℕ) → j < n → q ≡ further c j → ⊥)
    → 8 ≤ w q → Toward (w q % 8) q (further c k) → ⊥
no_parent w c q n k f l out h t = by t
  where
    by : Toward (w q % 8) q (further c k) → ⊥
    by (lies_left d) = f.right k q l (lies_right (refl, omega arith, omega arith, omega arith)) h (omega arith)
    by (lies_right d) = f.left k q l (lies_left (refl, omega arith, omega arith, omega arith)) h (omega arith)
    by (lies_under d) = f.over k q l (lies_over (refl, omega arith, omega arith, omega arith)) h (omega arith)
    by (lies_over d) = f.under k q l (lies_under (refl, omega arith, omega arith, omega arith)) h (omega arith)
    by (lies_near d) =
        let same_x : q.x ≡ c.x = omega arith in
        let same_y : q.y ≡ c.y = omega arith in
        elim (cases_lt (k + 1) n) [
          | inl m ↦ let z_is : q.z ≡ c.z + (k + 1) = omega arith in out (k + 1) m (λ j. record { x = same_x j; y = same_y j; z = z_is j })
          | inr m ↦ f.far q same_x same_y (omega arith) h (omega arith)
        ]
    by (lies_far d) =
        let same_x : q.x ≡ c.x = omega arith in
        let same_y : q.y ≡ c.y = omega arith in
        elim (cases_lt 0 k) [
          | inl m ↦ let z_is : q.z ≡ c.z + (k - 1) = omega arith in out (k - 1) (omega arith) (λ j. record { x = same_x j; y = same_y j; z = z_is j })
          | inr m ↦ f.near 0 q (omega arith) (lies_near (refl, omega arith, omega arith, omega arith)) h (omega arith)
        ]

exact_without_row : (r n : ℕ) (w v : Coord → ℕ) (c : Coord) → AreExact r w → RowIsFree w c n
    → ((j : ℕ) → j < n → v (further c j) ≡ 0) → ((d : Coord) → ((j : ℕ) → j < n → d ≡ further c j → ⊥) → v d ≡ w d)
    → AreExact r v
exact_without_row r n w v c e f gone kept = record {
  space = λ d h. let kept_there = kept d (out d h) in e.space d (omega arith);
  form = λ d l. elim (in_row d c n) [
    | inl i ↦ let v_is : v d ≡ 0 = ap v i.2 ∙ gone i.0 i.1 in omega arith
    | inr o ↦ let kept_there = kept d o in let w_to_1 : w d ≤ 1 = e.form d (omega arith) in omega arith
  ];
  floor = λ d h y. let kept_there = kept d (out d h) in kept_there ∙ e.floor d (omega arith) y;
  parent = λ d h.
      let out_here = out d (omega arith) in
      let kept_there = kept d out_here in
      elim (e.parent d (omega arith)) [
        | inl p ↦ inl (kept_there ∙ p.0, p.1)
        | inr p ↦
            let same : v p.0 ≡ w p.0 = kept p.0 (λ j l m. no_parent w c d n j f l out_here (omega arith) (subst (λ (x : Coord). Toward (w d % 8) d x) m p.1)) in
            inr (p.0, subst (λ (j : ℕ). Toward (j % 8) d p.0) (sym kept_there) p.1, omega (arith, p.2), omega (arith, p.3))
      ];
  near = λ a b h i j. let kept_there = kept a (out a h) in let kept_there_here = kept b (out b (omega arith)) in let near = e.near a b (omega arith) (omega arith) j in (omega (arith, near.0), omega (arith, near.1));
}
  where
    out : (d : Coord) → 0 < v d → (j : ℕ) → j < n → d ≡ further c j → ⊥
    out d h j l m = let v_is : v d ≡ 0 = ap v m ∙ gone j l in omega arith

pub row_voided : (old new : Grid) (c : Coord) (before after : ℕ) → AreExact old.resolution (word_at old)
    → RowIsFree (word_at old) c 8 → AreWritten old new c 0 → after ≡ before + 8 → AreCleared old new c 0 8 before after
row_voided old new c before after e f w a =
    let same_resolution : new.resolution ≡ old.resolution = ap (λ (g : Grid). g.resolution) (sym w.last) ∙ w.resolution 8 in
    record {
      resolution = same_resolution;
      table = ap (λ (g : Grid). g.table) (sym w.last) ∙ w.table 8;
      exact = subst (λ (s : ℕ). AreExact s (word_at new)) (sym same_resolution)
          (exact_without_row old.resolution 8 (word_at old) (word_at new) c e f (λ j l. row_word old new c 0 j w l) (λ d h. row_others old new c d 0 w h));
      gone = λ j b l. row_word old new c 0 j w l;
      kept = λ d h. row_others old new c d 0 w (λ j l. h j (omega arith) l);
      within = omega arith;
      cost = omega arith;
    }

-- A voxel that becomes void while the levels of the others stay as they are.
use Rattle.std.proofs.Common.{◌≡◌, ℕ, ◌+◌, ◌%◌, ◌<◌, ◌≤◌, inl, inr, refl, sym, ◌∙◌, ap, subst, arith, List, length}
use Rattle.std.specs.Prelude.{slice_index_or}
use Rattle.std.proofs.lemmas.List.{get_or_default}
use Rattle.vox_geom.specs.declared.coordinate.Coord.{Coord}
use Rattle.vox_geom.proofs.Points.{same_or_not}
use Rattle.support_forest.specs.declared.beside.Beside.{Beside}
use Rattle.support_forest.specs.Directions.{Toward, lies_left, lies_right, lies_under, lies_over, lies_near, lies_far}
use Rattle.support_forest.specs.Grid.{Grid, word_at}
use Rattle.support_forest.specs.Losing.{CanRemove, HaveRemoved}
use Rattle.support_forest.specs.FillingOne.{AreBesideWords, IsWordToward}
use Rattle.support_forest.specs.VoidingOne.{HangsNot, HaveVoidedOne, IsNoParent, HasNoChild}
use Rattle.support_forest.specs.Words.{AreExact, IsWritten}
use Rattle.support_forest.proofs.FillingOne.{only_one}

pub none_hangs : (w : Coord → ℕ) (c : Coord) (b : Beside) → AreBesideWords w c b → HasNoChild b → IsNoParent w c
none_hangs w c b k n q h t = by t
  where
    by : Toward (w q % 8) q c → ⊥
    by (lies_left d) = let w_is : w q ≡ b.right = k.right.each q (lies_right (refl, omega arith, omega arith, omega arith)) in n.right (omega arith) (omega arith)
    by (lies_right d) = let w_is : w q ≡ b.left = k.left.each q (lies_left (refl, omega arith, omega arith, omega arith)) in n.left (omega arith) (omega arith)
    by (lies_under d) = let w_is : w q ≡ b.over = k.over.each q (lies_over (refl, omega arith, omega arith, omega arith)) in n.over (omega arith) (omega arith)
    by (lies_over d) = let w_is : w q ≡ b.under = k.under.each q (lies_under (refl, omega arith, omega arith, omega arith)) in n.under (omega arith) (omega arith)
    by (lies_near d) = let w_is : w q ≡ b.far = k.far.each q (lies_far (refl, omega arith, omega arith, omega arith)) in n.far (omega arith) (omega arith)
    by (lies_far d) = let w_is : w q ≡ b.near = k.near.each q (lies_near (refl, omega arith, omega arith, omega arith)) in n.near (omega arith) (omega arith)

pub exact_without : (r : ℕ) (w v : Coord → ℕ) (c : Coord) → AreExact r w → IsNoParent w c → IsWritten w v c 0
    → AreExact r v
exact_without r w v c e n k = record {
  space = λ d f. let still_here = still d (omega arith) in e.space d (omega arith);
  form = λ d l. elim (same_or_not d c) [ inl m ↦ let v_is : v d ≡ 0 = ap v m ∙ k.here in omega arith | inr m ↦ let kept = k.kept d m in let w_to_1 : w d ≤ 1 = e.form d (omega arith) in omega arith ];
  floor = λ d f y. let still_here = still d f in still_here ∙ e.floor d (omega arith) y;
  parent = λ d h. let still_here = still d (omega arith) in elim (e.parent d (omega arith)) [
    | inl p ↦ inl (still_here ∙ p.0, p.1)
    | inr p ↦
        let v_is : v p.0 ≡ w p.0 = k.kept p.0 (λ m. n d (omega arith) (subst (λ (x : Coord). Toward (w d % 8) d x) m p.1)) in
        inr (p.0, subst (λ (j : ℕ). Toward (j % 8) d p.0) (sym still_here) p.1, omega (arith, p.2), omega (arith, p.3))
  ];
  near = λ a b f h i. let still_here = still a f in let still_here_too = still b (omega arith) in let near = e.near a b (omega arith) (omega arith) i in (omega (arith, near.0), omega (arith, near.1));
}
  where
    still : (d : Coord) → 0 < v d → v d ≡ w d
    still d f = k.kept d (λ m. let v_is : v d ≡ 0 = ap v m ∙ k.here in omega arith)

taken_by : (old new : Grid) (c : Coord) (before after : ℕ) → AreExact old.resolution (word_at old)
    → IsNoParent (word_at old) c → IsWritten (word_at old) (word_at new) c 0 → new.resolution ≡ old.resolution
    → after ≤ before + 8 → HaveVoidedOne old new c before after
taken_by old new c before after e n w r t = record {
  resolution = r;
  exact = subst (λ (s : ℕ). AreExact s (word_at new)) (sym r) (exact_without old.resolution (word_at old) (word_at new) c e n w);
  gone = w.here;
  kept = w.kept;
  cost = t;
}

pub taken : (old new : Grid) (c : Coord) (before mid next after : ℕ) → AreExact old.resolution (word_at old)
    → IsNoParent (word_at old) c → IsWritten (word_at old) (word_at new) c 0 → new.resolution ≡ old.resolution
    → mid ≤ before + 6 → next ≤ mid + 1 → after ≡ next + 1 → HaveVoidedOne old new c before after
taken old new c before mid next after e n w r l m t = taken_by old new c before after e n w r (omega arith)

-- ---- the voxel is on the floor

-- a full neighbor on the floor is no voxel's child
none_hangs_on_floor : (r : ℕ) (w : Coord → ℕ) (c : Coord) (over : ℕ) → AreExact r w → c.y ≡ 0 → IsWordToward w c 4 over
    → HangsNot over 3 → IsNoParent w c
none_hangs_on_floor r w c over e y k n q h t = by t
  where
    by : Toward (w q % 8) q c → ⊥
    by (lies_left d) = let w_is : w q ≡ 8 = e.floor q (omega arith) (omega arith) in omega arith
    by (lies_right d) = let w_is : w q ≡ 8 = e.floor q (omega arith) (omega arith) in omega arith
    by (lies_under d) = let w_is : w q ≡ over = k.each q (lies_over (refl, omega arith, omega arith, omega arith)) in n (omega arith) (omega arith)
    by (lies_over d) = omega arith
    by (lies_near d) = let w_is : w q ≡ 8 = e.floor q (omega arith) (omega arith) in omega arith
    by (lies_far d) = let w_is : w q ≡ 8 = e.floor q (omega arith) (omega arith) in omega arith

pub voided_from_floor : (old new : Grid) (c : Coord) (over before mid after : ℕ) → AreExact old.resolution (word_at old)
    → c.y ≡ 0 → IsWordToward (word_at old) c 4 over → HangsNot over 3 → IsWritten (word_at old) (word_at new) c 0
    → new.resolution ≡ old.resolution → mid ≤ before + 1 → after ≡ mid + 1 → HaveVoidedOne old new c before after
voided_from_floor old new c over before mid after e y k n w r l t = taken_by old new c before after e (none_hangs_on_floor old.resolution (word_at old) c over e y k n) w r (omega arith)

-- ---- the only one

pub voided_removed : (old new : Grid) (gone : List Coord) (c : Coord) (before after : ℕ) → length gone ≡ 1
    → c ≡ slice_index_or gone 0 c → CanRemove old gone → HaveVoidedOne old new c before after
    → HaveRemoved old new gone 62 before after
voided_removed old new gone c before after l e a p = record {
  resolution = p.resolution;
  exact = p.exact;
  full = λ x f. elim (same_or_not x c) [ inl m ↦ let same_word : word_at new x ≡ word_at new c = ap (word_at new) m in let gone = p.gone in absurd (omega arith) | inr m ↦ let kept = p.kept x m in omega arith ];
  voided = λ x h. subst (λ (y : Coord). word_at new y ≡ 0) (only_one gone c x l e h) p.gone;
  kept = λ x f. elim (same_or_not x c) [ inl m ↦ inr (0, omega arith, get_or_default gone 0 x c (omega arith) ∙ (sym e ∙ sym m)) | inr m ↦ let kept = p.kept x m in inl (omega arith) ];
  cost = omega (arith, p.cost);
}

-- Lists of one or two cells, by the words of their voxels.
use Rattle.std.proofs.Common.{◌≡◌, ℕ, zero, suc, inl, inr, subst, arith, [], ◌∷◌}
use Rattle.std.specs.Prelude.{◌⊎◌, ◌≢◌, IsTrue, IsFalse}
use Rattle.std.specs.List.{AllPairs, Contains}
use Rattle.vox_geom.specs.declared.coordinate.Coord.{Coord}
use Rattle.vox_geom.specs.Space.{IsInSpace}
use Rattle.nano_spec.specs.Matrix.{Matrix, is_full}
use Rattle.support_forest.specs.ForestView.{Says, MayAdd, MayRemove}

pub void_word : (m : Matrix) (c : Coord) (word : ℕ) → Says m c word → word ≡ 0 → IsFalse (is_full m c)
void_word m c word (inl s) e = s.1
void_word m c word (inr (inl s)) e = let f = s.0 in absurd (omega arith)
void_word m c word (inr (inr s)) e = let word_is = s.word_is in absurd (omega arith)

pub full_word : (m : Matrix) (c : Coord) (word : ℕ) → Says m c word → (word ≡ 0 → ⊥) → IsTrue (is_full m c)
full_word m c word (inl s) n = absurd (n s.0)
full_word m c word (inr (inl s)) n = s.1
full_word m c word (inr (inr s)) n = s.full

one : (c d : Coord) → Contains (c ∷ []) d → c ≡ d
one c d (zero, l, e) = e
one c d (suc k, l, e) = absurd (omega arith)

two : (a b d : Coord) → Contains (a ∷ b ∷ []) d → (a ≡ d) ⊎ (b ≡ d)
two a b d (zero, l, e) = inl e
two a b d (suc zero, l, e) = inr e
two a b d (suc (suc k), l, e) = absurd (omega arith)

one_apart : (c : Coord) → AllPairs ◌≢◌ (c ∷ [])
one_apart c i j d l k e = omega arith

two_apart : (a b : Coord) → (a ≡ b → ⊥) → AllPairs ◌≢◌ (a ∷ b ∷ [])
two_apart a b n zero (suc zero) d l k e = n e
two_apart a b n zero zero d l k e = omega arith
two_apart a b n (suc i) zero d l k e = omega arith
two_apart a b n (suc i) (suc zero) d l k e = omega arith
two_apart a b n i (suc (suc j)) d l k e = omega arith

pub may_add_one : (m : Matrix) (c : Coord) (word : ℕ) → IsInSpace m.resolution c → Says m c word → word ≡ 0
    → MayAdd m (c ∷ [])
may_add_one m c word i s e = record {
  differ = one_apart c;
  within = λ d h. subst (λ (x : Coord). IsInSpace m.resolution x) (one c d h) i;
  void = λ d h. subst (λ (x : Coord). IsFalse (is_full m x)) (one c d h) (void_word m c word s e);
}

pub may_remove_one : (m : Matrix) (c : Coord) (word : ℕ) → Says m c word → (word ≡ 0 → ⊥) → MayRemove m (c ∷ [])
may_remove_one m c word s n = record {
  differ = one_apart c;
  full = λ d h. subst (λ (x : Coord). IsTrue (is_full m x)) (one c d h) (full_word m c word s n);
}

pub may_add_two : (m : Matrix) (a b : Coord) (v w : ℕ) → (a ≡ b → ⊥) → IsInSpace m.resolution a
    → IsInSpace m.resolution b → Says m a v → Says m b w → v ≡ 0 → w ≡ 0 → MayAdd m (a ∷ b ∷ [])
may_add_two m a b v w n i j s t e f = record {
  differ = two_apart a b n;
  within = λ d h. elim (two a b d h) [ inl x ↦ subst (λ (y : Coord). IsInSpace m.resolution y) x i | inr x ↦ subst (λ (y : Coord). IsInSpace m.resolution y) x j ];
  void = λ d h. elim (two a b d h) [ inl x ↦ subst (λ (y : Coord). IsFalse (is_full m y)) x (void_word m a v s e) | inr x ↦ subst (λ (y : Coord). IsFalse (is_full m y)) x (void_word m b w t f) ];
}

pub may_remove_two : (m : Matrix) (a b : Coord) (v w : ℕ) → (a ≡ b → ⊥) → Says m a v → Says m b w → (v ≡ 0 → ⊥)
    → (w ≡ 0 → ⊥) → MayRemove m (a ∷ b ∷ [])
may_remove_two m a b v w n s t k l = record {
  differ = two_apart a b n;
  full = λ d h. elim (two a b d h) [ inl x ↦ subst (λ (y : Coord). IsTrue (is_full m y)) x (full_word m a v s k) | inr x ↦ subst (λ (y : Coord). IsTrue (is_full m y)) x (full_word m b w t l) ];
}

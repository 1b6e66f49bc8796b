-- The empty model is legal.
use Rattle.std.proofs.Common.{◌≡◌, ℕ, refl, sym, subst, Bool, true, false, ◌&&◌, not}
use Rattle.std.specs.Prelude.{None}
use Rattle.nano_spec.specs.Legal.{IsLegal, first_outside, in_legal_box, stands_inside}
use Rattle.nano_spec.specs.Matrix.{Matrix, all_of, empty, is_full}
use Rattle.nano_spec.proofs.EmptyModel.{empty_is_grounded, not_full}
use Rattle.nano_spec.proofs.ForgeLegal.{none_found}

none_outside : (r : ℕ) → first_outside (empty r) ≡ None
none_outside r = none_found (λ c. is_full (empty r) c && not (in_legal_box r c)) (all_of (empty r)) (λ c. by (is_full (empty r) c) (not (in_legal_box r c)) (not_full r c))
  where
    by : (a b : Bool) → (a ≡ true → ⊥) → (a && b) ≡ false
    by true b h = absurd (h refl)
    by false b h = refl

empty_is_legal : (r : ℕ) → IsLegal (empty r)
empty_is_legal r = stands_inside (none_outside r) (empty_is_grounded (empty r) r refl) refl

pub legal_where_empty : (m : Matrix) (r : ℕ) → m ≡ empty r → IsLegal m
legal_where_empty m r e = subst IsLegal (sym e) (empty_is_legal r)

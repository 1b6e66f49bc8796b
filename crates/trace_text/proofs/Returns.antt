-- A line without the carriage return at its end.
use Rattle.std.proofs.Common.{◌≡◌, ℕ, refl, sym, ◌∙◌, ap, false, cond, List, [], ◌∷◌, ◌++◌}
use Rattle.std.specs.Prelude.{◌==◌}
use Rattle.vox_geom.proofs.Sums.{append_none}
use Rattle.nano_spec.specs.Line.{without_return}

with_last : (front : List ℕ) (last : ℕ)
    → without_return (front ++ last ∷ []) ≡ front ++ cond (last == 13) [] (last ∷ [])
with_last [] last = refl
with_last (x ∷ []) last = refl
with_last (x ∷ y ∷ front) last = ap (λ ys. x ∷ ys) (with_last (y ∷ front) last)

pub cut_return : (line front : List ℕ) → line ≡ front ++ 13 ∷ [] → front ≡ without_return line
cut_return line front e = sym (ap without_return e ∙ (with_last front 13 ∙ append_none front))

pub no_return : (line front : List ℕ) (last : ℕ) → line ≡ front ++ last ∷ [] → (last == 13) ≡ false
    → line ≡ without_return line
no_return line front last e f = sym (ap without_return e ∙ (with_last front last ∙ (ap (λ t. front ++ cond t [] (last ∷ [])) f ∙ sym e)))

-- A difference, put together from its pieces.
use Rattle.std.proofs.Common.{◌≡◌, ℕ, refl, sym, ◌∙◌, ap, List, [], ◌∷◌, ◌++◌}
use Rattle.std.specs.Prelude.{OnOk, Result, Ok, Err}
use Rattle.std.proofs.lemmas.List.{append_assoc}
use Rattle.vox_geom.proofs.Sums.{append_none}
use Rattle.nano_spec.specs.declared.commands.Command.{Command}
use Rattle.nano_spec.specs.Printing.{print, printed}

pub difference_joined : (old a b c d e f g x y z : List ℕ) → a ≡ old ++ 32 ∷ 60 ∷ [] → b ≡ a ++ x → c ≡ b ++ 44 ∷ []
    → d ≡ c ++ y → e ≡ d ++ 44 ∷ [] → f ≡ e ++ z → g ≡ f ++ 62 ∷ []
    → g ≡ old ++ 32 ∷ 60 ∷ (((((x ++ (44 ∷ [])) ++ y) ++ (44 ∷ [])) ++ z) ++ (62 ∷ []))
difference_joined old a b c d e f g x y z ha hb hc hd he hf hg =
    let x_is : ((((((old ++ (32 ∷ 60 ∷ [])) ++ x) ++ (44 ∷ [])) ++ y) ++ (44 ∷ [])) ++ z) ++ (62 ∷ []) ≡ old ++ 32 ∷ 60 ∷ (((((x ++ (44 ∷ [])) ++ y) ++ (44 ∷ [])) ++ z) ++ (62 ∷ [])) = simp append_assoc in
    rw (hg, hf, he, hd, hc, hb, ha) x_is

print_joined : (xs ys : List Command) → print (xs ++ ys) ≡ print xs ++ print ys
print_joined [] ys = refl
print_joined (c ∷ xs) ys = ap (λ v. (printed c ++ 10 ∷ []) ++ v) (print_joined xs ys) ∙ sym (append_assoc (printed c ++ 10 ∷ []) (print xs) (print ys))

-- one more command is printed after those before it
pub printed_on : (before more : List Command) (c : Command) (old mid new : List ℕ) → more ≡ before ++ c ∷ []
    → old ≡ print before → mid ≡ old ++ printed c → new ≡ mid ++ 10 ∷ [] → new ≡ print more
printed_on before more c old mid new m o p n =
    let one : print (c ∷ []) ≡ printed c ++ 10 ∷ [] = append_none (printed c ++ 10 ∷ []) in
    let same_print : print more ≡ print before ++ (printed c ++ 10 ∷ []) = ap print m ∙ (print_joined before (c ∷ []) ∙ ap (λ v. print before ++ v) one) in
    n ∙ (ap (λ v. v ++ 10 ∷ []) (p ∙ ap (λ v. v ++ printed c) o) ∙ (append_assoc (print before) (printed c) (10 ∷ []) ∙ sym same_print))

pub on_ok : {A E P Q : Type 0} (r : Result A E) → (P → Q) → OnOk r P → OnOk r Q
on_ok (Ok a) f h = f h
on_ok (Err e) f h = h

use Rattle.std.proofs.Common.{◌≡◌, ◌∙◌, ℕ, List, [], ◌∷◌, codes, decimal, refl, Ok, Err}
use Rattle.std.specs.Prelude.{IfOk, Result}
use Rattle.std.specs.List.{concat}
use Rattle.nano_spec.specs.declared.outcomes.Broken.{Broken}
use Rattle.nano_spec.specs.Rule.{rule_number, name_of}
use Rattle.debug_script.specs.Broken.{broken_line, printed_place}
use Rattle.debug_script.proofs.broken.broken_line.Goals as goal

line_is : (b : Broken) (n : ℕ) (name at : List ℕ) → n ≡ rule_number b.rule → name ≡ name_of b.rule
    → at ≡ printed_place b.at → concat (codes "broken " ∷ decimal n ∷ codes " " ∷ name ∷ codes " step " ∷ decimal b.step
    ∷ codes " bid " ∷ decimal b.bid ∷ codes " at " ∷ at ∷ codes "\n" ∷ []) ≡ broken_line b
line_is b n name at e f g = rw (e, f, g) refl

if_ok : {A E : Type 0} {P Q : A → Type 0} (r : Result A E) → ((x : A) → P x → Q x) → IfOk r P → IfOk r Q
if_ok (Ok x) f h = f x h
if_ok (Err e) f h = tt

pub returns : goal.returns
returns c = if_ok c.rule_line.result (λ s h. h ∙ line_is c.args.broken.now _ _ _ c.number.ensures c.name.ensures (c.as_str.ensures.value ∙ c.in_ok-place.ensures)) c.rule_line.ensures

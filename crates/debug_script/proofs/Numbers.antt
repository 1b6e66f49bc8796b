-- A part that is a number in decimal digits.
use Rattle.std.proofs.Common.{◌≡◌, ◌∙◌, ℕ, List, subst, sym, ap, arith, Bool, true, false, not, decimal}
use Rattle.std.specs.Str.{IsUtf8, bytes_eq}
use Rattle.std.proofs.lemmas.Fmt.{IsAscii-decimal}
use Rattle.std.proofs.lemmas.Str.{IsUtf8-from_ascii}
use Rattle.std.proofs.lemmas.Slice.Eq.{bytes_eq-Decides}
use Rattle.debug_script.specs.Script.{HasFewDigits}

-- a number's digits are a text
pub digits_are_text : (n : ℕ) (bytes : List ℕ) → HasFewDigits n → bytes ≡ decimal n → IsUtf8 bytes
digits_are_text n bytes h e = subst IsUtf8 (sym e) (IsUtf8-from_ascii (decimal n) (IsAscii-decimal n (omega arith)))

refuted : (b : Bool) → b ≡ true → true ≡ not b → ⊥
refuted true e h = cc
refuted false e h = cc

-- the digits of a number equal its digits
pub same_digits : (n m : ℕ) (text bytes printed : List ℕ) → n ≡ m → bytes ≡ decimal n → text ≡ bytes
    → printed ≡ decimal m → true ≡ not (bytes_eq printed text) → ⊥
same_digits n m text bytes printed same e t p differ =
    let equal : printed ≡ text = p ∙ (ap decimal (sym same) ∙ (sym e ∙ sym t)) in
    refuted (bytes_eq printed text) ((bytes_eq-Decides printed text).1 equal) differ

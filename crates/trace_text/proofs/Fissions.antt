-- The meaning of a line with the word Fission.
use Rattle.std.proofs.Common.{◌≡◌, ℕ, ◌<◌, refl, sym, ◌∙◌, ap, arith, Bool, true, false, cond, ◌&&◌, List, [], ◌∷◌, map, ℤ, pos, negsuc, ◌<ℤ◌}
use Rattle.std.specs.Prelude.{Some, Err, int_le, nat_le, nat_lt, option_map, unsigned_abs}
use Rattle.std.proofs.lemmas.Bool.Decides.{nat_tests}
use Rattle.std.proofs.lemmas.Int.{ints}
use Rattle.vox_geom.specs.declared.difference.Diff.{Diff}
use Rattle.vox_geom.specs.Difference.{is_near}
use Rattle.vox_geom.proofs.Truths.{and_false}
use Rattle.nano_spec.specs.declared.commands.Command.TheVariants.{Fission}
use Rattle.nano_spec.specs.Line.{Line, Says, Faulty, Range, Shape, checked, said}
use Rattle.nano_spec.specs.LineForm.{Blanks, Number, natural, readings}
use Rattle.trace_text.specs.declared.fault.Fault.{Fault}
use Rattle.trace_text.specs.Forms.{IsNumber}
use Rattle.trace_text.specs.Text.{fault_of, fission_word}
use Rattle.trace_text.proofs.Differences.{TakesDifference}

pub no_shape : (rs : List (List ℤ)) → rs ≡ [] → Faulty Shape ≡ said fission_word rs
no_shape rs e = sym (ap (said fission_word) e)

pub no_number : (old b : List ℕ) (d : Diff) (f : Fault) → TakesDifference old (Some d) b
    → IsNumber (readings (Blanks ∷ Number ∷ Blanks ∷ []) b) (Err f)
    → Faulty (fault_of f) ≡ said fission_word (readings fission_word.form old)
no_number old b d f h k =
    ap (λ g. Faulty (fault_of g)) k.1 ∙ no_shape (readings fission_word.form old) (h (Blanks ∷ Number ∷ Blanks ∷ []) ∙ ap (map (λ ns. d.dx ∷ d.dy ∷ d.dz ∷ ns)) k.0)

-- the meaning of the difference and the number
abbrev verdict : Diff → ℤ → Line
verdict d n = checked (option_map (Fission d) (natural n))

said_is_verdict : (old b : List ℕ) (d : Diff) (n : ℤ) → TakesDifference old (Some d) b
    → readings (Blanks ∷ Number ∷ Blanks ∷ []) b ≡ (n ∷ []) ∷ []
    → said fission_word (readings fission_word.form old) ≡ verdict d n
said_is_verdict old b d n h k = ap (said fission_word) (h (Blanks ∷ Number ∷ Blanks ∷ []) ∙ ap (map (λ ns. d.dx ∷ d.dy ∷ d.dz ∷ ns)) k)

-- the meaning if the number is one, by two tests
abbrev by_tests : Diff → ℕ → Bool → Bool → Line
by_tests d m near fits = cond (near && fits) (Says (Fission d m)) (Faulty Range)

far_off : (d : Diff) (n : ℤ) → is_near d ≡ false → verdict d n ≡ Faulty Range
far_off d (pos m) e = ap (λ t. by_tests d m t (nat_lt m 256)) e
far_off d (negsuc m) e = refl

too_small : (d : Diff) (n : ℤ) → n <ℤ pos 0 → verdict d n ≡ Faulty Range
too_small d (pos m) l = absurd (omega (arith, ints, l))
too_small d (negsuc m) l = refl

too_great : (d : Diff) (n : ℤ) → pos 255 <ℤ n → verdict d n ≡ Faulty Range
too_great d (pos m) l =
    let above : 255 < m = omega (arith, ints, l) in
    let no : nat_lt m 256 ≡ false = grind (arith, nat_tests) in
    ap (λ t. by_tests d m (is_near d) t) no ∙ ap (λ t. cond t (Says (Fission d m)) (Faulty Range)) (and_false (is_near d))
too_great d (negsuc m) l = absurd (omega (arith, ints, l))

both_fit : (d : Diff) (n : ℤ) → is_near d ≡ true → int_le (pos 0) n ≡ true → int_le n (pos 255) ≡ true
    → verdict d n ≡ Says (Fission d (unsigned_abs n))
both_fit d (pos m) e f g =
    let fits : nat_lt m 256 ≡ true = byte m g in
    ap (λ t. by_tests d m t (nat_lt m 256)) e ∙ ap (λ t. by_tests d m true t) fits
  where
    byte : (m : ℕ) → nat_le m 255 ≡ true → nat_lt m 256 ≡ true
    byte m h = grind (arith, nat_tests)
both_fit d (negsuc m) e f g = cc

pub not_near : (old b : List ℕ) (d : Diff) (n : ℤ) → TakesDifference old (Some d) b
    → readings (Blanks ∷ Number ∷ Blanks ∷ []) b ≡ (n ∷ []) ∷ [] → is_near d ≡ false
    → Faulty Range ≡ said fission_word (readings fission_word.form old)
not_near old b d n h k e = sym (said_is_verdict old b d n h k ∙ far_off d n e)

pub below : (old b : List ℕ) (d : Diff) (n : ℤ) → TakesDifference old (Some d) b
    → readings (Blanks ∷ Number ∷ Blanks ∷ []) b ≡ (n ∷ []) ∷ [] → n <ℤ pos 0
    → Faulty Range ≡ said fission_word (readings fission_word.form old)
below old b d n h k l = sym (said_is_verdict old b d n h k ∙ too_small d n l)

pub above : (old b : List ℕ) (d : Diff) (n : ℤ) → TakesDifference old (Some d) b
    → readings (Blanks ∷ Number ∷ Blanks ∷ []) b ≡ (n ∷ []) ∷ [] → pos 255 <ℤ n
    → Faulty Range ≡ said fission_word (readings fission_word.form old)
above old b d n h k l = sym (said_is_verdict old b d n h k ∙ too_great d n l)

pub fits : (old b : List ℕ) (d near : Diff) (n z : ℤ) → TakesDifference old (Some d) b
    → readings (Blanks ∷ Number ∷ Blanks ∷ []) b ≡ (n ∷ []) ∷ [] → is_near d ≡ true → int_le (pos 0) n ≡ true
    → int_le n (pos 255) ≡ true → near ≡ d → z ≡ n
    → Says (Fission near (unsigned_abs z)) ≡ said fission_word (readings fission_word.form old)
fits old b d near n z h k e f g i j =
    ap (λ c. Says (Fission c (unsigned_abs z))) i ∙ (ap (λ y. Says (Fission d (unsigned_abs y))) j ∙ sym (said_is_verdict old b d n h k ∙ both_fit d n e f g))

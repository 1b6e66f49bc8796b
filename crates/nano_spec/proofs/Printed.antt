-- Printed commands are read back as the same commands.
use Rattle.std.proofs.Common.{◌≡◌, ℕ, suc, ◌+◌, ◌*◌, ◌-◌, ◌/◌, ◌%◌, ◌<◌, ◌≤◌, refl, sym, ◌∙◌, ap, subst, inl, inr, ◌⊎◌, arith, Bool, true, false, cond, ◌&&◌, ◌==◌, not, List, [], ◌∷◌, ◌++◌, map, take, ℤ, pos, negsuc}
use Rattle.std.specs.Prelude.{◌||◌, Contains, IsFalse, IsTrue, Ok, Some, codes, decimal, flat_map, nat_le, nat_lt, unsigned_abs}
use Rattle.std.specs.Fmt.{digits as fmt_digits, signed_decimal}
use Rattle.std.specs.List.{onto_first, before_first, list_all, position_or_len, slice_split}
use Rattle.std.specs.Str.{bytes_eq}
use Rattle.std.proofs.lemmas.Bool.Decides.{nat_tests}
use Rattle.std.proofs.lemmas.List.{append_assoc}
use Rattle.std.proofs.lemmas.List.Splits.{slice_split-cons_no}
use Rattle.vox_geom.specs.declared.difference.Diff.{Diff}
use Rattle.vox_geom.specs.Difference.{clen, mlen, is_linear, is_near, is_far, is_short, is_long}
use Rattle.vox_geom.specs.Space.{numbers_from}
use Rattle.vox_geom.proofs.Truths.{both_true, first_of_two, second_of_two}
use Rattle.vox_geom.proofs.Tests.{at_most_by_test}
use Rattle.vox_geom.proofs.Sums.{append_none}
use Rattle.nano_spec.specs.declared.commands.Command.{Command}
use Rattle.nano_spec.specs.declared.commands.Command.TheVariants.{Halt, Wait, Flip, SMove, LMove, FusionP, FusionS, Fission, Fill, Void, GFill, GVoid}
use Rattle.nano_spec.specs.Command.{IsCommand}
use Rattle.nano_spec.specs.Cutting.{AreCommands}
use Rattle.nano_spec.specs.First.{with_first}
use Rattle.nano_spec.specs.Printing.{print, printed, printed_difference, spaced}
use Rattle.nano_spec.specs.Line.{word_of, from_word, after_word, Says, line_content, has_high_byte, line_of, without_return}
use Rattle.nano_spec.specs.LineForm.{Blanks, Mark, Number, Part, Read, Word, after_blanks, difference_parts, digits, is_blank, is_digit, negative, numbers, readings}
use Rattle.nano_spec.specs.Reading.{read, read_lines, without_last_empty}
use Rattle.nano_spec.proofs.Lines.{is_says}
use Rattle.nano_spec.proofs.Decimals.{at_number, same_bytes}

-- ---- decimals

-- the digits of a number below 1000
abbrev text : ℕ → List ℕ
text n = cond (nat_lt n 10) ((48 + n) ∷ []) (cond (nat_lt n 100) ((48 + n / 10) ∷ (48 + n % 10) ∷ []) ((48 + n / 100) ∷ (48 + n / 10 % 10) ∷ (48 + n % 10) ∷ []))

all_texts : IsTrue (list_all (λ n. bytes_eq (decimal n) (text n)) (numbers_from 0 256))
unfolding fmt_digits
all_texts = refl

decimal_is : (n : ℕ) → n < 256 → decimal n ≡ text n
decimal_is n l = same_bytes (decimal n) (text n) (subst (λ (v : ℕ). IsTrue (bytes_eq (decimal v) (text v))) (omega arith) (at_number (λ v. bytes_eq (decimal v) (text v)) 256 0 n l all_texts))

-- ---- members

abbrev In : {A : Type 0} → A → List A → Type 0
In x [] = ⊥
In x (y ∷ ys) = (y ≡ x) ⊎ In x ys

in_left : {A : Type 0} (x : A) (xs ys : List A) → In x xs → In x (xs ++ ys)
in_left x [] ys h = absurd h
in_left x (z ∷ xs) ys (inl e) = inl e
in_left x (z ∷ xs) ys (inr h) = inr (in_left x xs ys h)

in_right : {A : Type 0} (x : A) (xs ys : List A) → In x ys → In x (xs ++ ys)
in_right x [] ys h = h
in_right x (z ∷ xs) ys h = inr (in_right x xs ys h)

in_map : {A B : Type 0} (f : A → B) (x : A) (xs : List A) → In x xs → In (f x) (map f xs)
in_map f x [] h = absurd h
in_map f x (z ∷ xs) (inl e) = inl (ap f e)
in_map f x (z ∷ xs) (inr h) = inr (in_map f x xs h)

in_flat : {A B : Type 0} (f : A → List B) (x : A) (y : B) (xs : List A) → In x xs → In y (f x) → In y (flat_map f xs)
in_flat f x y [] h k = absurd h
in_flat f x y (z ∷ xs) (inl e) k = in_left y (f z) (flat_map f xs) (subst (λ (w : _). In y (f w)) (sym e) k)
in_flat f x y (z ∷ xs) (inr h) k = in_right y (f z) (flat_map f xs) (in_flat f x y xs h k)

contained : {A : Type 0} (x : A) (xs : List A) → In x xs → Contains xs x
contained x [] h = absurd h
contained x (z ∷ xs) (inl e) = (0, omega arith, e)
contained x (z ∷ xs) (inr h) = let contains : Contains xs x = contained x xs h in (suc contains.0, omega (arith, contains.1), contains.2)

-- ---- numbers

digit_test : (d : ℕ) → d < 10 → is_digit (48 + d) ≡ true
digit_test d l = grind (arith, nat_tests)

-- one digit more
one_digit : (n so_far d : ℕ) (rest : List ℕ) (r : Read) → d < 10
    → In r (record { number = pos (10 * so_far + d); rest = rest } ∷ digits n (10 * so_far + d) rest)
    → In r (digits (suc n) so_far ((48 + d) ∷ rest))
one_digit n so_far d rest r l h =
    let value : 10 * so_far + d ≡ 10 * so_far + ((48 + d) - 48) = omega arith in
    let inside : In r (record { number = pos (10 * so_far + ((48 + d) - 48)); rest = rest } ∷ digits n (10 * so_far + ((48 + d) - 48)) rest) = subst (λ (v : ℕ). In r (record { number = pos v; rest = rest } ∷ digits n v rest)) value h in
    subst (λ (b : Bool). In r (cond b (record { number = pos (10 * so_far + ((48 + d) - 48)); rest = rest } ∷ digits n (10 * so_far + ((48 + d) - 48)) rest) [])) (sym (digit_test d l)) inside

-- a number that is read
abbrev found : ℕ → List ℕ → Read
found n rest = record { number = pos n; rest = rest }

same_read : (n m : ℕ) (rest : List ℕ) → n ≡ m → found n rest ≡ found m rest
same_read n m rest e = ap (λ v. found v rest) e

text_digits : (n : ℕ) (rest : List ℕ) → n < 256
    → In (record { number = pos n; rest = rest }) (digits 3 0 (text n ++ rest))
text_digits n rest l = by (nat_lt n 10) (nat_lt n 100) refl refl
  where
    by : (a b : Bool) → nat_lt n 10 ≡ a → nat_lt n 100 ≡ b → In (record { number = pos n; rest = rest }) (digits 3 0
        (cond a ((48 + n) ∷ [])
        (cond b ((48 + n / 10) ∷ (48 + n % 10) ∷ []) ((48 + n / 100) ∷ (48 + n / 10 % 10) ∷ (48 + n % 10) ∷ []))
        ++ rest))
    by true b e f =
        let few : n < 10 = grind (arith, nat_tests) in
        one_digit 2 0 n rest (record { number = pos n; rest = rest }) few (inl (same_read (10 * 0 + n) n rest (omega arith)))
    by false true e f =
        let some : n < 100 = grind (arith, nat_tests) in
        one_digit 2 0 (n / 10) ((48 + n % 10) ∷ rest) (record { number = pos n; rest = rest }) (omega arith)
        (inr (one_digit 1 (10 * 0 + n / 10) (n % 10) rest (record { number = pos n; rest = rest }) (omega arith)
        (inl (same_read (10 * (10 * 0 + n / 10) + n % 10) n rest (omega arith)))))
    by false false e f =
        one_digit 2 0 (n / 100) ((48 + n / 10 % 10) ∷ (48 + n % 10) ∷ rest) (record { number = pos n; rest = rest }) (omega arith)
        (inr (one_digit 1 (10 * 0 + n / 100) (n / 10 % 10) ((48 + n % 10) ∷ rest) (record { number = pos n; rest = rest }) (omega arith)
        (inr (one_digit 0 (10 * (10 * 0 + n / 100) + n / 10 % 10) (n % 10) rest (record { number = pos n; rest = rest }) (omega arith)
        (inl (same_read (10 * (10 * (10 * 0 + n / 100) + n / 10 % 10) + n % 10) n rest (omega arith)))))))

no_minus : (d : ℕ) → d < 10 → ((48 + d) == 45) ≡ false
no_minus d l = grind (arith, nat_tests)

-- a text of digits begins with no minus sign
text_numbers : (n : ℕ) (rest : List ℕ) → n < 256 → numbers (text n ++ rest) ≡ digits 3 0 (text n ++ rest)
text_numbers n rest l = by (nat_lt n 10) (nat_lt n 100) refl refl
  where
    by : (a b : Bool) → nat_lt n 10 ≡ a → nat_lt n 100 ≡ b → numbers (cond a ((48 + n) ∷ [])
        (cond b ((48 + n / 10) ∷ (48 + n % 10) ∷ []) ((48 + n / 100) ∷ (48 + n / 10 % 10) ∷ (48 + n % 10) ∷ []))
        ++ rest) ≡ digits 3 0 (cond a ((48 + n) ∷ [])
        (cond b ((48 + n / 10) ∷ (48 + n % 10) ∷ []) ((48 + n / 100) ∷ (48 + n / 10 % 10) ∷ (48 + n % 10) ∷ []))
        ++ rest)
    by true b e f =
        let few : n < 10 = grind (arith, nat_tests) in
        ap (λ t. cond t (map negative (digits 3 0 rest)) (digits 3 0 ((48 + n) ∷ rest))) (no_minus n few)
    by false true e f =
        let some : n < 100 = grind (arith, nat_tests) in
        ap (λ t. cond t (map negative (digits 3 0 ((48 + n % 10) ∷ rest))) (digits 3 0 ((48 + n / 10) ∷ (48 + n % 10) ∷ rest))) (no_minus (n / 10) (omega arith))
    by false false e f = ap (λ t. cond t (map negative (digits 3 0 ((48 + n / 10 % 10) ∷ (48 + n % 10) ∷ rest))) (digits 3 0 ((48 + n / 100) ∷ (48 + n / 10 % 10) ∷ (48 + n % 10) ∷ rest))) (no_minus (n / 100) (omega arith))

-- a printed number is read
number_read : (z : ℤ) (rest : List ℕ) → unsigned_abs z < 256
    → In (record { number = z; rest = rest }) (numbers (signed_decimal z ++ rest))
number_read (pos n) rest l = subst (λ (t : List ℕ). In (record { number = pos n; rest = rest }) (numbers (t ++ rest))) (sym (decimal_is n l)) (subst (In (record { number = pos n; rest = rest })) (sym (text_numbers n rest l)) (text_digits n rest l))
number_read (negsuc n) rest l = subst (λ (t : List ℕ). In (record { number = negsuc n; rest = rest }) (map negative (digits 3 0 (t ++ rest)))) (sym (decimal_is (suc n) l)) (in_map negative (record { number = pos (suc n); rest = rest }) (digits 3 0 (text (suc n) ++ rest)) (text_digits (suc n) rest l))

-- ---- forms

reads_here : (ps : List Part) (line : List ℕ) (ns : List ℤ) → In ns (readings ps line)
    → In ns (readings (Blanks ∷ ps) line)
reads_here ps [] ns h = in_left ns (readings ps []) [] h
reads_here ps (b ∷ more) ns h = in_left ns (readings ps (b ∷ more)) (flat_map (readings ps) (cond (is_blank b) (after_blanks more) [])) h

reads_space : (ps : List Part) (line : List ℕ) (ns : List ℤ) → In ns (readings (Blanks ∷ ps) line)
    → In ns (readings (Blanks ∷ ps) (32 ∷ line))
reads_space ps line ns h = in_right ns (readings ps (32 ∷ line)) (flat_map (readings ps) (after_blanks line)) h

reads_number : (ps : List Part) (z : ℤ) (rest : List ℕ) (ns : List ℤ) → unsigned_abs z < 256 → In ns (readings ps rest)
    → In (z ∷ ns) (readings (Number ∷ ps) (signed_decimal z ++ rest))
reads_number ps z rest ns l h = in_flat (λ r. map (λ vs. r.number ∷ vs) (readings ps r.rest)) (record { number = z; rest = rest }) (z ∷ ns) (numbers (signed_decimal z ++ rest)) (number_read z rest l) (in_map (λ vs. z ∷ vs) ns (readings ps rest) h)

-- the components of a difference are small
pub record IsSmall (d : Diff) : Type 0 where
  pub x : unsigned_abs d.dx < 256
  pub y : unsigned_abs d.dy < 256
  pub z : unsigned_abs d.dz < 256

-- a printed difference and the text after it
difference_text : (d : Diff) (rest : List ℕ) → printed_difference d ++ rest
    ≡ 60 ∷ (signed_decimal d.dx ++ (44 ∷ (signed_decimal d.dy ++ (44 ∷ (signed_decimal d.dz ++ (62 ∷ rest))))))
difference_text d rest = ap (λ v. 60 ∷ v) (shift (signed_decimal d.dx) (signed_decimal d.dy) (signed_decimal d.dz))
  where
    shift : (a b c : List ℕ)
        → (((((a ++ 44 ∷ []) ++ b) ++ 44 ∷ []) ++ c) ++ 62 ∷ []) ++ rest ≡ a ++ (44 ∷ (b ++ (44 ∷ (c ++ (62 ∷ rest)))))
    shift a b c =
        append_assoc ((((a ++ 44 ∷ []) ++ b) ++ 44 ∷ []) ++ c) (62 ∷ []) rest
        ∙ (append_assoc (((a ++ 44 ∷ []) ++ b) ++ 44 ∷ []) c (62 ∷ rest)
        ∙ (append_assoc ((a ++ 44 ∷ []) ++ b) (44 ∷ []) (c ++ (62 ∷ rest))
        ∙ (append_assoc (a ++ 44 ∷ []) b (44 ∷ (c ++ (62 ∷ rest)))
        ∙ append_assoc a (44 ∷ []) (b ++ (44 ∷ (c ++ (62 ∷ rest)))))))

reads_difference : (ps : List Part) (d : Diff) (rest : List ℕ) (ns : List ℤ) → IsSmall d → In ns (readings ps rest)
    → In (d.dx ∷ d.dy ∷ d.dz ∷ ns) (readings (difference_parts ++ ps) (spaced d ++ rest))
reads_difference ps d rest ns s h =
    let end : List ℕ = 62 ∷ rest in
    let last : In (d.dz ∷ ns) (readings (Blanks ∷ Number ∷ Blanks ∷ Mark 62 ∷ ps) (signed_decimal d.dz ++ (62 ∷ rest))) = reads_here (Number ∷ Blanks ∷ Mark 62 ∷ ps) (signed_decimal d.dz ++ (62 ∷ rest)) (d.dz ∷ ns) (reads_number (Blanks ∷ Mark 62 ∷ ps) d.dz (62 ∷ rest) ns s.z (reads_here (Mark 62 ∷ ps) (62 ∷ rest) ns h)) in
    let middle : In (d.dy ∷ d.dz ∷ ns) (readings (Blanks ∷ Number ∷ Blanks ∷ Mark 44 ∷ Blanks ∷ Number ∷ Blanks ∷ Mark 62 ∷ ps) (signed_decimal d.dy ++ (44 ∷ (signed_decimal d.dz ++ (62 ∷ rest))))) = reads_here (Number ∷ Blanks ∷ Mark 44 ∷ Blanks ∷ Number ∷ Blanks ∷ Mark 62 ∷ ps) (signed_decimal d.dy ++ (44 ∷ (signed_decimal d.dz ++ (62 ∷ rest)))) (d.dy ∷ d.dz ∷ ns) (reads_number (Blanks ∷ Mark 44 ∷ Blanks ∷ Number ∷ Blanks ∷ Mark 62 ∷ ps) d.dy (44 ∷ (signed_decimal d.dz ++ (62 ∷ rest))) (d.dz ∷ ns) s.y (reads_here (Mark 44 ∷ Blanks ∷ Number ∷ Blanks ∷ Mark 62 ∷ ps) (44 ∷ (signed_decimal d.dz ++ (62 ∷ rest))) (d.dz ∷ ns) last)) in
    let first : In (d.dx ∷ d.dy ∷ d.dz ∷ ns) (readings (Blanks ∷ Number ∷ Blanks ∷ Mark 44 ∷ Blanks ∷ Number ∷ Blanks ∷ Mark 44 ∷ Blanks ∷ Number ∷ Blanks ∷ Mark 62 ∷ ps) (signed_decimal d.dx ++ (44 ∷ (signed_decimal d.dy ++ (44 ∷ (signed_decimal d.dz ++ (62 ∷ rest))))))) = reads_here (Number ∷ Blanks ∷ Mark 44 ∷ Blanks ∷ Number ∷ Blanks ∷ Mark 44 ∷ Blanks ∷ Number ∷ Blanks ∷ Mark 62 ∷ ps) (signed_decimal d.dx ++ (44 ∷ (signed_decimal d.dy ++ (44 ∷ (signed_decimal d.dz ++ (62 ∷ rest)))))) (d.dx ∷ d.dy ∷ d.dz ∷ ns) (reads_number (Blanks ∷ Mark 44 ∷ Blanks ∷ Number ∷ Blanks ∷ Mark 44 ∷ Blanks ∷ Number ∷ Blanks ∷ Mark 62 ∷ ps) d.dx (44 ∷ (signed_decimal d.dy ++ (44 ∷ (signed_decimal d.dz ++ (62 ∷ rest))))) (d.dy ∷ d.dz ∷ ns) s.x (reads_here (Mark 44 ∷ Blanks ∷ Number ∷ Blanks ∷ Mark 44 ∷ Blanks ∷ Number ∷ Blanks ∷ Mark 62 ∷ ps) (44 ∷ (signed_decimal d.dy ++ (44 ∷ (signed_decimal d.dz ++ (62 ∷ rest))))) (d.dy ∷ d.dz ∷ ns) middle)) in
    let whole : In (d.dx ∷ d.dy ∷ d.dz ∷ ns) (readings (Mark 60 ∷ Blanks ∷ Number ∷ Blanks ∷ Mark 44 ∷ Blanks ∷ Number ∷ Blanks ∷ Mark 44 ∷ Blanks ∷ Number ∷ Blanks ∷ Mark 62 ∷ ps) (printed_difference d ++ rest)) = subst (λ (t : List ℕ). In (d.dx ∷ d.dy ∷ d.dz ∷ ns) (readings (Mark 60 ∷ Blanks ∷ Number ∷ Blanks ∷ Mark 44 ∷ Blanks ∷ Number ∷ Blanks ∷ Mark 44 ∷ Blanks ∷ Number ∷ Blanks ∷ Mark 62 ∷ ps) t)) (sym (difference_text d rest)) first in
    reads_space (Mark 60 ∷ Blanks ∷ Number ∷ Blanks ∷ Mark 44 ∷ Blanks ∷ Number ∷ Blanks ∷ Mark 44 ∷ Blanks ∷ Number ∷ Blanks ∷ Mark 62 ∷ ps) (printed_difference d ++ rest) (d.dx ∷ d.dy ∷ d.dz ∷ ns) (reads_here (Mark 60 ∷ Blanks ∷ Number ∷ Blanks ∷ Mark 44 ∷ Blanks ∷ Number ∷ Blanks ∷ Mark 44 ∷ Blanks ∷ Number ∷ Blanks ∷ Mark 62 ∷ ps) (printed_difference d ++ rest) (d.dx ∷ d.dy ∷ d.dz ∷ ns) whole)

-- ---- plain bytes: ASCII, and no end of a line, no carriage return and no #

abbrev is_plain : ℕ → Bool
is_plain b = nat_lt b 128 && not (b == 10) && not (b == 13) && not (b == 35)

abbrev Plain : List ℕ → Type 0
Plain xs = IsTrue (list_all is_plain xs)

plain_append : (xs ys : List ℕ) → Plain xs → Plain ys → Plain (xs ++ ys)
plain_append [] ys h k = k
plain_append (x ∷ xs) ys h k = both_true (is_plain x) (list_all is_plain (xs ++ ys)) (first_of_two (is_plain x) (list_all is_plain xs) h) (plain_append xs ys (second_of_two (is_plain x) (list_all is_plain xs) h) k)

plain_digit : (d : ℕ) → d < 10 → is_plain (48 + d) ≡ true
plain_digit d l = grind (arith, nat_tests)

plain_text : (n : ℕ) → n < 256 → Plain (text n)
plain_text n l = by (nat_lt n 10) (nat_lt n 100) refl refl
  where
    by : (a b : Bool) → nat_lt n 10 ≡ a → nat_lt n 100 ≡ b → Plain (cond a ((48 + n) ∷ [])
        (cond b ((48 + n / 10) ∷ (48 + n % 10) ∷ []) ((48 + n / 100) ∷ (48 + n / 10 % 10) ∷ (48 + n % 10) ∷ [])))
    by true b e f =
        let few : n < 10 = grind (arith, nat_tests) in
        both_true (is_plain (48 + n)) true (plain_digit n few) refl
    by false true e f =
        let some : n < 100 = grind (arith, nat_tests) in
        both_true (is_plain (48 + n / 10)) (is_plain (48 + n % 10) && true) (plain_digit (n / 10) (omega arith)) (both_true (is_plain (48 + n % 10)) true (plain_digit (n % 10) (omega arith)) refl)
    by false false e f =
        both_true (is_plain (48 + n / 100)) (is_plain (48 + n / 10 % 10) && (is_plain (48 + n % 10) && true)) (plain_digit (n / 100) (omega arith))
        (both_true (is_plain (48 + n / 10 % 10)) (is_plain (48 + n % 10) && true) (plain_digit (n / 10 % 10) (omega arith)) (both_true (is_plain (48 + n % 10)) true (plain_digit (n % 10) (omega arith)) refl))

plain_decimal : (n : ℕ) → n < 256 → Plain (decimal n)
plain_decimal n l = subst Plain (sym (decimal_is n l)) (plain_text n l)

plain_number : (z : ℤ) → unsigned_abs z < 256 → Plain (signed_decimal z)
plain_number (pos n) l = plain_decimal n l
plain_number (negsuc n) l = plain_decimal (suc n) l

plain_spaced : (d : Diff) → IsSmall d → Plain (spaced d)
plain_spaced d s =
    plain_append (((((60 ∷ signed_decimal d.dx) ++ 44 ∷ []) ++ signed_decimal d.dy) ++ 44 ∷ []) ++ signed_decimal d.dz) (62 ∷ [])
    (plain_append ((((60 ∷ signed_decimal d.dx) ++ 44 ∷ []) ++ signed_decimal d.dy) ++ 44 ∷ []) (signed_decimal d.dz)
    (plain_append (((60 ∷ signed_decimal d.dx) ++ 44 ∷ []) ++ signed_decimal d.dy) (44 ∷ [])
    (plain_append ((60 ∷ signed_decimal d.dx) ++ 44 ∷ []) (signed_decimal d.dy) (plain_append (60 ∷ signed_decimal d.dx) (44 ∷ []) (plain_number d.dx s.x) refl) (plain_number d.dy s.y))
    refl)
    (plain_number d.dz s.z))
    refl

-- ---- the result of a plain line

plain_ascii : (b : ℕ) → IsTrue (is_plain b) → nat_lt 127 b ≡ false
plain_ascii b h = grind (arith, nat_tests)

plain_low : (line : List ℕ) → Plain line → IsFalse (has_high_byte line)
plain_low [] h = refl
plain_low (b ∷ more) h = rw (plain_ascii b (first_of_two (is_plain b) (list_all is_plain more) h)) (plain_low more (second_of_two (is_plain b) (list_all is_plain more) h))

no_return : (b : ℕ) → IsTrue (is_plain b) → (b == 13) ≡ false
no_return b h = grind (arith, nat_tests)

no_hash : (b : ℕ) → IsTrue (is_plain b) → not (b == 35) ≡ true
no_hash b h = grind (arith, nat_tests)

no_feed : (b : ℕ) → IsTrue (is_plain b) → (b == 10) ≡ false
no_feed b h = grind (arith, nat_tests)

whole : (line : List ℕ) → Plain line → without_return line ≡ line
whole [] h = refl
whole (b ∷ []) h = rw (no_return b (first_of_two (is_plain b) true h)) refl
whole (b ∷ c ∷ more) h = ap (λ v. b ∷ v) (whole (c ∷ more) (second_of_two (is_plain b) (list_all is_plain (c ∷ more)) h))

no_comment : (line : List ℕ) → Plain line → before_first (λ b. b == 35) line ≡ line
no_comment [] h = refl
no_comment (b ∷ more) h =
    let later : before_first (λ c. c == 35) more ≡ more = no_comment more (second_of_two (is_plain b) (list_all is_plain more) h) in
    let count : cond (not (b == 35)) (1 + position_or_len (λ c. c == 35) more) 0 ≡ suc (position_or_len (λ c. c == 35) more) = rw (no_hash b (first_of_two (is_plain b) (list_all is_plain more) h)) (omega arith) in
    ap (λ n. take n (b ∷ more)) count ∙ ap (λ v. b ∷ v) later

content_is : (line : List ℕ) → Plain line → line_content line ≡ line
content_is line h = ap (before_first (λ b. b == 35)) (whole line h) ∙ no_comment line h

-- ---- small differences

sum_small : (n : ℕ) (d : Diff) → n < 256 → unsigned_abs d.dx + unsigned_abs d.dy + unsigned_abs d.dz ≤ n → IsSmall d
sum_small n d l h = record { x = omega arith; y = omega arith; z = omega arith }

one_or_two : (n : ℕ) → (n == 1 || n == 2) ≡ true → n ≤ 2
one_or_two n h = grind (arith, nat_tests)

near_small : (d : Diff) → IsTrue (is_near d) → IsSmall d
near_small d h = sum_small 2 d (omega arith) (one_or_two (mlen d) (first_of_two (mlen d == 1 || mlen d == 2) (clen d == 1) h))

long_small : (d : Diff) → IsTrue (is_long d) → IsSmall d
long_small d h = sum_small 15 d (omega arith) (at_most_by_test (mlen d) 15 (second_of_two (is_linear d) (nat_le (mlen d) 15) h))

short_small : (d : Diff) → IsTrue (is_short d) → IsSmall d
short_small d h = sum_small 5 d (omega arith) (at_most_by_test (mlen d) 5 (second_of_two (is_linear d) (nat_le (mlen d) 5) h))

far_small : (d : Diff) → IsTrue (is_far d) → IsSmall d
far_small d h = let most : clen d ≤ 30 = at_most_by_test (clen d) 30 (second_of_two (nat_le 1 (clen d)) (nat_le (clen d) 30) h) in record { x = omega arith; y = omega arith; z = omega arith }

-- ---- the line of a command

-- the rest of a line is of the form of the command
abbrev LineBy : List ℕ → Command → Type 0
LineBy line command =
    (word : Word) × (ns : List ℤ) × (word_of (from_word line) ≡ Some word) × Contains (readings word.form (after_word (from_word line))) ns × (word.command ns ≡ Some command) × IsCommand command

-- a plain line of the form of a command yields the command
says : (line : List ℕ) (c : Command) → Plain line → list_all is_blank line ≡ false → LineBy line c
    → line_of line ≡ Says c
says line c p b h = is_says line c (plain_low line p) (ap (list_all is_blank) (content_is line p) ∙ b) (subst (λ (v : List ℕ). LineBy v c) (sym (content_is line p)) h)

one_read : (d : Diff) → IsSmall d
    → Contains (readings (difference_parts ++ Blanks ∷ []) (spaced d)) (d.dx ∷ d.dy ∷ d.dz ∷ [])
one_read d s =
    let member : In (d.dx ∷ d.dy ∷ d.dz ∷ []) (readings (difference_parts ++ Blanks ∷ []) (spaced d ++ [])) = reads_difference (Blanks ∷ []) d [] [] s (inl refl) in
    contained (d.dx ∷ d.dy ∷ d.dz ∷ []) (readings (difference_parts ++ Blanks ∷ []) (spaced d)) (subst (λ (t : List ℕ). In (d.dx ∷ d.dy ∷ d.dz ∷ []) (readings (difference_parts ++ Blanks ∷ []) t)) (append_none (spaced d)) member)

two_read : (d e : Diff) → IsSmall d → IsSmall e
    → Contains (readings (difference_parts ++ difference_parts ++ Blanks ∷ []) (spaced d ++ spaced e))
    (d.dx ∷ d.dy ∷ d.dz ∷ e.dx ∷ e.dy ∷ e.dz ∷ [])
two_read d e s t =
    let is_in : In (e.dx ∷ e.dy ∷ e.dz ∷ []) (readings (difference_parts ++ Blanks ∷ []) (spaced e ++ [])) = reads_difference (Blanks ∷ []) e [] [] t (inl refl) in
    let member : In (e.dx ∷ e.dy ∷ e.dz ∷ []) (readings (difference_parts ++ Blanks ∷ []) (spaced e)) = subst (λ (u : List ℕ). In (e.dx ∷ e.dy ∷ e.dz ∷ []) (readings (difference_parts ++ Blanks ∷ []) u)) (append_none (spaced e)) is_in in
    contained (d.dx ∷ d.dy ∷ d.dz ∷ e.dx ∷ e.dy ∷ e.dz ∷ []) (readings (difference_parts ++ difference_parts ++ Blanks ∷ []) (spaced d ++ spaced e)) (reads_difference (difference_parts ++ Blanks ∷ []) d (spaced e) (e.dx ∷ e.dy ∷ e.dz ∷ []) s member)

number_too : (d : Diff) (m : ℕ) → IsSmall d → m < 256
    → Contains (readings (difference_parts ++ Blanks ∷ Number ∷ Blanks ∷ []) ((spaced d ++ 32 ∷ []) ++ decimal m))
    (d.dx ∷ d.dy ∷ d.dz ∷ pos m ∷ [])
number_too d m s l =
    let is_in : In (pos m ∷ []) (readings (Number ∷ Blanks ∷ []) (decimal m ++ [])) = reads_number (Blanks ∷ []) (pos m) [] [] l (inl refl) in
    let member : In (pos m ∷ []) (readings (Number ∷ Blanks ∷ []) (decimal m)) = subst (λ (u : List ℕ). In (pos m ∷ []) (readings (Number ∷ Blanks ∷ []) u)) (append_none (decimal m)) is_in in
    let spaced_too : In (pos m ∷ []) (readings (Blanks ∷ Number ∷ Blanks ∷ []) (32 ∷ decimal m)) = reads_space (Number ∷ Blanks ∷ []) (decimal m) (pos m ∷ []) (reads_here (Number ∷ Blanks ∷ []) (decimal m) (pos m ∷ []) member) in
    let all : In (d.dx ∷ d.dy ∷ d.dz ∷ pos m ∷ []) (readings (difference_parts ++ Blanks ∷ Number ∷ Blanks ∷ []) (spaced d ++ (32 ∷ decimal m))) = reads_difference (Blanks ∷ Number ∷ Blanks ∷ []) d (32 ∷ decimal m) (pos m ∷ []) s spaced_too in
    contained (d.dx ∷ d.dy ∷ d.dz ∷ pos m ∷ []) (readings (difference_parts ++ Blanks ∷ Number ∷ Blanks ∷ []) ((spaced d ++ 32 ∷ []) ++ decimal m))
    (subst (λ (u : List ℕ). In (d.dx ∷ d.dy ∷ d.dz ∷ pos m ∷ []) (readings (difference_parts ++ Blanks ∷ Number ∷ Blanks ∷ []) u)) (sym (append_assoc (spaced d) (32 ∷ []) (decimal m))) all)

below_256 : (m : ℕ) → nat_lt m 256 ≡ true → m < 256
below_256 m h = grind (arith, nat_tests)

says_printed : (c : Command) → IsCommand c → line_of (printed c) ≡ Says c
says_printed Halt h = refl
says_printed Wait h = refl
says_printed Flip h = refl
says_printed (SMove d) h =
    let small : IsSmall d = long_small d h in
    says (printed (SMove d)) (SMove d) (plain_append (codes "SMove") (spaced d) refl (plain_spaced d small)) refl (_, d.dx ∷ d.dy ∷ d.dz ∷ [], refl, one_read d small, refl, h)
says_printed (LMove d e) h =
    let is_small : IsSmall d = short_small d (first_of_two (is_short d) (is_short e) h) in
    let small : IsSmall e = short_small e (second_of_two (is_short d) (is_short e) h) in
    says (printed (LMove d e)) (LMove d e) (plain_append (codes "LMove" ++ spaced d) (spaced e) (plain_append (codes "LMove") (spaced d) refl (plain_spaced d is_small)) (plain_spaced e small)) refl (_, d.dx ∷ d.dy ∷ d.dz ∷ e.dx ∷ e.dy ∷ e.dz ∷ [], refl, two_read d e is_small small, refl, h)
says_printed (FusionP d) h =
    let small : IsSmall d = near_small d h in
    says (printed (FusionP d)) (FusionP d) (plain_append (codes "FusionP") (spaced d) refl (plain_spaced d small)) refl (_, d.dx ∷ d.dy ∷ d.dz ∷ [], refl, one_read d small, refl, h)
says_printed (FusionS d) h =
    let small : IsSmall d = near_small d h in
    says (printed (FusionS d)) (FusionS d) (plain_append (codes "FusionS") (spaced d) refl (plain_spaced d small)) refl (_, d.dx ∷ d.dy ∷ d.dz ∷ [], refl, one_read d small, refl, h)
says_printed (Fission d m) h =
    let near : IsTrue (is_near d) = first_of_two (is_near d) (nat_lt m 256) h in
    let small : IsSmall d = near_small d near in
    let m_below_256 : m < 256 = below_256 m (second_of_two (is_near d) (nat_lt m 256) h) in
    says (printed (Fission d m)) (Fission d m) (plain_append ((codes "Fission" ++ spaced d) ++ 32 ∷ []) (decimal m) (plain_append (codes "Fission" ++ spaced d) (32 ∷ []) (plain_append (codes "Fission") (spaced d) refl (plain_spaced d small)) refl) (plain_decimal m m_below_256)) refl (_, d.dx ∷ d.dy ∷ d.dz ∷ pos m ∷ [], refl, number_too d m small m_below_256, refl, h)
says_printed (Fill d) h =
    let small : IsSmall d = near_small d h in
    says (printed (Fill d)) (Fill d) (plain_append (codes "Fill") (spaced d) refl (plain_spaced d small)) refl (_, d.dx ∷ d.dy ∷ d.dz ∷ [], refl, one_read d small, refl, h)
says_printed (Void d) h =
    let small : IsSmall d = near_small d h in
    says (printed (Void d)) (Void d) (plain_append (codes "Void") (spaced d) refl (plain_spaced d small)) refl (_, d.dx ∷ d.dy ∷ d.dz ∷ [], refl, one_read d small, refl, h)
says_printed (GFill d f) h =
    let is_small : IsSmall d = near_small d (first_of_two (is_near d) (is_far f) h) in
    let small : IsSmall f = far_small f (second_of_two (is_near d) (is_far f) h) in
    says (printed (GFill d f)) (GFill d f) (plain_append (codes "GFill" ++ spaced d) (spaced f) (plain_append (codes "GFill") (spaced d) refl (plain_spaced d is_small)) (plain_spaced f small)) refl (_, d.dx ∷ d.dy ∷ d.dz ∷ f.dx ∷ f.dy ∷ f.dz ∷ [], refl, two_read d f is_small small, refl, h)
says_printed (GVoid d f) h =
    let is_small : IsSmall d = near_small d (first_of_two (is_near d) (is_far f) h) in
    let small : IsSmall f = far_small f (second_of_two (is_near d) (is_far f) h) in
    says (printed (GVoid d f)) (GVoid d f) (plain_append (codes "GVoid" ++ spaced d) (spaced f) (plain_append (codes "GVoid") (spaced d) refl (plain_spaced d is_small)) (plain_spaced f small)) refl (_, d.dx ∷ d.dy ∷ d.dz ∷ f.dx ∷ f.dy ∷ f.dz ∷ [], refl, two_read d f is_small small, refl, h)

plain_printed : (c : Command) → IsCommand c → Plain (printed c)
plain_printed Halt h = refl
plain_printed Wait h = refl
plain_printed Flip h = refl
plain_printed (SMove d) h = plain_append (codes "SMove") (spaced d) refl (plain_spaced d (long_small d h))
plain_printed (LMove d e) h = plain_append (codes "LMove" ++ spaced d) (spaced e) (plain_append (codes "LMove") (spaced d) refl (plain_spaced d (short_small d (first_of_two (is_short d) (is_short e) h)))) (plain_spaced e (short_small e (second_of_two (is_short d) (is_short e) h)))
plain_printed (FusionP d) h = plain_append (codes "FusionP") (spaced d) refl (plain_spaced d (near_small d h))
plain_printed (FusionS d) h = plain_append (codes "FusionS") (spaced d) refl (plain_spaced d (near_small d h))
plain_printed (Fission d m) h = plain_append ((codes "Fission" ++ spaced d) ++ 32 ∷ []) (decimal m) (plain_append (codes "Fission" ++ spaced d) (32 ∷ []) (plain_append (codes "Fission") (spaced d) refl (plain_spaced d (near_small d (first_of_two (is_near d) (nat_lt m 256) h)))) refl) (plain_decimal m (below_256 m (second_of_two (is_near d) (nat_lt m 256) h)))
plain_printed (Fill d) h = plain_append (codes "Fill") (spaced d) refl (plain_spaced d (near_small d h))
plain_printed (Void d) h = plain_append (codes "Void") (spaced d) refl (plain_spaced d (near_small d h))
plain_printed (GFill d f) h = plain_append (codes "GFill" ++ spaced d) (spaced f) (plain_append (codes "GFill") (spaced d) refl (plain_spaced d (near_small d (first_of_two (is_near d) (is_far f) h)))) (plain_spaced f (far_small f (second_of_two (is_near d) (is_far f) h)))
plain_printed (GVoid d f) h = plain_append (codes "GVoid" ++ spaced d) (spaced f) (plain_append (codes "GVoid") (spaced d) refl (plain_spaced d (near_small d (first_of_two (is_near d) (is_far f) h)))) (plain_spaced f (far_small f (second_of_two (is_near d) (is_far f) h)))

-- ---- lines

cut_after : (xs ys : List ℕ) → Plain xs
    → slice_split (λ b. b == 10) (xs ++ (10 ∷ ys)) ≡ xs ∷ slice_split (λ b. b == 10) ys
cut_after [] ys h = refl
cut_after (x ∷ xs) ys h = slice_split-cons_no (λ b. b == 10) x (xs ++ (10 ∷ ys)) (no_feed x (first_of_two (is_plain x) (list_all is_plain xs) h)) ∙ ap (onto_first x) (cut_after xs ys (second_of_two (is_plain x) (list_all is_plain xs) h))

cut_printed : (cs : List Command) → AreCommands cs → slice_split (λ b. b == 10) (print cs) ≡ map printed cs ++ [] ∷ []
cut_printed [] h = refl
cut_printed (c ∷ cs) h = ap (slice_split (λ b. b == 10)) (append_assoc (printed c) (10 ∷ []) (print cs)) ∙ (cut_after (printed c) (print cs) (plain_printed c h.0) ∙ ap (λ v. printed c ∷ v) (cut_printed cs h.1))

kept : (c : Command) (more : List (List ℕ))
    → without_last_empty (printed c ∷ more) ≡ printed c ∷ without_last_empty more
kept Halt more = refl
kept Wait more = refl
kept Flip more = refl
kept (SMove d) more = refl
kept (LMove d e) more = refl
kept (FusionP d) more = refl
kept (FusionS d) more = refl
kept (Fission d m) more = refl
kept (Fill d) more = refl
kept (Void d) more = refl
kept (GFill d f) more = refl
kept (GVoid d f) more = refl

all_kept : (cs : List Command) → without_last_empty (map printed cs ++ [] ∷ []) ≡ map printed cs
all_kept [] = refl
all_kept (c ∷ cs) = kept c (map printed cs ++ [] ∷ []) ∙ ap (λ v. printed c ∷ v) (all_kept cs)

all_say : (cs : List Command) → AreCommands cs → map line_of (map printed cs) ≡ map Says cs
all_say [] h = refl
all_say (c ∷ cs) h = λ i. says_printed c h.0 i ∷ all_say cs h.1 i

all_read : (n : ℕ) (cs : List Command) → read_lines n (map Says cs) ≡ Ok cs
all_read n [] = refl
all_read n (c ∷ cs) = ap (with_first c) (all_read (n + 1) cs)

-- printed text is read
pub printed_is_read : (cs : List Command) → AreCommands cs → read (print cs) ≡ Ok cs
printed_is_read cs h = ap (λ ls. read_lines 1 (map line_of ls)) (ap without_last_empty (cut_printed cs h) ∙ all_kept cs) ∙ (ap (read_lines 1) (all_say cs h) ∙ all_read 1 cs)

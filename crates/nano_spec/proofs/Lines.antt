-- A line yields the command whose form it has.
use Rattle.std.proofs.Common.{◌≡◌, ℕ, zero, suc, ◌<◌, refl, sym, ap, subst, arith, Bool, true, false, cond, List, [], ◌∷◌, get_or, ℤ}
use Rattle.std.specs.Prelude.{Option, Some, None, IsFalse, Contains}
use Rattle.nano_spec.specs.declared.commands.Command.{Command}
use Rattle.nano_spec.specs.Command.{is_command, IsCommand}
use Rattle.nano_spec.specs.First.{HasOneAtMost}
use Rattle.nano_spec.specs.Line.{Skipped, Says, Faulty, NotAscii, Range, IsLineOf, line_of, checked, said, said_by, word_of, from_word, line_content, after_word, has_high_byte, is_skipped}
use Rattle.nano_spec.specs.LineForm.{Word, readings}
use Rattle.nano_spec.proofs.Readings.{one_reading_of}

same_says : (a b : Command) → Says a ≡ Says b → a ≡ b
same_says a b e = cc

-- the command of a line, by its word and its readings
abbrev Reads : Option Word → List ℕ → Command → Type 0
Reads w rest c = (word : Word) × (ns : List ℤ) × (w ≡ Some word) × Contains (readings word.form rest) ns × (word.command ns ≡ Some c) × IsCommand c

checked_is : (o : Option Command) (c : Command) → checked o ≡ Says c → (o ≡ Some c) × IsCommand c
checked_is None c h = cc
checked_is (Some d) c h = by (is_command d) refl h
  where
    by : (t : Bool) → is_command d ≡ t → cond t (Says d) (Faulty Range) ≡ Says c → (Some d ≡ Some c) × IsCommand c
    by true e g = let same : d ≡ c = same_says d c g in (ap Some same, subst IsCommand same e)
    by false e g = cc

said_is : (w : Word) (rest : List ℕ) (rs : List (List ℤ)) (c : Command) → readings w.form rest ≡ rs → said w rs ≡ Says c
    → Reads (Some w) rest c
said_is w rest [] c e h = cc
said_is w rest (ns ∷ more) c e h =
    let found : Contains (ns ∷ more) ns = (0, omega arith, refl) in
    let is = checked_is (w.command ns) c h in
    (w, ns, refl, subst (λ (xs : List (List ℤ)). Contains xs ns) (sym e) found, is.0, is.1)

by_word : (w : Option Word) (rest : List ℕ) (c : Command) → said_by w rest ≡ Says c → Reads w rest c
by_word None rest c h = cc
by_word (Some w) rest c h = said_is w rest (readings w.form rest) c refl h

-- a line that yields a command is of its form
pub says_is : (line : List ℕ) (c : Command) → line_of line ≡ Says c → IsLineOf line c
says_is line c h = by (has_high_byte line) (is_skipped line) h
  where
    by : (a b : Bool) → cond a (Faulty NotAscii)
        (cond b Skipped (said_by (word_of (from_word (line_content line))) (after_word (from_word (line_content line)))))
        ≡ Says c → Reads (word_of (from_word (line_content line))) (after_word (from_word (line_content line))) c
    by true b g = cc
    by false true g = cc
    by false false g = by_word (word_of (from_word (line_content line))) (after_word (from_word (line_content line))) c g

only : (xs : List (List ℤ)) (ns : List ℤ) → HasOneAtMost xs → Contains xs ns → xs ≡ ns ∷ []
only [] ns h k = absurd (omega (arith, k.1))
only (x ∷ []) ns h k = by k.0 k.1 k.2
  where
    by : (i : ℕ) → i < 1 → get_or (x ∷ []) i ns ≡ ns → x ∷ [] ≡ ns ∷ []
    by zero l e = ap (λ y. y ∷ []) e
    by (suc i) l e = absurd (omega arith)
only (x ∷ y ∷ xs) ns h k = absurd h

-- an ASCII line of the form of a command, which is not skipped, yields the command
pub is_says : (line : List ℕ) (c : Command) → IsFalse (has_high_byte line) → IsFalse (is_skipped line) → IsLineOf line c
    → line_of line ≡ Says c
is_says line c a b (word, ns, w, k, r, e) =
    let rest = after_word (from_word (line_content line)) in
    let one : readings word.form rest ≡ ns ∷ [] = only (readings word.form rest) ns (one_reading_of word (from_word (line_content line)) rest w) k in
    rw (a, b, w, one, r, e) refl

-- The part of a text that was read, and the rest.
use Rattle.std.proofs.Common.{◌≡◌, ℕ, ◌+◌, ◌<◌, ◌≤◌, refl, sym, ◌∙◌, ap, arith, List, [], ◌∷◌, ◌++◌, map, length}
use Rattle.std.specs.Prelude.{Result, Ok, Err}
use Rattle.std.proofs.lemmas.List.{append_assoc}
use Rattle.nano_spec.specs.declared.commands.Command.{Command}
use Rattle.nano_spec.specs.First.{with_first}
use Rattle.nano_spec.specs.Line.{Fault, Line, Skipped, Says, Faulty, line_of}
use Rattle.nano_spec.specs.Reading.{FaultyLine, lines, read, read_lines}
use Rattle.trace_text.specs.declared.fault.TextFault.TheVariants.{Refused}
use Rattle.trace_text.specs.declared.fault.TextRefusal.{TextRefusal}
use Rattle.trace_text.specs.Text.{ReadsText, faulty_line}

-- commands before those that are read
abbrev pub onto : List Command → Result (List Command) FaultyLine → Result (List Command) FaultyLine
onto before (Ok commands) = Ok (before ++ commands)
onto before (Err e) = Err e

-- the commands so far and the meaning of the remaining lines make the answer to the text
pub record HasRead (text : List ℕ) (commands : List Command) (left : List ℕ) (number : ℕ) : Type 0 where
  pub is : read text ≡ onto commands (read_lines (number + 1) (map line_of (lines left)))
  pub within : number + length left ≤ length text

onto_nothing : (r : Result (List Command) FaultyLine) → r ≡ onto [] r
onto_nothing (Ok commands) = refl
onto_nothing (Err e) = refl

pub nothing_read : (text : List ℕ) → HasRead text [] text 0
nothing_read text = record { is = onto_nothing (read text); within = omega arith }

onto_more : (before : List Command) (c : Command) (r : Result (List Command) FaultyLine)
    → onto before (with_first c r) ≡ onto (before ++ c ∷ []) r
onto_more before c (Ok commands) = ap Ok (sym (append_assoc before (c ∷ []) commands))
onto_more before c (Err e) = refl

-- the answer to the text, if the next line has this meaning
next : (text : List ℕ) (commands : List Command) (left : List ℕ) (number : ℕ) (line more : List ℕ) (said : Line)
    → HasRead text commands left number → lines left ≡ line ∷ lines more → said ≡ line_of line
    → read text ≡ onto commands (read_lines (number + 1) (said ∷ map line_of (lines more)))
next text commands left number line more said h l s = h.is ∙ ap (λ ls. onto commands (read_lines (number + 1) ls)) (ap (map line_of) l ∙ ap (λ w. w ∷ map line_of (lines more)) (sym s))

pub skipped_on : (text : List ℕ) (commands : List Command) (left : List ℕ) (number : ℕ) (line more : List ℕ)
    → HasRead text commands left number → lines left ≡ line ∷ lines more → length more < length left
    → Skipped ≡ line_of line → HasRead text commands more (number + 1)
skipped_on text commands left number line more h l m s = let its_within = h.within in record { is = next text commands left number line more Skipped h l s; within = omega (arith, its_within) }

pub says_on : (text : List ℕ) (commands : List Command) (left : List ℕ) (number : ℕ) (line more : List ℕ) (c : Command)
    → HasRead text commands left number → lines left ≡ line ∷ lines more → length more < length left
    → Says c ≡ line_of line → HasRead text (commands ++ c ∷ []) more (number + 1)
says_on text commands left number line more c h l m s = let its_within = h.within in record { is = next text commands left number line more (Says c) h l s ∙ onto_more commands c (read_lines (number + 1 + 1) (map line_of (lines more))); within = omega (arith, its_within) }

pub faulty_here : (text : List ℕ) (commands : List Command) (left : List ℕ) (number : ℕ) (line more : List ℕ)
    (fault : Fault) (refusal : TextRefusal) → HasRead text commands left number → lines left ≡ line ∷ lines more
    → Faulty fault ≡ line_of line → faulty_line refusal ≡ record { fault = fault; line = number + 1 }
    → ReadsText text (Err (Refused refusal))
faulty_here text commands left number line more fault refusal h l s told = next text commands left number line more (Faulty fault) h l s ∙ ap Err (sym told)

nothing_more : (xs : List Command) → xs ++ [] ≡ xs
nothing_more [] = refl
nothing_more (x ∷ xs) = ap (λ v. x ∷ v) (nothing_more xs)

pub all_read : (text : List ℕ) (commands : List Command) (left : List ℕ) (number : ℕ)
    → HasRead text commands left number → length left ≡ 0 → read text ≡ Ok commands
all_read text commands [] number h e = h.is ∙ ap Ok (nothing_more commands)
all_read text commands (b ∷ left) number h e = absurd (omega arith)

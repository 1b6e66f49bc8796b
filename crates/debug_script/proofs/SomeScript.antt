-- Each script has a meaning: its parts are those of a line or of none, which the word decides.
use Rattle.std.proofs.Common.{◌≡◌, ◌⊎◌, ◌∙◌, ℕ, zero, suc, ◌+◌, ◌<◌, inl, inr, Bool, true, false, List, [], ◌∷◌, Some, None, Option, codes, decimal, find, refl, arith, sym, ap, subst}
use Rattle.std.specs.Prelude.{MatchBool, Result, Ok, Err}
use Rattle.std.specs.Str.{bytes_eq}
use Rattle.std.proofs.lemmas.Bool.{cases_lt}
use Rattle.std.proofs.lemmas.Slice.Eq.{bytes_eq-Decides}
use Rattle.nano_spec.specs.First.{with_first}
use Rattle.nano_spec.specs.Line.{Fault, NotAscii, UnknownWord, Shape, Range, has_high_byte}
use Rattle.nano_spec.specs.Reading.{FaultyLine, lines}
use Rattle.step_debugger.specs.Session.{Back, Bots, DebugLine, Group, Step, Voxel}
use Rattle.debug_script.specs.declared.word.ScriptWord.{ScriptWord}
use Rattle.debug_script.specs.declared.word.ScriptWord.TheVariants as word
use Rattle.debug_script.specs.Calls.{all_words, script_letters}
use Rattle.debug_script.specs.Script.{HasFewDigits, ArePartsOf, LineSays, LinesSay, PartsSay, ScriptSays, is_in_range, has_unknown_word, line_parts}
use Rattle.debug_script.proofs.Forms.{no_back, no_bots, no_group, no_step, no_voxel, parts_some, word_found, word_missed}

-- ---- a part is a number of few digits or not

abbrev IsBelow : ℕ → List ℕ → Type 0
IsBelow bound part = (n : ℕ) × (n < bound) × (part ≡ decimal n)

below_or_not : (part : List ℕ) (bound : ℕ) → IsBelow bound part ⊎ (IsBelow bound part → ⊥)
below_or_not part zero = inr (λ h. let l = h.1 in omega (arith, l))
below_or_not part (suc bound) = by (bytes_eq part (decimal bound)) refl (below_or_not part bound)
  where
    lower : (n : ℕ) → n < suc bound → part ≡ decimal n → bytes_eq part (decimal bound) ≡ false → n < bound
    lower n l e f = elim (cases_lt n bound) [ inl less ↦ less | inr more ↦ absurd (last (omega (arith, l, more))) ]
      where
        last : n ≡ bound → ⊥
        last same = let true_is_false : true ≡ false = sym ((bytes_eq-Decides part (decimal bound)).1 (e ∙ ap decimal same)) ∙ f in cc

    by : (b : Bool) → bytes_eq part (decimal bound) ≡ b → IsBelow bound part ⊎ (IsBelow bound part → ⊥)
        → IsBelow (suc bound) part ⊎ (IsBelow (suc bound) part → ⊥)
    by true e before = inl (bound, omega arith, (bytes_eq-Decides part (decimal bound)).0 e)
    by false e (inl h) = inl (h.0, (let l = h.1 in omega (arith, l)), h.2)
    by false e (inr none) = inr (λ h. none (h.0, lower h.0 h.1 h.2 e, h.2))

abbrev IsNumber : List ℕ → Type 0
IsNumber part = (n : ℕ) × HasFewDigits n × (part ≡ decimal n)

number_or_not : (part : List ℕ) → IsNumber part ⊎ (IsNumber part → ⊥)
number_or_not part = below_or_not part 100000

-- ---- the parts of a line have a meaning

module _ (r : ℕ) where
  abbrev SaySome : List (List ℕ) → Type 0
  SaySome line = (what : Result DebugLine Fault) × PartsSay r line what

  of_line : (parts : List (List ℕ)) (line : DebugLine) → ArePartsOf parts line → SaySome parts
  of_line parts line is = by (is_in_range r line) refl
    where
      by : (t : Bool) → is_in_range r line ≡ t → SaySome parts
      by true e = (Ok line, (is, e))
      by false e = (Err Range, (line, is, e))

  -- the parts after a known word that belong to no line
  of_no_line : (parts : List (List ℕ)) → has_unknown_word parts ≡ false
      → ((line : DebugLine) → ArePartsOf parts line → ⊥) → SaySome parts
  of_no_line parts known none = (Err Shape, (known, none))

  group_says : (ps : List (List ℕ)) → SaySome (codes "group" ∷ ps)
  group_says [] = of_no_line (codes "group" ∷ []) refl (no_group [] (λ n few e. cc))
  group_says (p ∷ q ∷ ps) = of_no_line (codes "group" ∷ p ∷ q ∷ ps) refl (no_group (p ∷ q ∷ ps) (λ n few e. cc))
  group_says (p ∷ []) = by (number_or_not p)
    where
      by : IsNumber p ⊎ (IsNumber p → ⊥) → SaySome (codes "group" ∷ p ∷ [])
      by (inl n) = of_line (codes "group" ∷ p ∷ []) (Group n.0) (record { parts_are = ap (λ (part : List ℕ). codes "group" ∷ part ∷ []) n.2; short = n.1 })
      by (inr none) = of_no_line (codes "group" ∷ p ∷ []) refl (no_group (p ∷ []) (λ n few e. none (n, few, cc)))

  voxel_says : (ps : List (List ℕ)) → SaySome (codes "voxel" ∷ ps)
  voxel_says [] = of_no_line (codes "voxel" ∷ []) refl (no_voxel [] (λ x y z fx fy fz e. cc))
  voxel_says (p ∷ []) = of_no_line (codes "voxel" ∷ p ∷ []) refl (no_voxel (p ∷ []) (λ x y z fx fy fz e. cc))
  voxel_says (p ∷ q ∷ []) = of_no_line (codes "voxel" ∷ p ∷ q ∷ []) refl (no_voxel (p ∷ q ∷ []) (λ x y z fx fy fz e. cc))
  voxel_says (p ∷ q ∷ s ∷ t ∷ ps) = of_no_line (codes "voxel" ∷ p ∷ q ∷ s ∷ t ∷ ps) refl (no_voxel (p ∷ q ∷ s ∷ t ∷ ps) (λ x y z fx fy fz e. cc))
  voxel_says (p ∷ q ∷ s ∷ []) = by (number_or_not p) (number_or_not q) (number_or_not s)
    where
      no_number : ((x y z : ℕ) → HasFewDigits x → HasFewDigits y → HasFewDigits z
          → p ∷ q ∷ s ∷ [] ≡ decimal x ∷ decimal y ∷ decimal z ∷ [] → ⊥) → SaySome (codes "voxel" ∷ p ∷ q ∷ s ∷ [])
      no_number none = of_no_line (codes "voxel" ∷ p ∷ q ∷ s ∷ []) refl (no_voxel (p ∷ q ∷ s ∷ []) none)

      by : IsNumber p ⊎ (IsNumber p → ⊥) → IsNumber q ⊎ (IsNumber q → ⊥) → IsNumber s ⊎ (IsNumber s → ⊥)
          → SaySome (codes "voxel" ∷ p ∷ q ∷ s ∷ [])
      by (inr none) b c = no_number (λ x y z fx fy fz e. none (x, fx, cc))
      by (inl a) (inr none) c = no_number (λ x y z fx fy fz e. none (y, fy, cc))
      by (inl a) (inl b) (inr none) = no_number (λ x y z fx fy fz e. none (z, fz, cc))
      by (inl a) (inl b) (inl c) =
          of_line (codes "voxel" ∷ p ∷ q ∷ s ∷ []) (Voxel (record { x = a.0; y = b.0; z = c.0 })) (record { parts_are = λ i. codes "voxel" ∷ a.2 i ∷ b.2 i ∷ c.2 i ∷ []; short = (a.1, b.1, c.1) })

  word_says : (w : ScriptWord) (ps : List (List ℕ)) → SaySome (script_letters w ∷ ps)
  word_says word.Step [] = of_line (codes "step" ∷ []) Step (record { parts_are = refl; short = tt })
  word_says word.Step (p ∷ ps) = of_no_line (codes "step" ∷ p ∷ ps) refl (no_step (p ∷ ps) (λ e. cc))
  word_says word.Back [] = of_line (codes "back" ∷ []) Back (record { parts_are = refl; short = tt })
  word_says word.Back (p ∷ ps) = of_no_line (codes "back" ∷ p ∷ ps) refl (no_back (p ∷ ps) (λ e. cc))
  word_says word.Bots [] = of_line (codes "bots" ∷ []) Bots (record { parts_are = refl; short = tt })
  word_says word.Bots (p ∷ ps) = of_no_line (codes "bots" ∷ p ∷ ps) refl (no_bots (p ∷ ps) (λ e. cc))
  word_says word.Group ps = group_says ps
  word_says word.Voxel ps = voxel_says ps

  parts_say : (line : List (List ℕ)) → (line ≡ [] → ⊥) → SaySome line
  parts_say [] some = absurd (some refl)
  parts_say (part ∷ ps) some = by (find (λ w. bytes_eq (script_letters w) part) all_words) refl
    where
      by : (found : Option ScriptWord) → find (λ w. bytes_eq (script_letters w) part) all_words ≡ found
          → SaySome (part ∷ ps)
      by None e = (Err UnknownWord, word_missed part ps (sym e))
      by (Some w) e = subst (λ (letters : List ℕ). SaySome (letters ∷ ps)) (sym (word_found part w (sym e))) (word_says w ps)

  -- ---- each line has a meaning, and so each script

  line_says : (line : List ℕ) → (what : Result DebugLine Fault) × LineSays r line what
  line_says line = by (has_high_byte line) (parts_say (line_parts line) (parts_some line))
    where
      by : (high : Bool) → SaySome (line_parts line)
          → (what : Result DebugLine Fault) × MatchBool high (what ≡ Err NotAscii) (PartsSay r (line_parts line) what)
      by true said = (Err NotAscii, refl)
      by false said = said

  lines_say : (n : ℕ) (all : List (List ℕ)) → (answer : Result (List DebugLine) FaultyLine) × LinesSay r n all answer
  lines_say n [] = (Ok [], refl)
  lines_say n (line ∷ more) = let said = line_says line in by said.0 said.1 (lines_say (n + 1) more)
    where
      by : (what : Result DebugLine Fault) → LineSays r line what
          → (rest : Result (List DebugLine) FaultyLine) × LinesSay r (n + 1) more rest
          → (answer : Result (List DebugLine) FaultyLine) × LinesSay r n (line ∷ more) answer
      by (Ok what) says rest = (with_first what rest.0, (Ok what, says, (rest.0, rest.1, refl)))
      by (Err fault) says rest = (Err (record { fault = fault; line = n }), (Err fault, says, refl))

  pub script_says : (bytes : List ℕ) → (said : Result (List DebugLine) FaultyLine) × ScriptSays r bytes said
  script_says bytes = lines_say 1 (lines bytes)

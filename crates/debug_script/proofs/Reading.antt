-- A script read line by line.
use Rattle.std.proofs.Common.{◌≡◌, ◌<◌, ◌≤◌, ◌∙◌, ℕ, ◌+◌, List, [], ◌∷◌, ◌++◌, length, refl, arith, sym, ap, subst}
use Rattle.std.specs.Prelude.{Result, Ok, Err, Vec}
use Rattle.std.proofs.lemmas.List.{map-append}
use Rattle.nano_spec.specs.First.{with_first}
use Rattle.nano_spec.specs.Line.{Fault}
use Rattle.nano_spec.specs.Reading.{FaultyLine, lines}
use Rattle.trace_text.specs.Text.{faulty_line}
use Rattle.trace_text.specs.declared.fault.TextFault.TheVariants.{Refused}
use Rattle.trace_text.specs.declared.fault.TextRefusal.{TextRefusal}
use Rattle.step_debugger.specs.Session.{DebugLine}
use Rattle.debug_script.specs.Calls.{IsReadBy, ReadsScript, script_line_is, lines_are}
use Rattle.debug_script.specs.Script.{LineSays, LinesSay, ScriptSays}
use Rattle.debug_script.specs.declared.line.ScriptLine.{ScriptLine}

-- the lines before the later readings
abbrev with_all : List DebugLine → Result (List DebugLine) FaultyLine → Result (List DebugLine) FaultyLine
with_all [] answer = answer
with_all (x ∷ xs) answer = with_first x (with_all xs answer)

all_ok : (xs : List DebugLine) → with_all xs (Ok []) ≡ Ok xs
all_ok [] = refl
all_ok (x ∷ xs) = ap (with_first x) (all_ok xs)

all_err : (xs : List DebugLine) (e : FaultyLine) → with_all xs (Err e) ≡ Err e
all_err [] e = refl
all_err (x ∷ xs) e = ap (with_first x) (all_err xs e)

one_more : (xs : List DebugLine) (x : DebugLine) (answer : Result (List DebugLine) FaultyLine)
    → with_all xs (with_first x answer) ≡ with_all (xs ++ x ∷ []) answer
one_more [] x answer = refl
one_more (y ∷ xs) x answer = ap (with_first y) (one_more xs x answer)

-- the lines were read, and all lines are these and the reading of the remaining ones, whatever that is
pub record IsReading (r : ℕ) (bytes : List ℕ) (script : List ScriptLine) (left : List ℕ) (number : ℕ) : Type 0 where
  pub goes_on : (answer : Result (List DebugLine) FaultyLine) → LinesSay r (number + 1) (lines left) answer
      → ScriptSays r bytes (with_all (lines_are script) answer)
  pub few : number + length left ≤ 65536

pub nothing_read : (r : ℕ) (bytes : List ℕ) → length bytes ≤ 65536 → IsReading r bytes [] bytes 0
nothing_read r bytes h = record { goes_on = λ answer says. says; few = omega (arith, h) }

module _ (r : ℕ) (bytes : List ℕ) (script : List ScriptLine) (left : List ℕ) (number : ℕ) (so_far : IsReading r bytes script left number) (first more : List ℕ) (cut : lines left ≡ first ∷ lines more) where
  pub line_read : (said : ScriptLine) (now : List ScriptLine) → length more < length left → now ≡ script ++ said ∷ []
      → LineSays r first (Ok (script_line_is said)) → IsReading r bytes now more (number + 1)
  line_read said now shorter e says = record {
    goes_on = λ answer rest.
        let all = so_far.goes_on (with_first (script_line_is said) answer) (subst (λ (ls : List (List ℕ)). LinesSay r (number + 1) ls (with_first (script_line_is said) answer)) (sym cut) (Ok (script_line_is said), says, (answer, rest, refl))) in
        let same : lines_are now ≡ lines_are script ++ script_line_is said ∷ [] = ap lines_are e ∙ map-append script_line_is script (said ∷ []) in
        subst (ScriptSays r bytes) (one_more (lines_are script) (script_line_is said) answer ∙ ap (λ (xs : List DebugLine). with_all xs answer) (sym same)) all;
    few = let so_far_few = so_far.few in omega (arith, so_far_few, shorter);
  }

  faulty_at : (fault : Fault) → LineSays r first (Err fault)
      → ScriptSays r bytes (Err (record { fault = fault; line = number + 1 }))
  faulty_at fault says = subst (ScriptSays r bytes) (all_err (lines_are script) (record { fault = fault; line = number + 1 })) (so_far.goes_on (Err (record { fault = fault; line = number + 1 })) (subst (λ (ls : List (List ℕ)). LinesSay r (number + 1) ls (Err (record { fault = fault; line = number + 1 }))) (sym cut) (Err fault, says, refl)))

  pub line_refused : (Y : Type 0) (refusal : TextRefusal) → IsReadBy (LineSays r first) (number + 1) (Err refusal)
      → ReadsScript {Y = Y} r bytes (Err (Refused refusal))
  line_refused Y refusal says =
      subst (λ (n : ℕ). ScriptSays r bytes (Err (record { fault = (faulty_line refusal).fault; line = n }))) (sym says.1)
      (faulty_at (faulty_line refusal).fault says.0)

pub all_read : {Y : Type 0} (r : ℕ) (bytes : List ℕ) (script : Vec ScriptLine Y) (left : List ℕ) (number : ℕ)
    → IsReading r bytes script.items left number → length left ≡ 0 → ReadsScript {Y = Y} r bytes (Ok script)
all_read r bytes script left number so_far none =
    subst (ScriptSays r bytes) (all_ok (lines_are script.items)) (so_far.goes_on (Ok []) (subst (λ (xs : List ℕ). LinesSay r (number + 1) (lines xs) (Ok [])) (sym (empty left none)) refl))
  where
    empty : (xs : List ℕ) → length xs ≡ 0 → xs ≡ []
    empty [] e = refl
    empty (x ∷ xs) e = absurd (omega arith)

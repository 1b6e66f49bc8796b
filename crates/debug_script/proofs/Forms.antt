-- The meaning of a line's parts, by its word.
use Rattle.std.proofs.Common.{◌≡◌, ◌<◌, ◌≤◌, ◌∙◌, ℕ, Bool, true, false, cond, not, List, [], ◌∷◌, Option, Some, None, codes, decimal, find, refl, arith, sym, ap, subst, nat_lt}
use Rattle.std.specs.Prelude.{◌&&◌, ◌||◌, ◌==◌, Ok, Err, ⊤}
use Rattle.std.specs.List.{list_any, onto_first, slice_split}
use Rattle.std.specs.Str.{bytes_eq}
use Rattle.std.proofs.lemmas.Slice.Eq.{bytes_eq-Decides}
use Rattle.vox_geom.specs.declared.coordinate.Coord.{Coord}
use Rattle.vox_geom.proofs.Truths.{and_false}
use Rattle.vox_geom.proofs.Tests.{test_less, test_not_less}
use Rattle.trace_text.specs.declared.fault.TextRefusal.TheVariants as refusal
use Rattle.step_debugger.specs.Session.{Back, Bots, DebugLine, Group, Step, Voxel}
use Rattle.debug_script.specs.declared.line.ScriptLine.TheVariants as code
use Rattle.debug_script.specs.declared.word.ScriptWord.{ScriptWord}
use Rattle.debug_script.specs.Calls.{IsReadBy, all_words, script_letters}
use Rattle.debug_script.specs.Script.{HasFewDigits, ArePartsOf, PartsSay, has_unknown_word, line_parts, parts_of}

-- ---- a line has a part

abbrev IsSome : List (List ℕ) → Type 0
IsSome [] = ⊥
IsSome (x ∷ xs) = ⊤

some : (xs : List ℕ) → IsSome (slice_split (λ b. b == 32) xs)
some [] = tt
some (x ∷ xs) = two (x == 32) (slice_split (λ b. b == 32) xs) (some xs)
  where
    two : (t : Bool) (ys : List (List ℕ)) → IsSome ys → IsSome (cond t ([] ∷ ys) (onto_first x ys))
    two true ys h = tt
    two false [] h = absurd h
    two false (y ∷ ys) h = tt

pub parts_some : (xs : List ℕ) → line_parts xs ≡ [] → ⊥
parts_some xs e = subst IsSome e (some xs)

-- a line with a space has more than one part
pub more_parts : (line part rest : List ℕ) (n : ℕ) → line_parts line ≡ part ∷ line_parts rest
    → line_parts line ≡ decimal n ∷ [] → ⊥
more_parts line part rest n e f = parts_some rest (by (line_parts rest) (sym e ∙ f))
  where
    by : (ps : List (List ℕ)) → part ∷ ps ≡ decimal n ∷ [] → ps ≡ []
    by ps g = cc

-- ---- the words

word_is : (w : ScriptWord) (bytes : List ℕ) → bytes_eq (script_letters w) bytes ≡ true → bytes ≡ script_letters w
word_is w bytes e = sym ((bytes_eq-Decides (script_letters w) bytes).0 e)

module _ (bytes : List ℕ) where
  abbrev is_it : ScriptWord → Bool
  is_it w = bytes_eq (script_letters w) bytes

  found_on : (v w : ScriptWord) (rest : Option ScriptWord) → (rest ≡ Some w → is_it w ≡ true) → (b : Bool) → is_it v ≡ b
      → cond b (Some v) rest ≡ Some w → is_it w ≡ true
  found_on v w rest later true f e = let same : v ≡ w = cc in subst (λ x. is_it x ≡ true) same f
  found_on v w rest later false f e = later e

  found : (ws : List ScriptWord) (w : ScriptWord) → find is_it ws ≡ Some w → is_it w ≡ true
  found [] w e = absurd (let none : None ≡ Some w = e in cc)
  found (v ∷ ws) w e = found_on v w (find is_it ws) (found ws w) (is_it v) refl e

  pub word_found : (w : ScriptWord) → Some w ≡ find is_it all_words → bytes ≡ script_letters w
  word_found w e = word_is w bytes (found all_words w (sym e))

  missed_on : (v : ScriptWord) (rest : Option ScriptWord) (others : Bool) → (rest ≡ None → others ≡ false) → (b : Bool)
      → cond b (Some v) rest ≡ None → (b || others) ≡ false
  missed_on v rest others later true e = absurd (let none : Some v ≡ None = e in cc)
  missed_on v rest others later false e = later e

  missed : (ws : List ScriptWord) → find is_it ws ≡ None → list_any is_it ws ≡ false
  missed [] e = refl
  missed (v ∷ ws) e = missed_on v (find is_it ws) (list_any is_it ws) (missed ws) (is_it v) e

  pub word_missed : (more : List (List ℕ)) → None ≡ find is_it all_words → has_unknown_word (bytes ∷ more) ≡ true
  word_missed more e = ap not (missed all_words (sym e))

-- ---- the text of a line, by its word

abbrev first : List (List ℕ) → List ℕ
first [] = []
first (part ∷ more) = part

-- the first part distinguishes lines
apart : (v : List ℕ) (ps : List (List ℕ)) (f : DebugLine) → bytes_eq v v ≡ true
    → bytes_eq v (first (parts_of f)) ≡ false → v ∷ ps ≡ parts_of f → ⊥
apart v ps f same other e =
    let same_bytes_eq : bytes_eq v v ≡ bytes_eq v (first (parts_of f)) = ap (λ (xs : List (List ℕ)). bytes_eq v (first xs)) e in
    let clash : true ≡ false = sym same ∙ (same_bytes_eq ∙ other) in
    cc

behind : (v : List ℕ) (ps qs : List (List ℕ)) → v ∷ ps ≡ v ∷ qs → ps ≡ qs
behind v ps qs e = cc

-- the parts after the first
pub rest_is : (a b : List ℕ) (ps qs : List (List ℕ)) → a ∷ ps ≡ b ∷ qs → ps ≡ qs
rest_is a b ps qs e = cc

module _ (ps : List (List ℕ)) where
  pub no_group : ((n : ℕ) → HasFewDigits n → ps ≡ decimal n ∷ [] → ⊥) → (f : DebugLine)
      → ArePartsOf (codes "group" ∷ ps) f → ⊥
  no_group none (Group n) h = none n h.short (behind (codes "group") ps (decimal n ∷ []) h.parts_are)
  no_group none f h = apart (codes "group") ps f refl refl h.parts_are

  pub no_voxel :
      ((x y z : ℕ) → HasFewDigits x → HasFewDigits y → HasFewDigits z → ps ≡ decimal x ∷ decimal y ∷ decimal z ∷ [] → ⊥)
      → (f : DebugLine) → ArePartsOf (codes "voxel" ∷ ps) f → ⊥
  no_voxel none (Voxel c) h = none c.x c.y c.z h.short.0 h.short.1 h.short.2 (behind (codes "voxel") ps (decimal c.x ∷ decimal c.y ∷ decimal c.z ∷ []) h.parts_are)
  no_voxel none f h = apart (codes "voxel") ps f refl refl h.parts_are

  pub no_step : (ps ≡ [] → ⊥) → (f : DebugLine) → ArePartsOf (codes "step" ∷ ps) f → ⊥
  no_step behind_it Step h = behind_it (behind (codes "step") ps [] h.parts_are)
  no_step behind_it f h = apart (codes "step") ps f refl refl h.parts_are

  pub no_back : (ps ≡ [] → ⊥) → (f : DebugLine) → ArePartsOf (codes "back" ∷ ps) f → ⊥
  no_back behind_it Back h = behind_it (behind (codes "back") ps [] h.parts_are)
  no_back behind_it f h = apart (codes "back") ps f refl refl h.parts_are

  pub no_bots : (ps ≡ [] → ⊥) → (f : DebugLine) → ArePartsOf (codes "bots" ∷ ps) f → ⊥
  no_bots behind_it Bots h = behind_it (behind (codes "bots") ps [] h.parts_are)
  no_bots behind_it f h = apart (codes "bots") ps f refl refl h.parts_are

-- ---- ranges

module _ (r number : ℕ) (ps : List (List ℕ)) (n : ℕ) (few : HasFewDigits n) (are : ps ≡ decimal n ∷ []) where
  written : ArePartsOf (codes "group" ∷ ps) (Group n)
  written = record { parts_are = ap (λ (qs : List (List ℕ)). codes "group" ∷ qs) are; short = few }

  out : (nat_lt 0 n && nat_lt n 41) ≡ false
      → IsReadBy (PartsSay r (codes "group" ∷ ps)) number (Err (refusal.Range number))
  out e = ((Group n, written, e), refl)

  pub group_too_low : n < 1 → IsReadBy (PartsSay r (codes "group" ∷ ps)) number (Err (refusal.Range number))
  group_too_low l = out (ap (λ b. b && nat_lt n 41) (test_not_less 0 n (omega arith)))

  pub group_too_high : 40 < n → IsReadBy (PartsSay r (codes "group" ∷ ps)) number (Err (refusal.Range number))
  group_too_high l = out (ap (λ b. nat_lt 0 n && b) (test_not_less n 41 (omega arith)) ∙ and_false (nat_lt 0 n))

  pub group_in_range : 1 ≤ n → n ≤ 40 → IsReadBy (PartsSay r (codes "group" ∷ ps)) number (Ok (code.Group n))
  group_in_range l h =
      let both_hold : (nat_lt 0 n && nat_lt n 41) ≡ true = ap (λ b. b && nat_lt n 41) (test_less 0 n (omega arith)) ∙ test_less n 41 (omega arith) in
      (written, both_hold)

module _ (r number : ℕ) (ps : List (List ℕ)) (x y z : ℕ) (fx : HasFewDigits x) (fy : HasFewDigits y) (fz : HasFewDigits z) (are : ps ≡ decimal x ∷ decimal y ∷ decimal z ∷ []) where
  abbrev at : Coord
  at = record { x = x; y = y; z = z }

  spelled : ArePartsOf (codes "voxel" ∷ ps) (Voxel at)
  spelled = record { parts_are = ap (λ (qs : List (List ℕ)). codes "voxel" ∷ qs) are; short = (fx, fy, fz) }

  outside : (nat_lt x r && nat_lt y r && nat_lt z r) ≡ false
      → IsReadBy (PartsSay r (codes "voxel" ∷ ps)) number (Err (refusal.Range number))
  outside e = ((Voxel at, spelled, e), refl)

  pub x_too_high : r ≤ x → IsReadBy (PartsSay r (codes "voxel" ∷ ps)) number (Err (refusal.Range number))
  x_too_high l = outside (ap (λ b. b && nat_lt y r && nat_lt z r) (test_not_less x r l))

  pub y_too_high : x < r → r ≤ y → IsReadBy (PartsSay r (codes "voxel" ∷ ps)) number (Err (refusal.Range number))
  y_too_high lx l = outside (ap (λ b. b && nat_lt y r && nat_lt z r) (test_less x r lx) ∙ ap (λ b. b && nat_lt z r) (test_not_less y r l))

  pub z_too_high : x < r → y < r → r ≤ z
      → IsReadBy (PartsSay r (codes "voxel" ∷ ps)) number (Err (refusal.Range number))
  z_too_high lx ly l = outside (ap (λ b. b && nat_lt y r && nat_lt z r) (test_less x r lx) ∙ (ap (λ b. b && nat_lt z r) (test_less y r ly) ∙ test_not_less z r l))

  pub voxel_in_range : x < r → y < r → z < r → IsReadBy (PartsSay r (codes "voxel" ∷ ps)) number (Ok (code.Voxel at))
  voxel_in_range lx ly lz =
      let both_hold : (nat_lt x r && nat_lt y r && nat_lt z r) ≡ true = ap (λ b. b && nat_lt y r && nat_lt z r) (test_less x r lx) ∙ (ap (λ b. b && nat_lt z r) (test_less y r ly) ∙ test_less z r lz) in
      (spelled, both_hold)

-- ---- words

pub has_shape_fault : (r number : ℕ) (line : List (List ℕ)) → has_unknown_word line ≡ false
    → ((f : DebugLine) → ArePartsOf line f → ⊥) → IsReadBy (PartsSay r line) number (Err (refusal.Shape number))
has_shape_fault r number line known none = ((known, none), refl)

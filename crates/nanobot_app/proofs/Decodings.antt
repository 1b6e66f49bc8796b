-- All bytes have a decoding.
use Rattle.std.proofs.Common.{◌≡◌, ◌≢◌, ◌⊎◌, ◌∙◌, ℕ, zero, suc, ◌+◌, ◌*◌, ◌<◌, ◌≤◌, Bool, true, false, List, [], ◌∷◌, ◌++◌, refl, sym, ap, subst, inl, inr, arith, length, append_assoc, append-nil, bytes_eq}
use Rattle.std.specs.Prelude.{IsTrue, nat_lt, Option, Some, None, Result, Ok, Err}
use Rattle.std.specs.List.{AllByRecursion}
use Rattle.std.proofs.lemmas.Bool.{cases_lt}
use Rattle.std.proofs.lemmas.Bool.Decides.{nat_tests}
use Rattle.std.proofs.lemmas.List.{length-append}
use Rattle.std.proofs.lemmas.Slice.Eq.{bytes_eq-Decides}
use Rattle.vox_geom.specs.declared.difference.Diff.{Diff}
use Rattle.vox_geom.specs.Difference.{IsFar, IsLong, IsNear, IsShort, is_far, is_near, is_short}
use Rattle.vox_geom.proofs.Truths.{first_of_two, second_of_two}
use Rattle.nano_spec.specs.declared.commands.Command.{Command}
use Rattle.nano_spec.specs.declared.commands.Command.TheVariants.{Fill, Fission, Flip, FusionP, FusionS, GFill, GVoid, Halt, LMove, SMove, Void, Wait}
use Rattle.nano_spec.specs.Command.{IsCommand, is_command}
use Rattle.nano_spec.specs.Cutting.{AreCommands, BadAt, BeginsSpelling, CutAt, Decoding, NoTrace, RestOf}
use Rattle.nano_spec.specs.Spelling.{component, far_bytes, near_code, spelling, spellings}
use Rattle.nano_spec.proofs.Codes.{far_bounds, linear, near_code_below, raised_small}
use Rattle.nano_spec.proofs.Decoder.{Got, decoded, decoded-spelling, long_is, short_is}
use Rattle.nano_spec.proofs.Lengths.{spelling_short, spelling_some}
use Rattle.nano_spec.proofs.Traces.{one_spelling}

-- ---- whether a command's spelling begins the bytes

abbrev Begins : List ℕ → Type 0
Begins bytes = (c : Command) × (more : List ℕ) × IsCommand c × (bytes ≡ spelling c ++ more)

same_got : (a b : Got) → Some a ≡ Some b → a ≡ b
same_got a b e = cc

begins : (bytes : List ℕ) → Begins bytes ⊎ (Begins bytes → ⊥)
begins bytes = by (decoded bytes) refl
  where
    none : decoded bytes ≡ None → Begins bytes → ⊥
    none e b = let decoded_is = sym (ap decoded b.3 ∙ decoded-spelling b.0 b.1 b.2) ∙ e in cc

    same : (g : Got) → decoded bytes ≡ Some g → (b : Begins bytes) → g ≡ (b.0, b.1)
    same g e b = same_got g (b.0, b.1) (sym e ∙ (ap decoded b.3 ∙ decoded-spelling b.0 b.1 b.2))

    no_command : (g : Got) → decoded bytes ≡ Some g → is_command g.0 ≡ false → Begins bytes → ⊥
    no_command g e c b = let false_is_true : false ≡ true = sym c ∙ (ap (λ (x : Got). is_command x.0) (same g e b) ∙ b.2) in cc

    no_spelling : (g : Got) → decoded bytes ≡ Some g → bytes_eq bytes (spelling g.0 ++ g.1) ≡ false → Begins bytes → ⊥
    no_spelling g e s b =
        let false_is_true : false ≡ true = sym s ∙ (bytes_eq-Decides bytes (spelling g.0 ++ g.1)).1 (b.3 ∙ ap (λ (x : Got). spelling x.0 ++ x.1) (sym (same g e b))) in cc

    of_tests : (g : Got) → decoded bytes ≡ Some g → (c s : Bool) → is_command g.0 ≡ c
        → bytes_eq bytes (spelling g.0 ++ g.1) ≡ s → Begins bytes ⊎ (Begins bytes → ⊥)
    of_tests g e true true c s = inl (g.0, g.1, c, (bytes_eq-Decides bytes (spelling g.0 ++ g.1)).0 s)
    of_tests g e true false c s = inr (no_spelling g e s)
    of_tests g e false s' c s = inr (no_command g e c)

    by : (o : Option Got) → decoded bytes ≡ o → Begins bytes ⊎ (Begins bytes → ⊥)
    by None e = inr (none e)
    by (Some g) e = of_tests g e (is_command g.0) (bytes_eq bytes (spelling g.0 ++ g.1)) refl refl

-- ---- the longest front of spellings

record Cut (bytes : List ℕ) : Type 0 where
  commands : List Command
  rest : List ℕ
  are : AreCommands commands
  bytes_are : bytes ≡ spellings commands ++ rest
  ends : Begins rest → ⊥

one_more : (bytes : List ℕ) (b : Begins bytes) → Cut b.1 → Cut bytes
one_more bytes b later = record {
  commands = b.0 ∷ later.commands;
  rest = later.rest;
  are = (b.2, later.are);
  bytes_are = b.3 ∙ (ap (λ (xs : List ℕ). spelling b.0 ++ xs) later.bytes_are ∙ sym (append_assoc (spelling b.0) (spellings later.commands) later.rest));
  ends = later.ends;
}

choose : (bytes : List ℕ) → Begins bytes ⊎ (Begins bytes → ⊥) → ((b : Begins bytes) → Cut b.1) → Cut bytes
choose bytes (inl b) later = one_more bytes b (later b)
choose bytes (inr none) later = record { commands = []; rest = bytes; are = tt; bytes_are = refl; ends = none }

shorter : (bytes : List ℕ) (b : Begins bytes) → length b.1 < length bytes
shorter bytes b =
    let whole : length bytes ≡ length (spelling b.0 ++ b.1) = ap length b.3 in
    omega (arith, whole, length-append (spelling b.0) b.1, spelling_some b.0)

cut : (n : ℕ) (bytes : List ℕ) → length bytes ≤ n → Cut bytes
cut zero bytes few = choose bytes (begins bytes) (λ b. absurd (let less = shorter bytes b in omega (arith, less)))
cut (suc n) bytes few = choose bytes (begins bytes) (λ b. cut n b.1 (let less = shorter bytes b in omega (arith, less)))

longest : (cs ds : List Command) (rest other : List ℕ) → AreCommands cs → AreCommands ds
    → spellings cs ++ rest ≡ spellings ds ++ other → (Begins rest → ⊥) → length rest ≤ length other
longest cs [] rest other h k e none =
    let whole : length (spellings cs ++ rest) ≡ length other = ap length e in
    omega (arith, whole, length-append (spellings cs) rest)
longest [] (d ∷ ds) rest other h k e none = absurd (none (d, spellings ds ++ other, k.0, e ∙ append_assoc (spelling d) (spellings ds) other))
longest (c ∷ cs) (d ∷ ds) rest other h k e none =
    longest cs ds rest other h.1 k.1
    (one_spelling c d (spellings cs ++ rest) (spellings ds ++ other) h.0 k.0 (sym (append_assoc (spelling c) (spellings cs) rest) ∙ (e ∙ append_assoc (spelling d) (spellings ds) other))).1
    none

rest_of : (bytes : List ℕ) (c : Cut bytes) → RestOf bytes c.rest
rest_of bytes c = ((c.commands, c.are, c.bytes_are), λ other f. longest c.commands f.0 c.rest other c.are f.1 (sym c.bytes_are ∙ f.2) c.ends)

-- ---- whether bytes are a part of a spelling

-- each is below 256
abbrev AreBytes : List ℕ → Type 0
AreBytes bytes = AllByRecursion (λ b. b < 256) bytes

near_byte : (k : ℕ) (d : Diff) → k < 8 → IsNear d → 8 * near_code d + k < 256
near_byte k d few h = let low = near_code_below d h in omega (arith, low)

far_are : (f : Diff) → IsFar f → AreBytes (far_bytes f)
far_are f h =
    let bounds = far_bounds f h in
    let small_raised_x = raised_small f.dx 30 bounds.0 in
    let small_raised_y = raised_small f.dy 30 bounds.1 in
    let small_raised_z = raised_small f.dz 30 bounds.2 in
    (omega (arith, small_raised_x), (omega (arith, small_raised_y), (omega (arith, small_raised_z), tt)))

byte_of : (m : ℕ) → IsTrue (nat_lt m 256) → m < 256
byte_of m h = grind (arith, nat_tests)

long_are : (d : Diff) → IsLong d → AreBytes (spelling (SMove d))
long_are d h =
    let is_linear = linear d (long_is d h).0 in
    let most = (long_is d h).1 in
    let high = is_linear.high in
    let second = raised_small (component d) 15 (omega (arith, is_linear.small, most)) in
    (omega (arith, high), (omega (arith, second), tt))

short_are : (d e : Diff) → IsShort d → IsShort e → AreBytes (spelling (LMove d e))
short_are d e h k =
    let is_linear = linear d (short_is d h).0 in
    let linear_here = linear e (short_is e k).0 in
    let one = (short_is d h).1 in
    let two = (short_is e k).1 in
    let low = is_linear.high in
    let high = linear_here.high in
    let small_raised = raised_small (component d) 5 (omega (arith, is_linear.small, one)) in
    let is_small = raised_small (component e) 5 (omega (arith, linear_here.small, two)) in
    (omega (arith, low, high), (omega (arith, small_raised, is_small), tt))

are_bytes : (c : Command) → IsCommand c → AreBytes (spelling c)
are_bytes Halt h = (omega arith, tt)
are_bytes Wait h = (omega arith, tt)
are_bytes Flip h = (omega arith, tt)
are_bytes (SMove d) h = long_are d h
are_bytes (LMove d e) h = short_are d e (first_of_two (is_short d) (is_short e) h) (second_of_two (is_short d) (is_short e) h)
are_bytes (FusionP d) h = (near_byte 7 d (omega arith) h, tt)
are_bytes (FusionS d) h = (near_byte 6 d (omega arith) h, tt)
are_bytes (Fission d m) h = (near_byte 5 d (omega arith) (first_of_two (is_near d) (nat_lt m 256) h), (byte_of m (second_of_two (is_near d) (nat_lt m 256) h), tt))
are_bytes (Fill d) h = (near_byte 3 d (omega arith) h, tt)
are_bytes (Void d) h = (near_byte 2 d (omega arith) h, tt)
are_bytes (GFill d f) h = (near_byte 1 d (omega arith) (first_of_two (is_near d) (is_far f) h), far_are f (second_of_two (is_near d) (is_far f) h))
are_bytes (GVoid d f) h = (near_byte 0 d (omega arith) (first_of_two (is_near d) (is_far f) h), far_are f (second_of_two (is_near d) (is_far f) h))

back_are : (xs ys : List ℕ) → AreBytes (xs ++ ys) → AreBytes ys
back_are [] ys h = h
back_are (x ∷ xs) ys h = back_are xs ys h.1

-- the bytes are a whole spelling
abbrev IsSpelled : List ℕ → Type 0
IsSpelled bytes = (c : Command) × IsCommand c × (bytes ≡ spelling c)

is_spelled : (bytes : List ℕ) → IsSpelled bytes ⊎ (IsSpelled bytes → ⊥)
is_spelled bytes = by (begins bytes)
  where
    of_rest : (c : Command) (more : List ℕ) → IsCommand c → bytes ≡ spelling c ++ more
        → IsSpelled bytes ⊎ (IsSpelled bytes → ⊥)
    of_rest c [] h e = inl (c, h, e ∙ append-nil (spelling c))
    of_rest c (m ∷ more) h e = inr (λ s. let same_spelling = (one_spelling s.0 c [] (m ∷ more) s.1 h (append-nil (spelling s.0) ∙ (sym s.2 ∙ e))).1 in cc)

    by : Begins bytes ⊎ (Begins bytes → ⊥) → IsSpelled bytes ⊎ (IsSpelled bytes → ⊥)
    by (inl b) = of_rest b.0 b.1 b.2 b.3
    by (inr none) = inr (λ s. none (s.0, [], s.1, s.2 ∙ sym (append-nil (spelling s.0))))

-- some number below n has P, or none has
abbrev Found : ℕ → (ℕ → Type 0) → Type 0
Found n P = (k : ℕ) × (k < n) × P k

try_below : (n : ℕ) (P : ℕ → Type 0) → ((k : ℕ) → P k ⊎ (P k → ⊥)) → Found n P ⊎ (Found n P → ⊥)
try_below zero P decide = inr (λ f. let less = f.1 in absurd (omega (arith, less)))
try_below (suc n) P decide = by (decide n) (try_below n P decide)
  where
    by : P n ⊎ (P n → ⊥) → Found n P ⊎ (Found n P → ⊥) → Found (suc n) P ⊎ (Found (suc n) P → ⊥)
    by (inl p) later = inl (n, omega arith, p)
    by (inr other) (inl f) = let less = f.1 in inl (f.0, omega (arith, less), f.2)
    by (inr other) (inr none) = inr (λ f. elim (cases_lt f.0 n) [
      | inl less ↦ none (f.0, less, f.2)
      | inr more ↦ let less = f.1 in let same : f.0 ≡ n = omega (arith, less, more) in other (subst P same f.2)
    ])

-- some list of m bytes has P, or none has
abbrev FoundList : ℕ → (List ℕ → Type 0) → Type 0
FoundList m P = (bytes : List ℕ) × (length bytes ≡ m) × AreBytes bytes × P bytes

try_lists : (m : ℕ) (P : List ℕ → Type 0) → ((bytes : List ℕ) → P bytes ⊎ (P bytes → ⊥))
    → FoundList m P ⊎ (FoundList m P → ⊥)
try_lists zero P decide = by (decide [])
  where
    none : (P [] → ⊥) → (bytes : List ℕ) → length bytes ≡ 0 → P bytes → ⊥
    none lacks [] e p = lacks p
    none lacks (b ∷ bytes) e p = absurd (omega (arith, e))

    by : P [] ⊎ (P [] → ⊥) → FoundList 0 P ⊎ (FoundList 0 P → ⊥)
    by (inl p) = inl ([], refl, tt, p)
    by (inr lacks) = inr (λ f. none lacks f.0 f.1 f.3)
try_lists (suc m) P decide = by (try_below 256 (λ b. FoundList m (λ bytes. P (b ∷ bytes))) (λ b. try_lists m (λ bytes. P (b ∷ bytes)) (λ bytes. decide (b ∷ bytes))))
  where
    none : (Found 256 (λ b. FoundList m (λ bytes. P (b ∷ bytes))) → ⊥) → (bytes : List ℕ) → length bytes ≡ suc m
        → AreBytes bytes → P bytes → ⊥
    none lacks [] e are p = absurd (omega (arith, e))
    none lacks (b ∷ bytes) e are p = lacks (b, are.0, (bytes, omega (arith, e), are.1, p))

    by : Found 256 (λ b. FoundList m (λ bytes. P (b ∷ bytes)))
        ⊎ (Found 256 (λ b. FoundList m (λ bytes. P (b ∷ bytes))) → ⊥) → FoundList (suc m) P ⊎ (FoundList (suc m) P → ⊥)
    by (inl f) = inl (f.0 ∷ f.2.0, ap suc f.2.1, (f.1, f.2.2), f.2.3)
    by (inr lacks) = inr (λ f. none lacks f.0 f.1 f.2 f.3)

-- some bytes behind the rest make a spelling of it
module _ (rest : List ℕ) where
  abbrev Completes : List ℕ → Type 0
  Completes more = IsSpelled (rest ++ more)

  abbrev IsCompleted : ℕ → Type 0
  IsCompleted m = FoundList m Completes

  completed : (m : ℕ) → IsCompleted m ⊎ (IsCompleted m → ⊥)
  completed m = try_lists m Completes (λ more. is_spelled (rest ++ more))

  a_part : (m : ℕ) → 1 ≤ m → IsCompleted m → BeginsSpelling rest
  a_part m some f = (f.3.0, f.0, f.3.1, (λ e. let size = f.1 in let none : length f.0 ≡ 0 = ap length e in absurd (omega (arith, size, none))), f.3.2)

  no_part : 1 ≤ length rest → (IsCompleted 1 → ⊥) → (IsCompleted 2 → ⊥) → (IsCompleted 3 → ⊥) → BeginsSpelling rest → ⊥
  no_part some one two three b = by b.1 b.3 refl
    where
      are : AreBytes b.1
      are = back_are rest b.1 (subst AreBytes (sym b.4) (are_bytes b.0 b.2))

      few : length b.1 ≤ 3
      few = let whole : length (rest ++ b.1) ≡ length (spelling b.0) = ap length b.4 in omega (arith, whole, length-append rest b.1, spelling_short b.0, some)

      of : (m : ℕ) → length b.1 ≡ m → IsCompleted m
      of m e = (b.1, e, are, (b.0, b.2, b.4))

      by : (more : List ℕ) → more ≢ [] → b.1 ≡ more → ⊥
      by [] ne e = ne refl
      by (x ∷ []) ne e = one (of 1 (ap length e))
      by (x ∷ y ∷ []) ne e = two (of 2 (ap length e))
      by (x ∷ y ∷ z ∷ []) ne e = three (of 3 (ap length e))
      by (x ∷ y ∷ z ∷ w ∷ more) ne e = let size = ap length e in absurd (omega (arith, size, few))

  is_part : 1 ≤ length rest → BeginsSpelling rest ⊎ (BeginsSpelling rest → ⊥)
  is_part some = by (completed 1) (completed 2) (completed 3)
    where
      by : IsCompleted 1 ⊎ (IsCompleted 1 → ⊥) → IsCompleted 2 ⊎ (IsCompleted 2 → ⊥)
          → IsCompleted 3 ⊎ (IsCompleted 3 → ⊥) → BeginsSpelling rest ⊎ (BeginsSpelling rest → ⊥)
      by (inl f) two three = inl (a_part 1 (omega arith) f)
      by (inr one) (inl f) three = inl (a_part 2 (omega arith) f)
      by (inr one) (inr two) (inl f) = inl (a_part 3 (omega arith) f)
      by (inr one) (inr two) (inr three) = inr (no_part some one two three)

-- ---- the decoding

module _ (bytes : List ℕ) (c : Cut bytes) where
  size : length bytes ≡ length (spellings c.commands) + length c.rest
  size = ap length c.bytes_are ∙ length-append (spellings c.commands) c.rest

  some_rest : (x : ℕ) (xs : List ℕ) → c.rest ≡ x ∷ xs → c.rest ≢ []
  some_rest x xs e f = let impossible = sym e ∙ f in cc

  of_part : c.rest ≢ [] → BeginsSpelling c.rest ⊎ (BeginsSpelling c.rest → ⊥)
      → (d : Result (List Command) NoTrace) × Decoding bytes d
  of_part some (inl part) = (Err (CutAt (length (spellings c.commands))), (c.rest, rest_of bytes c, some, size, part))
  of_part some (inr none) = (Err (BadAt (length (spellings c.commands))), (c.rest, rest_of bytes c, some, size, none))

  of_rest : (rest : List ℕ) → c.rest ≡ rest → (d : Result (List Command) NoTrace) × Decoding bytes d
  of_rest [] e = (Ok c.commands, (c.are, c.bytes_are ∙ (ap (λ (xs : List ℕ). spellings c.commands ++ xs) e ∙ append-nil (spellings c.commands))))
  of_rest (x ∷ xs) e = of_part (some_rest x xs e) (is_part c.rest (let size = ap length e in omega (arith, size)))

pub decoding_of : (bytes : List ℕ) → (d : Result (List Command) NoTrace) × Decoding bytes d
decoding_of bytes = let is_cut = cut (length bytes) bytes (omega arith) in of_rest bytes is_cut is_cut.rest refl

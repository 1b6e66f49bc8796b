-- Bytes in pieces: facts of their front hold of them all.
use Rattle.std.proofs.Common.{◌≡◌, ◌≢◌, ℕ, ◌+◌, ◌-◌, ◌<◌, ◌≤◌, min, refl, sym, ◌∙◌, ap, subst, inl, inr, arith, List, [], ◌∷◌, ◌++◌, length, take, drop}
use Rattle.std.specs.Prelude.{◌⊎◌, IsTrue, IsFalse}
use Rattle.std.proofs.lemmas.Bool.{cases_lt}
use Rattle.std.proofs.lemmas.List.{append_assoc, length-append, length-take, length-take-le, take-append-drop, take-append-le, take_all}
use Rattle.std.proofs.Math.Seq.{take-append-add}
use Rattle.nano_spec.specs.declared.commands.Command.{Command}
use Rattle.nano_spec.specs.Command.{IsCommand}
use Rattle.nano_spec.specs.Cutting.{BeginsSpelling}
use Rattle.nano_spec.specs.Spelling.{spelling}
use Rattle.trace_codec.specs.declared.decoder.Fed.{Fed}
use Rattle.trace_codec.specs.declared.decoder.Fed.TheVariants as fed
use Rattle.trace_codec.specs.declared.one.One.{One}
use Rattle.trace_codec.specs.declared.one.One.TheVariants.{Got, More, Bad}
use Rattle.trace_codec.specs.Decoder.{DecoderState, Completes, AnswersPiece}
use Rattle.trace_codec.specs.One.{Spells, BeginsWith, IsNoCommand}
use Rattle.trace_codec.proofs.Unique.{no_part, nil_of, same_command}
use Rattle.nano_spec.proofs.Lengths.{spelling_short}

-- ---- lengths

some : (xs : List ℕ) → xs ≢ [] → 1 ≤ length xs
some [] n = absurd (n refl)
some (x ∷ xs) n = omega arith

pub begins_short : (bytes : List ℕ) → BeginsSpelling bytes → length bytes < 4
begins_short bytes (c, more, i, n, e) =
    let same_length : length (bytes ++ more) ≡ length (spelling c) = ap length e in
    omega (arith, length-append bytes more, some more n, spelling_short c)

-- ---- bytes that go on

-- the shorter of two fronts of the same bytes is a prefix of the longer
prefix : (a b x y : List ℕ) → a ++ x ≡ b ++ y → length b ≤ length a → (r : List ℕ) × (a ≡ b ++ r)
prefix a [] x y e l = (a, refl)
prefix [] (v ∷ b) x y e l = absurd (omega arith)
prefix (u ∷ a) (v ∷ b) x y e l = by_tails (prefix a b x y (tails u v (a ++ x) (b ++ y) e) (omega arith)) (heads u v (a ++ x) (b ++ y) e)
  where
    tails : (u v : ℕ) (s t : List ℕ) → u ∷ s ≡ v ∷ t → s ≡ t
    tails u v s t e = cc

    heads : (u v : ℕ) (s t : List ℕ) → u ∷ s ≡ v ∷ t → u ≡ v
    heads u v s t e = cc

    by_tails : (r : List ℕ) × (a ≡ b ++ r) → u ≡ v → (r : List ℕ) × (u ∷ a ≡ (v ∷ b) ++ r)
    by_tails (r, p) q = (r, λ i. q i ∷ p i)

-- refused bytes are refused however they go on
pub refused_more : (bytes more : List ℕ) → IsNoCommand bytes → IsNoCommand (bytes ++ more)
refused_more bytes more h = (none, part)
  where
    longer : (c : Command) (r : List ℕ) → length bytes < length (spelling c) → spelling c ≡ bytes ++ r → r ≢ []
    longer c r l e n = let same_length : length (spelling c) ≡ length (bytes ++ []) = ap length (e ∙ ap (λ x. bytes ++ x) n) in omega (arith, length-append bytes [])

    at : (c : Command) (y : List ℕ) → IsCommand c → bytes ++ more ≡ spelling c ++ y
        → (length bytes < length (spelling c)) ⊎ (length (spelling c) ≤ length bytes) → ⊥
    at c y i e (inl l) =
        let is_prefix = prefix (spelling c) bytes y more (sym e) (omega arith) in
        h.1 (c, is_prefix.0, i, longer c is_prefix.0 l is_prefix.1, sym is_prefix.1)
    at c y i e (inr l) = let is_prefix = prefix bytes (spelling c) more y e l in h.0 c is_prefix.0 i is_prefix.1

    none : (c : Command) (y : List ℕ) → IsCommand c → bytes ++ more ≡ spelling c ++ y → ⊥
    none c y i e = at c y i e (cases_lt (length bytes) (length (spelling c)))

    part : BeginsSpelling (bytes ++ more) → ⊥
    part (c, m, i, n, e) = h.1 (c, more ++ m, i, λ z. n (nil_of more m z), sym (append_assoc bytes more m) ∙ e)

-- four bytes determine the beginning of all their extensions
pub says_more : (front rest : List ℕ) (one : One) → 4 ≤ length front → BeginsWith front one
    → BeginsWith (front ++ rest) one
says_more front rest (Got c n) l s = record {
  is_command = s.is_command;
  within = let within = s.within in omega (arith, length-append front rest);
  spelling_is = take-append-le n front rest s.within ∙ s.spelling_is;
}
says_more front rest More l s = let short_front = begins_short front s in absurd (omega arith)
says_more front rest Bad l s = refused_more front rest s

-- the held bytes, and as many of the piece as make four, determine the beginning of all of them
pub says_joined : (held piece bytes : List ℕ) (one : One) → length held < 4
    → bytes ≡ held ++ take (min (length piece) (4 - length held)) piece → BeginsWith bytes one
    → BeginsWith (held ++ piece) one
says_joined held piece bytes one l e s = by_length (min (length piece) (4 - length held)) refl (cases_lt (min (length piece) (4 - length held)) (length piece)) (subst (λ (b : List ℕ). BeginsWith b one) e s)
  where
    by_length : (n : ℕ) → n ≡ min (length piece) (4 - length held) → (n < length piece) ⊎ (length piece ≤ n)
        → BeginsWith (held ++ take n piece) one → BeginsWith (held ++ piece) one
    by_length n m (inl k) s =
        let four : 4 ≤ length (held ++ take n piece) = omega (arith, length-append held (take n piece), length-take n piece) in
        subst (λ (b : List ℕ). BeginsWith b one) (append_assoc held (take n piece) (drop n piece) ∙ ap (λ x. held ++ x) (take-append-drop n piece)) (says_more (held ++ take n piece) (drop n piece) one four s)
    by_length n m (inr k) s = subst (λ (b : List ℕ). BeginsWith (held ++ b) one) (take_all n piece k) s

-- if nothing is held, the piece does
pub says_alone : (held piece bytes : List ℕ) (one : One) → length held ≡ 0 → bytes ≡ piece → BeginsWith bytes one
    → BeginsWith (held ++ piece) one
says_alone [] piece bytes one l e s = subst (λ (b : List ℕ). BeginsWith b one) e s
says_alone (b ∷ held) piece bytes one l e s = absurd (omega arith)

-- ---- the answers of a decoder

-- a command that is whole now ends in the piece
pub ends_later : (held piece : List ℕ) (c : Command) (len : ℕ) → BeginsSpelling held → Spells (held ++ piece) c len
    → length held < len
ends_later held piece c len b s = at (cases_lt (length held) len)
  where
    at : (length held < len) ⊎ (len ≤ length held) → length held < len
    at (inl l) = l
    at (inr l) =
        let front_is : take len held ≡ spelling c = sym (take-append-le len held piece l) ∙ s.spelling_is in
        absurd (no_part held (drop len held) c s.is_command (sym (take-append-drop len held) ∙ ap (λ x. x ++ drop len held) front_is) b)

pub completes : (decoder : DecoderState) (piece : List ℕ) (c : Command) (len used : ℕ) → IsFalse decoder.failed
    → BeginsSpelling decoder.held → Spells (decoder.held ++ piece) c len → used ≡ len - length decoder.held
    → Completes decoder piece c used
completes decoder piece c len used f b s e =
    let ends_later_here = ends_later decoder.held piece c len b s in
    let its_within = s.within in
    let len_is : len ≡ length decoder.held + used = omega arith in
    record {
      works = f;
      is_command = s.is_command;
      some = omega arith;
      within = omega (arith, length-append decoder.held piece);
      spelling_is = sym (take-append-add decoder.held piece used) ∙ (ap (λ k. take k (decoder.held ++ piece)) (sym len_is) ∙ s.spelling_is);
    }

-- the held bytes and the piece are a command's spelling and the rest of the piece
pub fed_split : (decoder : DecoderState) (piece : List ℕ) (c : Command) (used : ℕ) → Completes decoder piece c used
    → decoder.held ++ piece ≡ spelling c ++ drop used piece
fed_split decoder piece c used s =
    ap (λ x. decoder.held ++ x) (sym (take-append-drop used piece)) ∙ (sym (append_assoc decoder.held (take used piece) (drop used piece)) ∙ ap (λ x. x ++ drop used piece) s.spelling_is)

used_is : (decoder : DecoderState) (piece : List ℕ) (c : Command) (used : ℕ) → Completes decoder piece c used
    → length decoder.held + used ≡ length (spelling c)
used_is decoder piece c used s =
    let same_length : length (decoder.held ++ take used piece) ≡ length (spelling c) = ap length s.spelling_is in
    omega (arith, length-append decoder.held (take used piece), length-take-le used piece s.within)

not_both : (decoder : DecoderState) → IsFalse decoder.failed → IsTrue decoder.failed → ⊥
not_both decoder f t = cc

-- a decoder has only one answer to a piece
pub Answers-unique : (decoder : DecoderState) (piece : List ℕ) (a b : Fed) → AnswersPiece decoder piece a
    → AnswersPiece decoder piece b → a ≡ b
Answers-unique decoder piece (fed.Got c n) (fed.Got d m) s t =
    let command_is = same_command (decoder.held ++ piece) c d _ _ s.is_command t.is_command (fed_split decoder piece c n s) (fed_split decoder piece d m t) in
    let same_length : length (spelling c) ≡ length (spelling d) = ap (λ x. length (spelling x)) command_is in
    let used_bytes = used_is decoder piece c n s in
    let used_bytes_here = used_is decoder piece d m t in
    let n_is : n ≡ m = omega arith in
    λ i. fed.Got (command_is i) (n_is i)
Answers-unique decoder piece (fed.Got c n) fed.All s t = absurd (no_part (decoder.held ++ piece) (drop n piece) c s.is_command (fed_split decoder piece c n s) t.1)
Answers-unique decoder piece (fed.Got c n) (fed.Bad o) s (e, inl f) = absurd (not_both decoder s.works f)
Answers-unique decoder piece (fed.Got c n) (fed.Bad o) s (e, inr r) = absurd (r.0 c (drop n piece) s.is_command (fed_split decoder piece c n s))
Answers-unique decoder piece fed.All (fed.Got d m) s t = absurd (no_part (decoder.held ++ piece) (drop m piece) d t.is_command (fed_split decoder piece d m t) s.1)
Answers-unique decoder piece fed.All fed.All s t = refl
Answers-unique decoder piece fed.All (fed.Bad o) s (e, inl f) = absurd (not_both decoder s.0 f)
Answers-unique decoder piece fed.All (fed.Bad o) s (e, inr r) = absurd (r.1 s.1)
Answers-unique decoder piece (fed.Bad o) (fed.Got d m) (e, inl f) t = absurd (not_both decoder t.works f)
Answers-unique decoder piece (fed.Bad o) (fed.Got d m) (e, inr r) t = absurd (r.0 d (drop m piece) t.is_command (fed_split decoder piece d m t))
Answers-unique decoder piece (fed.Bad o) fed.All (e, inl f) t = absurd (not_both decoder t.0 f)
Answers-unique decoder piece (fed.Bad o) fed.All (e, inr r) t = absurd (r.1 t.1)
Answers-unique decoder piece (fed.Bad o) (fed.Bad p) s t = ap fed.Bad (s.0 ∙ sym t.0)

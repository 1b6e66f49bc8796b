-- The bytes that a decoder has taken of pieces one after another.
use Rattle.std.proofs.Common.{◌≡◌, ℕ, sym, ◌∙◌, ap, subst, List, [], ◌∷◌, ◌++◌, take, drop}
use Rattle.std.specs.Prelude.{flat_map}
use Rattle.std.proofs.lemmas.List.{append-nil, append_assoc, take-append-drop}
use Rattle.nano_spec.specs.declared.commands.Command.{Command}
use Rattle.trace_codec.specs.declared.decoder.Fed.TheVariants as fed
use Rattle.trace_codec.specs.Decoder.{DecoderState, HasTaken, decoder_after}
use Rattle.trace_codec.specs.Pieces.{Feeds, TakesPiece, all, first, got, later, nothing_left}
use Rattle.trace_codec.proofs.TakenBytes.{taken_all, taken_got, taken_nothing}

-- one more piece
piece_taken : (bytes piece : List ℕ) (commands more : List Command) (decoder last : DecoderState)
    → HasTaken bytes commands decoder → TakesPiece decoder piece more last
    → HasTaken (bytes ++ piece) (commands ++ more) last
piece_taken bytes piece commands more decoder last h (nothing_left e f g) =
    subst (λ (d : DecoderState). HasTaken (bytes ++ piece) (commands ++ more) d) (sym g)
    (subst (λ (b : List ℕ). HasTaken b (commands ++ more) decoder) (sym (append-nil bytes) ∙ ap (λ (p : List ℕ). bytes ++ p) (sym e))
    (subst (λ (k : List Command). HasTaken bytes k decoder) (sym (append-nil commands) ∙ ap (λ (k : List Command). commands ++ k) (sym f)) h))
piece_taken bytes piece commands more decoder last h (all answers f g) =
    subst (λ (d : DecoderState). HasTaken (bytes ++ piece) (commands ++ more) d) (sym g)
    (subst (λ (k : List Command). HasTaken (bytes ++ piece) k (decoder_after decoder piece fed.All)) (sym (append-nil commands) ∙ ap (λ (k : List Command). commands ++ k) (sym f))
    (taken_all bytes piece commands decoder h answers.1))
piece_taken bytes piece commands more decoder last h (got command used rest answers takes f) =
    let one = taken_got bytes piece commands decoder command used h answers in
    let on = piece_taken (bytes ++ take used piece) (drop used piece) (commands ++ command ∷ []) rest (decoder_after decoder piece (fed.Got command used)) last one takes in
    subst (λ (b : List ℕ). HasTaken b (commands ++ more) last) (append_assoc bytes (take used piece) (drop used piece) ∙ ap (λ (p : List ℕ). bytes ++ p) (take-append-drop used piece))
    (subst (λ (k : List Command). HasTaken ((bytes ++ take used piece) ++ drop used piece) k last) (append_assoc commands (command ∷ []) rest ∙ ap (λ (k : List Command). commands ++ k) (sym f)) on)

joined_more : (pieces : List (List ℕ)) (piece : List ℕ) → flat_map (λ (p : List ℕ). p)
    (pieces ++ piece ∷ []) ≡ flat_map (λ (p : List ℕ). p) pieces ++ piece
joined_more [] piece = append-nil piece
joined_more (p ∷ pieces) piece = ap (λ (more : List ℕ). p ++ more) (joined_more pieces piece) ∙ sym (append_assoc p (flat_map (λ (q : List ℕ). q) pieces) piece)

-- pieces fed one after another are taken as their concatenation
pub pieces_taken : (pieces : List (List ℕ)) (commands : List Command) (decoder : DecoderState)
    → Feeds pieces commands decoder → HasTaken (flat_map (λ (p : List ℕ). p) pieces) commands decoder
pieces_taken pieces commands decoder (first e f g) = rw (e, f, g) taken_nothing
pieces_taken pieces commands decoder (later before given old piece more feeds takes e f) =
    let one = piece_taken (flat_map (λ (p : List ℕ). p) before) piece given more old decoder (pieces_taken before given old feeds) takes in
    subst (λ (k : List Command). HasTaken (flat_map (λ (p : List ℕ). p) pieces) k decoder) (sym f)
    (subst (λ (b : List ℕ). HasTaken b (given ++ more) decoder) (sym (joined_more before piece) ∙ ap (flat_map (λ (p : List ℕ). p)) (sym e)) one)

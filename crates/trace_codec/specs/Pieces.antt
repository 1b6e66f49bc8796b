-- Pieces of a trace, fed one after another to a decoder.
use Rattle.std.specs.Prelude.{◌≡◌, ℕ, List, [], ◌∷◌, ◌++◌, drop}
use Rattle.nano_spec.specs.declared.commands.Command.{Command}
use Rattle.trace_codec.specs.declared.decoder.Fed.TheVariants as fed
use Rattle.trace_codec.specs.Decoder.{AnswersPiece, DecoderState, decoder_after, fresh}

-- a decoder takes a piece whole: it returns the commands, one after another, and ends as the last decoder
pub data TakesPiece : DecoderState → List ℕ → List Command → DecoderState → Type 0 where
  nothing_left : {decoder last : DecoderState} {piece : List ℕ} {commands : List Command} → piece ≡ [] → commands ≡ []
      → last ≡ decoder → TakesPiece decoder piece commands last
  all : {decoder last : DecoderState} {piece : List ℕ} {commands : List Command} → AnswersPiece decoder piece fed.All
      → commands ≡ [] → last ≡ decoder_after decoder piece fed.All → TakesPiece decoder piece commands last
  got : {decoder last : DecoderState} {piece : List ℕ} {commands : List Command} (command : Command) (used : ℕ)
      (more : List Command) → AnswersPiece decoder piece (fed.Got command used)
      → TakesPiece (decoder_after decoder piece (fed.Got command used)) (drop used piece) more last
      → commands ≡ command ∷ more → TakesPiece decoder piece commands last

-- the pieces are fed one after another from the start; the decoder returns the commands and has this state then
pub data Feeds : List (List ℕ) → List Command → DecoderState → Type 0 where
  first : {pieces : List (List ℕ)} {commands : List Command} {decoder : DecoderState} → pieces ≡ [] → commands ≡ []
      → decoder ≡ fresh → Feeds pieces commands decoder
  later : {pieces : List (List ℕ)} {commands : List Command} {decoder : DecoderState} (before : List (List ℕ))
      (given : List Command) (old : DecoderState) (piece : List ℕ) (more : List Command) → Feeds before given old
      → TakesPiece old piece more decoder → pieces ≡ before ++ piece ∷ [] → commands ≡ given ++ more
      → Feeds pieces commands decoder

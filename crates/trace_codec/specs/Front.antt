-- The part that a decoder takes of a piece that begins with a command.
use Rattle.std.specs.Prelude.{◌≡◌, ℕ, List}
use Rattle.trace_codec.specs.declared.decoder.Fed.TheVariants as fed
use Rattle.trace_codec.specs.declared.one.One.{One}
use Rattle.trace_codec.specs.declared.one.One.TheVariants.{Got, More, Bad}
use Rattle.trace_codec.specs.Decoder.{Completes, DecoderState, decoder_after}

-- it takes a command whose whole spelling is there, and otherwise stays as it is
abbrev pub TakesWhole : DecoderState → List ℕ → One → DecoderState → Type 0
TakesWhole old piece (Got command len) new =
    Completes old piece command len × (new ≡ decoder_after old piece (fed.Got command len))
TakesWhole old piece More new = new ≡ old
TakesWhole old piece Bad new = new ≡ old

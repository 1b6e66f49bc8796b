use Rattle.std.proofs.Common.{◌∷◌, [], ◌∙◌, rules}
use Rattle.std.specs.Int.{from_le_bytes, w64}
use Rattle.model_file.proofs.Octets.{word_of}
use Rattle.model_file.proofs.first_form.word.Goals as goal

pub returns-then-bytes-at-lt8 : goal.returns-then-bytes-at-lt8
returns-then-bytes-at-lt8 c = word_of c.args.bytes.now c.args.at c.from_le_bytes.result (search rules) (c.from_le_bytes.ensures
    ∙ (λ i. from_le_bytes w64 (c.byte_or_zero.ensures i ∷ c.byte_or_zero-then-bytes-at-lt8.ensures i ∷ c.byte_or_zero-then-bytes-at-lt8-2.ensures i ∷ c.byte_or_zero-then-bytes-at-lt8-3.ensures i ∷ c.byte_or_zero-then-bytes-at-lt8-4.ensures i ∷ c.byte_or_zero-then-bytes-at-lt8-5.ensures i ∷ c.byte_or_zero-then-bytes-at-lt8-6.ensures i ∷ c.byte_or_zero-then-bytes-at-lt8-7.ensures i ∷ [])))

pub returns : goal.returns
returns c = word_of c.args.bytes.now c.args.at c.from_le_bytes-2.result (search rules) c.from_le_bytes-2.ensures

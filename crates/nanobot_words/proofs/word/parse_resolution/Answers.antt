use Rattle.std.proofs.Common.{◌∙◌, arith, sym}
use Rattle.std.proofs.lemmas.Fmt.{decimal_injective}
use Rattle.nanobot_words.proofs.word.parse_resolution.Goals as goal

pub returns-then-number-lt1 : goal.returns-then-number-lt1
returns-then-number-lt1 c = λ r low high e. let same = decimal_injective r c.in_ok-number.number (omega arith) (omega arith) (sym e ∙ c.in_ok-number.ensures {u = tt}) in omega (arith, same)

pub returns-then-number-from : goal.returns-then-number-from
returns-then-number-from c = λ r low high e. let same = decimal_injective r c.in_ok-number.number (omega arith) (omega arith) (sym e ∙ c.in_ok-number.ensures {u = tt}) in omega (arith, same)

use Rattle.std.proofs.Common.{◌≡◌, Bool, true, false, cond, arith, refl, ◌∙◌}
use mir.Val.{bool_byte}
use Rattle.model_forge.proofs.Bits.{word_more}
use Rattle.model_forge.proofs.rows.column_bits.Goals as goal

byte_is : (b : Bool) → bool_byte b ≡ cond b 1 0
byte_is true = refl
byte_is false = refl

pub loop-k-preserved : goal.loop-k-preserved
loop-k-preserved c = word_more _ c.loop-k.k c.from.result _ _ c.loop-k.invariant (omega arith) (c.from.ensures ∙ byte_is _) refl

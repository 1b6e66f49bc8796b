use Rattle.std.proofs.Common.{false, refl}
use Rattle.std.specs.Prelude.{IsTrue}
use Rattle.trace_codec.proofs.Far.{begins_far, are_small}
use Rattle.trace_codec.proofs.one.far_front.Goals as goal

pub returns-in_default : goal.returns-in_default
returns-in_default c = begins_far c.args.bytes.now c.in_default.len_below (c.if-are_raised.ensures.0 refl)

pub returns-in_default-2 : goal.returns-in_default-2
returns-in_default-2 c = λ f more rest is_far agrees. not_true (c.if-are_raised.ensures.1 (are_small c.args.bytes.now more rest f c.in_default.len_below is_far agrees))
  where
    not_true : IsTrue false → ⊥
    not_true e = cc

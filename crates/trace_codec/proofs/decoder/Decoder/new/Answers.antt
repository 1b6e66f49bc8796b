use Rattle.std.proofs.Common.{ℕ, List, subst, sym}
use Rattle.nano_spec.specs.Cutting.{BeginsSpelling}
use Rattle.trace_codec.proofs.Unique.{begins_nil}
use Rattle.trace_codec.proofs.decoder.Decoder.new.Goals as goal

pub invariant_of-result : goal.invariant_of-result
invariant_of-result c = subst (λ (b : List ℕ). BeginsSpelling b) (sym c.new.ensures) begins_nil

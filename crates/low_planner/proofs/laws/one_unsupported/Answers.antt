use Rattle.std.specs.Prelude.{IsTrue}
use Rattle.nano_spec.specs.Matrix.{all_of, is_full}
use Rattle.nano_spec.proofs.Unique.{FirstFailing-unique}
use Rattle.low_planner.specs.Supported.{IsSupported}
use Rattle.low_planner.proofs.laws.one_unsupported.Goals as goal

pub returns : goal.returns
returns c = λ m a b h k. FirstFailing-unique (λ d. IsTrue (is_full m d) → IsSupported m d) (all_of m) a b h k

use Rattle.std.proofs.Common.{Bool, sym, subst, arith}
use Rattle.std.specs.Int.{bit_not, w64}
use Rattle.vox_planes.specs.Bits.{IsMarked}
use Rattle.vox_planes.proofs.Searches.{mark_other}
use Rattle.vox_planes.proofs.planes.regions.mark.Goals as goal

pub returns-else-value : goal.returns-else-value
returns-else-value c = subst (λ (b : Bool). IsMarked c.args.word (bit_not w64 c.args.word) b) (sym c.if-value.false) (mark_other c.args.word (omega arith))

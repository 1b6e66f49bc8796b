use Rattle.step_groups.proofs.Couples.{of_slices}
use Rattle.step_groups.proofs.pairs.find_shared.Goals as goal

pub returns : goal.returns
returns c = λ r h. of_slices r c.args.group.now c.args.other.now c.as_slice.result.now c.as_slice-2.result.now c.clash.result c.as_slice.ensures.value c.as_slice-2.ensures.value h (c.clash.ensures r)

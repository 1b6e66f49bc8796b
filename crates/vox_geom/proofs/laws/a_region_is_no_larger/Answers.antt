use Rattle.vox_geom.proofs.Counts.{region_count_most}
use Rattle.vox_geom.proofs.laws.a_region_is_no_larger.Goals as goal

pub returns : goal.returns
returns c = region_count_most

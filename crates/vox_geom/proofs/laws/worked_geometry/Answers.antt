use Rattle.vox_geom.proofs.Examples.{worked_coordinates, worked_differences, worked_regions}
use Rattle.vox_geom.proofs.laws.worked_geometry.Goals as goal

pub returns-clause-differences : goal.returns-clause-differences
returns-clause-differences c = worked_differences

pub returns-clause-coordinates : goal.returns-clause-coordinates
returns-clause-coordinates c = worked_coordinates

pub returns-clause-regions : goal.returns-clause-regions
returns-clause-regions c = worked_regions

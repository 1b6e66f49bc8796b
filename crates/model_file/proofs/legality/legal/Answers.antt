use Rattle.std.proofs.Common.{◌≡◌, ◌∙◌, ◌&&◌, not, refl, subst, Option}
use Rattle.vox_geom.specs.declared.coordinate.Coord.{Coord}
use Rattle.vox_geom.specs.Least.{LeastOf}
use Rattle.vox_geom.proofs.Firsts.{first_is}
use Rattle.nano_spec.specs.Grounded.{FirstUngrounded}
use Rattle.nano_spec.specs.Legal.{first_outside, floats_inside, in_legal_box, leaves_box, stands_inside}
use Rattle.nano_spec.specs.Matrix.{Matrix, is_full}
use Rattle.model_file.proofs.legality.legal.Goals as goal

-- the least full voxel outside the box, as it was found
found : (m : Matrix) (o : Option Coord) → LeastOf m.resolution (λ c. is_full m c && not (in_legal_box m.resolution c)) o
    → first_outside m ≡ o
found m o least = first_is m.resolution (λ c. is_full m c && not (in_legal_box m.resolution c)) o least

pub returns-in-Some : goal.returns-in-Some
returns-in-Some c =
    leaves_box c.in-Some.at (found c.args.planes.now c.first_outside.result c.first_outside.ensures ∙ c.in-Some.is) refl

pub returns-in-Some-2 : goal.returns-in-Some-2
returns-in-Some-2 c =
    floats_inside c.in-Some-2.at (found c.args.planes.now c.first_outside.result c.first_outside.ensures ∙ c.in_default.is)
    (subst (λ (o : Option Coord). FirstUngrounded c.args.planes.now o) c.in-Some-2.is c.in_ok-at.ensures) refl

pub returns-in-None : goal.returns-in-None
returns-in-None c =
    stands_inside (found c.args.planes.now c.first_outside.result c.first_outside.ensures ∙ c.in_default.is)
    (subst (λ (o : Option Coord). FirstUngrounded c.args.planes.now o) c.in-None.is c.in_ok-at.ensures) refl

use Rattle.std.proofs.Common.{◌≡◌, ◌+◌, ◌≤◌, ◌∙◌, ap, subst, sym}
use Rattle.vox_geom.specs.Point.{point}
use Rattle.vox_geom.specs.Region.{span}
use Rattle.void_planner.specs.Tiles.{far_of}
use Rattle.void_planner.proofs.Regions.{in_tile, none_found}
use Rattle.void_planner.proofs.tiles.is_void.Goals as goal

pub returns : goal.returns
returns c = λ t d a b e f h.
    let at = c.args.at in
    let far : c.far-far.result ≡ far_of c.args.planes.now.resolution = c.far-far.ensures ∙ ap far_of c.resolution.ensures.value in
    let within = in_tile c.far-far.result at d a (subst (λ n. d.x ≤ at.x + n) (sym far) b) e f (subst (λ n. d.z ≤ at.z + n) (sym far) h) in
    none_found c.args.planes.now (span c.of.result) c.first_full.result c.is_none.result c.is_none.ensures c.first_full.ensures t d (c.of.ensures.covers (point d) ∙ within)

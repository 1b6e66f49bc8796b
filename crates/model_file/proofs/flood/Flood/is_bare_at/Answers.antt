use Rattle.std.proofs.Common.{◌-◌, ◌+◌, ◌≡◌, ◌∙◌, ap, arith, not}
use Rattle.vox_geom.specs.Region.{corners}
use Rattle.model_file.proofs.Boxes.{no_answer, none_in_layers, over_corner, under_corner}
use Rattle.model_file.proofs.flood.Flood.is_bare_at.Goals as goal

pub returns : goal.returns
returns g c none d from to =
    let left = c.args.self.now.remaining in
    let some = c.resolution-end.ensures.whole in
    let difference = c.resolution-end.result - 1 in
    let end : difference + 1 ≡ left.resolution = omega (arith, some.some, c.resolution-end.ensures.value) in
    let corners_are : c.of.result ≡ corners (under_corner c.args.y) (over_corner c.args.y difference) =
    c.of.ensures.corners ∙ (λ i. corners (record { x = 0; y = c.max.ensures i - 1; z = 0 }) (record { x = difference; y = c.min.ensures i; z = difference })) in
    none_in_layers left c.of.result c.args.y difference c.region_full.result c.requires end corners_are c.region_full.ensures.value
    (no_answer c.region_full.result (c.is_none.ensures ∙ ap not none)) d from to

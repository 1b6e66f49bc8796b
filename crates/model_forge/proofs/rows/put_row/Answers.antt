use Rattle.std.proofs.Common.{◌≡◌, ◌+◌, ◌-◌, ◌*◌, sym, ◌∙◌, length, arith, refl}
use Rattle.std.specs.Prelude.{nat_lt, slice_index}
use Rattle.vox_geom.specs.Space.{place}
use Rattle.vox_planes.proofs.Placed.{put_from}
use Rattle.model_forge.specs.Forging.{row_place}
use Rattle.model_forge.proofs.InRow.{roofed, row_forged, unroofed}
use Rattle.model_forge.proofs.rows.put_row.Goals as goal

pub returns-then-y-tower-clause-forged : goal.returns-then-y-tower-clause-forged
returns-then-y-tower-clause-forged c = λ number are begun.
    let planes = c.args.planes.now in
    let side : c.from-r.result ≡ c.args.planes.now.resolution = c.from-r.ensures ∙ c.resolution.ensures.value in
    let from : (c.from.result * c.from-r.result + c.from-2.result) * c.from-r.result + 1 ≡ row_place c.args.planes.now.resolution c.args.x c.args.y + 1 = λ i. (c.from.ensures i * side i + c.from-2.ensures i) * side i + 1 in
    let columns = put_from planes c.put_columns.new.planes _ _ _ (λ k. nat_lt c.args.y (slice_index c.args.heights.now k))
    (let at_row : place planes.resolution (record { x = c.args.x; y = c.args.y; z = 1 }) ≡ row_place planes.resolution c.args.x c.args.y + 1 = omega arith in at_row ∙ sym from) c.put_columns.ensures.places in
    let most : c.from-r.result - 2 ≡ length c.args.heights.now = omega (arith, side, c.requires.count) in
    row_forged number c.args.tower planes.resolution c.args.x c.args.y c.requires.x_low c.requires.x_high c.requires.y c.args.heights.now c.requires.count are planes c.put_roof.new.planes _ from
    refl (c.put_roof.ensures.resolution ∙ c.put_columns.ensures.resolution)
    (roofed number c.args.tower planes.resolution c.args.x c.args.y c.requires.x_low c.requires.x_high c.requires.y c.args.heights.now c.requires.count are planes c.put_roof.new.planes _ from
    c.put_columns.new.planes _ most c.if-y-tower.true columns c.put_roof.ensures.places) begun

pub returns-else-y-tower-clause-forged : goal.returns-else-y-tower-clause-forged
returns-else-y-tower-clause-forged c = λ number are begun.
    let planes = c.args.planes.now in
    let side : c.from-r.result ≡ c.args.planes.now.resolution = c.from-r.ensures ∙ c.resolution.ensures.value in
    let from : (c.from.result * c.from-r.result + c.from-2.result) * c.from-r.result + 1 ≡ row_place c.args.planes.now.resolution c.args.x c.args.y + 1 = λ i. (c.from.ensures i * side i + c.from-2.ensures i) * side i + 1 in
    let columns = put_from planes c.put_columns.new.planes _ _ _ (λ k. nat_lt c.args.y (slice_index c.args.heights.now k))
    (let at_row : place planes.resolution (record { x = c.args.x; y = c.args.y; z = 1 }) ≡ row_place planes.resolution c.args.x c.args.y + 1 = omega arith in at_row ∙ sym from) c.put_columns.ensures.places in
    row_forged number c.args.tower planes.resolution c.args.x c.args.y c.requires.x_low c.requires.x_high c.requires.y c.args.heights.now c.requires.count are planes c.put_columns.new.planes _ from
    refl c.put_columns.ensures.resolution
    (unroofed number c.args.tower planes.resolution c.args.x c.args.y c.requires.x_low c.requires.x_high c.requires.y c.args.heights.now c.requires.count are planes c.put_columns.new.planes _ from
    c.if-y-tower.false columns) begun

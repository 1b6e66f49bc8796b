use Rattle.std.proofs.Common.{◌-◌, ◌+◌, ◌≡◌, arith, ◌&&◌, ◌||◌}
use Rattle.nano_spec.specs.Matrix.{is_full}
use Rattle.model_file.proofs.Boxes.{box_least, end_corner, zero_corner, left_box, right_box, front_box, back_box, top_box, least_outside}
use Rattle.model_file.proofs.least.first_outside_in.Goals as goal

pub returns : goal.returns
returns g c =
    let planes = c.args.planes.now in
    let some = c.resolution-end.ensures.whole in
    let difference = c.resolution-end.result - 1 in
    let end : difference + 1 ≡ planes.resolution = omega (arith, some.some, c.resolution-end.ensures.value) in
    let left = box_least planes c.of.result zero_corner (record { x = 0; y = difference; z = difference }) c.region_full-left.result c.of.ensures.corners (omega arith) (omega arith) (omega arith) c.region_full-left.ensures.value in
    let right = box_least planes c.of-2.result (record { x = difference; y = 0; z = 0 }) (end_corner difference) c.region_full-right.result c.of-2.ensures.corners (omega arith) (omega arith) (omega arith) c.region_full-right.ensures.value in
    let front = box_least planes c.of-3.result zero_corner (record { x = difference; y = difference; z = 0 }) c.region_full-front.result c.of-3.ensures.corners (omega arith) (omega arith) (omega arith) c.region_full-front.ensures.value in
    let back = box_least planes c.of-4.result (record { x = 0; y = 0; z = difference }) (end_corner difference) c.region_full-back.result c.of-4.ensures.corners (omega arith) (omega arith) (omega arith) c.region_full-back.ensures.value in
    let top = box_least planes c.of-5.result (record { x = 0; y = difference; z = 0 }) (end_corner difference) c.region_full-top.result c.of-5.ensures.corners (omega arith) (omega arith) (omega arith) c.region_full-top.ensures.value in
    let earlier_least = c.earlier.ensures.least planes.resolution (λ k. is_full planes k && left_box difference k) (λ k. is_full planes k && right_box difference k) left right in
    let earlier_least_here = c.earlier-2.ensures.least planes.resolution (λ k. is_full planes k && front_box difference k) (λ k. is_full planes k && back_box difference k) front back in
    let sides = c.earlier-sides.ensures.least planes.resolution (λ k. (is_full planes k && left_box difference k) || (is_full planes k && right_box difference k)) (λ k. (is_full planes k && front_box difference k) || (is_full planes k && back_box difference k)) earlier_least earlier_least_here in
    let all = c.earlier-3.ensures.least planes.resolution (λ k. ((is_full planes k && left_box difference k) || (is_full planes k && right_box difference k)) || ((is_full planes k && front_box difference k) || (is_full planes k && back_box difference k))) (λ k. is_full planes k && top_box difference k) sides top in
    least_outside planes difference c.earlier-3.result end all

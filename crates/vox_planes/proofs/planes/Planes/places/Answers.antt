use Rattle.std.proofs.Common.{◌≡◌, ◌+◌, ◌*◌, ◌<◌, ◌≤◌, ◌^◌, ◌%◌, ap, arith, refl}
use Rattle.vox_geom.specs.declared.coordinate.Coord.{Coord}
use Rattle.vox_geom.specs.Space.{coordinate_at}
use Rattle.nano_spec.specs.Matrix.{Matrix}
use Rattle.nano_spec.specs.Model.{volume}
use Rattle.vox_planes.specs.Places.{voxel_at}
use Rattle.vox_planes.proofs.Placed.{bits_joined, joined_fits, read_voxels}
use Rattle.vox_planes.proofs.planes.Planes.places.Goals as goal

pub overflow_add-bits : goal.overflow_add-bits
overflow_add-bits g c =
    let bits = c.loop-done.invariant.bits in
    let few : c.loop-done.done + c.part-some.result ≤ 64 = omega (arith, c.part-some.ensures.most, c.requires.few) in
    let fits : c.loop-done.bits + c.bits_at.result * 2 ^ c.loop-done.done % 2 ^ 64 < 2 ^ 64 = joined_fits c.loop-done.bits c.bits_at.result c.loop-done.done c.part-some.result bits.below c.bits_at.ensures.below few in
    omega arith

pub loop-done-preserved : goal.loop-done-preserved
loop-done-preserved g c =
    let same_volume : volume c.self.inside.resolution ≡ volume c.args.self.now.resolution = ap (λ (m : Matrix). volume m.resolution) c.self.view_is in
    let same_z : c.of_place-c.result.z ≡ (coordinate_at c.self.inside.resolution (c.args.from + c.loop-done.done)).z = ap (λ (d : Coord). d.z) c.of_place-c.ensures.value in
    let inside = c.of_place-c.ensures.within in
    let few : c.loop-done.done + c.part-some.result ≤ 64 = omega (arith, c.part-some.ensures.most, c.requires.few) in
    record {
      bits = bits_joined c.loop-done.bits c.bits_at.result _ c.loop-done.done c.part-some.result (λ j. voxel_at c.args.self.now (c.args.from + j)) c.loop-done.invariant.bits c.bits_at.ensures.below
          (read_voxels c.self.inside.resolution c.self.inside.words.items c.deref.result.now c.args.self.now c.args.from c.loop-done.done c.part-some.result c.bits_at.result c.bit_index-index.result c.of_place-c.result c.self.view_is c.deref.ensures.value c.of_place-c.ensures.value c.bit_index-index.ensures.value
          (omega (arith, same_volume, c.requires.within, c.part-some.ensures.most)) (omega (arith, inside.z, c.part-some.ensures.row, c.from.ensures)) c.bits_at.ensures.bits)
          few refl;
      few = omega (arith, c.part-some.ensures.most);
      touches = omega (arith, c.loop-done.invariant.touches, c.tick.ensures, c.part-some.ensures.some);
    }

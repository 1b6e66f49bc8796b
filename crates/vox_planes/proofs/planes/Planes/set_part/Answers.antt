use Rattle.std.proofs.Common.{◌≡◌, ℕ, ◌+◌, ◌-◌, ◌/◌, ◌≤◌, ◌==◌, not, List, sym, ◌∙◌, ap, subst, arith, length, cond}
use Rattle.std.proofs.lemmas.List.{with_items_is}
use Rattle.vox_geom.specs.declared.coordinate.Coord.{Coord}
use Rattle.vox_geom.specs.Space.{coordinate_at, place}
use Rattle.nano_spec.specs.Matrix.{Matrix}
use Rattle.nano_spec.specs.Model.{bit, volume}
use Rattle.vox_planes.specs.Layers.{AreZeroFrom, bit_index}
use Rattle.vox_planes.specs.Places.{is_from, voxel_at}
use Rattle.vox_planes.proofs.Chunks.{ArePutBits, put_by}
use Rattle.vox_planes.proofs.Placed.{at_place, put_layered, put_voxels}
use Rattle.vox_planes.proofs.Ends.{end_with, zero_beside_put}
use Rattle.vox_planes.proofs.Voxels.{layered_whole}
use Rattle.vox_planes.proofs.planes.Planes.set_part.Goals as goal

abbrev from : (c : goal.After-self-2-1) → ℕ
from c = place c.args.self.now.resolution c.args.first

side : (c : goal.After-self-2-1) → c.self.inside.resolution ≡ c.args.self.now.resolution
side c = ap (λ (m : Matrix). m.resolution) c.self.view_is

first_at : (c : goal.After-self-2-1)
    → c.args.first ≡ coordinate_at c.self.inside.resolution (place c.args.self.now.resolution c.args.first)
first_at c = at_place _ _ c.args.first (side c) c.requires.within

put : (c : goal.After-self-2-1) → ArePutBits c.self.inside.words.items
    (Rattle.std.specs.Vec.with_items c.self.inside.words c.put_bits.new.words).items
    (bit_index c.self.inside.resolution (coordinate_at c.self.inside.resolution (from c))) c.part-count.result
    c.args.bits
put c =
    let length_is = c.put_bits.auto.words ∙ c.deref_mut.ensures.len in
    put_by c.self.inside.resolution (from c) c.args.first c.self.inside.words.items c.deref_mut.result.now c.put_bits.new.words _ c.bit_index-index.result c.part-count.result c.args.bits c.deref_mut.ensures.value (sym (with_items_is c.self.inside.words c.put_bits.new.words length_is)) (first_at c) c.bit_index-index.ensures.value c.put_bits.ensures.here c.put_bits.ensures.others

size : (c : goal.After-self-2-1)
    → length (Rattle.std.specs.Vec.with_items c.self.inside.words c.put_bits.new.words).items
    ≡ length c.self.inside.words.items
size c =
    let length_is = c.put_bits.auto.words ∙ c.deref_mut.ensures.len in
    ap length (with_items_is c.self.inside.words c.put_bits.new.words length_is) ∙ (c.put_bits.auto.words ∙ ap length c.deref_mut.ensures.value)

within : (c : goal.After-self-2-1) → from c + c.part-count.result ≤ volume c.self.inside.resolution
within c =
    let same_volume : volume c.self.inside.resolution ≡ volume c.args.self.now.resolution = ap (λ (m : Matrix). volume m.resolution) c.self.view_is in
    omega (arith, same_volume, c.requires.end, c.part-count.ensures.most)

row : (c : goal.After-self-2-1)
    → (coordinate_at c.self.inside.resolution (from c)).z + c.part-count.result ≤ c.self.inside.resolution
row c =
    let same_z : c.args.first.z ≡ (coordinate_at c.self.inside.resolution (from c)).z = ap (λ (d : Coord). d.z) (first_at c) in
    let inside = c.requires.within in
    omega (arith, inside.z, side c, c.part-count.ensures.row, c.from.ensures)

pub invariant_of-self : goal.invariant_of-self
invariant_of-self c = (
  put_layered c.self.inside.resolution c.self.inside.words.items _ (from c) c.part-count.result c.args.bits (within c) (row c) (put c) (size c) c.self.invariant.0,
  c.self.invariant.1,
  subst (λ (ws : List ℕ). AreZeroFrom ws c.end_after-self-inside.result) c.deref.ensures.value c.end_after-self-inside.ensures,
)

pub end_after-self-inside-requires-clause-zero : goal.end_after-self-inside-requires-clause-zero
end_after-self-inside-requires-clause-zero c =
    let from : ℕ = place c.args.self.now.resolution c.args.first in
    let first_at : c.args.first ≡ coordinate_at c.self.inside.resolution from = at_place _ _ c.args.first (ap (λ (m : Matrix). m.resolution) c.self.view_is) c.requires.within in
    let length_is = c.put_bits.auto.words ∙ c.deref_mut.ensures.len in
    let bits = put_by c.self.inside.resolution from c.args.first c.self.inside.words.items c.deref_mut.result.now c.put_bits.new.words _ c.bit_index-index.result c.part-count.result c.args.bits c.deref_mut.ensures.value (sym (with_items_is c.self.inside.words c.put_bits.new.words length_is)) first_at c.bit_index-index.ensures.value c.put_bits.ensures.here c.put_bits.ensures.others in
    let size = ap length (with_items_is c.self.inside.words c.put_bits.new.words length_is) ∙ (c.put_bits.auto.words ∙ ap length c.deref_mut.ensures.value) in
    let index : c.bit_index-index.result ≡ bit_index c.self.inside.resolution (coordinate_at c.self.inside.resolution from) = c.bit_index-index.ensures.value ∙ ap (bit_index c.self.inside.resolution) first_at in
    subst (λ (ws : List ℕ). AreZeroFrom ws (end_with c.self.inside.end (c.bit_index-index.result / 64) (not (c.args.bits == 0)))) (sym c.deref.ensures.value)
    (zero_beside_put c.self.inside.words.items _ (bit_index c.self.inside.resolution (coordinate_at c.self.inside.resolution from)) c.part-count.result c.args.bits c.self.inside.end (c.bit_index-index.result / 64) c.self.invariant.2 bits size (omega (arith, size, c.bit_index-index.ensures.below, c.self.invariant.0.whole)) (omega (arith, index, c.part-count.ensures.word)))

pub returns-clause-places : goal.returns-clause-places
returns-clause-places c = λ p.
    put_voxels c.self.inside.resolution c.self.inside.words.items _ (from c) c.part-count.result c.args.bits (within c) (row c) (put c) p
    ∙ ap (λ (m : Matrix). cond (is_from (from c) c.part-count.result p) (bit c.args.bits (p - (from c))) (voxel_at m p)) c.self.view_is

pub returns-clause-whole : goal.returns-clause-whole
returns-clause-whole c = layered_whole _ _ (put_layered c.self.inside.resolution c.self.inside.words.items _ (from c) c.part-count.result c.args.bits (within c) (row c) (put c) (size c) c.self.invariant.0)

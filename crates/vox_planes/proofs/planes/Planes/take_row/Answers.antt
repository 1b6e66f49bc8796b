use Rattle.std.proofs.Common.{◌≡◌, ◌+◌, ◌≤◌, ◌&&◌, not, ℕ, sym, ◌∙◌, ap, subst, length}
use Rattle.std.proofs.lemmas.List.{with_items_is}
use Rattle.vox_geom.specs.Space.{IsInSpace}
use Rattle.vox_geom.proofs.Truths.{first_of_two}
use Rattle.nano_spec.specs.Matrix.{Matrix, is_full}
use Rattle.nano_spec.specs.Model.{bit}
use Rattle.vox_planes.specs.Layers.{bit_index}
use Rattle.vox_planes.specs.Places.{is_marked}
use Rattle.vox_planes.specs.Walk.{at}
use Rattle.vox_planes.proofs.TakenBits.{AreTaken, row_layered, row_left, row_was, taken_by}
use Rattle.vox_planes.proofs.Ends.{zero_of_less}
use Rattle.vox_planes.proofs.Voxels.{layered_whole}
use Rattle.vox_planes.proofs.planes.Planes.take_row.Given.{Over}
use Rattle.vox_planes.proofs.planes.Planes.take_row.Goals as goal

taken : (g : Over) (c : goal.After-self-1 g) → AreTaken c.self.inside.words.items
    (Rattle.std.specs.Vec.with_items c.self.inside.words c.take_bits.new.words).items
    (bit_index c.self.inside.resolution c.args.first) c.args.count c.args.bits c.take_bits.result
taken g c =
    let length_is = c.take_bits.auto.words ∙ c.deref_mut.ensures.len in
    taken_by c.self.inside.resolution c.args.first c.self.inside.words.items c.deref_mut.result.now c.take_bits.new.words _ c.bit_index-index.result c.args.count c.args.bits c.take_bits.result c.deref_mut.ensures.value (sym (with_items_is c.self.inside.words c.take_bits.new.words length_is)) c.bit_index-index.ensures.value c.take_bits.ensures.below c.take_bits.ensures.was c.take_bits.ensures.left

size : (g : Over) (c : goal.After-self-1 g)
    → length (Rattle.std.specs.Vec.with_items c.self.inside.words c.take_bits.new.words).items
    ≡ length c.self.inside.words.items
size g c =
    let length_is = c.take_bits.auto.words ∙ c.deref_mut.ensures.len in
    ap length (with_items_is c.self.inside.words c.take_bits.new.words length_is) ∙ (c.take_bits.auto.words ∙ ap length c.deref_mut.ensures.value)

same : (g : Over) (c : goal.After-self-1 g) → c.args.self.now.resolution ≡ c.self.inside.resolution
same g c = ap (λ (m : Matrix). m.resolution) (sym c.self.view_is)

within : (g : Over) (c : goal.After-self-1 g) → IsInSpace c.self.inside.resolution c.args.first
within g c = subst (λ (n : ℕ). IsInSpace n c.args.first) (same g c) c.requires.within

row : (g : Over) (c : goal.After-self-1 g) → c.args.first.z + c.args.count ≤ c.self.inside.resolution
row g c = subst (λ (n : ℕ). c.args.first.z + c.args.count ≤ n) (same g c) c.requires.row

pub invariant_of-self : goal.invariant_of-self
invariant_of-self g c = (
  row_layered c.self.inside.resolution c.self.inside.words.items _ c.args.first c.args.count c.args.bits c.take_bits.result (within g c) (row g c) c.requires.few (taken g c) (size g c) c.self.invariant.0,
  c.self.invariant.1,
  zero_of_less c.self.inside.words.items _ c.self.inside.end c.self.invariant.2 (size g c) (λ i l t. first_of_two _ _ (sym ((taken g c).left i) ∙ t)),
)

pub returns-clause-was : goal.returns-clause-was
returns-clause-was g c = λ k l.
    row_was c.self.inside.resolution c.self.inside.words.items _ c.args.first c.args.count c.args.bits c.take_bits.result (within g c) (row g c) c.requires.few (taken g c) k l
    ∙ ap (λ (m : Matrix). bit c.args.bits k && is_full m (at c.args.first (c.args.first.z + k))) c.self.view_is

pub returns-clause-left : goal.returns-clause-left
returns-clause-left g c = λ d.
    row_left c.self.inside.resolution c.self.inside.words.items _ c.args.first c.args.count c.args.bits c.take_bits.result (within g c) (row g c) c.requires.few (taken g c) d
    ∙ ap (λ (m : Matrix). is_full m d && not (is_marked c.args.first c.args.count c.args.bits d)) c.self.view_is

pub returns-clause-whole : goal.returns-clause-whole
returns-clause-whole g c = layered_whole _ _ (row_layered c.self.inside.resolution c.self.inside.words.items _ c.args.first c.args.count c.args.bits c.take_bits.result (within g c) (row g c) c.requires.few (taken g c) (size g c) c.self.invariant.0)

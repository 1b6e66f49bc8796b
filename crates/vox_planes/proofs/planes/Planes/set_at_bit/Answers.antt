use Rattle.std.proofs.Common.{◌≡◌, ℕ, ◌/◌, List, sym, ◌∙◌, ap, subst, length}
use Rattle.std.proofs.lemmas.List.{with_items_is}
use Rattle.vox_geom.specs.Space.{IsInSpace}
use Rattle.nano_spec.specs.Matrix.{Matrix, is_full}
use Rattle.vox_planes.specs.Layers.{AreZeroFrom, bit_index}
use Rattle.vox_planes.specs.Voxel.{with_voxel}
use Rattle.vox_planes.proofs.Ends.{end_with, zero_beside_voxel}
use Rattle.vox_planes.proofs.Voxels.{IsChanged, IsLayered-changed, changed_by, full_here, full_others, layered-changed, layered_whole}
use Rattle.vox_planes.proofs.planes.Planes.set_at_bit.Goals as goal

within : (c : goal.After-self-2-1) → IsInSpace c.self.inside.resolution c.args.c
within c = subst (λ (n : ℕ). IsInSpace n c.args.c) (ap (λ (m : Matrix). m.resolution) (sym c.self.view_is)) c.requires.within

at_bit : (c : goal.After-self-2-1) → c.args.bit ≡ bit_index c.self.inside.resolution c.args.c
at_bit c = c.requires.bit ∙ ap (λ (m : Matrix). bit_index m.resolution c.args.c) (sym c.self.view_is)

changed : (c : goal.After-self-2-1) → IsChanged c.self.inside.words.items
    (Rattle.std.specs.Vec.with_items c.self.inside.words c.set_bit.new.words).items
    (bit_index c.self.inside.resolution c.args.c) c.args.full
changed c =
    let length_is = c.set_bit.auto.words ∙ c.deref_mut.ensures.len in
    changed_by c.self.inside.resolution c.args.c c.self.inside.words.items c.deref_mut.result.now c.set_bit.new.words _ c.args.bit c.args.full c.deref_mut.ensures.value (sym (with_items_is c.self.inside.words c.set_bit.new.words length_is)) (c.set_bit.auto.words ∙ ap length c.deref_mut.ensures.value) (at_bit c) c.set_bit.ensures.here c.set_bit.ensures.others

pub invariant_of-self : goal.invariant_of-self
invariant_of-self c = (
  IsLayered-changed _ c.self.inside.words.items _ c.args.c c.args.full c.self.invariant.0 (within c) (changed c),
  c.self.invariant.1,
  subst (λ (ws : List ℕ). AreZeroFrom ws c.end_after-self-inside.result) c.deref.ensures.value c.end_after-self-inside.ensures,
)

pub end_after-self-inside-requires-clause-zero : goal.end_after-self-inside-requires-clause-zero
end_after-self-inside-requires-clause-zero c =
    let length_is = c.set_bit.auto.words ∙ c.deref_mut.ensures.len in
    let inside = subst (λ (n : ℕ). IsInSpace n c.args.c) (ap (λ (m : Matrix). m.resolution) (sym c.self.view_is)) c.requires.within in
    let at_bit : c.args.bit ≡ bit_index c.self.inside.resolution c.args.c = c.requires.bit ∙ ap (λ (m : Matrix). bit_index m.resolution c.args.c) (sym c.self.view_is) in
    let one = changed_by c.self.inside.resolution c.args.c c.self.inside.words.items c.deref_mut.result.now c.set_bit.new.words _ c.args.bit c.args.full c.deref_mut.ensures.value (sym (with_items_is c.self.inside.words c.set_bit.new.words length_is)) (c.set_bit.auto.words ∙ ap length c.deref_mut.ensures.value) at_bit c.set_bit.ensures.here c.set_bit.ensures.others in
    subst (λ (ws : List ℕ). AreZeroFrom ws (end_with c.self.inside.end (c.args.bit / 64) c.args.full)) (sym c.deref.ensures.value)
    (zero_beside_voxel c.self.inside.resolution c.self.inside.words.items _ c.args.c c.args.full c.self.inside.end (c.args.bit / 64) inside c.self.invariant.0 c.self.invariant.2 one (ap (λ n. n / 64) at_bit))

pub returns-clause-value : goal.returns-clause-value
returns-clause-value c =
    layered-changed c.self.inside.resolution c.self.inside.words.items _ c.args.c c.args.full (within c) (changed c)
    ∙ ap (λ (m : Matrix). with_voxel m c.args.c c.args.full) c.self.view_is

pub returns-clause-here : goal.returns-clause-here
returns-clause-here c = full_here c.self.inside.resolution c.self.inside.words.items _ c.args.c c.args.full (within c) (changed c)

pub returns-clause-others : goal.returns-clause-others
returns-clause-others c = λ d n.
    full_others c.self.inside.resolution c.self.inside.words.items _ c.args.c c.args.full (within c) (changed c) d n
    ∙ ap (λ (m : Matrix). is_full m d) c.self.view_is

pub returns-clause-whole : goal.returns-clause-whole
returns-clause-whole c = layered_whole _ _ (IsLayered-changed _ c.self.inside.words.items _ c.args.c c.args.full c.self.invariant.0 (within c) (changed c))

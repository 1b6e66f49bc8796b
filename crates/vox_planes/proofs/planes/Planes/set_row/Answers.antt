use Rattle.std.proofs.Common.{◌≡◌, ℕ, ◌+◌, ◌*◌, ◌-◌, ◌/◌, ◌<◌, sym, ◌∙◌, ap, subst, arith, length, List}
use Rattle.std.proofs.Math.Arith.{digits_lt}
use Rattle.std.proofs.lemmas.List.{with_items_is}
use Rattle.std.proofs.lemmas.Nat.{mul-add-lt}
use Rattle.vox_geom.specs.Space.{IsInSpace}
use Rattle.nano_spec.specs.Matrix.{Matrix}
use Rattle.vox_planes.specs.Layers.{AreZeroFrom, bit_index, layer_words, layered}
use Rattle.vox_planes.specs.Painting.{IsPainted, is_in_row}
use Rattle.vox_planes.proofs.Filled.{filled_by}
use Rattle.vox_planes.proofs.Painting.{row_kept, row_painted}
use Rattle.vox_planes.proofs.Ends.{end_with, zero_beside_filled}
use Rattle.vox_planes.proofs.Voxels.{layered_whole}
use Rattle.vox_planes.proofs.planes.Planes.set_row.Goals as goal

pub invariant_of-self : goal.invariant_of-self
invariant_of-self g c =
    let length_is = c.set_bits-changed.auto.words ∙ c.deref_mut.ensures.len in
    let same : c.args.self.now.resolution ≡ c.self.inside.resolution = ap (λ (m : Matrix). m.resolution) (sym c.self.view_is) in
    let within = subst (λ (n : ℕ). IsInSpace n c.args.first) same c.requires.within in
    let filled = filled_by c.self.inside.words.items c.deref_mut.result.now c.set_bits-changed.new.words _ c.bit_index-index.result _ _ (c.args.last + 1 - c.args.first.z) c.args.full c.set_bits-changed.result c.deref_mut.ensures.value (sym (with_items_is c.self.inside.words c.set_bits-changed.new.words length_is)) c.bit_index-index.ensures.value (omega (arith, c.from-count.ensures, c.requires.order)) c.set_bits-changed.ensures.here c.set_bits-changed.ensures.others c.set_bits-changed.ensures.count in
    let size = ap length (with_items_is c.self.inside.words c.set_bits-changed.new.words length_is) ∙ (c.set_bits-changed.auto.words ∙ ap length c.deref_mut.ensures.value) in (
      row_kept c.self.inside.resolution c.args.first c.args.last c.self.inside.words.items _ c.args.full c.set_bits-changed.result within c.requires.order (omega (arith, same, c.requires.end)) filled size c.self.invariant.0,
      c.self.invariant.1,
      subst (λ (ws : List ℕ). AreZeroFrom ws c.end_after-self-inside.result) c.deref.ensures.value c.end_after-self-inside.ensures,
    )

pub end_after-self-inside-requires-clause-zero : goal.end_after-self-inside-requires-clause-zero
end_after-self-inside-requires-clause-zero g c =
    let length_is = c.set_bits-changed.auto.words ∙ c.deref_mut.ensures.len in
    let same : c.args.self.now.resolution ≡ c.self.inside.resolution = ap (λ (m : Matrix). m.resolution) (sym c.self.view_is) in
    let within = subst (λ (n : ℕ). IsInSpace n c.args.first) same c.requires.within in
    let filled = filled_by c.self.inside.words.items c.deref_mut.result.now c.set_bits-changed.new.words _ c.bit_index-index.result _ _ (c.args.last + 1 - c.args.first.z) c.args.full c.set_bits-changed.result c.deref_mut.ensures.value (sym (with_items_is c.self.inside.words c.set_bits-changed.new.words length_is)) c.bit_index-index.ensures.value (omega (arith, c.from-count.ensures, c.requires.order)) c.set_bits-changed.ensures.here c.set_bits-changed.ensures.others c.set_bits-changed.ensures.count in
    let size = ap length (with_items_is c.self.inside.words c.set_bits-changed.new.words length_is) ∙ (c.set_bits-changed.auto.words ∙ ap length c.deref_mut.ensures.value) in
    let row : c.args.first.x * c.self.inside.resolution + c.args.last < c.self.inside.resolution * c.self.inside.resolution = digits_lt within.x (omega (arith, same, c.requires.end)) in
    let last_index = mul-add-lt c.args.first.y (layer_words c.self.inside.resolution * 64) (c.args.first.x * c.self.inside.resolution + c.args.last) c.self.inside.resolution within.y (omega (arith, row)) in
    subst (λ (ws : List ℕ). AreZeroFrom ws (end_with c.self.inside.end ((c.bit_index-index.result + c.from.result) / 64) c.args.full)) (sym c.deref.ensures.value)
    (zero_beside_filled c.self.inside.words.items _ (bit_index c.self.inside.resolution c.args.first) (c.args.last + 1 - c.args.first.z) c.args.full c.set_bits-changed.result c.self.inside.end ((c.bit_index-index.result + c.from.result) / 64) c.self.invariant.2 filled size (omega (arith, size, c.self.invariant.0.whole, c.bit_index-index.ensures.value, c.from.ensures, c.requires.order, last_index)) (omega (arith, c.bit_index-index.ensures.value, c.from.ensures, c.requires.order)))

pub returns-clause-painted : goal.returns-clause-painted
returns-clause-painted g c =
    let length_is = c.set_bits-changed.auto.words ∙ c.deref_mut.ensures.len in
    let same : c.args.self.now.resolution ≡ c.self.inside.resolution = ap (λ (m : Matrix). m.resolution) (sym c.self.view_is) in
    let within = subst (λ (n : ℕ). IsInSpace n c.args.first) same c.requires.within in
    let filled = filled_by c.self.inside.words.items c.deref_mut.result.now c.set_bits-changed.new.words _ c.bit_index-index.result _ _ (c.args.last + 1 - c.args.first.z) c.args.full c.set_bits-changed.result c.deref_mut.ensures.value (sym (with_items_is c.self.inside.words c.set_bits-changed.new.words length_is)) c.bit_index-index.ensures.value (omega (arith, c.from-count.ensures, c.requires.order)) c.set_bits-changed.ensures.here c.set_bits-changed.ensures.others c.set_bits-changed.ensures.count in
    subst (λ (m : Matrix). IsPainted m (layered c.self.inside.resolution (Rattle.std.specs.Vec.with_items c.self.inside.words c.set_bits-changed.new.words).items) (is_in_row c.args.first c.args.last) c.args.full c.set_bits-changed.result) c.self.view_is
    (row_painted c.self.inside.resolution c.args.first c.args.last c.self.inside.words.items _ c.args.full c.set_bits-changed.result within c.requires.order (omega (arith, same, c.requires.end)) filled)

pub returns-clause-whole : goal.returns-clause-whole
returns-clause-whole g c =
    let length_is = c.set_bits-changed.auto.words ∙ c.deref_mut.ensures.len in
    let same : c.args.self.now.resolution ≡ c.self.inside.resolution = ap (λ (m : Matrix). m.resolution) (sym c.self.view_is) in
    let within = subst (λ (n : ℕ). IsInSpace n c.args.first) same c.requires.within in
    let filled = filled_by c.self.inside.words.items c.deref_mut.result.now c.set_bits-changed.new.words _ c.bit_index-index.result _ _ (c.args.last + 1 - c.args.first.z) c.args.full c.set_bits-changed.result c.deref_mut.ensures.value (sym (with_items_is c.self.inside.words c.set_bits-changed.new.words length_is)) c.bit_index-index.ensures.value (omega (arith, c.from-count.ensures, c.requires.order)) c.set_bits-changed.ensures.here c.set_bits-changed.ensures.others c.set_bits-changed.ensures.count in
    let size = ap length (with_items_is c.self.inside.words c.set_bits-changed.new.words length_is) ∙ (c.set_bits-changed.auto.words ∙ ap length c.deref_mut.ensures.value) in
    layered_whole _ _ (row_kept c.self.inside.resolution c.args.first c.args.last c.self.inside.words.items _ c.args.full c.set_bits-changed.result within c.requires.order (omega (arith, same, c.requires.end)) filled size c.self.invariant.0)

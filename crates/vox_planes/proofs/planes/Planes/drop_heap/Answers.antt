use Rattle.std.proofs.Common.{◌≡◌, ◌+◌, ◌*◌, ◌<◌, ◌≤◌, ℕ, List, sym, ◌∙◌, ap, subst, arith, length, not, ◌&&◌}
use Rattle.std.proofs.lemmas.List.{with_items_is}
use Rattle.vox_geom.proofs.Truths.{first_of_two}
use Rattle.nano_spec.specs.Matrix.{Matrix, is_full}
use Rattle.nano_spec.specs.Model.{volume}
use Rattle.vox_planes.specs.Heap.{goes, is_stacked}
use Rattle.vox_planes.specs.Layers.{IsLayered, is_set, layer_words, layered}
use Rattle.vox_planes.proofs.Stacks.{stacked_go, stacked_layered}
use Rattle.vox_planes.proofs.Ends.{zero_of_less}
use Rattle.vox_planes.proofs.Totals.{words_most}
use Rattle.vox_planes.proofs.Voxels.{layered_whole}
use Rattle.vox_planes.proofs.planes.Planes.drop_heap.Given.{Over}
use Rattle.vox_planes.proofs.planes.Planes.drop_heap.Goals as goal

-- the words that are left
abbrev left : (g : Over) (c : goal.After-self-1 g) → List ℕ
left g c = (Rattle.std.specs.Vec.with_items c.self.inside.words c.drop_stacked.new.left).items

-- both matrices have one resolution
same : (g : Over) (c : goal.After-self-1 g) → c.full.inside.resolution ≡ c.self.inside.resolution
same g c = ap (λ (m : Matrix). m.resolution) (c.full.view_is ∙ (sym c.requires ∙ sym c.self.view_is))

-- the other matrix has words of this resolution
layers : (g : Over) (c : goal.After-self-1 g) → IsLayered c.self.inside.resolution c.full.inside.words.items
layers g c = subst (λ (n : ℕ). IsLayered n c.full.inside.words.items) (same g c) c.full.invariant.0

copy : (g : Over) (c : goal.After-self-1 g) → layered c.self.inside.resolution c.self.inside.words.items
    ≡ layered c.self.inside.resolution c.full.inside.words.items
copy g c = c.self.view_is ∙ (c.requires ∙ (sym c.full.view_is ∙ ap (λ n. layered n c.full.inside.words.items) (same g c)))

items_are : (g : Over) (c : goal.After-self-1 g) → left g c ≡ c.drop_stacked.new.left
items_are g c = with_items_is c.self.inside.words c.drop_stacked.new.left (c.drop_stacked.auto.left ∙ c.deref_mut.ensures.len)

dropped : (g : Over) (c : goal.After-self-1 g) → (j : ℕ) → j < length c.full.inside.words.items * 64
    → is_set (left g c) j ≡ (is_set c.self.inside.words.items j
    && not (goes c.full.inside.words.items (left g c) (layer_words c.self.inside.resolution) j))
dropped g c = λ j l. by j l
  where
    -- the effect of the call, for the words before and after it
    layer_is : c.self.inside.layer ≡ layer_words c.self.inside.resolution
    layer_is = c.self.invariant.1

    by : (j : ℕ) → j < length c.full.inside.words.items * 64 → is_set (left g c) j ≡ (is_set c.self.inside.words.items j
        && not (goes c.full.inside.words.items (left g c) (layer_words c.self.inside.resolution) j))
    by j l =
        ap (λ ws. is_set ws j) (items_are g c)
        ∙ (c.drop_stacked.ensures.left j (omega (arith, l, ap length c.deref.ensures.value))
        ∙ (λ t. is_set (c.deref_mut.ensures.value t) j && not (goes (c.deref.ensures.value t) (sym (items_are g c) t) (layer_is t) j)))

size : (g : Over) (c : goal.After-self-1 g) → length (left g c) ≡ length c.full.inside.words.items
size g c =
    ap length (items_are g c)
    ∙ (c.drop_stacked.auto.left
    ∙ (ap length c.deref_mut.ensures.value ∙ (c.self.invariant.0.whole ∙ sym (let layers_here = layers g c in layers_here.whole))))

kept : (g : Over) (c : goal.After-self-1 g) → IsLayered c.self.inside.resolution (left g c)
kept g c =
    stacked_layered c.self.inside.resolution c.self.inside.words.items (left g c) c.full.inside.words.items (layers g c) (copy g c) (dropped g c) (size g c)
    (λ y i l m n. c.self.invariant.0.unused y i l m n)

pub invariant_of-self : goal.invariant_of-self
invariant_of-self g c = (
  kept g c,
  c.self.invariant.1,
  zero_of_less c.self.inside.words.items (left g c) c.self.inside.end c.self.invariant.2 same_size (λ i l t. first_of_two _ _ (sym (dropped g c i (omega (arith, l, ap (λ n. n * 64) (size g c)))) ∙ t)),
)
  where
    same_size : length (left g c) ≡ length c.self.inside.words.items
    same_size = size g c ∙ ((let layered_full = layers g c in layered_full.whole) ∙ sym c.self.invariant.0.whole)

pub returns-clause-left : goal.returns-clause-left
returns-clause-left g c = λ d.
    stacked_go c.self.inside.resolution c.self.inside.words.items (left g c) c.full.inside.words.items (layers g c) (copy g c) (dropped g c) d
    ∙ ap (λ (m : Matrix). is_full m d && not (is_stacked m d)) (sym (copy g c) ∙ (c.self.view_is ∙ c.requires))

pub returns-clause-whole : goal.returns-clause-whole
returns-clause-whole g c = layered_whole _ _ (kept g c)

pub returns-clause-touches : goal.returns-clause-touches
returns-clause-touches g c =
    let ws = c.full.inside.words.items in
    let most = words_most c.full.inside.resolution (length ws) c.full.invariant.0.some c.full.invariant.0.whole in
    subst (λ (m : Matrix). c.drop_stacked.new.steps ≤ c.args.steps.now + 4 * volume m.resolution) c.full.view_is
    (omega (arith, most, c.drop_stacked.ensures.touches, ap length c.deref.ensures.value))

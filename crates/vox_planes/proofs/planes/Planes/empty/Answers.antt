use Rattle.std.proofs.Common.{◌≡◌, ℕ, ◌*◌, List, refl, replicate, subst, sym, ◌∙◌, ap}
use Rattle.vox_planes.specs.Layers.{AreZeroFrom, IsLayered, layer_words, layered}
use Rattle.vox_planes.proofs.Ends.{zero_zeros}
use Rattle.vox_planes.proofs.Voxels.{IsLayered-zeros, layered-zeros, layered_whole}
use Rattle.vox_planes.proofs.planes.Planes.empty.Goals as goal

zeros : (ws : List ℕ) (r n side words : ℕ) → ws ≡ replicate n 0 → n ≡ side * words → side ≡ r → words ≡ layer_words r
    → ws ≡ replicate (r * layer_words r) 0
zeros ws r n side words e f g h = e ∙ ap (λ k. replicate k 0) (f ∙ (λ i. g i * h i))

pub invariant_of-result : goal.invariant_of-result
invariant_of-result c =
    let zeros_here = zeros c.in_ok-words.words.items c.args.r _ c.from.result c.layer_words-layer.result (c.in_ok-words.ensures.items_if_clones_equal (λ y h. h)) refl c.from.ensures c.layer_words-layer.ensures in (
      subst (λ (ws : List ℕ). IsLayered c.args.r ws) (sym zeros_here) (IsLayered-zeros c.args.r c.requires.some c.requires.most),
      c.layer_words-layer.ensures,
      subst (λ (ws : List ℕ). AreZeroFrom ws 0) (sym zeros_here) (zero_zeros (c.args.r * layer_words c.args.r)),
    )

pub returns-clause-value : goal.returns-clause-value
returns-clause-value c =
    let zeros_here = zeros c.in_ok-words.words.items c.args.r _ c.from.result c.layer_words-layer.result (c.in_ok-words.ensures.items_if_clones_equal (λ y h. h)) refl c.from.ensures c.layer_words-layer.ensures in
    ap (λ (ws : List ℕ). layered c.args.r ws) zeros_here ∙ layered-zeros c.args.r

pub returns-clause-whole : goal.returns-clause-whole
returns-clause-whole c =
    let zeros_here = zeros c.in_ok-words.words.items c.args.r _ c.from.result c.layer_words-layer.result (c.in_ok-words.ensures.items_if_clones_equal (λ y h. h)) refl c.from.ensures c.layer_words-layer.ensures in
    layered_whole _ _ (subst (λ (ws : List ℕ). IsLayered c.args.r ws) (sym zeros_here) (IsLayered-zeros c.args.r c.requires.some c.requires.most))

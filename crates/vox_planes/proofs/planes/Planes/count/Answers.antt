use Rattle.std.proofs.Common.{◌≡◌, ◌+◌, ◌*◌, ◌^◌, ◌<◌, ◌≤◌, length, get_or, refl, sym, ◌∙◌, ap, subst, arith, count_by}
use Rattle.std.specs.Prelude.{count_ones}
use Rattle.std.proofs.lemmas.Nat.{ones-le}
use Rattle.nano_spec.specs.Matrix.{Matrix, all_of, is_full}
use Rattle.nano_spec.specs.Model.{volume}
use Rattle.vox_planes.proofs.Totals.{bits_all, bits_below, bits_more, bits_none, words_bound, words_most}
use Rattle.vox_planes.proofs.planes.Planes.count.Goals as goal

pub loop-word-init : goal.loop-word-init
loop-word-init g c = record { sum = sym (bits_none c.deref-word-items.result.now); below = omega arith; touches = omega arith }

pub overflow_add-full : goal.overflow_add-full
overflow_add-full g c =
    let word = get_or c.deref-word-items.result.now c.loop-word.word-index 0 in
    let range : word < 2 ^ 64 = omega (arith, c.type_inv.word-items c.loop-word.word-index) in
    let most = ones-le 64 word range in
    let words = ap length c.deref-word-items.ensures.value ∙ c.self.invariant.0.whole in
    let bound = words_bound c.self.inside.resolution (length c.deref-word-items.result.now) c.self.invariant.0.most words in
    omega (arith, most, bound, c.loop-word.invariant.below)

pub loop-word-preserved : goal.loop-word-preserved
loop-word-preserved g c =
    let word = get_or c.deref-word-items.result.now c.loop-word.word-index 0 in
    let range : word < 2 ^ 64 = omega (arith, c.type_inv.word-items c.loop-word.word-index) in
    let most = ones-le 64 word range in
    record {
      sum = ap (λ n. n + count_ones word) c.loop-word.invariant.sum ∙ sym (bits_more c.deref-word-items.result.now c.loop-word.word-index word refl range);
      below = omega (arith, most, c.loop-word.invariant.below);
      touches = omega (arith, c.loop-word.invariant.touches, c.tick.ensures);
    }

pub returns-clause-value : goal.returns-clause-value
returns-clause-value g c =
    let items = c.deref-word-items.result.now in
    let end : c.loop-word.word-index ≡ length items = omega arith in
    c.loop-word.invariant.sum
    ∙ ((λ i. bits_below (c.deref-word-items.ensures.value i) (64 * (end ∙ ap length c.deref-word-items.ensures.value) i))
    ∙ (bits_all c.self.inside.resolution c.self.inside.words.items c.self.invariant.0
    ∙ ap (λ (m : Matrix). count_by (is_full m) (all_of m)) c.self.view_is))

pub returns-clause-touches : goal.returns-clause-touches
returns-clause-touches g c =
    let end : c.loop-word.word-index ≡ length c.deref-word-items.result.now = omega arith in
    let most = words_most c.self.inside.resolution c.loop-word.word-index c.self.invariant.0.some (end ∙ (ap length c.deref-word-items.ensures.value ∙ c.self.invariant.0.whole)) in
    subst (λ (m : Matrix). c.loop-word.steps ≤ c.args.steps.now + volume m.resolution) c.self.view_is (omega (arith, most, c.loop-word.invariant.touches))

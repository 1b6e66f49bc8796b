use Rattle.std.proofs.Common.{◌∙◌, arith, inr, refl}
use Rattle.support_forest.proofs.FillingOne.{around_void, one_more, positive}
use Rattle.support_forest.proofs.fill_one.with_neighbor.Goals as goal
use Rattle.support_forest.proofs.fill_one.with_neighbor.Goals.{else-around-ne0-via-then-around-ne0+else-around-height, else-around-ne0-via-else-around-ne0}

pub returns-then-word-eq0 : goal.returns-then-word-eq0
returns-then-word-eq0 c = λ w a h i. around_void w a c.args.around c.args.d (λ p u. h.each p u ∙ c.if-word-eq0.true) i

pub returns-then-word-lt8 : goal.returns-then-word-lt8
returns-then-word-lt8 c = λ w a k i.
    let at = k.some (let word_not_zero = c.if-word-eq0.false in positive c.args.word word_not_zero) in
    let q = at.0 in
    let t = at.1 in
    let each = k.each q t in
    let few = c.if-word-lt8.true in
    one_more w a q c.args.around _ c.args.d t i i.floor i.sound (λ n k. k) (omega arith) (λ l. refl) (λ h. absurd (omega arith)) (λ f h. refl)

pub returns-then-around-height : goal.returns-then-around-height
returns-then-around-height c = λ w a k i.
    let at = k.some (let word_not_zero = c.if-word-eq0.false in positive c.args.word word_not_zero) in
    let q = at.0 in
    let t = at.1 in
    let each = k.each q t in
    let some = c.if-around-ne0.true in
    let least = c.if-around-height.true in
    let most = c.max-highest.ensures in
    one_more w a q c.args.around _ c.args.d t i i.floor i.sound (λ n k. k) (omega arith) (λ l. l) (λ h. (omega arith, omega arith, omega arith)) (λ f h. absurd (omega arith))

pub returns : goal.returns
returns c = λ w a k i.
    let at = k.some (let word_not_zero = c.if-word-eq0.false in positive c.args.word word_not_zero) in
    let q = at.0 in
    let t = at.1 in
    let each = k.each q t in
    let high = c.if-word-lt8.false in
    let most = c.max-highest.ensures in
    one_more w a q c.args.around _ c.args.d t i
    (λ y. let floor = i.floor y in elim c.else-around-ne0.branch [
      | else-around-ne0-via-then-around-ne0+else-around-height v ↦ let around_is_not_height = v.if-around-height.false in absurd (omega arith)
      | else-around-ne0-via-else-around-ne0 v ↦ let around_is_zero = v.if-around-ne0.false in absurd (omega arith)
    ])
    (inr (inr (q, t, omega arith, omega arith)))
    (λ n k. elim c.else-around-ne0.branch [
      | else-around-ne0-via-then-around-ne0+else-around-height v ↦ let around_is_not_height = v.if-around-height.false in (omega arith, omega (arith, k.1))
      | else-around-ne0-via-else-around-ne0 v ↦ let around_is_zero = v.if-around-ne0.false in absurd (omega (arith, k.0))
    ])
    (omega arith) (λ l. l) (λ h. (omega arith, omega arith, omega arith)) (λ f h. absurd (omega arith))

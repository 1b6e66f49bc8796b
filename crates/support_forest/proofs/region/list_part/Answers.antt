use Rattle.std.proofs.Common.{◌≡◌, ℕ, ◌+◌, ◌-◌, ◌<◌, ◌≤◌, ◌∙◌, Some, arith, refl, subst, sym}
use Rattle.vox_geom.specs.declared.coordinate.Coord.{Coord}
use Rattle.support_forest.specs.Grid.{word_at}
use Rattle.support_forest.specs.Regions.{AreVoided, IsInRow}
use Rattle.support_forest.specs.Segments.{further}
use Rattle.support_forest.proofs.Segments.{row_slot}
use Rattle.support_forest.proofs.Voiding.{one_before_row, part_at, row_one, voided_already, voided_listed}
use Rattle.support_forest.proofs.region.list_part.Goals as goal

pub loop-left-init : goal.loop-left-init
loop-left-init g c = (omega arith, (omega arith, voided_already c.args.cells.now _ _ c.args.rest.now.items c.requires.exact (λ d h. absurd (omega arith))))

pub word_in-requires-clause-slot : goal.word_in-requires-clause-slot
word_in-requires-clause-slot g c =
    let invariant = c.loop-left.invariant in
    let at_most_count : c.loop-left.left ≤ c.args.count = invariant.0 in
    row_slot c.args.cells.now c.args.first c.args.count (c.loop-left.left - 1) (Some c.args.own) c.requires.row.row (omega (arith, c.loop-left-test.true)) (sym c.requires.row.own)

pub loop-left-preserved-then-word_in-eq0 : goal.loop-left-preserved-then-word_in-eq0
loop-left-preserved-then-word_in-eq0 g c =
    let invariant = c.loop-left.invariant in
    let at_most_count : c.loop-left.left ≤ c.args.count = invariant.0 in
    let difference = c.loop-left.left - 1 in
    let left_is : c.loop-left.left ≡ difference + 1 = omega (arith, c.loop-left-test.true) in
    let word_at_zero : word_at c.args.cells.now (further c.args.first difference) ≡ 0 = sym c.word_in.ensures.value ∙ c.if-word_in-eq0.true in (
      omega arith,
      (
        omega (arith, invariant.1.0, c.word_in.ensures.touch),
        one_before_row c.args.cells.now c.args.first difference c.args.count c.args.rest.now.items c.loop-left.rest.items c.loop-left.rest.items (omega arith)
            (subst (λ (k : ℕ). AreVoided c.args.cells.now c.args.cells.now (IsInRow (further c.args.first k) (c.args.count - k)) (c.args.count - k) c.args.rest.now.items c.loop-left.rest.items) left_is invariant.1.1)
            (voided_already c.args.cells.now _ 1 c.loop-left.rest.items c.requires.exact (λ d h. subst (λ (p : Coord). word_at c.args.cells.now p ≡ 0) (sym (row_one (further c.args.first difference) d h)) word_at_zero)),
      ),
    )

pub loop-left-preserved : goal.loop-left-preserved
loop-left-preserved g c =
    let invariant = c.loop-left.invariant in
    let at_most_count : c.loop-left.left ≤ c.args.count = invariant.0 in
    let difference = c.loop-left.left - 1 in
    let left_is : c.loop-left.left ≡ difference + 1 = omega (arith, c.loop-left-test.true) in
    let word_in_value = c.word_in.ensures.value in
    let word_in_not_zero = c.if-word_in-eq0.false in
    let some_word_at : 0 < word_at c.args.cells.now (further c.args.first difference) = grind arith in (
      omega arith,
      (
        omega (arith, invariant.1.0, c.word_in.ensures.touch),
        one_before_row c.args.cells.now c.args.first difference c.args.count c.args.rest.now.items c.loop-left.rest.items c.push.new.self.items (omega arith)
            (subst (λ (k : ℕ). AreVoided c.args.cells.now c.args.cells.now (IsInRow (further c.args.first k) (c.args.count - k)) (c.args.count - k) c.args.rest.now.items c.loop-left.rest.items) left_is invariant.1.1)
            (voided_listed c.args.cells.now _ c.loop-left.rest.items c.push.new.self.items (further c.args.first difference) c.requires.exact some_word_at (refl, refl, omega arith, omega arith) (row_one (further c.args.first difference)) c.in_ok-push.ensures.items),
      ),
    )

pub returns-clause-listed : goal.returns-clause-listed
returns-clause-listed g c =
    let invariant = c.loop-left.invariant in
    let left_zero : c.loop-left.left ≡ 0 = omega (arith, c.loop-left-test.false) in
    part_at c.args.cells.now c.args.cells.now c.args.first c.loop-left.left c.args.count c.args.rest.now.items c.loop-left.rest.items left_zero invariant.1.1

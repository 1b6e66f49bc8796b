use Rattle.std.proofs.Common.{arith}
use Rattle.vox_geom.specs.declared.coordinate.Coord.{Coord}
use Rattle.support_forest.proofs.Raising.{columns_begin, next_columns, next_layer, raised_at, row_bits, supported_bits, void_over}
use Rattle.support_forest.proofs.columns.raise_columns.Goals as goal

pub loop-y-init : goal.loop-y-init
loop-y-init g c = record { raised = raised_at _ _ _ _ _ (omega arith) c.requires.raised; columns = columns_begin c.args.planes.now c.args.x c.args.z c.args.count c.requires.few; touches = omega arith }

pub returns-then-is_void_from-clause-raised : goal.returns-then-is_void_from-clause-raised
returns-then-is_void_from-clause-raised g c =
    let most = c.recall.ensures.whole.most in
    let side = c.resolution-y-end.ensures.value in
    next_columns _ _ _ _ _ _ most c.requires.whole (omega (arith, c.loop-y-test.true)) (c.is_void_from.ensures.void c.if-is_void_from.true) c.loop-y.invariant.raised

pub raise_row-requires-clause-can : goal.raise_row-requires-clause-can
raise_row-requires-clause-can g c =
    let side = c.resolution-y-end.ensures.value in
    let first : Coord = record { x = c.args.x; y = c.loop-y.y; z = c.args.z } in
    let full = row_bits c.args.planes.now first c.args.count c.peek_row-bits.result c.requires.few (λ k l. c.peek_row-bits.ensures.full k (omega arith)) in
    record {
      within = record { x = c.requires.x; y = omega (arith, c.loop-y-test.true); z = c.requires.z };
      row = c.requires.row;
      block = omega (arith, c.requires.few, c.requires.whole);
      few = c.recall.ensures.whole.most;
      full = full;
      columns = supported_bits c.args.planes.now first c.args.count _ _ full c.loop-y.invariant.columns;
      raised = raised_at _ _ _ _ _ (omega (arith, c.requires.whole)) c.loop-y.invariant.raised;
    }

pub loop-y-preserved : goal.loop-y-preserved
loop-y-preserved g c =
    let first : Coord = record { x = c.args.x; y = c.loop-y.y; z = c.args.z } in
    let full = row_bits c.args.planes.now first c.args.count c.peek_row-bits.result c.requires.few (λ k l. c.peek_row-bits.ensures.full k (omega arith)) in
    record {
      raised = next_layer _ _ _ _ _ _ _ c.recall.ensures.whole.most (omega (arith, c.loop-y-test.true, c.resolution-y-end.ensures.value)) c.requires.z c.requires.whole c.requires.few c.requires.most
          (raised_at _ _ _ _ _ (omega (arith, c.requires.whole)) c.in_ok-raise_row.ensures.raised);
      columns = supported_bits c.args.planes.now first c.args.count _ _ full c.loop-y.invariant.columns;
      touches = omega (arith, c.loop-y.invariant.touches, c.if-is_void_from.ensures.touches, c.peek_row-bits.ensures.touches, c.from.ensures, c.in_ok-raise_row.ensures.touches);
    }

pub returns-clause-raised : goal.returns-clause-raised
returns-clause-raised g c =
    let most = c.recall.ensures.whole.most in
    let side = c.resolution-y-end.ensures.value in
    next_columns _ _ _ c.loop-y.y _ _ most c.requires.whole (omega (arith, c.loop-y-test.false, c.loop-y.auto.y-end)) (λ d l. void_over _ d (omega (arith, c.loop-y-test.false, c.loop-y.auto.y-end))) c.loop-y.invariant.raised

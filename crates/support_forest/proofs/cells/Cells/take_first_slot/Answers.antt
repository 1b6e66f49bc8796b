use Rattle.std.proofs.Common.{◌≡◌, ◌<◌, ◌≤◌, sym, ap, subst, ◌∙◌, arith, rules, None, length, refl}
use Rattle.std.specs.FinMap.{len}
use Rattle.std.specs.Prelude.{◌==◌}
use Rattle.support_forest.specs.Words.{is_overhang}
use Rattle.support_forest.specs.Grid.{Grid, slot_at, word_at}
use Rattle.support_forest.proofs.Store.{few_live}
use Rattle.support_forest.proofs.Writes.{grows, count_same}
use Rattle.support_forest.proofs.cells.Cells.take_first_slot.Goals as goal

pub take-requires : goal.take-requires
take-requires c =
    let inside = c.self.inside in
    let live_few = few_live (record { resolution = inside.resolution; table = inside.table.items; bricks = inside.bricks }) c.self.invariant.1.0 in
    let len_small : len inside.bricks ≤ 132651 = live_few in
    omega arith

pub invariant_of-self-2 : goal.invariant_of-self-2
invariant_of-self-2 c =
    let inside = c.self.inside in
    let old : Grid = record { resolution = inside.resolution; table = inside.table.items; bricks = inside.bricks } in
    let below_length : c.args.number < length inside.table.items = subst (λ (q : Grid). c.args.number < length q.table) (sym c.self.view_is) c.requires.below in
    let slot_at_none : slot_at inside.table.items c.args.number ≡ None = ap (λ (q : Grid). slot_at q.table c.args.number) c.self.view_is ∙ c.requires.none in
    let grows_here = grows old c.args.number c.in-Ok.slot c.take.new.self c.self.invariant.1.0 below_length slot_at_none c.in-Ok.ensures.fresh c.in-Ok.ensures.zeros in
    (c.self.invariant.0, (grows_here.0, (c.self.invariant.1.1.0 ∙ sym (count_same (λ n. n == 1) old _ refl grows_here.1), c.self.invariant.1.1.1 ∙ sym (count_same is_overhang old _ refl grows_here.1))))

pub returns-clause-taken : goal.returns-clause-taken
returns-clause-taken c =
    let inside = c.self.inside in
    let old : Grid = record { resolution = inside.resolution; table = inside.table.items; bricks = inside.bricks } in
    let below_length : c.args.number < length inside.table.items = subst (λ (q : Grid). c.args.number < length q.table) (sym c.self.view_is) c.requires.below in
    let slot_at_none : slot_at inside.table.items c.args.number ≡ None = ap (λ (q : Grid). slot_at q.table c.args.number) c.self.view_is ∙ c.requires.none in
    record {
      slot = search rules;
      live = search rules;
      same = λ d. (grows old c.args.number c.in-Ok.slot c.take.new.self c.self.invariant.1.0 below_length slot_at_none c.in-Ok.ensures.fresh c.in-Ok.ensures.zeros).1 d ∙ ap (λ (q : Grid). word_at q d) c.self.view_is;
    }

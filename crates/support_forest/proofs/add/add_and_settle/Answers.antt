use Rattle.std.proofs.Common.{◌≡◌, Bool, true, false, not, ℕ, refl, sym, ◌∙◌, subst, List, ap, arith}
use Rattle.std.proofs.lemmas.List.{get_or_default}
use Rattle.std.proofs.lemmas.List.Elements.{Contains-get_or}
use Rattle.vox_geom.specs.declared.coordinate.Coord.{Coord}
use Rattle.support_forest.specs.Grid.{side}
use Rattle.support_forest.specs.Offers.{listed_voxels}
use Rattle.support_forest.specs.Waiting.{CanResettle, HaveRepaired}
use Rattle.support_forest.proofs.Marks.{in_space_by, marked_none, marked_more, marked_low, next_void, all_marked, can_resettle, have_added, indices_more, indices_of_all}
use Rattle.support_forest.proofs.add.add_and_settle.Goals as goal

not_false : (b : Bool) → not b ≡ false → b ≡ true
not_false true h = refl
not_false false h = cc

pub loop-c-init : goal.loop-c-init
loop-c-init g c = (marked_none _ _ _, ap (λ (l : List ℕ). listed_voxels (side c.args.cells.now.resolution) l) c.take_fresh-fresh.ensures)

pub fill-requires-clause-void : goal.fill-requires-clause-void
fill-requires-clause-void g c = next_void _ _ _ _ _ _ _ c.requires c.loop-c.invariant.0 c.loop-c-test.true (get_or_default _ _ _ _ c.loop-c-test.true)

pub fill-requires-clause-within : goal.fill-requires-clause-within
fill-requires-clause-within g c = in_space_by _ _ _ c.loop-c.invariant.0.resolution (c.requires.space _ (Contains-get_or _ _ _ c.loop-c-test.true))

pub index_of-requires : goal.index_of-requires
index_of-requires g c = in_space_by _ _ _ (c.fill.ensures.resolution ∙ c.loop-c.invariant.0.resolution) (c.requires.space _ (Contains-get_or _ _ _ c.loop-c-test.true))

pub loop-c-preserved : goal.loop-c-preserved
loop-c-preserved g c = (
  marked_more _ _ _ _ _ _ _ _ _ c.loop-c.invariant.0 c.loop-c-test.true (get_or_default _ _ _ _ c.loop-c-test.true) c.in_ok-fill.ensures.written c.fill.ensures.resolution c.in_ok-fill.ensures.touch,
  indices_more _ _ _ _ _ _ _ _ c.loop-c.invariant.1 c.loop-c-test.true (get_or_default _ _ _ _ c.loop-c-test.true) (c.fill.ensures.resolution ∙ c.loop-c.invariant.0.resolution) c.index_of.ensures.voxel c.in_ok-push.ensures.items,
)

pub repair-requires-clause-none : goal.repair-requires-clause-none
repair-requires-clause-none g c e = marked_low _ _ _ _ _ _ c.loop-c.invariant.0 (c.is_blank-are_levels.ensures (not_false _ e))

pub repair-requires-clause-can : goal.repair-requires-clause-can
repair-requires-clause-can g c =
    subst (λ (l : List Coord). CanResettle c.loop-c.cells l)
    (sym (indices_of_all _ _ _ _ _ _ c.loop-c.invariant.1 c.loop-c-test.false c.loop-c.invariant.0.resolution c.deref.ensures.value))
    (can_resettle _ _ _ c.requires (all_marked _ _ _ _ _ _ c.loop-c.invariant.0 c.loop-c-test.false))

pub returns : goal.returns
returns g c =
    let indices = indices_of_all _ _ _ _ _ _ c.loop-c.invariant.1 c.loop-c-test.false c.loop-c.invariant.0.resolution c.deref.ensures.value in
    have_added _ _ _ _ _ _ _ _ c.requires c.loop-c.invariant.0 c.loop-c-test.false (let in_range = c.loop-c.auto.c-index-end in omega arith)
    (subst (λ (l : List Coord). HaveRepaired c.loop-c.cells c.repair.new.cells l c.loop-c.steps c.repair.new.steps) indices c.in_ok-repair.ensures)

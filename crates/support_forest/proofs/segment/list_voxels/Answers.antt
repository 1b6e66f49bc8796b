use Rattle.std.proofs.Common.{◌≡◌, ℕ, ◌+◌, ◌-◌, ◌*◌, ◌≤◌, get_or, arith, subst}
use Rattle.std.proofs.lemmas.List.{get_or_default}
use Rattle.vox_geom.specs.declared.coordinate.Coord.{Coord}
use Rattle.support_forest.specs.Segments.{VoidsMore}
use Rattle.support_forest.proofs.Clearing.{list_more}
use Rattle.support_forest.proofs.segment.list_voxels.Goals as goal

abbrev origin : Coord
origin = record { x = 0; y = 0; z = 0 }

pub loop-left-preserved : goal.loop-left-preserved
loop-left-preserved c =
    let invariant = c.loop-left.invariant in
    let at_most_end : c.loop-left.left ≤ c.args.end = invariant.1.0 in
    let at_most_left : c.args.start ≤ c.loop-left.left = invariant.0 in
    let next = get_or c.args.gone.now (c.loop-left.left - 1) origin in
    let next_is : next ≡ get_or c.args.gone.now (c.loop-left.left - 1) next = get_or_default c.args.gone.now (c.loop-left.left - 1) origin next (let within = c.requires.within in let goes_on = c.loop-left-test.true in omega arith) in
    (omega arith, (omega arith, list_more c.args.gone.now c.args.end c.loop-left.left c.args.rest.now.items c.loop-left.rest.items c.push.new.self.items next (omega arith) at_most_end invariant.1.1 next_is c.in_ok-push.ensures.items))

pub returns : goal.returns
returns c =
    let invariant = c.loop-left.invariant in
    let at_most_left : c.args.start ≤ c.loop-left.left = invariant.0 in
    let at_end = c.loop-left-test.false in
    let left_is : c.loop-left.left ≡ c.args.start = omega arith in
    λ now steps. subst (λ (k : ℕ). VoidsMore now now c.args.gone.now c.args.end k c.args.rest.now.items c.loop-left.rest.items steps (steps + 6 * (c.args.end - k))) left_is (invariant.1.1 now steps)

use Rattle.std.proofs.Common.{◌≡◌, List, [], ◌∷◌, ◌++◌, sym, ◌∙◌, ap, subst}
use Rattle.std.specs.Prelude.{Contains}
use Rattle.std.proofs.lemmas.List.Elements.{Contains-push}
use Rattle.vox_geom.specs.declared.coordinate.Coord.{Coord}
use Rattle.vox_geom.specs.Space.{IsInSpace}
use Rattle.vox_geom.proofs.Truths.{true_by_false}
use Rattle.nano_spec.specs.Matrix.{Matrix, is_full}
use Rattle.low_planner.specs.declared.sweep.Sweep.{Sweep}
use Rattle.low_planner.specs.Sweep.{IsSweep, IsTrail, IsVisited}
use Rattle.low_planner.proofs.Beside.{beside-sym}
use Rattle.low_planner.proofs.Paths.{one_more}
use Rattle.low_planner.proofs.Sweeps.{popped, taken}
use Rattle.low_planner.proofs.Trails.{trail_last, trail_pop, trail_push}
use Rattle.low_planner.proofs.sweep.Sweep.next.Goals as goal
use Rattle.plan_tape.proofs.LegalModels.{full_within}

-- the last voxel of the trail was visited
at_top : (m : Matrix) (s : Sweep) (most : List Coord) (top : Coord) → IsSweep m s → s.trail.items ≡ most ++ top ∷ []
    → IsVisited m s.remaining top × (top.y ≡ s.at.y)
at_top m s most top h e = h.on_trail top (subst (λ (xs : List Coord). Contains xs top) (sym e) (Contains-push most top))

pub beside-requires : goal.beside-requires
beside-requires c =
    let target = c.args.target.now in
    let self = c.args.self.now in
    let end = c.in-Some.ensures in
    subst (λ r. IsInSpace r c.in-Some.top) (sym c.requires.resolution) (full_within target c.in-Some.top (at_top target self end.0 c.in-Some.top c.requires end.1).0.before)

pub returns-in-Some-beside-clause-sweep : goal.returns-in-Some-beside-clause-sweep
returns-in-Some-beside-clause-sweep c =
    let target = c.args.target.now in
    let self = c.args.self.now in
    let self_after_take = c.take.new.self in
    let top = c.in-Some.top in
    let at = c.in-Some-beside.c in
    let end = c.in-Some.ensures in
    let near = c.in-Some-beside.ensures in
    let takes = c.in_ok-take.ensures.takes in
    let same = c.in_ok-take.ensures.at in
    let last = at_top target self end.0 top c.requires end.1 in
    let trail : self_after_take.trail.items ≡ (end.0 ++ top ∷ []) ++ at ∷ [] = takes.trail ∙ ap (λ (xs : List Coord). xs ++ at ∷ []) end.1 in
    taken target self self_after_take at c.requires takes same
    (one_more target at top (true_by_false (is_full target at) (is_full self.remaining at) (c.requires.fewer at) near.1) (beside-sym top at near.0) (c.requires.supported top last.0))
    (near.0.level ∙ last.1)
    (subst (λ (xs : List Coord). IsTrail self_after_take.at xs) (sym trail) (subst (λ (q : Coord). IsTrail q ((end.0 ++ top ∷ []) ++ at ∷ [])) (sym same) (trail_push self.at end.0 top at (subst (IsTrail self.at) end.1 c.requires.trail) near.0)))

pub next_part-requires-in-None-clause-sweep : goal.next_part-requires-in-None-clause-sweep
next_part-requires-in-None-clause-sweep c =
    let target = c.args.target.now in
    let self = c.args.self.now in
    let top = c.in-Some.top in
    let end = c.in-Some.ensures in
    let left = c.shorten.ensures.trail end.0 top end.1 in
    popped target self c.shorten.new.self top c.requires c.shorten.ensures.remaining c.shorten.ensures.at (end.1 ∙ ap (λ (xs : List Coord). xs ++ top ∷ []) (sym left)) c.in_default-beside.ensures
    (subst (IsTrail self.at) (sym left) (trail_pop self.at end.0 top (subst (IsTrail self.at) end.1 c.requires.trail)))

pub returns-in-Some-last-clause-sweep : goal.returns-in-Some-last-clause-sweep
returns-in-Some-last-clause-sweep c =
    let target = c.args.target.now in
    let self = c.args.self.now in
    let top = c.in-Some.top in
    let end = c.in-Some.ensures in
    let left = c.shorten.ensures.trail end.0 top end.1 in
    popped target self c.shorten.new.self top c.requires c.shorten.ensures.remaining c.shorten.ensures.at (end.1 ∙ ap (λ (xs : List Coord). xs ++ top ∷ []) (sym left)) c.in_default-beside.ensures
    (subst (IsTrail self.at) (sym left) (trail_pop self.at end.0 top (subst (IsTrail self.at) end.1 c.requires.trail)))

pub returns-in-Some-last-clause-visits : goal.returns-in-Some-last-clause-visits
returns-in-Some-last-clause-visits c =
    let self = c.args.self.now in
    let top = c.in-Some.top in
    let end = c.in-Some.ensures in
    let last = c.in-Some-last.ensures in
    let left = c.shorten.ensures.trail end.0 top end.1 in
    let ended : self.trail.items ≡ (last.0 ++ c.in-Some-last.c ∷ []) ++ top ∷ [] = end.1 ∙ ap (λ (xs : List Coord). xs ++ top ∷ []) (sym left ∙ last.1) in
    record {
      most = last.0;
      last = top;
      ends = last.1;
      ended = ended;
      beside = trail_last self.at last.0 c.in-Some-last.c top (subst (IsTrail self.at) ended c.requires.trail);
      remaining = c.shorten.ensures.remaining;
      at = c.shorten.ensures.at;
    }

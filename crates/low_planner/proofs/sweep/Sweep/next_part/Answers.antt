use Rattle.std.proofs.Common.{◌≡◌, List, [], ◌∷◌, ◌++◌, refl, sym, ◌∙◌, ap, subst}
use Rattle.vox_geom.specs.declared.coordinate.Coord.{Coord}
use Rattle.vox_geom.proofs.Truths.{true_by_false}
use Rattle.nano_spec.specs.Matrix.{is_full}
use Rattle.low_planner.specs.declared.sweep.Sweep.{Sweep}
use Rattle.low_planner.specs.Sweep.{IsTrail}
use Rattle.low_planner.proofs.Paths.{at_rest}
use Rattle.low_planner.proofs.Sweeps.{moved, taken}
use Rattle.low_planner.proofs.sweep.Sweep.next_part.Goals as goal

pub returns-in_ok-take-in-Some-clause-sweep : goal.returns-in_ok-take-in-Some-clause-sweep
returns-in_ok-take-in-Some-clause-sweep c =
    let target = c.args.target.now in
    let self = c.args.self.now in
    let at = c.in-Some.c in
    let starts = c.in-Some.ensures in
    let mid : Sweep = record { remaining = self.remaining; trail = self.trail; at = at } in
    let here = moved target self mid at refl refl refl c.requires.sweep c.requires.none starts.swept starts.up starts.within in
    let takes = c.in_ok-take-in-Some.ensures.takes in
    let trail : c.take.new.self.trail.items ≡ at ∷ [] = takes.trail ∙ ap (λ (xs : List Coord). xs ++ at ∷ []) c.requires.none in
    taken target mid c.take.new.self at here takes c.in_ok-take-in-Some.ensures.at
    (at_rest target at (true_by_false (is_full target at) (is_full self.remaining at) (c.requires.sweep.fewer at) starts.here) starts.resting) refl
    (subst (λ (xs : List Coord). IsTrail c.take.new.self.at xs) (sym trail) (sym c.in_ok-take-in-Some.ensures.at, tt))

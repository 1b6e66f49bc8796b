use Rattle.std.proofs.Common.{◌≡◌, subst}
use Rattle.std.specs.Prelude.{Option, Some}
use Rattle.nano_spec.specs.Matrix.{Matrix}
use Rattle.low_planner.specs.declared.sweep.Sweep.{Sweep}
use Rattle.low_planner.specs.declared.sweep.Visit.{Visit}
use Rattle.low_planner.specs.declared.sweep.Visit.TheVariants.{Back, First, Onward}
use Rattle.low_planner.specs.Sweep.{Visits}
use Rattle.low_planner.proofs.Builds.{built_back, built_first, built_onward, can_begin, can_go_back, can_go_on, finished}
use Rattle.low_planner.proofs.Counts.{visit_lessens}
use Rattle.low_planner.proofs.build.build.Goals as goal

-- the action of the sweep, by its visit
did : (m : Matrix) (s t : Sweep) (o : Option Visit) (visit v : Visit) → o ≡ Some visit → visit ≡ v → Visits m s t o
    → Visits m s t (Some v)
did m s t o visit v e f h = subst (λ (k : Visit). Visits m s t (Some k)) f (subst (Visits m s t) e h)

pub fill-requires : goal.fill-requires
fill-requires c =
    let target = c.args.target.now in
    let sweep_so_far = c.loop-visit.sweep in
    let self_after_next = c.next.new.self in
    let inv = c.loop-visit.invariant in
    let begins = did target sweep_so_far self_after_next c.in_ok-visit.field-0 c.in-Some.visit (First c.in-First.c) c.in-Some.is c.in-First.is c.in_ok-visit.ensures.visits in
    can_begin target sweep_so_far self_after_next c.loop-visit.tape inv.sweep c.in_ok-visit.ensures.sweep inv.built c.in-First.c begins c.requires.legal inv.most c.requires.supported

pub loop-visit-smaller-in-Continue-branch-3 : goal.loop-visit-smaller-in-Continue-branch-3
loop-visit-smaller-in-Continue-branch-3 c = visit_lessens c.args.target.now c.loop-visit.sweep c.next.new.self c.in-Some.visit (rw c.in-Some.is at c.in_ok-visit.ensures.visits)

pub loop-visit-preserved-in-Continue-branch-3 : goal.loop-visit-preserved-in-Continue-branch-3
loop-visit-preserved-in-Continue-branch-3 c =
    let target = c.args.target.now in
    let sweep_so_far = c.loop-visit.sweep in
    let self_after_next = c.next.new.self in
    let inv = c.loop-visit.invariant in
    let begins = did target sweep_so_far self_after_next c.in_ok-visit.field-0 c.in-Some.visit (First c.in-First.c) c.in-Some.is c.in-First.is c.in_ok-visit.ensures.visits in
    record {
      sweep = c.in_ok-visit.ensures.sweep;
      built = built_first target sweep_so_far self_after_next c.loop-visit.tape inv.sweep c.in_ok-visit.ensures.sweep inv.built c.in-First.c begins c.fill.new.tape c.in_ok-fill-in-First.ensures;
      most = inv.most;
    }

pub fill-requires-in-Onward : goal.fill-requires-in-Onward
fill-requires-in-Onward c =
    let target = c.args.target.now in
    let sweep_so_far = c.loop-visit.sweep in
    let self_after_next = c.next.new.self in
    let inv = c.loop-visit.invariant in
    let goes = did target sweep_so_far self_after_next c.in_ok-visit.field-0 c.in-Some.visit (Onward c.in-Onward.c) c.in-Some.is c.in-Onward.is c.in_ok-visit.ensures.visits in
    can_go_on target sweep_so_far self_after_next c.loop-visit.tape inv.sweep inv.built c.in-Onward.c goes c.requires.legal inv.most

pub loop-visit-smaller-in-Continue-branch-4 : goal.loop-visit-smaller-in-Continue-branch-4
loop-visit-smaller-in-Continue-branch-4 c = visit_lessens c.args.target.now c.loop-visit.sweep c.next.new.self c.in-Some.visit (rw c.in-Some.is at c.in_ok-visit.ensures.visits)

pub loop-visit-preserved-in-Continue-branch-4 : goal.loop-visit-preserved-in-Continue-branch-4
loop-visit-preserved-in-Continue-branch-4 c =
    let target = c.args.target.now in
    let sweep_so_far = c.loop-visit.sweep in
    let self_after_next = c.next.new.self in
    let inv = c.loop-visit.invariant in
    let goes = did target sweep_so_far self_after_next c.in_ok-visit.field-0 c.in-Some.visit (Onward c.in-Onward.c) c.in-Some.is c.in-Onward.is c.in_ok-visit.ensures.visits in
    record {
      sweep = c.in_ok-visit.ensures.sweep;
      built = built_onward target sweep_so_far self_after_next c.loop-visit.tape inv.sweep inv.built c.in-Onward.c goes c.fill-in-Onward.new.tape c.in_ok-fill-in-Onward.ensures;
      most = inv.most;
    }

pub loop-visit-smaller : goal.loop-visit-smaller
loop-visit-smaller c = visit_lessens c.args.target.now c.loop-visit.sweep c.next.new.self c.in-Some.visit (rw c.in-Some.is at c.in_ok-visit.ensures.visits)

pub go_above-requires : goal.go_above-requires
go_above-requires c =
    let target = c.args.target.now in
    let sweep_so_far = c.loop-visit.sweep in
    let self_after_next = c.next.new.self in
    let inv = c.loop-visit.invariant in
    let goes = did target sweep_so_far self_after_next c.in_ok-visit.field-0 c.in-Some.visit (Back c.in-Back.c) c.in-Some.is c.in-Back.is c.in_ok-visit.ensures.visits in
    can_go_back target sweep_so_far self_after_next c.loop-visit.tape inv.sweep c.in_ok-visit.ensures.sweep inv.built c.in-Back.c goes c.requires.legal inv.most

pub loop-visit-preserved : goal.loop-visit-preserved
loop-visit-preserved c =
    let target = c.args.target.now in
    let sweep_so_far = c.loop-visit.sweep in
    let self_after_next = c.next.new.self in
    let inv = c.loop-visit.invariant in
    let goes = did target sweep_so_far self_after_next c.in_ok-visit.field-0 c.in-Some.visit (Back c.in-Back.c) c.in-Some.is c.in-Back.is c.in_ok-visit.ensures.visits in
    record {
      sweep = c.in_ok-visit.ensures.sweep;
      built = built_back target sweep_so_far self_after_next c.loop-visit.tape inv.sweep c.in_ok-visit.ensures.sweep inv.built c.in-Back.c goes c.go_above.new.tape c.in_ok-go_above-in-Back.ensures;
      most = inv.most;
    }

pub returns : goal.returns
returns c =
    let inv = c.loop-visit.invariant in
    finished c.args.target.now c.loop-visit.sweep c.next.new.self c.loop-visit.tape c.requires.legal c.requires.supported inv.sweep c.in_ok-visit.ensures.sweep inv.built (rw c.in_default.is at c.in_ok-visit.ensures.visits)

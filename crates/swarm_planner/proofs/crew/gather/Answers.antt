use Rattle.std.proofs.Common.{◌≡◌, ℕ, suc, ◌+◌, ◌-◌, ◌*◌, ◌<◌, ◌≤◌, refl, ◌∙◌, ap, subst, arith}
use Rattle.vox_geom.specs.declared.coordinate.Coord.{Coord}
use Rattle.nano_spec.specs.Matrix.{Matrix}
use Rattle.plan_tape.specs.Leg.{distance}
use Rattle.plan_tape.specs.Progress.{TapeState, spot}
use Rattle.swarm_planner.specs.Crew.{RowGoes}
use Rattle.swarm_planner.specs.Strips.{count}
use Rattle.swarm_planner.proofs.Gathering.{all_left, is_gathered, left_as, near_left, one_less, two_left}
use Rattle.swarm_planner.proofs.Rows.{few, narrow}
use Rattle.swarm_planner.proofs.crew.gather.Goals as goal
use Rattle.vox_geom.specs.Point.{coord}

-- the end of the range of strips, in terms of the tape's fields
end_is : (n r : ℕ) (m : Matrix) (a b : TapeState) → n ≡ count r → r ≡ m.resolution → m ≡ b.matrix → b.matrix ≡ a.matrix
    → n ≡ count a.matrix.resolution
end_is n r m a b e f g h = e ∙ ap count (f ∙ (ap (λ (k : Matrix). k.resolution) g ∙ ap (λ (k : Matrix). k.resolution) h))

-- two and more are left
two_more : (n i : ℕ) → 1 ≤ i → i < n → n + 1 - i ≡ suc (suc (n - i - 1))
two_more n i h l = omega arith

pub loop-merged-init : goal.loop-merged-init
loop-merged-init c =
    let tape = c.args.tape.now in
    let at = coord (spot tape.bots).x (spot tape.bots).y 0 in
    let coord_is : coord c.first_place-at.result.x c.first_place-at.result.y 0 ≡ at = ap (λ (q : Coord). coord q.x q.y 0) c.first_place-at.ensures in
    let row_goes = subst (λ (q : Coord). RowGoes tape c.go.new.tape q (distance (spot tape.bots) q)) coord_is c.in_ok-go.ensures in
    let count_is : count tape.matrix.resolution ≡ count tape.matrix.resolution + 1 - 1 = omega arith in
    record { left = left_as tape c.go.new.tape at at (count tape.matrix.resolution) (count tape.matrix.resolution + 1 - 1) (distance (spot tape.bots) at) ((spot tape.bots).z + 0) (all_left tape c.go.new.tape at (distance (spot tape.bots) at) row_goes c.requires.void) refl count_is (omega arith) }

pub gather_one-requires-clause-two : goal.gather_one-requires-clause-two
gather_one-requires-clause-two c =
    let tape = c.args.tape.now in
    let two_left_here = two_left tape c.loop-merged.tape (coord (spot tape.bots).x (spot tape.bots).y 0) (count tape.matrix.resolution + 1 - c.loop-merged._merged) ((spot tape.bots).z + 21 * (c.loop-merged._merged - 1)) c.loop-merged.invariant.left in
    let ended_at = end_is c.strip_count-merged-end.result c.resolution.result c.matrix.result.now tape c.go.new.tape c.strip_count-merged-end.ensures c.resolution.ensures.value c.matrix.ensures.value c.in_ok-go.ensures.matrix in
    let merged_in_range = c.loop-merged.auto._merged in
    let goes_on = c.loop-merged-test.true in
    omega (arith, two_left_here, ended_at, merged_in_range, goes_on)

pub gather_one-requires-clause-limit : goal.gather_one-requires-clause-limit
gather_one-requires-clause-limit c =
    let tape = c.args.tape.now in
    let at = coord (spot tape.bots).x (spot tape.bots).y 0 in
    let ended_at = end_is c.strip_count-merged-end.result c.resolution.result c.matrix.result.now tape c.go.new.tape c.strip_count-merged-end.ensures c.resolution.ensures.value c.matrix.ensures.value c.in_ok-go.ensures.matrix in
    let merged_in_range = c.loop-merged.auto._merged in
    let goes_on = c.loop-merged-test.true in
    let left = c.loop-merged.invariant.left in
    let two = two_more (count tape.matrix.resolution) c.loop-merged._merged merged_in_range (omega (arith, ended_at, goes_on)) in
    let sum = (spot tape.bots).z + 21 * (c.loop-merged._merged - 1) in
    let near_left_here = near_left tape c.loop-merged.tape at (count tape.matrix.resolution - c.loop-merged._merged - 1) sum (left_as tape c.loop-merged.tape at at (count tape.matrix.resolution + 1 - c.loop-merged._merged) (suc (suc (count tape.matrix.resolution - c.loop-merged._merged - 1))) sum sum left refl two (omega arith)) in
    let steps_are = left.steps_are in
    let is_narrow = narrow tape.matrix.resolution c.requires.row.leads.most in
    let few_enough = few tape.matrix.resolution c.requires.row.leads.some in
    let limit = c.requires.limit in
    omega (arith, ended_at, merged_in_range, goes_on, near_left_here, steps_are, is_narrow, few_enough, limit)

pub loop-merged-preserved : goal.loop-merged-preserved
loop-merged-preserved c =
    let tape = c.args.tape.now in
    let at = coord (spot tape.bots).x (spot tape.bots).y 0 in
    let ended_at = end_is c.strip_count-merged-end.result c.resolution.result c.matrix.result.now tape c.go.new.tape c.strip_count-merged-end.ensures c.resolution.ensures.value c.matrix.ensures.value c.in_ok-go.ensures.matrix in
    let merged_in_range = c.loop-merged.auto._merged in
    let goes_on = c.loop-merged-test.true in
    let left_so_far = c.loop-merged.invariant.left in
    let difference = count tape.matrix.resolution - c.loop-merged._merged - 1 in
    let less : c.loop-merged._merged < count tape.matrix.resolution = omega (arith, ended_at, goes_on) in
    let two = two_more (count tape.matrix.resolution) c.loop-merged._merged merged_in_range less in
    let sum = (spot tape.bots).z + 21 * (c.loop-merged._merged - 1) in
    let most = (spot tape.bots).z + 21 * (c.loop-merged._merged + 1 - 1) in
    let one : suc difference ≡ count tape.matrix.resolution + 1 - (c.loop-merged._merged + 1) = omega (arith, less) in
    record {
      left = left_as tape c.gather_one.new.tape at at (suc difference) (count tape.matrix.resolution + 1 - (c.loop-merged._merged + 1)) most most
          (one_less tape c.loop-merged.tape c.gather_one.new.tape at difference sum most (left_as tape c.loop-merged.tape at at (count tape.matrix.resolution + 1 - c.loop-merged._merged) (suc (suc difference)) sum sum left_so_far refl two (omega arith)) c.in_ok-gather_one.ensures c.requires.row.leads.most (omega arith))
          refl one (omega arith);
    }

pub returns : goal.returns
returns c =
    let tape = c.args.tape.now in
    let at = coord (spot tape.bots).x (spot tape.bots).y 0 in
    let ended_at = end_is c.strip_count-merged-end.result c.resolution.result c.matrix.result.now tape c.go.new.tape c.strip_count-merged-end.ensures c.resolution.ensures.value c.matrix.ensures.value c.in_ok-go.ensures.matrix in
    let at_end = c.loop-merged-test.false in
    let merged_in_range = c.loop-merged.auto._merged-end in
    let in_range = c.loop-merged.auto._merged in
    let left = c.loop-merged.invariant.left in
    let few_enough = few tape.matrix.resolution c.requires.row.leads.some in
    let leads = c.requires.row.leads in
    let there : c.loop-merged._merged ≡ count tape.matrix.resolution = let v = merged_in_range (omega (arith, ended_at)) in omega (arith, ended_at, at_end, v) in
    let sum = (spot tape.bots).z + 21 * (c.loop-merged._merged - 1) in
    is_gathered tape c.loop-merged.tape at (count tape.matrix.resolution + 1 - c.loop-merged._merged) ((spot tape.bots).z + 420)
    (left_as tape c.loop-merged.tape at at (count tape.matrix.resolution + 1 - c.loop-merged._merged) (count tape.matrix.resolution + 1 - c.loop-merged._merged) sum ((spot tape.bots).z + 420) left refl refl (omega (arith, there, few_enough)))
    (omega (arith, there)) (record { some = leads.some; most = leads.most; first = leads.first; wide = leads.wide; y = leads.y; z = let some_there = leads.some in omega arith }) refl

use Rattle.std.proofs.Common.{◌≡◌, ℕ, suc, ◌+◌, ◌-◌, ◌<◌, ◌≤◌, sym, ◌∙◌, ap, subst, arith}
use Rattle.std.proofs.lemmas.Result.{on_ok_weaker}
use Rattle.plan_tape.specs.Leg.{gap}
use Rattle.plan_tape.specs.Progress.{TapeState}
use Rattle.swarm_planner.specs.Strips.{count}
use Rattle.swarm_planner.specs.Bounds.{width}
use Rattle.swarm_planner.specs.Crew.{CrewGoes, places}
use Rattle.swarm_planner.specs.Lineup.{IsSpreadOver, SpreadsOver, last_column, lined_up, sent}
use Rattle.swarm_planner.proofs.Rows.{few, narrow}
use Rattle.swarm_planner.proofs.Sending.{born_free, born_last, born_line, spread_length, spread_line, spread_places, spread_room, spreads}
use Rattle.swarm_planner.proofs.crew.spread_one.Goals as goal

-- the number of strips as one more than another
one_less : (n : ℕ) → 1 ≤ n → n ≡ suc (n - 1)
one_less n h = omega arith

at_one_less : (p : TapeState) (n : ℕ) → 1 ≤ n → IsSpreadOver p n → IsSpreadOver p (suc (n - 1))
at_one_less p n h s = subst (λ k. IsSpreadOver p k) (one_less n h) s

more_one_less : (r n : ℕ) → 1 ≤ n → n < count r → suc (n - 1) < count r
more_one_less r n h l = subst (λ k. k < count r) (one_less n h) l

pub last_column-requires : goal.last_column-requires
last_column-requires c =
    let tape = c.args.tape.now in
    spread_line tape (c.args.count - 1) (at_one_less tape c.args.count c.requires.some c.requires.spread) (more_one_less tape.matrix.resolution c.args.count c.requires.some c.requires.more)

pub split_last-requires-clause-line : goal.split_last-requires-clause-line
split_last-requires-clause-line c =
    let tape = c.args.tape.now in
    spread_line tape (c.args.count - 1) (at_one_less tape c.args.count c.requires.some c.requires.spread) (more_one_less tape.matrix.resolution c.args.count c.requires.some c.requires.more)

pub split_last-requires-clause-bots : goal.split_last-requires-clause-bots
split_last-requires-clause-bots c =
    let tape = c.args.tape.now in
    let one_less_here = at_one_less tape c.args.count c.requires.some c.requires.spread in
    one_less_here.bots_are ∙ ap (lined_up 1) (sym (spread_places tape (c.args.count - 1) one_less_here (more_one_less tape.matrix.resolution c.args.count c.requires.some c.requires.more)))

pub split_last-requires-clause-seeds : goal.split_last-requires-clause-seeds
split_last-requires-clause-seeds c =
    let tape = c.args.tape.now in
    let one_less_here = at_one_less tape c.args.count c.requires.some c.requires.spread in
    let length_spread = spread_length tape (c.args.count - 1) one_less_here (more_one_less tape.matrix.resolution c.args.count c.requires.some c.requires.more) in
    let few_enough = few tape.matrix.resolution one_less_here.some in
    let more_required = c.requires.more in
    let some_required = c.requires.some in
    omega (arith, length_spread, few_enough, more_required, some_required)

pub split_last-requires-clause-within : goal.split_last-requires-clause-within
split_last-requires-clause-within c =
    let tape = c.args.tape.now in
    let one_less_here = at_one_less tape c.args.count c.requires.some c.requires.spread in
    let room_left = spread_room tape (c.args.count - 1) one_less_here (more_one_less tape.matrix.resolution c.args.count c.requires.some c.requires.more) in
    let some_there = one_less_here.some in
    omega (arith, room_left, some_there)

pub send_last-requires-clause-line : goal.send_last-requires-clause-line
send_last-requires-clause-line c =
    let tape = c.args.tape.now in
    born_line tape (c.args.count - 1) (at_one_less tape c.args.count c.requires.some c.requires.spread) (more_one_less tape.matrix.resolution c.args.count c.requires.some c.requires.more) c.split_last.new.tape c.in_ok-split_last.ensures.regroups c.in_ok-split_last.ensures.bots

pub send_last-requires-clause-free : goal.send_last-requires-clause-free
send_last-requires-clause-free c =
    let tape = c.args.tape.now in
    let born_free_here = born_free tape (c.args.count - 1) (at_one_less tape c.args.count c.requires.some c.requires.spread) (more_one_less tape.matrix.resolution c.args.count c.requires.some c.requires.more) c.split_last.new.tape c.in_ok-split_last.ensures.regroups c.in_ok-split_last.ensures.bots in
    let strip_width_is : c.strip_width.result ≡ width tape.matrix.resolution = c.strip_width.ensures ∙ ap width (c.resolution.ensures.value ∙ ap (λ m. m.resolution) c.matrix.ensures.value) in
    let last_column_value = c.last_column.ensures.value in
    omega (arith, born_free_here, strip_width_is, last_column_value)

pub send_last-requires-clause-within : goal.send_last-requires-clause-within
send_last-requires-clause-within c =
    let tape = c.args.tape.now in
    let one_less_here = at_one_less tape c.args.count c.requires.some c.requires.spread in
    let room_left = spread_room tape (c.args.count - 1) one_less_here (more_one_less tape.matrix.resolution c.args.count c.requires.some c.requires.more) in
    let strip_width_is : c.strip_width.result ≡ width tape.matrix.resolution = c.strip_width.ensures ∙ ap width (c.resolution.ensures.value ∙ ap (λ m. m.resolution) c.matrix.ensures.value) in
    let last_column_value = c.last_column.ensures.value in
    let size = ap (λ m. m.resolution) c.in_ok-split_last.ensures.regroups.matrix in
    let some_there = one_less_here.some in
    omega (arith, room_left, strip_width_is, last_column_value, size, some_there)

pub send_last-requires-clause-limit : goal.send_last-requires-clause-limit
send_last-requires-clause-limit c =
    let tape = c.args.tape.now in
    let one_less_here = at_one_less tape c.args.count c.requires.some c.requires.spread in
    let born_last_here = born_last tape (c.args.count - 1) one_less_here (more_one_less tape.matrix.resolution c.args.count c.requires.some c.requires.more) c.split_last.new.tape c.in_ok-split_last.ensures.regroups c.in_ok-split_last.ensures.bots in
    let strip_width_is : c.strip_width.result ≡ width tape.matrix.resolution = c.strip_width.ensures ∙ ap width (c.resolution.ensures.value ∙ ap (λ m. m.resolution) c.matrix.ensures.value) in
    let last_column_value = c.last_column.ensures.value in
    let is_narrow = narrow tape.matrix.resolution one_less_here.most in
    let steps = c.in_ok-split_last.ensures.regroups.steps in
    let limit = c.requires.limit in
    omega (arith, born_last_here, strip_width_is, last_column_value, is_narrow, steps, limit)

near : (a b w x v : ℕ) → a ≡ b + 1 → x ≡ b → v ≡ w → 1 ≤ w → w ≤ 20 → gap a (x + v) ≤ 19
near a b w x v e f g h k = omega arith

pub returns : goal.returns
returns c =
    let tape = c.args.tape.now in
    let tape_after_split_last = c.split_last.new.tape in
    let tape_after_send_last = c.send_last.new.tape in
    let one_less_here = at_one_less tape c.args.count c.requires.some c.requires.spread in
    let more_one_less_here = more_one_less tape.matrix.resolution c.args.count c.requires.some c.requires.more in
    let regroups = c.in_ok-split_last.ensures.regroups in
    let bots = c.in_ok-split_last.ensures.bots in
    let sum = c.last_column.result + c.strip_width.result in
    let strip_width_is : c.strip_width.result ≡ width tape.matrix.resolution = c.strip_width.ensures ∙ ap width (c.resolution.ensures.value ∙ ap (λ m. m.resolution) c.matrix.ensures.value) in
    let to : sum ≡ last_column (places tape.bots) + width tape.matrix.resolution = λ i. c.last_column.ensures.value i + strip_width_is i in
    let steps = near (last_column (places tape_after_split_last.bots)) (last_column (places tape.bots)) (width tape.matrix.resolution) c.last_column.result c.strip_width.result (born_last tape (c.args.count - 1) one_less_here more_one_less_here tape_after_split_last regroups bots) c.last_column.ensures.value strip_width_is (omega arith) (narrow tape.matrix.resolution one_less_here.most) in
    let one_more : suc (suc (c.args.count - 1)) ≡ c.args.count + 1 = let some_required = c.requires.some in omega arith in
    on_ok_weaker c.send_last.result
    (λ (h : CrewGoes tape_after_split_last tape_after_send_last (sent (places tape_after_split_last.bots) sum) (gap (last_column (places tape_after_split_last.bots)) sum)).
    subst (λ n. SpreadsOver tape tape_after_send_last n 20) one_more (spreads tape (c.args.count - 1) one_less_here more_one_less_here tape_after_split_last regroups bots tape_after_send_last sum (gap (last_column (places tape_after_split_last.bots)) sum) to h steps))
    c.send_last.ensures.goes

use Rattle.std.proofs.Common.{◌≡◌, ◌+◌, ◌≤◌, ℕ, ◌∙◌, sym, subst, arith}
use Rattle.low_planner.specs.Sweep.{IsSweptRow}
use Rattle.low_planner.proofs.Rows.{starts_here, swept_all, swept_on}
use Rattle.low_planner.proofs.sweep.Sweep.start_in_row.Goals as goal

pub returns-then-rests : goal.returns-then-rests
returns-then-rests c =
    let inv = c.loop-c.invariant in
    starts_here c.args.target.now c.args.self.now.remaining c.args.from c.loop-c.at c.in-Some.c inv.x inv.y inv.swept c.requires.same inv.z c.in-Some.ensures (sym c.rests.ensures ∙ c.if-rests.true)

pub returns-then-c-end : goal.returns-then-c-end
returns-then-c-end c =
    let inv = c.loop-c.invariant in
    let target = c.args.target.now in
    let left = c.args.self.now.remaining in
    let end : c.in-Some.c.z + 1 ≡ target.resolution = omega arith in
    subst (λ (n : ℕ). IsSweptRow target left c.args.from n) end
    (swept_on target left c.args.from c.loop-c.at c.in-Some.c inv.x inv.y inv.swept c.in-Some.ensures (sym c.rests.ensures ∙ c.if-rests.false))

pub loop-c-preserved : goal.loop-c-preserved
loop-c-preserved c =
    let inv = c.loop-c.invariant in
    let some_ensured = c.in-Some.ensures in
    let low : c.loop-c.at.z ≤ c.in-Some.c.z = some_ensured.z in
    let high = some_ensured.within.z in
    record {
      x = some_ensured.x ∙ inv.x;
      y = some_ensured.y ∙ inv.y;
      z = (let l = inv.z in omega (arith, low, l));
      within = omega arith;
      swept = swept_on c.args.target.now c.args.self.now.remaining c.args.from c.loop-c.at c.in-Some.c inv.x inv.y inv.swept some_ensured (sym c.rests.ensures ∙ c.if-rests.false);
    }

pub returns : goal.returns
returns c =
    let inv = c.loop-c.invariant in
    swept_all c.args.target.now c.args.self.now.remaining c.args.from c.loop-c.at c.args.target.now.resolution inv.x inv.y inv.swept c.in_default.ensures

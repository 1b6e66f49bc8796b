use Rattle.std.proofs.Common.{◌≡◌, ◌∙◌, ◌+◌, ◌*◌, ◌≤◌, ℕ, [], Err, Option, arith, refl, rules, length-take, subst, sym}
use Rattle.nanobot_rows.proofs.Paying.{paying_next, paying_within}
use Rattle.vox_depot.specs.Causes.{Rose}
use Rattle.vox_depot.specs.Files.{Files, IsMissing}
use Rattle.vox_depot.specs.declared.depot.FetchFault.TheVariants as fetch
use Rattle.nanobot_rows.specs.declared.status.Status.TheVariants as is
use Rattle.plan_choice.specs.Planners.{byte_limit}
use Rattle.nanobot_rows.specs.Answer.{OfRun, TraceOf, Upon}
use Rattle.nanobot_rows.specs.Reading.{of_fetch, reply_of, reply_to}
use Rattle.nanobot_rows.proofs.Replies.{rose_since}
use Rattle.nanobot_rows.proofs.Told.{err_is, not_fetched}
use Rattle.nanobot_rows.proofs.Tracing.{underway_end, underway_long, underway_next}
use Rattle.nanobot_rows.proofs.trace.run_trace.Goals as goal

pub returns-then-count-eq0-clause-ends : goal.returns-then-count-eq0-clause-ends
returns-then-count-eq0-clause-ends g c =
    let piece = rw c.pieces.invariant.files at c.in_ok-count.ensures.piece in
    underway_end _ _ c.args.source c.args.profile _ _ _ c.pieces.run c.pieces.invariant.underway piece c.in_ok-count.ensures.bound c.args.target.now _ (omega arith) c.if-count-eq0.true c.pieces.invariant.within (λ bytes run. c.finish.ensures.report c.args.source c.args.profile bytes run)

pub returns-then-at-gt-LIMIT-clause-ends : goal.returns-then-at-gt-LIMIT-clause-ends
returns-then-at-gt-LIMIT-clause-ends g c =
    let piece = rw c.pieces.invariant.files at c.in_ok-count.ensures.piece in
    underway_long _ _ c.args.source c.args.profile _ _ _ c.pieces.run c.pieces.invariant.underway piece c.in_ok-count.ensures.bound c.args.target.now (omega (arith, c.if-at-gt-LIMIT.true))

pub returns-in_err-count-clause-ends : goal.returns-in_err-count-clause-ends
returns-in_err-count-clause-ends g c =
    let name = c.args.name.now in
    let answers = Upon (TraceOf byte_limit name) (OfRun c.args.profile c.args.source c.args.target.now) in
    let missing : c.in_err-count.field-0.0 ≡ fetch.Missing → IsMissing (g.D.Depot.files c.pieces.depot) name = λ e. search rules in
    let failed : c.in_err-count.field-0.0 ≡ fetch.Failed → Rose (g.D.Depot.faults c.pieces.depot) (g.D.Depot.faults c.fetch.new.self) = λ e. search rules in
    let same = err_is c.from_residual-in_err-count.result (of_fetch c.in_err-count.field-0.0) c.from_residual-in_err-count.ensures.1 in
    rw same
    (not_fetched (λ files found. answers files (reply_to reply_of files found)) (g.D.Depot.files c.args.depot.now) name (Rose (g.D.Depot.faults c.args.depot.now) (g.D.Depot.faults c.fetch.new.self))
    (λ files h. (Err (is.Depot, []), (Err (is.Depot, []), (Err (is.Depot, []), h, refl), refl), refl)) c.in_err-count.field-0.0
    (λ e. subst (λ (o : Option Files). IsMissing o name) c.pieces.invariant.files (missing e))
    (λ e. rose_since _ _ _ c.pieces.invariant.later (failed e)))

pub pieces-preserved : goal.pieces-preserved
pieces-preserved g c =
    let piece = rw c.pieces.invariant.files at c.in_ok-count.ensures.piece in
    let fed = c.in_ok-feed.ensures in
    let size = length-take c.in_ok-count.count c.fetch.new.buf in
    record {
      underway = underway_next _ _ c.args.source c.args.profile _ _ _ c.pieces.run c.pieces.invariant.underway piece c.in_ok-count.ensures.bound c.feed.new.self (λ bytes run. fed.run c.args.source c.args.profile bytes run);
      within = omega (arith, c.if-at-gt-LIMIT.false);
      offset = omega (arith, fed.offset, c.pieces.invariant.offset, size);
      resolution = fed.resolution ∙ c.pieces.invariant.resolution;
      stands = fed.stands;
      files = search rules;
      later = omega (arith, c.in_ok-count.ensures.later, c.pieces.invariant.later);
      stores = search rules;
      paying = paying_next _ _ c.args.source c.args.profile _ c.pieces.run c.start.new.steps c.pieces.steps c.pieces.invariant.paying _ _ c.feed.new.self c.feed.new.steps piece c.in_ok-count.ensures.bound
          (λ bytes paid. fed.paid c.args.source c.args.profile bytes c.start.new.steps c.pieces.invariant.resolution paid);
    }

pub returns-then-count-eq0-clause-within : goal.returns-then-count-eq0-clause-within
returns-then-count-eq0-clause-within g c = λ _.
    paying_within _ _ c.args.source c.args.profile _ c.pieces.run c.start.new.steps c.pieces.steps c.pieces.invariant.paying c.the_work_pays.ensures.all c.every_run_has_work.ensures.run _ _ c.in_ok-run.ensures.touches
    (subst (λ (r : ℕ). c.finish.new.steps ≤ c.pieces.steps + 2 * (r * r * r)) (sym c.requires.resolutions) c.finish.ensures.touches)

pub returns-then-at-gt-LIMIT-clause-within : goal.returns-then-at-gt-LIMIT-clause-within
returns-then-at-gt-LIMIT-clause-within g c = λ _.
    paying_within _ _ c.args.source c.args.profile _ c.pieces.run c.start.new.steps c.pieces.steps c.pieces.invariant.paying c.the_work_pays.ensures.all c.every_run_has_work.ensures.run _ _ c.in_ok-run.ensures.touches (omega arith)

pub returns-in_err-count-clause-within : goal.returns-in_err-count-clause-within
returns-in_err-count-clause-within g c = λ _.
    paying_within _ _ c.args.source c.args.profile _ c.pieces.run c.start.new.steps c.pieces.steps c.pieces.invariant.paying c.the_work_pays.ensures.all c.every_run_has_work.ensures.run _ _ c.in_ok-run.ensures.touches (omega arith)

use Rattle.std.proofs.Common.{◌≡◌, ◌-◌, ◌<◌, ◌≤◌, ℕ, ◌∙◌, ap, subst, arith, inl, inr}
use Rattle.std.specs.Prelude.{◌⊎◌}
use Rattle.nano_spec.specs.Model.{volume}
use Rattle.model_file.proofs.WideForms.{bad_run, long_run, no_runs, run_more, runs_end, runs_long, runs_short, void_run}
use Rattle.model_file.proofs.wide_form.fill_runs.Goals as goal

pub loop-sum-init : goal.loop-sum-init
loop-sum-init c = no_runs c.args.planes.now.resolution c.args.bytes.now c.args.planes.now c.requires c.resolution.ensures.whole

pub returns-then-bytes-at-lt4 : goal.returns-then-bytes-at-lt4
returns-then-bytes-at-lt4 c =
    let places_is = c.volume-places.ensures ∙ ap volume c.resolution.ensures.value in
    runs_short _ _ _ _ _ _ _ c.loop-sum.invariant c.if-bytes-at-lt4.true (subst (λ (n : ℕ). c.loop-sum.sum < n) places_is c.loop-sum-test.true)

pub returns-then-index-gt0 : goal.returns-then-index-gt0
returns-then-index-gt0 c =
    let places_is = c.volume-places.ensures ∙ ap volume c.resolution.ensures.value in
    bad_run _ _ _ _ _ _ c.number_at-run.result _ c.loop-sum.invariant (omega (arith, c.if-bytes-at-lt4.false)) (subst (λ (n : ℕ). c.loop-sum.sum < n) places_is c.loop-sum-test.true) c.number_at-run.ensures
    (void_run (volume c.args.planes.now.resolution) c.loop-sum.index c.loop-sum.sum c.number_at-run.result c.if-run-eq0.true c.if-index-gt0.true)

pub returns-then-places-sum : goal.returns-then-places-sum
returns-then-places-sum c =
    let places_is = c.volume-places.ensures ∙ ap volume c.resolution.ensures.value in
    bad_run _ _ _ _ _ _ c.number_at-run.result _ c.loop-sum.invariant (omega (arith, c.if-bytes-at-lt4.false)) (subst (λ (n : ℕ). c.loop-sum.sum < n) places_is c.loop-sum-test.true) c.number_at-run.ensures
    (long_run (volume c.args.planes.now.resolution) c.loop-sum.index c.loop-sum.sum c.number_at-run.result (subst (λ (n : ℕ). n - c.loop-sum.sum < c.number_at-run.result) places_is c.if-places-sum.true))

first_only : (run index : ℕ) → ((run ≡ 0 × index ≤ 0) ⊎ (run ≡ 0 → ⊥)) → run ≡ 0 → index ≡ 0
first_only run index (inl h) e = omega (arith, h.1)
first_only run index (inr h) e = absurd (h e)

pub loop-sum-preserved : goal.loop-sum-preserved
loop-sum-preserved c =
    let places_is = c.volume-places.ensures ∙ ap volume c.resolution.ensures.value in
    let most : c.number_at-run.result ≤ volume c.args.planes.now.resolution - c.loop-sum.sum = subst (λ (n : ℕ). c.number_at-run.result ≤ n - c.loop-sum.sum) places_is c.if-places-sum.false in
    run_more c.args.planes.now.resolution c.args.bytes.now c.loop-sum.planes c.fill_run.new.planes c.loop-sum.at c.loop-sum.index c.loop-sum.sum c.number_at-run.result c.loop-sum.full c.loop-sum.invariant (omega (arith, c.if-bytes-at-lt4.false)) (subst (λ (n : ℕ). c.loop-sum.sum < n) places_is c.loop-sum-test.true) c.number_at-run.ensures
    (first_only c.number_at-run.result c.loop-sum.index c.else-run-eq0.either) (let invariant = c.loop-sum.invariant in omega (arith, invariant.most)) c.fill_run.ensures.places c.fill_run.ensures.resolution (c.fill_run.ensures.whole (let invariant = c.loop-sum.invariant in invariant.whole))

pub returns-then-at-bytes : goal.returns-then-at-bytes
returns-then-at-bytes c =
    let places_is = c.volume-places.ensures ∙ ap volume c.resolution.ensures.value in
    runs_long _ _ _ _ _ _ _ c.loop-sum.invariant c.if-at-bytes.true (subst (λ (n : ℕ). n ≤ c.loop-sum.sum) places_is c.loop-sum-test.false)

pub returns : goal.returns
returns c =
    let places_is = c.volume-places.ensures ∙ ap volume c.resolution.ensures.value in
    runs_end _ _ _ _ _ _ _ c.loop-sum.invariant c.if-at-bytes.false (subst (λ (n : ℕ). n ≤ c.loop-sum.sum) places_is c.loop-sum-test.false)

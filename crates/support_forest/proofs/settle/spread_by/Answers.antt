use Rattle.std.proofs.Common.{ℕ, ◌≡◌, ◌+◌, ◌-◌, arith, subst}
use Rattle.support_forest.specs.Offers.{candidate_at}
use Rattle.support_forest.specs.Spreading.{IsSpreading}
use Rattle.support_forest.specs.Waiting.{waiting_at}
use Rattle.support_forest.proofs.SettlingSteps.{can_go_on, can_spread_fewer, spreading_fewer}
use Rattle.support_forest.proofs.settle.spread_by.Goals as goal

pub spread_toward-requires-2-clause-can : goal.spread_toward-requires-2-clause-can
spread_toward-requires-2-clause-can g c = can_go_on _ _ _ _ _ _ _ _ _ (can_spread_fewer _ _ _ _ _ _ c.requires.can (omega arith)) c.in_ok-spread_toward.ensures.spreads

pub spread_toward-requires-3-clause-can : goal.spread_toward-requires-3-clause-can
spread_toward-requires-3-clause-can g c = can_go_on _ _ _ _ _ _ _ _ _ (can_go_on _ _ _ _ _ _ _ _ _ (can_spread_fewer _ _ _ _ _ _ c.requires.can (omega arith)) c.in_ok-spread_toward.ensures.spreads) c.in_ok-spread_toward-2.ensures.spreads

pub spread_toward-requires-4-clause-can : goal.spread_toward-requires-4-clause-can
spread_toward-requires-4-clause-can g c = can_go_on _ _ _ _ _ _ _ _ _ (can_go_on _ _ _ _ _ _ _ _ _ (can_go_on _ _ _ _ _ _ _ _ _ (can_spread_fewer _ _ _ _ _ _ c.requires.can (omega arith)) c.in_ok-spread_toward.ensures.spreads) c.in_ok-spread_toward-2.ensures.spreads) c.in_ok-spread_toward-3.ensures.spreads

pub spread_toward-requires-5-clause-can : goal.spread_toward-requires-5-clause-can
spread_toward-requires-5-clause-can g c = can_go_on _ _ _ _ _ _ _ _ _ (can_go_on _ _ _ _ _ _ _ _ _ (can_go_on _ _ _ _ _ _ _ _ _ (can_go_on _ _ _ _ _ _ _ _ _ (can_spread_fewer _ _ _ _ _ _ c.requires.can (omega arith)) c.in_ok-spread_toward.ensures.spreads) c.in_ok-spread_toward-2.ensures.spreads) c.in_ok-spread_toward-3.ensures.spreads) c.in_ok-spread_toward-4.ensures.spreads

pub spread_toward-requires-6-clause-can : goal.spread_toward-requires-6-clause-can
spread_toward-requires-6-clause-can g c = can_go_on _ _ _ _ _ _ _ _ _ (can_go_on _ _ _ _ _ _ _ _ _ (can_go_on _ _ _ _ _ _ _ _ _ (can_go_on _ _ _ _ _ _ _ _ _ (can_go_on _ _ _ _ _ _ _ _ _ (can_spread_fewer _ _ _ _ _ _ c.requires.can (omega arith)) c.in_ok-spread_toward.ensures.spreads) c.in_ok-spread_toward-2.ensures.spreads) c.in_ok-spread_toward-3.ensures.spreads) c.in_ok-spread_toward-4.ensures.spreads) c.in_ok-spread_toward-5.ensures.spreads

pub returns : goal.returns
returns g c = λ old start before limit s.
    let difference_is : c.spread_toward-6.new.steps + 7 - 7 ≡ c.spread_toward-6.new.steps = omega arith in
    subst (λ (n : ℕ). IsSpreading old c.spread_toward-6.new.cells start (waiting_at c.args.side c.spread_toward-6.new.pending) (candidate_at c.args.side c.args.offer) 7 before n limit) difference_is
    (c.in_ok-spread_toward-6.ensures.spreads old start before limit (c.in_ok-spread_toward-5.ensures.spreads old start before limit (c.in_ok-spread_toward-4.ensures.spreads old start before limit (c.in_ok-spread_toward-3.ensures.spreads old start before limit (c.in_ok-spread_toward-2.ensures.spreads old start before limit (c.in_ok-spread_toward.ensures.spreads old start before limit (spreading_fewer _ _ _ _ _ _ _ _ _ _ s (omega arith))))))))

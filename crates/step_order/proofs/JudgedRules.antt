-- Each rule that is judged for a bot, as one of them; and that the others are none.
use Rattle.std.proofs.Common.{◌≡◌, Bool, true, false, inl, inr, refl, ap}
use Rattle.nano_spec.specs.Rules.{rules_of_bots}
use Rattle.nano_spec.specs.declared.outcomes.Rule.{Rule}
use Rattle.nano_spec.specs.declared.outcomes.Rule.TheVariants.{HaltAlone, HaltOrigin, HaltLow, OutOfSpace, Blocked, Seeds, InRegion, Partner, GroupShape, TraceEnds, Ungrounded}
use Rattle.step_order.proofs.Lists.{In, any_none, not_both}

pub halt_alone_is_judged : In HaltAlone rules_of_bots
halt_alone_is_judged = inr (inl refl)

pub halt_origin_is_judged : In HaltOrigin rules_of_bots
halt_origin_is_judged = inr (inr (inl refl))

pub halt_low_is_judged : In HaltLow rules_of_bots
halt_low_is_judged = inr (inr (inr (inl refl)))

pub out_of_space_is_judged : In OutOfSpace rules_of_bots
out_of_space_is_judged = inr (inr (inr (inr (inl refl))))

pub blocked_is_judged : In Blocked rules_of_bots
blocked_is_judged = inr (inr (inr (inr (inr (inl refl)))))

pub seeds_are_judged : In Seeds rules_of_bots
seeds_are_judged = inr (inr (inr (inr (inr (inr (inl refl))))))

pub in_region_is_judged : In InRegion rules_of_bots
in_region_is_judged = inr (inr (inr (inr (inr (inr (inr (inl refl)))))))

pub partner_is_judged : In Partner rules_of_bots
partner_is_judged = inr (inr (inr (inr (inr (inr (inr (inr (inl refl))))))))

pub group_shape_is_judged : In GroupShape rules_of_bots
group_shape_is_judged = inr (inr (inr (inr (inr (inr (inr (inr (inr (inl refl)))))))))

-- whether the rule is judged for a whole step
is_of_step : Rule → Bool
is_of_step TraceEnds = true
is_of_step Ungrounded = true
is_of_step _ = false

pub no_end : (rule : Rule) → In rule rules_of_bots → rule ≡ TraceEnds → ⊥
unfolding is_of_step
no_end rule i e = not_both (ap is_of_step e) (any_none is_of_step rule rules_of_bots refl i)

pub no_grounding : (rule : Rule) → In rule rules_of_bots → rule ≡ Ungrounded → ⊥
unfolding is_of_step
no_grounding rule i e = not_both (ap is_of_step e) (any_none is_of_step rule rules_of_bots refl i)

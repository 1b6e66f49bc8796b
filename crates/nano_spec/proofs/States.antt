-- Worked examples of states: the reason why each is not well-formed or not ready.
use Rattle.std.proofs.Common.{◌≡◌, ℕ, ◌<◌, refl, arith, true, [], ◌∷◌, get_or}
use Rattle.std.specs.Prelude.{IsFalse, Some, None}
use Rattle.vox_geom.specs.declared.coordinate.Coord.{Coord}
use Rattle.vox_geom.specs.Point.{coord}
use Rattle.vox_geom.proofs.Truths.{true_and_false}
use Rattle.nano_spec.specs.declared.system.Bot.{Bot}
use Rattle.nano_spec.specs.declared.system.Harmonics.TheVariants.{Low, High}
use Rattle.nano_spec.specs.Matrix.{is_full}
use Rattle.nano_spec.specs.State.{is_seed}
use Rattle.nano_spec.specs.Worked.{voxels_at}
use Rattle.nano_spec.specs.WorkedOthers.{FloatingUnderHigh, WorkedStates}
use Rattle.nano_spec.specs.WorkedStep.{bot}
use Rattle.nano_spec.proofs.Opening.{alone}
use Rattle.nano_spec.proofs.Simulation.{ungrounded_is}
use Rattle.nano_spec.proofs.Unique.{FirstUngrounded-unique}

-- a bot for indices beyond a list
abbrev nobody : Bot
nobody = bot 0 0 0 0

not_low : High ≡ Low → ⊥
not_low e = cc

none_floats : (c : Coord) → None ≡ Some c → ⊥
none_floats c e = cc

not_below_itself : (n : ℕ) → n < n → ⊥
not_below_itself n h = omega arith

none_or_27 : (n : ℕ) → n ≡ 0 → n ≡ 27 → ⊥
none_or_27 n e f = omega arith

falls : 2 < 1 → ⊥
falls h = omega arith

pub worked_states : WorkedStates
worked_states = record {
  floating_under_low = λ h. none_floats (coord 1 1 1) (FirstUngrounded-unique (voxels_at 3 (coord 1 1 1 ∷ [])) None (Some (coord 1 1 1)) (h.grounded refl) (ungrounded_is 6 (voxels_at 3 (coord 1 1 1 ∷ [])) (coord 1 1 1) refl));
  one_bid_twice = λ h. h.bids 0 1 nobody (omega arith) (omega arith) refl;
  one_place_twice = λ h. h.positions 0 1 nobody (omega arith) (omega arith) refl;
  a_bot_in_a_voxel = λ h. true_and_false true refl (h.void 0 nobody (omega arith));
  one_seed_twice = λ h. true_and_false true refl (h.seeds 0 1 nobody (omega arith) (omega arith) 5 refl);
  a_seed_is_active = λ h. true_and_false true refl (h.unborn 0 nobody (omega arith) 1 nobody (omega arith));
  no_voxels = λ h. none_or_27 0 refl h.whole;
  a_bot_outside = λ h. not_below_itself 3 (h.within 0 nobody (omega arith)).z;
  bids_that_fall = λ h. falls (h.rising 0 1 nobody (omega arith) (omega arith));
  one_ready_place_twice = λ h. h.positions 0 1 nobody (omega arith) (omega arith) refl;
  one_ready_seed_twice = λ h. true_and_false true refl (h.seeds 0 1 nobody (omega arith) (omega arith) 5 refl);
  a_ready_seed_is_active = λ h. true_and_false true refl (h.unborn 0 nobody (omega arith) 1 nobody (omega arith));
}

pub floating_under_high : FloatingUnderHigh
floating_under_high = record {
  grounded = λ e. absurd (not_low e);
  bids = λ i j d k l. absurd (omega arith);
  positions = λ i j d k l. absurd (omega arith);
  void = alone (bot 1 0 0 0) (λ b. IsFalse (is_full (voxels_at 3 (coord 1 1 1 ∷ [])) b.pos)) refl;
  seeds = λ i j d k l. absurd (omega arith);
  unborn = alone (bot 1 0 0 0) (λ a. (k : ℕ) (d : Bot) → k < 1 → IsFalse (is_seed a.seeds (get_or (bot 1 0 0 0 ∷ []) k d).bid)) (alone (bot 1 0 0 0) (λ b. IsFalse (is_seed 0 b.bid)) refl);
}

-- Worked sessions, each line by its kind.
use Rattle.std.proofs.Common.{ℕ, zero, suc, refl, inl, inr, List, [], ◌∷◌, pos}
use Rattle.std.specs.Prelude.{None, Some}
use Rattle.vox_geom.specs.Point.{coord}
use Rattle.nano_spec.specs.declared.commands.Command.{Command}
use Rattle.nano_spec.specs.declared.commands.Command.TheVariants.{Halt}
use Rattle.nano_spec.specs.declared.outcomes.Rule.TheVariants.{TraceEnds, Ungrounded}
use Rattle.nano_spec.specs.Grounded.{FirstUngrounded}
use Rattle.nano_spec.specs.Matrix.{empty}
use Rattle.nano_spec.specs.Next.{Goes, Breaks, accepts, breaks_at_start, leaves_floating}
use Rattle.nano_spec.specs.Profile.{full_profile}
use Rattle.nano_spec.specs.State.{State, seed_numbers}
use Rattle.nano_spec.specs.Step.{after}
use Rattle.nano_spec.specs.Worked.{voxels_at}
use Rattle.nano_spec.proofs.Grounding.{void_is}
use Rattle.nano_spec.proofs.Island.{floats}
use Rattle.nano_spec.proofs.Simulation.{grounded_is}
use Rattle.step_debugger.specs.Session.{Session, made, next_commands, opened}
use Rattle.step_debugger.specs.Worked.{WorkedSessions, floating, waits}

-- the state and the session after the next commands
abbrev state_after : List Command → Session → State
state_after commands s = after s.point.state (next_commands commands s.point)

abbrev next_of : List Command → Session → Session
next_of commands s = made s (state_after commands s)

abbrev f0 : Session
f0 = opened (empty 2) full_profile

abbrev f1 : Session
f1 = next_of floating f0

-- the sessions with the group of one leader begun
abbrev begun_1 : Session
begun_1 = record f1 { begun = 1 ∷ [] }

abbrev begun_2 : Session
begun_2 = record f1 { begun = 2 ∷ [] }

-- the sessions after n Waits
abbrev waited : ℕ → Session
waited zero = opened (empty 1) full_profile
waited (suc n) = next_of waits (waited n)

-- the session after a Halt alone
abbrev ended_1 : Session
ended_1 = next_of (Halt ∷ []) (opened (empty 1) full_profile)

-- the voxel floats
floats_alone : FirstUngrounded (voxels_at 2 (coord 0 1 1 ∷ [])) (Some (coord 0 1 1))
floats_alone = inr (λ e. cc, inr (λ e. cc, inr (λ e. cc, inl (λ h. floats (voxels_at 2 (coord 0 1 1 ∷ [])) (coord 0 1 1 ∷ []) (coord 0 1 1) refl refl (h refl), refl))))

pub worked_sessions : WorkedSessions
unfolding seed_numbers
worked_sessions = record {
  groups_begin_again_after_a_floating_voxel = (
    f1,
    (Goes f1.point.state, (accepts refl (λ low. grounded_is 6 (empty 2) refl) refl), (refl, refl)),
    (
      begun_1,
      (refl, refl),
      (
        begun_1,
        (refl, refl),
        (
          f1,
          (Breaks (record { step = 2; bid = 0; rule = Ungrounded; at = coord 0 1 1 }), (leaves_floating (coord 0 1 1) refl refl floats_alone refl), (refl, refl)),
          (begun_1, (refl, refl), tt),
        ),
      ),
    ),
  );
  what_is_begun_is_dropped = (
    f1,
    (Goes f1.point.state, (accepts refl (λ low. grounded_is 6 (empty 2) refl) refl), (refl, refl)),
    (
      begun_2,
      (refl, refl),
      (
        f1,
        (refl, refl),
        (
          begun_2,
          (refl, refl),
          (begun_2, (refl, refl), tt),
        ),
      ),
    ),
  );
  a_voxel_while_groups_are_begun = (
    f1,
    (Goes f1.point.state, (accepts refl (λ low. grounded_is 6 (empty 2) refl) refl), (refl, refl)),
    (
      begun_1,
      (refl, refl),
      (begun_1, (refl, (None, void_is (empty 2) (coord 0 1 1) refl, refl)), tt),
    ),
  );
  an_ended_run = (
    ended_1,
    (Goes ended_1.point.state, (accepts refl (λ low. grounded_is 6 (empty 1) refl) refl), (refl, refl)),
    (
      ended_1,
      (refl, refl),
      (
        ended_1,
        (refl, refl),
        (waited 0, record { earlier = []; last = (waited 0).point; past = refl; session = refl; report_is = refl }, tt),
      ),
    ),
  );
  an_ended_trace = (
    waited 0,
    (Breaks (record { step = 1; bid = 1; rule = TraceEnds; at = coord 0 0 0 }), breaks_at_start (record { step = 1; bid = 1; rule = TraceEnds; at = coord 0 0 0 }) refl refl, (refl, refl)),
    (
      waited 0,
      (refl, refl),
      (waited 0, (refl, (record (waited 0).point.state { energy = pos 23 }, refl, refl)), tt),
    ),
  );
  a_full_past = (refl, refl);
  six_steps_are_taken_back = (
    waited 1,
    (Goes (waited 1).point.state, (accepts refl (λ low. grounded_is 6 (empty 1) refl) refl), (refl, refl)),
    (
      waited 2,
      (Goes (waited 2).point.state, (accepts refl (λ low. grounded_is 6 (empty 1) refl) refl), (refl, refl)),
      (
        waited 3,
        (Goes (waited 3).point.state, (accepts refl (λ low. grounded_is 6 (empty 1) refl) refl), (refl, refl)),
        (
          waited 4,
          (Goes (waited 4).point.state, (accepts refl (λ low. grounded_is 6 (empty 1) refl) refl), (refl, refl)),
          (
            waited 5,
            (Goes (waited 5).point.state, (accepts refl (λ low. grounded_is 6 (empty 1) refl) refl), (refl, refl)),
            (
              waited 6,
              (Goes (waited 6).point.state, (accepts refl (λ low. grounded_is 6 (empty 1) refl) refl), (refl, refl)),
              (
                waited 5,
                record { earlier = (waited 5).past; last = (waited 5).point; past = refl; session = refl; report_is = refl },
                (
                  waited 4,
                  record { earlier = (waited 4).past; last = (waited 4).point; past = refl; session = refl; report_is = refl },
                  (
                    waited 3,
                    record { earlier = (waited 3).past; last = (waited 3).point; past = refl; session = refl; report_is = refl },
                    (
                      waited 2,
                      record { earlier = (waited 2).past; last = (waited 2).point; past = refl; session = refl; report_is = refl },
                      (
                        waited 1,
                        record { earlier = (waited 1).past; last = (waited 1).point; past = refl; session = refl; report_is = refl },
                        (
                          waited 0,
                          record { earlier = (waited 0).past; last = (waited 0).point; past = refl; session = refl; report_is = refl },
                          (waited 0, (refl, refl), tt),
                        ),
                      ),
                    ),
                  ),
                ),
              ),
            ),
          ),
        ),
      ),
    ),
  );
}

-- Worked examples of sessions: the answers to a script's lines, over the commands of a trace.
use Rattle.std.specs.Prelude.{◌≡◌, ℕ, pos, true, false, List, [], ◌∷◌, length, replicate}
use Rattle.vox_geom.specs.Point.{coord}
use Rattle.nano_spec.specs.declared.commands.Command.{Command}
use Rattle.nano_spec.specs.declared.commands.Command.TheVariants.{Halt, Wait, Fission, Fill}
use Rattle.nano_spec.specs.declared.outcomes.Rule.TheVariants.{TraceEnds, Ungrounded}
use Rattle.nano_spec.specs.Matrix.{empty}
use Rattle.nano_spec.specs.Profile.{full_profile}
use Rattle.nano_spec.specs.Worked.{diff}
use Rattle.nano_spec.specs.WorkedStep.{with_one}
use Rattle.nano_spec.specs.declared.system.Harmonics.TheVariants.{Low}
use Rattle.step_debugger.specs.Session.{AnswersLine, DebugLine, DebugReport, Session, made, opened, Step, Group, Back, Bots, Voxel, Ended, Refused, Made, NoLeader, Begun, NoHistory, Returned, Crew, IsVoid}

-- these reports answer the lines, one after another, from a session on
abbrev pub Answered : List Command → Session → List DebugLine → List DebugReport → Type 0
Answered commands s [] [] = Unit {0}
Answered commands s [] (report ∷ reports) = ⊥
Answered commands s (line ∷ lines) [] = ⊥
Answered commands s (line ∷ lines) (report ∷ reports) =
    (t : Session) × AnswersLine commands line s t report × Answered commands t lines reports

-- from the empty model of resolution 1: the only bot waits and then halts, and each step costs 23
abbrev pub waits : List Command
waits = Wait ∷ Wait ∷ Wait ∷ Wait ∷ Wait ∷ Wait ∷ Halt ∷ []

-- from the empty model of resolution 2: a bot makes another, fills a voxel that floats, and the other waits
abbrev pub floating : List Command
floating = Fission (diff (pos 0) (pos 0) (pos 1)) 0 ∷ Fill (diff (pos 0) (pos 1) (pos 1)) ∷ Wait ∷ []

-- a session after n steps of one Wait
abbrev pub with_past : ℕ → Session
with_past n =
    record {
      point = record { state = with_one Low (pos 0); steps = n; taken = n };
      past = replicate n (record { state = with_one Low (pos 0); steps = 0; taken = 0 });
      begun = [];
    }

-- sessions
pub record WorkedSessions : Type 0 where
  -- six steps are made and undone, and there is no earlier point
  pub six_steps_are_taken_back : Answered waits (opened (empty 1) full_profile)
      (Step ∷ Step ∷ Step ∷ Step ∷ Step ∷ Step ∷ Back ∷ Back ∷ Back ∷ Back ∷ Back ∷ Back ∷ Back ∷ [])
      (Made 1 (pos 23) false ∷ Made 2 (pos 46) false ∷ Made 3 (pos 69) false ∷ Made 4 (pos 92) false
      ∷ Made 5 (pos 115) false ∷ Made 6 (pos 138) false ∷ Returned 5 (pos 115) ∷ Returned 4 (pos 92)
      ∷ Returned 3 (pos 69) ∷ Returned 2 (pos 46) ∷ Returned 1 (pos 23) ∷ Returned 0 (pos 0) ∷ NoHistory ∷ [])
  -- the last group makes the step, a voxel floats, and then no group is begun: the first can begin again
  pub groups_begin_again_after_a_floating_voxel : Answered floating (opened (empty 2) full_profile)
      (Step ∷ Group 1 ∷ Group 1 ∷ Group 2 ∷ Group 1 ∷ []) (Made 1 (pos 68) false ∷ Begun 1 2 ∷ NoLeader 1
      ∷ Refused (record { step = 2; bid = 0; rule = Ungrounded; at = coord 0 1 1 }) ∷ Begun 1 2 ∷ [])
  -- the step back drops the begun groups, and the report has the bots of the point between groups
  pub what_is_begun_is_dropped : Answered floating (opened (empty 2) full_profile)
      (Step ∷ Group 2 ∷ Back ∷ Group 2 ∷ Group 3 ∷ [])
      (Made 1 (pos 68) false ∷ Begun 2 2 ∷ Returned 1 (pos 68) ∷ Begun 2 2 ∷ NoLeader 3 ∷ [])
  -- the report has the voxel at the point, even if the group that fills it is begun
  pub a_voxel_while_groups_are_begun :
      Answered floating (opened (empty 2) full_profile) (Step ∷ Group 1 ∷ Voxel (coord 0 1 1) ∷ [])
      (Made 1 (pos 68) false ∷ Begun 1 2 ∷ IsVoid (coord 0 1 1) ∷ [])
  -- the run ends, and a step back is made
  pub an_ended_run : Answered (Halt ∷ []) (opened (empty 1) full_profile) (Step ∷ Step ∷ Group 1 ∷ Back ∷ [])
      (Made 1 (pos 23) true ∷ Ended ∷ Ended ∷ Returned 0 (pos 0) ∷ [])
  -- the trace ends, and the session stays
  pub an_ended_trace : Answered [] (opened (empty 1) full_profile) (Step ∷ Group 1 ∷ Bots ∷ [])
      (Refused (record { step = 1; bid = 1; rule = TraceEnds; at = coord 0 0 0 })
      ∷ Refused (record { step = 1; bid = 1; rule = TraceEnds; at = coord 0 0 0 })
      ∷ Crew (opened (empty 1) full_profile).point.state.bots ∷ [])
  -- 4,096 points are kept
  pub a_full_past : (length (made (with_past 4095) (with_one Low (pos 0))).past ≡ 4096)
      × (length (made (with_past 4096) (with_one Low (pos 0))).past ≡ 4096)

-- Worked examples of scripts and of their printed lines (docs/FORMATS.md, "Sessions").
use Rattle.std.specs.Prelude.{◌≡◌, pos, true, false, [], ◌∷◌, codes, Some, None, Ok, Err}
use Rattle.vox_geom.specs.Point.{coord}
use Rattle.nano_spec.specs.declared.outcomes.Rule.TheVariants.{GroupShape}
use Rattle.nano_spec.specs.Line.{NotAscii, UnknownWord, Shape, Range}
use Rattle.nano_spec.specs.State.{seed_set}
use Rattle.step_debugger.specs.Session as session
use Rattle.debug_script.specs.Printing.{printed_report}
use Rattle.debug_script.specs.Script.{AreShort, ScriptSays}

-- scripts at resolution 3
pub record WorkedScripts : Type 0 where
  -- a number has at most five digits
  pub five_digits_of_a_bid : AreShort (session.Group 99999)
  pub six_digits_of_a_bid : AreShort (session.Group 100000) → ⊥
  pub six_digits_of_x : AreShort (session.Voxel (coord 100000 0 0)) → ⊥
  pub six_digits_of_y : AreShort (session.Voxel (coord 0 100000 0)) → ⊥
  pub six_digits_of_z : AreShort (session.Voxel (coord 0 0 100000)) → ⊥
  pub each_line : ScriptSays 3 (codes "step\ngroup 40\nback\nbots\nvoxel 0 2 1\n")
      (Ok (session.Step ∷ session.Group 40 ∷ session.Back ∷ session.Bots ∷ session.Voxel (coord 0 2 1) ∷ []))
  pub no_line : ScriptSays 3 [] (Ok [])
  pub a_last_line_without_its_end : ScriptSays 3 (codes "back") (Ok (session.Back ∷ []))
  pub a_high_byte : ScriptSays 3 (115 ∷ 128 ∷ []) (Err (record { fault = NotAscii; line = 1 }))
  pub a_large_letter : ScriptSays 3 (codes "step\nStep\n") (Err (record { fault = UnknownWord; line = 2 }))
  pub an_empty_line : ScriptSays 3 (codes "step\n\nback\n") (Err (record { fault = UnknownWord; line = 2 }))
  pub a_blank_behind_a_word : ScriptSays 3 (codes "step \n") (Err (record { fault = Shape; line = 1 }))
  pub group_1 : ScriptSays 3 (codes "group 1\n") (Ok (session.Group 1 ∷ []))
  pub group_0 : ScriptSays 3 (codes "group 0\n") (Err (record { fault = Range; line = 1 }))
  pub group_41 : ScriptSays 3 (codes "back\ngroup 41\n") (Err (record { fault = Range; line = 2 }))
  pub a_bid_of_five_digits : ScriptSays 3 (codes "group 12345\n") (Err (record { fault = Range; line = 1 }))
  pub x_past_the_matrix : ScriptSays 3 (codes "voxel 3 0 0\n") (Err (record { fault = Range; line = 1 }))
  pub y_past_the_matrix : ScriptSays 3 (codes "voxel 0 3 0\n") (Err (record { fault = Range; line = 1 }))
  pub z_past_the_matrix : ScriptSays 3 (codes "voxel 0 0 3\n") (Err (record { fault = Range; line = 1 }))

-- the printed lines of a session
pub record WorkedPrints : Type 0 where
  pub an_ended_run : printed_report session.Ended ≡ codes "ended\n"
  pub a_broken_rule :
      printed_report (session.Refused (record { step = 3; bid = 2; rule = GroupShape; at = coord 10 0 1 }))
      ≡ codes "broken 10 GroupShape step 3 bid 2 at 10 0 1\n"
  pub a_step : printed_report (session.Made 4 (pos 92) false) ≡ codes "step 4 energy 92\n"
  pub a_last_step : printed_report (session.Made 4 (pos 92) true) ≡ codes "step 4 energy 92 halted\n"
  pub no_leader : printed_report (session.NoLeader 7) ≡ codes "no leader 7\n"
  pub a_begun_group : printed_report (session.Begun 2 13) ≡ codes "group 2 of step 13\n"
  pub no_history : printed_report session.NoHistory ≡ codes "no history\n"
  pub a_way_back : printed_report (session.Returned 0 (pos 0)) ≡ codes "back to step 0 energy 0\n"
  pub two_bots : printed_report (session.Crew (record { bid = 1; pos = coord 0 10 2; seeds = seed_set (5 ∷ 40 ∷ []) }
      ∷ record { bid = 3; pos = coord 1 1 1; seeds = 0 } ∷ []))
      ≡ codes "bot 1 at 0 10 2 seeds 2\nbot 3 at 1 1 1 seeds 0\n"
  pub a_void_voxel : printed_report (session.IsVoid (coord 1 2 3)) ≡ codes "voxel 1 2 3 void\n"
  pub a_full_voxel : printed_report (session.IsFull (coord 1 2 3) (Some 12)) ≡ codes "voxel 1 2 3 full level 12\n"
  pub a_floating_voxel : printed_report (session.IsFull (coord 1 2 3) None) ≡ codes "voxel 1 2 3 full floating\n"

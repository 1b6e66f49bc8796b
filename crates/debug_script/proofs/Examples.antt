-- The worked examples of scripts and of their printed text, by computation.
use Rattle.std.proofs.Common.{◌<◌, arith, refl, [], ◌∷◌}
use Rattle.std.specs.Prelude.{codes, Ok, Err}
use Rattle.std.specs.Fmt.{digits}
use Rattle.vox_geom.specs.Point.{coord}
use Rattle.nano_spec.specs.Line.{NotAscii, UnknownWord, Shape, Range}
use Rattle.nano_spec.specs.State.{seed_numbers}
use Rattle.step_debugger.specs.Session.{DebugLine, Step, Group, Back, Bots, Voxel}
use Rattle.debug_script.specs.Script.{ArePartsOf}
use Rattle.debug_script.specs.Worked.{WorkedPrints, WorkedScripts}

-- a blank after the word begins another part, so that the parts are those of no line
no_line_is : (line : DebugLine) → ArePartsOf (codes "step" ∷ [] ∷ []) line → ⊥
no_line_is Step h = let parts_are = h.parts_are in cc
no_line_is (Group bid) h = let parts_are = h.parts_are in cc
no_line_is Back h = let parts_are = h.parts_are in cc
no_line_is Bots h = let parts_are = h.parts_are in cc
no_line_is (Voxel c) h = let parts_are = h.parts_are in cc

pub worked_scripts : WorkedScripts
unfolding digits
worked_scripts = record {
  five_digits_of_a_bid = omega arith;
  six_digits_of_a_bid = λ h. let short : 100000 < 100000 = h in omega arith;
  six_digits_of_x = λ h. let short : 100000 < 100000 = h.0 in omega arith;
  six_digits_of_y = λ h. let short : 100000 < 100000 = h.1 in omega arith;
  six_digits_of_z = λ h. let short : 100000 < 100000 = h.2 in omega arith;
  each_line = (
    Ok Step,
    (record { parts_are = refl; short = tt }, refl),
    (
      Ok (Group 40 ∷ Back ∷ Bots ∷ Voxel (coord 0 2 1) ∷ []),
      (
        Ok (Group 40),
        (record { parts_are = refl; short = omega arith }, refl),
        (
          Ok (Back ∷ Bots ∷ Voxel (coord 0 2 1) ∷ []),
          (
            Ok Back,
            (record { parts_are = refl; short = tt }, refl),
            (
              Ok (Bots ∷ Voxel (coord 0 2 1) ∷ []),
              (
                Ok Bots,
                (record { parts_are = refl; short = tt }, refl),
                (
                  Ok (Voxel (coord 0 2 1) ∷ []),
                  (Ok (Voxel (coord 0 2 1)), (record { parts_are = refl; short = (omega arith, omega arith, omega arith) }, refl), (Ok [], refl, refl)),
                  refl,
                ),
              ),
              refl,
            ),
          ),
          refl,
        ),
      ),
      refl,
    ),
  );
  no_line = refl;
  a_last_line_without_its_end = (Ok Back, (record { parts_are = refl; short = tt }, refl), (Ok [], refl, refl));
  a_high_byte = (Err NotAscii, refl, refl);
  a_large_letter = (Ok Step, (record { parts_are = refl; short = tt }, refl), (Err (record { fault = UnknownWord; line = 2 }), (Err UnknownWord, refl, refl), refl));
  an_empty_line = (Ok Step, (record { parts_are = refl; short = tt }, refl), (Err (record { fault = UnknownWord; line = 2 }), (Err UnknownWord, refl, refl), refl));
  a_blank_behind_a_word = (Err Shape, (refl, no_line_is), refl);
  group_1 = (Ok (Group 1), (record { parts_are = refl; short = omega arith }, refl), (Ok [], refl, refl));
  group_0 = (Err Range, (Group 0, record { parts_are = refl; short = omega arith }, refl), refl);
  group_41 = (Ok Back, (record { parts_are = refl; short = tt }, refl), (Err (record { fault = Range; line = 2 }), (Err Range, (Group 41, record { parts_are = refl; short = omega arith }, refl), refl), refl));
  a_bid_of_five_digits = (Err Range, (Group 12345, record { parts_are = refl; short = omega arith }, refl), refl);
  x_past_the_matrix = (Err Range, (Voxel (coord 3 0 0), record { parts_are = refl; short = (omega arith, omega arith, omega arith) }, refl), refl);
  y_past_the_matrix = (Err Range, (Voxel (coord 0 3 0), record { parts_are = refl; short = (omega arith, omega arith, omega arith) }, refl), refl);
  z_past_the_matrix = (Err Range, (Voxel (coord 0 0 3), record { parts_are = refl; short = (omega arith, omega arith, omega arith) }, refl), refl);
}

pub worked_prints : WorkedPrints
unfolding seed_numbers digits
worked_prints = record {
  an_ended_run = refl;
  a_broken_rule = refl;
  a_step = refl;
  a_last_step = refl;
  no_leader = refl;
  a_begun_group = refl;
  no_history = refl;
  a_way_back = refl;
  two_bots = refl;
  a_void_voxel = refl;
  a_full_voxel = refl;
  a_floating_voxel = refl;
}

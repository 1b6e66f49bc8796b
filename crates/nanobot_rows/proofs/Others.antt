-- The worked examples of answers to commands over files, of models and of touches.
use Rattle.std.proofs.Common.{◌≡◌, ℕ, ◌≤◌, ℤ, pos, List, [], ◌∷◌, length, codes, refl, sym, ap, subst, inl, inr, arith}
use Rattle.std.specs.Prelude.{Option, Some, None, ok_or, Result, Ok, Err, IsSomeAnd, IsTrue}
use Rattle.std.specs.Fmt.{digits}
use Rattle.std.proofs.lemmas.List.Elements.{All-cons, All-nil}
use Rattle.vox_geom.specs.Point.{coord}
use Rattle.nano_spec.specs.declared.commands.Command.{Command}
use Rattle.nano_spec.specs.declared.commands.Command.TheVariants.{Halt, Wait}
use Rattle.nano_spec.specs.declared.outcomes.Verdict.{Verdict}
use Rattle.nano_spec.specs.declared.outcomes.Verdict.TheVariants as verdict
use Rattle.nano_spec.specs.declared.outcomes.Rule.TheVariants.{WrongResult}
use Rattle.nano_spec.specs.declared.system.Profile.{Profile}
use Rattle.nano_spec.specs.Cutting.{Cutting}
use Rattle.nano_spec.specs.Forge.{forged}
use Rattle.nano_spec.specs.Legal.{Border, IsLegal, Legality, leaves_box}
use Rattle.nano_spec.specs.Matrix.{Matrix, all_of, empty, full_count, is_full}
use Rattle.nano_spec.specs.Model.{NoModel, model}
use Rattle.nano_spec.specs.Profile.{full_profile, light_profile}
use Rattle.nano_spec.specs.State.{opening, seed_numbers}
use Rattle.nano_spec.specs.Verdict.{VerdictOf}
use Rattle.nano_spec.specs.Worked.{empty_3, empty_4, hex, one_voxel, voxels_at}
use Rattle.nano_spec.proofs.EmptyModel.{all_hold, not_full}
use Rattle.nano_spec.proofs.Showing.{are_commands, commands_in}
use Rattle.nano_spec.proofs.Simulation.{legality_is, run_by}
use Rattle.vox_depot.specs.Files.{Files, content}
use Rattle.group_planner.specs.Rows.{full_before, sum_below}
use Rattle.low_planner.specs.Commands.{IsPlain}
use Rattle.low_planner.specs.Supported.{FirstUnsupported, IsSupported}
use Rattle.plan_choice.specs.Planners.{IsGroupPlan, IsLayerPlan, IsLowPlan, IsPlan}
use Rattle.plan_tape.proofs.Fissions.{few_at_most}
use Rattle.nanobot_rows.specs.declared.report.Who.{Who}
use Rattle.nanobot_rows.specs.declared.report.Who.TheVariants as who
use Rattle.nanobot_rows.specs.declared.status.Status.TheVariants as is
use Rattle.plan_choice.specs.Planners.{byte_limit}
use Rattle.nanobot_rows.specs.Answer.{AnswerOfRun, FileOf, ModelOf, Reply, TellsVerdict, TraceOf, OfRun, Upon}
use Rattle.nanobot_rows.specs.Lines.{not_legal_line, long_line}
use Rattle.nanobot_rows.specs.Models.{AreModels, IsSide}
use Rattle.nanobot_rows.specs.Touching.{AreInFront}
use Rattle.nanobot_rows.specs.WorkedAnswers.{AreWorkedFiles, WorkedAnswers, WorkedFacts, WorkedModels, WorkedTouching}
use Rattle.nanobot_rows.proofs.Loads.{fits}
use Rattle.nanobot_rows.proofs.Told.{finds_file}
use Rattle.nanobot_words.specs.Rows.{check}
use Rattle.nanobot_words.proofs.Examples.{is_check, worked_rows}

-- ---- models

nothing_is_legal : IsLegal (empty 3)
nothing_is_legal = legality_is 6 (empty 3) None refl

post_is_legal : IsLegal (voxels_at 3 (coord 1 0 1 ∷ []))
post_is_legal = legality_is 6 (voxels_at 3 (coord 1 0 1 ∷ [])) None refl

-- a legal model is found in its file
found : (who : Who) (files : Files) (name bytes : List ℕ) (m : Matrix) → content files name ≡ Some bytes
    → model bytes ≡ Ok m → IsLegal m → ModelOf who name files (Ok m)
found who files name bytes m there says legal =
    (Ok bytes, finds_file files name bytes there, (Ok m, rw says refl, (None, legal, refl)))

-- ---- runs

-- the trace of a file is judged between two models
judged : {profile : Profile} {source target : Matrix} {verdict : Verdict} {reply : Reply} (files : Files)
    (b trace : List ℕ) (commands : List Command) → VerdictOf source target commands profile verdict
    → Cutting trace commands → content files b ≡ Some trace → length trace ≤ 1073741824
    → TellsVerdict verdict files reply → Upon (TraceOf byte_limit b) (OfRun profile source target) files reply
judged {verdict = verdict} files b trace commands falls cut there few tells = (
  Ok commands,
  (Ok trace, fits files b trace 1073741824 is.Trace (long_line (codes "trace") 1073741824) there few, (Ok commands, cut, refl)),
  (verdict, falls, tells),
)

pub build_commands : Cutting (hex "14 10 73 14 0E FF") (commands_in 6 (hex "14 10 73 14 0E FF"))
build_commands = (are_commands (commands_in 6 (hex "14 10 73 14 0E FF")) refl, refl)

pub halt_commands : Cutting (hex "FF") (Halt ∷ [])
halt_commands = ((refl, tt), refl)

pub from_empty : VerdictOf (empty 3) (voxels_at 3 (coord 1 0 1 ∷ [])) (commands_in 6 (hex "14 10 73 14 0E FF"))
    full_profile (verdict.Accepted (pos 420) 4)
unfolding seed_numbers
from_empty = run_by 6 5 (voxels_at 3 (coord 1 0 1 ∷ [])) (opening (empty 3) full_profile) (commands_in 6 (hex "14 10 73 14 0E FF")) 0 (verdict.Accepted (pos 420) 4) refl

light_from_empty : VerdictOf (empty 3) (voxels_at 3 (coord 1 0 1 ∷ [])) (commands_in 6 (hex "14 10 73 14 0E FF"))
    light_profile (verdict.Accepted (pos 420) 4)
unfolding seed_numbers
light_from_empty = run_by 6 5 (voxels_at 3 (coord 1 0 1 ∷ [])) (opening (empty 3) light_profile) (commands_in 6 (hex "14 10 73 14 0E FF")) 0 (verdict.Accepted (pos 420) 4) refl

nothing_done : VerdictOf (empty 3) (voxels_at 3 (coord 1 0 1 ∷ [])) (Halt ∷ []) full_profile
    (verdict.Refused (record { step = 1; bid = 0; rule = WrongResult; at = coord 1 0 1 }))
unfolding seed_numbers
nothing_done = run_by 6 2 (voxels_at 3 (coord 1 0 1 ∷ [])) (opening (empty 3) full_profile) (Halt ∷ []) 0 (verdict.Refused (record { step = 1; bid = 0; rule = WrongResult; at = coord 1 0 1 })) refl

pub alone : VerdictOf (empty 3) (empty 3) (Halt ∷ []) full_profile (verdict.Accepted (pos 101) 1)
unfolding seed_numbers
alone = run_by 6 2 (empty 3) (opening (empty 3) full_profile) (Halt ∷ []) 0 (verdict.Accepted (pos 101) 1) refl

light_alone : VerdictOf (empty 3) (empty 3) (Halt ∷ []) light_profile (verdict.Accepted (pos 101) 1)
unfolding seed_numbers
light_alone = run_by 6 2 (empty 3) (opening (empty 3) light_profile) (Halt ∷ []) 0 (verdict.Accepted (pos 101) 1) refl

forged_alone : VerdictOf (empty 1) (forged 0 1) (Halt ∷ []) full_profile (verdict.Accepted (pos 23) 1)
unfolding seed_numbers
forged_alone = run_by 6 2 (forged 0 1) (opening (empty 1) full_profile) (Halt ∷ []) 0 (verdict.Accepted (pos 23) 1) refl

-- ---- plans of a Halt alone

halts : (source target : Matrix) (profile : Profile) (most : ℕ) (energy : ℤ) → 1 ≤ most
    → VerdictOf source target (Halt ∷ []) full_profile (verdict.Accepted energy 1)
    → IsPlan profile most source target (Halt ∷ []) energy 1
halts source target profile most energy some accepted = record {
  are_commands = (refl, tt);
  accepted = accepted;
  few_bots = few_at_most source profile (Halt ∷ []) most some;
  halt_alone = λ _. refl;
}

a_layer_plan : IsLayerPlan (empty 3) (empty 3) (Halt ∷ []) (pos 101) 1
a_layer_plan = record { plan = halts (empty 3) (empty 3) full_profile 1 (pos 101) (omega arith) alone; bytes = omega arith }

a_plan_that_builds :
    IsLayerPlan (empty 3) (voxels_at 3 (coord 1 0 1 ∷ [])) (commands_in 6 (hex "14 10 73 14 0E FF")) (pos 420) 4
a_plan_that_builds = record {
  plan = record {
    are_commands = build_commands.0;
    accepted = from_empty;
    few_bots = few_at_most (empty 3) full_profile (commands_in 6 (hex "14 10 73 14 0E FF")) 1 (omega arith);
    halt_alone = λ e. let count : 0 ≡ 1 = ap full_count e in cc;
  };
  bytes = omega arith;
}

a_low_plan : IsLowPlan (empty 3) (empty 3) (Halt ∷ []) (pos 101) 1
a_low_plan = record {
  plan = halts (empty 3) (empty 3) light_profile 1 (pos 101) (omega arith) alone;
  accepted_as_light = light_alone;
  plain = All-cons IsPlain Halt [] tt (All-nil IsPlain);
  few_steps = omega arith;
}

a_forged_layer_plan : IsLayerPlan (empty 1) (forged 0 1) (Halt ∷ []) (pos 23) 1
a_forged_layer_plan = record { plan = halts (empty 1) (forged 0 1) full_profile 1 (pos 23) (omega arith) forged_alone; bytes = omega arith }

a_forged_group_plan : IsGroupPlan (empty 1) (forged 0 1) (Halt ∷ []) (pos 23) 1
unfolding full_before sum_below
a_forged_group_plan = record {
  plan = halts (empty 1) (forged 0 1) full_profile 2 (pos 23) (omega arith) forged_alone;
  few_steps = omega arith;
  few_commands = omega arith;
  few_bytes = omega arith;
}

each_supported : FirstUnsupported (empty 3) None
each_supported = all_hold (λ c. IsTrue (is_full (empty 3) c) → IsSupported (empty 3) c) (all_of (empty 3)) (λ c f. absurd (not_full 3 c f))

-- ---- answers

no_file : (files : Files) (name : List ℕ) → content files name ≡ None → FileOf name files (Err (is.Depot, []))
no_file files name none = sym (ap (λ (o : Option (List ℕ)). ok_or o (is.Depot, [])) none)

no_model : (who : Who) (files : Files) (name : List ℕ) → content files name ≡ None
    → ModelOf who name files (Err (is.Depot, []))
no_model who files name none = (Err (is.Depot, []), no_file files name none, refl)

at_the_edge : Legality (voxels_at 3 (coord 0 0 0 ∷ [])) (Some (Border (coord 0 0 0)))
at_the_edge = leaves_box (coord 0 0 0) refl refl

is_outside : (who : Who) (files : Files) → AreWorkedFiles files
    → ModelOf who (codes "edge.mdl") files (Err (is.Model, not_legal_line who (Border (coord 0 0 0))))
is_outside who files w = (
  Ok (hex "03 01 00 00 00"),
  finds_file files (codes "edge.mdl") (hex "03 01 00 00 00") w.edge,
  (Ok (voxels_at 3 (coord 0 0 0 ∷ [])), refl, (Some (Border (coord 0 0 0)), at_the_edge, refl)),
)

is_nothing : (who : Who) (files : Files) → AreWorkedFiles files → ModelOf who (codes "nothing.mdl") files (Ok (empty 3))
is_nothing who files w = found who files (codes "nothing.mdl") empty_3 (empty 3) w.nothing refl nothing_is_legal

is_post : (who : Who) (files : Files) → AreWorkedFiles files
    → ModelOf who (codes "post.mdl") files (Ok (voxels_at 3 (coord 1 0 1 ∷ [])))
is_post who files w = found who files (codes "post.mdl") one_voxel (voxels_at 3 (coord 1 0 1 ∷ [])) w.post refl post_is_legal

is_larger : (who : Who) (files : Files) → AreWorkedFiles files → ModelOf who (codes "larger.mdl") files (Ok (empty 4))
is_larger who files w = found who files (codes "larger.mdl") empty_4 (empty 4) w.larger refl (legality_is 6 (empty 4) None refl)

-- a run from nothing to the post
between : {profile : Profile} {verdict : Verdict} {reply : Reply} (files : Files) → AreWorkedFiles files
    → (b trace : List ℕ) (commands : List Command)
    → VerdictOf (empty 3) (voxels_at 3 (coord 1 0 1 ∷ [])) commands profile verdict → Cutting trace commands
    → content files b ≡ Some trace → length trace ≤ 1073741824 → TellsVerdict verdict files reply
    → AnswerOfRun profile (Some (codes "nothing.mdl")) (Some (codes "post.mdl")) b files reply
between files w b trace commands falls cut there few tells = (
  Ok (empty 3, voxels_at 3 (coord 1 0 1 ∷ [])),
  (
    Ok (empty 3),
    is_nothing who.Source files w,
    (Ok (voxels_at 3 (coord 1 0 1 ∷ [])), is_post who.Target files w, refl),
  ),
  judged files b trace commands falls cut there few tells,
)

a_trace_of : (files : Files) → AreWorkedFiles files → TraceOf 50000000 (codes "halt.nbt") files (Ok (Halt ∷ []))
a_trace_of files w = (
  Ok (hex "FF"),
  fits files (codes "halt.nbt") (hex "FF") 50000000 is.Trace (long_line (codes "trace") 50000000) w.halt (omega arith),
  (Ok (Halt ∷ []), halt_commands, refl),
)

pub worked_answers : WorkedAnswers
unfolding digits full_before sum_below
worked_answers = record {
  a_check = λ files w. (Ok (empty 3), is_nothing who.Model files w, refl);
  a_check_of_a_voxel = λ files w. (Ok (voxels_at 3 (coord 1 0 1 ∷ [])), is_post who.Model files w, refl);
  a_check_of_no_file = λ files w. (Err (is.Depot, []), no_model who.Model files (codes "missing") w.missing, refl);
  a_check_of_no_bytes = λ files w. (
    Err (is.Model, codes "model 1 NoByte\n"),
    (Ok [], finds_file files (codes "blank") [] w.blank, (Err (is.Model, codes "model 1 NoByte\n"), refl, refl)),
    refl,
  );
  a_check_of_an_illegal_model = λ files w. (Err (is.Model, codes "model 6 Border at 0 0 0\n"), is_outside who.Model files w, refl);
  a_run = λ files w. between files w (codes "build.nbt") _ _ from_empty build_commands w.build (omega arith) refl;
  a_light_run = λ files w. between files w (codes "build.nbt") _ _ light_from_empty build_commands w.build (omega arith) refl;
  a_run_from_nothing = λ files w. (
    Ok (empty 3, voxels_at 3 (coord 1 0 1 ∷ [])),
    (Ok (voxels_at 3 (coord 1 0 1 ∷ [])), is_post who.Target files w, refl),
    judged files (codes "build.nbt") (hex "14 10 73 14 0E FF") (commands_in 6 (hex "14 10 73 14 0E FF")) from_empty build_commands w.build (omega arith) refl,
  );
  a_run_to_nothing = λ files w. (
    Ok (empty 3, empty 3),
    (Ok (empty 3), is_nothing who.Source files w, refl),
    judged files (codes "halt.nbt") (hex "FF") (Halt ∷ []) alone halt_commands w.halt (omega arith) refl,
  );
  a_broken_run = λ files w. between files w (codes "halt.nbt") _ _ nothing_done halt_commands w.halt (omega arith) refl;
  an_illegal_source = λ files w. (
    Err (is.Model, codes "source 6 Border at 0 0 0\n"),
    (Err (is.Model, codes "source 6 Border at 0 0 0\n"), is_outside who.Source files w, refl),
    refl,
  );
  an_illegal_target = λ files w. (
    Err (is.Model, codes "target 6 Border at 0 0 0\n"),
    (
      Ok (empty 4),
      is_larger who.Source files w,
      (Err (is.Model, codes "target 6 Border at 0 0 0\n"), is_outside who.Target files w, refl),
    ),
    refl,
  );
  two_resolutions = λ files w. (
    Err (is.Model, codes "resolutions 3 4\n"),
    (Ok (empty 3), is_nothing who.Source files w, (Ok (empty 4), is_larger who.Target files w, refl)),
    refl,
  );
  a_run_of_no_file = λ files w. (
    Ok (empty 3, voxels_at 3 (coord 1 0 1 ∷ [])),
    (
      Ok (empty 3),
      is_nothing who.Source files w,
      (Ok (voxels_at 3 (coord 1 0 1 ∷ [])), is_post who.Target files w, refl),
    ),
    (
      Err (is.Depot, []),
      (Err (is.Depot, []), (Err (is.Depot, []), no_file files (codes "missing") w.missing, refl), refl),
      refl,
    ),
  );
  a_text = λ files w. (
    Ok (Halt ∷ []),
    (
      Ok (codes "Halt\n"),
      fits files (codes "halt.txt") (codes "Halt\n") 1073741824 is.Text (long_line (codes "text") 1073741824) w.text (omega arith),
      refl,
    ),
    refl,
  );
  a_high_byte = λ files w. (
    Err (is.Text, codes "text 1 NotAscii line 1\n"),
    (
      Ok (hex "FF"),
      fits files (codes "halt.nbt") (hex "FF") 1073741824 is.Text (long_line (codes "text") 1073741824) w.halt (omega arith),
      refl,
    ),
    refl,
  );
  a_trace = λ files w. (Ok (Halt ∷ []), a_trace_of files w, refl);
  a_forged_model = λ files w. refl;
  a_layer_plan = λ files w. (
    Ok (empty 3, empty 3),
    (Ok (empty 3), is_nothing who.Source files w, (Ok (empty 3), is_nothing who.Target files w, refl)),
    (Ok tt, refl, (Halt ∷ [], pos 101, 1, a_layer_plan, refl)),
  );
  a_plan_that_builds = λ files w. (
    Ok (empty 3, voxels_at 3 (coord 1 0 1 ∷ [])),
    (
      Ok (empty 3),
      is_nothing who.Source files w,
      (Ok (voxels_at 3 (coord 1 0 1 ∷ [])), is_post who.Target files w, refl),
    ),
    (Ok tt, refl, (commands_in 6 (hex "14 10 73 14 0E FF"), pos 420, 4, a_plan_that_builds, refl)),
  );
  a_low_plan = λ files w. (
    Ok (empty 3, empty 3),
    (Ok (empty 3), is_nothing who.Target files w, refl),
    (Ok tt, (None, each_supported, refl), (Halt ∷ [], pos 101, 1, a_low_plan, refl)),
  );
  an_exercise = λ files w. (
    record { energy = pos 23; steps = 1 },
    record { energy = pos 23; steps = 1 },
    (Halt ∷ [], a_forged_layer_plan),
    (Halt ∷ [], a_forged_group_plan),
    refl,
  );
  a_session = λ files w. (
    Ok (empty 3),
    is_nothing who.Source files w,
    (
      Ok (Halt ∷ []),
      a_trace_of files w,
      (
        Ok [],
        (
          Ok [],
          fits files (codes "blank") [] 65536 is.Text (long_line (codes "text") 65536) w.blank (omega arith),
          (Ok [], refl, refl),
        ),
        ([], refl, refl),
      ),
    ),
  );
  no_arguments = λ files. inl (worked_rows.no_arguments, refl);
  arguments_of_a_row = λ files w. inr (check (codes "nothing.mdl"), is_check (codes "nothing.mdl") (λ e. let no : codes "nothing.mdl" ≡ codes "-" = e in cc), (Ok (empty 3), is_nothing who.Model files w, refl));
}

-- ---- facts of plans, the models of sides, and touches

pub worked_facts : WorkedFacts
worked_facts = record {
  of_a_layer_plan = λ source target commands energy steps h. h;
  of_a_group_plan = λ source target commands energy steps h. h;
  of_a_crew_plan = λ source target commands energy steps h. h;
  of_a_void_plan = λ source target commands energy steps h. h;
  of_a_low_plan = λ source target commands energy steps h. h;
  of_a_swarm_plan = λ source target commands energy steps h. h;
}

is_side : (files : Files) (name bytes : List ℕ) (m other : Matrix) → content files name ≡ Some bytes
    → model bytes ≡ Ok m → IsLegal m → IsSide files (Some name) m other
is_side files name bytes m other there says legal =
    subst (λ (o : Option (List ℕ)). IsSomeAnd o (λ b. (model b ≡ Ok m) × IsLegal m)) (sym there) (says, legal)

pub two_files : (files : Files) → AreWorkedFiles files
    → AreModels (Some (codes "nothing.mdl")) (Some (codes "post.mdl")) files (empty 3) (voxels_at 3 (coord 1 0 1 ∷ []))
two_files files w = record {
  source_is = is_side files (codes "nothing.mdl") empty_3 (empty 3) (voxels_at 3 (coord 1 0 1 ∷ [])) w.nothing refl nothing_is_legal;
  target_is = is_side files (codes "post.mdl") one_voxel (voxels_at 3 (coord 1 0 1 ∷ [])) (empty 3) w.post refl post_is_legal;
  alike = refl;
}

pub one_file : (files : Files) → AreWorkedFiles files
    → AreModels None (Some (codes "post.mdl")) files (empty 3) (voxels_at 3 (coord 1 0 1 ∷ []))
one_file files w = record {
  source_is = refl;
  target_is = is_side files (codes "post.mdl") one_voxel (voxels_at 3 (coord 1 0 1 ∷ [])) (empty 3) w.post refl post_is_legal;
  alike = refl;
}

abbrev full_of : Result Matrix NoModel → ℕ
full_of (Ok m) = full_count m
full_of (Err why) = 0

one_is_none : ◌≡◌ {A = ℕ} 1 0 → ⊥
one_is_none e = cc

reads_a_voxel : model one_voxel ≡ Ok (empty 3) → ⊥
reads_a_voxel e = one_is_none (ap full_of e)

not_another_model : (files : Files) → AreWorkedFiles files → IsSide files (Some (codes "post.mdl")) (empty 3) (empty 3)
    → ⊥
not_another_model files w h = reads_a_voxel (subst (λ (o : Option (List ℕ)). IsSomeAnd o (λ b. (model b ≡ Ok (empty 3)) × IsLegal (empty 3))) w.post h).0

pub a_source : (files : Files) → AreWorkedFiles files
    → AreModels (Some (codes "nothing.mdl")) None files (empty 3) (empty 3)
a_source files w = record {
  source_is = is_side files (codes "nothing.mdl") empty_3 (empty 3) (empty 3) w.nothing refl nothing_is_legal;
  target_is = refl;
  alike = refl;
}

pub worked_models : WorkedModels
worked_models = record {
  two_files = two_files;
  one_file = one_file;
  not_a_full_model = λ files h. let count : 1 ≡ 0 = ap full_count h in cc;
  not_another_model = not_another_model;
  no_names = λ files found h. h;
  not_of_another_resolution = λ files h. let resolution : 4 ≡ 3 = ap (λ (m : Matrix). m.resolution) h in cc;
}

no_shorter : AreInFront (hex "FE FF") (Wait ∷ []) → ⊥
no_shorter h =
    let rest : 0xFF ∷ [] ≡ h.0.rest = (let e : 0xFE ∷ 0xFF ∷ [] ≡ 0xFE ∷ h.0.rest = h.0.bytes_are in cc) in
    let few : length h.0.rest ≤ 0 = h.1.1 [] (Wait ∷ Halt ∷ [], (refl, (refl, tt)), refl) in
    let some : 1 ≡ length h.0.rest = ap length rest in
    omega (arith, few, some)

longest_front : AreInFront (hex "FE FF") (Wait ∷ Halt ∷ [])
longest_front = (
  record { are_commands = (refl, (refl, tt)); rest = []; bytes_are = refl },
  ((Wait ∷ Halt ∷ [], (refl, (refl, tt)), refl), λ other front. omega arith),
)

pub worked_touching : WorkedTouching
worked_touching = record {
  a_longest_front = longest_front;
  not_a_shorter_front = no_shorter;
  a_front = record { are_commands = (refl, tt); rest = hex "FF"; bytes_are = refl };
  no_front_of_no_bytes = λ h. let e : [] ≡ 0xFF ∷ h.rest = h.bytes_are in cc;
  of_the_longest_front = λ before after h. h.longest (Wait ∷ Halt ∷ []) longest_front;
  of_some_front = λ before after h. h.given;
  of_a_run = λ files before after w h. h files (empty 3) (voxels_at 3 (coord 1 0 1 ∷ [])) refl (two_files files w) files (hex "14 10 73 14 0E FF") refl w.build;
  of_a_light_run = λ files before after w h. h files (empty 3) (voxels_at 3 (coord 1 0 1 ∷ [])) refl (one_file files w) files (hex "14 10 73 14 0E FF") refl w.build;
  of_another_row = λ told before after. tt;
}

-- The worked examples of the command table, by computing.
use Rattle.std.proofs.Common.{◌≡◌, ℕ, ◌<◌, ◌≤◌, List, [], ◌∷◌, Some, None, codes, arith, refl, sym, subst}
use Rattle.std.proofs.lemmas.List.Elements.{All-cons, All-head, All-nil, All-tail}
use Rattle.std.specs.Prelude.{All}
use Rattle.std.specs.Fmt.{digits}
use Rattle.nanobot_words.specs.declared.planner.Planner.TheVariants.{Crew}
use Rattle.nanobot_words.specs.declared.row.Round.TheVariants.{Full, Light}
use Rattle.nanobot_words.specs.Rows.{IsInNoRow, IsName, IsRow, Row, asm, check, debug, dis, exercise, make, plan, run, reads_of, stores_of}
use Rattle.nanobot_words.specs.Worked.{WorkedFiles, WorkedForged, WorkedPermissions, WorkedRows, WorkedSides, WorkedWords}
use Rattle.nanobot_words.proofs.OneRow.{row_once}

pub worked_words : WorkedWords
unfolding digits
worked_words = record {
  a_check = refl;
  a_run = refl;
  a_run_from_nothing = refl;
  a_light_run_to_nothing = refl;
  a_text = refl;
  a_trace = refl;
  a_forged_model = refl;
  a_layer_plan = refl;
  a_group_plan = refl;
  a_crew_plan = refl;
  a_void_plan = refl;
  a_low_plan = refl;
  a_swarm_plan = refl;
  an_exercise = refl;
  a_session = refl;
}

pub worked_files : WorkedFiles
worked_files = record {
  a_run_reads = refl;
  nothing_is_no_file = refl;
  a_session_reads = refl;
  a_plan_reads_its_models = refl;
  a_plan_stores_its_trace = refl;
  a_text_is_read = refl;
  its_trace_is_stored = refl;
  a_trace_is_read = refl;
  its_text_is_stored = refl;
  a_forged_model_is_stored = refl;
  a_session_stores_nothing = refl;
}

pub worked_sides : WorkedSides
worked_sides = record {
  from_a_source = tt;
  to_a_target = tt;
  from_a_source_to_a_target = tt;
  not_from_nothing_to_nothing = λ h. h;
  void_from_a_source = tt;
  void_to_no_target = λ h. h;
  void_from_something = λ h. h;
  low_to_a_target = tt;
  low_from_no_source = λ h. h;
  swarm_to_a_target = tt;
  swarm_from_no_source = λ h. h;
  a_run_to_nothing = tt;
  a_run_from_nothing = tt;
  a_void_plan = tt;
}

pub worked_forged : WorkedForged
worked_forged = record {
  the_least = (omega arith, omega arith, omega arith);
  past_the_first_form = (omega arith, omega arith, omega arith);
  the_greatest = (omega arith, omega arith, omega arith);
  no_resolution = λ h. let least : 1 ≤ 0 = h.1 in omega arith;
  too_great_a_resolution = λ h. let most : 401 ≤ 400 = h.2 in omega arith;
  too_great_a_number = λ h. let below : 4294967296 < 4294967296 = h.0 in omega arith;
}

is_m : IsName (codes "m")
is_m h = let no : codes "m" ≡ codes "-" = h in cc

is_s : IsName (codes "s")
is_s h = let no : codes "s" ≡ codes "-" = h in cc

is_t : IsName (codes "t")
is_t h = let no : codes "t" ≡ codes "-" = h in cc

is_b : IsName (codes "b")
is_b h = let no : codes "b" ≡ codes "-" = h in cc

is_bb : IsName (codes "bb")
is_bb h = let no : codes "bb" ≡ codes "-" = h in cc

pub is_check : (name : List ℕ) → IsName name → IsRow (codes "check" ∷ name ∷ []) (check name)
is_check name is = record { written = refl; named = All-cons IsName name [] is (All-nil IsName); of_table = tt }

a_check : IsRow (codes "check" ∷ codes "m" ∷ []) (check (codes "m"))
a_check = is_check (codes "m") is_m

pub an_asm : IsRow (codes "asm" ∷ codes "bb" ∷ codes "b" ∷ []) (asm (codes "bb") (codes "b"))
an_asm = record {
  written = refl;
  named = All-cons IsName (codes "b") (codes "bb" ∷ []) is_b (All-cons IsName (codes "bb") [] is_bb (All-nil IsName));
  of_table = tt;
}

in_no_row : IsInNoRow []
in_no_row (check m) h = let written : [] ≡ codes "check" ∷ m ∷ [] = h.written in cc
in_no_row (run Full s t b) h = let written = h.written in cc
in_no_row (run Light s t b) h = let written = h.written in cc
in_no_row (asm x b) h = let written = h.written in cc
in_no_row (dis b x) h = let written = h.written in cc
in_no_row (make n r m) h = let written = h.written in cc
in_no_row (plan p s t b) h = let written = h.written in cc
in_no_row (exercise n r) h = let written = h.written in cc
in_no_row (debug s b x) h = let written = h.written in cc

no_check_alone : IsInNoRow (codes "check" ∷ [])
no_check_alone (check m) h = let written : codes "check" ∷ [] ≡ codes "check" ∷ m ∷ [] = h.written in cc
no_check_alone (run Full s t b) h = let written = h.written in cc
no_check_alone (run Light s t b) h = let written = h.written in cc
no_check_alone (asm x b) h = let written = h.written in cc
no_check_alone (dis b x) h = let written = h.written in cc
no_check_alone (make n r m) h = let written = h.written in cc
no_check_alone (plan p s t b) h = let written = h.written in cc
no_check_alone (exercise n r) h = let written = h.written in cc
no_check_alone (debug s b x) h = let written = h.written in cc

pub worked_rows : WorkedRows
worked_rows = record {
  a_check = a_check;
  no_check_of_nothing = λ h. All-head IsName (codes "-") [] h.named refl;
  no_run_of_nothing = λ h. All-head IsName (codes "-") [] (All-tail IsName (codes "t") (codes "-" ∷ []) (All-tail IsName (codes "s") (codes "t" ∷ codes "-" ∷ []) h.named)) refl;
  no_plan_as_nothing = λ h. All-head IsName (codes "-") (codes "s" ∷ codes "t" ∷ []) h.named refl;
  no_run_from_nothing_to_nothing = λ h. h.of_table;
  a_run = record {
    written = refl;
    named = All-cons IsName (codes "s") (codes "t" ∷ codes "b" ∷ []) is_s (All-cons IsName (codes "t") (codes "b" ∷ []) is_t (All-cons IsName (codes "b") [] is_b (All-nil IsName)));
    of_table = tt;
  };
  a_run_from_nothing = record {
    written = refl;
    named = All-cons IsName (codes "t") (codes "b" ∷ []) is_t (All-cons IsName (codes "b") [] is_b (All-nil IsName));
    of_table = tt;
  };
  a_run_to_nothing = record {
    written = refl;
    named = All-cons IsName (codes "s") (codes "b" ∷ []) is_s (All-cons IsName (codes "b") [] is_b (All-nil IsName));
    of_table = tt;
  };
  no_light_run = λ h. let written = h.written in cc;
  no_source_of_nothing = λ h. All-head IsName (codes "-") (codes "t" ∷ codes "b" ∷ []) h.named refl;
  no_target_of_nothing = λ h. All-head IsName (codes "-") (codes "b" ∷ []) (All-tail IsName (codes "s") (codes "-" ∷ codes "b" ∷ []) h.named) refl;
  no_trace_of_nothing = λ h. All-head IsName (codes "-") [] (All-tail IsName (codes "t") (codes "-" ∷ []) (All-tail IsName (codes "s") (codes "t" ∷ codes "-" ∷ []) h.named)) refl;
  no_side_of_a_name = λ h. h.of_table;
  no_arguments = in_no_row;
  a_check_of_no_model = no_check_alone;
  a_check_is_in_a_row = λ h. h (check (codes "m")) a_check;
}

reads_m : (row : Row) → IsRow (codes "check" ∷ codes "m" ∷ []) row → All (λ name. name ≡ codes "m") (reads_of row)
reads_m row h = subst (λ (r : Row). All (λ name. name ≡ codes "m") (reads_of r)) (row_once (codes "check" ∷ codes "m" ∷ []) (check (codes "m")) row a_check h) (All-cons (λ name. name ≡ codes "m") (codes "m") [] refl (All-nil (λ name. name ≡ codes "m")))

pub stores_none : (row : Row) (name : List ℕ) → IsRow (codes "check" ∷ codes "m" ∷ []) row → stores_of row ≡ Some name
    → ⊥
stores_none row name h e = let same = row_once (codes "check" ∷ codes "m" ∷ []) (check (codes "m")) row a_check h in let none : None ≡ Some name = subst (λ (r : Row). stores_of r ≡ Some name) (sym same) e in cc

stores_b : (row : Row) (name : List ℕ) → IsRow (codes "asm" ∷ codes "bb" ∷ codes "b" ∷ []) row
    → stores_of row ≡ Some name → name ≡ codes "b"
stores_b row name h e = let same = row_once (codes "asm" ∷ codes "bb" ∷ codes "b" ∷ []) (asm (codes "bb") (codes "b")) row an_asm h in let one : Some (codes "b") ≡ Some name = subst (λ (r : Row). stores_of r ≡ Some name) (sym same) e in cc

pub worked_permissions : WorkedPermissions
worked_permissions = record {
  a_check_reads_its_model = reads_m;
  it_reads_no_other = λ h. let no : codes "m" ≡ codes "mm" = All-head (λ name. name ≡ codes "mm") (codes "m") [] (h (check (codes "m")) a_check) in cc;
  it_stores_nothing = stores_none;
  a_text_stores_its_trace = stores_b;
  it_does_not_store_its_text = λ h. let no : codes "b" ≡ codes "bb" = h (asm (codes "bb") (codes "b")) (codes "b") an_asm refl in cc;
  two_texts = λ a b. refl;
}

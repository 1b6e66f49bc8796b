-- The worked examples of the headline, and of the effects of a call on the outside.
use Rattle.std.proofs.Common.{◌≡◌, ℕ, ◌<◌, ◌≤◌, ◌∙◌, pos, List, [], ◌∷◌, length, take, Some, codes, refl, sym, ap, subst, inl, inr, arith}
use Rattle.std.specs.Prelude.{Option, IsSomeAnd}
use Rattle.std.specs.Fmt.{digits}
use Rattle.std.proofs.lemmas.List.{length-take}
use Rattle.nano_spec.specs.declared.commands.Command.TheVariants.{Halt}
use Rattle.nano_spec.specs.Matrix.{empty}
use Rattle.nano_spec.specs.Worked.{hex, voxels_at}
use Rattle.nano_spec.proofs.Showing.{commands_in}
use Rattle.vox_geom.specs.Point.{coord}
use Rattle.vox_depot.specs.Files.{Files}
use Rattle.nanobot_rows.specs.declared.status.Status.TheVariants as is
use Rattle.nanobot_rows.specs.Answer.{Reply}
use Rattle.nanobot_rows.proofs.Others.{a_source, alone, build_commands, from_empty, halt_commands, one_file, two_files}
use Rattle.nanobot_words.specs.Rows.{asm}
use Rattle.nanobot_words.proofs.Examples.{an_asm, stores_none}
use Rattle.nanobot_app.specs.Headline.{TakesBytes}
use Rattle.nanobot_app.specs.Worked.{WorkedHeadlines, WorkedOutcomes}

pub worked_outcomes : WorkedOutcomes
worked_outcomes = record {
  a_line = λ files. (refl, refl);
  another_line = λ files h. let written : Some (codes "word\n") ≡ Some (codes "words\n") = h.1 in cc;
  another_status = λ files h. let status_is : is.Words ≡ is.Done = h.0 in cc;
  no_file_to_lose = λ old new h. h.stored;
  a_part_of_a_line = λ files. (2, refl);
  not_another_part = λ files h. other_part h.0 h.1;
  answers = (tt, tt, tt, tt, tt, tt, tt);
  no_answers = (λ h. h, λ h. h, λ h. h);
  an_answer_stands = λ files. (record { status = is.Done; line = codes "done\n"; after = files }, refl, refl, refl);
  not_over_other_files = λ files other differ h. differ (after_is files other h.0 h.1 h.2);
  not_by_another_answer = λ files h. let line : [] ≡ codes "done\n" = sym h.3 ∙ ap (λ (r : Reply). r.line) h.1 in cc;
  files_are_spared = λ old. inl refl;
  no_other_files = λ files other differ h. elim h [ inl same ↦ differ (let one : Some other ≡ Some files = same in cc) | inr lost ↦ lost.stored ];
  a_text_stores_its_trace = (asm (codes "bb") (codes "b"), an_asm, refl);
  a_check_stores_nothing = λ name h. stores_none h.0 name h.1 h.2;
  what_is_seen = refl;
}
  where
    other_part : (n : ℕ) → Some (codes "words\n\n") ≡ Some (take n (codes "words\n")) → ⊥
    other_part n e =
        let same : codes "words\n\n" ≡ take n (codes "words\n") = cc in
        let longer : 7 ≡ length (take n (codes "words\n")) = ap length same in
        let most = length-take n (codes "words\n") in
        omega (arith, longer, most)

    after_is : (files other : Files) (reply : Reply)
        → reply ≡ record { status = is.Done; line = codes "done\n"; after = files } → Some other ≡ Some reply.after
        → other ≡ files
    after_is files other reply e f = let after = ap (λ (r : Reply). r.after) e in let same : other ≡ reply.after = cc in same ∙ after

takes : TakesBytes (empty 3) (voxels_at 3 (coord 1 0 1 ∷ [])) (hex "14 10 73 14 0E FF") (pos 420) 4
takes = (omega arith, (commands_in 6 (hex "14 10 73 14 0E FF"), build_commands, from_empty))

pub worked_headlines : WorkedHeadlines
unfolding digits
worked_headlines = record {
  a_run_is_taken = λ files w. record {
    named = tt;
    from = empty 3;
    to = voxels_at 3 (coord 1 0 1 ∷ []);
    models = two_files files w;
    taken = subst (λ (o : Option (List ℕ)). IsSomeAnd o (λ bytes. TakesBytes (empty 3) (voxels_at 3 (coord 1 0 1 ∷ [])) bytes (pos 420) 4)) (sym w.build) takes;
  };
  a_run_from_nothing_is_taken = λ files w. record {
    named = tt;
    from = empty 3;
    to = voxels_at 3 (coord 1 0 1 ∷ []);
    models = one_file files w;
    taken = subst (λ (o : Option (List ℕ)). IsSomeAnd o (λ bytes. TakesBytes (empty 3) (voxels_at 3 (coord 1 0 1 ∷ [])) bytes (pos 420) 4)) (sym w.build) takes;
  };
  a_run_to_nothing_is_taken = λ files w. record {
    named = tt;
    from = empty 3;
    to = empty 3;
    models = a_source files w;
    taken = subst (λ (o : Option (List ℕ)). IsSomeAnd o (λ bytes. TakesBytes (empty 3) (empty 3) bytes (pos 101) 1)) (sym w.halt) (omega arith, (Halt ∷ [], halt_commands, alone));
  };
  no_run_from_nothing_to_nothing = λ files trace energy steps h. h.named;
  not_too_long_a_trace = λ source target bytes energy steps long h. let few : length bytes ≤ 1073741824 = h.0 in let many : 1073741824 < length bytes = long in omega arith;
  the_greatest_numbers = (omega arith, omega arith);
  too_great_an_energy = λ h. let below : 9223372036854775808 < 9223372036854775808 = h.0 in omega arith;
  too_many_steps = λ h. let below : 4294967296 < 4294967296 = h.1 in omega arith;
  it_is_done = (refl, (omega arith, omega arith), refl);
  not_with_another_status = λ h. let status_is : is.Broken ≡ is.Done = h.0 in cc;
  not_with_another_line = λ h. let written : Some (codes "ok energy 420 steps 4") ≡ Some (codes "ok energy 420 steps 4\n") = h.2 in cc;
}

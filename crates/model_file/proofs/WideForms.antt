-- The runs of the wide form.
use Rattle.std.proofs.Common.{◌≡◌, ℕ, zero, suc, ◌+◌, ◌-◌, ◌*◌, ◌<◌, ◌≤◌, refl, sym, ◌∙◌, ap, arith, Bool, true, false, not, ◌&&◌, ◌||◌, ◌==◌, List, [], ◌∷◌, ◌++◌, length, get_or, drop, replicate, inl, inr}
use Rattle.std.specs.Prelude.{◌⊎◌, nat_le, nat_lt, slice_index, Result, Ok, Err}
use Rattle.std.proofs.lemmas.Bool.{cases_lt}
use Rattle.std.proofs.lemmas.Bool.Decides.{nat_tests}
use Rattle.std.proofs.lemmas.List.{append_assoc, append-nil, ext_get_or, get_or_past, get_or_append_left, get_or-drop, get_or-replicate, drop-drop, drop_all, length-append, length-drop, length-replicate}
use Rattle.std.proofs.Math.Seq.{get_or-append_right}
use Rattle.vox_geom.specs.Space.{coordinates}
use Rattle.vox_geom.proofs.Truths.{and_false}
use Rattle.vox_geom.proofs.Tests.{test_less, test_not_less}
use Rattle.nano_spec.specs.First.{with_first}
use Rattle.nano_spec.specs.Matrix.{Matrix, empty}
use Rattle.nano_spec.specs.Model.{NoModel, WideRun, WideShort, WideLong, is_no_run, number_of_four, of_runs, runs_in, volume, voxels_of, wide_form, wide_model}
use Rattle.nano_spec.proofs.EmptyModel.{none_there}
use Rattle.nano_spec.proofs.Writing.{is_run}
use Rattle.vox_planes.specs.Places.{is_from, voxel_at}
use Rattle.vox_planes.specs.Voxel.{IsWhole}
use Rattle.vox_planes.proofs.Placed.{after_these, before_these, one_of_these}

-- ---- runs that were taken before

abbrev before : List ℕ → Result (List ℕ) NoModel → Result (List ℕ) NoModel
before [] rest = rest
before (run ∷ runs) rest = with_first run (before runs rest)

before-push : (runs : List ℕ) (run : ℕ) (rest : Result (List ℕ) NoModel)
    → before (runs ++ run ∷ []) rest ≡ before runs (with_first run rest)
before-push [] run rest = refl
before-push (n ∷ runs) run rest = ap (with_first n) (before-push runs run rest)

before-err : (runs : List ℕ) (e : NoModel) → before runs (Err e) ≡ Err e
before-err [] e = refl
before-err (n ∷ runs) e = ap (with_first n) (before-err runs e)

before-ok : (runs more : List ℕ) → before runs (Ok more) ≡ Ok (runs ++ more)
before-ok [] more = refl
before-ok (n ∷ runs) more = ap (with_first n) (before-ok runs more)

-- ---- the rest of the bytes

too_few : (total index sum : ℕ) (rest : List ℕ) → length rest < 4 → sum < total
    → runs_in total index sum rest ≡ Err (WideShort sum)
too_few total index sum [] l h = rw (runs_in, test_less sum total h) refl
too_few total index sum (a ∷ []) l h = rw (runs_in, test_less sum total h) refl
too_few total index sum (a ∷ b ∷ []) l h = rw (runs_in, test_less sum total h) refl
too_few total index sum (a ∷ b ∷ c ∷ []) l h = rw (runs_in, test_less sum total h) refl
too_few total index sum (a ∷ b ∷ c ∷ d ∷ rest) l h = absurd (omega arith)

too_many : (total index sum : ℕ) (rest : List ℕ) → 0 < length rest → total ≤ sum
    → runs_in total index sum rest ≡ Err WideLong
too_many total index sum [] l h = absurd (omega arith)
too_many total index sum (a ∷ []) l h = rw (runs_in, test_not_less sum total h) refl
too_many total index sum (a ∷ b ∷ []) l h = rw (runs_in, test_not_less sum total h) refl
too_many total index sum (a ∷ b ∷ c ∷ []) l h = rw (runs_in, test_not_less sum total h) refl
too_many total index sum (a ∷ b ∷ c ∷ d ∷ rest) l h = rw (runs_in, test_not_less sum total h) refl

no_more : (total index sum : ℕ) → total ≤ sum → runs_in total index sum [] ≡ Ok []
no_more total index sum h = rw (runs_in, test_not_less sum total h) refl

-- the number in the next four bytes
abbrev pub next_run : List ℕ → ℕ → ℕ
next_run bytes at = number_of_four (slice_index bytes at) (slice_index bytes (at + 1)) (slice_index bytes (at + 2)) (slice_index bytes (at + 3))

-- the result of a run, and of the bytes behind it
abbrev taken : ℕ → ℕ → ℕ → ℕ → List ℕ → Result (List ℕ) NoModel
taken total index sum run rest = elim (is_no_run total index sum run) [ true ↦ Err (WideRun index) | false ↦ with_first run (runs_in total (index + 1) (sum + run) rest) ]

four_of : (rest : List ℕ) (total index sum : ℕ) → 4 ≤ length rest → sum < total
    → runs_in total index sum rest ≡ taken total index sum (next_run rest 0) (drop 4 rest)
four_of [] total index sum l h = absurd (omega arith)
four_of (a ∷ []) total index sum l h = absurd (omega arith)
four_of (a ∷ b ∷ []) total index sum l h = absurd (omega arith)
four_of (a ∷ b ∷ c ∷ []) total index sum l h = absurd (omega arith)
four_of (a ∷ b ∷ c ∷ d ∷ rest) total index sum l h = rw (runs_in, test_less sum total h) refl

-- ---- how far the runs were filled

-- this many bytes were read as runs, and the full ones are filled
pub record HasRuns (r : ℕ) (bytes : List ℕ) (m : Matrix) (at index sum : ℕ) (full : Bool) : Type 0 where
  pub done : List ℕ
  pub reads : runs_in (volume r) 0 0 bytes ≡ before done (runs_in (volume r) index sum (drop at bytes))
  pub within : at ≤ length bytes
  pub few : index ≤ sum + 1
  pub most : sum ≤ volume r
  pub resolution : m.resolution ≡ r
  pub whole : IsWhole m
  pub size : length (voxels_of false done) ≡ sum
  pub voxels : (p : ℕ) → voxel_at m p ≡ get_or (voxels_of false done) p false
  pub turn : (more : List ℕ) → voxels_of false (done ++ more) ≡ voxels_of false done ++ voxels_of full more

pub no_runs : (r : ℕ) (bytes : List ℕ) (m : Matrix) → m ≡ empty r → IsWhole m → HasRuns r bytes m 0 0 0 false
no_runs r bytes m e w = record {
  done = [];
  reads = refl;
  within = omega arith;
  few = omega arith;
  most = omega arith;
  resolution = ap (λ (n : Matrix). n.resolution) e;
  whole = w;
  size = refl;
  voxels = λ p. ap (λ (n : Matrix). voxel_at n p) e ∙ none_there (coordinates r) p;
  turn = λ more. refl;
}

rest_length : (bytes : List ℕ) (at : ℕ) → length (drop at bytes) ≡ length bytes - at
rest_length bytes at = length-drop at bytes

next_of : (bytes : List ℕ) (at : ℕ) → next_run (drop at bytes) 0 ≡ next_run bytes at
next_of bytes at = λ i. number_of_four ((here 0 ∙ ap (slice_index bytes) first) i) (here 1 i) (here 2 i) (here 3 i)
  where
    first : at + 0 ≡ at
    first = omega arith

    here : (k : ℕ) → slice_index (drop at bytes) k ≡ slice_index bytes (at + k)
    here k = get_or-drop at bytes k 0

-- ---- one more run

-- the next run, and the bytes behind it
next_taken : (bytes : List ℕ) (total at index sum run : ℕ) → at + 4 ≤ length bytes → sum < total
    → run ≡ next_run bytes at
    → runs_in total index sum (drop at bytes) ≡ taken total index sum run (drop (at + 4) bytes)
next_taken bytes total at index sum run four less er =
    four_of (drop at bytes) total index sum (omega (arith, rest_length bytes at)) less
    ∙ (λ i. taken total index sum ((next_of bytes at ∙ sym er) i) (drop-drop 4 at bytes i))

full_or : (b : Bool) → ((b && true) || false) ≡ b
full_or true = refl
full_or false = refl

run_voxels : (sum run p : ℕ) (full : Bool) (vs : List Bool) → length vs ≡ sum
    → ((full && is_from sum run p) || get_or vs p false) ≡ get_or (vs ++ (replicate run full ++ [])) p false
run_voxels sum run p full vs e = by (cases_lt p sum) (cases_lt p (sum + run))
  where
    past : sum ≤ p → get_or vs p false ≡ false
    past l = get_or_past vs p false (omega arith)

    behind : sum ≤ p
        → get_or (vs ++ (replicate run full ++ [])) p false ≡ get_or (replicate run full) (p - length vs) false
    behind l = get_or-append_right vs (replicate run full ++ []) p false (omega arith) ∙ ap (λ xs. get_or xs (p - length vs) false) (append-nil (replicate run full))

    by : ((p < sum) ⊎ (sum ≤ p)) → ((p < sum + run) ⊎ (sum + run ≤ p))
        → ((full && is_from sum run p) || get_or vs p false) ≡ get_or (vs ++ (replicate run full ++ [])) p false
    by (inl l) m =
        ap (λ b. (full && b) || get_or vs p false) (before_these sum run p l)
        ∙ (ap (λ b. b || get_or vs p false) (and_false full)
        ∙ sym (get_or_append_left vs (replicate run full ++ []) false p (omega arith)))
    by (inr l) (inl m) =
        (λ i. (full && one_of_these sum run p l m i) || past l i)
        ∙ (full_or full
        ∙ sym (behind l ∙ get_or-replicate run (p - length vs) full false (omega arith)))
    by (inr l) (inr m) =
        (λ i. (full && after_these sum run p m i) || past l i)
        ∙ (ap (λ b. b || false) (and_false full)
        ∙ sym (behind l ∙ get_or_past (replicate run full) (p - length vs) false (omega (arith, length-replicate run full))))

run_size : (vs : List Bool) (run : ℕ) (full : Bool) → length (vs ++ (replicate run full ++ [])) ≡ length vs + run
run_size vs run full = omega (arith, length-append vs (replicate run full ++ []), length-append (replicate run full) [], length-replicate run full)

run_turn : (vs more : List Bool) (run : ℕ) (full : Bool)
    → vs ++ (replicate run full ++ more) ≡ (vs ++ (replicate run full ++ [])) ++ more
run_turn vs more run full = ap (λ xs. vs ++ (xs ++ more)) (sym (append-nil (replicate run full))) ∙ sym (append_assoc vs (replicate run full ++ []) more)

pub run_more : (r : ℕ) (bytes : List ℕ) (old new : Matrix) (at index sum run : ℕ) (full : Bool)
    → HasRuns r bytes old at index sum full → at + 4 ≤ length bytes → sum < volume r → run ≡ next_run bytes at
    → (run ≡ 0 → index ≡ 0) → sum + run ≤ volume r
    → ((p : ℕ) → voxel_at new p ≡ ((full && is_from sum (sum + run - sum) p) || voxel_at old p))
    → new.resolution ≡ old.resolution → IsWhole new → HasRuns r bytes new (at + 4) (index + 1) (sum + run) (not full)
run_more r bytes old new at index sum run full h four less er nz fits set resolution whole = record {
  done = h.done ++ run ∷ [];
  reads =
      h.reads
      ∙ (ap (before h.done) (next_taken bytes (volume r) at index sum run four less er ∙ ap (λ b. elim b [ true ↦ Err (WideRun index) | false ↦ with_first run (runs_in (volume r) (index + 1) (sum + run) (drop (at + 4) bytes)) ]) (is_run (volume r) index sum run nz fits))
      ∙ sym (before-push h.done run (runs_in (volume r) (index + 1) (sum + run) (drop (at + 4) bytes))));
  within = four;
  few = few run nz;
  most = fits;
  resolution = resolution ∙ h.resolution;
  whole = whole;
  size = ap length (h.turn (run ∷ [])) ∙ (run_size (voxels_of false h.done) run full ∙ ap (λ n. n + run) h.size);
  voxels = λ p.
      set p
      ∙ ((λ i. (full && is_from sum (back i) p) || h.voxels p i)
      ∙ (run_voxels sum run p full (voxels_of false h.done) h.size ∙ sym (ap (λ vs. get_or vs p false) (h.turn (run ∷ [])))));
  turn = λ more.
      ap (voxels_of false) (append_assoc h.done (run ∷ []) more)
      ∙ (h.turn (run ∷ more)
      ∙ (run_turn (voxels_of false h.done) (voxels_of (not full) more) run full
      ∙ sym (ap (λ vs. vs ++ voxels_of (not full) more) (h.turn (run ∷ [])))));
}
  where
    back : sum + run - sum ≡ run
    back = omega arith

    few : (n : ℕ) → (n ≡ 0 → index ≡ 0) → index + 1 ≤ sum + n + 1
    few zero z = let index_is : index ≡ 0 = z refl in omega arith
    few (suc n) z = omega (arith, h.few)

-- ---- the end of the runs

refused : (r : ℕ) (bytes : List ℕ) (m : Matrix) (at index sum : ℕ) (full : Bool) (e : NoModel)
    → HasRuns r bytes m at index sum full → runs_in (volume r) index sum (drop at bytes) ≡ Err e
    → of_runs r (runs_in (volume r) 0 0 bytes) ≡ Err e
refused r bytes m at index sum full e h s = ap (of_runs r) (h.reads ∙ (ap (before h.done) s ∙ before-err h.done e))

pub bad_run : (r : ℕ) (bytes : List ℕ) (m : Matrix) (at index sum run : ℕ) (full : Bool)
    → HasRuns r bytes m at index sum full → at + 4 ≤ length bytes → sum < volume r → run ≡ next_run bytes at
    → is_no_run (volume r) index sum run ≡ true → of_runs r (runs_in (volume r) 0 0 bytes) ≡ Err (WideRun index)
bad_run r bytes m at index sum run full h four less er bad =
    refused r bytes m at index sum full (WideRun index) h
    (next_taken bytes (volume r) at index sum run four less er ∙ ap (λ b. elim b [ true ↦ Err (WideRun index) | false ↦ with_first run (runs_in (volume r) (index + 1) (sum + run) (drop (at + 4) bytes)) ]) bad)

pub void_run : (total index sum run : ℕ) → run ≡ 0 → 0 < index → is_no_run total index sum run ≡ true
void_run total index sum run e l = grind (arith, nat_tests)

pub long_run : (total index sum run : ℕ) → total - sum < run → is_no_run total index sum run ≡ true
long_run total index sum run l = by (nat_lt 0 index && run == 0) (test_less total (sum + run) (omega arith))
  where
    by : (b : Bool) → nat_lt total (sum + run) ≡ true → (b || nat_lt total (sum + run)) ≡ true
    by true e = refl
    by false e = e

pub runs_short : (r : ℕ) (bytes : List ℕ) (m : Matrix) (at index sum : ℕ) (full : Bool)
    → HasRuns r bytes m at index sum full → length bytes - at < 4 → sum < volume r
    → of_runs r (runs_in (volume r) 0 0 bytes) ≡ Err (WideShort sum)
runs_short r bytes m at index sum full h few less = refused r bytes m at index sum full (WideShort sum) h (too_few (volume r) index sum (drop at bytes) (omega (arith, rest_length bytes at)) less)

pub runs_long : (r : ℕ) (bytes : List ℕ) (m : Matrix) (at index sum : ℕ) (full : Bool)
    → HasRuns r bytes m at index sum full → at < length bytes → volume r ≤ sum
    → of_runs r (runs_in (volume r) 0 0 bytes) ≡ Err WideLong
runs_long r bytes m at index sum full h left all = refused r bytes m at index sum full WideLong h (too_many (volume r) index sum (drop at bytes) (omega (arith, rest_length bytes at)) all)

pub runs_end : (r : ℕ) (bytes : List ℕ) (m : Matrix) (at index sum : ℕ) (full : Bool)
    → HasRuns r bytes m at index sum full → length bytes ≤ at → volume r ≤ sum
    → of_runs r (runs_in (volume r) 0 0 bytes) ≡ Ok m
runs_end r bytes m at index sum full h none all =
    ap (of_runs r) (h.reads ∙ (ap (before h.done) (ap (runs_in (volume r) index sum) (drop_all at bytes none) ∙ no_more (volume r) index sum all) ∙ (before-ok h.done [] ∙ ap Ok (append-nil h.done))))
    ∙ ap Ok (λ i. record { resolution = sym h.resolution i; voxels = sym same i })
  where
    size : length m.voxels ≡ length (voxels_of false h.done)
    size = let whole = h.whole in let same_volume : volume m.resolution ≡ volume r = ap volume h.resolution in let volume_is : volume m.resolution ≡ sum = omega (arith, h.most) in whole.voxels ∙ (volume_is ∙ sym h.size)

    same : m.voxels ≡ voxels_of false h.done
    same = ext_get_or false m.voxels (voxels_of false h.done) size (λ p l. h.voxels p)

-- the wide form's bytes behind its mark
pub wide_is : (bytes : List ℕ) (r : ℕ) → 2 ≤ length bytes → r ≡ slice_index bytes 0 * 256 + slice_index bytes 1
    → 251 ≤ r → r ≤ 400 → of_runs r (runs_in (volume r) 0 0 (drop 2 bytes)) ≡ wide_form bytes
wide_is [] r two e l u = absurd (omega arith)
wide_is (a ∷ []) r two e l u = absurd (omega arith)
wide_is (a ∷ b ∷ rest) r two e l u =
    let fits : (nat_le 251 r && nat_le r 400) ≡ true = grind (arith, nat_tests) in
    sym (ap (λ n. wide_model n rest) (sym e) ∙ rw (wide_model, fits) refl)

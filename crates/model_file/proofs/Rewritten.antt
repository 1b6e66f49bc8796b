-- A model that was read is written as the same bytes, with their padding bits 0.
use Rattle.std.proofs.Common.{◌≡◌, ℕ, zero, suc, ◌+◌, ◌*◌, ◌/◌, ◌%◌, ◌^◌, ◌<◌, ◌≤◌, zero-add, refl, sym, ◌∙◌, ap, subst, arith, Bool, true, false, not, ◌&&◌, ◌==◌, List, [], ◌∷◌, ◌++◌, length, map, get_or, replicate, inl, inr}
use Rattle.std.specs.Prelude.{◌⊎◌, All, Result, Ok, Err, flat_map, nat_le, nat_lt, slice_index}
use Rattle.std.proofs.Math.Nat.{div-add-mod, mod-lt, mul-pos}
use Rattle.std.proofs.lemmas.Bool.{cases_lt}
use Rattle.std.proofs.lemmas.Bool.Decides.{nat_tests}
use Rattle.std.proofs.lemmas.List.{ext_get_or, get_or-map, get_or_past, length-map}
use Rattle.std.proofs.lemmas.List.Elements.{All-get_or, All-head, All-tail}
use Rattle.std.proofs.lemmas.Nat.{pow_pos}
use Rattle.std.proofs.lemmas.Nat.Bits.{bit_at_cat_low}
use Rattle.vox_geom.specs.Space.{numbers_below}
use Rattle.vox_geom.proofs.Tests.{between_by_tests, not_less_by_test}
use Rattle.nano_spec.specs.First.{with_first}
use Rattle.nano_spec.specs.Matrix.{Matrix}
use Rattle.nano_spec.specs.Model.{NoModel, Resolution, Short, Long, WideResolution, WideRun, WideShort, WideLong, bit, byte_at, first_form, four_bytes, is_no_run, model, number_of_four, of_runs, run_lengths, runs_in, volume, voxel_bit, voxels_of, wanted, wide_form, wide_model, written}
use Rattle.vox_planes.proofs.Voxels.{get_or-numbers}
use Rattle.model_file.specs.Padding.{cut_last, used_bits, without_padding}
use Rattle.model_file.proofs.FirstForms.{byte_of, length-numbers}

same_value : {A E : Type 0} (a b : A) → ◌≡◌ {A = Result A E} (Ok a) (Ok b) → a ≡ b
same_value a b h = cc

-- ---- the wide form

-- runs of which only the first of all may be 0
abbrev AreRuns : ℕ → List ℕ → Type 0
AreRuns index [] = Unit {0}
AreRuns index (n ∷ ns) = (n ≡ 0 → index ≡ 0) × AreRuns (index + 1) ns

-- the runs that bytes encode, written again
record IsSaid (index : ℕ) (bytes ns : List ℕ) : Type 0 where
  again : flat_map four_bytes ns ≡ bytes
  runs : AreRuns index ns

four_again : (a b c d : ℕ) → a < 256 → b < 256 → c < 256 → d < 256
    → four_bytes (number_of_four a b c d) ≡ a ∷ b ∷ c ∷ d ∷ []
four_again a b c d ha hb hc hd =
    let first : number_of_four a b c d / 256 ^ 3 ≡ a = omega arith in
    let second : number_of_four a b c d / 256 ^ 2 % 256 ≡ b = omega arith in
    let third : number_of_four a b c d / 256 % 256 ≡ c = omega arith in
    let fourth : number_of_four a b c d % 256 ≡ d = omega arith in
    λ i. first i ∷ second i ∷ third i ∷ fourth i ∷ []

run_may : (total index sum run : ℕ) → is_no_run total index sum run ≡ false → run ≡ 0 → index ≡ 0
run_may total index sum run h e = grind (arith, nat_tests)

said : (total : ℕ) (bytes : List ℕ) (index sum : ℕ) (ns : List ℕ) → All (λ b. b < 256) bytes
    → runs_in total index sum bytes ≡ Ok ns → IsSaid index bytes ns
said total [] index sum ns bound h = by (nat_lt sum total) h
  where
    by : (b : Bool) → ◌≡◌ {A = Result (List ℕ) NoModel} (elim b [ true ↦ Err (WideShort sum) | false ↦ Ok [] ]) (Ok ns)
        → IsSaid index [] ns
    by true e = cc
    by false e = subst (λ (xs : List ℕ). IsSaid index [] xs) (same_value [] ns e) (record { again = refl; runs = tt })
said total (a ∷ []) index sum ns bound h = by (nat_lt sum total) h
  where
    by : (b : Bool)
        → ◌≡◌ {A = Result (List ℕ) NoModel} (elim b [ true ↦ Err (WideShort sum) | false ↦ Err WideLong ]) (Ok ns)
        → IsSaid index (a ∷ []) ns
    by true e = cc
    by false e = cc
said total (a ∷ b ∷ []) index sum ns bound h = by (nat_lt sum total) h
  where
    by : (t : Bool)
        → ◌≡◌ {A = Result (List ℕ) NoModel} (elim t [ true ↦ Err (WideShort sum) | false ↦ Err WideLong ]) (Ok ns)
        → IsSaid index (a ∷ b ∷ []) ns
    by true e = cc
    by false e = cc
said total (a ∷ b ∷ c ∷ []) index sum ns bound h = by (nat_lt sum total) h
  where
    by : (t : Bool)
        → ◌≡◌ {A = Result (List ℕ) NoModel} (elim t [ true ↦ Err (WideShort sum) | false ↦ Err WideLong ]) (Ok ns)
        → IsSaid index (a ∷ b ∷ c ∷ []) ns
    by true e = cc
    by false e = cc
said total (a ∷ b ∷ c ∷ d ∷ more) index sum ns bound h =
    by (nat_lt sum total) (is_no_run total index sum (number_of_four a b c d)) refl (runs_in total (index + 1) (sum + number_of_four a b c d) more) (λ ms e. said total more (index + 1) (sum + number_of_four a b c d) ms bound_more e) h
  where
    small : (b < 256) × (c < 256) × (d < 256)
    small =
        let p = λ (n : ℕ). n < 256 in
        let one = All-tail p a (b ∷ c ∷ d ∷ more) bound in
        let two = All-tail p b (c ∷ d ∷ more) one in
        let three = All-tail p c (d ∷ more) two in
        (All-head p b (c ∷ d ∷ more) one, All-head p c (d ∷ more) two, All-head p d more three)

    bound_more : All (λ b. b < 256) more
    bound_more = let p = λ (n : ℕ). n < 256 in All-tail p d more (All-tail p c (d ∷ more) (All-tail p b (c ∷ d ∷ more) (All-tail p a (b ∷ c ∷ d ∷ more) bound)))

    whole : (run : ℕ) → run ≡ number_of_four a b c d → is_no_run total index sum (number_of_four a b c d) ≡ false
        → (ms : List ℕ) → IsSaid (index + 1) more ms → IsSaid index (a ∷ b ∷ c ∷ d ∷ more) (number_of_four a b c d ∷ ms)
    whole run e ok ms s = record {
      again = (λ i. four_again a b c d (All-head (λ n. n < 256) a (b ∷ c ∷ d ∷ more) bound) small.0 small.1 small.2 i ++ s.again i);
      runs = (run_may total index sum (number_of_four a b c d) ok, s.runs);
    }

    by : (lt no_run : Bool) → is_no_run total index sum (number_of_four a b c d) ≡ no_run
        → (rest : Result (List ℕ) NoModel) → ((ms : List ℕ) → rest ≡ Ok ms → IsSaid (index + 1) more ms) → ◌≡◌
        {A = Result (List ℕ) NoModel} (elim lt
        [ false ↦ Err WideLong | true ↦ elim no_run [ true ↦ Err (WideRun index) | false ↦ with_first (number_of_four a b c d) rest ] ])
        (Ok ns) → IsSaid index (a ∷ b ∷ c ∷ d ∷ more) ns
    by false n e rest later k = cc
    by true true e rest later k = cc
    by true false e (Err f) later k = cc
    by true false e (Ok ms) later k = subst (λ (xs : List ℕ). IsSaid index (a ∷ b ∷ c ∷ d ∷ more) xs) (same_value (number_of_four a b c d ∷ ms) ns k) (whole (number_of_four a b c d) refl e ms (later ms refl))

same_voxels : (k n : ℕ) (value : Bool) (rest : List Bool)
    → run_lengths n value (replicate k value ++ rest) ≡ run_lengths (n + k) value rest
same_voxels zero n value rest = ap (λ v. run_lengths v value rest) (let n_is : n ≡ n + 0 = omega arith in n_is)
same_voxels (suc k) n true rest = same_voxels k (n + 1) true rest ∙ ap (λ v. run_lengths v true rest) (let sum_is : n + 1 + k ≡ n + suc k = omega arith in sum_is)
same_voxels (suc k) n false rest = same_voxels k (n + 1) false rest ∙ ap (λ v. run_lengths v false rest) (let sum_is : n + 1 + k ≡ n + suc k = omega arith in sum_is)

lengths_back : (ns : List ℕ) (index n : ℕ) (value : Bool) → 1 ≤ index → AreRuns index ns
    → run_lengths n value (voxels_of (not value) ns) ≡ n ∷ ns
lengths_back [] index n value l h = refl
lengths_back (zero ∷ ns) index n value l h = let index_is : index ≡ 0 = h.0 refl in absurd (omega arith)
lengths_back (suc k ∷ ns) index n true l h =
    ap (λ xs. n ∷ xs) (same_voxels k 1 false (voxels_of true ns) ∙ (ap (λ v. run_lengths v false (voxels_of true ns)) (let sum_is : 1 + k ≡ suc k = omega arith in sum_is) ∙ lengths_back ns (index + 1) (suc k) false (omega arith) h.1))
lengths_back (suc k ∷ ns) index n false l h =
    ap (λ xs. n ∷ xs) (same_voxels k 1 true (voxels_of false ns) ∙ (ap (λ v. run_lengths v true (voxels_of false ns)) (let sum_is : 1 + k ≡ suc k = omega arith in sum_is) ∙ lengths_back ns (index + 1) (suc k) true (omega arith) h.1))

runs_again : (n : ℕ) (ns : List ℕ) → AreRuns 0 (n ∷ ns) → run_lengths 0 false (voxels_of false (n ∷ ns)) ≡ n ∷ ns
runs_again n ns h = same_voxels n 0 false (voxels_of true ns) ∙ (ap (λ v. run_lengths v false (voxels_of true ns)) (zero-add n) ∙ lengths_back ns 1 n false (omega arith) h.1)

-- there are runs if there are voxels
none_said : (total : ℕ) (bytes : List ℕ) → 0 < total → runs_in total 0 0 bytes ≡ Ok [] → ⊥
none_said total [] p h = by (nat_lt 0 total) (some total p) h
  where
    some : (total : ℕ) → 0 < total → nat_lt 0 total ≡ true
    some total p = grind (arith, nat_tests)

    by : (b : Bool) → b ≡ true
        → ◌≡◌ {A = Result (List ℕ) NoModel} (elim b [ true ↦ Err (WideShort 0) | false ↦ Ok [] ]) (Ok []) → ⊥
    by true e k = cc
    by false e k = cc
none_said total (a ∷ []) p h = by (nat_lt 0 total) h
  where
    by : (b : Bool)
        → ◌≡◌ {A = Result (List ℕ) NoModel} (elim b [ true ↦ Err (WideShort 0) | false ↦ Err WideLong ]) (Ok []) → ⊥
    by true k = cc
    by false k = cc
none_said total (a ∷ b ∷ []) p h = by (nat_lt 0 total) h
  where
    by : (b : Bool)
        → ◌≡◌ {A = Result (List ℕ) NoModel} (elim b [ true ↦ Err (WideShort 0) | false ↦ Err WideLong ]) (Ok []) → ⊥
    by true k = cc
    by false k = cc
none_said total (a ∷ b ∷ c ∷ []) p h = by (nat_lt 0 total) h
  where
    by : (b : Bool)
        → ◌≡◌ {A = Result (List ℕ) NoModel} (elim b [ true ↦ Err (WideShort 0) | false ↦ Err WideLong ]) (Ok []) → ⊥
    by true k = cc
    by false k = cc
none_said total (a ∷ b ∷ c ∷ d ∷ more) p h = by (nat_lt 0 total) (is_no_run total 0 0 (number_of_four a b c d)) (runs_in total (0 + 1) (0 + number_of_four a b c d) more) h
  where
    by : (lt no_run : Bool) (rest : Result (List ℕ) NoModel) → ◌≡◌ {A = Result (List ℕ) NoModel} (elim lt
        [ false ↦ Err WideLong | true ↦ elim no_run [ true ↦ Err (WideRun 0) | false ↦ with_first (number_of_four a b c d) rest ] ])
        (Ok []) → ⊥
    by false n rest k = cc
    by true true rest k = cc
    by true false (Err f) k = cc
    by true false (Ok ms) k = cc

-- a model of the wide form, written again
wide_again : (high low : ℕ) (bytes : List ℕ) (m : Matrix) → high < 256 → low < 256 → All (λ b. b < 256) bytes
    → wide_model (high * 256 + low) bytes ≡ Ok m → written m ≡ 0xFF ∷ high ∷ low ∷ bytes
wide_again high low bytes m hh hl bound h = by (nat_le 251 r && nat_le r 400) refl (runs_in (volume r) 0 0 bytes) refl h
  where
    r : ℕ
    r = high * 256 + low

    whole : (ns : List ℕ) → 251 ≤ high * 256 + low → IsSaid 0 bytes ns → (ns ≡ [] → ⊥)
        → written (record { resolution = high * 256 + low; voxels = voxels_of false ns }) ≡ 0xFF ∷ high ∷ low ∷ bytes
    whole [] l s some = absurd (some refl)
    whole (n ∷ ns) l s some =
        let wide : nat_le (high * 256 + low) 250 ≡ false = grind (arith, nat_tests) in
        let first : (high * 256 + low) / 256 ≡ high = omega arith in
        let second : (high * 256 + low) % 256 ≡ low = omega arith in
        let runs : flat_map four_bytes (run_lengths 0 false (voxels_of false (n ∷ ns))) ≡ bytes = ap (flat_map four_bytes) (runs_again n ns s.runs) ∙ s.again in
        rw (written, wide) (λ i. 0xFF ∷ first i ∷ second i ∷ runs i)

    by : (fits : Bool) → (nat_le 251 (high * 256 + low) && nat_le (high * 256 + low) 400) ≡ fits
        → (runs : Result (List ℕ) NoModel) → runs_in (volume (high * 256 + low)) 0 0 bytes ≡ runs
        → ◌≡◌ {A = Result Matrix NoModel}
        (elim fits [ false ↦ Err (WideResolution (high * 256 + low)) | true ↦ of_runs (high * 256 + low) runs ]) (Ok m)
        → written m ≡ 0xFF ∷ high ∷ low ∷ bytes
    by false f runs e k = cc
    by true f (Err g) e k = cc
    by true f (Ok ns) e k =
        let between = between_by_tests (high * 256 + low) 251 400 f in
        ap written (sym (same_value (record { resolution = high * 256 + low; voxels = voxels_of false ns }) m k))
        ∙ whole ns between.0 (said (volume (high * 256 + low)) bytes 0 0 ns bound e) (λ none. no_runs (some between.0) (e ∙ ap Ok none))
      where
        some : 251 ≤ high * 256 + low → 0 < volume (high * 256 + low)
        some l = let one : 0 < high * 256 + low = omega arith in mul-pos (mul-pos one one) one

        no_runs : 0 < volume (high * 256 + low) → runs_in (volume (high * 256 + low)) 0 0 bytes ≡ Ok [] → ⊥
        no_runs p e = none_said (volume (high * 256 + low)) bytes p e

-- ---- the first form

-- a byte of which only the lowest bits are kept
low_bits : (b used i : ℕ) → i < used → bit (b % 2 ^ used) i ≡ bit b i
low_bits b used i l =
    let split : b / 2 ^ used * 2 ^ used + b % 2 ^ used ≡ b = omega (arith, div-add-mod b (2 ^ used)) in
    sym (ap (λ d. d == 1) (bit_at_cat_low (b / 2 ^ used) used (b % 2 ^ used) i l)) ∙ ap (λ v. bit v i) split

cut_at : (used k : ℕ) (bytes : List ℕ) → k + 1 < length bytes → get_or (cut_last used bytes) k 0 ≡ get_or bytes k 0
cut_at used k [] l = absurd (omega arith)
cut_at used k (b ∷ []) l = absurd (omega arith)
cut_at used zero (b ∷ c ∷ more) l = refl
cut_at used (suc k) (b ∷ c ∷ more) l = cut_at used k (c ∷ more) (omega arith)

cut_end : (used k : ℕ) (bytes : List ℕ) → k + 1 ≡ length bytes
    → get_or (cut_last used bytes) k 0 ≡ get_or bytes k 0 % 2 ^ used
cut_end used k [] e = absurd (omega arith)
cut_end used zero (b ∷ []) e = refl
cut_end used (suc k) (b ∷ []) e = absurd (omega arith)
cut_end used zero (b ∷ c ∷ more) e = absurd (omega arith)
cut_end used (suc k) (b ∷ c ∷ more) e = cut_end used k (c ∷ more) (omega arith)

cut_length : (used : ℕ) (bytes : List ℕ) → length (cut_last used bytes) ≡ length bytes
cut_length used [] = refl
cut_length used (b ∷ []) = refl
cut_length used (b ∷ c ∷ more) = ap suc (cut_length used (c ∷ more))

-- the voxels that the bytes encode
abbrev said_voxels : ℕ → List ℕ → List Bool
said_voxels r bytes = map (voxel_bit bytes) (numbers_below (volume r))

voxel_said : (r : ℕ) (bytes : List ℕ) (p : ℕ) → p < volume r → get_or (said_voxels r bytes) p false ≡ voxel_bit bytes p
voxel_said r bytes p l =
    get_or-map (voxel_bit bytes) (numbers_below (volume r)) p 0 false (let numbers_length = length-numbers (volume r) 0 in omega arith)
    ∙ ap (voxel_bit bytes) (get_or-numbers (volume r) 0 p 0 l ∙ zero-add p)

no_voxel : (r : ℕ) (bytes : List ℕ) (p : ℕ) → volume r ≤ p → get_or (said_voxels r bytes) p false ≡ false
no_voxel r bytes p l = get_or_past (said_voxels r bytes) p false (let length_is : length (said_voxels r bytes) ≡ volume r = length-map (numbers_below (volume r)) (voxel_bit bytes) ∙ length-numbers (volume r) 0 in omega arith)

in_byte : (r : ℕ) (more : List ℕ) (k i : ℕ) → i < 8 → 8 * k + i < volume r
    → get_or (said_voxels r (r ∷ more)) (8 * k + i) false ≡ bit (get_or more k 0) i
in_byte r more k i u l =
    let quotient_is : (8 * k + i) / 8 ≡ k = omega arith in
    let remainder_is : (8 * k + i) % 8 ≡ i = omega arith in
    voxel_said r (r ∷ more) (8 * k + i) l ∙ ((λ j. bit (slice_index (r ∷ more) (1 + quotient_is j)) (remainder_is j)) ∙ ap (λ v. bit v i) (next k))
  where
    next : (k : ℕ) → get_or (r ∷ more) (1 + k) 0 ≡ get_or more k 0
    next k = ap (λ n. get_or (r ∷ more) n 0) (let sum_is : 1 + k ≡ suc k = omega arith in sum_is)

byte_again : (r : ℕ) (more : List ℕ) (k : ℕ) → All (λ b. b < 256) more → length more ≡ (volume r + 7) / 8
    → k < length more → get_or (cut_last (used_bits r) more) k 0 ≡ byte_at (said_voxels r (r ∷ more)) k
byte_again r more k bound e l = by (cases_lt (k + 1) (length more))
  where
    by : ((k + 1 < length more) ⊎ (length more ≤ k + 1))
        → get_or (cut_last (used_bits r) more) k 0 ≡ byte_at (said_voxels r (r ∷ more)) k
    by (inl m) =
        cut_at (used_bits r) k more m
        ∙ byte_of (said_voxels r (r ∷ more)) k 8 (get_or more k 0) (omega arith) (All-get_or (λ b. b < 256) more k 0 l bound)
        (λ i u. sym (in_byte r more k i u (omega arith))) (λ i h u. absurd (omega arith))
    by (inr m) =
        let used : used_bits r + 8 * k ≡ volume r = omega arith in
        let few : used_bits r ≤ 8 = omega arith in
        cut_end (used_bits r) k more (omega arith)
        ∙ byte_of (said_voxels r (r ∷ more)) k (used_bits r) (get_or more k 0 % 2 ^ used_bits r) few (mod-lt (get_or more k 0) (pow_pos (used_bits r)))
        (λ i u. low_bits (get_or more k 0) (used_bits r) i u ∙ sym (in_byte r more k i (omega arith) (omega arith)))
        (λ i h u. no_voxel r (r ∷ more) (8 * k + i) (omega arith))

bytes_again : (r : ℕ) (more : List ℕ) → All (λ b. b < 256) more → length more ≡ (volume r + 7) / 8
    → map (byte_at (said_voxels r (r ∷ more))) (numbers_below ((volume r + 7) / 8)) ≡ cut_last (used_bits r) more
bytes_again r more bound e =
    ext_get_or 0 (map (byte_at (said_voxels r (r ∷ more))) (numbers_below ((volume r + 7) / 8))) (cut_last (used_bits r) more) (size ∙ sym (cut_length (used_bits r) more ∙ e)) (λ k l. at k (omega (arith, size)))
  where
    size : length (map (byte_at (said_voxels r (r ∷ more))) (numbers_below ((volume r + 7) / 8))) ≡ (volume r + 7) / 8
    size = length-map (numbers_below ((volume r + 7) / 8)) (byte_at (said_voxels r (r ∷ more))) ∙ length-numbers ((volume r + 7) / 8) 0

    at : (k : ℕ) → k < (volume r + 7) / 8
        → get_or (map (byte_at (said_voxels r (r ∷ more))) (numbers_below ((volume r + 7) / 8))) k 0
        ≡ get_or (cut_last (used_bits r) more) k 0
    at k l =
        get_or-map (byte_at (said_voxels r (r ∷ more))) (numbers_below ((volume r + 7) / 8)) k 0 0 (let numbers_length = length-numbers ((volume r + 7) / 8) 0 in omega arith)
        ∙ (ap (byte_at (said_voxels r (r ∷ more))) (get_or-numbers ((volume r + 7) / 8) 0 k 0 l ∙ zero-add k)
        ∙ sym (byte_again r more k bound e (omega (arith, e))))

first_again : (r : ℕ) (more : List ℕ) (m : Matrix) → All (λ b. b < 256) more → first_form r (r ∷ more) ≡ Ok m
    → written m ≡ r ∷ cut_last (used_bits r) more
first_again r more m bound h = by (nat_le 1 r && nat_le r 250) (nat_lt (length (r ∷ more)) (wanted r)) (nat_lt (wanted r) (length (r ∷ more))) refl refl refl h
  where
    by : (a b c : Bool) → (nat_le 1 r && nat_le r 250) ≡ a → nat_lt (length (r ∷ more)) (wanted r) ≡ b
        → nat_lt (wanted r) (length (r ∷ more)) ≡ c → ◌≡◌ {A = Result Matrix NoModel} (elim a
        [ false ↦ Err (Resolution r) | true ↦ elim b [ true ↦ Err (Short (wanted r) (length (r ∷ more))) | false ↦ elim c [ true ↦ Err (Long (wanted r)) | false ↦ Ok (record { resolution = r; voxels = said_voxels r (r ∷ more) }) ] ] ])
        (Ok m) → written m ≡ r ∷ cut_last (used_bits r) more
    by false b c e f g k = cc
    by true true c e f g k = cc
    by true false true e f g k = cc
    by true false false e f g k =
        let between = between_by_tests r 1 250 e in
        let first : nat_le r 250 ≡ true = grind (arith, nat_tests) in
        let most = not_less_by_test (length (r ∷ more)) (wanted r) f in
        let least = not_less_by_test (wanted r) (length (r ∷ more)) g in
        let size : length more ≡ (volume r + 7) / 8 = omega arith in
        ap written (sym (same_value (record { resolution = r; voxels = said_voxels r (r ∷ more) }) m k))
        ∙ rw (written, first) (ap (λ xs. r ∷ xs) (bytes_again r more bound size))

-- ---- both forms

pub written_again : (bytes : List ℕ) (m : Matrix) → All (λ b. b < 256) bytes → model bytes ≡ Ok m
    → written m ≡ without_padding bytes
written_again [] m bound h = cc
written_again (r ∷ more) m bound h = by (r == 0xFF) refl h
  where
    is_mark : (r == 0xFF) ≡ true → r ≡ 0xFF
    is_mark e = grind (arith, nat_tests)

    wide : (bytes : List ℕ) → All (λ b. b < 256) bytes → wide_form bytes ≡ Ok m → written m ≡ 0xFF ∷ bytes
    wide [] b k = cc
    wide (high ∷ []) b k = cc
    wide (high ∷ low ∷ runs) b k =
        let p = λ (n : ℕ). n < 256 in
        let rest = All-tail p high (low ∷ runs) b in
        wide_again high low runs m (All-head p high (low ∷ runs) b) (All-head p low runs rest) (All-tail p low runs rest) k

    by : (mark : Bool) → (r == 0xFF) ≡ mark
        → ◌≡◌ {A = Result Matrix NoModel} (elim mark [ true ↦ wide_form more | false ↦ first_form r (r ∷ more) ]) (Ok m)
        → written m ≡ elim mark [ true ↦ r ∷ more | false ↦ r ∷ cut_last (used_bits r) more ]
    by true e k = wide more (All-tail (λ n. n < 256) r more bound) k ∙ ap (λ n. n ∷ more) (sym (is_mark e))
    by false e k = first_again r more m (All-tail (λ n. n < 256) r more bound) k

-- The next run of a row.
use Rattle.std.proofs.Common.{◌≡◌, ℕ, zero, suc, ◌+◌, ◌-◌, ◌%◌, ◌<◌, ◌≤◌, refl, sym, ◌∙◌, ap, subst, arith, Bool, true, false, cond, min, ◌&&◌, ◌==◌, nat_lt, inl, inr}
use Rattle.std.specs.Prelude.{◌⊎◌}
use Rattle.std.proofs.lemmas.Bool.{cases_lt}
use Rattle.std.proofs.lemmas.Bool.Decides.{nat_tests}
use Rattle.nano_spec.specs.Matrix.{Matrix}
use Rattle.group_planner.specs.Rows.{begins_run, count_below, full_before, is_full_at, is_row, one_if}
use Rattle.group_planner.specs.Runs.{IsAll, IsCut, IsRunEnd, IsNextRun, IsNoRun, runs_before}
use Rattle.group_planner.specs.declared.run.RowRun.{RowRun}
use Rattle.plan_tape.proofs.Parts.{void_past_z}
use Rattle.group_planner.proofs.Counts.{one_of_sum, sum_below-gap, sum_below-more, sum_below-zero}

before-suc : (m : Matrix) (x y z : ℕ)
    → full_before m x y (suc z) ≡ cond (is_full_at m x y z) (full_before m x y z + 1) 0
unfolding full_before
before-suc m x y z = refl

-- no voxel precedes the first
pub cut_at_start : (m : Matrix) (x y : ℕ) → IsCut m x y 0
unfolding full_before
cut_at_start m x y = λ t. refl

-- no full voxel directly precedes the successor of a void one
before_void : (m : Matrix) (x y z : ℕ) → is_full_at m x y z ≡ false → full_before m x y (z + 1) ≡ 0
before_void m x y z e = (let sum_is : z + 1 ≡ suc z = omega arith in ap (full_before m x y) sum_is) ∙ (before-suc m x y z ∙ ap (λ b. cond b (full_before m x y z + 1) 0) e)

-- n full voxels are n more
before_full : (m : Matrix) (x y a n : ℕ) → ((k : ℕ) → a ≤ k → k < a + n → is_full_at m x y k ≡ true)
    → full_before m x y (a + n) ≡ full_before m x y a + n
before_full m x y a zero h = (let sum_is : a + 0 ≡ a = omega arith in ap (full_before m x y) sum_is) ∙ (let same_full_before : full_before m x y a ≡ full_before m x y a + 0 = omega arith in same_full_before)
before_full m x y a (suc n) h =
    let rest = before_full m x y a n (λ k l p. h k l (omega arith)) in
    (let sum_is : a + suc n ≡ suc (a + n) = omega arith in ap (full_before m x y) sum_is)
    ∙ (before-suc m x y (a + n) ∙ (ap (λ b. cond b (full_before m x y (a + n) + 1) 0) (h (a + n) (omega arith) (omega arith)) ∙ omega (arith, rest)))

not_multiple : (b : Bool) (n : ℕ) → 0 < n % 31 → (b && n % 31 == 0) ≡ false
not_multiple true n h = grind (arith, nat_tests)
not_multiple false n h = refl

no_begin : (b : Bool) → b ≡ false → one_if b ≡ 0
no_begin b e = rw e refl

void_begin : (b c : Bool) → b ≡ false → one_if (b && c) ≡ 0
void_begin b c e = rw e refl

positive : (n : ℕ) → 0 < n → nat_lt 0 n ≡ true
positive n h = grind (arith, nat_tests)

below_itself : (n : ℕ) → nat_lt n n ≡ false
below_itself n = grind (arith, nat_tests)

full_begin : (b : Bool) (n : ℕ) → b ≡ true → n % 31 ≡ 0 → one_if (b && n % 31 == 0) ≡ 1
full_begin b n e f = rw (e, f) refl

module _ (m : Matrix) (x y : ℕ) where
  -- a multiple of 31 full voxels directly precedes a full voxel that comes directly after void ones, or at which no run is
  -- cut
  at_first : (z first : ℕ) → IsCut m x y z → z ≤ first → IsAll m x y z first false → is_full_at m x y first ≡ true
      → full_before m x y first % 31 ≡ 0
  at_first z first cut l void full = by (cases_lt z first)
    where
      by : (z < first) ⊎ (first ≤ z) → full_before m x y first % 31 ≡ 0
      by (inl h) =
          let first_is : first - 1 + 1 ≡ first = omega arith in
          let none = before_void m x y (first - 1) (void (first - 1) (omega arith) (omega arith)) in
          ap (λ k. full_before m x y k % 31) (sym first_is) ∙ ap (λ n. n % 31) none
      by (inr h) = let z_is : z ≡ first = omega arith in subst (λ k. full_before m x y k % 31 ≡ 0) z_is (cut (ap (is_full_at m x y) z_is ∙ full))

  -- void voxels begin no run
  pub no_more : (a b : ℕ) → a ≤ b → IsAll m x y a b false → runs_before m x y b ≡ runs_before m x y a
  no_more a b l void = sum_below-gap (λ k. one_if (begins_run m x y k)) a b l (λ k p q. void_begin (is_full_at m x y k) (full_before m x y k % 31 == 0) (void k p q))

  -- full voxels after the first begin no run, if they are fewer than 31
  inside : (first end : ℕ) → end ≤ first + 31 → full_before m x y first % 31 ≡ 0 → IsAll m x y first end true → (k : ℕ)
      → first + 1 ≤ k → k < end → one_if (begins_run m x y k) ≡ 0
  inside first end most cut full k l p =
      let first_is : first + (k - first) ≡ k = omega arith in
      let counted_before = before_full m x y first (k - first) (λ j a b. full j a (omega arith)) in
      let count : full_before m x y k ≡ full_before m x y first + (k - first) = sym (ap (full_before m x y) first_is) ∙ counted_before in
      no_begin (begins_run m x y k) (not_multiple (is_full_at m x y k) (full_before m x y k) (omega (arith, count, cut)))

  pub run_found : (z first end : ℕ) → IsCut m x y z → z ≤ first → first < end → end ≤ first + 31 → end ≤ m.resolution
      → IsAll m x y z first false → IsAll m x y first end true → (end < first + 31 → is_full_at m x y end ≡ false)
      → IsNextRun m x y z (record { first = first; end = end })
  run_found z first end cut low some most within void full after =
      let start = at_first z first cut low void (full first (omega arith) some) in
      let begun = full_begin (is_full_at m x y first) (full_before m x y first) (full first (omega arith) some) start in
      let one = sum_below-more (λ k. one_if (begins_run m x y k)) first in
      let rest = sum_below-gap (λ k. one_if (begins_run m x y k)) (first + 1) end (omega arith) (inside first end most start full) in
      let gap = no_more z first low void in
      record {
        is_run = record { some = some; most = most; within = within; full = full; cut = λ t. by t start (cases_lt end (first + 31)) };
        low = low;
        void = void;
        one_more = omega (arith, begun, one, rest, gap);
      }
    where
      by : is_full_at m x y end ≡ true → full_before m x y first % 31 ≡ 0 → (end < first + 31) ⊎ (first + 31 ≤ end)
          → full_before m x y end % 31 ≡ 0
      by t start (inl h) = absurd (let impossible = sym t ∙ after h in cc)
      by t start (inr h) =
          let end_is : end ≡ first + 31 = omega arith in
          let counted_before = before_full m x y first 31 (λ j a b. full j a (omega arith)) in
          let count : full_before m x y end ≡ full_before m x y first + 31 = ap (full_before m x y) end_is ∙ counted_before in
          omega (arith, count, start)

  -- past the matrix nothing is full
  past : is_full_at m x y m.resolution ≡ false
  past = void_past_z m (record { x = x; y = y; z = m.resolution }) (below_itself m.resolution)

  pub next_found : (z first end most : ℕ) → IsCut m x y z → first < m.resolution → most ≡ min m.resolution (first + 31)
      → IsRunEnd m x y z m.resolution true first → IsRunEnd m x y first most false end
      → IsNextRun m x y z (record { first = first; end = end })
  next_found z first end most cut l e a b =
      run_found z first end cut a.low (longer (cases_lt first end)) (omega (arith, b.high)) (omega (arith, b.high)) a.others b.others (λ h. after h (cases_lt end most))
    where
      longer : (first < end) ⊎ (end ≤ first) → first < end
      longer (inl h) = h
      longer (inr h) = absurd (let first_is : first ≡ end = omega (arith, b.low) in let its_here = b.here (omega arith) in let here = a.here l ∙ refl in let is_full_at_is = sym (ap (is_full_at m x y) first_is) ∙ a.here l in let impossible = sym is_full_at_is ∙ its_here in cc)

      after : end < first + 31 → (end < most) ⊎ (most ≤ end) → is_full_at m x y end ≡ false
      after h (inl k) = b.here k
      after h (inr k) = let resolution_is : m.resolution ≡ end = omega (arith, b.high) in ap (is_full_at m x y) (sym resolution_is) ∙ past

  -- a line with a run is a row, and one without is none
  pub row_of_some : (run : RowRun) → IsNextRun m x y 0 run → is_row m x y ≡ true
  row_of_some run h =
      let one = one_of_sum (λ z. one_if (is_full_at m x y z)) run.first m.resolution (let is_run_some = h.is_run.some in let within = h.is_run.within in omega arith) in
      let here = ap one_if (h.is_run.full run.first (omega arith) h.is_run.some) in
      positive (count_below (is_full_at m x y) m.resolution) (omega (arith, one, here))

  pub row_of_none : IsNoRun m x y 0 → is_row m x y ≡ false
  row_of_none h =
      let gap = sum_below-gap (λ z. one_if (is_full_at m x y z)) 0 m.resolution (omega arith) (λ k l p. ap one_if (h.void k l p)) in
      let none = sum_below-zero (λ z. one_if (is_full_at m x y z)) in
      ap (nat_lt 0) (gap ∙ none)

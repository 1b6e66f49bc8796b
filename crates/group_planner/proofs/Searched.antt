-- The voxels of a row after a search in it.
use Rattle.std.proofs.Common.{◌≡◌, ℕ, zero, suc, ◌+◌, ◌-◌, ◌<◌, ◌≤◌, refl, sym, ◌∙◌, ap, subst, arith, Bool, true, false, cond, not, find, Some, None, inl, inr}
use Rattle.std.specs.Prelude.{◌⊎◌}
use Rattle.std.proofs.lemmas.Bool.{cases_lt}
use Rattle.vox_geom.specs.declared.coordinate.Coord.{Coord}
use Rattle.nano_spec.specs.Matrix.{Matrix, is_full}
use Rattle.vox_planes.specs.Voxel.{is_state}
use Rattle.vox_planes.specs.Walk.{at, row}
use Rattle.vox_planes.proofs.Walks.{row-end, row-more}
use Rattle.group_planner.specs.Runs.{IsRunEnd}

-- the first coordinate of a row that passes a test
record IsFirst (test : Coord → Bool) (c : Coord) (last : ℕ) (d : Coord) : Type 0 where
  is : d ≡ at c d.z
  low : c.z ≤ d.z
  high : d.z ≤ last
  passes : test d ≡ true
  before : (z : ℕ) → c.z ≤ z → z < d.z → test (at c z) ≡ false

first_by : (test : Coord → Bool) (n : ℕ) (c : Coord) (last : ℕ) (d : Coord) → n ≡ last + 1 - c.z
    → find test (row c last) ≡ Some d → IsFirst test c last d
first_by test zero c last d e f = absurd (let none = ap (find test) (row-end c last (omega arith)) in cc)
first_by test (suc n) c last d e f = by (test c) refl (λ later. first_by test n (at c (c.z + 1)) last d (omega arith) later)
  where
    by : (b : Bool) → test c ≡ b
        → (find test (row (at c (c.z + 1)) last) ≡ Some d → IsFirst test (at c (c.z + 1)) last d)
        → IsFirst test c last d
    by true t rest =
        let more = row-more c last (omega arith) in
        let here : Some c ≡ Some d = sym (ap (find test) more ∙ ap (λ b. cond b (Some c) (find test (row (at c (c.z + 1)) last))) t) ∙ f in
        let same : c ≡ d = cc in
        subst (λ (v : Coord). IsFirst test c last v) same (record { is = refl; low = omega arith; high = omega arith; passes = t; before = λ z l m. absurd (omega arith) })
    by false t rest =
        let more = row-more c last (omega arith) in
        let later : find test (row (at c (c.z + 1)) last) ≡ Some d = sym (ap (find test) more ∙ ap (λ b. cond b (Some c) (find test (row (at c (c.z + 1)) last))) t) ∙ f in
        let rest_here = rest later in
        record { is = rest_here.is; low = omega (arith, rest_here.low); high = rest_here.high; passes = rest_here.passes; before = λ z l m. at_or_after z l m t rest_here (cases_lt c.z z) }
      where
        at_or_after : (z : ℕ) → c.z ≤ z → z < d.z → test c ≡ false → IsFirst test (at c (c.z + 1)) last d
            → (c.z < z) ⊎ (z ≤ c.z) → test (at c z) ≡ false
        at_or_after z l m t h (inl a) = h.before z (omega arith) m
        at_or_after z l m t h (inr a) = let same_z : c.z ≡ z = omega arith in sym (ap (λ k. test (at c k)) same_z) ∙ t

none_by : (test : Coord → Bool) (n : ℕ) (c : Coord) (last : ℕ) → n ≡ last + 1 - c.z → find test (row c last) ≡ None
    → (z : ℕ) → c.z ≤ z → z ≤ last → test (at c z) ≡ false
none_by test zero c last e f z l m = absurd (omega arith)
none_by test (suc n) c last e f z l m = by (test c) refl (λ later a. none_by test n (at c (c.z + 1)) last (omega arith) later z a m) (cases_lt c.z z)
  where
    by : (b : Bool) → test c ≡ b → (find test (row (at c (c.z + 1)) last) ≡ None → c.z + 1 ≤ z → test (at c z) ≡ false)
        → (c.z < z) ⊎ (z ≤ c.z) → test (at c z) ≡ false
    by true t rest k = absurd (let more = row-more c last (omega arith) in let here : Some c ≡ None = sym (ap (find test) more ∙ ap (λ b. cond b (Some c) (find test (row (at c (c.z + 1)) last))) t) ∙ f in cc)
    by false t rest (inl a) = let more = row-more c last (omega arith) in rest (sym (ap (find test) more ∙ ap (λ b. cond b (Some c) (find test (row (at c (c.z + 1)) last))) t) ∙ f) (omega arith)
    by false t rest (inr a) = let same_z : c.z ≡ z = omega arith in sym (ap (λ k. test (at c k)) same_z) ∙ t

state_true : (m : Matrix) (full : Bool) (c : Coord) → is_state m full c ≡ true → is_full m c ≡ full
state_true m true c e = e
state_true m false c e = by (is_full m c) e
  where
    by : (b : Bool) → not b ≡ true → b ≡ false
    by true f = cc
    by false f = refl

state_false : (m : Matrix) (full : Bool) (c : Coord) → is_state m full c ≡ false → is_full m c ≡ not full
state_false m true c e = e
state_false m false c e = by (is_full m c) e
  where
    by : (b : Bool) → not b ≡ false → b ≡ true
    by true f = refl
    by false f = cc

pub is_next : (m : Matrix) (c d : Coord) (end : ℕ) (full : Bool) → c.z < end
    → find (is_state m full) (row c (end - 1)) ≡ Some d → IsRunEnd m c.x c.y c.z end full d.z
is_next m c d end full l f =
    let is_first = first_by (is_state m full) (end - 1 + 1 - c.z) c (end - 1) d refl f in
    record {
      low = is_first.low;
      high = omega (arith, is_first.high);
      others = λ z a b. state_false m full (at c z) (is_first.before z a b);
      here = λ _. ap (is_full m) (sym is_first.is) ∙ state_true m full d is_first.passes;
    }

pub is_end : (m : Matrix) (c : Coord) (end : ℕ) (full : Bool) → c.z < end
    → find (is_state m full) (row c (end - 1)) ≡ None → IsRunEnd m c.x c.y c.z end full end
is_end m c end full l f =
    record {
      low = omega arith;
      high = omega arith;
      others = λ z a b. state_false m full (at c z) (none_by (is_state m full) (end - 1 + 1 - c.z) c (end - 1) refl f z a (omega arith));
      here = λ h. absurd (omega arith);
    }

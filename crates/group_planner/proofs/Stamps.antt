-- Stamping by parts.
use Rattle.std.proofs.Common.{◌≡◌, ℕ, ◌+◌, ◌-◌, ◌<◌, ◌≤◌, refl, sym, ◌∙◌, ap, arith, Bool, true, false, cond, ◌&&◌, ◌||◌, ◌==◌, nat_le, nat_lt, inl, inr}
use Rattle.std.specs.Prelude.{◌⊎◌}
use Rattle.std.proofs.lemmas.Bool.{cases_lt}
use Rattle.std.proofs.lemmas.Bool.Decides.{nat_tests}
use Rattle.vox_geom.specs.declared.coordinate.Coord.{Coord}
use Rattle.vox_geom.proofs.Tests.{equal_by_test}
use Rattle.nano_spec.specs.Matrix.{Matrix, is_full}
use Rattle.plan_tape.specs.Progress.{TapeState, IsVoidFrom}
use Rattle.plan_tape.specs.Parts.{is_in_line}
use Rattle.plan_tape.proofs.Parts.{void_past_z}
use Rattle.group_planner.specs.declared.run.RowRun.{RowRun}
use Rattle.group_planner.specs.Pair.{IsPair, in_part, rear}
use Rattle.group_planner.specs.Rows.{is_full_at, runs_of_row}
use Rattle.group_planner.specs.Runs.{IsNextRun, IsNoRun, runs_from}
use Rattle.group_planner.specs.Stamping.{CanStamp, Stamps, WritesRun}
use Rattle.group_planner.proofs.Worked.{spends_on}

both_parts : (p d m full o : Bool) → cond p full (cond (d && m) full o) ≡ cond (p || (d && m)) full o
both_parts true d m full o = refl
both_parts false d m full o = refl

-- ---- one row

-- the line of x and y up to z
abbrev pub up_to : ℕ → ℕ → ℕ → Coord → Bool
up_to x y z = in_part x y 0 z

-- a coordinate of the line
on_line : (m : Matrix) (x y : ℕ) (c : Coord) → (c.x == x) ≡ true → (c.y == y) ≡ true
    → is_full m c ≡ is_full_at m x y c.z
on_line m x y c ex ey = let same_x = equal_by_test c.x x ex in let same_y = equal_by_test c.y y ey in λ i. is_full m (record { x = same_x i; y = same_y i; z = c.z })

-- the written voxels after one run more
run_more : (m : Matrix) (x y z : ℕ) (run : RowRun) → IsNextRun m x y z run → (c : Coord)
    → (up_to x y run.end c && is_full m c) ≡ (in_part x y run.first run.end c || (up_to x y z c && is_full m c))
run_more m x y z run h c = by (c.x == x) (c.y == y) refl refl
  where
    full_z : (z' : ℕ) → z' ≡ c.z → (nat_le 0 z' && nat_lt z' run.end && is_full_at m x y z')
        ≡ ((nat_le run.first z' && nat_lt z' run.end) || (nat_le 0 z' && nat_lt z' z && is_full_at m x y z'))
    full_z z' e = zs (cases_lt z' z) (cases_lt z' run.first) (cases_lt z' run.end)
      where
        zs : (z' < z) ⊎ (z ≤ z') → (z' < run.first) ⊎ (run.first ≤ z') → (z' < run.end) ⊎ (run.end ≤ z')
            → (nat_le 0 z' && nat_lt z' run.end && is_full_at m x y z')
            ≡ ((nat_le run.first z' && nat_lt z' run.end) || (nat_le 0 z' && nat_lt z' z && is_full_at m x y z'))
        zs (inl a) b d = let low = h.low in let is_run_some = h.is_run.some in let e1 : nat_lt z' run.end ≡ true = grind (arith, nat_tests) in let e2 : nat_le run.first z' ≡ false = grind (arith, nat_tests) in let e3 : nat_lt z' z ≡ true = grind (arith, nat_tests) in rw (e1, e2, e3) refl
        zs (inr a) (inl b) d = let is_run_some = h.is_run.some in let void = h.void z' a b in let e1 : nat_lt z' run.end ≡ true = grind (arith, nat_tests) in let e2 : nat_le run.first z' ≡ false = grind (arith, nat_tests) in let e3 : nat_lt z' z ≡ false = grind (arith, nat_tests) in rw (void, e1, e2, e3) (ends (nat_le 0 z'))
          where
            ends : (s : Bool) → (s && true && false) ≡ (s && false && false)
            ends true = refl
            ends false = refl
        zs (inr a) (inr b) (inl d) = let full = h.is_run.full z' b d in let e0 : nat_le 0 z' ≡ true = grind (arith, nat_tests) in let e1 : nat_lt z' run.end ≡ true = grind (arith, nat_tests) in let e2 : nat_le run.first z' ≡ true = grind (arith, nat_tests) in rw (full, e0, e1, e2) refl
        zs (inr a) (inr b) (inr d) = let e1 : nat_lt z' run.end ≡ false = grind (arith, nat_tests) in let e3 : nat_lt z' z ≡ false = grind (arith, nat_tests) in rw (e1, e3) (none (nat_le 0 z') (nat_le run.first z') (is_full_at m x y z'))
          where
            none : (s t f : Bool) → (s && false && f) ≡ ((t && false) || (s && false && f))
            none s true f = refl
            none s false f = refl

    by : (s t : Bool) → (c.x == x) ≡ s → (c.y == y) ≡ t
        → (up_to x y run.end c && is_full m c) ≡ (in_part x y run.first run.end c || (up_to x y z c && is_full m c))
    by true true ex ey = rw (on_line m x y c ex ey, ex, ey) (shape (nat_le 0 c.z) (nat_lt c.z run.end) (nat_le run.first c.z) (nat_lt c.z z) (is_full_at m x y c.z) (full_z c.z refl))
      where
        shape : (a b d e f : Bool) → (a && b && f) ≡ ((d && b) || (a && e && f))
            → ((true && true && a && b) && f) ≡ ((true && true && d && b) || ((true && true && a && e) && f))
        shape true true true true f g = g
        shape true true true false f g = g
        shape true true false true f g = g
        shape true true false false f g = g
        shape true false d true f g = by_d d f g
          where
            by_d : (d f : Bool) → false ≡ ((d && false) || f) → false ≡ ((d && false) || f)
            by_d d f g = g
        shape true false d false f g = g
        shape false b d e f g = g
    by true false ex ey = rw (ex, ey) refl
    by false t ex ey = rw ex refl

-- the written voxels on the way back after one run more
run_before : (m : Matrix) (x y z : ℕ) (run : RowRun) → IsNextRun m x y z run → (c : Coord)
    → (in_part x y z m.resolution c && is_full m c)
    ≡ (in_part x y run.first run.end c || (in_part x y run.end m.resolution c && is_full m c))
run_before m x y z run h c = by (c.x == x) (c.y == y) refl refl
  where
    Along : ℕ → Type 0
    Along v = (nat_le z v && nat_lt v m.resolution && is_full_at m x y v) ≡ ((nat_le run.first v && nat_lt v run.end) || (nat_le run.end v && nat_lt v m.resolution && is_full_at m x y v))

    along : (v : ℕ) → (v < z) ⊎ (z ≤ v) → (v < run.first) ⊎ (run.first ≤ v) → (v < run.end) ⊎ (run.end ≤ v) → Along v
    along v (inl a) b d = let low = h.low in let is_run_some = h.is_run.some in let e1 : nat_le z v ≡ false = grind (arith, nat_tests) in let e2 : nat_le run.first v ≡ false = grind (arith, nat_tests) in let e3 : nat_le run.end v ≡ false = grind (arith, nat_tests) in rw (e1, e2, e3) refl
    along v (inr a) (inl b) d = let is_run_some = h.is_run.some in let void = h.void v a b in let e2 : nat_le run.first v ≡ false = grind (arith, nat_tests) in let e3 : nat_le run.end v ≡ false = grind (arith, nat_tests) in rw (void, e2, e3) (off (nat_le z v) (nat_lt v m.resolution))
      where
        off : (s t : Bool) → (s && t && false) ≡ false
        off true true = refl
        off true false = refl
        off false t = refl
    along v (inr a) (inr b) (inl d) = let within = h.is_run.within in let full = h.is_run.full v b d in let e1 : nat_le z v ≡ true = grind (arith, nat_tests) in let e2 : nat_le run.first v ≡ true = grind (arith, nat_tests) in let e3 : nat_lt v run.end ≡ true = grind (arith, nat_tests) in let e4 : nat_lt v m.resolution ≡ true = grind (arith, nat_tests) in rw (full, e1, e2, e3, e4) refl
    along v (inr a) (inr b) (inr d) = let e1 : nat_le z v ≡ true = grind (arith, nat_tests) in let e2 : nat_lt v run.end ≡ false = grind (arith, nat_tests) in let e3 : nat_le run.end v ≡ true = grind (arith, nat_tests) in rw (e1, e2, e3) (rest (nat_le run.first v) (nat_lt v m.resolution && is_full_at m x y v))
      where
        rest : (s t : Bool) → t ≡ ((s && false) || t)
        rest true t = refl
        rest false t = refl

    shape : (a b d e g f : Bool) → (a && b && f) ≡ ((d && e) || (g && b && f))
        → ((true && true && a && b) && f) ≡ ((true && true && d && e) || ((true && true && g && b) && f))
    shape true true d e true f h = h
    shape true true d e false f h = h
    shape true false d e true f h = h
    shape true false d e false f h = h
    shape false true d e true f h = h
    shape false true d e false f h = h
    shape false false d e true f h = h
    shape false false d e false f h = h

    by : (s t : Bool) → (c.x == x) ≡ s → (c.y == y) ≡ t → (in_part x y z m.resolution c && is_full m c)
        ≡ (in_part x y run.first run.end c || (in_part x y run.end m.resolution c && is_full m c))
    by true true ex ey = rw (on_line m x y c ex ey, ex, ey) (shape (nat_le z c.z) (nat_lt c.z m.resolution) (nat_le run.first c.z) (nat_lt c.z run.end) (nat_le run.end c.z) (is_full_at m x y c.z) (along c.z (cases_lt c.z z) (cases_lt c.z run.first) (cases_lt c.z run.end)))
    by true false ex ey = rw (ex, ey) refl
    by false t ex ey = rw ex refl

-- at first nothing is written
none_yet : (m : Matrix) (x y : ℕ) (c : Coord) → (up_to x y 0 c && is_full m c) ≡ false
none_yet m x y c = by (c.x == x) (c.y == y) (nat_le 0 c.z) (nat_lt c.z 0) (is_full m c) (grind (arith, nat_tests))
  where
    by : (s t u v w : Bool) → v ≡ false → ((s && t && u && v) && w) ≡ false
    by true true true v w e = rw e refl
    by true true false v w e = refl
    by true false u v w e = refl
    by false t u v w e = refl

-- after the last run all of the line is written
all_written : (m : Matrix) (x y z : ℕ) → IsNoRun m x y z → (c : Coord)
    → (is_in_line x y c && is_full m c) ≡ (up_to x y z c && is_full m c)
all_written m x y z h c = by (c.x == x) (c.y == y) refl refl (cases_lt c.z z) (cases_lt c.z m.resolution)
  where
    same : (u v w : Bool) → u ≡ true → v ≡ true → w ≡ (u && v && w)
    same u v w e f = rw (e, f) refl

    void : (u v w : Bool) → w ≡ false → w ≡ ((u && v) && w)
    void u v w e = e ∙ sym (all (u && v) w e)
      where
        all : (a b : Bool) → b ≡ false → (a && b) ≡ false
        all true b f = f
        all false b f = refl

    by : (s t : Bool) → (c.x == x) ≡ s → (c.y == y) ≡ t → (c.z < z) ⊎ (z ≤ c.z)
        → (c.z < m.resolution) ⊎ (m.resolution ≤ c.z)
        → (is_in_line x y c && is_full m c) ≡ (up_to x y z c && is_full m c)
    by true true ex ey (inl a) b = let e0 : nat_le 0 c.z ≡ true = grind (arith, nat_tests) in let e1 : nat_lt c.z z ≡ true = grind (arith, nat_tests) in rw (ex, ey, e0, e1) refl
    by true true ex ey (inr a) (inl b) = let on_line_here = on_line m x y c ex ey ∙ h.void c.z a b in rw (ex, ey) (void (nat_le 0 c.z) (nat_lt c.z z) (is_full m c) on_line_here)
    by true true ex ey (inr a) (inr b) = let void_past = void_past_z m c (past c.z m.resolution b) in rw (ex, ey) (void (nat_le 0 c.z) (nat_lt c.z z) (is_full m c) void_past)
      where
        past : (u r : ℕ) → r ≤ u → nat_lt u r ≡ false
        past u r l = grind (arith, nat_tests)
    by true false ex ey a b = rw (ex, ey) refl
    by false t ex ey a b = rw ex refl

-- ---- tapes

-- nothing is written
pub stamps_none : (a : TapeState) (m : Matrix) (full : Bool) (done : Coord → Bool) (n : ℕ) → IsPair a
    → ((c : Coord) → (done c && is_full m c) ≡ false) → Stamps a a m full done n
stamps_none a m full done n h e = record { source = refl; resolution = refl; stamped = λ c. rw (e c) refl; pair = h; spends = record { commands_are = omega arith; bytes_are = omega arith } }

pub stamps_start : (a : TapeState) (m : Matrix) (full : Bool) (x y n : ℕ) → IsPair a → Stamps a a m full (up_to x y 0) n
stamps_start a m full x y n h = stamps_none a m full (up_to x y 0) n h (none_yet m x y)

-- one run more
stamps_one : (a b c : TapeState) (m : Matrix) (full : Bool) (x y n : ℕ) (old new : Coord → Bool) (run : RowRun)
    → Stamps a b m full old n → WritesRun b c run.first run.end full → (rear b).x ≡ x → (rear b).y ≡ y + 1
    → ((d : Coord) → (new d && is_full m d) ≡ (in_part x y run.first run.end d || (old d && is_full m d)))
    → Stamps a c m full new (n + 1)
stamps_one a b c m full x y n old new run g w ex ey e =
    let y' : (rear b).y - 1 ≡ y = omega arith in
    record {
      source = w.source ∙ g.source;
      resolution = w.resolution ∙ g.resolution;
      stamped = λ d. w.set d ∙ ((λ i. cond (in_part (ex i) (y' i) run.first run.end d) full (g.stamped d i)) ∙ (both_parts (in_part x y run.first run.end d) (old d) (is_full m d) full (is_full a.matrix d) ∙ ap (λ t. cond t full (is_full a.matrix d)) (sym (e d))));
      pair = w.pair;
      spends = spends_on a b c n 1 (n + 1) g.spends w.spends (omega arith);
    }

pub stamps_run : (a b c : TapeState) (m : Matrix) (full : Bool) (x y z n : ℕ) (run : RowRun)
    → Stamps a b m full (up_to x y z) n → WritesRun b c run.first run.end full → (rear b).x ≡ x → (rear b).y ≡ y + 1
    → IsNextRun m x y z run → Stamps a c m full (up_to x y run.end) (n + 1)
stamps_run a b c m full x y z n run g w ex ey h = stamps_one a b c m full x y n (up_to x y z) (up_to x y run.end) run g w ex ey (run_more m x y z run h)

-- the same on the way back
pub stamps_run_back : (a b c : TapeState) (m : Matrix) (full : Bool) (x y z n : ℕ) (run : RowRun)
    → Stamps a b m full (in_part x y run.end m.resolution) n → WritesRun b c run.first run.end full → (rear b).x ≡ x
    → (rear b).y ≡ y + 1 → IsNextRun m x y z run → Stamps a c m full (in_part x y z m.resolution) (n + 1)
stamps_run_back a b c m full x y z n run g w ex ey h = stamps_one a b c m full x y n (in_part x y run.end m.resolution) (in_part x y z m.resolution) run g w ex ey (run_before m x y z run h)

-- the whole line
pub stamps_line : (a b : TapeState) (m : Matrix) (full : Bool) (x y z n k : ℕ) → Stamps a b m full (up_to x y z) n
    → IsNoRun m x y z → n ≤ k → Stamps a b m full (is_in_line x y) k
stamps_line a b m full x y z n k g h l = record {
  source = g.source;
  resolution = g.resolution;
  stamped = λ c. g.stamped c ∙ ap (λ t. cond t full (is_full a.matrix c)) (sym (all_written m x y z h c));
  pair = g.pair;
  spends = let spends_commands_are = g.spends.commands_are in let spends_bytes_are = g.spends.bytes_are in record { commands_are = spends_commands_are; bytes_are = omega arith };
}

-- the whole line, on the way back
pub stamps_line_back : (a b : TapeState) (m : Matrix) (full : Bool) (x y : ℕ)
    → Stamps a b m full (in_part x y 0 m.resolution) (runs_from m x y 0)
    → Stamps a b m full (is_in_line x y) (runs_of_row m x y)
stamps_line_back a b m full x y g = stamps_line a b m full x y m.resolution (runs_from m x y 0) (runs_of_row m x y) g (record { void = λ z l h. absurd (omega arith); none_more = refl }) (omega arith)

-- the same by another test with the same voxels
pub stamps_as : (a b : TapeState) (m : Matrix) (full : Bool) (done all : Coord → Bool) (n k : ℕ)
    → Stamps a b m full done n → ((c : Coord) → (all c && is_full m c) ≡ (done c && is_full m c)) → n ≤ k
    → Stamps a b m full all k
stamps_as a b m full done all n k g e l = record {
  source = g.source;
  resolution = g.resolution;
  stamped = λ c. g.stamped c ∙ ap (λ t. cond t full (is_full a.matrix c)) (sym (e c));
  pair = g.pair;
  spends = let spends_commands_are = g.spends.commands_are in let spends_bytes_are = g.spends.bytes_are in record { commands_are = spends_commands_are; bytes_are = omega arith };
}

joined : (l f m full o : Bool) → cond (l && m) full (cond (f && m) full o) ≡ cond ((l || f) && m) full o
joined true f true full o = refl
joined true true false full o = refl
joined true false false full o = refl
joined false f m full o = refl

-- one part after another
pub stamps_more : (a b c : TapeState) (m : Matrix) (full : Bool) (first last all : Coord → Bool) (n k most : ℕ)
    → Stamps a b m full first n → Stamps b c m full last k → ((d : Coord) → all d ≡ (last d || first d)) → n + k ≤ most
    → Stamps a c m full all most
stamps_more a b c m full first last all n k most g h e l = record {
  source = h.source ∙ g.source;
  resolution = h.resolution ∙ g.resolution;
  stamped = λ d. h.stamped d ∙ (ap (cond (last d && is_full m d) full) (g.stamped d) ∙ (joined (last d) (first d) (is_full m d) full (is_full a.matrix d) ∙ ap (λ t. cond (t && is_full m d) full (is_full a.matrix d)) (sym (e d))));
  pair = h.pair;
  spends = spends_on a b c n k most g.spends h.spends l;
}

-- void voxels that are not written are void afterwards
pub still_void : (a b : TapeState) (m : Matrix) (full : Bool) (done : Coord → Bool) (n height : ℕ)
    → Stamps a b m full done n → ((c : Coord) → height ≤ c.y → done c ≡ false) → IsVoidFrom a.matrix height
    → IsVoidFrom b.matrix height
still_void a b m full done n height g e v = λ c l. g.stamped c ∙ (ap (λ t. cond (t && is_full m c) full (is_full a.matrix c)) (e c l) ∙ v c l)

-- the layer can be written on
pub stamp_on : (a b : TapeState) (m : Matrix) (full : Bool) (done : Coord → Bool) (n y : ℕ) → CanStamp a m y
    → Stamps a b m full done n → ((c : Coord) → y + 1 ≤ c.y → done c ≡ false) → CanStamp b m y
stamp_on a b m full done n y h g e = record { pair = g.pair; same = h.same ∙ sym g.resolution; within = let within = h.within in let resolution = g.resolution in omega arith; above = still_void a b m full done n (y + 1) g e h.above }

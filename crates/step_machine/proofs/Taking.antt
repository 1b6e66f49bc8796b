-- The note of a step, and the undo by it.
use Rattle.std.proofs.Common.{◌≡◌, ◌≢◌, ℕ, ◌+◌, ◌*◌, ◌≤◌, refl, sym, ◌∙◌, ap, subst, inl, inr, ◌⊎◌, arith, List, ◌++◌, Bool, true, false, cond, ◌&&◌, ◌||◌, length, length-append, get_or}
use Rattle.std.specs.Prelude.{All, IsTrue, IsFalse, None, not}
use Rattle.std.specs.List.{AllPairs, Contains}
use Rattle.std.proofs.lemmas.List.Sums.{count_by-le-length}
use Rattle.vox_geom.specs.declared.coordinate.Coord.{Coord}
use Rattle.vox_geom.specs.Point.{point, same_point}
use Rattle.vox_geom.specs.Space.{IsInSpace}
use Rattle.vox_geom.proofs.Truths.{false_by, or_by_first, same_truth}
use Rattle.vox_geom.proofs.Points.{point_itself}
use Rattle.vox_planes.specs.Changes.{Changes}
use Rattle.vox_planes.specs.Voxel.{IsWhole}
use Rattle.vox_planes.proofs.Voxels.{same_point-is}
use Rattle.nano_spec.specs.declared.commands.Command.{Command}
use Rattle.nano_spec.specs.Act.{acts}
use Rattle.nano_spec.specs.Matrix.{Matrix, all_of, differ_at, is_full, matrix_where}
use Rattle.nano_spec.specs.Rules.{broken}
use Rattle.nano_spec.specs.State.{IsReady, IsWellFormed, State}
use Rattle.nano_spec.specs.Step.{after, is_filled, is_voided, matrix_after}
use Rattle.support_forest.specs.ForestView.{AreAdded, AreRemoved, MayAdd, MayRemove, ForestView}
use Rattle.support_forest.proofs.Counts.{length_coordinates}
use Rattle.system_state.specs.Painting.{is_cell, with_cells}
use Rattle.step_order.proofs.Facts.{IsGood, good_is}
use Rattle.step_order.proofs.Lists.{In, any_in, in_any, not_both, place_in}
use Rattle.step_order.proofs.Voxels.{as_it_is, full_where, matrix_same}
use Rattle.step_order.proofs.Turns.{held}
use Rattle.step_machine.specs.Edits.{edits_of}
use Rattle.step_machine.specs.Restoring.{IsTakenBackBy}
use Rattle.step_machine.specs.Situation.{IsEnergyBounded, IsConsistent, Situation}
use Rattle.step_machine.specs.Undoing.{HaveChanged, IsNote, IsUndoneBy, IsMachineState, MayUndo, matrix_before, state_before, without_filled}
use Rattle.step_machine.specs.declared.undo.Undo.{Undo}
use Rattle.step_machine.proofs.Apart.{holds, pairs_of}
use Rattle.step_machine.proofs.Changed.{cell_of, cells_apart, of_cell, one_way, state_void, void_state}
use Rattle.step_machine.proofs.Stepping.{seen}
use Rattle.step_machine.proofs.Working.{all_change}

-- ---- cells that a matrix gains and loses

pub among : (cells : List Coord) (d : Coord) → In d cells → is_cell cells d ≡ true
among cells d i = in_any (λ c. same_point (point d) (point c)) d cells i (point_itself d)

pub of_among : (cells : List Coord) (d : Coord) → is_cell cells d ≡ true → In d cells
of_among cells d h =
    let witness = any_in (λ c. same_point (point d) (point c)) cells h in
    subst (λ (c : Coord). In c cells) (sym (same_point-is d witness.0 witness.2)) witness.1

pub not_among : (cells : List Coord) (d : Coord) → (In d cells → ⊥) → is_cell cells d ≡ false
not_among cells d h = false_by (is_cell cells d) (λ e. h (of_among cells d e))

pub full_with : (m : Matrix) (cells : List Coord) (full : Bool) (d : Coord) → IsInSpace m.resolution d
    → is_full (with_cells m cells full) d ≡ cond (is_cell cells d) full (is_full m d)
full_with m cells full d w = full_where m.resolution (λ e. cond (is_cell cells e) full (is_full m e)) d w

pub removed_is : (old new : Matrix) (cells : List Coord) → AreRemoved old new cells → new ≡ with_cells old cells false
removed_is old new cells r =
    sym (as_it_is new r.whole)
    ∙ (ap (λ n. matrix_where n (is_full new)) r.resolution
    ∙ matrix_same old.resolution (is_full new) (λ d. cond (is_cell cells d) false (is_full old d)) (λ d w. by d (is_cell cells d) refl))
  where
    left : (d : Coord) → (In d cells → ⊥) → IsTrue (is_full new d) ⊎ Contains cells d → is_full new d ≡ true
    left d n (inl e) = e
    left d n (inr i) = absurd (n (held d cells i))

    by : (d : Coord) (b : Bool) → is_cell cells d ≡ b → is_full new d ≡ cond b false (is_full old d)
    by d true e = r.gone d (holds d cells (of_among cells d e))
    by d false e = same_truth (is_full new d) (is_full old d) (r.full d) (λ f. left d (λ i. not_both (among cells d i) e) (r.kept d f))

pub added_is : (old new : Matrix) (cells : List Coord) → AreAdded old new cells → new ≡ with_cells old cells true
added_is old new cells a =
    sym (as_it_is new a.whole)
    ∙ (ap (λ n. matrix_where n (is_full new)) a.resolution
    ∙ matrix_same old.resolution (is_full new) (λ d. cond (is_cell cells d) true (is_full old d)) (λ d w. by d (is_cell cells d) refl))
  where
    old_one : (d : Coord) → (In d cells → ⊥) → IsTrue (is_full old d) ⊎ Contains cells d → is_full old d ≡ true
    old_one d n (inl e) = e
    old_one d n (inr i) = absurd (n (held d cells i))

    by : (d : Coord) (b : Bool) → is_cell cells d ≡ b → is_full new d ≡ cond b true (is_full old d)
    by d true e = a.added d (holds d cells (of_among cells d e))
    by d false e = same_truth (is_full new d) (is_full old d) (λ f. old_one d (λ i. not_both (among cells d i) e) (a.full d f)) (a.kept d)

-- ---- the condition of an undo

in_each : {P : Coord → Type 0} (cells : List Coord) → ((c : Coord) → In c cells → P c) → All P cells
in_each cells h k d l = h (get_or cells k d) (place_in d cells k l)

pub of_each : (P : Coord → Type 0) (cells : List Coord) (c : Coord) → All P cells → Contains cells c → P c
of_each P cells c h i = subst P i.2 (h i.0 c i.1)

pub may_lose_back : (m n : Matrix) (undo : Undo) → m ≡ n → HaveChanged n undo → MayRemove m undo.filled.items
may_lose_back m n undo e h = subst (λ (x : Matrix). MayRemove x undo.filled.items) (sym e) (record {
  differ = h.filled_differ;
  full = λ c i. of_each (λ (d : Coord). IsTrue (is_full n d)) undo.filled.items c h.filled i;
})

pub may_gain_back : (m n : Matrix) (undo : Undo) → m ≡ n → HaveChanged n undo
    → MayAdd (without_filled m undo.filled.items) undo.voided.items
may_gain_back m n undo e h = subst (λ (x : Matrix). MayAdd (without_filled x undo.filled.items) undo.voided.items) (sym e) (record {
  differ = h.voided_differ;
  within = λ c i. of_each (λ (d : Coord). IsInSpace n.resolution d) undo.voided.items c h.voided_within i;
  void = λ c i. full_with n undo.filled.items false c (of_each (λ (d : Coord). IsInSpace n.resolution d) undo.voided.items c h.voided_within i) ∙ void_still (is_cell undo.filled.items c) (is_full n c) (of_each (λ (d : Coord). IsFalse (is_full n d)) undo.voided.items c h.voided i);
})
  where
    void_still : (b full : Bool) → full ≡ false → cond b false full ≡ false
    void_still true full f = refl
    void_still false full f = f

-- the machine's parts are consistent in the state of the note, if the machine is poisoned or its forest is that
-- state's
pub sound_restored : (s : State) (undo : Undo) (old : ForestView) (changed : Changes) (steps : ℕ) (spent : Bool)
    → IsConsistent s old changed steps spent → MayUndo s undo → (now : State) (new : ForestView) (spends : Bool)
    (filled voided : List Coord) → filled ≡ undo.filled.items → voided ≡ undo.voided.items → now ≡ state_before s undo
    → (spends ≡ false → spent ≡ false) → (spends ≡ false → new.spent ≡ false)
    → (spends ≡ false → new.matrix ≡ matrix_before old.matrix filled voided)
    → IsConsistent now new changed undo.steps spends
sound_restored s undo old changed steps spent sound may now new spends filled voided f u is was free tied = record {
  stands = free;
  tied = λ h. tied h ∙ ((λ i. matrix_before (sound.tied (was h) i) (f i) (u i)) ∙ ap (λ (x : State). x.matrix) (sym is));
  room = sound.room;
  seeds = subst (λ (x : State). x.profile.seeds ≤ 39) (sym is) may.before.seeds;
  paid = subst (λ (x : State). IsEnergyBounded x.energy undo.steps) (sym is) may.before.paid;
  few = may.before.few;
}

-- a machine may lose and gain the voxels of a note, as they are read from it
module _ (s : State) (undo : Undo) (old : ForestView) (changed : Changes) (steps : ℕ) (spent : Bool) (v : Situation) (sound : IsConsistent s old changed steps spent) (e : seen s steps spent ≡ v) (stands : v.spent ≡ false) (may : MayUndo v.state undo) where
  here : MayUndo s undo
  here = subst (λ (w : Situation). MayUndo w.state undo) (sym e) may

  unspent : spent ≡ false
  unspent = ap (λ (w : Situation). w.spent) e ∙ stands

  pub lose_slice : (filled : List Coord) → filled ≡ undo.filled.items → MayRemove old.matrix filled
  lose_slice filled f = subst (λ (xs : List Coord). MayRemove old.matrix xs) (sym f) (may_lose_back old.matrix s.matrix undo (sound.tied unspent) here.voxels)

  pub gain_slice : (filled voided : List Coord) → filled ≡ undo.filled.items → voided ≡ undo.voided.items
      → MayAdd (without_filled old.matrix filled) voided
  gain_slice filled voided f u =
      subst (λ (xs : List Coord). MayAdd (without_filled old.matrix xs) voided) (sym f)
      (subst (λ (ys : List Coord). MayAdd (without_filled old.matrix undo.filled.items) ys) (sym u) (may_gain_back old.matrix s.matrix undo (sound.tied unspent) here.voxels))

  -- the machine's parts are consistent again
  pub sound_back : (now : State) (new : ForestView) (filled voided : List Coord) → filled ≡ undo.filled.items
      → voided ≡ undo.voided.items → now ≡ state_before s undo → new.spent ≡ false
      → new.matrix ≡ matrix_before old.matrix filled voided → IsConsistent now new changed undo.steps spent
  sound_back now new filled voided f u is free tied = sound_restored s undo old changed steps spent sound here now new spent filled voided f u is (λ h. h) (λ _. free) (λ _. tied)

  pub value_back : (now : State) → now ≡ state_before s undo
      → seen now undo.steps spent ≡ seen (state_before v.state undo) undo.steps false
  value_back now is = (λ i. seen (is i) undo.steps (unspent i)) ∙ ap (λ (w : Situation). seen (state_before w.state undo) undo.steps false) e

  pub touches_back : (filled voided : List Coord) (began ended : ℕ) → filled ≡ undo.filled.items
      → voided ≡ undo.voided.items → IsUndoneBy old.matrix filled voided began ended
      → IsUndoneBy v.state.matrix undo.filled.items undo.voided.items began ended
  touches_back filled voided began ended f u h =
      subst (λ (w : Situation). IsUndoneBy w.state.matrix undo.filled.items undo.voided.items began ended) e
      (subst (λ (m : Matrix). IsUndoneBy m undo.filled.items undo.voided.items began ended) (sound.tied unspent)
      (subst (λ (xs : List Coord). IsUndoneBy old.matrix xs undo.voided.items began ended) f
      (subst (λ (ys : List Coord). IsUndoneBy old.matrix filled ys began ended) u h)))

-- ---- the note of a step

module _ (s : State) (commands : List Command) (step : ℕ) (ready : IsReady s) (keeps : broken s commands step ≡ None) where
  good : IsGood s (acts s.bots commands)
  good = good_is s commands step ready keeps

  -- a bound on the voxels that change
  pub few_change : IsWhole s.matrix → length (edits_of s commands true ++ edits_of s commands false) ≤ 64000000
  few_change whole =
      let length_is = length-append (edits_of s commands true) (edits_of s commands false) in
      let changes_bound = all_change s commands step ready keeps in
      let le = count_by-le-length (differ_at s.matrix (matrix_after s.matrix (acts s.bots commands))) (all_of s.matrix) in
      let coordinates_count = length_coordinates s.matrix.resolution in
      let most = cube s.matrix.resolution whole.most in
      omega (arith, length_is, changes_bound, le, coordinates_count, most)
    where
      cube : (r : ℕ) → r ≤ 400 → r * r * r ≤ 64000000
      cube r h = grind (arith)

  module _ (t : State) (undo : Undo) (is : t ≡ after s commands) (h : IsNote s commands step undo) where
    filled_cell : (c : Coord) → In c undo.filled.items → In c (edits_of s commands false)
    filled_cell c i = subst (λ (xs : List Coord). In c xs) h.filled i

    voided_cell : (c : Coord) → In c undo.voided.items → In c (edits_of s commands true)
    voided_cell c i = subst (λ (xs : List Coord). In c xs) h.voided i

    now : (c : Coord) → IsInSpace s.matrix.resolution c → is_full (after s commands).matrix c
        ≡ (is_filled (acts s.bots commands) c || (is_full s.matrix c && not (is_voided (acts s.bots commands) c)))
    now c w = full_where s.matrix.resolution (λ d. is_filled (acts s.bots commands) d || (is_full s.matrix d && not (is_voided (acts s.bots commands) d))) c w

    voided_gone : (f u v : Bool) → (f ≡ true → ⊥) → v ≡ true → (f || (u && not v)) ≡ false
    voided_gone true u v n e = absurd (n refl)
    voided_gone false true true n e = refl
    voided_gone false false true n e = refl
    voided_gone false u false n e = cc

    have_changed : HaveChanged (after s commands).matrix undo
    have_changed = record {
      filled_within = in_each undo.filled.items (λ c i. (cell_of s (acts s.bots commands) good false c (filled_cell c i)).0);
      voided_within = in_each undo.voided.items (λ c i. (cell_of s (acts s.bots commands) good true c (voided_cell c i)).0);
      filled_differ = subst (λ (xs : List Coord). AllPairs ◌≢◌ xs) (sym h.filled) (pairs_of (edits_of s commands false) (cells_apart s (acts s.bots commands) good false));
      voided_differ = subst (λ (xs : List Coord). AllPairs ◌≢◌ xs) (sym h.voided) (pairs_of (edits_of s commands true) (cells_apart s (acts s.bots commands) good true));
      filled = in_each undo.filled.items (λ c i.
          let cell_facts = cell_of s (acts s.bots commands) good false c (filled_cell c i) in
          now c cell_facts.0 ∙ or_by_first (is_filled (acts s.bots commands) c) (is_full s.matrix c && not (is_voided (acts s.bots commands) c)) cell_facts.2);
      voided = in_each undo.voided.items (λ c i.
          let cell_facts = cell_of s (acts s.bots commands) good true c (voided_cell c i) in
          now c cell_facts.0 ∙ voided_gone (is_filled (acts s.bots commands) c) (is_full s.matrix c) (is_voided (acts s.bots commands) c) (λ f. one_way s (acts s.bots commands) good c cell_facts.0 cell_facts.2 f) cell_facts.2);
    }

    pub note_holds : HaveChanged t.matrix undo
    note_holds = subst (λ (x : State). HaveChanged x.matrix undo) (sym is) have_changed

    -- a filled voxel is in space, and was void
    pub filled_within : (c : Coord) → In c undo.filled.items → IsInSpace s.matrix.resolution c
    filled_within c i = (cell_of s (acts s.bots commands) good false c (filled_cell c i)).0

    pub filled_before : (c : Coord) → In c undo.filled.items → is_full s.matrix c ≡ false
    filled_before c i = void_state s (acts s.bots commands) good c (cell_of s (acts s.bots commands) good false c (filled_cell c i)).1

    -- no other voxel has changed
    pub others_stay : (d : Coord) → IsInSpace s.matrix.resolution d → (In d undo.filled.items → ⊥)
        → (In d undo.voided.items → ⊥) → is_full (after s commands).matrix d ≡ is_full s.matrix d
    others_stay d w nf nv = now d w ∙ by (is_full s.matrix d) refl
      where
        not_filled : is_full s.matrix d ≡ false → is_filled (acts s.bots commands) d ≡ false
        not_filled e = false_by (is_filled (acts s.bots commands) d) (λ f. nf (subst (λ (xs : List Coord). In d xs) (sym h.filled) (of_cell s (acts s.bots commands) good false d w (state_void s (acts s.bots commands) good d e) f)))

        not_voided : is_full s.matrix d ≡ true → is_voided (acts s.bots commands) d ≡ false
        not_voided e = false_by (is_voided (acts s.bots commands) d) (λ f. nv (subst (λ (xs : List Coord). In d xs) (sym h.voided) (of_cell s (acts s.bots commands) good true d w e f)))

        stays : (f v : Bool) → v ≡ false → (f || (true && not v)) ≡ true
        stays true false e = refl
        stays false false e = refl
        stays f true e = cc

        by : (b : Bool) → is_full s.matrix d ≡ b
            → (is_filled (acts s.bots commands) d || (b && not (is_voided (acts s.bots commands) d))) ≡ b
        by true e = stays (is_filled (acts s.bots commands) d) (is_voided (acts s.bots commands) d) (not_voided e)
        by false e = ap (λ f. f || false) (not_filled e)

    voxel_back : (d : Coord) → IsInSpace s.matrix.resolution d → cond (is_cell undo.voided.items d) true
        (is_full (without_filled (after s commands).matrix undo.filled.items) d) ≡ is_full s.matrix d
    voxel_back d w = by (is_cell undo.voided.items d) (is_cell undo.filled.items d) refl refl
      where
        by : (v f : Bool) → is_cell undo.voided.items d ≡ v → is_cell undo.filled.items d ≡ f
            → cond v true (is_full (without_filled (after s commands).matrix undo.filled.items) d) ≡ is_full s.matrix d
        by true f e k = sym (cell_of s (acts s.bots commands) good true d (voided_cell d (of_among undo.voided.items d e))).1
        by false true e k =
            full_with (after s commands).matrix undo.filled.items false d w
            ∙ (ap (λ b. cond b false (is_full (after s commands).matrix d)) k
            ∙ sym (void_state s (acts s.bots commands) good d (cell_of s (acts s.bots commands) good false d (filled_cell d (of_among undo.filled.items d k))).1))
        by false false e k =
            full_with (after s commands).matrix undo.filled.items false d w
            ∙ (ap (λ b. cond b false (is_full (after s commands).matrix d)) k
            ∙ others_stay d w (λ i. not_both (among undo.filled.items d i) k) (λ i. not_both (among undo.voided.items d i) e))

    pub matrix_is_back : matrix_before (after s commands).matrix undo.filled.items undo.voided.items ≡ s.matrix
    matrix_is_back =
        matrix_same s.matrix.resolution (λ d. cond (is_cell undo.voided.items d) true (is_full (without_filled (after s commands).matrix undo.filled.items) d)) (is_full s.matrix) voxel_back
        ∙ as_it_is s.matrix ready.whole

    pub state_is_back : state_before t undo ≡ s
    state_is_back = ap (λ (x : State). state_before x undo) is ∙ (λ i. record { matrix = matrix_is_back i; harmonics = h.harmonics i; bots = h.crew i; energy = h.energy i; profile = s.profile })

    -- a machine in a well-formed state may undo the step
    pub may_undo : s.profile.seeds ≤ 39 → undo.steps ≤ 1073741824 → IsEnergyBounded s.energy undo.steps → IsWellFormed s
        → MayUndo t undo
    may_undo seeds few paid formed = record {
      voxels = note_holds;
      before = subst (λ (x : State). IsMachineState x undo.steps) (sym state_is_back) (record { well_formed = formed; within = ready.within; seeds = seeds; few = few; paid = paid });
    }

    -- the same for a machine
    pub note_may_undo : (old : ForestView) (changed : Changes) (steps : ℕ) (spent : Bool) (v : Situation)
        → IsConsistent s old changed steps spent → seen s steps spent ≡ v → undo.steps + 1 ≡ steps + 1
        → IsWellFormed v.state → MayUndo t undo
    note_may_undo old changed steps spent v sound e counted formed =
        let same : undo.steps ≡ steps = omega arith in
        may_undo sound.seeds (subst (λ (n : ℕ). n ≤ 1073741824) (sym same) sound.few) (subst (λ (n : ℕ). IsEnergyBounded s.energy n) (sym same) sound.paid) (subst (λ (w : Situation). IsWellFormed w.state) (sym e) formed)

    -- the forest of the state after the step may lose and gain the voxels of the note, which leads back
    pub lose_noted : (m : Matrix) → m ≡ t.matrix → (filled : List Coord) → filled ≡ undo.filled.items
        → MayRemove m filled
    lose_noted m tied filled f = subst (λ (xs : List Coord). MayRemove m xs) (sym f) (may_lose_back m t.matrix undo tied note_holds)

    pub gain_noted : (m : Matrix) → m ≡ t.matrix → (filled voided : List Coord) → filled ≡ undo.filled.items
        → voided ≡ undo.voided.items → MayAdd (without_filled m filled) voided
    gain_noted m tied filled voided f u =
        subst (λ (xs : List Coord). MayAdd (without_filled m xs) voided) (sym f)
        (subst (λ (ys : List Coord). MayAdd (without_filled m undo.filled.items) ys) (sym u) (may_gain_back m t.matrix undo tied note_holds))

    pub noted_back : (m now : Matrix) → m ≡ t.matrix → (filled voided : List Coord) → filled ≡ undo.filled.items
        → voided ≡ undo.voided.items → now ≡ matrix_before m filled voided → now ≡ s.matrix
    noted_back m now tied filled voided f u back =
        back
        ∙ ((λ i. matrix_before (tied i) (f i) (u i))
        ∙ (ap (λ (x : State). matrix_before x.matrix undo.filled.items undo.voided.items) is ∙ matrix_is_back))

    pub noted_touches : (m : Matrix) → m ≡ t.matrix → (filled voided : List Coord) (began ended : ℕ)
        → filled ≡ undo.filled.items → voided ≡ undo.voided.items → IsUndoneBy m filled voided began ended
        → IsTakenBackBy s commands began ended
    noted_touches m tied filled voided began ended f u back =
        subst (λ (x : Matrix). IsUndoneBy x (edits_of s commands false) (edits_of s commands true) began ended) (tied ∙ ap (λ (x : State). x.matrix) is)
        (subst (λ (xs : List Coord). IsUndoneBy m xs (edits_of s commands true) began ended) (f ∙ h.filled)
        (subst (λ (ys : List Coord). IsUndoneBy m filled ys began ended) (u ∙ h.voided) back))

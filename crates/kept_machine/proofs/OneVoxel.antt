-- The number of voxels that the only bot changes when it fills or voids one.
use Rattle.std.proofs.Common.{◌≡◌, ℕ, refl, sym, ◌∙◌, ap, subst, inl, inr, ◌⊎◌, List, [], ◌∷◌, Bool, true, false, cond, not, ◌&&◌, ◌||◌, length}
use Rattle.std.proofs.lemmas.List.Sums.{length-filter}
use Rattle.vox_geom.specs.declared.coordinate.Coord.{Coord}
use Rattle.vox_geom.specs.Point.{plus, point, same_point}
use Rattle.vox_geom.specs.Space.{IsInSpace, coordinate, in_space}
use Rattle.vox_geom.proofs.Points.{space_by_test}
use Rattle.vox_geom.proofs.Truths.{false_by}
use Rattle.vox_planes.specs.Voxel.{with_voxel}
use Rattle.vox_planes.proofs.Voxels.{same_point-is}
use Rattle.nano_spec.specs.declared.commands.Command.{Command}
use Rattle.nano_spec.specs.declared.commands.Command.TheVariants.{Fill, Void}
use Rattle.nano_spec.specs.Act.{acts}
use Rattle.nano_spec.specs.Matrix.{Matrix, all_of, differ_at, is_full}
use Rattle.nano_spec.specs.Next.{Goes, Next}
use Rattle.nano_spec.specs.State.{State}
use Rattle.nano_spec.specs.Step.{matrix_after}
use Rattle.nano_spec.proofs.Accepted.{accepted_step}
use Rattle.system_state.proofs.OnlyBot.{matrix_filled, matrix_voided, of_point}
use Rattle.system_state.proofs.Single.{only_one}
use Rattle.step_order.proofs.Voxels.{full_where}
use Rattle.kept_machine.specs.Calls.{Tells, difference_count}
use Rattle.kept_machine.specs.OneVoxel.{IsOnlyVoxel, one_if_apart}
use Rattle.kept_machine.specs.declared.done.StepDone.{StepDone}
use Rattle.kept_machine.proofs.Changing.{none_differs}

-- ---- a matrix with one voxel changed

module _ (m : Matrix) (c : Coord) (full : Bool) where
  abbrev changed : Matrix
  changed = with_voxel m c full

  outside : (d : Coord) → in_space m.resolution (point d) ≡ false → differ_at m changed d ≡ false
  outside d e = rw e refl

  inside : (d : Coord) → (d ≡ c → ⊥) → in_space m.resolution (point d) ≡ true → differ_at m changed d ≡ false
  inside d other e =
      let apart : same_point (point d) (point c) ≡ false = false_by (same_point (point d) (point c)) (λ f. other (same_point-is d c f)) in
      let read : is_full changed d ≡ is_full m d =
      full_where m.resolution (λ x. cond (same_point (point x) (point c)) full (is_full m x)) d (space_by_test m.resolution d e)
      ∙ ap (λ b. cond b full (is_full m d)) apart in
      ap (λ b. (is_full m d && not b) || (b && not (is_full m d))) read ∙ none_differs (is_full m d)

  elsewhere : (d : Coord) → (d ≡ c → ⊥) → differ_at m changed d ≡ false
  elsewhere d other = by (in_space m.resolution (point d)) refl
    where
      by : (b : Bool) → in_space m.resolution (point d) ≡ b → differ_at m changed d ≡ false
      by true e = inside d other e
      by false e = outside d e

  listed : (b : Bool) → length (cond b (c ∷ []) []) ≡ cond b 1 0
  listed true = refl
  listed false = refl

  pub one_changed : IsInSpace m.resolution c
      → difference_count m (with_voxel m c full) ≡ one_if_apart (is_full m c) (is_full (with_voxel m c full) c)
  one_changed s =
      sym (length-filter (differ_at m changed) (all_of m))
      ∙ (ap length (only_one m.resolution (differ_at m changed) c s elsewhere) ∙ listed (differ_at m changed c))

-- ---- the step of the only bot

-- the result of the step
record IsOneSet (old new : Matrix) (c : Coord) : Type 0 where
  full : Bool
  within : IsInSpace old.resolution c
  is : new ≡ with_voxel old c full

one_set : (s : State) (commands : List Command) (c : Coord) → IsOnlyVoxel s commands c
    → IsOneSet s.matrix (matrix_after s.matrix (acts s.bots commands)) c
one_set s commands c one = by one.edits
  where
    there : coordinate (plus (point one.bot.pos) one.towards) ≡ c
    there = ap coordinate (sym one.there)

    within : IsInSpace s.matrix.resolution c
    within = subst (λ (d : Coord). IsInSpace s.matrix.resolution d) there (of_point s.matrix.resolution (plus (point one.bot.pos) one.towards) one.within).1

    by : (commands ≡ Fill one.towards ∷ []) ⊎ (commands ≡ Void one.towards ∷ [])
        → IsOneSet s.matrix (matrix_after s.matrix (acts s.bots commands)) c
    by (inl e) = record {
      full = true;
      within = within;
      is =
          (λ i. matrix_after s.matrix (acts (one.alone i) (e i)))
          ∙ (matrix_filled s.matrix one.bot one.towards one.within ∙ ap (λ (d : Coord). with_voxel s.matrix d true) there);
    }
    by (inr e) = record {
      full = false;
      within = within;
      is =
          (λ i. matrix_after s.matrix (acts (one.alone i) (e i)))
          ∙ (matrix_voided s.matrix one.bot one.towards one.within ∙ ap (λ (d : Coord). with_voxel s.matrix d false) there);
    }

-- the step changed the voxel, or none
pub record IsOneChanged (s t : State) (c : Coord) : Type 0 where
  pub within : IsInSpace t.matrix.resolution c
  pub counted : difference_count s.matrix t.matrix ≡ one_if_apart (is_full s.matrix c) (is_full t.matrix c)

pub one_step : (s t : State) (commands : List Command) (step : ℕ) (c : Coord) → IsOnlyVoxel s commands c
    → Next s commands step (Goes t) → IsOneChanged s t c
one_step s t commands step c one goes =
    let set = one_set s commands c one in
    let accepted = accepted_step s t commands step goes in
    let is : t.matrix ≡ with_voxel s.matrix c set.full = ap (λ (u : State). u.matrix) accepted.is ∙ set.is in
    record {
      within = subst (λ (m : Matrix). IsInSpace m.resolution c) (sym is) set.within;
      counted = subst (λ (m : Matrix). difference_count s.matrix m ≡ one_if_apart (is_full s.matrix c) (is_full m c)) (sym is) (one_changed s.matrix c set.full set.within);
    }

-- the outcome of the step
pub told_one : (v w : State) (commands : List Command) (step : ℕ) (c : Coord) (m n : Matrix) (before after : Bool)
    (count : ℕ) (made : StepDone) → IsOnlyVoxel v commands c → Next v commands step (Goes w) → made.energy ≡ w.energy
    → made.harmonics ≡ w.harmonics → made.active ≡ length w.bots → made.changed ≡ count
    → count ≡ one_if_apart before after → before ≡ is_full m c → m ≡ v.matrix → after ≡ is_full n c → n ≡ w.matrix
    → Tells v w made
told_one v w commands step c m n before after count made one goes energy harmonics active counted is was first full last =
    let changed = one_step v w commands step c one goes in
    record {
      energy = energy;
      harmonics = harmonics;
      active = active;
      changed =
          counted
          ∙ (is
          ∙ ((λ i. one_if_apart (was i) (full i))
          ∙ ((λ i. one_if_apart (is_full (first i) c) (is_full (last i) c)) ∙ sym changed.counted)));
    }

pub within_first : (s : State) (commands : List Command) (c : Coord) → IsOnlyVoxel s commands c
    → IsInSpace s.matrix.resolution c
within_first s commands c one = let set = one_set s commands c one in set.within

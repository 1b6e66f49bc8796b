-- A step that fills one voxel and changes no other: if none floated before, only that one can.
use Rattle.std.proofs.Common.{◌≡◌, ◌⊎◌, inl, inr, ℕ, refl, sym, ◌∙◌, ap, subst, List, [], ◌∷◌, Bool, true, false, ◌&&◌, ◌==◌, length}
use Rattle.std.specs.Prelude.{◌↔◌, IfSome, IsTrue, None, Option, Some}
use Rattle.vox_geom.specs.declared.coordinate.Coord.{Coord}
use Rattle.vox_geom.specs.Point.{are_adjacent, point}
use Rattle.vox_geom.specs.Space.{IsInSpace, in_space}
use Rattle.vox_geom.proofs.Truths.{first_of_two, second_of_two}
use Rattle.vox_geom.proofs.Points.{same_or_not, space_by_test}
use Rattle.nano_spec.specs.declared.commands.Command.{Command}
use Rattle.nano_spec.specs.First.{FirstFailing}
use Rattle.nano_spec.specs.Grounded.{FirstUngrounded, Grounded, begins_at, is_path}
use Rattle.nano_spec.specs.Matrix.{Matrix, all_of, is_full}
use Rattle.nano_spec.specs.Rules.{broken}
use Rattle.nano_spec.specs.State.{IsReady, State}
use Rattle.nano_spec.specs.Step.{after}
use Rattle.nano_spec.proofs.EmptyModel.{all_hold}
use Rattle.step_order.proofs.Lists.{In, not_both}
use Rattle.step_order.proofs.Voxels.{in_coordinates}
use Rattle.step_machine.specs.Settling.{FloatsAtMost}
use Rattle.step_machine.specs.Undoing.{IsNote}
use Rattle.step_machine.specs.declared.undo.Undo.{Undo}
use Rattle.step_machine.proofs.Reaching.{IsHeldUp, held_or_not}
use Rattle.step_machine.proofs.Taking.{filled_before, filled_within, others_stay}

-- ---- lists with one failing element

of_none : (P : Coord → Type 0) (xs : List Coord) → FirstFailing P xs None → (c : Coord) → In c xs → P c
of_none P [] h c i = absurd i
of_none P (x ∷ xs) h c (inl e) = subst P (sym e) h.0
of_none P (x ∷ xs) h c (inr i) = of_none P xs h.1 c i

first_is : (P : Coord → Type 0) (c : Coord) → ((d : Coord) → (d ≡ c → ⊥) → P d) → (P c → ⊥) → (xs : List Coord)
    → In c xs → FirstFailing P xs (Some c)
first_is P c others fails [] i = absurd i
first_is P c others fails (x ∷ xs) i = by (same_or_not x c) i (first_is P c others fails xs)
  where
    by : (x ≡ c) ⊎ (x ≡ c → ⊥) → In c (x ∷ xs) → (In c xs → FirstFailing P xs (Some c))
        → FirstFailing P (x ∷ xs) (Some c)
    by (inl e) j later = inl (λ p. fails (subst P e p), sym e)
    by (inr u) (inl e) later = absurd (u (sym e))
    by (inr u) (inr j) later = inr (others x u, later j)

-- ---- if more is full, what was grounded still is

module _ (m n : Matrix) (more : (d : Coord) → IsTrue (is_full m d) → IsTrue (is_full n d)) where
  both : (a b : Bool) → IsTrue a → IsTrue b → IsTrue (a && b)
  both true b e f = f
  both false b e f = cc

  path_on : (a : Coord) (path : List Coord) → IsTrue (is_path m (a ∷ path)) → IsTrue (is_path n (a ∷ path))
  path_on a [] p = both (is_full n a) (a.y == 0) (more a (first_of_two (is_full m a) (a.y == 0) p)) (second_of_two (is_full m a) (a.y == 0) p)
  path_on a (b ∷ path) p =
      let front = first_of_two (is_full m a && are_adjacent a b) (is_path m (b ∷ path)) p in
      both (is_full n a && are_adjacent a b) (is_path n (b ∷ path))
      (both (is_full n a) (are_adjacent a b) (more a (first_of_two (is_full m a) (are_adjacent a b) front)) (second_of_two (is_full m a) (are_adjacent a b) front))
      (path_on b path (second_of_two (is_full m a && are_adjacent a b) (is_path m (b ∷ path)) p))

  grounded_on : (c : Coord) → Grounded m c → Grounded n c
  grounded_on c ([], h) = cc
  grounded_on c (a ∷ path, h) =
      let begins = first_of_two (begins_at c (a ∷ path)) (is_path m (a ∷ path)) h in
      (a ∷ path, both (begins_at c (a ∷ path)) (is_path n (a ∷ path)) begins (path_on a path (second_of_two (begins_at c (a ∷ path)) (is_path m (a ∷ path)) h)))

-- ---- the step

-- a full voxel is in space, and among all
placed : (m : Matrix) (c : Coord) → IsTrue (is_full m c) → IsInSpace m.resolution c × In c (all_of m)
placed m c f =
    let space = space_by_test m.resolution c (first_of_two (in_space m.resolution (point c)) _ f) in
    (space, in_coordinates m.resolution c space)

module _ (s : State) (commands : List Command) (step : ℕ) (ready : IsReady s) (keeps : broken s commands step ≡ None) (undo : Undo) (h : IsNote s commands step undo)
    (c : Coord) (filled : undo.filled.items ≡ c ∷ []) (voided : undo.voided.items ≡ []) (none : FirstUngrounded s.matrix None) where
  stays : (d : Coord) → IsInSpace s.matrix.resolution d → (d ≡ c → ⊥)
      → is_full (after s commands).matrix d ≡ is_full s.matrix d
  stays d w u =
      others_stay s commands step ready keeps (after s commands) undo refl h d w
      (λ i. only (subst (λ (xs : List Coord). In d xs) filled i)) (λ i. absurd (subst (λ (xs : List Coord). In d xs) voided i))
    where
      only : In d (c ∷ []) → ⊥
      only (inl e) = u e
      only (inr i) = absurd i

  was_void : is_full s.matrix c ≡ false
  was_void = filled_before s commands step ready keeps (after s commands) undo refl h c (subst (λ (xs : List Coord). In c xs) (sym filled) (inl refl))

  more : (d : Coord) → IsTrue (is_full s.matrix d) → IsTrue (is_full (after s commands).matrix d)
  more d f = by (same_or_not d c)
    where
      by : (d ≡ c) ⊎ (d ≡ c → ⊥) → IsTrue (is_full (after s commands).matrix d)
      by (inl e) = absurd (not_both f (ap (is_full s.matrix) e ∙ was_void))
      by (inr u) = stays d (placed s.matrix d f).0 u ∙ f

  others_held : (d : Coord) → (d ≡ c → ⊥) → IsHeldUp (after s commands).matrix d
  others_held d u f =
      let at = placed (after s commands).matrix d f in
      let full = sym (stays d at.0 u) ∙ f in
      grounded_on s.matrix (after s commands).matrix more d (of_none (IsHeldUp s.matrix) (all_of s.matrix) none d at.1 full)

  pub only_floats : FloatsAtMost (after s commands).matrix c
  only_floats = by (held_or_not (after s commands).matrix c)
    where
      all_held : IsHeldUp (after s commands).matrix c → (d : Coord) → IsHeldUp (after s commands).matrix d
      all_held p d = which (same_or_not d c)
        where
          which : (d ≡ c) ⊎ (d ≡ c → ⊥) → IsHeldUp (after s commands).matrix d
          which (inl e) = subst (IsHeldUp (after s commands).matrix) (sym e) p
          which (inr u) = others_held d u

      here : In c (all_of (after s commands).matrix)
      here = in_coordinates s.matrix.resolution c (filled_within s commands step ready keeps (after s commands) undo refl h c (subst (λ (xs : List Coord). In c xs) (sym filled) (inl refl)))

      by : IsHeldUp (after s commands).matrix c ⊎ (IsHeldUp (after s commands).matrix c → ⊥)
          → FloatsAtMost (after s commands).matrix c
      by (inl p) = inl (all_hold (IsHeldUp (after s commands).matrix) (all_of (after s commands).matrix) (all_held p))
      by (inr n) = inr (first_is (IsHeldUp (after s commands).matrix) c others_held n (all_of (after s commands).matrix) here)

-- the same of a voxel that may be known, and of the forest of the state after the step
pub least_floats : (s : State) (commands : List Command) (step : ℕ) → IsReady s → broken s commands step ≡ None
    → (undo : Undo) → IsNote s commands step undo → (m n : Matrix) → m ≡ s.matrix → n ≡ (after s commands).matrix
    → (floating : ℕ) → (floating ≡ 0 ↔ FirstUngrounded m None) → (least : Option Coord)
    → IfSome least (λ c. undo.filled.items ≡ c ∷ []) → IfSome least (λ _. undo.voided.items ≡ [])
    → IfSome least (λ _. floating ≡ 0) → IfSome least (FloatsAtMost n)
least_floats s commands step ready keeps undo h m n before after_them floating none None filled voided zero = tt
least_floats s commands step ready keeps undo h m n before after_them floating none (Some c) filled voided zero =
    subst (λ (x : Matrix). FloatsAtMost x c) (sym after_them)
    (only_floats s commands step ready keeps undo h c filled voided (subst (λ (x : Matrix). FirstUngrounded x None) before (none.0 zero)))

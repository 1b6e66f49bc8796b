-- Filling a voxel on the floor, or next to a full one, keeps all grounded.
use Rattle.std.proofs.Common.{◌≡◌, ◌⊎◌, inl, inr, ℕ, refl, sym, ◌∙◌, ap, subst, List, [], ◌∷◌, Bool, true, false, cond, ◌&&◌, ◌==◌}
use Rattle.std.specs.Prelude.{IsTrue, None}
use Rattle.vox_geom.specs.declared.coordinate.Coord.{Coord}
use Rattle.vox_geom.specs.Point.{are_adjacent, point, same_point}
use Rattle.vox_geom.specs.Space.{IsInSpace, in_space}
use Rattle.vox_geom.proofs.Truths.{first_of_two, no_first, second_of_two}
use Rattle.vox_geom.proofs.Points.{coordinate_by_test, point_itself, same_or_not, space_by_test}
use Rattle.nano_spec.specs.First.{FirstFailing}
use Rattle.nano_spec.specs.Grounded.{FirstUngrounded, Grounded, begins_at, is_path}
use Rattle.nano_spec.specs.Matrix.{Matrix, all_of, empty, is_full}
use Rattle.nano_spec.proofs.ForgeLegal.{on_floor, one_more}
use Rattle.step_order.proofs.Lists.{In}
use Rattle.step_order.proofs.Voxels.{full_where, in_coordinates}
use Rattle.vox_planes.specs.Voxel.{with_voxel}
use Rattle.low_planner.specs.Build.{IsCarried}
use Rattle.low_planner.specs.Supported.{FirstUnsupported, IsSupported}
use Rattle.plan_tape.proofs.LegalModels.{empty_is_void, full_within}

-- ---- facts of each voxel

holds_of_each : {A : Type 0} (P : A → Type 0) (xs : List A) (x : A) → FirstFailing P xs None → In x xs → P x
holds_of_each P [] x h i = absurd i
holds_of_each P (y ∷ ys) x h (inl e) = subst P (sym e) h.0
holds_of_each P (y ∷ ys) x h (inr i) = holds_of_each P ys x h.1 i

each_holds : {A : Type 0} (P : A → Type 0) (xs : List A) → ((x : A) → P x) → FirstFailing P xs None
each_holds P [] h = tt
each_holds P (x ∷ xs) h = (h x, each_holds P xs h)

pub is_grounded : (m : Matrix) (c : Coord) → FirstUngrounded m None → IsTrue (is_full m c) → Grounded m c
is_grounded m c h f = holds_of_each (λ d. IsTrue (is_full m d) → Grounded m d) (all_of m) c h (in_coordinates m.resolution c (full_within m c f)) f

pub is_supported : (m : Matrix) (c : Coord) → FirstUnsupported m None → IsTrue (is_full m c) → IsSupported m c
is_supported m c h f = holds_of_each (λ d. IsTrue (is_full m d) → IsSupported m d) (all_of m) c h (in_coordinates m.resolution c (full_within m c f)) f

-- ---- one voxel more

differ : (d c : Coord) → (d ≡ c → ⊥) → same_point (point d) (point c) ≡ false
differ d c n = by (same_point (point d) (point c)) refl
  where
    by : (b : Bool) → same_point (point d) (point c) ≡ b → b ≡ false
    by false e = refl
    by true e = absurd (n (coordinate_by_test d c e))

pub set_here : (m : Matrix) (c : Coord) (b : Bool) → IsInSpace m.resolution c → is_full (with_voxel m c b) c ≡ b
set_here m c b i = full_where m.resolution (λ d. cond (same_point (point d) (point c)) b (is_full m d)) c i ∙ ap (λ t. cond t b (is_full m c)) (point_itself c)

pub set_other : (m : Matrix) (c d : Coord) (b : Bool) → (d ≡ c → ⊥) → is_full (with_voxel m c b) d ≡ is_full m d
set_other m c d b n = by (in_space m.resolution (point d)) refl
  where
    by : (s : Bool) → in_space m.resolution (point d) ≡ s → is_full (with_voxel m c b) d ≡ is_full m d
    by true s = full_where m.resolution (λ e. cond (same_point (point e) (point c)) b (is_full m e)) d (space_by_test m.resolution d s) ∙ ap (λ t. cond t b (is_full m d)) (differ d c n)
    by false s = no_first (in_space m.resolution (point d)) _ s ∙ sym (no_first (in_space m.resolution (point d)) _ s)

-- if more is full, what was grounded still is
module _ (m n : Matrix) (more : (d : Coord) → IsTrue (is_full m d) → IsTrue (is_full n d)) where
  both : (a b : Bool) → IsTrue a → IsTrue b → IsTrue (a && b)
  both true b e f = f
  both false b e f = cc

  path_stays : (a : Coord) (path : List Coord) → IsTrue (is_path m (a ∷ path)) → IsTrue (is_path n (a ∷ path))
  path_stays a [] p = both (is_full n a) (a.y == 0) (more a (first_of_two (is_full m a) (a.y == 0) p)) (second_of_two (is_full m a) (a.y == 0) p)
  path_stays a (b ∷ path) p =
      let front = first_of_two (is_full m a && are_adjacent a b) (is_path m (b ∷ path)) p in
      both (is_full n a && are_adjacent a b) (is_path n (b ∷ path))
      (both (is_full n a) (are_adjacent a b) (more a (first_of_two (is_full m a) (are_adjacent a b) front)) (second_of_two (is_full m a) (are_adjacent a b) front))
      (path_stays b path (second_of_two (is_full m a && are_adjacent a b) (is_path m (b ∷ path)) p))

  pub stays_grounded : (c : Coord) → Grounded m c → Grounded n c
  stays_grounded c ([], h) = cc
  stays_grounded c (a ∷ path, h) =
      let begins = first_of_two (begins_at c (a ∷ path)) (is_path m (a ∷ path)) h in
      (a ∷ path, both (begins_at c (a ∷ path)) (is_path n (a ∷ path)) begins (path_stays a path (second_of_two (begins_at c (a ∷ path)) (is_path m (a ∷ path)) h)))

pub filled_is_grounded : (m : Matrix) (c : Coord) → IsInSpace m.resolution c → FirstUngrounded m None → IsCarried m c
    → FirstUngrounded (with_voxel m c true) None
filled_is_grounded m c i h carried = each_holds (λ d. IsTrue (is_full (with_voxel m c true) d) → Grounded (with_voxel m c true) d) (all_of m) (λ d f. of d f (same_or_not d c))
  where
    more : (d : Coord) → IsTrue (is_full m d) → IsTrue (is_full (with_voxel m c true) d)
    more d f = by (same_or_not d c)
      where
        by : (d ≡ c) ⊎ (d ≡ c → ⊥) → IsTrue (is_full (with_voxel m c true) d)
        by (inl e) = ap (is_full (with_voxel m c true)) e ∙ set_here m c true i
        by (inr u) = set_other m c d true u ∙ f

    here : (d : Coord) → d ≡ c → IsTrue (is_full (with_voxel m c true) d) → IsCarried m c
        → Grounded (with_voxel m c true) d
    here d e f (inl y) = on_floor (with_voxel m c true) d f (ap (λ (q : Coord). q.y) e ∙ y)
    here d e f (inr b) = one_more (with_voxel m c true) d b.0 f (subst (λ (q : Coord). IsTrue (are_adjacent q b.0)) (sym e) b.2) (stays_grounded m (with_voxel m c true) more b.0 (is_grounded m b.0 h b.1))

    of : (d : Coord) → IsTrue (is_full (with_voxel m c true) d) → (d ≡ c) ⊎ (d ≡ c → ⊥)
        → Grounded (with_voxel m c true) d
    of d f (inl e) = here d e f carried
    of d f (inr u) = stays_grounded m (with_voxel m c true) more d (is_grounded m d h (sym (set_other m c d true u) ∙ f))

-- ---- nothing is full

pub empty_is_grounded : (r : ℕ) (m : Matrix) → m ≡ empty r → FirstUngrounded m None
empty_is_grounded r m e = each_holds (λ d. IsTrue (is_full m d) → Grounded m d) (all_of m) (λ d f. absurd (contrary (is_full m d) f (ap (λ (n : Matrix). is_full n d) e ∙ empty_is_void r d)))
  where
    contrary : (b : Bool) → IsTrue b → b ≡ false → ⊥
    contrary b t f = cc

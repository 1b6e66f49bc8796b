-- Paths within a layer.
use Rattle.std.proofs.Common.{◌≡◌, ℕ, sym, ◌∙◌, ap, subst, arith, List, [], ◌∷◌, true, ◌&&◌, ◌==◌}
use Rattle.std.specs.Prelude.{IsTrue}
use Rattle.std.proofs.lemmas.Bool.Decides.{nat_tests}
use Rattle.vox_geom.specs.declared.coordinate.Coord.{Coord}
use Rattle.vox_geom.specs.Point.{are_adjacent, point, same_point}
use Rattle.vox_geom.proofs.Truths.{first_of_two, second_of_two}
use Rattle.vox_geom.proofs.Tests.{test_equal}
use Rattle.vox_geom.proofs.Points.{coordinate_by_test, point_itself}
use Rattle.nano_spec.specs.Matrix.{Matrix, is_full}
use Rattle.low_planner.specs.Sweep.{AreBesideInLayer}
use Rattle.low_planner.specs.Supported.{IsSupported, is_layer_path, rests}

same_number : (a b : ℕ) → IsTrue (a == b) → a ≡ b
same_number a b e = grind (arith, nat_tests)

-- ---- to a voxel that rests

pub at_rest : (m : Matrix) (c : Coord) → IsTrue (is_full m c) → IsTrue (rests m c) → IsSupported m c
at_rest m c f r = (c ∷ [], rw (point_itself c, f) r)

pub one_more : (m : Matrix) (a b : Coord) → IsTrue (is_full m a) → AreBesideInLayer a b → IsSupported m b
    → IsSupported m a
one_more m a b f n ([], h) = cc
one_more m a b f n (d ∷ path, h) =
    let same : b ≡ d = coordinate_by_test b d (first_of_two (same_point (point b) (point d)) (is_layer_path m (d ∷ path)) h) in
    let next : IsTrue (are_adjacent a d) = subst (λ (v : Coord). IsTrue (are_adjacent a v)) same n.adjacent in
    let level : (a.y == d.y) ≡ true = test_equal a.y d.y (sym n.level ∙ ap (λ (v : Coord). v.y) same) in
    (a ∷ d ∷ path, rw (point_itself a, f, next, level) (second_of_two (same_point (point b) (point d)) (is_layer_path m (d ∷ path)) h))

-- a fact of each full voxel that rests, and of each full neighbor of a voxel with it, holds of each voxel of a supported
-- part
module _ (m : Matrix) (P : Coord → Type 0) (rest : (a : Coord) → IsTrue (is_full m a) → IsTrue (rests m a) → P a) (more : (a b : Coord) → IsTrue (is_full m a) → IsTrue (is_full m b) → AreBesideInLayer a b → P b → P a) where
  full_head : (b : Coord) (path : List Coord) → IsTrue (is_layer_path m (b ∷ path)) → IsTrue (is_full m b)
  full_head b [] p = first_of_two (is_full m b) (rests m b) p
  full_head b (d ∷ path) p = first_of_two (is_full m b) (are_adjacent b d) (first_of_two (is_full m b && are_adjacent b d) (b.y == d.y) (first_of_two (is_full m b && are_adjacent b d && b.y == d.y) (is_layer_path m (d ∷ path)) p))

  along : (a : Coord) (path : List Coord) → IsTrue (is_layer_path m (a ∷ path)) → P a
  along a [] p = rest a (first_of_two (is_full m a) (rests m a) p) (second_of_two (is_full m a) (rests m a) p)
  along a (b ∷ path) p =
      let next = second_of_two (is_full m a && are_adjacent a b && a.y == b.y) (is_layer_path m (b ∷ path)) p in
      let front = first_of_two (is_full m a && are_adjacent a b && a.y == b.y) (is_layer_path m (b ∷ path)) p in
      let near = first_of_two (is_full m a && are_adjacent a b) (a.y == b.y) front in
      more a b (first_of_two (is_full m a) (are_adjacent a b) near) (full_head b path next)
      (record { adjacent = second_of_two (is_full m a) (are_adjacent a b) near; level = sym (same_number a.y b.y (second_of_two (is_full m a && are_adjacent a b) (a.y == b.y) front)) })
      (along b path next)

  pub in_part : (c : Coord) → IsSupported m c → P c
  in_part c ([], h) = cc
  in_part c (d ∷ path, h) =
      let same : c ≡ d = coordinate_by_test c d (first_of_two (same_point (point c) (point d)) (is_layer_path m (d ∷ path)) h) in
      subst P (sym same) (along d path (second_of_two (same_point (point c) (point d)) (is_layer_path m (d ∷ path)) h))

-- ---- to the floor

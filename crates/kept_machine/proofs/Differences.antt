-- The number of coordinates at which two matrices differ, index by index.
use Rattle.std.proofs.Common.{◌≡◌, ℕ, zero, suc, ◌+◌, ◌*◌, ◌%◌, ◌^◌, ◌<◌, ◌≤◌, refl, sym, ◌∙◌, ap, arith, zero-add, false, not, ◌&&◌, ◌||◌, ◌==◌, bit_xor}
use Rattle.std.specs.Prelude.{count_ones, slice_index_or}
use Rattle.std.specs.Int.{bit_at}
use Rattle.std.proofs.lemmas.Nat.{xor_lt}
use Rattle.std.proofs.lemmas.Nat.Bits.{bit_at_xor, bit_at-lt}
use Rattle.vox_geom.specs.Point.{point}
use Rattle.vox_geom.specs.Space.{coordinate_at, in_space, place}
use Rattle.vox_geom.proofs.Firsts.{at_in_space}
use Rattle.vox_geom.proofs.Places.{place-coordinate_at}
use Rattle.vox_geom.proofs.Points.{in_space_is}
use Rattle.nano_spec.specs.Matrix.{Matrix, differ_at, is_full}
use Rattle.nano_spec.specs.Model.{bit, volume}
use Rattle.vox_planes.specs.Places.{voxel_at}
use Rattle.vox_planes.proofs.Totals.{both_ways, counted, one_if, ones-total, total, total-add, total-same}
use Rattle.kept_machine.specs.Calls.{difference_count}

-- the number of differing voxels below index n
pub differing_below : Matrix → Matrix → ℕ → ℕ
differing_below m t n = total n (λ k. one_if (differ_at m t (coordinate_at m.resolution k)))

at_first : (m t : Matrix) (n : ℕ) → total n (λ k. one_if (differ_at m t (coordinate_at m.resolution k)))
    ≡ total n (λ k. one_if (differ_at m t (coordinate_at m.resolution (0 + k))))
at_first m t n = total-same n (λ k. one_if (differ_at m t (coordinate_at m.resolution k))) (λ k. one_if (differ_at m t (coordinate_at m.resolution (0 + k)))) (λ k l. ap (λ p. one_if (differ_at m t (coordinate_at m.resolution p))) (sym (zero-add k)))

pub none_below : (m t : Matrix) → differing_below m t 0 ≡ 0
unfolding differing_below
none_below m t = at_first m t 0 ∙ sym (counted (differ_at m t) (coordinate_at m.resolution) 0 0)

pub few_below : (m t : Matrix) (n : ℕ) → differing_below m t n ≤ n
unfolding differing_below
few_below m t n = omega (arith, both_ways n (λ k. differ_at m t (coordinate_at m.resolution k)))

pub all_below : (m t : Matrix) → differing_below m t (volume m.resolution) ≡ difference_count m t
unfolding differing_below
all_below m t = at_first m t (volume m.resolution) ∙ sym (counted (differ_at m t) (coordinate_at m.resolution) (m.resolution * m.resolution * m.resolution) 0)

full_at_place : (m : Matrix) (r p : ℕ) → m.resolution ≡ r → p < r * r * r → is_full m (coordinate_at r p) ≡ voxel_at m p
full_at_place m r p e l =
    (λ i. in_space (e i) (point (coordinate_at r p)) && slice_index_or m.voxels (place (e i) (coordinate_at r p)) false)
    ∙ (λ i. in_space_is r (coordinate_at r p) (at_in_space r p l) i && slice_index_or m.voxels (place-coordinate_at r p i) false)

one_differs : (a b : ℕ) → a < 2 → b < 2
    → (a + b) % 2 ≡ one_if (((a == 1) && not (b == 1)) || ((b == 1) && not (a == 1)))
one_differs zero zero h k = refl
one_differs zero (suc zero) h k = refl
one_differs (suc zero) zero h k = refl
one_differs (suc zero) (suc zero) h k = refl
one_differs (suc (suc a)) b h k = absurd (omega arith)
one_differs a (suc (suc b)) h k = absurd (omega arith)

pub more_below : (m t : Matrix) (from some here there : ℕ) → m.resolution ≡ t.resolution
    → from + some ≤ volume m.resolution → ((k : ℕ) → k < some → bit here k ≡ voxel_at m (from + k))
    → ((k : ℕ) → k < some → bit there k ≡ voxel_at t (from + k)) → here < 2 ^ some → there < 2 ^ some
    → differing_below m t (from + some) ≡ differing_below m t from + count_ones (bit_xor here there)
unfolding differing_below
more_below m t from some here there same within here_is there_is here_small there_small =
    total-add from some (λ k. one_if (differ_at m t (coordinate_at m.resolution k)))
    ∙ ap (λ n. differing_below m t from + n)
    (total-same some (λ k. one_if (differ_at m t (coordinate_at m.resolution (from + k)))) (λ k. bit_at (bit_xor here there) k) each
    ∙ sym (ones-total some (bit_xor here there) (xor_lt some here there here_small there_small)))
  where
    each : (k : ℕ) → k < some
        → one_if (differ_at m t (coordinate_at m.resolution (from + k))) ≡ bit_at (bit_xor here there) k
    each k l =
        let inside : from + k < m.resolution * m.resolution * m.resolution = omega (arith, within, l) in
        let full_at_place_here = full_at_place m m.resolution (from + k) refl inside ∙ sym (here_is k l) in
        let full_at_place_here_too = full_at_place t m.resolution (from + k) (sym same) inside ∙ sym (there_is k l) in
        (λ i. one_if ((full_at_place_here i && not (full_at_place_here_too i)) || (full_at_place_here_too i && not (full_at_place_here i))))
        ∙ (sym (one_differs (bit_at here k) (bit_at there k) (bit_at-lt here k) (bit_at-lt there k)) ∙ sym (bit_at_xor here there k))

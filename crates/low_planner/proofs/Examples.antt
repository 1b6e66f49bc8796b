-- The worked examples of parts of layers.
use Rattle.std.proofs.Common.{◌≡◌, refl, subst, inl, inr, [], ◌∷◌, false, ◌&&◌, not}
use Rattle.std.specs.Prelude.{IsTrue}
use Rattle.std.specs.List.{list_all}
use Rattle.vox_geom.specs.declared.coordinate.Coord.{Coord}
use Rattle.vox_geom.specs.Point.{are_adjacent, coord}
use Rattle.vox_geom.proofs.Truths.{both_true, not_is_true, true_and_false}
use Rattle.nano_spec.specs.Matrix.{Matrix, all_of, is_full}
use Rattle.nano_spec.proofs.Coordinates.{at_full}
use Rattle.low_planner.specs.Supported.{IsSupported, rests}
use Rattle.low_planner.specs.Worked.{WorkedParts, two_hang}
use Rattle.low_planner.proofs.Paths.{in_part}

-- a voxel that does not rest and has no full neighbor is not supported
hangs_alone : (m : Matrix) (c : Coord) → rests m c ≡ false
    → IsTrue (list_all (λ b. not (is_full m b && are_adjacent c b)) (all_of m)) → IsSupported m c → ⊥
hangs_alone m c r t s = in_part m (λ a. a ≡ c → ⊥)
    (λ a f h e. true_and_false (rests m c) (subst (λ (w : Coord). IsTrue (rests m w)) e h) r)
    (λ a b f g n p e. true_and_false (is_full m b && are_adjacent c b) (both_true (is_full m b) (are_adjacent c b) g (subst (λ (w : Coord). IsTrue (are_adjacent w b)) e n.adjacent)) (not_is_true (is_full m b && are_adjacent c b) (at_full (λ w. not (is_full m w && are_adjacent c w)) m b g t)))
    c s refl

pub worked_parts : WorkedParts
worked_parts = record {
  the_least_of_two = inr (λ e. cc, inr (λ e. cc, inl (λ h. hangs_alone two_hang (coord 0 1 0) refl refl (h refl), refl)));
  each_of_both_hangs = (hangs_alone two_hang (coord 0 1 0) refl refl, hangs_alone two_hang (coord 1 1 1) refl refl);
  one_rests_for_both = (λ e. (coord 0 0 0 ∷ [], refl), (λ e. cc, (λ e. (coord 0 1 0 ∷ [], refl), (λ e. (coord 0 1 1 ∷ coord 0 1 0 ∷ [], refl), (λ e. cc, (λ e. cc, (λ e. cc, (λ e. cc, tt))))))));
  along_a_layer = (refl, refl);
  from_elsewhere = refl;
  above_a_void_voxel = refl;
  over_an_edge = refl;
  between_layers = refl;
  plain_commands = (tt, tt);
  other_commands = (λ h. h, λ h. h, λ h. h, λ h. h);
}

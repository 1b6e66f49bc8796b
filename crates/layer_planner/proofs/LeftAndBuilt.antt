-- The voxels left of a source and built of a target.
use Rattle.std.proofs.Common.{◌≡◌, ℕ, ◌-◌, cond, ◌<◌, ◌≤◌, refl, sym, ◌∙◌, ap, arith, Bool, true, false}
use Rattle.std.proofs.lemmas.Bool.Decides.{nat_tests}
use Rattle.vox_geom.specs.declared.coordinate.Coord.{Coord}
use Rattle.nano_spec.specs.Legal.{IsLegal}
use Rattle.nano_spec.specs.Matrix.{Matrix, is_full}
use Rattle.plan_tape.specs.Progress.{AreAlike, IsVoidFrom}
use Rattle.layer_planner.specs.Painting.{IsPartlyBuilt}
use Rattle.plan_tape.specs.Parts.{below_layer, from_layer}
use Rattle.plan_tape.proofs.LegalModels.{void_at_top}

-- below the layer down to which the source was voided all is unchanged
pub left_alone : (source b nothing : Matrix) (low : ℕ) → IsPartlyBuilt b source nothing (from_layer low) → (c : Coord)
    → c.y < low → is_full b c ≡ is_full source c
left_alone source b nothing low p c l = let not_from_layer : from_layer low c ≡ false = grind (arith, nat_tests) in p c ∙ ap (λ t. cond t (is_full nothing c) (is_full source c)) not_from_layer

-- and from it on all is void
pub void_from : (source b nothing : Matrix) (low : ℕ) → IsVoidFrom nothing 0
    → IsPartlyBuilt b source nothing (from_layer low) → IsVoidFrom b low
void_from source b nothing low n p = λ c l. let from_layer_holds : from_layer low c ≡ true = grind (arith, nat_tests) in p c ∙ (ap (λ t. cond t (is_full nothing c) (is_full source c)) from_layer_holds ∙ n c (omega arith))

-- if all was void from a layer on and was built, the voxels are those of the target
pub rebuilt_is : (b c target : Matrix) (low : ℕ) → IsLegal target → b.resolution ≡ target.resolution
    → low < b.resolution → IsVoidFrom b low → IsPartlyBuilt c b target (below_layer (b.resolution - 1))
    → AreAlike c target
rebuilt_is b c target low h e l void q = λ d. by d (below_layer (b.resolution - 1) d) refl
  where
    high : (d : Coord) → below_layer (b.resolution - 1) d ≡ false → b.resolution - 1 ≤ d.y
    high d f = grind (arith, nat_tests)

    by : (d : Coord) (t : Bool) → below_layer (b.resolution - 1) d ≡ t → is_full c d ≡ is_full target d
    by d true f = q d ∙ ap (λ t. cond t (is_full target d) (is_full b d)) f
    by d false f =
        let top = high d f in
        q d ∙ (ap (λ t. cond t (is_full target d) (is_full b d)) f ∙ (void d (omega (arith, top, l)) ∙ sym (void_at_top target h d (omega (arith, top, e)))))

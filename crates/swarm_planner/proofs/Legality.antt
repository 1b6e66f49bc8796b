-- The extent of a legal model.
use Rattle.std.proofs.Common.{◌≡◌, ℕ, ◌<◌, ◌≤◌, ◌⊎◌, inl, inr, sym, ◌∙◌, arith}
use Rattle.vox_geom.proofs.Truths.{false_by}
use Rattle.nano_spec.specs.Legal.{IsLegal}
use Rattle.nano_spec.specs.Matrix.{Matrix, is_full}
use Rattle.vox_planes.specs.Voxel.{IsWhole}
use Rattle.plan_tape.specs.Progress.{IsVoidFrom}
use Rattle.plan_tape.proofs.LegalModels.{alike_is_same, full_in_box}

three_or_less : (r : ℕ) → (3 ≤ r) ⊎ (r < 3)
three_or_less r = grind arith

-- a legal model with a full voxel has a resolution of 3 at least
pub wide_enough : (m n : Matrix) → IsLegal m → IsWhole m → IsWhole n → n.resolution ≡ m.resolution → IsVoidFrom n 0
    → (n ≡ m → ⊥) → 3 ≤ m.resolution
wide_enough m n h v w e void differ = by (three_or_less m.resolution)
  where
    by : (3 ≤ m.resolution) ⊎ (m.resolution < 3) → 3 ≤ m.resolution
    by (inl k) = k
    by (inr k) = absurd (differ (alike_is_same n m w v e (λ c _. void c (omega arith) ∙ sym (false_by (is_full m c) (λ f. let in_box = full_in_box m c h f in let along_x = in_box.x in let x_end = in_box.x_end in absurd (omega arith))))))

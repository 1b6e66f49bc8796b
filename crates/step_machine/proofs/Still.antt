-- The step of the only bot by `SMove`: the matrix stays as it is.
use Rattle.std.proofs.Common.{◌≡◌, ℕ, refl, sym, ◌∙◌, ap, subst, arith, List, [], ◌∷◌, false, length}
use Rattle.std.specs.Prelude.{Option, None, MatchBool}
use Rattle.vox_geom.specs.declared.coordinate.Coord.{Coord}
use Rattle.vox_geom.specs.declared.difference.Diff.{Diff}
use Rattle.nano_spec.specs.declared.commands.Command.TheVariants.{SMove}
use Rattle.nano_spec.specs.declared.system.Bot.{Bot}
use Rattle.nano_spec.specs.declared.system.Harmonics.{Harmonics}
use Rattle.nano_spec.specs.declared.system.Harmonics.TheVariants.{Low, High}
use Rattle.nano_spec.specs.Act.{acts}
use Rattle.nano_spec.specs.Grounded.{FirstUngrounded}
use Rattle.nano_spec.specs.Matrix.{Matrix}
use Rattle.nano_spec.specs.Rules.{broken}
use Rattle.nano_spec.specs.State.{State, is_high}
use Rattle.nano_spec.specs.Step.{after, harmonics_after, matrix_after}
use Rattle.support_forest.specs.ForestView.{ForestView}
use Rattle.vox_planes.specs.Voxel.{IsWhole}
use Rattle.system_state.proofs.OnlyBot.{untouched}
use Rattle.step_machine.specs.Settling.{IsSettled}
use Rattle.step_machine.proofs.Stepping.{goes}
use Rattle.step_groups.specs.Judging.{act}

-- the only bot of a list of one
pub only_bot : (bots : List Bot) → length bots ≡ 1 → (b : Bot) × (bots ≡ b ∷ [])
only_bot [] e = absurd (omega arith)
only_bot (b ∷ []) e = (b, refl)
only_bot (b ∷ c ∷ bots) e = absurd (omega arith)

none_found : (h : Harmonics) (m : Matrix) (at : Option Coord) → at ≡ None → (h ≡ Low → FirstUngrounded m None)
    → MatchBool (is_high h) (at ≡ None) (FirstUngrounded m at)
none_found High m at e held = e
none_found Low m at e held = subst (λ (o : Option Coord). FirstUngrounded m o) (sym e) (held refl)

module _ (s : State) (d : Diff) (one : length s.bots ≡ 1) (whole : IsWhole s.matrix) where
  matrix_stays : s.matrix ≡ (after s (SMove d ∷ [])).matrix
  matrix_stays = let only = only_bot s.bots one in sym (ap (λ (bots : List Bot). matrix_after s.matrix (acts bots (SMove d ∷ []))) only.1 ∙ untouched s.matrix (act only.0 (SMove d)) whole refl refl)

  harmonics_stay : s.harmonics ≡ (after s (SMove d ∷ [])).harmonics
  harmonics_stay = let only = only_bot s.bots one in sym (ap (λ (bots : List Bot). harmonics_after s.harmonics (acts bots (SMove d ∷ []))) only.1)

  -- the step goes to its state, and the forest is that state's
  pub still : (step : ℕ) (forest : ForestView) (now : ℕ) → broken s (SMove d ∷ []) step ≡ None
      → (s.harmonics ≡ Low → FirstUngrounded s.matrix None) → forest.matrix ≡ s.matrix → forest.spent ≡ false
      → IsSettled s (SMove d ∷ []) step forest now now
  still step forest now keeps held tied stands = record {
    goes = goes s (after s (SMove d ∷ [])) (SMove d ∷ []) step s.harmonics s.matrix None keeps (record { harmonics_is = harmonics_stay; matrix_is = matrix_stays; found = none_found s.harmonics s.matrix None refl held }) refl refl;
    tied = tied ∙ matrix_stays;
    stands = stands;
    touches = λ n w. omega (arith, w.1);
  }

-- The start of the frame of a plan.
use Rattle.std.specs.Prelude.{◌≡◌, ◌+◌, ◌*◌, [], ◌∷◌, length}
use Rattle.vox_geom.specs.Space.{IsInSpace}
use Rattle.nano_spec.specs.declared.system.Harmonics.TheVariants.{High}
use Rattle.nano_spec.specs.Profile.{full_profile}
use Rattle.nano_spec.specs.State.{first_bot, origin}
use Rattle.plan_tape.specs.Fissions.{fissions}
use Rattle.plan_tape.specs.Leg.{moves_to}
use Rattle.plan_tape.specs.Progress.{IsVoidFrom, TapeState, bots_at, bytes, spot, top}

-- nothing is changed, and the only bot there ever was is at the top above the origin, under High, with all void from
-- its height on
pub record HasRisen (t : TapeState) : Type 0 where
  pub matrix : t.matrix ≡ t.source
  pub harmonics : t.harmonics ≡ High
  pub profile : t.profile ≡ full_profile
  pub bots_are : t.bots ≡ bots_at (first_bot full_profile ∷ []) (top t.source)
  pub unsplit : fissions t ≡ 0
  pub placed : IsInSpace t.matrix.resolution (spot t.bots)
  pub clear : IsVoidFrom t.matrix (spot t.bots).y
  pub steps : t.steps ≡ moves_to origin (top t.source) + 1
  pub commands : length t.commands ≡ t.steps
  pub bytes_are : bytes t ≡ 2 * moves_to origin (top t.source) + 1

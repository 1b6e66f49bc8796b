-- How ready states relate to well-formed ones.
use Rattle.std.proofs.Common.{◌≡◌, ◌<◌, arith, length, get_or}
use Rattle.std.specs.Prelude.{IsFalse, All, AllPairs, None}
use Rattle.vox_geom.specs.Space.{IsInSpace}
use Rattle.nano_spec.specs.declared.system.Harmonics.TheVariants.{Low}
use Rattle.nano_spec.specs.Grounded.{FirstUngrounded}
use Rattle.nano_spec.specs.Matrix.{is_full}
use Rattle.nano_spec.specs.Model.{volume}
use Rattle.nano_spec.specs.State.{IsReady, IsWellFormed, State}

-- numbers that rise differ
pub well_formed : (s : State) → IsReady s → (s.harmonics ≡ Low → FirstUngrounded s.matrix None)
    → All (λ a. IsFalse (is_full s.matrix a.pos)) s.bots → IsWellFormed s
well_formed s h grounded void = record {
  grounded = grounded;
  bids = λ i j d k l e. let below_bid : (get_or s.bots i d).bid < (get_or s.bots j d).bid = h.rising i j d k l in omega arith;
  positions = h.positions;
  void = void;
  seeds = h.seeds;
  unborn = h.unborn;
}

pub ready : (s : State) → IsWellFormed s → length s.matrix.voxels ≡ volume s.matrix.resolution
    → All (λ a. IsInSpace s.matrix.resolution a.pos) s.bots → AllPairs (λ a b. a.bid < b.bid) s.bots → IsReady s
ready s h whole within rising = record {
  whole = whole;
  within = within;
  rising = rising;
  positions = h.positions;
  seeds = h.seeds;
  unborn = h.unborn;
}

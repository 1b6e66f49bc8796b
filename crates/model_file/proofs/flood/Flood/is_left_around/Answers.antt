use Rattle.std.proofs.Common.{◌≡◌, arith, false, refl}
use Rattle.vox_geom.specs.declared.TheConstants.{MOST_R}
use Rattle.nano_spec.specs.Matrix.{is_full}
use Rattle.model_file.specs.declared.flood.Stretch.{Stretch}
use Rattle.model_file.proofs.Stretches.{of_seven}
use Rattle.model_file.proofs.flood.Flood.is_left_around.Goals as goal

pub returns : goal.returns
returns g c = λ e.
    let stretch : Stretch = record { first = c.args.first; bits = c.args.bits } in
    let fits = c.ranges.bits in
    of_seven stretch MOST_R c.requires (omega arith) fits.fits (λ d. is_full c.args.self.now.remaining d ≡ false)
    (c.if-is_left.ensures refl) (c.if-is_left-2.ensures refl) (c.if-is_left-3.ensures refl) (c.if-is_left-4.ensures refl)
    (c.if-is_left-5.ensures refl) (c.if-is_left-6.ensures refl) (c.is_left-7.ensures e)

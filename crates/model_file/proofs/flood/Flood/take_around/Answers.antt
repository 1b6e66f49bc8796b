use Rattle.std.proofs.Common.{◌≡◌, false}
use Rattle.nano_spec.specs.Matrix.{is_full}
use Rattle.model_file.specs.declared.flood.Stretch.{Stretch}
use Rattle.model_file.proofs.Stretches.{of_seven}
use Rattle.model_file.proofs.Floods.{takes_around}
use Rattle.model_file.proofs.flood.Flood.take_around.Goals as goal

pub returns-clause-takes : goal.returns-clause-takes
returns-clause-takes g c =
    let stretch : Stretch = record { first = c.args.first; bits = c.args.bits } in
    let fits = c.ranges.bits in
    takes_around c.args.self.now c.take.new.self c.take-2.new.self c.take-3.new.self c.take-4.new.self c.take-5.new.self c.take-6.new.self c.take-7.new.self stretch c.requires.start c.requires.most fits.fits
    c.in_ok-take.ensures.takes c.in_ok-take-2.ensures.takes c.in_ok-take-3.ensures.takes c.in_ok-take-4.ensures.takes c.in_ok-take-5.ensures.takes c.in_ok-take-6.ensures.takes c.in_ok-take-7.ensures.takes

pub returns-clause-gone : goal.returns-clause-gone
returns-clause-gone g c =
    let stretch : Stretch = record { first = c.args.first; bits = c.args.bits } in
    let fits = c.ranges.bits in
    let t2 = c.in_ok-take-2.ensures.takes in
    let t3 = c.in_ok-take-3.ensures.takes in
    let t4 = c.in_ok-take-4.ensures.takes in
    let t5 = c.in_ok-take-5.ensures.takes in
    let t6 = c.in_ok-take-6.ensures.takes in
    let t7 = c.in_ok-take-7.ensures.takes in
    of_seven stretch c.args.self.now.remaining.resolution c.requires.start c.requires.most fits.fits (λ d. is_full c.take-7.new.self.remaining d ≡ false)
    (λ d h. t7.fewer d (t6.fewer d (t5.fewer d (t4.fewer d (t3.fewer d (t2.fewer d (c.in_ok-take.ensures.gone d h)))))))
    (λ d h. t7.fewer d (t6.fewer d (t5.fewer d (t4.fewer d (t3.fewer d (c.in_ok-take-2.ensures.gone d h))))))
    (λ d h. t7.fewer d (t6.fewer d (t5.fewer d (t4.fewer d (c.in_ok-take-3.ensures.gone d h)))))
    (λ d h. t7.fewer d (t6.fewer d (t5.fewer d (c.in_ok-take-4.ensures.gone d h))))
    (λ d h. t7.fewer d (t6.fewer d (c.in_ok-take-5.ensures.gone d h)))
    (λ d h. t7.fewer d (c.in_ok-take-6.ensures.gone d h))
    c.in_ok-take-7.ensures.gone

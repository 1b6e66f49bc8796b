use Rattle.std.proofs.Common.{◌≡◌, ◌+◌, ◌≤◌, ◌∷◌, [], refl, ◌∙◌, ap, arith, length, bit_or}
use Rattle.std.proofs.lemmas.List.{length-append}
use Rattle.model_file.specs.declared.flood.Flood.{Flood}
use Rattle.model_file.specs.declared.flood.Stretch.{Stretch}
use Rattle.vox_geom.specs.declared.TheConstants.{MOST_R}
use Rattle.model_file.specs.Flood.{IsBeside, IsStart, TakesOut, full_of}
use Rattle.model_file.proofs.Floods.{row_lighter, row_same, takes_none, takes_then}
use Rattle.model_file.proofs.Spreads.{flood_more, flood_wider, found_starts}
use Rattle.model_file.proofs.Stretches.{moved}
use Rattle.model_file.proofs.flood.Flood.look_around.Given.{Over}
use Rattle.model_file.proofs.flood.Flood.look_around.Goals as goal

-- if no neighbor is in its word, all its neighbors are removed by the other part
both : (g : Over) (c : goal.In_ok-take_around g)
    → TakesOut (IsBeside (record { first = c.args.first; bits = c.args.bits })) c.args.self.now c.take_around.new.self
both g c =
    let stretch : Stretch = record { first = c.args.first; bits = c.args.bits } in
    let mid : Flood = record { remaining = c.take_row-more.new.self; found = c.args.self.now.found } in
    let few : c.min-count.result ≤ 64 = omega (arith, c.min-count.ensures) in
    takes_then (IsBeside stretch) c.args.self.now mid c.take_around.new.self
    (takes_none (IsBeside stretch) c.args.self.now mid c.take_row-more.ensures.resolution
    (row_same c.args.self.now mid c.args.first c.min-count.result (moved c.args.bits) c.take_row-more.result c.take_row-more.ensures.resolution few c.take_row-more.ensures.was c.take_row-more.ensures.left c.if-more-eq0.true) refl)
    c.in_ok-take_around.ensures.takes

pub returns-then-more-eq0-clause-reaches : goal.returns-then-more-eq0-clause-reaches
returns-then-more-eq0-clause-reaches g c = λ m s fl same held. flood_more m s c.args.self.now c.take_around.new.self (record { first = c.args.first; bits = c.args.bits }) fl same held (both g c) c.in_ok-take_around.ensures.gone

pub returns-then-more-eq0-clause-starts : goal.returns-then-more-eq0-clause-starts
returns-then-more-eq0-clause-starts g c = λ h. found_starts (IsBeside (record { first = c.args.first; bits = c.args.bits })) c.args.self.now c.take_around.new.self h (both g c)

pub returns-then-more-eq0-clause-weighs : goal.returns-then-more-eq0-clause-weighs
returns-then-more-eq0-clause-weighs g c = let both_here = both g c in both_here.weighs

pub returns-in-Ok-clause-reaches : goal.returns-in-Ok-clause-reaches
returns-in-Ok-clause-reaches g c =
    let stretch : Stretch = record { first = c.args.first; bits = c.args.bits } in
    let new : Flood = record { remaining = c.take_row-more.new.self; found = c.push.new.self } in
    let few : c.min-count.result ≤ 64 = omega (arith, c.min-count.ensures) in
    let within = c.requires.within in
    let most = c.requires.most in
    let fits = c.ranges.bits in
    let start : IsStart MOST_R stretch = record { within = record { x = omega (arith, within.x); y = omega (arith, within.y); z = omega (arith, within.z) }; each = c.requires.each } in
    λ m s fl same held. flood_wider c.args.self.now new stretch c.min-count.result c.take_row-more.result c.take_row-more.ensures.resolution few c.take_row-more.ensures.was c.take_row-more.ensures.left c.take_row-more.ensures.below c.in-Ok.ensures.items m s start most fits.fits fl same held

pub returns-in-Ok-clause-weighs : goal.returns-in-Ok-clause-weighs
returns-in-Ok-clause-weighs g c =
    let new : Flood = record { remaining = c.take_row-more.new.self; found = c.push.new.self } in
    let few : c.min-count.result ≤ 64 = omega (arith, c.min-count.ensures) in
    let less : full_of c.args.self.now.remaining.resolution c.take_row-more.new.self + 1 ≤ full_of c.args.self.now.remaining.resolution c.args.self.now.remaining =
    row_lighter c.args.self.now new c.args.first c.min-count.result (moved c.args.bits) c.take_row-more.result c.take_row-more.ensures.resolution few c.take_row-more.ensures.was c.take_row-more.ensures.left c.take_row-more.ensures.below c.if-more-eq0.false c.take_row-more.type_inv in
    let full : full_of c.take_row-more.new.self.resolution c.take_row-more.new.self ≡ full_of c.args.self.now.remaining.resolution c.take_row-more.new.self = ap (λ n. full_of n c.take_row-more.new.self) c.take_row-more.ensures.resolution in
    let size : length c.push.new.self.items ≡ length c.args.self.now.found.items + 1 = ap length c.in-Ok.ensures.items ∙ length-append c.args.self.now.found.items (record { first = c.args.first; bits = bit_or c.args.bits c.take_row-more.result } ∷ []) in
    omega arith

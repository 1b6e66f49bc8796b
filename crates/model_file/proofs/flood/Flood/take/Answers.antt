use Rattle.std.proofs.Common.{◌≡◌, ◌-◌, ◌≤◌, ◌<◌, ℕ, refl, subst, arith, min}
use Rattle.model_file.specs.declared.flood.Flood.{Flood}
use Rattle.model_file.specs.Flood.{IsAmong}
use Rattle.model_file.proofs.Floods.{gone_row, row_same, takes_none, takes_row}
use Rattle.model_file.proofs.flood.Flood.take.Goals as goal

pub returns-then-taken-eq0-clause-takes : goal.returns-then-taken-eq0-clause-takes
returns-then-taken-eq0-clause-takes g c =
    let new : Flood = record { remaining = c.take_row-taken.new.self; found = c.args.self.now.found } in
    let few : c.min-count.result ≤ 64 = omega (arith, c.min-count.ensures) in
    takes_none (IsAmong (record { first = c.args.first; bits = c.args.bits })) c.args.self.now new c.take_row-taken.ensures.resolution
    (row_same c.args.self.now new c.args.first c.min-count.result c.args.bits c.take_row-taken.result c.take_row-taken.ensures.resolution few c.take_row-taken.ensures.was c.take_row-taken.ensures.left c.if-taken-eq0.true) refl

pub returns-in-Ok-clause-takes : goal.returns-in-Ok-clause-takes
returns-in-Ok-clause-takes g c =
    let new : Flood = record { remaining = c.take_row-taken.new.self; found = c.push.new.self } in
    let few : c.min-count.result ≤ 64 = omega (arith, c.min-count.ensures) in
    let resolution_value = c.resolution-r.ensures.value in
    let r_is_not_first = c.if-r-first.false in
    let r_is_not_first_here = c.if-r-first-2.false in
    let r_is_not_first_too = c.if-r-first-3.false in
    takes_row c.args.self.now new c.args.first c.min-count.result c.args.bits c.take_row-taken.result c.take_row-taken.ensures.resolution few c.take_row-taken.ensures.was c.take_row-taken.ensures.left
    (record { x = subst (λ (n : ℕ). c.args.first.x < n) resolution_value r_is_not_first; y = subst (λ (n : ℕ). c.args.first.y < n) resolution_value r_is_not_first_here; z = subst (λ (n : ℕ). c.args.first.z < n) resolution_value r_is_not_first_too })
    c.requires c.take_row-taken.ensures.below c.if-taken-eq0.false c.take_row-taken.type_inv c.in-Ok.ensures.items

pub returns-in-Ok-clause-gone : goal.returns-in-Ok-clause-gone
returns-in-Ok-clause-gone g c =
    let new : Flood = record { remaining = c.take_row-taken.new.self; found = c.push.new.self } in
    let few : c.min-count.result ≤ 64 = omega (arith, c.min-count.ensures) in
    let size : c.min-count.result ≡ min (c.args.self.now.remaining.resolution - c.args.first.z) 64 = omega (arith, c.min-count.ensures, c.from.ensures, c.resolution-r.ensures.value) in
    gone_row c.args.self.now new c.args.first c.min-count.result c.args.bits c.take_row-taken.result c.take_row-taken.ensures.resolution few c.take_row-taken.ensures.was c.take_row-taken.ensures.left size

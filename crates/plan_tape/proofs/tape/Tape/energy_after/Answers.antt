use Rattle.std.proofs.Common.{◌≡◌, ◌*◌, rules, ◌∙◌, ap, pos, to_z, of_z, w64}
use Rattle.std.specs.Prelude.{◌+ℤ◌, unsigned_abs}
use Rattle.nano_spec.specs.Energy.{upkeep_of}
use Rattle.nano_spec.specs.Matrix.{Matrix}
use Rattle.plan_tape.specs.contracts.tape.Tape.{the_view}
use Rattle.plan_tape.proofs.Written.{charged_is}
use Rattle.plan_tape.proofs.tape.Tape.energy_after.Goals as goal

pub returns-clause-value : goal.returns-clause-value
returns-clause-value c =
    let inside = c.self.inside in
    let value : c.charge.result ≡ (inside.system.energy +ℤ pos (c.args.count * unsigned_abs (upkeep_of c.resolution-resolution.result inside.system.harmonics 1))) +ℤ c.args.cost = search rules in
    let back : to_z w64 (of_z w64 c.charge.result) ≡ c.charge.result = search rules in
    back ∙ charged_is (the_view inside) c.args.self.now c.args.count c.resolution-resolution.result c.args.cost c.charge.result c.self.view_is c.requires.alone (c.resolution-resolution.ensures.value ∙ ap (λ (m : Matrix). m.resolution) c.matrix.ensures.value) value

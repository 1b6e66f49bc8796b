use Rattle.std.proofs.Common.{◌≡◌, rules, to_z, of_z, w64}
use Rattle.plan_tape.proofs.Runs.{finished}
use Rattle.plan_tape.proofs.tape.Tape.finish.Goals as goal

pub returns-clause-accepted : goal.returns-clause-accepted
returns-clause-accepted c = λ target same.
    let energy : to_z w64 (of_z w64 c.energy.result) ≡ c.self.inside.system.energy = search rules in
    rw (energy, c.from_vec.ensures) (finished _ _ c.self.view_is c.self.invariant c.requires target same)

use Rattle.std.proofs.Common.{◌≡◌, ◌+◌, rules, sym, refl, ◌∙◌, subst, [], pos, to_z, of_z, w64}
use Rattle.nano_spec.specs.declared.commands.Command.TheVariants.{Halt}
use Rattle.nano_spec.specs.State.{State}
use Rattle.plan_tape.specs.contracts.tape.Tape.{the_view}
use Rattle.plan_tape.specs.Progress.{progress_of}
use Rattle.plan_tape.proofs.Written.{IsCharged, Makes, charged_as, halt_makes}
use Rattle.plan_tape.proofs.tape.Tape.halt.Goals as goal

charge : (c : goal.After-self-1)
    → IsCharged c.args.self.now 1 (pos 0) (to_z w64 (of_z w64 c.energy_after-energy.result))
charge c = charged_as c.args.self.now 1 (pos 0) c.energy_after-energy.result _ (search rules) c.energy_after-energy.ensures.value c.energy_after-energy.ensures.bounded

makes : (c : goal.After-self-1) → Makes c.args.self.now
    (progress_of c.self.inside.source c.write.new.commands.items c.halt.new.self (c.self.inside.steps + 1)) Halt
    c.args.self.now.matrix c.args.self.now.harmonics [] (pos 0)
makes c =
    let inside = c.self.inside in
    let energy = to_z w64 (of_z w64 c.energy_after-energy.result) in
    let now : c.halt.new.self ≡ record inside.system { bots = []; energy = energy } = c.halt.ensures ∙ (λ i. record (c.set_energy.ensures i) { bots = [] }) in
    subst (λ (s : State). Makes c.args.self.now (progress_of inside.source c.write.new.commands.items s (inside.steps + 1)) Halt c.args.self.now.matrix c.args.self.now.harmonics [] (pos 0)) (sym now)
    (halt_makes (the_view inside) c.args.self.now c.self.view_is c.self.invariant c.write.new.commands.items energy [] c.requires.alone c.requires.allowed c.requires.home c.requires.low c.requires.limit c.in_ok-write.ensures.ok refl (charge c))

pub invariant_of-self-2 : goal.invariant_of-self-2
invariant_of-self-2 c = (makes c).reached

pub returns-clause-ok : goal.returns-clause-ok
returns-clause-ok c = (makes c).writes

use Rattle.std.proofs.Common.{◌≡◌, ◌+◌, rules, sym, refl, ◌∙◌, ap, subst, pos, to_z, of_z, w64}
use Rattle.nano_spec.specs.declared.commands.Command.TheVariants.{Flip}
use Rattle.nano_spec.specs.State.{State}
use Rattle.nano_spec.specs.Step.{flipped}
use Rattle.plan_tape.specs.contracts.tape.Tape.{the_view}
use Rattle.plan_tape.specs.Progress.{progress_of}
use Rattle.plan_tape.proofs.Written.{IsCharged, Makes, charged_as, flip_makes}
use Rattle.plan_tape.proofs.tape.Tape.flip.Goals as goal

charge : (c : goal.After-self-1)
    → IsCharged c.args.self.now 1 (pos 0) (to_z w64 (of_z w64 c.energy_after-energy.result))
charge c = charged_as c.args.self.now 1 (pos 0) c.energy_after-energy.result _ (search rules) c.energy_after-energy.ensures.value c.energy_after-energy.ensures.bounded

makes : (c : goal.After-self-1) → Makes c.args.self.now
    (progress_of c.self.inside.source c.write.new.commands.items c.set_harmonics.new.self (c.self.inside.steps + 1))
    Flip c.args.self.now.matrix (flipped c.args.self.now.harmonics) c.args.self.now.bots (pos 0)
makes c =
    let inside = c.self.inside in
    let energy = to_z w64 (of_z w64 c.energy_after-energy.result) in
    let other : c.flipped.result ≡ flipped inside.system.harmonics = c.flipped.ensures ∙ ap flipped (c.harmonics.ensures ∙ ap (λ (s : State). s.harmonics) c.set_energy.ensures) in
    let now : c.set_harmonics.new.self ≡ record inside.system { harmonics = flipped inside.system.harmonics; energy = energy } = c.set_harmonics.ensures ∙ (λ i. record (c.set_energy.ensures i) { harmonics = other i }) in
    subst (λ (s : State). Makes c.args.self.now (progress_of inside.source c.write.new.commands.items s (inside.steps + 1)) Flip c.args.self.now.matrix (flipped c.args.self.now.harmonics) c.args.self.now.bots (pos 0)) (sym now)
    (flip_makes (the_view inside) c.args.self.now c.self.view_is c.self.invariant c.write.new.commands.items energy (flipped inside.system.harmonics) c.requires.alone c.requires.allowed c.requires.held c.requires.limit c.in_ok-write.ensures.ok refl (charge c))

pub invariant_of-self-2 : goal.invariant_of-self-2
invariant_of-self-2 c = (makes c).reached

pub returns-clause-ok : goal.returns-clause-ok
returns-clause-ok c = (makes c).writes

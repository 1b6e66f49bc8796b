use Rattle.std.proofs.Common.{◌≡◌, ◌+◌, ◌*◌, rules, refl, sym, ◌∙◌, ap, subst, true, cond, pos, to_z, of_z, w64}
use Rattle.std.specs.Prelude.{◌+ℤ◌}
use Rattle.nano_spec.specs.declared.commands.Command.TheVariants.{Fill}
use Rattle.nano_spec.specs.Matrix.{is_full}
use Rattle.nano_spec.specs.State.{State}
use Rattle.vox_planes.specs.Voxel.{IsWhole, with_voxel}
use Rattle.plan_tape.specs.contracts.tape.Tape.{the_view}
use Rattle.plan_tape.specs.Progress.{beside, progress_of, upkeep_of_step}
use Rattle.plan_tape.proofs.Written.{IsCharged, Makes, charged_as, fill_makes}
use Rattle.plan_tape.proofs.tape.Tape.fill.Goals as goal
use Rattle.plan_tape.proofs.tape.Tape.fill.Goals.{then-is_full, else-is_full}

at : (c : goal.After-self-1) → c.beside-at.result ≡ beside c.args.self.now c.args.d
at c = search rules

cost_is : (c : goal.After-self-1)
    → c.if-is_full.cost ≡ (cond (is_full c.args.self.now.matrix (beside c.args.self.now c.args.d)) (pos 6) (pos 12))
cost_is c =
    let by : c.if-is_full.cost ≡ cond (is_full c.matrix.result.now c.beside-at.result) (pos 6) (pos 12) =
    (elim c.if-is_full.branch [ then-is_full w ↦ (search rules) | else-is_full w ↦ (search rules) ]) in
    by ∙ (λ i. cond (is_full (c.matrix.ensures.value i) (at c i)) (pos 6) (pos 12))

charge : (c : goal.After-self-1) → IsCharged c.args.self.now 1
    (cond (is_full c.args.self.now.matrix (beside c.args.self.now c.args.d)) (pos 6) (pos 12))
    (to_z w64 (of_z w64 c.energy_after-energy.result))
charge c =
    let old = c.args.self.now in
    let value : c.energy_after-energy.result ≡ (old.energy +ℤ pos (1 * upkeep_of_step old)) +ℤ c.if-is_full.cost = search rules in
    charged_as old 1 (cond (is_full c.args.self.now.matrix (beside c.args.self.now c.args.d)) (pos 6) (pos 12)) c.energy_after-energy.result _ (search rules) (value ∙ ap (λ k. (old.energy +ℤ pos (1 * upkeep_of_step old)) +ℤ k) (cost_is c)) c.energy_after-energy.ensures.bounded

makes : (c : goal.After-self-1) → Makes c.args.self.now
    (progress_of c.self.inside.source c.write.new.commands.items c.set_voxel.new.self (c.self.inside.steps + 1))
    (Fill c.args.d) (with_voxel c.args.self.now.matrix (beside c.args.self.now c.args.d) true) c.args.self.now.harmonics
    c.args.self.now.bots (cond (is_full c.args.self.now.matrix (beside c.args.self.now c.args.d)) (pos 6) (pos 12))
makes c =
    let inside = c.self.inside in
    let energy = to_z w64 (of_z w64 c.energy_after-energy.result) in
    let matrix = with_voxel inside.system.matrix (beside c.args.self.now c.args.d) true in
    let now : c.set_voxel.new.self ≡ record inside.system { matrix = matrix; energy = energy } = c.set_voxel.ensures.value ∙ (λ i. record (c.set_energy.ensures i) { matrix = with_voxel (c.set_energy.ensures i).matrix (at c i) true }) in
    subst (λ (s : State). Makes c.args.self.now (progress_of inside.source c.write.new.commands.items s (inside.steps + 1)) (Fill c.args.d) (with_voxel c.args.self.now.matrix (beside c.args.self.now c.args.d) true) c.args.self.now.harmonics c.args.self.now.bots (cond (is_full c.args.self.now.matrix (beside c.args.self.now c.args.d)) (pos 6) (pos 12))) (sym now)
    (fill_makes (the_view inside) c.args.self.now c.self.view_is c.self.invariant c.write.new.commands.items energy c.args.d matrix c.requires.alone c.requires.allowed c.requires.reachable c.requires.held c.requires.limit c.in_ok-write.ensures.ok refl (subst (λ (s : State). IsWhole s.matrix) now c.set_voxel.ensures.whole) (charge c))

pub invariant_of-self-2 : goal.invariant_of-self-2
invariant_of-self-2 c = (makes c).reached

pub returns-clause-ok : goal.returns-clause-ok
returns-clause-ok c = (makes c).writes

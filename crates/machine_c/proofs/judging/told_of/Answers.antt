use Rattle.std.proofs.Common.{◌≡◌, ℕ, ℤ, ◌∙◌, ap, rules, length, to_z, of_z, w64}
use Rattle.nano_spec.specs.declared.system.Harmonics.{Harmonics}
use Rattle.machine_c.specs.Calls.{high_of}
use Rattle.machine_c.specs.Judging.{active_by, energy_by, harmonics_by}
use Rattle.machine_c.proofs.judging.told_of.Goals as goal

pub returns : goal.returns
returns c =
    let same : to_z w64 (of_z w64 c.energy_after.result) ≡ c.energy_after.result = search rules in
    let given : to_z w64 (of_z w64 c.energy.result) ≡ c.energy.result = search rules in
    let energy : c.energy_after.result ≡ energy_by c.args.machine.now.state.energy c.args.answer =
    c.energy_after.ensures ∙ ap (λ (n : ℤ). energy_by n c.args.answer) (given ∙ c.energy.ensures) in
    let active : c.from.result ≡ active_by (length c.args.machine.now.state.bots) c.args.answer =
    c.from.ensures ∙ (c.active_after.ensures ∙ ap (λ (n : ℕ). active_by n c.args.answer) c.active.ensures) in
    let high : c.high.result ≡ high_of (harmonics_by c.args.machine.now.state.harmonics c.args.answer) =
    c.high.ensures ∙ ap high_of (c.harmonics_after.ensures ∙ ap (λ (h : Harmonics). harmonics_by h c.args.answer) c.harmonics.ensures) in
    λ i. record {
      energy = (same ∙ energy) i;
      offset = c.offset.ensures i;
      halts = c.halts.ensures i;
      broken = c.broken_rule.ensures i;
      active = active i;
      high = high i;
      changed = c.changed.ensures i;
    }

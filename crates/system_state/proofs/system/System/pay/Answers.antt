use Rattle.std.proofs.Common.{rules, ◌≡◌, ◌+◌, ◌∙◌, sym, subst, w64, to_z, of_z}
use Rattle.std.specs.Prelude.{◌+ℤ◌, ℤ}
use Rattle.nano_spec.specs.State.{State}
use Rattle.system_state.specs.Bounds.{IsWithin}
use Rattle.system_state.proofs.Upkeep.{within_more}
use Rattle.system_state.proofs.system.System.pay.Goals as goal

pub returns-clause-within : goal.returns-clause-within
returns-clause-within c = λ k h.
    let same : to_z w64 (of_z w64 c.add_cost-self-inside.result) ≡ c.add_cost-self-inside.result = search rules in
    let had : to_z w64 (of_z w64 c.self.inside.energy) ≡ c.self.inside.energy = search rules in
    let cost : to_z w64 (of_z w64 c.args.cost) ≡ c.args.cost = search rules in
    subst (λ (z : ℤ). IsWithin (k + 357492) z) (sym (same ∙ (c.add_cost-self-inside.ensures ∙ (λ i. had i +ℤ cost i))))
    (within_more k 357492 c.self.inside.energy c.args.cost (subst (λ (t : State). IsWithin k t.energy) (sym c.self.view_is) h) c.requires.small)

use Rattle.std.proofs.Common.{◌-◌, ◌≡◌, ◌∙◌, sym, None, arith, rules}
use Rattle.vox_geom.specs.Region.{span}
use Rattle.floor_planner.proofs.Models.{flat_where, void_where}
use Rattle.floor_planner.proofs.flat.is_flat.Goals as goal

pub returns-clause-flat : goal.returns-clause-flat
returns-clause-flat c = λ t.
    let none : c.first_full.result ≡ None = search rules in
    flat_where c.args.model.now (c.resolution-most.result - 1) (span c.of-above.result) (let most_value = c.resolution-most.ensures.value in omega arith) c.of-above.ensures.covers (sym c.first_full.ensures ∙ none)

pub returns-clause-told : goal.returns-clause-told
returns-clause-told c = λ f.
    let none : c.first_full.result ≡ None = c.first_full.ensures ∙ void_where c.args.model.now (c.resolution-most.result - 1) (span c.of-above.result) (omega arith) c.of-above.ensures.covers f in
    search rules

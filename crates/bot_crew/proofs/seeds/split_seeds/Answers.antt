use Rattle.std.proofs.Common.{arith, refl, ap, ◌∙◌, ◌+◌, ◌-◌, ◌≤◌, ◌≡◌, drop, take}
use Rattle.std.proofs.lemmas.List.{drop-drop}
use Rattle.nano_spec.specs.State.{seed_list, seed_set}
use Rattle.bot_crew.proofs.Sets.{between_is, first_is}
use Rattle.bot_crew.proofs.seeds.split_seeds.Goals as goal

pub loop-taken-preserved : goal.loop-taken-preserved
loop-taken-preserved c =
    let next : 1 + c.loop-taken._taken + 1 ≡ 1 + (c.loop-taken._taken + 1) = omega arith in
    c.without_least-kept.ensures ∙ (ap (λ v. drop 1 v) c.loop-taken.invariant ∙ (drop-drop 1 (1 + c.loop-taken._taken) (seed_list c.args.seeds) ∙ ap (λ v. drop v (seed_list c.args.seeds)) next))

cut : (c : goal.After-loop-taken) → (c.loop-taken.kept ≤ c.without_least-later.result)
    × (c.without_least-later.result - c.loop-taken.kept ≡ seed_set (take c.args.m (drop 1 (seed_list c.args.seeds))))
    × (c.loop-taken.kept ≡ seed_set (drop (c.args.m + 1) (seed_list c.args.seeds)))
cut c =
    let all : c.loop-taken._taken ≡ c.args.m = omega arith in
    between_is c.without_least-later.result c.loop-taken.kept c.args.m (seed_list c.args.seeds) (omega arith) (omega arith) c.without_least-later.ensures (c.loop-taken.invariant ∙ ap (λ v. drop (1 + v) (seed_list c.args.seeds)) all)

pub overflow_sub-result : goal.overflow_sub-result
overflow_sub-result c = (cut c).0

pub returns-clause-bid : goal.returns-clause-bid
returns-clause-bid c = first_is c.args.seeds (omega arith) (seed_list c.args.seeds) refl (omega arith)

pub returns-clause-taken : goal.returns-clause-taken
returns-clause-taken c = (cut c).1

pub returns-clause-kept : goal.returns-clause-kept
returns-clause-kept c = (cut c).2

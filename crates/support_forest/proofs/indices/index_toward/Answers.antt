use Rattle.std.proofs.Common.{ℕ, ◌*◌, ap, arith}
use Rattle.support_forest.proofs.Nexts.{fits_left, fits_near, fits_under, next_far, next_left, next_near, next_over, next_right, next_under}
use Rattle.support_forest.proofs.indices.index_toward.Goals as goal

pub index_before-requires-clause-over : goal.index_before-requires-clause-over
index_before-requires-clause-over g c = fits_left _ _ g.row.D _ (let case_is = c.in-1.is in omega arith) (ap (λ (k : ℕ). k * k) c.from-row.ensures) c.requires.some

pub index_before-requires-in-3-clause-over : goal.index_before-requires-in-3-clause-over
index_before-requires-in-3-clause-over g c = λ h. let row_is = c.from-row.ensures in let fits = fits_under c.args.side c.args.index g.row.D (let case_is = c.in-3.is in omega arith) c.requires.some h in omega arith

pub index_before-requires-in-5-clause-over : goal.index_before-requires-in-5-clause-over
index_before-requires-in-5-clause-over g c = fits_near _ _ g.row.D (let case_is = c.in-5.is in omega arith) c.requires.some

pub returns-in-1 : goal.returns-in-1
returns-in-1 g c = next_left _ _ g.row.D _ _ (let case_is = c.in-1.is in omega arith) (ap (λ (k : ℕ). k * k) c.from-row.ensures) c.index_before.ensures.within c.index_before.ensures.over

pub returns-in-2 : goal.returns-in-2
returns-in-2 g c = next_right _ _ g.row.D _ _ (let case_is = c.in-2.is in omega arith) (ap (λ (k : ℕ). k * k) c.from-row.ensures) c.index_behind.ensures.within c.index_behind.ensures.over

pub returns-in-3 : goal.returns-in-3
returns-in-3 g c = next_under _ _ g.row.D _ (let case_is = c.in-3.is in omega arith) c.index_before-in-3.ensures.within (λ h. let row_is = c.from-row.ensures in let over = c.index_before-in-3.ensures.over h in omega arith)

pub returns-in-4 : goal.returns-in-4
returns-in-4 g c = next_over _ _ g.row.D _ (let case_is = c.in-4.is in omega arith) c.index_behind-in-4.ensures.within (λ h. let row_is = c.from-row.ensures in let over = c.index_behind-in-4.ensures.over h in omega arith)

pub returns-in-5 : goal.returns-in-5
returns-in-5 g c = next_near _ _ g.row.D _ (let case_is = c.in-5.is in omega arith) c.index_before-in-5.ensures.within c.index_before-in-5.ensures.over

pub returns-in_default : goal.returns-in_default
returns-in_default g c = next_far _ _ g.row.D _ (let in_default = c.in_default in let direction_required = c.requires.direction in grind arith) c.index_behind-in_default.ensures.within c.index_behind-in_default.ensures.over

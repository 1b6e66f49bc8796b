use Rattle.std.proofs.Common.{inl, inr, refl, arith}
use Rattle.support_forest.proofs.FillingOne.{around_none, on_floor, off_floor}
use Rattle.support_forest.proofs.fill_one.nothing_around.Goals as goal

pub returns-then-is_on_floor : goal.returns-then-is_on_floor
returns-then-is_on_floor c = λ w at e. around_none w at _ (inl (on_floor at c.args.is_on_floor e c.if-is_on_floor.true, refl)) refl

pub returns-else-is_on_floor : goal.returns-else-is_on_floor
returns-else-is_on_floor c = λ w at e. around_none w at _ (inr ((λ y. let above = off_floor at c.args.is_on_floor e c.if-is_on_floor.false in omega arith), refl)) refl

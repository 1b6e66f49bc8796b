use Rattle.std.proofs.Common.{◌≡◌, ◌-◌}
use Rattle.model_forge.specs.Tower.{IsInside, columns_from, highest, columns_of}
use Rattle.model_forge.proofs.tower.Tower.or_higher.Given as goal

abbrev pub invariant-loop-z : goal.invariant-loop-z
invariant-loop-z l = record {
  value : highest l.number l.r l.tower (columns_from l.x l.z (l.r - 1 - l.z)) ≡ highest l.number l.r l.fn.self (columns_of l.r l.x);
  inside : IsInside l.r l.fn.self → IsInside l.r l.tower;
}

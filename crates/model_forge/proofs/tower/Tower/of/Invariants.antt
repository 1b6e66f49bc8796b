use Rattle.std.proofs.Common.{◌≡◌, ◌-◌}
use Rattle.nano_spec.specs.Forge.{columns}
use Rattle.model_forge.specs.Tower.{IsInside, highest}
use Rattle.model_forge.proofs.Towers.{none, walls_from}
use Rattle.model_forge.proofs.tower.Tower.of.Given as goal

abbrev pub invariant-loop-x : goal.invariant-loop-x
invariant-loop-x l = record {
  value : highest l.number l.r l.tower (walls_from l.r l.x (l.r - 1 - l.x)) ≡ highest l.number l.r none (columns l.r);
  inside : IsInside l.r l.tower;
}

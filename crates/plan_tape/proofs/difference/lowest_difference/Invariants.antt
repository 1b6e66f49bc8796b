use Rattle.std.proofs.Common.{◌≡◌, ◌<◌}
use Rattle.vox_geom.specs.declared.coordinate.Coord.{Coord}
use Rattle.nano_spec.specs.Matrix.{is_full}
use Rattle.plan_tape.proofs.difference.lowest_difference.Given as goal

-- the first y layers are the same
abbrev pub invariant-loop-y : goal.invariant-loop-y
invariant-loop-y l = (c : Coord) → c.y < l.y → is_full l.source c ≡ is_full l.target c

abbrev pub ghosts-difference_in : goal.ghosts-difference_in
ghosts-difference_in a = record { name = a.blank.name; parts = a.blank.parts }

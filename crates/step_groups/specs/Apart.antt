-- Bots that act alone and do not interfere (docs/FORMATS.md, "Rules").
use Rattle.std.specs.Prelude.{List, [], ◌∷◌, IsTrue}
use Rattle.std.specs.List.{list_any}
use Rattle.vox_geom.specs.declared.coordinate.Coord.{Coord}
use Rattle.vox_geom.specs.Point.{point}
use Rattle.nano_spec.specs.Act.{Act}
use Rattle.nano_spec.specs.Volatile.{is_volatile_of}

-- no coordinate is volatile for both the bot and one of the others
abbrev pub IsApartFrom : Act → List Act → Type 0
IsApartFrom a others =
    (c : Coord) → IsTrue (is_volatile_of (point c) a) → IsTrue (list_any (is_volatile_of (point c)) others) → ⊥

-- no coordinate is volatile for two of the bots
abbrev pub AreAllApart : List Act → Type 0
AreAllApart [] = Unit {0}
AreAllApart (a ∷ more) = IsApartFrom a more × AreAllApart more

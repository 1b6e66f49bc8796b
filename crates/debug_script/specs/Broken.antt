-- The printed form of a broken rule, in runs and sessions, and of its coordinate (docs/FORMATS.md, "Printed lines").
use Rattle.std.specs.Prelude.{ℕ, List, [], ◌∷◌, ◌++◌, codes, decimal}
use Rattle.std.specs.List.{concat}
use Rattle.vox_geom.specs.declared.coordinate.Coord.{Coord}
use Rattle.nano_spec.specs.declared.outcomes.Broken.{Broken}
use Rattle.nano_spec.specs.Rule.{rule_number, name_of}

-- a line of these parts, with its line feed
abbrev pub as_line : List (List ℕ) → List ℕ
as_line parts = concat (parts ++ codes "\n" ∷ [])

-- a coordinate, as every line prints it
abbrev pub printed_place : Coord → List ℕ
printed_place c = concat (decimal c.x ∷ codes " " ∷ decimal c.y ∷ codes " " ∷ decimal c.z ∷ [])

-- the line of a broken rule
abbrev pub broken_line : Broken → List ℕ
broken_line b =
    as_line (codes "broken " ∷ decimal (rule_number b.rule) ∷ codes " " ∷ name_of b.rule ∷ codes " step "
    ∷ decimal b.step ∷ codes " bid " ∷ decimal b.bid ∷ codes " at " ∷ printed_place b.at ∷ [])

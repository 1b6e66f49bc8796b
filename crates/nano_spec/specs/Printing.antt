-- How commands are printed (this project's own: docs/FORMATS.md, "Trace text").
use Rattle.std.specs.Prelude.{ℕ, List, [], ◌∷◌, ◌++◌, flat_map, codes, decimal}
use Rattle.std.specs.Fmt.{signed_decimal}
use Rattle.vox_geom.specs.declared.difference.Diff.{Diff}
use Rattle.nano_spec.specs.declared.commands.Command.{Command}
use Rattle.nano_spec.specs.declared.commands.Command.TheVariants.{Halt, Wait, Flip, SMove, LMove, FusionP, FusionS, Fission, Fill, Void, GFill, GVoid}

-- a difference: its three numbers in decimal, as <1,-2,0>
abbrev pub printed_difference : Diff → List ℕ
printed_difference d =
    codes "<" ++ signed_decimal d.dx ++ codes "," ++ signed_decimal d.dy ++ codes "," ++ signed_decimal d.dz
    ++ codes ">"

-- a space and a difference
abbrev pub spaced : Diff → List ℕ
spaced d = codes " " ++ printed_difference d

-- a command without the end of its line: its word, its differences, and for Fission its number
abbrev pub printed : Command → List ℕ
printed Halt = codes "Halt"
printed Wait = codes "Wait"
printed Flip = codes "Flip"
printed (SMove d) = codes "SMove" ++ spaced d
printed (LMove d e) = codes "LMove" ++ spaced d ++ spaced e
printed (FusionP d) = codes "FusionP" ++ spaced d
printed (FusionS d) = codes "FusionS" ++ spaced d
printed (Fission d m) = codes "Fission" ++ spaced d ++ codes " " ++ decimal m
printed (Fill d) = codes "Fill" ++ spaced d
printed (Void d) = codes "Void" ++ spaced d
printed (GFill d f) = codes "GFill" ++ spaced d ++ spaced f
printed (GVoid d f) = codes "GVoid" ++ spaced d ++ spaced f

-- the text of a trace: a line for each command, ended by a line feed
abbrev pub print : List Command → List ℕ
print commands = flat_map (λ c. printed c ++ 10 ∷ []) commands

-- How a command is spelled in a trace file (task description, section on trace files; docs/FORMATS.md, "Trace files").
use Rattle.std.specs.Prelude.{ℕ, ◌+◌, ◌*◌, ℤ, pos, ◌+ℤ◌, unsigned_abs, cond, ◌==◌, List, [], ◌∷◌, flat_map}
use Rattle.vox_geom.specs.declared.difference.Diff.{Diff}
use Rattle.nano_spec.specs.declared.commands.Command.{Command}
use Rattle.nano_spec.specs.declared.commands.Command.TheVariants.{Halt, Wait, Flip, SMove, LMove, FusionP, FusionS, Fission, Fill, Void, GFill, GVoid}

-- the axis of a linear difference: 1 for x, 2 for y, 3 for z
abbrev pub axis : Diff → ℕ
axis d = cond (unsigned_abs d.dx == 0) (cond (unsigned_abs d.dy == 0) 3 2) 1

-- the one component of a linear difference that is not 0
abbrev pub component : Diff → ℤ
component d = (d.dx +ℤ d.dy) +ℤ d.dz

-- a component plus an offset, so that it is not negative
abbrev pub raised : ℤ → ℕ → ℕ
raised z by = unsigned_abs (z +ℤ pos by)

-- the code of a near difference
abbrev pub near_code : Diff → ℕ
near_code d = 9 * raised d.dx 1 + 3 * raised d.dy 1 + raised d.dz 1

-- the three bytes of a far difference
abbrev pub far_bytes : Diff → List ℕ
far_bytes d = raised d.dx 30 ∷ raised d.dy 30 ∷ raised d.dz 30 ∷ []

-- the one spelling of a command
abbrev pub spelling : Command → List ℕ
spelling Halt = 0b11111111 ∷ []
spelling Wait = 0b11111110 ∷ []
spelling Flip = 0b11111101 ∷ []
spelling (SMove d) = (16 * axis d + 0b0100) ∷ raised (component d) 15 ∷ []
spelling (LMove d e) =
    (64 * axis e + 16 * axis d + 0b1100) ∷ (16 * raised (component e) 5 + raised (component d) 5) ∷ []
spelling (FusionP d) = (8 * near_code d + 0b111) ∷ []
spelling (FusionS d) = (8 * near_code d + 0b110) ∷ []
spelling (Fission d m) = (8 * near_code d + 0b101) ∷ m ∷ []
spelling (Fill d) = (8 * near_code d + 0b011) ∷ []
spelling (Void d) = (8 * near_code d + 0b010) ∷ []
spelling (GFill d f) = (8 * near_code d + 0b001) ∷ far_bytes f
spelling (GVoid d f) = (8 * near_code d + 0b000) ∷ far_bytes f

-- the spellings of a list of commands, joined
abbrev pub spellings : List Command → List ℕ
spellings commands = flat_map spelling commands

-- How many bytes a command has: 1 to 4.
use Rattle.std.proofs.Common.{◌≤◌, arith, length}
use Rattle.nano_spec.specs.declared.commands.Command.{Command}
use Rattle.nano_spec.specs.declared.commands.Command.TheVariants.{Halt, Wait, Flip, SMove, LMove, FusionP, FusionS, Fission, Fill, Void, GFill, GVoid}
use Rattle.nano_spec.specs.Spelling.{spelling}

pub spelling_some : (c : Command) → 1 ≤ length (spelling c)
spelling_some Halt = omega arith
spelling_some Wait = omega arith
spelling_some Flip = omega arith
spelling_some (SMove d) = omega arith
spelling_some (LMove d e) = omega arith
spelling_some (FusionP d) = omega arith
spelling_some (FusionS d) = omega arith
spelling_some (Fission d m) = omega arith
spelling_some (Fill d) = omega arith
spelling_some (Void d) = omega arith
spelling_some (GFill d f) = omega arith
spelling_some (GVoid d f) = omega arith

pub spelling_short : (c : Command) → length (spelling c) ≤ 4
spelling_short Halt = omega arith
spelling_short Wait = omega arith
spelling_short Flip = omega arith
spelling_short (SMove d) = omega arith
spelling_short (LMove d e) = omega arith
spelling_short (FusionP d) = omega arith
spelling_short (FusionS d) = omega arith
spelling_short (Fission d m) = omega arith
spelling_short (Fill d) = omega arith
spelling_short (Void d) = omega arith
spelling_short (GFill d f) = omega arith
spelling_short (GVoid d f) = omega arith

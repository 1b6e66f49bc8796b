-- The profiles: the number of seeds of the first bot, and the allowed commands (the light profile is this project's
-- own: docs/FORMATS.md, "Profiles").
use Rattle.std.specs.Prelude.{ℕ, ◌/◌, ◌%◌, ◌^◌, ◌==◌, Bool}
use Rattle.nano_spec.specs.declared.commands.Command.{Command}
use Rattle.nano_spec.specs.declared.commands.Command.TheVariants.{Halt, Wait, Flip, SMove, LMove, FusionP, FusionS, Fission, Fill, Void, GFill, GVoid}
use Rattle.nano_spec.specs.declared.system.Profile.{Profile}

-- 39 seeds, and all twelve commands
abbrev pub full_profile : Profile
full_profile = record { seeds = 39; allowed = 0x0FFF }

-- 19 seeds, and all commands but Void, GFill and GVoid
abbrev pub light_profile : Profile
light_profile = record { seeds = 19; allowed = 0x01FF }

-- the index of a command's word among the twelve, counted from 0
abbrev pub index_of : Command → ℕ
index_of Halt = 0
index_of Wait = 1
index_of Flip = 2
index_of (SMove d) = 3
index_of (LMove d e) = 4
index_of (FusionP d) = 5
index_of (FusionS d) = 6
index_of (Fission d m) = 7
index_of (Fill d) = 8
index_of (Void d) = 9
index_of (GFill d f) = 10
index_of (GVoid d f) = 11

-- whether the profile allows the command: the bit at the command's index is 1
abbrev pub is_allowed : Profile → Command → Bool
is_allowed profile command = profile.allowed / 2 ^ index_of command % 2 == 1

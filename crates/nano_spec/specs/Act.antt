-- The act of a bot in a step: the points and regions that its command names (task description, section on commands;
-- docs/FORMATS.md, "Commands").
use Rattle.std.specs.Prelude.{ℕ, Bool, true, false, List, [], ◌∷◌}
use Rattle.std.specs.List.{list_all}
use Rattle.vox_geom.specs.declared.difference.Diff.{Diff}
use Rattle.vox_geom.specs.Point.{Point, point, plus}
use Rattle.vox_geom.specs.Region.{Span, between, just}
use Rattle.vox_geom.specs.Space.{in_space}
use Rattle.nano_spec.specs.declared.commands.Command.{Command}
use Rattle.nano_spec.specs.declared.commands.Command.TheVariants.{Halt, Wait, Flip, SMove, LMove, FusionP, FusionS, Fission, Fill, Void, GFill, GVoid}
use Rattle.nano_spec.specs.declared.system.Bot.{Bot}

-- a bot and its command
pub record Act : Type 0 where
  pub bot : Bot
  pub command : Command

-- the i-th command belongs to the i-th bot
abbrev pub acts : List Bot → List Command → List Act
acts [] commands = []
acts (bot ∷ bots) [] = []
acts (bot ∷ bots) (command ∷ commands) = record { bot = bot; command = command } ∷ acts bots commands

-- the position of the bot
abbrev pub position : Act → Point
position a = point a.bot.pos

-- the coordinates that a command of a bot at p names
abbrev pub named_points : Point → Command → List Point
named_points p Halt = []
named_points p Wait = []
named_points p Flip = []
named_points p (SMove d) = plus p d ∷ []
named_points p (LMove d e) = plus p d ∷ plus (plus p d) e ∷ []
named_points p (FusionP d) = plus p d ∷ []
named_points p (FusionS d) = plus p d ∷ []
named_points p (Fission d m) = plus p d ∷ []
named_points p (Fill d) = plus p d ∷ []
named_points p (Void d) = plus p d ∷ []
named_points p (GFill d f) = plus p d ∷ plus (plus p d) f ∷ []
named_points p (GVoid d f) = plus p d ∷ plus (plus p d) f ∷ []

-- whether all coordinates that the command names are in a matrix of resolution r
abbrev pub stays_in_space : ℕ → Act → Bool
stays_in_space r a = list_all (in_space r) (named_points (position a) a.command)

-- the regions that have to be void for the command: those that it moves through, and the position of a new bot
abbrev pub ways : Point → Command → List Span
ways p (SMove d) = between p (plus p d) ∷ []
ways p (LMove d e) = between p (plus p d) ∷ between (plus p d) (plus (plus p d) e) ∷ []
ways p (Fission d m) = just (plus p d) ∷ []
ways p _ = []

-- the region of a group command of a bot at p, between both of its corners
abbrev pub between_corners : Point → Diff → Diff → Span
between_corners p d f = between (plus p d) (plus (plus p d) f)

-- the region of a command that is a group command
abbrev pub group_regions : Point → Command → List Span
group_regions p (GFill d f) = between_corners p d f ∷ []
group_regions p (GVoid d f) = between_corners p d f ∷ []
group_regions p _ = []

-- the regions that the command fills
abbrev pub filled : Point → Command → List Span
filled p (Fill d) = just (plus p d) ∷ []
filled p (GFill d f) = between_corners p d f ∷ []
filled p _ = []

-- the regions that the command voids
abbrev pub voided : Point → Command → List Span
voided p (Void d) = just (plus p d) ∷ []
voided p (GVoid d f) = between_corners p d f ∷ []
voided p _ = []

-- whether the command is a Halt
abbrev pub is_halt : Command → Bool
is_halt Halt = true
is_halt _ = false

-- whether the command is a Flip
abbrev pub is_flip : Command → Bool
is_flip Flip = true
is_flip _ = false

-- whether the command is one half of a fusion
abbrev pub is_fusion : Command → Bool
is_fusion (FusionP d) = true
is_fusion (FusionS d) = true
is_fusion _ = false

-- The groups of a step: bots that act together (task description, sections on fusion and on group commands;
-- docs/FORMATS.md, "Groups").
use Rattle.std.specs.Prelude.{Bool, false, ◌&&◌, ◌||◌, nat_le, ◌==◌, List, filter}
use Rattle.std.specs.List.{list_all}
use Rattle.vox_geom.specs.Point.{Point, plus, same_point}
use Rattle.vox_geom.specs.Region.{same_region}
use Rattle.nano_spec.specs.declared.commands.Command.{Command}
use Rattle.nano_spec.specs.declared.commands.Command.TheVariants.{FusionP, FusionS, GFill, GVoid}
use Rattle.nano_spec.specs.Act.{Act, position, between_corners}

-- whether a bot at p and a bot at q fuse: each one's difference leads to the other
abbrev pub fuse : Point → Command → Point → Command → Bool
fuse p (FusionP d) q (FusionS e) = same_point (plus p d) q && same_point (plus q e) p
fuse p _ q _ = false

-- whether the one bot is the primary and the other the secondary of a fusion
abbrev pub is_pair : Act → Act → Bool
is_pair a b = fuse (position a) a.command (position b) b.command

-- whether a bot at p and a bot at q have the same group command and the same region
abbrev pub share_region : Point → Command → Point → Command → Bool
share_region p (GFill d f) q (GFill e g) = same_region (between_corners p d f) (between_corners q e g)
share_region p (GVoid d f) q (GVoid e g) = same_region (between_corners p d f) (between_corners q e g)
share_region p _ q _ = false

-- whether two bots are partners in a fusion
abbrev pub are_partners : Act → Act → Bool
are_partners a b = is_pair a b || is_pair b a

-- whether two bots are of one group: one bot, partners in a fusion, or members of one group command
abbrev pub are_together : Act → Act → Bool
are_together a b =
    a.bot.bid == b.bot.bid || are_partners a b || share_region (position a) a.command (position b) b.command

-- the bots of the group of a bot, in rising order of their bids
abbrev pub members : List Act → Act → List Act
members all a = filter (are_together a) all

-- whether the bot leads its group: no member has a lesser bid
abbrev pub is_leader : List Act → Act → Bool
is_leader all a = list_all (λ b. nat_le a.bot.bid b.bot.bid) (members all a)

-- the leaders in rising order of their bids
abbrev pub leaders : List Act → List Act
leaders all = filter (is_leader all) all

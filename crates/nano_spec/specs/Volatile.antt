-- The volatile coordinates of a group (task description, section on commands; docs/FORMATS.md, "Commands" and
-- "Groups").
use Rattle.std.specs.Prelude.{Bool, List, [], ◌∷◌}
use Rattle.std.specs.List.{list_any}
use Rattle.vox_geom.specs.Point.{Point, plus}
use Rattle.vox_geom.specs.Region.{between, Span, just, is_within}
use Rattle.nano_spec.specs.declared.commands.Command.{Command}
use Rattle.nano_spec.specs.declared.commands.Command.TheVariants.{Halt, Wait, Flip, SMove, LMove, FusionP, FusionS, Fission, Fill, Void, GFill, GVoid}
use Rattle.nano_spec.specs.Act.{Act, position, between_corners}
use Rattle.nano_spec.specs.Group.{members}

-- the regions that a bot at p with this command makes volatile
abbrev pub volatile_regions : Point → Command → List Span
volatile_regions p Halt = just p ∷ []
volatile_regions p Wait = just p ∷ []
volatile_regions p Flip = just p ∷ []
volatile_regions p (SMove d) = between p (plus p d) ∷ []
volatile_regions p (LMove d e) = between p (plus p d) ∷ between (plus p d) (plus (plus p d) e) ∷ []
volatile_regions p (FusionP d) = just p ∷ []
volatile_regions p (FusionS d) = just p ∷ []
volatile_regions p (Fission d m) = just p ∷ just (plus p d) ∷ []
volatile_regions p (Fill d) = just p ∷ just (plus p d) ∷ []
volatile_regions p (Void d) = just p ∷ just (plus p d) ∷ []
volatile_regions p (GFill d f) = just p ∷ between_corners p d f ∷ []
volatile_regions p (GVoid d f) = just p ∷ between_corners p d f ∷ []

-- whether a point is volatile for one bot
abbrev pub is_volatile_of : Point → Act → Bool
is_volatile_of c a = list_any (λ s. is_within s c) (volatile_regions (position a) a.command)

-- whether a point is volatile for the group of a leader: it is so for one of its members
abbrev pub is_volatile : List Act → Act → Point → Bool
is_volatile all leader c = list_any (is_volatile_of c) (members all leader)

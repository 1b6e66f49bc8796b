-- A bot's action in a step, in coordinates (docs/FORMATS.md, "Commands").
use Rattle.std.specs.Prelude.{◌≡◌, ℕ, true, false, List, [], ◌∷◌, IsTrue}
use Rattle.vox_geom.specs.declared.coordinate.Coord.{Coord}
use Rattle.vox_geom.specs.Point.{Point, point, plus}
use Rattle.vox_geom.specs.Region.{Corners, corners}
use Rattle.vox_geom.specs.Space.{coordinate}
use Rattle.nano_spec.specs.declared.commands.Command.{Command}
use Rattle.nano_spec.specs.declared.commands.Command.TheVariants.{Halt, Wait, Flip, SMove, LMove, FusionP, FusionS, Fission, Fill, Void, GFill, GVoid}
use Rattle.nano_spec.specs.declared.system.Bot.{Bot}
use Rattle.nano_spec.specs.Act.{stays_in_space}
use Rattle.step_groups.specs.declared.deed.Deed.{Deed}
use Rattle.step_groups.specs.declared.deed.Deed.TheVariants.{Waits, Flips, Halts, Moves, Bends, Splits, Fuses, Edits}
use Rattle.step_groups.specs.Judging.{act}

-- the action of a bot at p by a command whose coordinates are in space
abbrev pub deed_by : Point → Command → Deed
deed_by p Halt = Halts
deed_by p Wait = Waits
deed_by p Flip = Flips
deed_by p (SMove d) = Moves (coordinate (plus p d))
deed_by p (LMove d e) = Bends (coordinate (plus p d)) (coordinate (plus (plus p d) e))
deed_by p (FusionP d) = Fuses (coordinate (plus p d)) true
deed_by p (FusionS d) = Fuses (coordinate (plus p d)) false
deed_by p (Fission d m) = Splits (coordinate (plus p d)) m
deed_by p (Fill d) = Edits (coordinate (plus p d)) (coordinate (plus p d)) true false
deed_by p (Void d) = Edits (coordinate (plus p d)) (coordinate (plus p d)) false false
deed_by p (GFill d f) = Edits (coordinate (plus p d)) (coordinate (plus (plus p d) f)) true true
deed_by p (GVoid d f) = Edits (coordinate (plus p d)) (coordinate (plus (plus p d) f)) false true

-- the command has this action, and its coordinates are in space
pub record IsDeed (r : ℕ) (bot : Bot) (command : Command) (deed : Deed) : Type 0 where
  pub stays : IsTrue (stays_in_space r (act bot command))
  pub is : deed ≡ deed_by (point bot.pos) command

-- the boxes that a bot makes volatile by its action, from its position
abbrev pub boxes_of : Coord → Deed → List Corners
boxes_of from (Moves to) = corners from to ∷ []
boxes_of from (Bends middle to) = corners from middle ∷ corners middle to ∷ []
boxes_of from (Splits to seeds) = corners from from ∷ corners to to ∷ []
boxes_of from (Edits near far full together) = corners from from ∷ corners near far ∷ []
boxes_of from _ = corners from from ∷ []

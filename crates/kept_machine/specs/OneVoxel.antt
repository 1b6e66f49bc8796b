-- Steps of the only bot that fill or void one voxel.
use Rattle.std.specs.Prelude.{◌≡◌, ◌⊎◌, ℕ, Bool, cond, not, ◌&&◌, ◌||◌, List, [], ◌∷◌, IsTrue}
use Rattle.vox_geom.specs.declared.coordinate.Coord.{Coord}
use Rattle.vox_geom.specs.declared.difference.Diff.{Diff}
use Rattle.vox_geom.specs.Point.{plus, point}
use Rattle.vox_geom.specs.Space.{in_space}
use Rattle.nano_spec.specs.declared.commands.Command.{Command}
use Rattle.nano_spec.specs.declared.commands.Command.TheVariants.{Fill, Void}
use Rattle.nano_spec.specs.declared.system.Bot.{Bot}
use Rattle.nano_spec.specs.State.{State}

-- there is one bot, which fills or voids the voxel at the coordinate
pub record IsOnlyVoxel (s : State) (commands : List Command) (c : Coord) : Type 0 where
  pub bot : Bot
  pub towards : Diff
  pub alone : s.bots ≡ bot ∷ []
  pub edits : (commands ≡ Fill towards ∷ []) ⊎ (commands ≡ Void towards ∷ [])
  pub within : IsTrue (in_space s.matrix.resolution (plus (point bot.pos) towards))
  pub there : point c ≡ plus (point bot.pos) towards

-- 1 if two states of a voxel differ
abbrev pub one_if_apart : Bool → Bool → ℕ
one_if_apart before after = cond ((before && not after) || (after && not before)) 1 0

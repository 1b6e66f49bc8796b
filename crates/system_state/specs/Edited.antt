-- The voxels that a command fills or voids (docs/FORMATS.md, "Commands").
use Rattle.std.specs.Prelude.{◌≡◌, ℕ, ◌≤◌, ℤ, pos, negsuc, Bool, cond, [], ◌∷◌}
use Rattle.vox_geom.specs.Point.{Point, point}
use Rattle.vox_geom.specs.Region.{IsOrdered, Span, is_within, size, span}
use Rattle.vox_geom.specs.Space.{IsInSpace}
use Rattle.nano_spec.specs.declared.commands.Command.{Command}
use Rattle.nano_spec.specs.declared.system.Bot.{Bot}
use Rattle.nano_spec.specs.Act.{filled, voided}
use Rattle.system_state.specs.declared.edited.EditedRegion.{EditedRegion}

-- the command fills and voids nothing
pub record IsIdle (bot : Bot) (command : Command) : Type 0 where
  pub filled : filled (point bot.pos) command ≡ []
  pub voided : voided (point bot.pos) command ≡ []

-- the command fills the region (or voids it), and nothing else; it names the region by two of its corners
pub record IsEditedRegion (r : ℕ) (bot : Bot) (command : Command) (w : EditedRegion) : Type 0 where
  pub named : Span
  pub filled : filled (point bot.pos) command ≡ cond w.full (named ∷ []) []
  pub voided : voided (point bot.pos) command ≡ cond w.full [] (named ∷ [])
  pub covers : (p : Point) → is_within (span w.region) p ≡ is_within named p
  pub ordered : IsOrdered w.region
  pub within : IsInSpace r w.region.high
  pub small : size named ≤ 29791

-- the cost of filling (or voiding) a voxel that was full or void, without the upkeep
abbrev pub edit_cost : Bool → Bool → ℤ
edit_cost full was_full = cond full (cond was_full (pos 6) (pos 12)) (cond was_full (negsuc 11) (pos 3))

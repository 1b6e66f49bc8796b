-- Steps of all bots: each moves, fills, splits or fuses, or waits, or all make one region full or void together
-- (docs/FORMATS.md, "Commands" and "Groups").
use Rattle.std.specs.Prelude.{◌≡◌, ◌+◌, ◌+ℤ◌, pos, Bool, ◌||◌, List, [], ◌∷◌, ◌++◌, length, map, flat_map, IsFalse}
use Rattle.std.specs.List.{AllByRecursion}
use Rattle.vox_geom.specs.Point.{Point, plus}
use Rattle.vox_geom.specs.Region.{Span, between}
use Rattle.nano_spec.specs.declared.commands.Command.{Command}
use Rattle.nano_spec.specs.declared.commands.Command.TheVariants.{Wait, SMove, FusionP, FusionS, Fission, Fill}
use Rattle.nano_spec.specs.declared.system.Bot.{Bot}
use Rattle.nano_spec.specs.declared.system.Harmonics.{Harmonics}
use Rattle.nano_spec.specs.Act.{Act, acts, is_flip, position}
use Rattle.nano_spec.specs.Bots.{in_rising_order, newborn, parent, successors}
use Rattle.nano_spec.specs.Energy.{groups_cost}
use Rattle.nano_spec.specs.Matrix.{Matrix, is_full, matrix_where}
use Rattle.nano_spec.specs.Spelling.{spellings}
use Rattle.nano_spec.specs.Step.{after, is_filled}
use Rattle.step_order.specs.Acting.{goal_of, gone}
use Rattle.step_order.specs.Apart.{LieApart}
use Rattle.step_order.specs.Unbroken.{AreFree, AreOneGroup, IsFreeWay}
use Rattle.plan_tape.specs.Progress.{IsAllowed, TapeState, bytes, state_of, upkeep_of_step}

-- the condition for a bot at a point to wait, or to move along an axis
abbrev pub MayGo : Matrix → Point → Command → Type 0
MayGo m p Wait = Unit {0}
MayGo m p (SMove d) = IsFreeWay m p (plus p d)
MayGo m p _ = ⊥

-- the profile allows the bot's command, and it waits or moves on a free path
pub record CanGo (p : TapeState) (a : Act) : Type 0 where
  pub allowed : IsAllowed p a.command
  pub may : MayGo p.matrix (position a) a.command

-- the path of a bot that waits or moves: from its position to the next
abbrev pub way : Act → Span
way a = between (position a) (goal_of (position a) a.command)

-- the paths of any two are disjoint
abbrev pub AreWaysApart : List Act → Type 0
AreWaysApart [] = Unit {0}
AreWaysApart (a ∷ more) = AllByRecursion (λ b. LieApart (way a) (way b)) more × AreWaysApart more

-- each of the bots waits or moves, and their paths are disjoint
pub record CanMoveAll (p : TapeState) (commands : List Command) : Type 0 where
  pub each : AllByRecursion (CanGo p) (acts p.bots commands)
  pub apart : AreWaysApart (acts p.bots commands)

-- the tape after a step of all bots: the matrix, the harmonics and the bots, and the cost
pub record AllStep (old new : TapeState) (commands : List Command) (m : Matrix) (h : Harmonics) (bots : List Bot)
    : Type 0 where
  pub source : new.source ≡ old.source
  pub profile : new.profile ≡ old.profile
  pub added : new.commands ≡ old.commands ++ commands
  pub matrix : new.matrix ≡ m
  pub harmonics : new.harmonics ≡ h
  pub bots_are : new.bots ≡ bots
  pub energy : new.energy ≡ (old.energy +ℤ pos (upkeep_of_step old)) +ℤ groups_cost old.matrix (acts old.bots commands)
  pub steps : new.steps ≡ old.steps + 1
  pub bytes_are : bytes new ≡ bytes old + length (spellings commands)

-- no bot has a group command or a Flip, each command is possible, and any two fuse or do not interfere
pub record AreCalm (p : TapeState) (commands : List Command) : Type 0 where
  pub free : AreFree (state_of p) (acts p.bots commands)
  pub calm : AllByRecursion (λ a. IsFalse (is_flip a.command)) (acts p.bots commands)

-- the tape after a step of such bots
abbrev pub CalmStep : TapeState → TapeState → List Command → Type 0
CalmStep old new commands =
    AllStep old new commands (after (state_of old) commands).matrix old.harmonics (after (state_of old) commands).bots

-- the bots after their moves
abbrev pub bots_gone : List Bot → List Command → List Bot
bots_gone bots commands = map gone (acts bots commands)

-- the bots are one group, which makes some region full or void
pub record CanPaintAll (p : TapeState) (commands : List Command) : Type 0 where
  pub region : Span
  pub full : Bool
  pub group : AreOneGroup (state_of p) region full (acts p.bots commands)

-- ---- bots that fill, split or fuse while the others wait

-- the command fills a voxel, or waits
abbrev pub FillsOrWaits : Command → Type 0
FillsOrWaits Wait = Unit {0}
FillsOrWaits (Fill d) = Unit {0}
FillsOrWaits _ = ⊥

-- the command splits its bot, or waits
abbrev pub SplitsOrWaits : Command → Type 0
SplitsOrWaits Wait = Unit {0}
SplitsOrWaits (Fission d m) = Unit {0}
SplitsOrWaits _ = ⊥

-- the command is one half of a fusion, or waits
abbrev pub FusesOrWaits : Command → Type 0
FusesOrWaits Wait = Unit {0}
FusesOrWaits (FusionP d) = Unit {0}
FusesOrWaits (FusionS d) = Unit {0}
FusesOrWaits _ = ⊥

-- the matrix with the voxels that the bots fill
abbrev pub with_fills : Matrix → List Act → Matrix
with_fills m all = matrix_where m.resolution (λ c. is_filled all c || is_full m c)

-- a bot that waits, or the bots that it splits into
abbrev pub parts : Act → Command → List Bot
parts a (Fission d m) = parent a.bot m ∷ newborn a.bot (plus (position a) d) m ∷ []
parts a _ = a.bot ∷ []

-- the bots after some have split, in rising order of their bids
abbrev pub bots_split : List Bot → List Command → List Bot
bots_split bots commands = in_rising_order (flat_map (λ a. parts a a.command) (acts bots commands))

-- the bots after some have fused, in their order: the successors of each
abbrev pub bots_fused : List Bot → List Command → List Bot
bots_fused bots commands = flat_map (λ a. successors (acts bots commands) a a.command) (acts bots commands)

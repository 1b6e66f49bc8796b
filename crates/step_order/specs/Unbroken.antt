-- The needs of bots so that a step breaks no rule, by kinds of commands (docs/FORMATS.md, "Commands" and "Rules").
use Rattle.std.specs.Prelude.{◌≡◌, ℕ, ◌<◌, ◌^◌, Bool, true, false, List, length, flat_map, IsTrue, IsFalse}
use Rattle.std.specs.List.{AllByRecursion, Contains}
use Rattle.vox_geom.specs.declared.coordinate.Coord.{Coord}
use Rattle.vox_geom.specs.Point.{Point, point, plus}
use Rattle.vox_geom.specs.Region.{Span, between, dimension, is_within, same_region}
use Rattle.vox_geom.specs.Space.{in_space}
use Rattle.nano_spec.specs.declared.commands.Command.{Command}
use Rattle.nano_spec.specs.declared.commands.Command.TheVariants.{Halt, Wait, Flip, SMove, LMove, FusionP, FusionS, Fission, Fill, Void, GFill, GVoid}
use Rattle.nano_spec.specs.declared.system.Harmonics.TheVariants.{Low}
use Rattle.nano_spec.specs.Act.{Act, position}
use Rattle.nano_spec.specs.Group.{are_partners}
use Rattle.nano_spec.specs.Matrix.{Matrix, is_full}
use Rattle.nano_spec.specs.Profile.{is_allowed}
use Rattle.nano_spec.specs.Rules.{corners_of, repeats}
use Rattle.nano_spec.specs.State.{State, origin, seed_list}
use Rattle.step_order.specs.Apart.{DoNotInterfere}

-- no full voxel is in the region
abbrev pub IsVoid : Matrix → Span → Type 0
IsVoid m s = (c : Coord) → IsTrue (is_within s (point c)) → is_full m c ≡ false

-- the path from one point to another ends in space and is void
pub record IsFreeWay (m : Matrix) (p q : Point) : Type 0 where
  pub within : IsTrue (in_space m.resolution q)
  pub void : IsVoid m (between p q)

-- the only bot is at the origin, under Low
pub record MayHalt (s : State) (a : Act) : Type 0 where
  pub alone : length s.bots ≡ 1
  pub home : position a ≡ point origin
  pub low : s.harmonics ≡ Low

-- the other bot of the fusion is at the end of the difference, in space
pub record HasPartner (r : ℕ) (all : List Act) (a : Act) (q : Point) : Type 0 where
  pub within : IsTrue (in_space r q)
  pub other : Act
  pub here : Contains all other
  pub partners : IsTrue (are_partners a other)

-- the needs of a bot for a command that is no group command
abbrev pub MayAct : State → List Act → Act → Command → Type 0
MayAct s all a Halt = MayHalt s a
MayAct s all a Wait = Unit {0}
MayAct s all a Flip = Unit {0}
MayAct s all a (SMove d) = IsFreeWay s.matrix (position a) (plus (position a) d)
MayAct s all a (LMove d e) =
    IsFreeWay s.matrix (position a) (plus (position a) d)
    × IsFreeWay s.matrix (plus (position a) d) (plus (plus (position a) d) e)
MayAct s all a (FusionP d) = HasPartner s.matrix.resolution all a (plus (position a) d)
MayAct s all a (FusionS d) = HasPartner s.matrix.resolution all a (plus (position a) d)
MayAct s all a (Fission d m) =
    IsFreeWay s.matrix (plus (position a) d) (plus (position a) d) × m < length (seed_list a.bot.seeds)
MayAct s all a (Fill d) = IsTrue (in_space s.matrix.resolution (plus (position a) d))
MayAct s all a (Void d) = IsTrue (in_space s.matrix.resolution (plus (position a) d))
MayAct s all a (GFill d f) = ⊥
MayAct s all a (GVoid d f) = ⊥

-- the profile allows the bot's command, and the bot has what it needs for it
pub record IsFree (s : State) (all : List Act) (a : Act) : Type 0 where
  pub allowed : IsTrue (is_allowed s.profile a.command)
  pub may : MayAct s all a a.command

-- no bot has a group command, each has what it needs, and any two fuse or have disjoint volatile regions
pub record AreFree (s : State) (all : List Act) : Type 0 where
  pub each : AllByRecursion (IsFree s all) all
  pub untangled : DoNotInterfere all

-- ---- one group

-- the region between two corners is this one, in space, and the bot is outside
pub record IsCornered (r : ℕ) (region : Span) (p near far : Point) : Type 0 where
  pub near_within : IsTrue (in_space r near)
  pub far_within : IsTrue (in_space r far)
  pub same : IsTrue (same_region (between near far) region)
  pub outside : IsFalse (is_within region p)

-- the command of a bot at p fills the region, or voids it, together with others
abbrev pub MayJoin : ℕ → Span → Bool → Point → Command → Type 0
MayJoin r region true p (GFill d f) = IsCornered r region p (plus p d) (plus (plus p d) f)
MayJoin r region false p (GVoid d f) = IsCornered r region p (plus p d) (plus (plus p d) f)
MayJoin r region full p _ = ⊥

-- the profile allows the bot's command, which fills or voids the region together with others
pub record IsMember (s : State) (region : Span) (full : Bool) (a : Act) : Type 0 where
  pub allowed : IsTrue (is_allowed s.profile a.command)
  pub joins : MayJoin s.matrix.resolution region full (position a) a.command

-- all bots fill or void the region together, one at each of its corners
pub record AreOneGroup (s : State) (region : Span) (full : Bool) (all : List Act) : Type 0 where
  pub each : AllByRecursion (IsMember s region full) all
  pub many : length all ≡ 2 ^ dimension region
  pub corners : IsFalse (repeats (flat_map (λ a. corners_of (position a) a.command) all))

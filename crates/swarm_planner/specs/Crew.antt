-- The positions of a crew's bots, and steps of them all (docs/FORMATS.md, "Commands").
use Rattle.std.specs.Prelude.{◌≡◌, ℕ, ◌+◌, ◌≤◌, ◌<◌, ◌==◌, pos, ◌-ℤ◌, cond, max, List, [], ◌∷◌, map}
use Rattle.vox_geom.specs.declared.coordinate.Coord.{Coord}
use Rattle.vox_geom.specs.Space.{IsInSpace}
use Rattle.nano_spec.specs.declared.commands.Command.{Command}
use Rattle.nano_spec.specs.declared.commands.Command.TheVariants.{SMove, Wait}
use Rattle.nano_spec.specs.declared.system.Bot.{Bot}
use Rattle.nano_spec.specs.declared.system.Harmonics.TheVariants.{High}
use Rattle.nano_spec.specs.Profile.{light_profile}
use Rattle.plan_tape.specs.declared.axis.Axis.{Axis}
use Rattle.plan_tape.specs.declared.axis.Axis.TheVariants.{X, Y, Z}
use Rattle.plan_tape.specs.Leg.{along, component_of, gap}
use Rattle.plan_tape.specs.Progress.{TapeState, spot}
use Rattle.swarm_planner.specs.Strips.{held, next, strip_row}
use Rattle.swarm_planner.specs.Bounds.{width}

-- the positions of the bots
abbrev pub places : List Bot → List Coord
places bots = map (λ b. b.pos) bots

-- the bots, each at another position
abbrev pub placed : List Bot → List Coord → List Bot
placed [] cs = []
placed (b ∷ bots) [] = []
placed (b ∷ bots) (c ∷ cs) = record { bid = b.bid; pos = c; seeds = b.seeds } ∷ placed bots cs

-- under High, with the light profile
pub record IsSwarm (p : TapeState) : Type 0 where
  pub high : p.harmonics ≡ High
  pub light : p.profile ≡ light_profile

-- ---- moves along an axis

-- the command that moves a bot along an axis from one position to another
abbrev pub lead : Axis → Coord → Coord → Command
lead axis p q =
    cond (component_of axis p == component_of axis q) Wait
    (SMove (along axis (pos (component_of axis q) -ℤ pos (component_of axis p))))

-- the commands that move bots along an axis to positions
abbrev pub led : Axis → List Bot → List Coord → List Command
led axis [] cs = []
led axis (b ∷ bots) [] = []
led axis (b ∷ bots) (c ∷ cs) = lead axis b.pos c ∷ led axis bots cs

-- the commands that lead bots along an axis into a row
abbrev pub row_led : Axis → ℕ → ℕ → List Bot → Coord → List Command
row_led axis w l [] c = []
row_led axis w l (b ∷ bots) c = lead axis b.pos (held l c) ∷ row_led axis w l bots (next w c)

-- both positions are on a line along the axis
abbrev pub AreAlong : Axis → Coord → Coord → Type 0
AreAlong X p q = (p.y ≡ q.y) × (p.z ≡ q.z)
AreAlong Y p q = (p.x ≡ q.x) × (p.z ≡ q.z)
AreAlong Z p q = (p.x ≡ q.x) × (p.y ≡ q.y)

-- one move leads along the axis from one position to another, both from a column on and from a height on
pub record IsLed (r h : ℕ) (axis : Axis) (low : ℕ) (p q : Coord) : Type 0 where
  pub line : AreAlong axis p q
  pub near : gap (component_of axis p) (component_of axis q) ≤ 15
  pub from : IsInSpace r p
  pub to : IsInSpace r q
  pub high_from : h ≤ p.y
  pub high_to : h ≤ q.y
  pub low_from : low ≤ p.x
  pub low_to : low ≤ q.x

-- so do all the moves, each of them in columns past those of the moves before it
abbrev pub AreLed : ℕ → ℕ → Axis → ℕ → List Coord → List Coord → Type 0
AreLed r h axis low [] [] = Unit {0}
AreLed r h axis low [] (q ∷ qs) = ⊥
AreLed r h axis low (p ∷ ps) [] = ⊥
AreLed r h axis low (p ∷ ps) (q ∷ qs) = IsLed r h axis low p q × AreLed r h axis (max p.x q.x + 1) ps qs

-- the tape after moves of the crew in at most this many steps
pub record CrewGoes (old new : TapeState) (cs : List Coord) (most : ℕ) : Type 0 where
  pub source : new.source ≡ old.source
  pub matrix : new.matrix ≡ old.matrix
  pub swarm : IsSwarm new
  pub bots_are : new.bots ≡ placed old.bots cs
  pub steps_are : new.steps ≤ old.steps + most

-- one move leads along the axis from one position to another
pub record IsNearOn (axis : Axis) (p q : Coord) : Type 0 where
  pub from : component_of axis p ≤ 400
  pub to : component_of axis q ≤ 400
  pub near : gap (component_of axis p) (component_of axis q) ≤ 15

-- so it does from each bot's position into a row
abbrev pub AreNear : Axis → ℕ → ℕ → List Bot → Coord → Type 0
AreNear axis w l [] c = Unit {0}
AreNear axis w l (b ∷ bots) c = IsNearOn axis b.pos (held l c) × AreNear axis w l bots (next w c)

-- ---- the row of all strips

-- the first bot may lead the row to this position
pub record MayLead (r : ℕ) (c : Coord) : Type 0 where
  pub some : 3 ≤ r
  pub most : r ≤ 400
  pub first : 1 ≤ c.x
  pub wide : c.x ≤ width r
  pub y : c.y < r
  pub z : c.z < r

-- there is a bot in each strip, and all are in a row
pub record InRow (p : TapeState) : Type 0 where
  pub places_are : places p.bots ≡ strip_row p.matrix.resolution (spot p.bots)
  pub leads : MayLead p.matrix.resolution (spot p.bots)

-- the tape after moves of the row, until the first bot is there, in at most this many steps
pub record RowGoes (old new : TapeState) (to : Coord) (most : ℕ) : Type 0 where
  pub source : new.source ≡ old.source
  pub matrix : new.matrix ≡ old.matrix
  pub swarm : IsSwarm new
  pub row : InRow new
  pub there : spot new.bots ≡ to
  pub steps_are : new.steps ≤ old.steps + most

-- The visible parts of a tape, and the effect of its calls (docs/FORMATS.md, "Commands" and "Rules").
use Rattle.std.specs.Prelude.{◌≡◌, ℕ, ◌+◌, ◌*◌, ◌≤◌, ℤ, pos, ◌+ℤ◌, ◌≤ℤ◌, neg_ℤ, unsigned_abs, false, List, [], ◌∷◌, ◌++◌, length, None, IsTrue, All, ◌-◌}
use Rattle.vox_geom.specs.declared.coordinate.Coord.{Coord}
use Rattle.vox_geom.specs.declared.difference.Diff.{Diff}
use Rattle.vox_geom.specs.Point.{point, plus, coord}
use Rattle.vox_geom.specs.Space.{coordinate, IsInSpace, in_space}
use Rattle.nano_spec.specs.declared.commands.Command.{Command}
use Rattle.nano_spec.specs.declared.outcomes.Verdict.TheVariants.{Accepted}
use Rattle.nano_spec.specs.declared.system.Bot.{Bot}
use Rattle.nano_spec.specs.declared.system.Harmonics.{Harmonics}
use Rattle.nano_spec.specs.declared.system.Harmonics.TheVariants.{Low}
use Rattle.nano_spec.specs.declared.system.Profile.{Profile}
use Rattle.nano_spec.specs.Energy.{upkeep}
use Rattle.nano_spec.specs.Grounded.{FirstUngrounded}
use Rattle.nano_spec.specs.Matrix.{Matrix, is_full}
use Rattle.nano_spec.specs.Profile.{is_allowed}
use Rattle.nano_spec.specs.Spelling.{spelling, spellings}
use Rattle.nano_spec.specs.State.{State, opening, origin}
use Rattle.nano_spec.specs.Step.{after}
use Rattle.nano_spec.specs.Verdict.{VerdictOf}
use Rattle.vox_planes.specs.Voxel.{IsWhole}
use Rattle.plan_tape.specs.Reaches.{Reaches}

-- the source, the commands, the parts of the state that they reach, and the number of their steps
pub record TapeState : Type 0 where
  pub source : Matrix
  pub commands : List Command
  pub matrix : Matrix
  pub harmonics : Harmonics
  pub bots : List Bot
  pub energy : ℤ
  pub profile : Profile
  pub steps : ℕ

-- the state
abbrev pub state_of : TapeState → State
state_of p =
    record { matrix = p.matrix; harmonics = p.harmonics; bots = p.bots; energy = p.energy; profile = p.profile }

-- the visible part of a tape
abbrev pub progress_of : Matrix → List Command → State → ℕ → TapeState
progress_of source commands s steps = record {
  source = source;
  commands = commands;
  matrix = s.matrix;
  harmonics = s.harmonics;
  bots = s.bots;
  energy = s.energy;
  profile = s.profile;
  steps = steps;
}

-- the tape before the first command
abbrev pub starting : Matrix → Profile → TapeState
starting source profile = progress_of source [] (opening source profile) 0

-- the number of bytes of all spellings of the commands
unfoldable pub bytes : TapeState → ℕ
bytes p = length (spellings p.commands)

-- under Low each full voxel is grounded
abbrev pub IsHeld : Harmonics → Matrix → Type 0
IsHeld h m = h ≡ Low → FirstUngrounded m None

-- the energy is bounded by the number of steps
pub record IsBounded (energy : ℤ) (steps : ℕ) : Type 0 where
  pub low : neg_ℤ (pos (3000000000 * steps)) ≤ℤ energy
  pub high : energy ≤ℤ pos (3000000000 * steps)

-- every step was accepted, and there are at most 2^30
pub record IsReached (p : TapeState) : Type 0 where
  pub whole : IsWhole p.matrix
  pub placed : All (λ b. IsInSpace p.matrix.resolution b.pos) p.bots
  pub held : IsHeld p.harmonics p.matrix
  pub reaches : Reaches p.source p.profile p.commands (state_of p) p.steps
  pub bounded : IsBounded p.energy p.steps
  pub few : p.steps ≤ 1073741824

-- ---- the only bot

-- the position of the first bot
abbrev pub spot : List Bot → Coord
spot [] = origin
spot (bot ∷ bots) = bot.pos

-- the bots with the first one there
abbrev pub bots_at : List Bot → Coord → List Bot
bots_at [] c = []
bots_at (bot ∷ bots) c = record { bid = bot.bid; pos = c; seeds = bot.seeds } ∷ bots

-- the coordinate that a difference leads to from the only bot
abbrev pub beside : TapeState → Diff → Coord
beside p d = coordinate (plus (point (spot p.bots)) d)

-- the difference leads from the only bot into space
abbrev pub IsReachable : TapeState → Diff → Type 0
IsReachable p d = IsTrue (in_space p.matrix.resolution (plus (point (spot p.bots)) d))

-- the profile allows the command
abbrev pub IsAllowed : TapeState → Command → Type 0
IsAllowed p command = IsTrue (is_allowed p.profile command)

-- the cost of a step before its commands
abbrev pub upkeep_of_step : TapeState → ℕ
upkeep_of_step p = unsigned_abs (upkeep (state_of p))

-- one more command in one step, with this cost beyond its upkeep, and its effect on the matrix, the harmonics and the
-- bots
pub record Writes (old new : TapeState) (command : Command) (m : Matrix) (h : Harmonics) (bots : List Bot) (cost : ℤ)
    : Type 0 where
  pub source : new.source ≡ old.source
  pub profile : new.profile ≡ old.profile
  pub commands : new.commands ≡ old.commands ++ command ∷ []
  pub matrix : new.matrix ≡ m
  pub harmonics : new.harmonics ≡ h
  pub bots_are : new.bots ≡ bots
  pub energy : new.energy ≡ (old.energy +ℤ pos (upkeep_of_step old)) +ℤ cost
  pub steps : new.steps ≡ old.steps + 1
  pub bytes_are : bytes new ≡ bytes old + length (spelling command)

-- ---- all bots

-- the tape after a step in which the i-th command is for the i-th bot
abbrev pub tape_stepped : TapeState → List Command → TapeState
tape_stepped p commands = progress_of p.source (p.commands ++ commands) (after (state_of p) commands) (p.steps + 1)

-- ---- the end

-- two matrices have the same full voxels
abbrev pub AreAlike : Matrix → Matrix → Type 0
AreAlike m n = (c : Coord) → is_full m c ≡ is_full n c

-- the definitions accept the commands from one model to the other with this energy and step count
abbrev pub IsAccepted : Matrix → Matrix → List Command → Profile → ℤ → ℕ → Type 0
IsAccepted source target commands profile energy steps =
    VerdictOf source target commands profile (Accepted energy steps)

-- from a height on all voxels are void
abbrev pub IsVoidFrom : Matrix → ℕ → Type 0
IsVoidFrom m h = (c : Coord) → h ≤ c.y → is_full m c ≡ false

-- the top above the origin: the start of sweeps
abbrev pub top : Matrix → Coord
top m = coord 0 (m.resolution - 1) 0

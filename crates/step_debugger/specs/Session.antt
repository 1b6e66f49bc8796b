-- A session, which walks a trace forwards and backwards, step by step or group by group (docs/FORMATS.md,
-- "Sessions").
use Rattle.std.specs.Prelude.{◌≡◌, ℕ, ◌+◌, ◌-◌, ℤ, Bool, cond, ◌&&◌, not, ◌==◌, List, [], ◌∷◌, ◌++◌, length, take, drop, Option, Some, MatchBool, MatchOption}
use Rattle.std.specs.List.{list_any}
use Rattle.vox_geom.specs.declared.coordinate.Coord.{Coord}
use Rattle.nano_spec.specs.declared.commands.Command.{Command}
use Rattle.nano_spec.specs.declared.outcomes.Broken.{Broken}
use Rattle.nano_spec.specs.declared.outcomes.Rule.{Rule}
use Rattle.nano_spec.specs.declared.outcomes.Rule.TheVariants.{Ungrounded}
use Rattle.nano_spec.specs.declared.system.Bot.{Bot}
use Rattle.nano_spec.specs.declared.system.Profile.{Profile}
use Rattle.nano_spec.specs.Act.{acts}
use Rattle.nano_spec.specs.Level.{Level}
use Rattle.nano_spec.specs.Matrix.{Matrix, is_full}
use Rattle.nano_spec.specs.Next.{Breaks, Goes, Next, Outcome}
use Rattle.nano_spec.specs.Rules.{broken}
use Rattle.nano_spec.specs.Serial.{leader_bids, serial}
use Rattle.nano_spec.specs.State.{State, opening}

-- a state, with the number of steps made and the number of commands taken until then
pub record SessionPoint : Type 0 where
  pub state : State
  pub steps : ℕ
  pub taken : ℕ

-- the current point, the earlier points, the most recent last, and the leaders of the begun groups, in the order in which they
-- began
pub record Session : Type 0 where
  pub point : SessionPoint
  pub past : List SessionPoint
  pub begun : List ℕ

-- the number of points that are kept
abbrev pub most_past : ℕ
most_past = 4096

-- the last n elements of a list
abbrev pub latest : {X : Type 0} → ℕ → List X → List X
latest n xs = drop (length xs - n) xs

-- the initial session
abbrev pub opened : Matrix → Profile → Session
opened source profile =
    record { point = record { state = opening source profile; steps = 0; taken = 0 }; past = []; begun = [] }

-- the commands of the next step: one for each bot, as long as there are any
abbrev pub next_commands : List Command → SessionPoint → List Command
next_commands commands p = take (length p.state.bots) (drop p.taken commands)

-- the bids of the leaders of the next step, in rising order
abbrev pub next_leaders : List Command → SessionPoint → List ℕ
next_leaders commands p = leader_bids (acts p.state.bots (next_commands commands p))

-- the state after the begun groups alone, one after another
abbrev pub middle_state : List Command → Session → Option State
middle_state commands s = serial s.point.state (next_commands commands s.point) s.begun

-- a line of a script
pub data DebugLine : Type 0 where
  Step : DebugLine
  Group : ℕ → DebugLine
  Back : DebugLine
  Bots : DebugLine
  Voxel : Coord → DebugLine

-- the printed answer to a line
pub data DebugReport : Type 0 where
  -- no bot is active
  Ended : DebugReport
  -- the next commands break a rule
  Refused : Broken → DebugReport
  -- a step was made: the step number, the energy, and whether no bot is left
  Made : ℕ → ℤ → Bool → DebugReport
  -- the bid is no leader of the step, or its group is begun
  NoLeader : ℕ → DebugReport
  -- the group of this leader began, in the step of this number
  Begun : ℕ → ℕ → DebugReport
  -- there is no earlier point
  NoHistory : DebugReport
  -- an earlier point is current again: its number of steps and its energy
  Returned : ℕ → ℤ → DebugReport
  -- the active bots
  Crew : List Bot → DebugReport
  -- a voxel that is void, and one that is full with its level
  IsVoid : Coord → DebugReport
  IsFull : Coord → Option ℕ → DebugReport

-- the begun groups are dropped
abbrev pub dropped : Session → Session
dropped s = record s { begun = [] }

-- the next step reached the state: the point joins the past, which loses its oldest point if it is full
abbrev pub made : Session → State → Session
made s t = record {
  point = record { state = t; steps = s.point.steps + 1; taken = s.point.taken + length s.point.state.bots };
  past = latest most_past (s.past ++ s.point ∷ []);
  begun = [];
}

-- after a broken rule all stays, but the rule of grounding drops the begun groups
abbrev pub refused : Rule → Session → Session
refused Ungrounded s = dropped s
refused rule s = s

-- the change by an outcome of the next step, and its printed answer
abbrev pub FollowsStep : Session → Session → DebugReport → Outcome → Type 0
FollowsStep s t report (Goes u) = (t ≡ made s u) × (report ≡ Made (s.point.steps + 1) u.energy (length u.bots == 0))
FollowsStep s t report (Breaks b) = (t ≡ refused b.rule s) × (report ≡ Refused b)

-- an attempt at the next step
abbrev pub TriesStep : List Command → Session → Session → DebugReport → Type 0
TriesStep commands s t report =
    (outcome : Outcome) × Next s.point.state (next_commands commands s.point) (s.point.steps + 1) outcome
    × FollowsStep s t report outcome

-- the run has ended if no bot is active, and otherwise P holds
abbrev pub UnlessEnded : List Bot → Session → Session → DebugReport → Type 0 → Type 0
UnlessEnded [] s t report P = (t ≡ s) × (report ≡ Ended)
UnlessEnded (bot ∷ bots) s t report P = P

-- whether a bid is that of a leader of the next step whose group is not begun
abbrev pub may_begin : List Command → Session → ℕ → Bool
may_begin commands s bid =
    list_any (λ k. k == bid) (next_leaders commands s.point) && not (list_any (λ k. k == bid) s.begun)

-- whether all groups of the next step but one are begun
abbrev pub is_last : List Command → Session → Bool
is_last commands s = length s.begun + 1 == length (next_leaders commands s.point)

-- a group begins if the bid is a leader whose group is not begun; the last one makes the step
abbrev pub BeginsGroup : List Command → ℕ → Session → Session → DebugReport → Type 0
BeginsGroup commands bid s t report =
    MatchBool (may_begin commands s bid)
    (MatchBool (is_last commands s)
    (TriesStep commands s t report)
    ((t ≡ record s { begun = s.begun ++ bid ∷ [] }) × (report ≡ Begun bid (s.point.steps + 1))))
    ((t ≡ s) × (report ≡ NoLeader bid))

-- a group begins unless the next commands break a rule that is judged at a step's start
abbrev pub TriesGroup : List Command → ℕ → Session → Session → DebugReport → Type 0
TriesGroup commands bid s t report =
    MatchOption (broken s.point.state (next_commands commands s.point) (s.point.steps + 1))
    (BeginsGroup commands bid s t report) (λ b. (t ≡ s) × (report ≡ Refused b))

-- the report that the point is current again
abbrev pub is_returned : SessionPoint → DebugReport
is_returned p = Returned p.steps p.state.energy

-- the last point of the past is current again
pub record IsBack (s t : Session) (report : DebugReport) : Type 0 where
  pub earlier : List SessionPoint
  pub last : SessionPoint
  pub past : s.past ≡ earlier ++ last ∷ []
  pub session : t ≡ record { point = last; past = earlier; begun = [] }
  pub report_is : report ≡ is_returned last

-- the begun groups are dropped, or the last step is undone if there are none
abbrev pub GoesBack : List ℕ → List SessionPoint → Session → Session → DebugReport → Type 0
GoesBack (bid ∷ begun) past s t report = (t ≡ dropped s) × (report ≡ is_returned s.point)
GoesBack [] [] s t report = (t ≡ s) × (report ≡ NoHistory)
GoesBack [] (p ∷ past) s t report = IsBack s t report

-- the change by a line, and its printed answer
abbrev pub AnswersLine : List Command → DebugLine → Session → Session → DebugReport → Type 0
AnswersLine commands Step s t report = UnlessEnded s.point.state.bots s t report (TriesStep commands s t report)
AnswersLine commands (Group bid) s t report =
    UnlessEnded s.point.state.bots s t report (TriesGroup commands bid s t report)
AnswersLine commands Back s t report = GoesBack s.begun s.past s t report
AnswersLine commands Bots s t report =
    (t ≡ s) × ((m : State) × (middle_state commands s ≡ Some m) × (report ≡ Crew m.bots))
AnswersLine commands (Voxel c) s t report =
    (t ≡ s) × ((level : Option ℕ) × Level s.point.state.matrix c level
    × (report ≡ cond (is_full s.point.state.matrix c) (IsFull c level) (IsVoid c)))

-- A step that any line made, and its undo.
use Rattle.std.proofs.Common.{◌≡◌, ℕ, zero, suc, ◌+◌, ◌-◌, ◌≤◌, ◌<◌, refl, sym, ◌∙◌, ap, arith, List, [], ◌∷◌, ◌++◌, Bool, true, false, cond, length, drop, length-append}
use Rattle.std.specs.Prelude.{ℤ, Option, Some, None, MatchBool, MatchOption}
use Rattle.std.proofs.lemmas.List.{same_from_push}
use Rattle.nano_spec.specs.declared.commands.Command.{Command}
use Rattle.nano_spec.specs.declared.outcomes.Broken.{Broken}
use Rattle.nano_spec.specs.declared.system.Bot.{Bot}
use Rattle.nano_spec.specs.Matrix.{is_full}
use Rattle.nano_spec.specs.Next.{Breaks, Goes, Outcome}
use Rattle.nano_spec.specs.Rules.{broken}
use Rattle.nano_spec.specs.State.{State}
use Rattle.step_debugger.specs.Session.{AnswersLine, Back, BeginsGroup, Begun, Bots, Crew, Ended, FollowsStep, GoesBack, Group, IsFull, IsVoid, DebugLine, Made, NoHistory, NoLeader, SessionPoint, Refused, DebugReport, Session, Step, TriesStep, UnlessEnded, Voxel, is_last, is_returned, latest, made, may_begin, most_past, next_commands}

-- whether a step was made
abbrev pub is_made : DebugReport → Bool
is_made (Made n energy ended) = true
is_made _ = false

-- the step was made from the session
abbrev pub WasMade : Session → Session → Type 0
WasMade s t = (v : State) × (t ≡ made s v)

never : (r q : DebugReport) → r ≡ q → is_made r ≡ true → is_made q ≡ false → ⊥
never r q e h k = let same = ap is_made e in cc

followed : (s t : Session) (r : DebugReport) (outcome : Outcome) → is_made r ≡ true → FollowsStep s t r outcome
    → WasMade s t
followed s t r (Goes v) m h = (v, h.0)
followed s t r (Breaks b) m h = absurd (never r (Refused b) h.1 m refl)

stepped : (commands : List Command) (s t : Session) (r : DebugReport) → is_made r ≡ true → TriesStep commands s t r
    → WasMade s t
stepped commands s t r m h = followed s t r h.0 m h.2

unless_ended : (bots : List Bot) (s t : Session) (r : DebugReport) (P : Type 0) → is_made r ≡ true → (P → WasMade s t)
    → UnlessEnded bots s t r P → WasMade s t
unless_ended [] s t r P m f h = absurd (never r Ended h.1 m refl)
unless_ended (b ∷ bots) s t r P m f h = f h

begun_so : (commands : List Command) (bid : ℕ) (s t : Session) (r : DebugReport) → is_made r ≡ true
    → BeginsGroup commands bid s t r → WasMade s t
begun_so commands bid s t r m h = by (may_begin commands s bid) (is_last commands s) h
  where
    by : (may last : Bool) → MatchBool may (MatchBool last (TriesStep commands s t r)
        ((t ≡ record s { begun = s.begun ++ bid ∷ [] }) × (r ≡ Begun bid (s.point.steps + 1))))
        ((t ≡ s) × (r ≡ NoLeader bid)) → WasMade s t
    by false last x = absurd (never r (NoLeader bid) x.1 m refl)
    by true true x = stepped commands s t r m x
    by true false x = absurd (never r (Begun bid (s.point.steps + 1)) x.1 m refl)

grouped : (commands : List Command) (bid : ℕ) (s t : Session) (r : DebugReport) (b : Option Broken) → is_made r ≡ true
    → MatchOption b (BeginsGroup commands bid s t r) (λ w. (t ≡ s) × (r ≡ Refused w)) → WasMade s t
grouped commands bid s t r None m h = begun_so commands bid s t r m h
grouped commands bid s t r (Some w) m h = absurd (never r (Refused w) h.1 m refl)

went_back : (past : List SessionPoint) (s t : Session) (r : DebugReport) → is_made r ≡ true → GoesBack [] past s t r
    → WasMade s t
went_back [] s t r m h = absurd (never r NoHistory h.1 m refl)
went_back (p ∷ past) s t r m h = absurd (never r (is_returned h.last) h.report_is m refl)

dropped_back : (begun : List ℕ) (s t : Session) (r : DebugReport) → is_made r ≡ true → GoesBack begun s.past s t r
    → WasMade s t
dropped_back [] s t r m h = went_back s.past s t r m h
dropped_back (b ∷ begun) s t r m h = absurd (never r (is_returned s.point) h.1 m refl)

-- only a line that makes a step reports one
was_made : (commands : List Command) (line : DebugLine) (s t : Session) (r : DebugReport) → is_made r ≡ true
    → AnswersLine commands line s t r → WasMade s t
was_made commands Step s t r m h = unless_ended s.point.state.bots s t r _ m (stepped commands s t r m) h
was_made commands (Group bid) s t r m h = unless_ended s.point.state.bots s t r _ m (grouped commands bid s t r (broken s.point.state (next_commands commands s.point) (s.point.steps + 1)) m) h
was_made commands Back s t r m h = dropped_back s.begun s t r m h
was_made commands Bots s t r m h = absurd (never r (Crew h.1.0.bots) h.1.2 m refl)
was_made commands (Voxel c) s t r m h = absurd (by (is_full s.point.state.matrix c) h.1.2)
  where
    by : (b : Bool) → r ≡ cond b (IsFull c h.1.0) (IsVoid c) → ⊥
    by true e = never r (IsFull c h.1.0) e m refl
    by false e = never r (IsVoid c) e m refl

-- ---- the last points of a list with one more

drop_push : (k : ℕ) (xs : List SessionPoint) (x : SessionPoint) → k ≤ length xs
    → drop k (xs ++ x ∷ []) ≡ drop k xs ++ x ∷ []
drop_push zero xs x l = refl
drop_push (suc k) [] x l = absurd (omega arith)
drop_push (suc k) (y ∷ xs) x l = drop_push k xs x (omega arith)

latest_push : (xs : List SessionPoint) (x : SessionPoint) → latest most_past (xs ++ x ∷ []) ≡ latest 4095 xs ++ x ∷ []
latest_push xs x =
    let length_is = length-append xs (x ∷ []) in
    let same : length (xs ++ x ∷ []) - 4096 ≡ length xs - 4095 = omega (arith, length_is) in
    ap (λ k. drop k (xs ++ x ∷ [])) same ∙ drop_push (length xs - 4095) xs x (omega arith)

-- ---- the undone step

restored_past : (past : List SessionPoint) (s t u : Session) (r : DebugReport) → past ≡ t.past → (v : State)
    → t ≡ made s v → GoesBack [] past t u r
    → (u ≡ record { point = s.point; past = latest 4095 s.past; begun = [] }) × (r ≡ is_returned s.point)
restored_past [] s t u r p v e h = absurd (empty (latest 4095 s.past) (p ∙ (ap (λ (x : Session). x.past) e ∙ latest_push s.past s.point)))
  where
    empty : (xs : List SessionPoint) → [] ≡ xs ++ s.point ∷ [] → ⊥
    empty [] f = cc
    empty (x ∷ xs) f = cc
restored_past (q ∷ past) s t u r p v e h =
    let same = same_from_push h.earlier (latest 4095 s.past) h.last s.point (sym h.past ∙ (ap (λ (x : Session). x.past) e ∙ latest_push s.past s.point)) in
    (h.session ∙ (λ i. record { point = same.1 i; past = same.0 i; begun = [] }), h.report_is ∙ ap is_returned same.1)

restored_begun : (begun : List ℕ) (s t u : Session) (r : DebugReport) → begun ≡ t.begun → (v : State) → t ≡ made s v
    → GoesBack begun t.past t u r
    → (u ≡ record { point = s.point; past = latest 4095 s.past; begun = [] }) × (r ≡ is_returned s.point)
restored_begun [] s t u r b v e h = restored_past t.past s t u r refl v e h
restored_begun (x ∷ begun) s t u r b v e h = absurd (let list_empty : x ∷ begun ≡ [] = b ∙ ap (λ (y : Session). y.begun) e in cc)

restored : (commands : List Command) (line : DebugLine) (s t u : Session) (n : ℕ) (energy : ℤ) (ended : Bool)
    (r : DebugReport) → AnswersLine commands line s t (Made n energy ended) → AnswersLine commands Back t u r
    → (u ≡ record { point = s.point; past = latest 4095 s.past; begun = [] }) × (r ≡ is_returned s.point)
restored commands line s t u n energy ended r h k = let made_before = was_made commands line s t (Made n energy ended) refl h in restored_begun t.begun s t u r refl made_before.0 made_before.1 k

pub restored_session : (commands : List Command) (line : DebugLine) (s t u : Session) (n : ℕ) (energy : ℤ)
    (ended : Bool) (r : DebugReport) → AnswersLine commands line s t (Made n energy ended)
    → AnswersLine commands Back t u r → u ≡ record { point = s.point; past = latest 4095 s.past; begun = [] }
restored_session commands line s t u n energy ended r h k = (restored commands line s t u n energy ended r h k).0

pub restored_report : (commands : List Command) (line : DebugLine) (s t u : Session) (n : ℕ) (energy : ℤ) (ended : Bool)
    (r : DebugReport) → AnswersLine commands line s t (Made n energy ended) → AnswersLine commands Back t u r
    → r ≡ is_returned s.point
restored_report commands line s t u n energy ended r h k = (restored commands line s t u n energy ended r h k).1

pub all_latest : (xs : List SessionPoint) → length xs < most_past → latest 4095 xs ≡ xs
all_latest xs l = let none : length xs - 4095 ≡ 0 = omega (arith, l) in ap (λ k. drop k xs) none

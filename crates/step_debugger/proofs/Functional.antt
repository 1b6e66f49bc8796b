-- A line of a session has at most one answer.
use Rattle.std.proofs.Common.{◌≡◌, ℕ, ◌+◌, sym, ◌∙◌, ap, subst, List, [], ◌∷◌, ◌++◌, Bool, true, false, cond}
use Rattle.std.specs.Prelude.{Option, Some, None, MatchBool, MatchOption}
use Rattle.std.proofs.lemmas.List.{same_from_push}
use Rattle.nano_spec.specs.declared.commands.Command.{Command}
use Rattle.nano_spec.specs.declared.outcomes.Broken.{Broken}
use Rattle.nano_spec.specs.declared.system.Bot.{Bot}
use Rattle.nano_spec.specs.Matrix.{is_full}
use Rattle.nano_spec.specs.Next.{Breaks, Goes, Outcome}
use Rattle.nano_spec.specs.Rules.{broken}
use Rattle.nano_spec.specs.State.{State}
use Rattle.nano_spec.proofs.Unique.{Level-unique, Next-unique}
use Rattle.step_debugger.specs.Session.{AnswersLine, Back, BeginsGroup, Begun, Bots, Crew, FollowsStep, GoesBack, Group, IsBack, IsFull, IsVoid, DebugLine, NoLeader, SessionPoint, Refused, DebugReport, Session, Step, TriesStep, UnlessEnded, Voxel, is_last, is_returned, may_begin, middle_state, next_commands}

-- two answers are one
abbrev pub AreOne : Session → Session → DebugReport → DebugReport → Type 0
AreOne t u r q = (t ≡ u) × (r ≡ q)

both_are : (t u a : Session) (r q b : DebugReport) → (t ≡ a) × (r ≡ b) → (u ≡ a) × (q ≡ b) → AreOne t u r q
both_are t u a r q b h k = (h.0 ∙ sym k.0, h.1 ∙ sym k.1)

follows_once : (s t u : Session) (r q : DebugReport) (outcome : Outcome) → FollowsStep s t r outcome
    → FollowsStep s u q outcome → AreOne t u r q
follows_once s t u r q (Goes v) h k = both_are t u _ r q _ h k
follows_once s t u r q (Breaks b) h k = both_are t u _ r q _ h k

steps_once : (commands : List Command) (s t u : Session) (r q : DebugReport) → TriesStep commands s t r
    → TriesStep commands s u q → AreOne t u r q
steps_once commands s t u r q h k =
    follows_once s t u r q k.0 (subst (λ (o : Outcome). FollowsStep s t r o) (Next-unique s.point.state (next_commands commands s.point) (s.point.steps + 1) h.0 k.0 h.1 k.1) h.2) k.2

unless_once : (bots : List Bot) (s t u : Session) (r q : DebugReport) (P Q : Type 0) → (P → Q → AreOne t u r q)
    → UnlessEnded bots s t r P → UnlessEnded bots s u q Q → AreOne t u r q
unless_once [] s t u r q P Q f h k = both_are t u _ r q _ h k
unless_once (b ∷ bots) s t u r q P Q f h k = f h k

begins_once : (commands : List Command) (bid : ℕ) (s t u : Session) (r q : DebugReport) → BeginsGroup commands bid s t r
    → BeginsGroup commands bid s u q → AreOne t u r q
begins_once commands bid s t u r q h k = by (may_begin commands s bid) (is_last commands s) h k
  where
    by : (may last : Bool) → MatchBool may (MatchBool last (TriesStep commands s t r)
        ((t ≡ record s { begun = s.begun ++ bid ∷ [] }) × (r ≡ Begun bid (s.point.steps + 1))))
        ((t ≡ s) × (r ≡ NoLeader bid)) → MatchBool may (MatchBool last (TriesStep commands s u q)
        ((u ≡ record s { begun = s.begun ++ bid ∷ [] }) × (q ≡ Begun bid (s.point.steps + 1))))
        ((u ≡ s) × (q ≡ NoLeader bid)) → AreOne t u r q
    by false last x y = both_are t u _ r q _ x y
    by true true x y = steps_once commands s t u r q x y
    by true false x y = both_are t u _ r q _ x y

groups_once : (commands : List Command) (bid : ℕ) (s t u : Session) (r q : DebugReport) (b : Option Broken)
    → MatchOption b (BeginsGroup commands bid s t r) (λ w. (t ≡ s) × (r ≡ Refused w))
    → MatchOption b (BeginsGroup commands bid s u q) (λ w. (u ≡ s) × (q ≡ Refused w)) → AreOne t u r q
groups_once commands bid s t u r q None h k = begins_once commands bid s t u r q h k
groups_once commands bid s t u r q (Some w) h k = both_are t u _ r q _ h k

is_back_once : (s t u : Session) (r q : DebugReport) → IsBack s t r → IsBack s u q → AreOne t u r q
is_back_once s t u r q h k =
    let same = same_from_push h.earlier k.earlier h.last k.last (sym h.past ∙ k.past) in
    (h.session ∙ ((λ i. record { point = same.1 i; past = same.0 i; begun = [] }) ∙ sym k.session), h.report_is ∙ (ap is_returned same.1 ∙ sym k.report_is))

takes_back_once : (past : List SessionPoint) (s t u : Session) (r q : DebugReport) → GoesBack [] past s t r
    → GoesBack [] past s u q → AreOne t u r q
takes_back_once [] s t u r q h k = both_are t u _ r q _ h k
takes_back_once (p ∷ past) s t u r q h k = is_back_once s t u r q h k

goes_back_once : (begun : List ℕ) (s t u : Session) (r q : DebugReport) → GoesBack begun s.past s t r
    → GoesBack begun s.past s u q → AreOne t u r q
goes_back_once [] s t u r q h k = takes_back_once s.past s t u r q h k
goes_back_once (b ∷ begun) s t u r q h k = both_are t u _ r q _ h k

same_some : (o : Option State) (m n : State) → o ≡ Some m → o ≡ Some n → m ≡ n
same_some None m n e f = cc
same_some (Some x) m n e f = let x_is_m : x ≡ m = cc in let x_is_n : x ≡ n = cc in sym x_is_m ∙ x_is_n

pub answered_once : (commands : List Command) (line : DebugLine) (s t u : Session) (r q : DebugReport)
    → AnswersLine commands line s t r → AnswersLine commands line s u q → AreOne t u r q
answered_once commands Step s t u r q h k = unless_once s.point.state.bots s t u r q _ _ (steps_once commands s t u r q) h k
answered_once commands (Group bid) s t u r q h k = unless_once s.point.state.bots s t u r q _ _ (groups_once commands bid s t u r q (broken s.point.state (next_commands commands s.point) (s.point.steps + 1))) h k
answered_once commands Back s t u r q h k = goes_back_once s.begun s t u r q h k
answered_once commands Bots s t u r q h k = (h.0 ∙ sym k.0, h.1.2 ∙ (ap (λ (m : State). Crew m.bots) (same_some (middle_state commands s) h.1.0 k.1.0 h.1.1 k.1.1) ∙ sym k.1.2))
answered_once commands (Voxel c) s t u r q h k =
    (h.0 ∙ sym k.0, h.1.2 ∙ (ap (λ (l : Option ℕ). cond (is_full s.point.state.matrix c) (IsFull c l) (IsVoid c)) (Level-unique s.point.state.matrix c h.1.0 k.1.0 h.1.1 k.1.1) ∙ sym k.1.2))

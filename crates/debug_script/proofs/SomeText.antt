-- The lines of a script print something: each line has an answer in a session whose points are ready and whose begun groups are
-- of leaders of the next step, and it leads to such a session.
use Rattle.std.proofs.Common.{◌≡◌, ◌⊎◌, ◌∙◌, ℕ, zero, suc, ◌+◌, ◌-◌, ◌==◌, inl, inr, Bool, true, false, not, List, [], ◌∷◌, ◌++◌, length, take, drop, Some, None, Option, refl, sym, ap, subst}
use Rattle.std.specs.Prelude.{IsPermutation, MatchBool, MatchOption}
use Rattle.std.specs.List.{list_any, remove}
use Rattle.std.proofs.lemmas.List.Sorted.{IsPermutation-more, IsPermutation-refl, list_any-IsPermutation}
use Rattle.vox_geom.proofs.Truths.{first_of_two, second_of_two}
use Rattle.vox_geom.proofs.Tests.{equal_by_test}
use Rattle.nano_spec.specs.declared.commands.Command.{Command}
use Rattle.nano_spec.specs.declared.outcomes.Broken.{Broken}
use Rattle.nano_spec.specs.declared.outcomes.Rule.{Rule}
use Rattle.nano_spec.specs.declared.outcomes.Rule.TheVariants.{Ungrounded}
use Rattle.nano_spec.specs.declared.system.Bot.{Bot}
use Rattle.nano_spec.specs.Act.{acts}
use Rattle.nano_spec.specs.Cutting.{AreCommands}
use Rattle.nano_spec.specs.Next.{Breaks, Goes, Next, Outcome}
use Rattle.nano_spec.specs.Rules.{broken}
use Rattle.nano_spec.specs.Serial.{acts_of, leader_bids, serial}
use Rattle.nano_spec.specs.State.{IsReady, State}
use Rattle.nano_spec.specs.Step.{after}
use Rattle.nano_spec.proofs.Accepted.{accepted_step}
use Rattle.step_order.specs.SomeGroups.{after_some}
use Rattle.step_order.proofs.Lists.{In, any_in, any_none, in_either, in_left, in_place, in_right, not_both}
use Rattle.step_machine.proofs.Reaching.{level_of}
use Rattle.step_machine.proofs.Weighing.{next_of}
use Rattle.step_debugger.specs.Session.{AnswersLine, Back, BeginsGroup, Begun, Bots, Crew, DebugLine, DebugReport, Ended, GoesBack, Group, Made, SessionPoint, NoHistory, NoLeader, Refused, Session, Step, TriesGroup, TriesStep, UnlessEnded, Voxel, dropped, is_last, is_returned, made, may_begin, middle_state, most_past, next_commands, next_leaders, refused}
use Rattle.debug_script.specs.Printing.{printed_report}
use Rattle.debug_script.specs.Sessions.{Prints}

-- ---- the laws that it uses

-- a step that breaks no rule leads from a ready state to one
abbrev pub ReadyLaw : Type 0
ReadyLaw = (s : State) (commands : List Command) (step : ℕ) → AreCommands commands → IsReady s → broken s commands step ≡ None → IsReady (after s commands)

-- after some of the groups there is a state
abbrev pub MiddleLaw : Type 0
MiddleLaw = (s : State) (commands : List Command) (step : ℕ) (order rest : List ℕ) → IsReady s → broken s commands step ≡ None → IsPermutation (leader_bids (acts s.bots commands)) (order ++ rest)
    → serial s commands order ≡ Some (after_some s (acts s.bots commands) (acts_of (acts s.bots commands) order))

-- ---- lists

are_taken : (n : ℕ) (commands : List Command) → AreCommands commands → AreCommands (take n commands)
are_taken zero commands h = tt
are_taken (suc n) [] h = tt
are_taken (suc n) (c ∷ commands) h = (h.0, are_taken n commands h.1)

are_dropped : (n : ℕ) (commands : List Command) → AreCommands commands → AreCommands (drop n commands)
are_dropped zero commands h = h
are_dropped (suc n) [] h = tt
are_dropped (suc n) (c ∷ commands) h = are_dropped n commands h.1

in_dropped : {X : Type 0} (x : X) (n : ℕ) (xs : List X) → In x (drop n xs) → In x xs
in_dropped x zero xs i = i
in_dropped x (suc n) [] i = i
in_dropped x (suc n) (y ∷ xs) i = inr (in_dropped x n xs i)

-- a list that is not empty has a last element
last_of : (p : SessionPoint) (past : List SessionPoint)
    → (earlier : List SessionPoint) × (last : SessionPoint) × (p ∷ past ≡ earlier ++ last ∷ [])
last_of p [] = ([], p, refl)
last_of p (q ∷ past) = let last_moment = last_of q past in (p ∷ last_moment.0, last_moment.1, ap (λ (qs : List SessionPoint). p ∷ qs) last_moment.2)

-- ---- sessions

-- the rule that the next commands break at the start of the next step, if they do
abbrev next_broken : List Command → Session → Option Broken
next_broken commands s = broken s.point.state (next_commands commands s.point) (s.point.steps + 1)

-- the points of a session are ready for a step, and the begun groups are of leaders of the next one, which then breaks no rule
-- at its start
record IsOrderly (commands : List Command) (s : Session) : Type 0 where
  point : IsReady s.point.state
  past : (p : SessionPoint) → In p s.past → IsReady p.state
  left : List ℕ
  leaders : IsPermutation (next_leaders commands s.point) (s.begun ++ left)
  keeps : (s.begun ≡ [] → ⊥) → next_broken commands s ≡ None

-- this holds for a session in which nothing is begun, if its points are ready
fresh : (commands : List Command) (p : SessionPoint) (past : List SessionPoint) → IsReady p.state
    → ((q : SessionPoint) → In q past → IsReady q.state)
    → IsOrderly commands (record { point = p; past = past; begun = [] })
fresh commands p past ready before = record { point = ready; past = before; left = next_leaders commands p; leaders = IsPermutation-refl (next_leaders commands p); keeps = λ some. absurd (some refl) }

module _ (commands : List Command) (are : AreCommands commands) (stays_ready : ReadyLaw) (middle : MiddleLaw) where
  -- there is such an answer, and it leads to a session with the same property
  abbrev HasAnswer : (Session → DebugReport → Type 0) → Type 0
  HasAnswer P = (t : Session) × (report : DebugReport) × P t report × IsOrderly commands t

  module _ (s : Session) (orderly : IsOrderly commands s) where
    drops : IsOrderly commands (dropped s)
    drops = fresh commands s.point s.past orderly.point orderly.past

    is_refused : (rule : Rule) → IsOrderly commands (refused rule s)
    is_refused Ungrounded = drops
    is_refused rule = orderly

    -- the points after a step are those before it, and the state that it leads to
    is_made : (u : State) → Next s.point.state (next_commands commands s.point) (s.point.steps + 1) (Goes u)
        → IsOrderly commands (made s u)
    is_made u next =
        let accepted = accepted_step s.point.state u (next_commands commands s.point) (s.point.steps + 1) next in
        let now = stays_ready s.point.state (next_commands commands s.point) (s.point.steps + 1)
        (are_taken (length s.point.state.bots) (drop s.point.taken commands) (are_dropped s.point.taken commands are)) orderly.point accepted.keeps in
        fresh commands (made s u).point (made s u).past (subst IsReady (sym accepted.is) now)
        (λ p i. joined p (in_either p s.past (s.point ∷ []) (in_dropped p (length (s.past ++ s.point ∷ []) - most_past) (s.past ++ s.point ∷ []) i)))
      where
        joined : (p : SessionPoint) → In p s.past ⊎ In p (s.point ∷ []) → IsReady p.state
        joined p (inl i) = orderly.past p i
        joined p (inr (inl e)) = subst (λ (q : SessionPoint). IsReady q.state) (sym e) orderly.point
        joined p (inr (inr i)) = absurd i

    -- ---- the line of a step

    tries_step : HasAnswer (TriesStep commands s)
    tries_step = let following = next_of s.point.state (next_commands commands s.point) (s.point.steps + 1) in by following.0 following.1
      where
        by : (o : Outcome) → Next s.point.state (next_commands commands s.point) (s.point.steps + 1) o
            → HasAnswer (TriesStep commands s)
        by (Goes u) next = (made s u, Made (s.point.steps + 1) u.energy (length u.bots == 0), (Goes u, next, (refl, refl)), is_made u next)
        by (Breaks b) next = (refused b.rule s, Refused b, (Breaks b, next, (refl, refl)), is_refused b.rule)

    unless_ended : (bots : List Bot) (P : Session → DebugReport → Type 0) → HasAnswer P
        → HasAnswer (λ t report. UnlessEnded bots s t report (P t report))
    unless_ended [] P answer = (s, Ended, (refl, refl), orderly)
    unless_ended (bot ∷ bots) P answer = answer

    -- ---- the line of a group

    -- one more leader is begun, and one fewer remains
    is_begun : (bid : ℕ) → may_begin commands s bid ≡ true → next_broken commands s ≡ None
        → IsOrderly commands (record s { begun = s.begun ++ bid ∷ [] })
    is_begun bid may keeps =
        let place = in_place bid bid orderly.left is_left in
        record {
          point = orderly.point;
          past = orderly.past;
          left = remove orderly.left place.0;
          leaders = IsPermutation-more (next_leaders commands s.point) s.begun orderly.left place.0 bid place.1 (sym place.2) orderly.leaders;
          keeps = λ some. keeps;
        }
      where
        listed : list_any (λ k. k == bid) (s.begun ++ orderly.left) ≡ true
        listed = sym (list_any-IsPermutation (λ k. k == bid) (next_leaders commands s.point) (s.begun ++ orderly.left) orderly.leaders) ∙ first_of_two (list_any (λ k. k == bid) (next_leaders commands s.point)) (not (list_any (λ k. k == bid) s.begun)) may

        not_begun : list_any (λ k. k == bid) s.begun ≡ false
        not_begun = negated (list_any (λ k. k == bid) s.begun) (second_of_two (list_any (λ k. k == bid) (next_leaders commands s.point)) (not (list_any (λ k. k == bid) s.begun)) may)
          where
            negated : (b : Bool) → not b ≡ true → b ≡ false
            negated true e = cc
            negated false e = refl

        is_left : In bid orderly.left
        is_left = let witness = any_in (λ k. k == bid) (s.begun ++ orderly.left) listed in by witness.0 witness.2 (in_either witness.0 s.begun orderly.left witness.1)
          where
            by : (k : ℕ) → (k == bid) ≡ true → In k s.begun ⊎ In k orderly.left → In bid orderly.left
            by k e (inl i) = absurd (not_both e (any_none (λ k. k == bid) k s.begun not_begun i))
            by k e (inr i) = subst (λ (n : ℕ). In n orderly.left) (equal_by_test k bid e) i

    begins_group : (bid : ℕ) → next_broken commands s ≡ None → HasAnswer (BeginsGroup commands bid s)
    begins_group bid keeps = by (may_begin commands s bid) (is_last commands s) refl
      where
        by : (may last : Bool) → may_begin commands s bid ≡ may → HasAnswer (λ t report.
            MatchBool may
            (MatchBool last
            (TriesStep commands s t report)
            ((t ≡ record s { begun = s.begun ++ bid ∷ [] }) × (report ≡ Begun bid (s.point.steps + 1))))
            ((t ≡ s) × (report ≡ NoLeader bid)))
        by false last e = (s, NoLeader bid, (refl, refl), orderly)
        by true true e = tries_step
        by true false e = (record s { begun = s.begun ++ bid ∷ [] }, Begun bid (s.point.steps + 1), (refl, refl), is_begun bid e keeps)

    tries_group : (bid : ℕ) → HasAnswer (TriesGroup commands bid s)
    tries_group bid = by (next_broken commands s) refl
      where
        by : (o : Option Broken) → next_broken commands s ≡ o → HasAnswer
            (λ t report. MatchOption o (BeginsGroup commands bid s t report) (λ b. (t ≡ s) × (report ≡ Refused b)))
        by None e = begins_group bid e
        by (Some b) e = (s, Refused b, (refl, refl), orderly)

    -- ---- the lines of a step back, of the bots and of a voxel

    takes_back : (past : List SessionPoint) → s.past ≡ past → HasAnswer (GoesBack [] past s)
    takes_back [] e = (s, NoHistory, (refl, refl), orderly)
    takes_back (p ∷ past) e =
        let last_moment = last_of p past in
        let is : s.past ≡ last_moment.0 ++ last_moment.1 ∷ [] = e ∙ last_moment.2 in
        let before : (q : SessionPoint) → In q (last_moment.0 ++ last_moment.1 ∷ []) → IsReady q.state = λ q i. orderly.past q (subst (λ (qs : List SessionPoint). In q qs) (sym is) i) in (
          record { point = last_moment.1; past = last_moment.0; begun = [] },
          is_returned last_moment.1,
          record { earlier = last_moment.0; last = last_moment.1; past = is; session = refl; report_is = refl },
          fresh commands last_moment.1 last_moment.0 (before last_moment.1 (in_right last_moment.1 last_moment.0 (last_moment.1 ∷ []) (inl refl))) (λ q i. before q (in_left q last_moment.0 (last_moment.1 ∷ []) i)),
        )

    goes_back : (begun : List ℕ) → HasAnswer (GoesBack begun s.past s)
    goes_back [] = takes_back s.past refl
    goes_back (bid ∷ begun) = (dropped s, is_returned s.point, (refl, refl), drops)

    middle_of : (begun : List ℕ) → s.begun ≡ begun → (m : State) × (middle_state commands s ≡ Some m)
    middle_of [] e = (_, ap (serial s.point.state (next_commands commands s.point)) e)
    middle_of (bid ∷ begun) e = (_, middle s.point.state (next_commands commands s.point) (s.point.steps + 1) s.begun orderly.left orderly.point (orderly.keeps (λ none. some (sym e ∙ none))) orderly.leaders)
      where
        some : bid ∷ begun ≡ [] → ⊥
        some f = cc

    tells_bots : HasAnswer (AnswersLine commands Bots s)
    tells_bots = let middle = middle_of s.begun refl in (s, Crew middle.0.bots, (refl, (middle.0, middle.1, refl)), orderly)

    answered : (line : DebugLine) → HasAnswer (AnswersLine commands line s)
    answered Step = unless_ended s.point.state.bots (TriesStep commands s) tries_step
    answered (Group bid) = unless_ended s.point.state.bots (TriesGroup commands bid s) (tries_group bid)
    answered Back = goes_back s.begun
    answered Bots = tells_bots
    answered (Voxel c) = let the_level = level_of s.point.state.matrix c in (s, _, (refl, (the_level.0, the_level.1, refl)), orderly)

  prints_from : (script : List DebugLine) (s : Session) → IsOrderly commands s
      → (text : List ℕ) × Prints commands script s text
  prints_from [] s orderly = ([], refl)
  prints_from (line ∷ more) s orderly =
      let answered_here = answered s orderly line in
      let rest = prints_from more answered_here.0 answered_here.3 in
      (printed_report answered_here.1 ++ rest.0, (answered_here.0, answered_here.1, rest.0, answered_here.2, rest.1, refl))

  pub some_printing : (script : List DebugLine) (p : SessionPoint) → IsReady p.state
      → (text : List ℕ) × Prints commands script (record { point = p; past = []; begun = [] }) text
  some_printing script p ready = prints_from script (record { point = p; past = []; begun = [] }) (fresh commands p [] ready (λ q i. absurd i))

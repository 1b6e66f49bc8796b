-- Lines that begin the groups of all leaders of a step make that step.
use Rattle.std.proofs.Common.{◌≡◌, ℕ, ◌+◌, ◌≤◌, ◌==◌, refl, sym, ◌∙◌, ap, subst, inl, arith, List, [], ◌∷◌, ◌++◌, Bool, true, false, map, length, append_assoc, drop, length-take}
use Rattle.std.specs.Prelude.{Option, Some, None, IsPermutation, MatchBool, MatchOption, count_by}
use Rattle.std.proofs.lemmas.List.{length-map}
use Rattle.std.proofs.lemmas.List.Sorted.{length_permutation}
use Rattle.nano_spec.specs.declared.commands.Command.{Command}
use Rattle.nano_spec.specs.declared.outcomes.Broken.{Broken}
use Rattle.nano_spec.specs.declared.outcomes.Rule.TheVariants.{Ungrounded}
use Rattle.nano_spec.specs.declared.system.Bot.{Bot}
use Rattle.nano_spec.specs.Act.{Act, acts}
use Rattle.nano_spec.specs.Group.{leaders}
use Rattle.nano_spec.specs.Next.{Breaks, Goes, Next, Outcome, accepts, breaks_at_start, leaves_floating, ungrounded_at}
use Rattle.nano_spec.specs.Rules.{broken}
use Rattle.nano_spec.specs.Serial.{leader_bids}
use Rattle.nano_spec.specs.State.{IsReady, State}
use Rattle.step_order.proofs.Facts.{bots_of, good_is, rising_is}
use Rattle.step_order.proofs.Groups.{led}
use Rattle.step_order.proofs.Lists.{In}
use Rattle.step_debugger.specs.declared.fault.DebugFault.TheVariants as fault
use Rattle.step_debugger.specs.Orders.{BeginEach}
use Rattle.step_debugger.specs.Session.{AnswersLine, BeginsGroup, Begun, Ended, FollowsStep, Group, TriesGroup, NoLeader, Refused, DebugReport, Session, Step, TriesStep, UnlessEnded, is_last, may_begin, next_commands, next_leaders}
use Rattle.step_debugger.proofs.Between.{acts_short}
use Rattle.step_debugger.proofs.Functional.{answered_once}
use Rattle.step_debugger.proofs.Grouping.{is_last_is, is_not_last, leaders_differ, may_begin_is}
use Rattle.step_debugger.proofs.Making.{refused_last}
use Rattle.step_debugger.proofs.Trying.{unless_active, unready_step}

-- ---- a step that keeps the rules of its start breaks none but that of grounding

next_rule : (s : State) (commands : List Command) (step : ℕ) (b : Broken) → broken s commands step ≡ None
    → Next s commands step (Breaks b) → b.rule ≡ Ungrounded
next_rule s commands step b keeps (breaks_at_start w f e) = cc
next_rule s commands step b keeps (leaves_floating c f low u e) = let same : b ≡ ungrounded_at step c = cc in ap (λ (x : Broken). x.rule) same
next_rule s commands step b keeps (accepts f u e) = cc

-- ---- if nothing is begun

module _ (commands : List Command) (s : Session) (none : s.begun ≡ []) (keeps : broken s.point.state (next_commands commands s.point) (s.point.steps + 1) ≡ None) where
  -- the begun groups do not matter for the step
  follows_so : (begun : List ℕ) (t : Session) (r : DebugReport) (outcome : Outcome)
      → Next s.point.state (next_commands commands s.point) (s.point.steps + 1) outcome
      → FollowsStep (record s { begun = begun }) t r outcome → FollowsStep s t r outcome
  follows_so begun t r (Goes v) n h = h
  follows_so begun t r (Breaks b) n h =
      let rule = next_rule s.point.state (next_commands commands s.point) (s.point.steps + 1) b keeps n in
      (h.0 ∙ (refused_last b.rule (record s { begun = begun }) rule ∙ sym (refused_last b.rule s rule)), h.1)

  steps_so : (begun : List ℕ) (t : Session) (r : DebugReport) → TriesStep commands (record s { begun = begun }) t r
      → TriesStep commands s t r
  steps_so begun t r h = (h.0, h.1, follows_so begun t r h.0 h.1 h.2)

  module _ (some : 1 ≤ length s.point.state.bots) (differ : (bid : ℕ) → count_by (λ k. k == bid) (next_leaders commands s.point) ≤ 1) where
    unended : (bots : List Bot) (u t : Session) (r : DebugReport) (P : Type 0) → 1 ≤ length bots
        → UnlessEnded bots u t r P → P
    unended [] u t r P l h = absurd (omega arith)
    unended (b ∷ bots) u t r P l h = h

    begins : (begun : List ℕ) (bid : ℕ) (t : Session) (r : DebugReport)
        → AnswersLine commands (Group bid) (record s { begun = begun }) t r
        → BeginsGroup commands bid (record s { begun = begun }) t r
    begins begun bid t r h =
        subst (λ (o : Option Broken). MatchOption o (BeginsGroup commands bid (record s { begun = begun }) t r) (λ b. (t ≡ record s { begun = begun }) × (r ≡ Refused b))) keeps
        (unended s.point.state.bots (record s { begun = begun }) t r _ some h)

    last_line : (begun : List ℕ) (bid : ℕ) (t : Session) (r : DebugReport)
        → IsPermutation (next_leaders commands s.point) (begun ++ bid ∷ [])
        → AnswersLine commands (Group bid) (record s { begun = begun }) t r → TriesStep commands s t r
    last_line begun bid t r perm h = steps_so begun t r (by (may_begin commands (record s { begun = begun }) bid) (is_last commands (record s { begun = begun }))
        (may_begin_is commands (record s { begun = begun }) (bid ∷ []) perm differ bid 0 (omega arith) refl)
        (is_last_is commands (record s { begun = begun }) (bid ∷ []) perm differ refl)
        (begins begun bid t r h))
      where
        by : (may last : Bool) → may ≡ true → last ≡ true → MatchBool may (MatchBool last
            (TriesStep commands (record s { begun = begun }) t r)
            ((t ≡ record s { begun = begun ++ bid ∷ [] }) × (r ≡ Begun bid (s.point.steps + 1))))
            ((t ≡ record s { begun = begun }) × (r ≡ NoLeader bid))
            → TriesStep commands (record s { begun = begun }) t r
        by true true e f x = x
        by true false e f x = cc
        by false last e f x = cc

    line : (begun : List ℕ) (bid next : ℕ) (more : List ℕ) (t : Session) (r : DebugReport)
        → IsPermutation (next_leaders commands s.point) (begun ++ bid ∷ next ∷ more)
        → AnswersLine commands (Group bid) (record s { begun = begun }) t r → t ≡ record s { begun = begun ++ bid ∷ [] }
    line begun bid next more t r perm h = by (may_begin commands (record s { begun = begun }) bid) (is_last commands (record s { begun = begun }))
        (may_begin_is commands (record s { begun = begun }) (bid ∷ next ∷ more) perm differ bid 0 (omega arith) refl)
        (is_not_last commands (record s { begun = begun }) (bid ∷ next ∷ more) perm differ (omega arith))
        (begins begun bid t r h)
      where
        by : (may last : Bool) → may ≡ true → last ≡ false → MatchBool may (MatchBool last
            (TriesStep commands (record s { begun = begun }) t r)
            ((t ≡ record s { begun = begun ++ bid ∷ [] }) × (r ≡ Begun bid (s.point.steps + 1))))
            ((t ≡ record s { begun = begun }) × (r ≡ NoLeader bid)) → t ≡ record s { begun = begun ++ bid ∷ [] }
        by true false e f x = x.0
        by true true e f x = cc
        by false last e f x = cc

    -- the remaining groups, one after another
    rest_of : (begun : List ℕ) (bid : ℕ) (more : List ℕ) (t : Session)
        → IsPermutation (next_leaders commands s.point) (begun ++ bid ∷ more)
        → BeginEach commands (bid ∷ more) (record s { begun = begun }) t → (r : DebugReport) × TriesStep commands s t r
    rest_of begun bid [] t perm h = (h.1, last_line begun bid t h.1 perm (subst (λ (u : Session). AnswersLine commands (Group bid) (record s { begun = begun }) u h.1) (sym h.3) h.2))
    rest_of begun bid (next ∷ more) t perm h =
        rest_of (begun ++ bid ∷ []) next more t
        (subst (λ (xs : List ℕ). IsPermutation (next_leaders commands s.point) xs) (sym (append_assoc begun (bid ∷ []) (next ∷ more))) perm)
        (subst (λ (u : Session). BeginEach commands (next ∷ more) u t) (line begun bid next more h.0 h.1 perm h.2) h.3)

-- ---- all leaders of a step

refused_each : (commands : List Command) (s : Session) (b : Broken) → 1 ≤ length s.point.state.bots
    → broken s.point.state (next_commands commands s.point) (s.point.steps + 1) ≡ Some b → (order : List ℕ)
    (t : Session) → BeginEach commands order s t → t ≡ s
refused_each commands s b some e [] t h = h
refused_each commands s b some e (bid ∷ order) t h =
    let same = refused_line h.0 h.1 h.2 in
    refused_each commands s b some e order t (subst (λ (u : Session). BeginEach commands order u t) same h.3)
  where
    unended : (bots : List Bot) (u : Session) (r : DebugReport) (P : Type 0) → 1 ≤ length bots
        → UnlessEnded bots s u r P → P
    unended [] u r P l g = absurd (omega arith)
    unended (x ∷ bots) u r P l g = g

    refused_line : (u : Session) (r : DebugReport) → AnswersLine commands (Group bid) s u r → u ≡ s
    refused_line u r g = (subst (λ (o : Option Broken). MatchOption o (BeginsGroup commands bid s u r) (λ w. (u ≡ s) × (r ≡ Refused w))) e (unended s.point.state.bots u r _ some g)).0

ended_each : (commands : List Command) (s : Session) → s.point.state.bots ≡ [] → (order : List ℕ) (t : Session)
    → BeginEach commands order s t → t ≡ s
ended_each commands s e [] t h = h
ended_each commands s e (bid ∷ order) t h =
    let same = (subst (λ (bots : List Bot). UnlessEnded bots s h.0 h.1 (TriesGroup commands bid s h.0 h.1)) e h.2).0 in
    ended_each commands s e order t (subst (λ (u : Session). BeginEach commands order u t) same h.3)

some_leader : (s : State) (commands : List Command) (step : ℕ) → IsReady s → broken s commands step ≡ None
    → 1 ≤ length s.bots → 1 ≤ length (leader_bids (acts s.bots commands))
some_leader s commands step ready keeps some = by (acts s.bots commands) refl (ap length (bots_of s commands step ready keeps))
  where
    member : (xs : List Act) (x : Act) → In x xs → 1 ≤ length xs
    member [] x i = absurd i
    member (y ∷ xs) x i = omega arith

    by : (xs : List Act) → acts s.bots commands ≡ xs
        → length (map (λ (a : Act). a.bot) (acts s.bots commands)) ≡ length s.bots
        → 1 ≤ length (leader_bids (acts s.bots commands))
    by [] e n = absurd (let length_is = ap (λ (ys : List Act). length (map (λ (a : Act). a.bot) ys)) e in omega (arith, length_is, n, some))
    by (x ∷ xs) e n =
        let led_by = led (acts s.bots commands) (good_is s commands step ready keeps).apart x (subst (λ (ys : List Act). In x ys) (sym e) (inl refl)) in
        let some_member = member (leaders (acts s.bots commands)) led_by.0 led_by.1 in
        let mapped_length = length-map (leaders (acts s.bots commands)) (λ (a : Act). a.bot.bid) in
        omega (arith, some_member, mapped_length)

pub makes_the_step : (commands : List Command) (order : List ℕ) (s t : Session) → IsReady s.point.state → s.begun ≡ []
    → IsPermutation (next_leaders commands s.point) order → BeginEach commands order s t
    → (r : DebugReport) × AnswersLine commands Step s t r
makes_the_step commands order s t ready none perm h = by s.point.state.bots refl
  where
    tried : 1 ≤ length s.point.state.bots → (o : Option Broken)
        → broken s.point.state (next_commands commands s.point) (s.point.steps + 1) ≡ o
        → (r : DebugReport) × AnswersLine commands Step s t r
    tried some (Some b) e = (Refused b, subst (λ (u : Session). AnswersLine commands Step s u (Refused b)) (sym (refused_each commands s b some e order t h)) (unready_step commands s (fault.Broken b) (some, e)))
    tried some None e = made_of order perm (subst (λ (u : Session). BeginEach commands order u t) begun_none h)
      where
        begun_none : s ≡ record s { begun = [] }
        begun_none = λ i. record s { begun = none i }

        all_given : length (next_commands commands s.point) ≡ length s.point.state.bots
        all_given =
            let bots = ap length (bots_of s.point.state (next_commands commands s.point) (s.point.steps + 1) ready e) in
            let as_many = length-map (acts s.point.state.bots (next_commands commands s.point)) (λ (a : Act). a.bot) in
            let short = acts_short s.point.state.bots (next_commands commands s.point) in
            let taken = length-take (length s.point.state.bots) (drop s.point.taken commands) in
            omega (arith, bots, as_many, short, taken)

        differ : (bid : ℕ) → count_by (λ k. k == bid) (next_leaders commands s.point) ≤ 1
        differ bid = leaders_differ s.point.state.bots (next_commands commands s.point) (rising_is s.point.state.bots ready.rising) all_given bid

        made_of : (xs : List ℕ) → IsPermutation (next_leaders commands s.point) xs
            → BeginEach commands xs (record s { begun = [] }) t → (r : DebugReport) × AnswersLine commands Step s t r
        made_of [] p g = absurd (let leader_there = some_leader s.point.state (next_commands commands s.point) (s.point.steps + 1) ready e some in let same_length = length_permutation (next_leaders commands s.point) [] p in omega (arith, leader_there, same_length))
        made_of (bid ∷ more) p g =
            let the_rest = rest_of commands s none e some differ [] bid more t p g in
            (the_rest.0, unless_active s.point.state.bots s t the_rest.0 _ some the_rest.1)

    by : (bots : List Bot) → s.point.state.bots ≡ bots → (r : DebugReport) × AnswersLine commands Step s t r
    by [] e = (Ended, subst (λ (u : Session). AnswersLine commands Step s u Ended) (sym (ended_each commands s e order t h)) (unready_step commands s fault.Ended e))
    by (b ∷ bots) e = tried (let length_is = ap length e in omega (arith, length_is)) (broken s.point.state (next_commands commands s.point) (s.point.steps + 1)) refl

pub one_end : (commands : List Command) (first second : List ℕ) (s t u : Session) → IsReady s.point.state → s.begun ≡ []
    → IsPermutation (next_leaders commands s.point) first → IsPermutation (next_leaders commands s.point) second
    → BeginEach commands first s t → BeginEach commands second s u → t ≡ u
one_end commands first second s t u ready none p q h k =
    let step_made = makes_the_step commands first s t ready none p h in
    let step_made_here = makes_the_step commands second s u ready none q k in
    (answered_once commands Step s t u step_made.0 step_made_here.0 step_made.1 step_made_here.1).0

-- A group of the next step begins.
use Rattle.std.proofs.Common.{◌≡◌, ℕ, zero, suc, ◌+◌, ◌≤◌, ◌<◌, ◌==◌, refl, sym, ◌∙◌, ap, subst, inl, inr, arith, List, [], ◌∷◌, ◌++◌, Bool, true, false, cond, ◌&&◌, ◌||◌, map, length, length-append, append_assoc, get_or}
use Rattle.std.specs.Prelude.{Option, Some, None, Ok, Err, IfNone, IfSome, IsSomeAnd, IsPermutation, MatchBool, MatchOption, All, ◌+ℤ◌, not, count_by}
use Rattle.std.specs.List.{list_any, remove}
use Rattle.std.proofs.lemmas.Bool.Decides.{nat_tests}
use Rattle.std.proofs.lemmas.List.Sorted.{IsPermutation-more, length_permutation, list_any-IsPermutation, sum_by-IsPermutation}
use Rattle.std.proofs.lemmas.List.Sums.{sum_by-append, sum_by-cons}
use Rattle.nano_spec.specs.declared.commands.Command.{Command}
use Rattle.nano_spec.specs.declared.outcomes.Broken.{Broken}
use Rattle.nano_spec.specs.declared.system.Bot.{Bot}
use Rattle.nano_spec.specs.Act.{Act, acts}
use Rattle.nano_spec.specs.Group.{is_leader, leaders}
use Rattle.nano_spec.specs.Rules.{broken}
use Rattle.nano_spec.specs.Serial.{acts_of, leader_bids, serial}
use Rattle.nano_spec.specs.State.{IsReady, State}
use Rattle.step_machine.specs.Situation.{Situation}
use Rattle.step_machine.specs.declared.machine.StepOk.{StepOk}
use Rattle.step_machine.specs.declared.undo.Undo.{Undo}
use Rattle.step_order.specs.SomeGroups.{after_some}
use Rattle.system_state.specs.Turns.{FollowsOn, bots_after_some}
use Rattle.vox_geom.specs.Space.{IsInSpace}
use Rattle.nano_spec.specs.Energy.{upkeep}
use Rattle.step_order.proofs.Facts.{Rising, rising_is}
use Rattle.step_order.proofs.Groups.{Differ, differ_acts, differ_filter}
use Rattle.step_order.proofs.Lists.{In, map_in, none_any, in_place}
use Rattle.step_order.proofs.Judgements.{all_bots as bots_are}
use Rattle.circular_buffer.specs.Buffer.{Buffer}
use Rattle.step_debugger.specs.declared.fault.DebugFault.{DebugFault}
use Rattle.step_debugger.specs.declared.fault.DebugFault.TheVariants as fault
use Rattle.step_debugger.specs.Calls.{group_report, step_report}
use Rattle.step_debugger.specs.Debugging.{Debugging, debugging_of, point_of}
use Rattle.step_debugger.specs.Kept.{AreBegun, Begin, IsKept}
use Rattle.step_debugger.specs.Session.{AnswersLine, BeginsGroup, Begun, Ended, Group, NoLeader, Refused, DebugReport, Session, TriesStep, is_last, may_begin, middle_state, next_commands, next_leaders}
use Rattle.step_debugger.proofs.Making.{here}
use Rattle.step_debugger.proofs.Trying.{unless_active}

-- ---- the leaders' bids differ

count_differ : {X : Type 0} (key : X → ℕ) (xs : List X) (bid : ℕ) → Differ key xs
    → count_by (λ k. k == bid) (map key xs) ≤ 1
count_differ key [] bid h = omega arith
count_differ {X} key (x ∷ xs) bid h =
    let sum_is : count_by (λ k. k == bid) (key x ∷ map key xs) ≡ cond (key x == bid) 1 0 + count_by (λ k. k == bid) (map key xs) = sum_by-cons (λ k. cond {A = ℕ} (k == bid) 1 0) (key x) (map key xs) in
    let count_bound = count_differ key xs bid h.1 in
    let one : cond (key x == bid) 1 0 + count_by (λ k. k == bid) (map key xs) ≤ 1 = by (key x == bid) refl count_bound in
    omega (arith, sum_is, one)
  where
    test_is : (a b : ℕ) → (a == b) ≡ true → a ≡ b
    test_is a b t = grind (arith, nat_tests)

    none : (ys : List ℕ) → ((y : ℕ) → In y ys → (y == bid) ≡ true → ⊥) → count_by (λ k. k == bid) ys ≡ 0
    none [] n = refl
    none (y ∷ ys) n =
        let sum_is : count_by (λ k. k == bid) (y ∷ ys) ≡ cond (y == bid) 1 0 + count_by (λ k. k == bid) ys = sum_by-cons (λ k. cond {A = ℕ} (k == bid) 1 0) y ys in
        let none_there = none ys (λ z i. n z (inr i)) in
        let choice_zero : cond {A = ℕ} (y == bid) 1 0 ≡ 0 = zero_of (y == bid) (n y (inl refl)) in
        omega (arith, sum_is, none_there, choice_zero)
      where
        zero_of : (b : Bool) → (b ≡ true → ⊥) → cond {A = ℕ} b 1 0 ≡ 0
        zero_of true m = absurd (m refl)
        zero_of false m = refl

    by : (b : Bool) → (key x == bid) ≡ b → count_by (λ k. k == bid) (map key xs) ≤ 1
        → cond b 1 0 + count_by (λ k. k == bid) (map key xs) ≤ 1
    by false t r = omega arith
    by true t r =
        let none_there = none (map key xs) (λ y i f. let origin = map_in key y xs i in h.0 origin.0 origin.1 (test_is (key x) bid t ∙ (sym (test_is y bid f) ∙ origin.2))) in
        omega (arith, none_there)

pub leaders_differ : (bots : List Bot) (commands : List Command) (ready : Rising bots) → length commands ≡ length bots
    → (bid : ℕ) → count_by (λ k. k == bid) (leader_bids (acts bots commands)) ≤ 1
leaders_differ bots commands rising all bid =
    count_differ (λ (a : Act). a.bot.bid) (leaders (acts bots commands)) bid
    (differ_filter (λ (a : Act). a.bot.bid) (is_leader (acts bots commands)) (acts bots commands)
    (differ_acts (acts bots commands) (subst (λ (bs : List Bot). Rising bs) (sym (bots_are bots commands all)) rising)))

pub differ_seen : (s : State) (d : Debugging) → s ≡ d.session.point.state → IsReady s
    → length (next_commands d.commands d.session.point) ≡ length d.session.point.state.bots → (bid : ℕ)
    → count_by (λ k. k == bid) (next_leaders d.commands d.session.point) ≤ 1
differ_seen s d e ready all bid =
    leaders_differ d.session.point.state.bots (next_commands d.commands d.session.point) (subst (λ (t : State). Rising t.bots) e (rising_is s.bots ready.rising)) all bid

-- ---- the leaders that may begin

counted : (xs : List ℕ) (bid : ℕ) → list_any (λ k. k == bid) xs ≡ true → 1 ≤ count_by (λ k. k == bid) xs
counted [] bid h = cc
counted (x ∷ xs) bid h =
    let sum_is : count_by (λ k. k == bid) (x ∷ xs) ≡ cond (x == bid) 1 0 + count_by (λ k. k == bid) xs = sum_by-cons (λ k. cond {A = ℕ} (k == bid) 1 0) x xs in
    let some_sum : 1 ≤ cond (x == bid) 1 0 + count_by (λ k. k == bid) xs = by (x == bid) refl (λ f. counted xs bid f) h in
    omega (arith, sum_is, some_sum)
  where
    by : (b : Bool) → (x == bid) ≡ b → (list_any (λ k. k == bid) xs ≡ true → 1 ≤ count_by (λ k. k == bid) xs)
        → (b || list_any (λ k. k == bid) xs) ≡ true → 1 ≤ cond b 1 0 + count_by (λ k. k == bid) xs
    by true t later f = omega arith
    by false t later f = let later_on = later f in omega (arith, later_on)

any_append : (p : ℕ → Bool) (xs ys : List ℕ) → list_any p (xs ++ ys) ≡ (list_any p xs || list_any p ys)
any_append p [] ys = refl
any_append p (x ∷ xs) ys = ap (λ b. p x || b) (any_append p xs ys) ∙ assoc (p x) (list_any p xs) (list_any p ys)
  where
    assoc : (a b c : Bool) → (a || (b || c)) ≡ ((a || b) || c)
    assoc true b c = refl
    assoc false b c = refl

pub any_here : (xs : List ℕ) (i bid : ℕ) → i < length xs → get_or xs i 0 ≡ bid → list_any (λ k. k == bid) xs ≡ true
any_here [] i bid l e = absurd (omega arith)
any_here (x ∷ xs) zero bid l e = ap (λ b. b || list_any (λ k. k == bid) xs) (same x bid e)
  where
    same : (a b : ℕ) → a ≡ b → (a == b) ≡ true
    same a b f = grind (arith, nat_tests)
any_here (x ∷ xs) (suc i) bid l e = or_true (x == bid) (list_any (λ k. k == bid) xs) (any_here xs i bid (omega arith) e)
  where
    or_true : (a b : Bool) → b ≡ true → (a || b) ≡ true
    or_true true b f = refl
    or_true false b f = f

-- a bid at no index
pub not_found : (xs : List ℕ) (bid i : ℕ) → length xs ≤ i → ((k : ℕ) → k < i → get_or xs k 0 ≡ bid → ⊥)
    → list_any (λ k. k == bid) xs ≡ false
not_found xs bid i past none = none_any (λ k. k == bid) xs (λ x m t. let place = in_place x 0 xs m in none place.0 (let l = place.1 in omega (arith, l, past)) (place.2 ∙ same x t))
  where
    same : (a : ℕ) → (a == bid) ≡ true → a ≡ bid
    same a t = grind (arith, nat_tests)

pub list_unfound : (slice xs : List ℕ) (bid : ℕ) (place : Option ℕ) → slice ≡ xs → place ≡ None
    → IfNone place (list_any (λ k. k == bid) slice ≡ false) → list_any (λ k. k == bid) xs ≡ false
list_unfound slice xs bid None e f h = ap (list_any (λ k. k == bid)) (sym e) ∙ h
list_unfound slice xs bid (Some i) e f h = cc

module _ (commands : List Command) (s : Session) (left : List ℕ) (perm : IsPermutation (next_leaders commands s.point) (s.begun ++ left)) (differ : (bid : ℕ) → count_by (λ k. k == bid) (next_leaders commands s.point) ≤ 1) where
  any_is : (bid : ℕ) → list_any (λ k. k == bid) (next_leaders commands s.point)
      ≡ (list_any (λ k. k == bid) s.begun || list_any (λ k. k == bid) left)
  any_is bid = list_any-IsPermutation (λ k. k == bid) (next_leaders commands s.point) (s.begun ++ left) perm ∙ any_append (λ k. k == bid) s.begun left

  count_is : (bid : ℕ) → count_by (λ k. k == bid) s.begun + count_by (λ k. k == bid) left ≤ 1
  count_is bid =
      let same_count : count_by (λ k. k == bid) (s.begun ++ left) ≡ count_by (λ k. k == bid) (next_leaders commands s.point) = sum_by-IsPermutation (λ k. cond {A = ℕ} (k == bid) 1 0) (next_leaders commands s.point) (s.begun ++ left) perm in
      let count_sum : count_by (λ k. k == bid) (s.begun ++ left) ≡ count_by (λ k. k == bid) s.begun + count_by (λ k. k == bid) left = sum_by-append (λ k. cond {A = ℕ} (k == bid) 1 0) s.begun left in
      let they_differ = differ bid in
      omega (arith, same_count, count_sum, they_differ)

  pub may_begin_is : (bid i : ℕ) → i < length left → get_or left i 0 ≡ bid → may_begin commands s bid ≡ true
  may_begin_is bid i l e =
      let there = any_here left i bid l e in
      (λ j. any_is bid j && not (list_any (λ k. k == bid) s.begun))
      ∙ on (list_any (λ k. k == bid) s.begun) (list_any (λ k. k == bid) left) there (λ f. let counted_here = counted s.begun bid f in let counted_here_too = counted left bid there in let counts_bound = count_is bid in omega (arith, counted_here, counted_here_too, counts_bound))
    where
      on : (x y : Bool) → y ≡ true → (x ≡ true → ⊥) → ((x || y) && not x) ≡ true
      on true y f n = absurd (n refl)
      on false y f n = ap (λ z. z && true) f

  pub may_not_begin : (bid : ℕ) → list_any (λ k. k == bid) left ≡ false → may_begin commands s bid ≡ false
  may_not_begin bid f = (λ j. any_is bid j && not (list_any (λ k. k == bid) s.begun)) ∙ on (list_any (λ k. k == bid) s.begun) (list_any (λ k. k == bid) left) f
    where
      on : (x y : Bool) → y ≡ false → ((x || y) && not x) ≡ false
      on true y g = refl
      on false y g = ap (λ z. z && true) g

  length_is : length (next_leaders commands s.point) ≡ length s.begun + length left
  length_is = let same_length = length_permutation (next_leaders commands s.point) (s.begun ++ left) perm in let joined_length = length-append s.begun left in omega (arith, same_length, joined_length)

  pub is_last_is : length left ≡ 1 → is_last commands s ≡ true
  is_last_is e = let length_here = length_is in same (length s.begun + 1) (length (next_leaders commands s.point)) (omega (arith, length_here, e))
    where
      same : (a b : ℕ) → a ≡ b → (a == b) ≡ true
      same a b f = grind (arith, nat_tests)

  pub is_not_last : 1 < length left → is_last commands s ≡ false
  is_not_last m = let length_here = length_is in other (length s.begun + 1) (length (next_leaders commands s.point)) (omega (arith, length_here, m))
    where
      other : (a b : ℕ) → a < b → (a == b) ≡ false
      other a b f = grind (arith, nat_tests)

-- ---- the answer to a group's line

module _ (commands : List Command) (s : Session) (bid : ℕ) (some : 1 ≤ length s.point.state.bots) where
  judged : (t : Session) (report : DebugReport)
      → broken s.point.state (next_commands commands s.point) (s.point.steps + 1) ≡ None
      → BeginsGroup commands bid s t report → AnswersLine commands (Group bid) s t report
  judged t report e h =
      unless_active s.point.state.bots s t report _ some
      (subst (λ (o : Option Broken). MatchOption o (BeginsGroup commands bid s t report) (λ b. (t ≡ s) × (report ≡ Refused b))) (sym e) h)

  module _ (keeps : broken s.point.state (next_commands commands s.point) (s.point.steps + 1) ≡ None) where
    pub no_leader : may_begin commands s bid ≡ false → AnswersLine commands (Group bid) s s (NoLeader bid)
    no_leader f = judged s (NoLeader bid) keeps (subst (λ (b : Bool). MatchBool b (MatchBool (is_last commands s) (TriesStep commands s s (NoLeader bid)) ((s ≡ record s { begun = s.begun ++ bid ∷ [] }) × (NoLeader bid ≡ Begun bid (s.point.steps + 1)))) ((s ≡ s) × (NoLeader bid ≡ NoLeader bid))) (sym f) (refl, refl))

    group_begun : (t : Session) → t ≡ record s { begun = s.begun ++ bid ∷ [] } → may_begin commands s bid ≡ true
        → is_last commands s ≡ false → AnswersLine commands (Group bid) s t (Begun bid (s.point.steps + 1))
    group_begun t is f g = judged t (Begun bid (s.point.steps + 1)) keeps
        (subst (λ (b : Bool). MatchBool b (MatchBool (is_last commands s) (TriesStep commands s t (Begun bid (s.point.steps + 1))) ((t ≡ record s { begun = s.begun ++ bid ∷ [] }) × (Begun bid (s.point.steps + 1) ≡ Begun bid (s.point.steps + 1)))) ((t ≡ s) × (Begun bid (s.point.steps + 1) ≡ NoLeader bid))) (sym f)
        (subst (λ (b : Bool). MatchBool b (TriesStep commands s t (Begun bid (s.point.steps + 1))) ((t ≡ record s { begun = s.begun ++ bid ∷ [] }) × (Begun bid (s.point.steps + 1) ≡ Begun bid (s.point.steps + 1)))) (sym g) (is, refl)))

    pub group_begun_at : (t : Session) → t ≡ record s { begun = s.begun ++ bid ∷ [] } → may_begin commands s bid ≡ true
        → is_last commands s ≡ false → AnswersLine commands (Group bid) s t (Begun bid (t.point.steps + 1))
    group_begun_at t is f g = subst (λ (n : ℕ). AnswersLine commands (Group bid) s t (Begun bid (n + 1))) (sym (ap (λ (x : Session). x.point.steps) is)) (group_begun t is f g)

    group_last : (t : Session) (report : DebugReport) → TriesStep commands s t report → may_begin commands s bid ≡ true
        → is_last commands s ≡ true → AnswersLine commands (Group bid) s t report
    group_last t report made f g = judged t report keeps
        (subst (λ (b : Bool). MatchBool b (MatchBool (is_last commands s) (TriesStep commands s t report) ((t ≡ record s { begun = s.begun ++ bid ∷ [] }) × (report ≡ Begun bid (s.point.steps + 1)))) ((t ≡ s) × (report ≡ NoLeader bid))) (sym f)
        (subst (λ (b : Bool). MatchBool b (TriesStep commands s t report) ((t ≡ record s { begun = s.begun ++ bid ∷ [] }) × (report ≡ Begun bid (s.point.steps + 1)))) (sym g) made))

    -- the last group, by the answer of the step
    pub last_ok : (t : Session) (ok : StepOk) → IfSome (step_report t.point.steps (Ok ok)) (TriesStep commands s t)
        → may_begin commands s bid ≡ true → is_last commands s ≡ true
        → IfSome (group_report bid t.point.steps (Ok (Some ok))) (AnswersLine commands (Group bid) s t)
    last_ok t ok made f g = group_last t _ made f g

    pub last_err : (t : Session) (fault : DebugFault)
        → IfSome (step_report t.point.steps (Err fault)) (TriesStep commands s t) → may_begin commands s bid ≡ true
        → is_last commands s ≡ true
        → IfSome (group_report bid t.point.steps (Err fault)) (AnswersLine commands (Group bid) s t)
    last_err t (fault.Broken b) made f g = group_last t (Refused b) made f g
    last_err t fault.Ended made f g = group_last t Ended made f g
    last_err t fault.NoHistory made f g = group_last t _ made f g
    last_err t (fault.NotLeader leader) made f g = group_last t (NoLeader leader) made f g
    last_err t fault.Memory made f g = tt

-- ---- the invariant

abbrev pub FirstLaw : Type 0
FirstLaw = (s : State) (commands : List Command) (step : ℕ) → IsReady s → broken s commands step ≡ None → record s { energy = s.energy +ℤ upkeep s } ≡ after_some s (acts s.bots commands) []

abbrev pub MiddleLaw : Type 0
MiddleLaw = (s : State) (commands : List Command) (step : ℕ) (order rest : List ℕ) → IsReady s → broken s commands step ≡ None → IsPermutation (leader_bids (acts s.bots commands)) (order ++ rest) → serial s commands order ≡ Some (after_some s (acts s.bots commands) (acts_of (acts s.bots commands) order))

module _ (v : Situation) (notes : Buffer Undo) (commands : List Command) (taken : ℕ) (begun old : List ℕ) (bots : List Bot) (d : Debugging)
    (e : debugging_of v notes.items commands taken begun ≡ d) (kept : IsKept v notes commands taken begun old bots) (stands : d.spent ≡ false) where
  -- the bots after the begun groups
  pub standing_are : FirstLaw → IsReady v.state
      → broken v.state (next_commands commands (point_of v taken)) (v.steps + 1) ≡ None
      → bots ≡ bots_after_some v.state (next_commands commands (point_of v taken)) begun
  standing_are law ready keeps = by begun (here v notes commands taken begun old bots d e kept stands).begin
    where
      by : (xs : List ℕ) → Begin commands (point_of v taken) xs old bots
          → bots ≡ bots_after_some v.state (next_commands commands (point_of v taken)) xs
      by [] g = g ∙ ap (λ (s : State). s.bots) (law v.state (next_commands commands (point_of v taken)) (v.steps + 1) ready keeps)
      by (x ∷ xs) g = g.bots_are

  -- they are those of the middle state
  pub middle_is : MiddleLaw → IsReady v.state → IsSomeAnd (middle_state d.commands d.session) (λ m. bots ≡ m.bots)
  middle_is law ready = subst (λ (x : Debugging). IsSomeAnd (middle_state x.commands x.session) (λ m. bots ≡ m.bots)) e (by begun (here v notes commands taken begun old bots d e kept stands).begin)
    where
      by : (xs : List ℕ) → Begin commands (point_of v taken) xs old bots
          → IsSomeAnd (serial v.state (next_commands commands (point_of v taken)) xs) (λ m. bots ≡ m.bots)
      by [] g = g
      by (x ∷ xs) g = subst (λ (o : Option State). IsSomeAnd o (λ m. bots ≡ m.bots)) (sym (law v.state (next_commands commands (point_of v taken)) (v.steps + 1) (x ∷ xs) old ready g.keeps g.leaders)) g.bots_are

  module _ (left : List ℕ) (place leader : ℕ) (keeps : broken d.session.point.state (next_commands d.commands d.session.point) (d.session.point.steps + 1) ≡ None) (perm : IsPermutation (next_leaders d.commands d.session.point) (d.session.begun ++ left))
      (below : place < length left) (is : get_or left place 0 ≡ leader) where
    pub keeps_here : broken v.state (next_commands commands (point_of v taken)) (v.steps + 1) ≡ None
    keeps_here = subst (λ (x : Debugging). broken x.session.point.state (next_commands x.commands x.session.point) (x.session.point.steps + 1) ≡ None) (sym e) keeps

    same : (xs : List ℕ) (k a b : ℕ) → k < length xs → get_or xs k b ≡ get_or xs k a
    same [] k a b l = absurd (omega arith)
    same (x ∷ xs) zero a b l = refl
    same (x ∷ xs) (suc k) a b l = same xs k a b (omega arith)

    more : IsPermutation (next_leaders commands (point_of v taken)) ((begun ++ leader ∷ []) ++ remove left place)
    more = IsPermutation-more (next_leaders commands (point_of v taken)) begun left place leader below (sym is ∙ same left place leader 0 below)
        (subst (λ (x : Debugging). IsPermutation (next_leaders x.commands x.session.point) (x.session.begun ++ left)) (sym e) perm)

    -- the group of the leader is applied after the begun ones
    pub follows_on : FirstLaw → IsReady v.state → (next : List Command)
        → next ≡ next_commands commands (point_of v taken)
        → FollowsOn v.state next begun leader (remove left place) bots
    follows_on law ready next n = subst (λ (xs : List Command). FollowsOn v.state xs begun leader (remove left place) bots) (sym n) (record {
      leaders = subst (λ (ks : List ℕ). IsPermutation (next_leaders commands (point_of v taken)) ks) (append_assoc begun (leader ∷ []) (remove left place)) more;
      bots_are = standing_are law ready keeps_here;
    })

    begins : (xs : List ℕ) (rest : List ℕ) (standing : List Bot)
        → AreBegun commands (point_of v taken) (xs ++ leader ∷ []) rest standing
        → Begin commands (point_of v taken) (xs ++ leader ∷ []) rest standing
    begins [] rest standing h = h
    begins (x ∷ xs) rest standing h = h

    pub kept_begun : (rest now : List ℕ) (standing : List Bot) (next : List Command)
        → next ≡ next_commands commands (point_of v taken) → rest ≡ remove left place → now ≡ begun ++ leader ∷ []
        → standing ≡ bots_after_some v.state next (begun ++ leader ∷ [])
        → All (λ b. IsInSpace v.state.matrix.resolution b.pos) standing
        → IsKept v notes commands taken now rest standing
    kept_begun rest now standing next x r n are space =
        let fit = here v notes commands taken begun old bots d e kept stands in
        record {
          few = kept.few;
          capacity = kept.capacity;
          fit = λ _. record {
            well_formed = fit.well_formed;
            counted = fit.counted;
            taken = fit.taken;
            notes_lead = fit.notes_lead;
            begin = subst (λ (ks : List ℕ). Begin commands (point_of v taken) ks rest standing) (sym n) (begins begun rest standing (record {
              keeps = keeps_here;
              leaders = subst (λ (ks : List ℕ). IsPermutation (next_leaders commands (point_of v taken)) ((begun ++ leader ∷ []) ++ ks)) (sym r) more;
              bots_are = are ∙ ap (λ (xs : List Command). bots_after_some v.state xs (begun ++ leader ∷ [])) x;
            }));
            within = space;
          };
        }

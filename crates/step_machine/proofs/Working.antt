-- The touches of a step, bounded by its work.
use Rattle.std.proofs.Common.{◌≡◌, ℕ, ◌+◌, ◌*◌, ◌≤◌, ◌<◌, refl, sym, ◌∙◌, ap, subst, inl, inr, ◌⊎◌, arith, List, [], ◌∷◌, ◌++◌, Bool, true, false, ◌&&◌, ◌||◌, not, length, length-append}
use Rattle.std.specs.Prelude.{Option, Some, None, count_by, filter, sum_by, slice_get, option_map}
use Rattle.std.specs.List.{list_any}
use Rattle.std.proofs.lemmas.List.Sums.{length-filter, sum-map, sum_by-cons}
use Rattle.std.proofs.lemmas.Option.{slice_get_within}
use Rattle.vox_geom.specs.declared.coordinate.Coord.{Coord}
use Rattle.vox_geom.specs.Point.{point}
use Rattle.vox_geom.proofs.Truths.{or_by_first, or_by_second}
use Rattle.nano_spec.specs.declared.commands.Command.{Command}
use Rattle.nano_spec.specs.declared.outcomes.Broken.{Broken}
use Rattle.nano_spec.specs.declared.outcomes.Rule.{Rule}
use Rattle.nano_spec.specs.declared.outcomes.Rule.TheVariants.{TraceEnds, HaltAlone, HaltOrigin, HaltLow, OutOfSpace, Blocked, Seeds, InRegion, Partner, GroupShape, Interference, Ungrounded, AfterHalt, WrongResult, Forbidden}
use Rattle.nano_spec.specs.declared.system.Bot.{Bot}
use Rattle.nano_spec.specs.Act.{Act, acts, stays_in_space}
use Rattle.nano_spec.specs.Group.{are_together, is_leader, leaders, members}
use Rattle.nano_spec.specs.Matrix.{Matrix, all_of, differ_at, is_full}
use Rattle.nano_spec.specs.Rules.{broken, judge_bots, judge_pairs, judge_trace}
use Rattle.nano_spec.specs.State.{IsReady, State}
use Rattle.nano_spec.specs.Step.{after, is_filled, is_voided, matrix_after}
use Rattle.nano_spec.specs.Volatile.{is_volatile_of}
use Rattle.nano_spec.specs.Work.{Levels, WorkOfActs, WorkOfJudged, WorkOfStep, changed_count, differing, volatile_count, volatile_total, without_voided, work_by_rule}
use Rattle.support_forest.proofs.Counts.{count_le}
use Rattle.step_order.proofs.Facts.{IsGood, good_is}
use Rattle.step_order.proofs.JudgedRules.{no_end}
use Rattle.step_order.proofs.Lists.{In, both, filter_in, in_any, in_either, in_filter, not_both}
use Rattle.step_order.proofs.Together.{with_itself}
use Rattle.step_order.proofs.Voxels.{full_where, in_coordinates}
use Rattle.step_machine.specs.Edits.{edit_count, edits_of, edits_total, is_edited}
use Rattle.step_machine.proofs.Apart.{Apart, apart_append}
use Rattle.step_machine.proofs.Acting.{leader_stays}
use Rattle.step_machine.proofs.Changed.{cell_of, cells_apart, edits_own, one_way, void_state}
use Rattle.step_machine.proofs.Regions.{empties, other_edit}
use Rattle.step_machine.proofs.Sizes.{count_none, no_more}
use Rattle.step_machine.proofs.Stepping.{bots_rule, first_in, pairs_rule}

-- ---- the coordinates that the groups name are volatile

edits_one : (m : Matrix) (a : Act) → edit_count m true a + edit_count m false a ≡ edit_count m (empties a.command) a
edits_one m a = by (empties a.command) (other_edit a.bot a.command)
  where
    gone : (full : Bool) → ((c : Coord) → is_edited full a c ≡ false) → edit_count m full a ≡ 0
    gone full e = (λ i. count_by (λ c. e c i) (all_of m)) ∙ count_none (all_of m)

    by : (b : Bool) → ((c : Coord) → is_edited (not b) a c ≡ false)
        → edit_count m true a + edit_count m false a ≡ edit_count m b a
    by true e = let gone_here = gone false e in omega (arith, gone_here)
    by false e = let gone_here = gone true e in omega (arith, gone_here)

module _ (s : State) (commands : List Command) (step : ℕ) (ready : IsReady s) (keeps : broken s commands step ≡ None) where
  good : IsGood s (acts s.bots commands)
  good = good_is s commands step ready keeps

  edits_volatile : (l : Act) → In l (leaders (acts s.bots commands))
      → edit_count s.matrix true l + edit_count s.matrix false l ≤ volatile_count s.matrix (acts s.bots commands) l
  edits_volatile l i =
      let one_edit_count = edits_one s.matrix l in
      let own = filter_in (is_leader (acts s.bots commands)) l (acts s.bots commands) i in
      let le = count_le (is_edited (empties l.command) l) (λ c. list_any (is_volatile_of (point c)) (filter (stays_in_space s.matrix.resolution) (members (acts s.bots commands) l)))
      (λ c h. in_any (is_volatile_of (point c)) l (filter (stays_in_space s.matrix.resolution) (members (acts s.bots commands) l))
      (in_filter (stays_in_space s.matrix.resolution) l (members (acts s.bots commands) l) (in_filter (are_together l) l (acts s.bots commands) own.0 (with_itself l)) (leader_stays s commands step ready keeps l i))
      (edits_own (empties l.command) l c h))
      (all_of s.matrix) in
      omega (arith, one_edit_count, le)

  pub edits_are_volatile : edits_total s.matrix true (leaders (acts s.bots commands))
      + edits_total s.matrix false (leaders (acts s.bots commands)) ≤ volatile_total s.matrix (acts s.bots commands)
  edits_are_volatile = let mapped_sum = sum-map (volatile_count s.matrix (acts s.bots commands)) (leaders (acts s.bots commands)) in let l = by (leaders (acts s.bots commands)) (λ a i. i) in omega (arith, mapped_sum, l)
    where
      by : (ls : List Act) → ((a : Act) → In a ls → In a (leaders (acts s.bots commands)))
          → edits_total s.matrix true ls + edits_total s.matrix false ls
          ≤ sum_by (volatile_count s.matrix (acts s.bots commands)) ls
      by [] h = omega arith
      by (l ∷ ls) h =
          let sum_is = sum_by-cons (edit_count s.matrix true) l ls in
          let first_of_sum = sum_by-cons (edit_count s.matrix false) l ls in
          let sum_is_here = sum_by-cons (volatile_count s.matrix (acts s.bots commands)) l ls in
          let volatile_bound = edits_volatile l (h l (inl refl)) in
          let b = by ls (λ d i. h d (inr i)) in
          omega (arith, sum_is, first_of_sum, sum_is_here, volatile_bound, b)

  -- ---- the listed voxels change

  lost_differs : (c : Coord) → In c (edits_of s commands true)
      → differ_at s.matrix (matrix_after s.matrix (acts s.bots commands)) c ≡ true
  lost_differs c i =
      let cell_facts = cell_of s (acts s.bots commands) good true c i in
      let gone : (is_filled (acts s.bots commands) c || (is_full s.matrix c && not (is_voided (acts s.bots commands) c))) ≡ false = voided_gone (is_filled (acts s.bots commands) c) (is_full s.matrix c) (is_voided (acts s.bots commands) c) (λ f. one_way s (acts s.bots commands) good c cell_facts.0 cell_facts.2 f) cell_facts.2 in
      let full_where_here = full_where s.matrix.resolution (λ d. is_filled (acts s.bots commands) d || (is_full s.matrix d && not (is_voided (acts s.bots commands) d))) c cell_facts.0 ∙ gone in
      or_by_first (is_full s.matrix c && not (is_full (matrix_after s.matrix (acts s.bots commands)) c)) (is_full (matrix_after s.matrix (acts s.bots commands)) c && not (is_full s.matrix c)) (both cell_facts.1 (ap not full_where_here))
    where
      voided_gone : (f u v : Bool) → (f ≡ true → ⊥) → v ≡ true → (f || (u && not v)) ≡ false
      voided_gone true u v n e = absurd (n refl)
      voided_gone false true true n e = refl
      voided_gone false false true n e = refl
      voided_gone false u false n e = cc

  won_differs : (c : Coord) → In c (edits_of s commands false)
      → differ_at s.matrix (matrix_after s.matrix (acts s.bots commands)) c ≡ true
  won_differs c i =
      let cell_facts = cell_of s (acts s.bots commands) good false c i in
      let full_where_here = full_where s.matrix.resolution (λ d. is_filled (acts s.bots commands) d || (is_full s.matrix d && not (is_voided (acts s.bots commands) d))) c cell_facts.0 ∙ or_by_first (is_filled (acts s.bots commands) c) (is_full s.matrix c && not (is_voided (acts s.bots commands) c)) cell_facts.2 in
      or_by_second (is_full s.matrix c && not (is_full (matrix_after s.matrix (acts s.bots commands)) c)) (is_full (matrix_after s.matrix (acts s.bots commands)) c && not (is_full s.matrix c)) (both full_where_here cell_facts.1)

  apart_all : Apart (edits_of s commands true ++ edits_of s commands false)
  apart_all = apart_append (edits_of s commands true) (edits_of s commands false) (cells_apart s (acts s.bots commands) good true) (cells_apart s (acts s.bots commands) good false)
      (λ c i j. not_both (cell_of s (acts s.bots commands) good true c i).1 (void_state s (acts s.bots commands) good c (cell_of s (acts s.bots commands) good false c j).1))

  pub all_change : length (edits_of s commands true) + length (edits_of s commands false)
      ≤ changed_count s.matrix (matrix_after s.matrix (acts s.bots commands))
  all_change =
      let no_longer = no_more (edits_of s commands true ++ edits_of s commands false) (filter (differ_at s.matrix (matrix_after s.matrix (acts s.bots commands))) (all_of s.matrix)) apart_all
      (λ c i. by c (in_either c (edits_of s commands true) (edits_of s commands false) i)) in
      let length_is = length-append (edits_of s commands true) (edits_of s commands false) in
      let filtered_length = length-filter (differ_at s.matrix (matrix_after s.matrix (acts s.bots commands))) (all_of s.matrix) in
      omega (arith, no_longer, length_is, filtered_length)
    where
      by : (c : Coord) → In c (edits_of s commands true) ⊎ In c (edits_of s commands false)
          → In c (filter (differ_at s.matrix (matrix_after s.matrix (acts s.bots commands))) (all_of s.matrix))
      by c (inl i) = in_filter (differ_at s.matrix (matrix_after s.matrix (acts s.bots commands))) c (all_of s.matrix) (in_coordinates s.matrix.resolution c (cell_of s (acts s.bots commands) good true c i).0) (lost_differs c i)
      by c (inr i) = in_filter (differ_at s.matrix (matrix_after s.matrix (acts s.bots commands))) c (all_of s.matrix) (in_coordinates s.matrix.resolution c (cell_of s (acts s.bots commands) good false c i).0) (won_differs c i)

  -- the touches of listing, removing and adding
  pub refit_touches : (between new : Matrix) (front back : List Coord) (before listed middle after n : ℕ)
      → between ≡ without_voided s.matrix (acts s.bots commands) → new ≡ matrix_after s.matrix (acts s.bots commands)
      → front ≡ edits_of s commands true → back ≡ edits_of s commands false
      → listed ≤ before + 96 * volatile_total s.matrix (acts s.bots commands) → ((first last : List (Option ℕ))
      → Levels s.matrix first → Levels between last → middle ≤ listed + 100 * (length front + differing first last))
      → ((first last : List (Option ℕ)) → Levels between first → Levels new last
      → after ≤ middle + 100 * (length back + differing first last)) → WorkOfActs s.matrix (acts s.bots commands) n
      → after + 4 * volatile_total s.matrix (acts s.bots commands) ≤ before + 100 * n
  refit_touches between new front back before listed middle after n b a f g l lose win w =
      let levels = w.0 in
      let lost = lose levels.before levels.between levels.before_are (subst (λ (m : Matrix). Levels m levels.between) (sym b) levels.between_are) in
      let won = win levels.between levels.afterwards (subst (λ (m : Matrix). Levels m levels.between) (sym b) levels.between_are) (subst (λ (m : Matrix). Levels m levels.afterwards) (sym a) levels.afterwards_are) in
      let length_is = ap length f in
      let same_length = ap length g in
      let changes_bound = all_change in
      omega (arith, lost, won, length_is, same_length, changes_bound, l, w.1)

-- ---- a step that is broken at its start

-- the trace ends within the step only if a bot has no command
ends_early : (s : State) (commands : List Command) (step : ℕ) (b : Broken) → broken s commands step ≡ Some b
    → b.rule ≡ TraceEnds → length commands < length s.bots
ends_early s commands step b e f = by (slice_get s.bots (length commands)) refl (first_in (judge_trace s commands step ∷ (judge_bots s (acts s.bots commands) step ++ judge_pairs s.matrix (acts s.bots commands) step (leaders (acts s.bots commands)))) b e)
  where
    later : In (Some b) (judge_bots s (acts s.bots commands) step)
        ⊎ In (Some b) (judge_pairs s.matrix (acts s.bots commands) step (leaders (acts s.bots commands))) → ⊥
    later (inl i) = no_end b.rule (bots_rule s (acts s.bots commands) step b i) f
    later (inr i) = let interferes = pairs_rule s.matrix (acts s.bots commands) step (leaders (acts s.bots commands)) b i in cc

    none : {A B : Type 0} (g : A → B) (o : Option A) (x : B) → o ≡ None → Some x ≡ option_map g o → ⊥
    none g o x n h = let option_map_is = ap (option_map g) n in cc

    by : (o : Option Bot) → slice_get s.bots (length commands) ≡ o → In (Some b) (judge_trace s commands step
        ∷ (judge_bots s (acts s.bots commands) step
        ++ judge_pairs s.matrix (acts s.bots commands) step (leaders (acts s.bots commands))))
        → length commands < length s.bots
    by (Some bot) g i = slice_get_within s.bots (length commands) bot g
    by None g (inl i) = absurd (none (λ (bot : Bot). _) (slice_get s.bots (length commands)) b g i)
    by None g (inr i) = absurd (later (in_either (Some b) (judge_bots s (acts s.bots commands) step) (judge_pairs s.matrix (acts s.bots commands) step (leaders (acts s.bots commands))) i))

work_at : (m : Matrix) (all : List Act) (rule : Rule) → (rule ≡ TraceEnds → ⊥)
    → work_by_rule m all rule ≡ volatile_total m all
work_at m all TraceEnds n = absurd (n refl)
work_at m all HaltAlone n = refl
work_at m all HaltOrigin n = refl
work_at m all HaltLow n = refl
work_at m all OutOfSpace n = refl
work_at m all Blocked n = refl
work_at m all Seeds n = refl
work_at m all InRegion n = refl
work_at m all Partner n = refl
work_at m all GroupShape n = refl
work_at m all Interference n = refl
work_at m all Ungrounded n = refl
work_at m all AfterHalt n = refl
work_at m all WrongResult n = refl
work_at m all Forbidden n = refl

is_end : (rule : Rule) → (rule ≡ TraceEnds) ⊎ (rule ≡ TraceEnds → ⊥)
is_end TraceEnds = inl refl
is_end HaltAlone = inr (λ e. cc)
is_end HaltOrigin = inr (λ e. cc)
is_end HaltLow = inr (λ e. cc)
is_end OutOfSpace = inr (λ e. cc)
is_end Blocked = inr (λ e. cc)
is_end Seeds = inr (λ e. cc)
is_end InRegion = inr (λ e. cc)
is_end Partner = inr (λ e. cc)
is_end GroupShape = inr (λ e. cc)
is_end Interference = inr (λ e. cc)
is_end Ungrounded = inr (λ e. cc)
is_end AfterHalt = inr (λ e. cc)
is_end WrongResult = inr (λ e. cc)
is_end Forbidden = inr (λ e. cc)

pub judged_touches : (s : State) (commands : List Command) (step : ℕ) (b : Broken) (before after n : ℕ)
    → broken s commands step ≡ Some b → after ≤ before + 3 * volatile_total s.matrix (acts s.bots commands)
    → (length commands < length s.bots → after ≡ before) → WorkOfStep s commands step n → after ≤ before + 100 * n
judged_touches s commands step b before after n e touches ends w = by (is_end b.rule)
  where
    work : n ≡ work_by_rule s.matrix (acts s.bots commands) b.rule
    work = subst (λ o. WorkOfJudged s (acts s.bots commands) o n) e w

    by : (b.rule ≡ TraceEnds) ⊎ (b.rule ≡ TraceEnds → ⊥) → after ≤ before + 100 * n
    by (inl f) = let run_ends = ends (ends_early s commands step b e f) in omega arith
    by (inr f) = let work_is = work_at s.matrix (acts s.bots commands) b.rule f in omega (arith, work_is, work, touches)

-- the work of a step that breaks none of the rules of its start
pub acts_work : (s : State) (commands : List Command) (step n : ℕ) → broken s commands step ≡ None
    → WorkOfStep s commands step n → WorkOfActs s.matrix (acts s.bots commands) n
acts_work s commands step n e w = subst (λ o. WorkOfJudged s (acts s.bots commands) o n) e w

-- ---- the step of a machine

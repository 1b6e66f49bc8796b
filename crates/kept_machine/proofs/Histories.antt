-- The history of a machine as a run from the source: the commands so far, and the machine's instants before each step.
use Rattle.std.proofs.Common.{◌≡◌, ℕ, zero, suc, ◌+◌, ◌-◌, ◌≤◌, refl, sym, ◌∙◌, ap, subst, arith, append_assoc, List, [], ◌∷◌, ◌++◌, length, length-append, take, drop, Option}
use Rattle.std.specs.Prelude.{Some, None, true}
use Rattle.nano_spec.specs.declared.commands.Command.{Command}
use Rattle.nano_spec.specs.declared.outcomes.Verdict.{Verdict}
use Rattle.nano_spec.specs.declared.system.Bot.{Bot}
use Rattle.nano_spec.specs.declared.system.Profile.{Profile}
use Rattle.nano_spec.specs.Matrix.{Matrix}
use Rattle.nano_spec.specs.Next.{Goes, Next}
use Rattle.nano_spec.specs.State.{State, opening}
use Rattle.nano_spec.specs.Verdict.{Run, VerdictOf, goes}
use Rattle.kept_machine.specs.declared.done.StepDone.{StepDone}
use Rattle.kept_machine.specs.Calls.{BeginsTrace, IsMade, IsTakenBack}
use Rattle.kept_machine.specs.History.{IsLedTo, RunsThrough, by_aim, by_copy, by_keep, by_start, by_step, by_undo}
use Rattle.kept_machine.specs.Kept.{Instant, Kept, kept_opening, present, trace_with, trace_without}

-- commands lead from a state to an instant, by way of others
pub data Walked (from : State) : List Command → Instant → List Instant → Type 0 where
  stands : {made : List Command} {p : Instant} {passed : List Instant} → made ≡ [] → passed ≡ []
      → p ≡ record { state = from; steps = 0 } → Walked from made p passed
  walks : {made : List Command} {p : Instant} {passed : List Instant} (before commands : List Command) (q : Instant)
      (others : List Instant) → Walked from before q others → 1 ≤ length q.state.bots
      → length commands ≡ length q.state.bots → Next q.state commands (q.steps + 1) (Goes p.state)
      → p.steps ≡ q.steps + 1 → made ≡ before ++ commands → passed ≡ others ++ q ∷ [] → Walked from made p passed

-- facts of a machine that calls have led to
pub record Story (from : State) (k : Kept) : Type 0 where
  made : List Command
  passed : List Instant
  earlier : List Instant
  walked : Walked from made (present k) passed
  past : passed ≡ earlier ++ k.past
  trace : (t : List Command) → k.trace ≡ Some t → t ≡ made

-- ---- lists

front : {X : Type 0} (xs ys : List X) (n : ℕ) → n ≡ length xs → (take n (xs ++ ys) ≡ xs) × (drop n (xs ++ ys) ≡ ys)
front [] ys n e = let n_zero : n ≡ zero = omega (arith, e) in (ap (λ m. take m ys) n_zero, ap (λ m. drop m ys) n_zero)
front {X} (x ∷ xs) ys n e =
    let front_is = front xs ys (length xs) refl in
    (ap (λ m. take m (x ∷ xs ++ ys)) e ∙ ap (λ (zs : List X). x ∷ zs) front_is.0, ap (λ m. drop m (x ∷ xs ++ ys)) e ∙ front_is.1)

halves : {X : Type 0} (n : ℕ) (xs : List X) → take n xs ++ drop n xs ≡ xs
halves zero xs = refl
halves (suc n) [] = refl
halves {X} (suc n) (x ∷ xs) = ap (λ (zs : List X). x ∷ zs) (halves n xs)

-- lists with one element at their end
last_same : (xs ys : List Instant) (x y : Instant) → xs ++ x ∷ [] ≡ ys ++ y ∷ [] → (xs ≡ ys) × (x ≡ y)
last_same [] [] x y e = (refl, ap (λ (zs : List Instant). the_head x zs) e)
  where
    the_head : Instant → List Instant → Instant
    the_head d [] = d
    the_head d (z ∷ zs) = z
last_same [] (b ∷ []) x y e = absurd cc
last_same [] (b ∷ c ∷ ys) x y e = absurd cc
last_same (a ∷ []) [] x y e = absurd cc
last_same (a ∷ c ∷ xs) [] x y e = absurd cc
last_same (a ∷ xs) (b ∷ ys) x y e =
    let rest : xs ++ x ∷ [] ≡ ys ++ y ∷ [] = cc in
    let first : a ≡ b = cc in
    let lasts_same = last_same xs ys x y rest in
    ((λ i. first i ∷ lasts_same.0 i), lasts_same.1)

none_last : (xs : List Instant) (x : Instant) → xs ++ x ∷ [] ≡ [] → ⊥
none_last [] x e = cc
none_last (a ∷ xs) x e = cc

-- ---- the story of a machine

told_by : (trace : Option (List Command)) (commands t made : List Command)
    → ((u : List Command) → trace ≡ Some u → u ≡ made) → trace_with trace commands ≡ Some t → t ≡ made ++ commands
told_by None commands t made h e = absurd cc
told_by (Some u) commands t made h e =
    let same : u ++ commands ≡ t = cc in
    sym same ∙ ap (λ (us : List Command). us ++ commands) (h u refl)

left_by : (trace : Option (List Command)) (n : ℕ) (t before commands : List Command)
    → ((u : List Command) → trace ≡ Some u → u ≡ before ++ commands) → length commands ≡ n
    → trace_without trace n ≡ Some t → t ≡ before
left_by None n t before commands h l e = absurd cc
left_by (Some u) n t before commands h l e =
    let same : take (length u - n) u ≡ t = cc in
    let less : length (before ++ commands) - n ≡ length before = omega (arith, length-append before commands, l) in
    sym same ∙ (ap (λ (us : List Command). take (length us - n) us) (h u refl) ∙ (front before commands (length (before ++ commands) - n) less).0)

module _ (source : Matrix) (profile : Profile) where
  abbrev pub from : State
  from = opening source profile

  started : (k : Kept) (room : ℕ) → k ≡ kept_opening source profile room → Story from k
  started k room is = subst (Story from) (sym is) (record {
    made = [];
    passed = [];
    earlier = [];
    walked = stands refl refl refl;
    past = refl;
    trace = λ t e. absurd cc;
  })

  -- if no step was made, no command was
  none_made : (made : List Command) (p : Instant) (passed : List Instant) → p.steps ≡ 0 → Walked from made p passed
      → made ≡ []
  none_made made p passed zero_steps (stands e f g) = e
  none_made made p passed zero_steps (walks before commands q others w some each next counted m o) = absurd (omega (arith, zero_steps, counted))

  kept : (old k : Kept) → Story from old → BeginsTrace old k true → Story from k
  kept old k s begins = subst (Story from) (sym begins.1) (record {
    made = s.made;
    passed = s.passed;
    earlier = s.earlier;
    walked = s.walked;
    past = s.past;
    trace = λ t e. begun t (Some []) e refl ∙ sym (none_made s.made (present old) s.passed begins.0 s.walked);
  })
    where
      begun : (t : List Command) (o : Option (List Command)) → o ≡ Some t → o ≡ Some [] → t ≡ []
      begun t o e f = cc

  stepped : (old k : Kept) (commands : List Command) (ok : StepDone) → Story from old → IsMade old commands k ok
      → Story from k
  stepped old k commands ok s made =
      let all : List Instant = old.past ++ present old ∷ [] in
      let difference : ℕ = length all - old.room in
      record {
        made = s.made ++ commands;
        passed = s.passed ++ present old ∷ [];
        earlier = s.earlier ++ take difference all;
        walked = walks s.made commands (present old) s.passed s.walked made.some made.each made.goes made.counted refl refl;
        past =
            ap (λ (xs : List Instant). xs ++ present old ∷ []) s.past
            ∙ (append_assoc s.earlier old.past (present old ∷ [])
            ∙ (ap (λ (xs : List Instant). s.earlier ++ xs) (sym (halves difference all))
            ∙ (sym (append_assoc s.earlier (take difference all) (drop difference all))
            ∙ ap (λ (xs : List Instant). (s.earlier ++ take difference all) ++ xs) (sym made.past))));
        trace = λ t e. told_by old.trace commands t s.made s.trace (sym made.trace ∙ e);
      }

  undone : (old k : Kept) → Story from old → IsTakenBack old k → Story from k
  undone old k s back = by s.walked refl refl
    where
      ends : s.passed ≡ (s.earlier ++ k.past) ++ present k ∷ []
      ends = s.past ∙ (ap (λ (xs : List Instant). s.earlier ++ xs) back.past ∙ sym (append_assoc s.earlier k.past (present k ∷ [])))

      by : {made : List Command} {passed : List Instant} → Walked from made (present old) passed → made ≡ s.made
          → passed ≡ s.passed → Story from k
      by (stands e f g) same_made same = absurd (none_last (s.earlier ++ k.past) (present k) (sym ends ∙ (sym same ∙ f)))
      by (walks before commands q others w some each next counted m o) same_made same =
          let lasts_same = last_same others (s.earlier ++ k.past) q (present k) (sym o ∙ (same ∙ ends)) in
          record {
            made = before;
            passed = others;
            earlier = s.earlier;
            walked = subst (λ (p : Instant). Walked from before p others) lasts_same.1 w;
            past = lasts_same.0;
            trace = λ t e. left_by old.trace (length k.state.bots) t before commands (λ u f. s.trace u f ∙ (sym same_made ∙ m)) (each ∙ ap (λ (p : Instant). length p.state.bots) lasts_same.1) (sym back.trace ∙ e);
          }

  aimed : (old k : Kept) (target : Matrix) → Story from old → k ≡ record old { target = Some target } → Story from k
  aimed old k target s is = subst (Story from) (sym is) (record {
    made = s.made;
    passed = s.passed;
    earlier = s.earlier;
    walked = s.walked;
    past = s.past;
    trace = s.trace;
  })

  copied : (old k : Kept) → Story from old → k ≡ record old { past = [] } → Story from k
  copied old k s is = subst (Story from) (sym is) (record {
    made = s.made;
    passed = s.passed;
    earlier = s.passed;
    walked = s.walked;
    past = no_more s.passed;
    trace = s.trace;
  })
    where
      no_more : (xs : List Instant) → xs ≡ xs ++ []
      no_more [] = refl
      no_more (x ∷ xs) = ap (λ (ys : List Instant). x ∷ ys) (no_more xs)

  pub story : (k : Kept) → IsLedTo source profile k → Story from k
  story k (by_start room is) = started k room is
  story k (by_keep old led begins) = kept old k (story old led) begins
  story k (by_aim old target led is) = aimed old k target (story old led) is
  story k (by_step old commands ok led made) = stepped old k commands ok (story old led) made
  story k (by_undo old led back) = undone old k (story old led) back
  story k (by_copy old led is) = copied old k (story old led) is

  -- ---- the run

  one_step : (target : Matrix) (s t : State) (commands rest : List Command) (steps : ℕ) (verdict : Verdict)
      → 1 ≤ length s.bots → length commands ≡ length s.bots → Next s commands (steps + 1) (Goes t)
      → Run target t rest (steps + 1) verdict → Run target s (commands ++ rest) steps verdict
  one_step target s t commands rest steps verdict some each next run = by s.bots refl
    where
      parts : (take (length s.bots) (commands ++ rest) ≡ commands) × (drop (length s.bots) (commands ++ rest) ≡ rest)
      parts = front commands rest (length s.bots) (sym each)

      by : (bots : List Bot) → s.bots ≡ bots → Run target s (commands ++ rest) steps verdict
      by [] none = absurd (omega (arith, some, ap length none))
      by (bot ∷ bots) is = goes is (subst (λ (cs : List Command). Next s cs (steps + 1) (Goes t)) (sym parts.0) next) (subst (λ (cs : List Command). Run target t cs (steps + 1) verdict) (sym parts.1) run)

  walked_run : (target : Matrix) (made : List Command) (p : Instant) (passed : List Instant) (rest : List Command)
      (verdict : Verdict) → Walked from made p passed → Run target p.state rest p.steps verdict
      → Run target from (made ++ rest) 0 verdict
  walked_run target made p passed rest verdict (stands e f g) run =
      subst (λ (cs : List Command). Run target from (cs ++ rest) 0 verdict) (sym e) (subst (λ (q : Instant). Run target q.state rest q.steps verdict) g run)
  walked_run target made p passed rest verdict (walks before commands q others w some each next counted m o) run =
      subst (λ (cs : List Command). Run target from cs 0 verdict) (sym (append_assoc before commands rest) ∙ ap (λ (cs : List Command). cs ++ rest) (sym m))
      (walked_run target before q others (commands ++ rest) verdict w
      (one_step target q.state p.state commands rest q.steps verdict some each next (subst (λ (n : ℕ). Run target p.state rest n verdict) counted run)))

  pub runs_through : (k : Kept) (made : List Command) → Story from k → k.trace ≡ Some made
      → RunsThrough source profile made k
  runs_through k made s kept = λ target rest verdict run.
      subst (λ (cs : List Command). VerdictOf source target (cs ++ rest) profile verdict) (sym (s.trace made kept))
      (walked_run target s.made (present k) s.passed rest verdict s.walked run)

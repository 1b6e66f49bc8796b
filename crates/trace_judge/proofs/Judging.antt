-- A whole trace, command by command: the progress, and the touches.
use Rattle.std.proofs.Common.{◌≡◌, ℕ, ◌+◌, ◌*◌, ◌≤◌, ◌<◌, ◌==◌, refl, sym, ◌∙◌, ap, subst, arith, List, [], ◌∷◌, ◌++◌, append_assoc, Bool, true, false, length, length-append, take, drop, get_or, add-one}
use Rattle.std.specs.Prelude.{MatchBool}
use Rattle.std.proofs.lemmas.List.{take-append-drop}
use Rattle.std.proofs.Math.Seq.{drop-append_seam, take-append_seam, take-suc}
use Rattle.vox_geom.proofs.Tests.{equal_by_test, unequal_by_test}
use Rattle.nano_spec.specs.declared.commands.Command.{Command}
use Rattle.nano_spec.specs.declared.outcomes.Rule.{Rule}
use Rattle.nano_spec.specs.declared.outcomes.Rule.TheVariants.{Ungrounded}
use Rattle.nano_spec.specs.declared.system.Bot.{Bot}
use Rattle.nano_spec.specs.declared.system.Profile.{Profile}
use Rattle.nano_spec.specs.Matrix.{Matrix}
use Rattle.nano_spec.specs.Model.{volume}
use Rattle.nano_spec.specs.Next.{Breaks, Goes, Next, Outcome}
use Rattle.nano_spec.specs.State.{State}
use Rattle.nano_spec.specs.Work.{Work, WorkFrom, WorkOfStep, rests, stops, works}
use Rattle.nano_spec.proofs.Unique.{Next-unique, not_both, same_state}
use Rattle.run_progress.specs.Progress as progress
use Rattle.run_progress.specs.Progress.{Comes, begun, first, later, mark_of, Progress, Pushes, PushesAt, MakesStep, stepped, with_command}
use Rattle.trace_judge.specs.Course.{Course, searched_by}
use Rattle.trace_judge.specs.Payment.{IsPaid, LeftAt, Touches}
use Rattle.step_machine.specs.Situation.{searched_for}
use Rattle.trace_judge.proofs.Works.{within_each}

-- ---- the remaining work

abbrev Left : Progress → List Command → ℕ → ℕ → ℕ → ℕ → Type 0
Left p rest v start now n = LeftAt p.mark p rest v start now n

searched_most : (m : progress.Mark) (n : Matrix) → searched_by m n ≤ volume n.resolution
searched_most progress.Running n = omega arith
searched_most progress.Halted n = omega arith
searched_most progress.Followed n = omega arith
searched_most (progress.Refused b) n = by b.rule
  where
    by : (rule : Rule) → searched_for rule n ≤ volume n.resolution
    by Ungrounded = omega arith
    by rule = omega arith

searched_not : (bots : List Bot) (n : Matrix) → searched_by (mark_of bots) n ≡ 0
searched_not [] n = refl
searched_not (b ∷ bots) n = refl

-- ---- the work of one step, as part of the rest

abbrev Paid : State → List Command → ℕ → ℕ → Outcome → Type 0
Paid s all steps more (Goes t) = (n : ℕ) × (m : ℕ) × WorkOfStep s (take (length s.bots) all) (steps + 1) n × WorkFrom t (drop (length s.bots) all) (steps + 1) m × (more ≡ n + m)
Paid s all steps more (Breaks b) = WorkOfStep s (take (length s.bots) all) (steps + 1) more

pay : {s : State} {all : List Command} {steps more : ℕ} → WorkFrom s all steps more → (outcome : Outcome)
    → (s.bots ≡ [] → ⊥) → Next s (take (length s.bots) all) (steps + 1) outcome → Paid s all steps more outcome
pay (rests e) outcome some k = absurd (some e)
pay {s} {all} {steps} (stops b a next w) (Goes t) some k = absurd (not_both b t (Next-unique s (take (length s.bots) all) (steps + 1) (Breaks b) (Goes t) next k))
pay (stops b a next w) (Breaks c) some k = w
pay {s} {all} {steps} (works {t = u} n m a next w from e) (Goes t) some k = (n, m, w, subst (λ (x : State). WorkFrom x (drop (length s.bots) all) (steps + 1) m) (same_state u t (Next-unique s (take (length s.bots) all) (steps + 1) (Goes u) (Goes t) next k)) from, e)
pay {s} {all} {steps} (works {t = u} n m a next w from e) (Breaks c) some k = absurd (not_both c u (Next-unique s (take (length s.bots) all) (steps + 1) (Breaks c) (Goes u) k next))

module _ (p q : Progress) (command : Command) (rest : List Command) (v start before after n : ℕ) (t : Touches p q command before after) (space : volume p.state.matrix.resolution ≡ v) (runs : p.mark ≡ progress.Running) where
  joined : p.pending ++ command ∷ rest ≡ (p.pending ++ command ∷ []) ++ rest
  joined = sym (append_assoc p.pending (command ∷ []) rest)

  -- no step is made
  waits : (length (p.pending ++ command ∷ []) == length p.state.bots) ≡ false → q ≡ with_command p command → (more : ℕ)
      → WorkFrom p.state (p.pending ++ command ∷ rest) p.steps more → before + 100 * more ≤ start + 100 * n
      → Left q rest v start after n
  waits b e more w l =
      let length_is = length-append p.pending (command ∷ []) in
      let same : after ≡ before = t.untouched (λ _ e. unequal_by_test (length (p.pending ++ command ∷ [])) (length p.state.bots) b (omega (arith, length_is, e))) in
      subst (λ (x : Progress). Left x rest v start after n) (sym e)
      (subst (λ (m : progress.Mark). LeftAt m (with_command p command) rest v start after n) (sym runs)
      (more, subst (λ (xs : List Command). WorkFrom p.state xs p.steps more) joined w, omega (arith, same, l)))

  module _ (full : length (p.pending ++ command ∷ []) ≡ length p.state.bots) where
    front : take (length p.state.bots) (p.pending ++ command ∷ rest) ≡ p.pending ++ command ∷ []
    front = subst (λ (k : ℕ). take k (p.pending ++ command ∷ rest) ≡ p.pending ++ command ∷ []) full (ap (take (length (p.pending ++ command ∷ []))) joined ∙ take-append_seam (p.pending ++ command ∷ []) rest)

    back : drop (length p.state.bots) (p.pending ++ command ∷ rest) ≡ rest
    back = subst (λ (k : ℕ). drop k (p.pending ++ command ∷ rest) ≡ rest) full (ap (drop (length (p.pending ++ command ∷ []))) joined ∙ drop-append_seam (p.pending ++ command ∷ []) rest)

    some : p.state.bots ≡ [] → ⊥
    some e = let length_is = ap length e in let joined_length = length-append p.pending (command ∷ []) in let full_here = full in omega (arith, joined_length, length_is, full_here)

    -- if steps go on, the work of the rest pays
    on : (u : State) (bots : List Bot) → u.bots ≡ bots → (m : ℕ) → WorkFrom u rest (p.steps + 1) m
        → after + 100 * m ≤ start + 100 * n
        → LeftAt (mark_of bots) (stepped (with_command p command) (Goes u)) rest v start after n
    on u [] e m w l = omega (arith, l)
    on u (b ∷ bots) e m w l = (m, w, l)

    -- a step is made, or refused
    made : (outcome : Outcome) → Next p.state (p.pending ++ command ∷ []) (p.steps + 1) outcome
        → q ≡ stepped (with_command p command) outcome → (more : ℕ)
        → WorkFrom p.state (p.pending ++ command ∷ rest) p.steps more → before + 100 * more ≤ start + 100 * n
        → Left q rest v start after n
    made (Goes u) k e more w l =
        let paid_step = pay w (Goes u) some (subst (λ (xs : List Command). Next p.state xs (p.steps + 1) (Goes u)) (sym front) k) in
        let bounded_each = within_each p.state (p.pending ++ command ∷ []) (p.steps + 1) (before + searched_by q.mark p.state.matrix) after paid_step.0 t.paid (subst (λ (xs : List Command). WorkOfStep p.state xs (p.steps + 1) paid_step.0) front paid_step.2) in
        let searched_by_zero : searched_by q.mark p.state.matrix ≡ 0 = ap (λ (x : Progress). searched_by x.mark p.state.matrix) e ∙ searched_not u.bots p.state.matrix in
        let sum = paid_step.4 in
        subst (λ (x : Progress). Left x rest v start after n) (sym e) (on u u.bots refl paid_step.1 (subst (λ (xs : List Command). WorkFrom u xs (p.steps + 1) paid_step.1) back paid_step.3) (omega (arith, bounded_each, searched_by_zero, sum, l)))
    made (Breaks b) k e more w l =
        let paid_step = pay w (Breaks b) some (subst (λ (xs : List Command). Next p.state xs (p.steps + 1) (Breaks b)) (sym front) k) in
        let bounded_each = within_each p.state (p.pending ++ command ∷ []) (p.steps + 1) (before + searched_by q.mark p.state.matrix) after more t.paid (subst (λ (xs : List Command). WorkOfStep p.state xs (p.steps + 1) more) front paid_step) in
        let searched_most_here = searched_most q.mark p.state.matrix in
        let space_here = space in
        subst (λ (x : Progress). Left x rest v start after n) (sym e) (omega (arith, bounded_each, searched_most_here, space_here, l))

  running : MatchBool (length (p.pending ++ command ∷ []) == length p.state.bots) (MakesStep (with_command p command) q)
      (q ≡ with_command p command) → (more : ℕ) × WorkFrom p.state (p.pending ++ command ∷ rest) p.steps more
      × (before + 100 * more ≤ start + 100 * n) → Left q rest v start after n
  running j w = by (length (p.pending ++ command ∷ []) == length p.state.bots) refl j
    where
      by : (b : Bool) → (length (p.pending ++ command ∷ []) == length p.state.bots) ≡ b
          → MatchBool b (MakesStep (with_command p command) q) (q ≡ with_command p command)
          → Left q rest v start after n
      by true e k = made (equal_by_test (length (p.pending ++ command ∷ [])) (length p.state.bots) e) k.0 k.1 k.2 w.0 w.1 w.2
      by false e k = waits e k w.0 w.1 w.2

-- one push more
left_on : (p q : Progress) (command : Command) (rest : List Command) (v start before after n : ℕ)
    → Touches p q command before after → volume p.state.matrix.resolution ≡ v → Pushes p command q
    → Left p (command ∷ rest) v start before n → Left q rest v start after n
left_on p q command rest v start before after n t space h l = by p.mark refl h l
  where
    no_step : (m : progress.Mark) → p.mark ≡ m → (m ≡ progress.Running → ⊥) → after ≡ before
    no_step m e n = t.untouched (λ f. absurd (n (sym e ∙ f)))

    by : (m : progress.Mark) → p.mark ≡ m → PushesAt m p command q → LeftAt m p (command ∷ rest) v start before n
        → Left q rest v start after n
    by progress.Running e j w = running p q command rest v start before after n t space e j w
    by (progress.Refused b) e j w =
        let no_step_here = no_step (progress.Refused b) e (λ f. cc) in
        subst (λ (x : Progress). Left x rest v start after n) (sym j) (subst (λ (m : progress.Mark). LeftAt m p rest v start after n) (sym e) (omega (arith, no_step_here, w)))
    by progress.Halted e j w =
        let no_step_here = no_step progress.Halted e (λ f. cc) in
        subst (λ (x : Progress). Left x rest v start after n) (sym j) (omega (arith, no_step_here, w))
    by progress.Followed e j w =
        let no_step_here = no_step progress.Followed e (λ f. cc) in
        subst (λ (x : Progress). Left x rest v start after n) (sym j) (subst (λ (m : progress.Mark). LeftAt m p rest v start after n) (sym e) (omega (arith, no_step_here, w)))

-- ---- commands one after another

pub paid_at_first : (source : Matrix) (profile : Profile) (p : Progress) (start : ℕ) → p ≡ begun source profile
    → IsPaid source profile [] p start start
paid_at_first source profile p start e = λ rest n w. subst (λ (x : Progress). Left x rest (volume source.resolution) start start n) (sym e) (n, w, omega arith)

pub paid_on : (source : Matrix) (profile : Profile) (commands : List Command) (p q : Progress) (command : Command)
    (start before after : ℕ) → p.state.matrix.resolution ≡ source.resolution → Pushes p command q
    → Touches p q command before after → IsPaid source profile commands p start before
    → IsPaid source profile (commands ++ command ∷ []) q start after
paid_on source profile commands p q command start before after same pushes t paid = λ rest n w.
    left_on p q command rest (volume source.resolution) start before after n t (ap volume same) pushes
    (paid (command ∷ rest) n (subst (λ (xs : List Command). Work source xs profile n) (append_assoc commands (command ∷ []) rest) w))

pub paid_within : (source : Matrix) (profile : Profile) (commands rest : List Command) (p : Progress) (start now n : ℕ)
    → IsPaid source profile commands p start now → Work source (commands ++ rest) profile n
    → now ≤ start + 100 * n + volume source.resolution
paid_within source profile commands rest p start now n paid w = by p.mark (paid rest n w)
  where
    by : (m : progress.Mark) → LeftAt m p rest (volume source.resolution) start now n
        → now ≤ start + 100 * n + volume source.resolution
    by progress.Running l = let k = l.2 in omega (arith, k)
    by (progress.Refused b) l = l
    by progress.Halted l = l
    by progress.Followed l = l

-- ---- the loop over the commands

-- the runner took the first i commands
pub record IsJudging (source : Matrix) (profile : Profile) (commands : List Command) (i : ℕ) (runner : Course) (start now : ℕ) : Type 0 where
  pub comes : Comes source profile (take i commands) runner.progress
  pub few : runner.progress.steps ≤ i
  pub resolution : runner.progress.state.matrix.resolution ≡ source.resolution
  pub stands : runner.spent ≡ false
  pub paid : IsPaid source profile (take i commands) runner.progress start now

pub judging_begun : (source : Matrix) (profile : Profile) (commands : List Command) (runner : Course) (start : ℕ)
    → runner.progress ≡ begun source profile → runner.spent ≡ false
    → IsJudging source profile commands 0 runner start start
judging_begun source profile commands runner start e s = record {
  comes = first (take_none commands) e;
  few = let steps_is = ap (λ (p : Progress). p.steps) e in omega arith;
  resolution = ap (λ (p : Progress). p.state.matrix.resolution) e;
  stands = s;
  paid = subst (λ (xs : List Command). IsPaid source profile xs runner.progress start start) (sym (take_none commands)) (paid_at_first source profile runner.progress start e);
}
  where
    take_none : (xs : List Command) → take 0 xs ≡ []
    take_none [] = refl
    take_none (x ∷ xs) = refl

pub judging_on : (source : Matrix) (profile : Profile) (commands : List Command) (i : ℕ) (old new : Course)
    (command : Command) (start before after : ℕ) → i < length commands → command ≡ get_or commands i command
    → IsJudging source profile commands i old start before → Pushes old.progress command new.progress
    → new.progress.steps ≤ old.progress.steps + 1
    → new.progress.state.matrix.resolution ≡ old.progress.state.matrix.resolution → new.spent ≡ false
    → Touches old.progress new.progress command before after → IsJudging source profile commands (i + 1) new start after
judging_on source profile commands i old new command start before after l e h p n r s t = record {
  comes = later (take i commands) old.progress command h.comes p one_more;
  few = omega (arith, h.few, n);
  resolution = r ∙ h.resolution;
  stands = s;
  paid = subst (λ (xs : List Command). IsPaid source profile xs new.progress start after) (sym one_more) (paid_on source profile (take i commands) old.progress new.progress command start before after h.resolution p t h.paid);
}
  where
    one_more : take (i + 1) commands ≡ take i commands ++ command ∷ []
    one_more = rw add-one (take-suc commands i command l ∙ ap (λ k. take i commands ++ k ∷ []) (sym e))

-- the touches until no command is left
pub judged_within : (source : Matrix) (profile : Profile) (commands : List Command) (i : ℕ) (runner : Course)
    (start now n : ℕ) → IsJudging source profile commands i runner start now → Work source commands profile n
    → now ≤ start + 100 * n + volume source.resolution
judged_within source profile commands i runner start now n h w = paid_within source profile (take i commands) (drop i commands) runner.progress start now n h.paid (subst (λ (xs : List Command). Work source xs profile n) (sym (take-append-drop i commands)) w)

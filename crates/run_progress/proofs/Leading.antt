-- The outcome of the commands that are left, by the progress so far.
use Rattle.std.proofs.Common.{◌≡◌, ℕ, ◌+◌, ◌<◌, refl, sym, ◌∙◌, ap, subst, arith, List, [], ◌∷◌, ◌++◌, Bool, true, false, ◌==◌, length, take, drop, append_assoc, append-nil, length-append, Some}
use Rattle.std.specs.Prelude.{MatchBool}
use Rattle.std.proofs.lemmas.List.{take_all}
use Rattle.std.proofs.Math.Seq.{take-append_seam, drop-append_seam}
use Rattle.vox_geom.proofs.Tests.{equal_by_test, unequal_by_test}
use Rattle.nano_spec.specs.declared.commands.Command.{Command}
use Rattle.nano_spec.specs.declared.outcomes.Broken.{Broken}
use Rattle.nano_spec.specs.declared.outcomes.Rule.TheVariants.{AfterHalt}
use Rattle.nano_spec.specs.declared.outcomes.Verdict.{Verdict}
use Rattle.nano_spec.specs.declared.outcomes.Verdict.TheVariants as verdict
use Rattle.nano_spec.specs.declared.system.Bot.{Bot}
use Rattle.nano_spec.specs.declared.system.Profile.{Profile}
use Rattle.nano_spec.specs.Act.{acts}
use Rattle.nano_spec.specs.First.{first_value}
use Rattle.nano_spec.specs.Matrix.{Matrix}
use Rattle.nano_spec.specs.Next.{Next, Outcome, Goes, Breaks, breaks_at_start}
use Rattle.nano_spec.specs.Rules.{broken, judge_trace, judge_bots, judge_pairs}
use Rattle.nano_spec.specs.Group.{leaders}
use Rattle.nano_spec.specs.State.{State, origin}
use Rattle.nano_spec.specs.Verdict.{Run, ends, breaks, goes, VerdictOf, broken_end, ending}
use Rattle.run_progress.specs.Progress.{Mark, Running, Refused, Halted, Followed, Progress, mark_of, stepped, with_command, Joins, MakesStep, PushesAt, Pushes, Comes, first, later, FinishesAt, Finishes}

-- ---- the invariant: while the run goes on the next step lacks a command, and after the Halt no bot is left

abbrev pub KeepsAt : Mark → Progress → Type 0
KeepsAt Running p = length p.pending < length p.state.bots
KeepsAt (Refused b) p = Unit {0}
KeepsAt Halted p = p.state.bots ≡ []
KeepsAt Followed p = Unit {0}

abbrev pub Keeps : Progress → Type 0
Keeps p = KeepsAt p.mark p

-- ---- the outcome of the rest of the commands

abbrev pub LeadsAt : Mark → Matrix → Progress → List Command → Verdict → Type 0
LeadsAt Running target p rest v = Run target p.state (p.pending ++ rest) p.steps v
LeadsAt (Refused b) target p rest v = v ≡ verdict.Refused b
LeadsAt Halted target p rest v = v ≡ ending target p.state rest p.steps
LeadsAt Followed target p rest v = v ≡ broken_end p.steps AfterHalt origin

abbrev pub Leads : Matrix → Progress → List Command → Verdict → Type 0
Leads target p rest v = LeadsAt p.mark target p rest v

-- ---- one step

some_bot : (bots : List Bot) (n : ℕ) → n < length bots → (bot : Bot) × (more : List Bot) × (bots ≡ bot ∷ more)
some_bot [] n h = absurd (omega arith)
some_bot (bot ∷ more) n h = (bot, more, refl)

module _ (target : Matrix) (p : Progress) (rest : List Command) (v : Verdict) (whole : length p.pending ≡ length p.state.bots) (some : 0 < length p.state.bots) where
  front : take (length p.state.bots) (p.pending ++ rest) ≡ p.pending
  front = subst (λ (k : ℕ). take k (p.pending ++ rest) ≡ p.pending) whole (take-append_seam p.pending rest)

  back : drop (length p.state.bots) (p.pending ++ rest) ≡ rest
  back = subst (λ (k : ℕ). drop k (p.pending ++ rest) ≡ rest) whole (drop-append_seam p.pending rest)

  -- a run that goes on from the state after the step
  gone : (t : State) → Next p.state p.pending (p.steps + 1) (Goes t) → Run target t rest (p.steps + 1) v
      → Run target p.state (p.pending ++ rest) p.steps v
  gone t next run =
      let first_bot = some_bot p.state.bots 0 some in
      goes {bot = first_bot.0} {bots = first_bot.1} {t = t} first_bot.2
      (subst (λ (k : List Command). Next p.state k (p.steps + 1) (Goes t)) (sym front) next)
      (subst (λ (k : List Command). Run target t k (p.steps + 1) v) (sym back) run)

  after_goes : (t : State) (bots : List Bot) → t.bots ≡ bots → Next p.state p.pending (p.steps + 1) (Goes t)
      → LeadsAt (mark_of bots) target (stepped p (Goes t)) rest v → Run target p.state (p.pending ++ rest) p.steps v
  after_goes t [] e next leads = gone t next (ends e leads)
  after_goes t (bot ∷ bots) e next leads = gone t next leads

  -- the progress after the outcome of a step
  made : (outcome : Outcome) → Next p.state p.pending (p.steps + 1) outcome → Leads target (stepped p outcome) rest v
      → Run target p.state (p.pending ++ rest) p.steps v
  made (Goes t) next leads = after_goes t t.bots refl next leads
  made (Breaks b) next leads =
      let bot = some_bot p.state.bots 0 some in
      breaks {bot = bot.0} {bots = bot.1} {b = b} bot.2 (subst (λ (k : List Command). Next p.state k (p.steps + 1) (Breaks b)) (sym front) next) leads

-- ---- one command

more : (p : Progress) (command : Command) → length (with_command p command).pending ≡ length p.pending + 1
more p command = length-append p.pending (command ∷ [])

joined : (target : Matrix) (p q : Progress) (rest : List Command) (v : Verdict) → p.mark ≡ Running
    → 0 < length p.pending → length p.pending < length p.state.bots + 1 → Joins p q → Leads target q rest v
    → Run target p.state (p.pending ++ rest) p.steps v
joined target p q rest v running some below joins leads = by (length p.pending == length p.state.bots) refl joins
  where
    by : (t : Bool) → (length p.pending == length p.state.bots) ≡ t → MatchBool t (MakesStep p q) (q ≡ p)
        → Run target p.state (p.pending ++ rest) p.steps v
    by true e steps =
        let whole = equal_by_test (length p.pending) (length p.state.bots) e in
        made target p rest v whole (omega arith) steps.0 steps.1 (subst (λ (x : Progress). Leads target x rest v) steps.2 leads)
    by false e same = subst (λ (m : Mark). LeadsAt m target p rest v) running (subst (λ (x : Progress). Leads target x rest v) same leads)

pub one_more : (target : Matrix) (p q : Progress) (command : Command) (rest : List Command) (v : Verdict) → Keeps p
    → Pushes p command q → Leads target q rest v → Leads target p (command ∷ rest) v
one_more target p q command rest v keeps pushes leads = by p.mark refl keeps pushes
  where
    by : (m : Mark) → p.mark ≡ m → KeepsAt m p → PushesAt m p command q → LeadsAt m target p (command ∷ rest) v
    by Running e keeps joins =
        let more_here = more p command in
        subst (λ (k : List Command). Run target p.state k p.steps v) (append_assoc p.pending (command ∷ []) rest)
        (joined target (with_command p command) q rest v e (omega (arith, more_here)) (omega (arith, more_here, keeps)) joins leads)
    by (Refused b) e keeps same = subst (λ (m : Mark). LeadsAt m target p rest v) e (subst (λ (x : Progress). Leads target x rest v) same leads)
    by Halted e keeps followed = subst (λ (x : Progress). Leads target x rest v) followed leads
    by Followed e keeps same = subst (λ (m : Mark). LeadsAt m target p rest v) e (subst (λ (x : Progress). Leads target x rest v) same leads)

-- ---- one more command keeps the invariant

keeps_goes : (p : Progress) (t : State) (bots : List Bot) → t.bots ≡ bots → KeepsAt (mark_of bots) (stepped p (Goes t))
keeps_goes p t [] e = e
keeps_goes p t (bot ∷ bots) e = subst (λ (bs : List Bot). 0 < length bs) (sym e) (omega arith)

keeps_stepped : (p : Progress) (outcome : Outcome) → Keeps (stepped p outcome)
keeps_stepped p (Goes t) = keeps_goes p t t.bots refl
keeps_stepped p (Breaks b) = tt

keeps_joined : (p q : Progress) → p.mark ≡ Running → length p.pending < length p.state.bots + 1 → Joins p q → Keeps q
keeps_joined p q running below joins = by (length p.pending == length p.state.bots) refl joins
  where
    by : (t : Bool) → (length p.pending == length p.state.bots) ≡ t → MatchBool t (MakesStep p q) (q ≡ p) → Keeps q
    by true e steps = subst Keeps (sym steps.2) (keeps_stepped p steps.0)
    by false e same =
        let other = unequal_by_test (length p.pending) (length p.state.bots) e in
        let kept : length p.pending < length p.state.bots = omega (arith, other) in
        subst Keeps (sym same) (subst (λ (m : Mark). KeepsAt m p) (sym running) kept)

keeps_pushed : (p q : Progress) (command : Command) → Keeps p → Pushes p command q → Keeps q
keeps_pushed p q command keeps pushes = by p.mark refl keeps pushes
  where
    by : (m : Mark) → p.mark ≡ m → KeepsAt m p → PushesAt m p command q → Keeps q
    by Running e keeps joins = let more_here = more p command in keeps_joined (with_command p command) q e (omega (arith, more_here, keeps)) joins
    by (Refused b) e keeps same = subst Keeps (sym same) (subst (λ (m : Mark). KeepsAt m p) (sym e) tt)
    by Halted e keeps followed = subst Keeps (sym followed) tt
    by Followed e keeps same = subst Keeps (sym same) (subst (λ (m : Mark). KeepsAt m p) (sym e) tt)

pub keeps : {source : Matrix} {profile : Profile} {commands : List Command} {p : Progress}
    → Comes source profile commands p → Keeps p
keeps (first e f) = subst Keeps (sym f) (omega arith)
keeps {p = p} (later before q command comes pushes e) = keeps_pushed q p command (keeps comes) pushes

-- ---- all commands

pub leads_from_the_opening : {source : Matrix} {profile : Profile} {commands : List Command} {p : Progress}
    (target : Matrix) (rest : List Command) (v : Verdict) → Comes source profile commands p → Leads target p rest v
    → VerdictOf source target (commands ++ rest) profile v
leads_from_the_opening {source} {profile} {commands} {p} target rest v (first e f) leads =
    rw e (subst (λ (x : Progress). Leads target x rest v) f leads)
leads_from_the_opening {source} {profile} {commands} {p} target rest v (later before q command comes pushes e) leads =
    rw (e, append_assoc) (leads_from_the_opening target (command ∷ rest) v comes (one_more target q p command rest v (keeps comes) pushes leads))

-- ---- the end

-- if the trace ends within a step, the step breaks that rule
ends_within : (s : State) (commands : List Command) (step : ℕ) (b : Broken) → judge_trace s commands step ≡ Some b
    → Next s commands step (Breaks b)
ends_within s commands step b e =
    let is : broken s commands step ≡ Some b = ap (λ o. first_value (o ∷ (judge_bots s (acts s.bots commands) step ++ judge_pairs s.matrix (acts s.bots commands) step (leaders (acts s.bots commands))))) e in
    breaks_at_start b is refl

all_taken : (n : ℕ) (xs : List Command) → length xs < n → take n (xs ++ []) ≡ xs
all_taken n xs h = ap (take n) (append-nil xs) ∙ take_all n xs (omega arith)

finishes_at : (m : Mark) (target : Matrix) (p : Progress) (v : Verdict) → KeepsAt m p → FinishesAt m target p v
    → LeadsAt m target p [] v
finishes_at Running target p v keeps f =
    let bot = some_bot p.state.bots (length p.pending) keeps in
    breaks {bot = bot.0} {bots = bot.1} {b = f.0} bot.2
    (subst (λ (k : List Command). Next p.state k (p.steps + 1) (Breaks f.0)) (sym (all_taken (length p.state.bots) p.pending keeps)) (ends_within p.state p.pending (p.steps + 1) f.0 f.1)) f.2
finishes_at (Refused b) target p v keeps f = f
finishes_at Halted target p v keeps f = f
finishes_at Followed target p v keeps f = f

pub finished_is_the_verdict : (source target : Matrix) (profile : Profile) (commands : List Command) (p : Progress)
    (v : Verdict) → Comes source profile commands p → Finishes target p v → VerdictOf source target commands profile v
finished_is_the_verdict source target profile commands p v comes finishes =
    subst (λ (k : List Command). VerdictOf source target k profile v) (append-nil commands)
    (leads_from_the_opening target [] v comes (finishes_at p.mark target p v (keeps comes) finishes))

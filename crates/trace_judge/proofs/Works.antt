-- Every run has a work; and touches within the work of a step.
use Rattle.std.proofs.Common.{◌≡◌, ℕ, zero, suc, ◌+◌, ◌*◌, ◌≤◌, refl, ap, arith, List, [], ◌∷◌, ◌++◌, length, take, drop}
use Rattle.std.specs.Prelude.{Some, option_map, slice_get}
use Rattle.std.proofs.lemmas.List.{length-drop}
use Rattle.nano_spec.specs.declared.commands.Command.{Command}
use Rattle.nano_spec.specs.declared.outcomes.Broken.{Broken}
use Rattle.nano_spec.specs.declared.outcomes.Rule.TheVariants.{TraceEnds}
use Rattle.nano_spec.specs.declared.system.Bot.{Bot}
use Rattle.nano_spec.specs.declared.system.Profile.{Profile}
use Rattle.nano_spec.specs.Act.{acts}
use Rattle.nano_spec.specs.First.{first_value}
use Rattle.nano_spec.specs.Group.{leaders}
use Rattle.nano_spec.specs.Matrix.{Matrix}
use Rattle.nano_spec.specs.Next.{Breaks, Goes, Next, Outcome}
use Rattle.nano_spec.specs.Rules.{broken, judge_bots, judge_pairs}
use Rattle.nano_spec.specs.State.{State, opening}
use Rattle.nano_spec.specs.Work.{Work, WorkFrom, WorkOfStep, rests, stops, works}
use Rattle.nano_spec.proofs.Works.{judged_same}
use Rattle.nano_spec.proofs.Accepted.{accepted_step}
use Rattle.step_machine.specs.Stepped.{IsWithinWork}
use Rattle.step_machine.proofs.Weighing.{next_of, step_work, within_one}

-- ---- the work of a run

-- a step without commands breaks a rule if a bot is active
no_step : (s : State) (commands : List Command) (step : ℕ) (t : State) (bot : Bot) (bots : List Bot)
    → s.bots ≡ bot ∷ bots → length commands ≡ 0 → Next s commands step (Goes t) → ⊥
no_step s commands step t bot bots e l next = let keeps = (accepted_step s t commands step next).keeps in let breaks = ends in cc
  where
    b : Broken
    b = record { step = step; bid = bot.bid; rule = TraceEnds; at = bot.pos }

    ends : broken s commands step ≡ Some b
    ends = λ i. first_value (option_map (λ (w : Bot). record { step = step; bid = w.bid; rule = TraceEnds; at = w.pos }) (slice_get (e i) (l i)) ∷ (judge_bots s (acts s.bots commands) step ++ judge_pairs s.matrix (acts s.bots commands) step (leaders (acts s.bots commands))))

one_step : (s : State) (commands : List Command) (steps : ℕ) (bot : Bot) (bots : List Bot) → s.bots ≡ bot ∷ bots
    → ((t : State) → Next s (take (length s.bots) commands) (steps + 1) (Goes t)
    → (n : ℕ) × WorkFrom t (drop (length s.bots) commands) (steps + 1) n) → (n : ℕ) × WorkFrom s commands steps n
one_step s commands steps bot bots e later = let following = next_of s (take (length s.bots) commands) (steps + 1) in by following.0 following.1 (step_work s (take (length s.bots) commands) (steps + 1))
  where
    by : (o : Outcome) → Next s (take (length s.bots) commands) (steps + 1) o
        → (n : ℕ) × WorkOfStep s (take (length s.bots) commands) (steps + 1) n → (n : ℕ) × WorkFrom s commands steps n
    by (Goes t) next w = let more = later t next in (w.0 + more.0, works {t = t} w.0 more.0 e next w.1 more.1 refl)
    by (Breaks b) next w = (w.0, stops b e next w.1)

by_bots : (s : State) (commands : List Command) (steps : ℕ) (all : List Bot) → s.bots ≡ all
    → ((bot : Bot) (bots : List Bot) → s.bots ≡ bot ∷ bots → (t : State)
    → Next s (take (length s.bots) commands) (steps + 1) (Goes t)
    → (n : ℕ) × WorkFrom t (drop (length s.bots) commands) (steps + 1) n) → (n : ℕ) × WorkFrom s commands steps n
by_bots s commands steps [] e later = (0, rests e)
by_bots s commands steps (bot ∷ bots) e later = one_step s commands steps bot bots e (later bot bots e)

none_taken : (k : ℕ) (commands : List Command) → length commands ≤ 0 → length (take k commands) ≡ 0
none_taken zero [] l = refl
none_taken (suc k) [] l = refl
none_taken k (c ∷ commands) l = absurd (omega arith)

fewer : (bots : List Bot) (bot : Bot) (more : List Bot) (commands : List Command) (most : ℕ) → bots ≡ bot ∷ more
    → length commands ≤ suc most → length (drop (length bots) commands) ≤ most
fewer bots bot more commands most e l =
    let some = ap length e in
    let left = length-drop (length bots) commands in
    omega (arith, some, left, l)

work_from : (most : ℕ) (s : State) (commands : List Command) (steps : ℕ) → length commands ≤ most
    → (n : ℕ) × WorkFrom s commands steps n
work_from zero s commands steps l = by_bots s commands steps s.bots refl (λ bot bots e t next. absurd (no_step s (take (length s.bots) commands) (steps + 1) t bot bots e (none_taken (length s.bots) commands l) next))
work_from (suc most) s commands steps l = by_bots s commands steps s.bots refl (λ bot bots e t next. work_from most t (drop (length s.bots) commands) (steps + 1) (fewer s.bots bot bots commands most e l))

pub run_work : (source : Matrix) (commands : List Command) (profile : Profile)
    → (n : ℕ) × Work source commands profile n
run_work source commands profile = work_from (length commands) (opening source profile) commands 0 (omega arith)

-- ---- touches within the work of a step

-- touches within one work of a step are within each: the work is unique
pub within_each : (s : State) (commands : List Command) (step began ended n : ℕ)
    → IsWithinWork s commands step began ended → WorkOfStep s commands step n → ended ≤ began + 100 * n
within_each s commands step began ended n h w =
    let same = judged_same s (acts s.bots commands) (broken s commands step) h.0 n h.1 w in
    let within = h.2 in
    omega (arith, same, within)

-- no touch is within every work
pub untouched_within : (s : State) (commands : List Command) (step more began ended : ℕ) → ended ≡ began
    → IsWithinWork s commands step (began + more) ended
untouched_within s commands step more began ended e = within_one s commands step (began + more) ended (λ n w. omega (arith, e))

-- The first broken rule of a step, in the parts of the search for it.
use Rattle.std.proofs.Common.{◌≡◌, ℕ, refl, ap, sym, ◌∙◌, List, [], ◌∷◌, ◌++◌, map, length, Option, Some, None, option_map, arith, Bool, true, false, cond, filter}
use Rattle.std.proofs.lemmas.Option.{slice_get_past}
use Rattle.std.specs.Prelude.{ℤ, flat_map, slice_get}
use Rattle.nano_spec.specs.declared.commands.Command.{Command}
use Rattle.nano_spec.specs.declared.outcomes.Broken.{Broken}
use Rattle.nano_spec.specs.declared.outcomes.Rule.TheVariants.{TraceEnds}
use Rattle.nano_spec.specs.declared.system.Bot.{Bot}
use Rattle.nano_spec.specs.declared.system.Harmonics.{Harmonics}
use Rattle.nano_spec.specs.declared.system.Profile.{Profile}
use Rattle.nano_spec.specs.Act.{Act, acts}
use Rattle.nano_spec.specs.First.{first_value}
use Rattle.nano_spec.specs.Group.{is_leader, leaders}
use Rattle.nano_spec.specs.Matrix.{Matrix}
use Rattle.nano_spec.specs.Rules.{broken, broken_by, fault, rules_of_bots, judge_bots, judge_pairs, judge_trace}
use Rattle.nano_spec.specs.State.{State}
use Rattle.std.specs.Option.{option_or}
use Rattle.step_groups.specs.declared.step.Step.{Step}
use Rattle.step_groups.specs.Judging.{judge_bot, judge_each, start_of}
use Rattle.step_groups.specs.Steps.{acts_of_step, broken_in, start_of_step}

pub first-append : {A : Type 0} (xs ys : List (Option A))
    → first_value (xs ++ ys) ≡ option_or (first_value xs) (first_value ys)
first-append [] ys = refl
first-append (Some a ∷ xs) ys = refl
first-append (None ∷ xs) ys = first-append xs ys

-- the judgements of the bots, bot by bot
pub each_is : (s : State) (all : List Act) (step : ℕ) (xs : List Act)
    → first_value (flat_map (λ a. map (λ rule. broken_by step rule a.bot.bid (fault s all a rule)) rules_of_bots) xs)
    ≡ judge_each s all step xs
each_is s all step [] = refl
each_is s all step (a ∷ xs) =
    first-append (map (λ rule. broken_by step rule a.bot.bid (fault s all a rule)) rules_of_bots) (flat_map (λ a. map (λ rule. broken_by step rule a.bot.bid (fault s all a rule)) rules_of_bots) xs)
    ∙ ap (option_or (judge_bot s all step a)) (each_is s all step xs)

-- as many commands as bots: the first rule that a bot breaks, or the first pair that interferes
pub whole : (s : State) (commands : List Command) (step : ℕ) → length commands ≡ length s.bots → broken s commands step
    ≡ option_or (judge_each s (acts s.bots commands) step (acts s.bots commands))
    (first_value (judge_pairs s.matrix (acts s.bots commands) step (leaders (acts s.bots commands))))
whole s commands step e =
    let all : List Act = acts s.bots commands in
    let none : judge_trace s commands step ≡ None = ap (option_map (λ (bot : Bot). record { step = step; bid = bot.bid; rule = TraceEnds; at = bot.pos })) (ap (slice_get s.bots) e ∙ slice_get_past s.bots (length s.bots) (omega arith)) in
    ap (λ o. first_value (o ∷ (judge_bots s all step ++ judge_pairs s.matrix all step (leaders all)))) none
    ∙ (first-append (judge_bots s all step) (judge_pairs s.matrix all step (leaders all))
    ∙ ap (λ o. option_or o (first_value (judge_pairs s.matrix all step (leaders all)))) (each_is s all step all))

-- the rules do not read the energy
same_start : (m : Matrix) (h : Harmonics) (profile : Profile) (bots : List Bot) (energy : ℤ) (all : List Act) (step : ℕ)
    (xs : List Act) → judge_each (record (start_of m h profile bots) { energy = energy }) all step xs
    ≡ judge_each (start_of m h profile bots) all step xs
same_start m h profile bots energy all step [] = refl
same_start m h profile bots energy all step (a ∷ xs) = ap (option_or (judge_bot (start_of m h profile bots) all step a)) (same_start m h profile bots energy all step xs)

-- the first rule that a bot breaks is the first of the step
pub by_bot : (step : Step) (o : Option Broken) (b : Broken) → length step.commands.now ≡ length step.bots.now
    → o ≡ judge_each (start_of_step step) (acts_of_step step) step.number (acts_of_step step) → o ≡ Some b
    → (energy : ℤ) → broken_in step energy ≡ Some b
by_bot step o b lengths e f energy =
    let all : List Act = acts_of_step step in
    let each : judge_each (record (start_of_step step) { energy = energy }) all step.number all ≡ Some b =
    same_start step.planes.now step.harmonics step.profile step.bots.now energy all step.number all ∙ (sym e ∙ f) in
    whole (record (start_of_step step) { energy = energy }) step.commands.now step.number lengths
    ∙ ap (λ v. option_or v (first_value (judge_pairs step.planes.now all step.number (leaders all)))) each

-- if no bot breaks one, it is the first pair that interferes
pub by_pair : (step : Step) (o p q : Option Broken) → length step.commands.now ≡ length step.bots.now
    → o ≡ judge_each (start_of_step step) (acts_of_step step) step.number (acts_of_step step) → o ≡ None
    → p ≡ first_value (judge_pairs step.planes.now (acts_of_step step) step.number (leaders (acts_of_step step)))
    → p ≡ q → (energy : ℤ) → broken_in step energy ≡ q
by_pair step o p q lengths e f pairs is energy =
    let all : List Act = acts_of_step step in
    let each : judge_each (record (start_of_step step) { energy = energy }) all step.number all ≡ None =
    same_start step.planes.now step.harmonics step.profile step.bots.now energy all step.number all ∙ (sym e ∙ f) in
    whole (record (start_of_step step) { energy = energy }) step.commands.now step.number lengths
    ∙ (ap (λ v. option_or v (first_value (judge_pairs step.planes.now all step.number (leaders all)))) each ∙ (sym pairs ∙ is))

pub none_after : {A : Type 0} (o : Option A) → option_or o None ≡ o
none_after None = refl
none_after (Some a) = refl

-- a single bot interferes with none
alone : (m : Matrix) (all : List Act) (step : ℕ) (bots : List Bot) (commands : List Command) → length bots ≡ 1
    → first_value (judge_pairs m all step (filter (is_leader all) (acts bots commands))) ≡ None
alone m all step [] commands e = absurd (omega arith)
alone m all step (b ∷ []) [] e = refl
alone m all step (b ∷ []) (c ∷ commands) e = one (is_leader all (record { bot = b; command = c }))
  where
    one : (t : Bool) → first_value (judge_pairs m all step (cond t (record { bot = b; command = c } ∷ []) [])) ≡ None
    one true = refl
    one false = refl
alone m all step (b ∷ d ∷ bots) commands e = absurd (omega arith)

single : (s : State) (commands : List Command) (step : ℕ) → length s.bots ≡ 1 → length commands ≡ length s.bots
    → broken s commands step ≡ judge_each s (acts s.bots commands) step (acts s.bots commands)
single s commands step e f =
    let all : List Act = acts s.bots commands in
    whole s commands step f
    ∙ (ap (option_or (judge_each s all step all)) (alone s.matrix all step s.bots commands e) ∙ none_after (judge_each s all step all))

-- the first rule that a single bot breaks by itself is the first of the step
pub by_itself : (m : Matrix) (h : Harmonics) (profile : Profile) (bots : List Bot) (commands : List Command) (step : ℕ)
    (o : Option Broken) → length bots ≡ 1 → length commands ≡ length bots
    → o ≡ judge_each (start_of m h profile bots) (acts bots commands) step (acts bots commands) → (energy : ℤ)
    → o ≡ broken (record (start_of m h profile bots) { energy = energy }) commands step
by_itself m h profile bots commands step o one lengths e energy =
    let all : List Act = acts bots commands in
    e ∙ (sym (same_start m h profile bots energy all step all) ∙ sym (single (record (start_of m h profile bots) { energy = energy }) commands step one lengths))

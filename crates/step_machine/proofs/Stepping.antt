-- The outcome of a step.
use Rattle.std.proofs.Common.{◌≡◌, ℕ, ◌+◌, ◌≤◌, ◌<◌, ◌%◌, ◌==◌, refl, sym, ◌∙◌, ap, subst, inl, inr, ◌⊎◌, arith, List, [], ◌∷◌, ◌++◌, Bool, true, false, cond, map, length}
use Rattle.std.specs.Prelude.{ℤ, pos, ◌+ℤ◌, ◌<ℤ◌, Option, Some, None, count_by, option_map, slice_get, MatchBool}
use Rattle.std.proofs.lemmas.Int.{ints}
use Rattle.std.proofs.lemmas.List.Sums.{sum_by-cons}
use Rattle.nano_spec.specs.declared.commands.Command.{Command}
use Rattle.nano_spec.specs.declared.outcomes.Broken.{Broken}
use Rattle.nano_spec.specs.declared.outcomes.Rule.{Rule}
use Rattle.nano_spec.specs.declared.outcomes.Rule.TheVariants.{Interference, Ungrounded, TraceEnds}
use Rattle.nano_spec.specs.declared.system.Bot.{Bot}
use Rattle.nano_spec.specs.declared.system.Harmonics.{Harmonics}
use Rattle.nano_spec.specs.declared.system.Harmonics.TheVariants.{Low, High}
use Rattle.vox_geom.specs.declared.coordinate.Coord.{Coord}
use Rattle.nano_spec.specs.Act.{Act, acts, is_flip}
use Rattle.nano_spec.specs.First.{first_value}
use Rattle.nano_spec.specs.Grounded.{FirstUngrounded}
use Rattle.nano_spec.specs.Group.{leaders}
use Rattle.nano_spec.specs.Matrix.{Matrix}
use Rattle.nano_spec.specs.Next.{Breaks, Goes, Next, accepts, leaves_floating, ungrounded_at}
use Rattle.nano_spec.specs.Rules.{broken, broken_by, clash, fault, judge_bots, judge_pairs, judge_trace, rules_of_bots}
use Rattle.nano_spec.specs.State.{IsWellFormed, State, is_high}
use Rattle.nano_spec.specs.Step.{after, flipped}
use Rattle.step_order.proofs.JudgedRules.{no_grounding}
use Rattle.step_order.proofs.Lists.{In, flat_in, in_either, map_in}
use Rattle.step_machine.specs.Situation.{IsEnergyBounded, IsConsistent, Situation}
use Rattle.support_forest.specs.ForestView.{ForestView}
use Rattle.vox_planes.specs.Changes.{Changes}
use Rattle.step_machine.specs.declared.TheConstants.{MOST_CHANGED}

-- ---- the harmonics after the step

flips : (bots : List Bot) (commands : List Command) → length commands ≤ length bots
    → count_by (λ a. is_flip a.command) (acts bots commands) ≡ count_by is_flip commands
flips [] [] h = refl
flips [] (c ∷ commands) h = absurd (omega arith)
flips (b ∷ bots) [] h = refl
flips (b ∷ bots) (c ∷ commands) h =
    let sum_is = sum_by-cons (λ (a : Act). cond {A = ℕ} (is_flip a.command) 1 0) (record { bot = b; command = c }) (acts bots commands) in
    let first_of_sum = sum_by-cons (λ k. cond {A = ℕ} (is_flip k) 1 0) c commands in
    let flips_here = flips bots commands (omega arith) in
    omega (arith, sum_is, first_of_sum, flips_here)

pub harmonics_are : (s : State) (commands : List Command) (before after_them : Harmonics)
    → length commands ≤ length s.bots → before ≡ s.harmonics
    → after_them ≡ cond (count_by is_flip commands % 2 == 1) (flipped before) before
    → after_them ≡ (after s commands).harmonics
harmonics_are s commands before after_them h e f = f ∙ ((λ i. cond (count_by is_flip commands % 2 == 1) (flipped (e i)) (e i)) ∙ ap (λ n. cond (n % 2 == 1) (flipped s.harmonics) s.harmonics) (sym (flips s.bots commands h)))

-- ---- the outcome of the step, by the least ungrounded voxel

-- the machine's harmonics and matrix after the step, and the voxel that it found
pub record IsFound (s : State) (commands : List Command) (harmonics : Harmonics) (matrix : Matrix) (at : Option Coord) : Type 0 where
  pub harmonics_is : harmonics ≡ (after s commands).harmonics
  pub matrix_is : matrix ≡ (after s commands).matrix
  pub found : MatchBool (is_high harmonics) (at ≡ None) (FirstUngrounded matrix at)

found_after : (s : State) (commands : List Command) (h : Harmonics) (m : Matrix) (at : Option Coord)
    → IsFound s commands h m at
    → MatchBool (is_high (after s commands).harmonics) (at ≡ None) (FirstUngrounded (after s commands).matrix at)
found_after s commands h m at f =
    subst (λ (k : Harmonics). MatchBool (is_high k) (at ≡ None) (FirstUngrounded (after s commands).matrix at)) f.harmonics_is
    (subst (λ (n : Matrix). MatchBool (is_high h) (at ≡ None) (FirstUngrounded n at)) f.matrix_is f.found)

pub breaks : (s : State) (commands : List Command) (step : ℕ) (h : Harmonics) (m : Matrix) (at : Option Coord)
    (c : Coord) → broken s commands step ≡ None → IsFound s commands h m at → at ≡ Some c
    → Next s commands step (Breaks (ungrounded_at step c))
breaks s commands step h m at c e f g = by (after s commands).harmonics refl found
  where
    found : MatchBool (is_high (after s commands).harmonics) (Some c ≡ None)
        (FirstUngrounded (after s commands).matrix (Some c))
    found = subst (λ o. MatchBool (is_high (after s commands).harmonics) (o ≡ None) (FirstUngrounded (after s commands).matrix o)) g (found_after s commands h m at f)

    by : (k : Harmonics) → (after s commands).harmonics ≡ k
        → MatchBool (is_high k) (Some c ≡ None) (FirstUngrounded (after s commands).matrix (Some c))
        → Next s commands step (Breaks (ungrounded_at step c))
    by High i k = cc
    by Low i k = leaves_floating c e i k refl

pub goes : (s t : State) (commands : List Command) (step : ℕ) (h : Harmonics) (m : Matrix) (at : Option Coord)
    → broken s commands step ≡ None → IsFound s commands h m at → at ≡ None → t ≡ after s commands
    → Next s commands step (Goes t)
goes s t commands step h m at e f g same = by (after s commands).harmonics refl (found_after s commands h m at f)
  where
    by : (k : Harmonics) → (after s commands).harmonics ≡ k
        → MatchBool (is_high k) (at ≡ None) (FirstUngrounded (after s commands).matrix at)
        → Next s commands step (Goes t)
    by High i n = accepts e (λ low. cc) (ap Goes same)
    by Low i n = accepts e (λ low. subst (λ (o : Option Coord). FirstUngrounded (after s commands).matrix o) g n) (ap Goes same)

-- ---- the rules judged at the start of a step exclude that of grounding

pub first_in : {A : Type 0} (xs : List (Option A)) (a : A) → first_value xs ≡ Some a → In (Some a) xs
first_in [] a e = cc
first_in (None ∷ xs) a e = inr (first_in xs a e)
first_in (Some b ∷ xs) a e = inl (sym e)

rule_is : (step : ℕ) (rule : Rule) (bid : ℕ) (at : Option Coord) (b : Broken) → Some b ≡ broken_by step rule bid at
    → b.rule ≡ rule
rule_is step rule bid None b e = cc
rule_is step rule bid (Some c) b e = let b_is : b ≡ record { step = step; bid = bid; rule = rule; at = c } = cc in ap (λ (x : Broken). x.rule) b_is

trace_rule : (o : Option Bot) (step : ℕ) (b : Broken)
    → Some b ≡ option_map (λ bot. record { step = step; bid = bot.bid; rule = TraceEnds; at = bot.pos }) o
    → b.rule ≡ TraceEnds
trace_rule None step b e = cc
trace_rule (Some bot) step b e = let b_is : b ≡ record { step = step; bid = bot.bid; rule = TraceEnds; at = bot.pos } = cc in ap (λ (x : Broken). x.rule) b_is

pub pairs_rule : (m : Matrix) (all : List Act) (step : ℕ) (xs : List Act) (b : Broken)
    → In (Some b) (judge_pairs m all step xs) → b.rule ≡ Interference
pairs_rule m all step [] b i = absurd i
pairs_rule m all step (x ∷ xs) b i = by (in_either (Some b) (map (λ d. broken_by step Interference x.bot.bid (clash m all x d)) xs) (judge_pairs m all step xs) i) (λ j. pairs_rule m all step xs b j)
  where
    by : In (Some b) (map (λ d. broken_by step Interference x.bot.bid (clash m all x d)) xs)
        ⊎ In (Some b) (judge_pairs m all step xs) → (In (Some b) (judge_pairs m all step xs) → b.rule ≡ Interference)
        → b.rule ≡ Interference
    by (inl j) later = let origin = map_in (λ d. broken_by step Interference x.bot.bid (clash m all x d)) (Some b) xs j in rule_is step Interference x.bot.bid (clash m all x origin.0) b origin.2
    by (inr j) later = later j

pub bots_rule : (s : State) (all : List Act) (step : ℕ) (b : Broken) → In (Some b) (judge_bots s all step)
    → In b.rule rules_of_bots
bots_rule s all step b i =
    let origin = flat_in (λ (x : Act). map (λ rule. broken_by step rule x.bot.bid (fault s all x rule)) rules_of_bots) (Some b) all i in
    let mapped_from = map_in (λ rule. broken_by step rule origin.0.bot.bid (fault s all origin.0 rule)) (Some b) rules_of_bots origin.2 in
    subst (λ (rule : Rule). In rule rules_of_bots) (sym (rule_is step mapped_from.0 origin.0.bot.bid (fault s all origin.0 mapped_from.0) b mapped_from.2)) mapped_from.1

pub not_grounding : (s : State) (commands : List Command) (step : ℕ) (b : Broken) → broken s commands step ≡ Some b
    → b.rule ≡ Ungrounded → ⊥
not_grounding s commands step b e f = by (first_in (judge_trace s commands step ∷ (judge_bots s (acts s.bots commands) step ++ judge_pairs s.matrix (acts s.bots commands) step (leaders (acts s.bots commands)))) b e)
  where
    later : In (Some b) (judge_bots s (acts s.bots commands) step)
        ⊎ In (Some b) (judge_pairs s.matrix (acts s.bots commands) step (leaders (acts s.bots commands))) → ⊥
    later (inl i) = no_grounding b.rule (bots_rule s (acts s.bots commands) step b i) f
    later (inr i) = let interferes = pairs_rule s.matrix (acts s.bots commands) step (leaders (acts s.bots commands)) b i in cc

    by : In (Some b) (judge_trace s commands step ∷ (judge_bots s (acts s.bots commands) step
        ++ judge_pairs s.matrix (acts s.bots commands) step (leaders (acts s.bots commands)))) → ⊥
    by (inl i) = let trace_ends = trace_rule (slice_get s.bots (length commands)) step b i in cc
    by (inr i) = later (in_either (Some b) (judge_bots s (acts s.bots commands) step) (judge_pairs s.matrix (acts s.bots commands) step (leaders (acts s.bots commands))) i)

-- ---- the energy

pub paid_on : (e f : ℤ) (steps : ℕ) → IsEnergyBounded e steps → f <ℤ (e +ℤ pos 3000000000) → e <ℤ (f +ℤ pos 3000000000)
    → IsEnergyBounded f (steps + 1)
paid_on e f steps p up down = record { above = omega (arith, ints, p.above, up); below = omega (arith, ints, p.below, down) }

-- ---- the step of a machine

-- a machine's parts and its situation
abbrev pub seen : State → ℕ → Bool → Situation
seen s steps spent = record { state = s; steps = steps; spent = spent }

few_steps : (s : State) (steps : ℕ) (spent : Bool) (v : Situation) → seen s steps spent ≡ v → v.steps < 1073741824
    → steps + 1 ≤ 1073741824
few_steps s steps spent v e h = let steps_is = ap (λ (w : Situation). w.steps) e in omega arith

pub sound_on : (s t : State) (commands : List Command) (old new : ForestView) (changed list : Changes) (steps : ℕ)
    (spent : Bool) (v : Situation) → IsConsistent s old changed steps spent → seen s steps spent ≡ v
    → v.steps < 1073741824 → t ≡ after s commands → new.spent ≡ false → new.matrix ≡ (after s commands).matrix
    → MOST_CHANGED ≤ list.spare + length list.items → (after s commands).energy <ℤ (s.energy +ℤ pos 3000000000)
    → s.energy <ℤ ((after s commands).energy +ℤ pos 3000000000) → IsConsistent t new list (steps + 1) spent
sound_on s t commands old new changed list steps spent v sound e few is stands tied room up down = record {
  stands = λ _. stands;
  tied = λ _. tied ∙ ap (λ (x : State). x.matrix) (sym is);
  room = room;
  seeds = subst (λ (x : State). x.profile.seeds ≤ 39) (sym is) sound.seeds;
  paid = subst (λ (x : State). IsEnergyBounded x.energy (steps + 1)) (sym is) (paid_on s.energy (after s commands).energy steps sound.paid up down);
  few = few_steps s steps spent v e few;
}

-- a poisoned machine is consistent, whatever its forest
pub sound_spent : (s : State) (old new : ForestView) (changed list : Changes) (steps : ℕ) (spent : Bool)
    → IsConsistent s old changed steps spent → MOST_CHANGED ≤ list.spare + length list.items
    → IsConsistent s new list steps true
sound_spent s old new changed list steps spent sound room = record {
  stands = λ e. absurd (no_truth e);
  tied = λ e. absurd (no_truth e);
  room = room;
  seeds = sound.seeds;
  paid = sound.paid;
  few = sound.few;
}
  where
    no_truth : true ≡ false → ⊥
    no_truth e = cc

-- an accepted step keeps a state well-formed
pub formed_on : (s t : State) (commands : List Command) (step : ℕ)
    → ((u : State) (step : ℕ) → IsWellFormed s → Next s commands step (Goes u) → IsWellFormed u)
    → Next s commands step (Goes (after s commands)) → t ≡ after s commands → IsWellFormed s → IsWellFormed t
formed_on s t commands step keeps next is formed = subst (λ (u : State). IsWellFormed u) (sym is) (keeps (after s commands) step formed next)

-- No rule is broken if no bot breaks one by itself and no two groups interfere.
use Rattle.std.proofs.Common.{◌≡◌, ℕ, refl, sym, ◌∙◌, ap, subst, inl, inr, ◌⊎◌, arith, List, [], ◌∷◌, ◌++◌, true, ◌&&◌, map, length, get_or}
use Rattle.std.specs.Prelude.{Some, None, Option, option_map, slice_get}
use Rattle.std.specs.List.{Contains}
use Rattle.vox_geom.specs.declared.coordinate.Coord.{Coord}
use Rattle.vox_geom.specs.Point.{point}
use Rattle.vox_geom.proofs.Truths.{false_by, first_of_two, second_of_two}
use Rattle.nano_spec.specs.declared.commands.Command.{Command}
use Rattle.nano_spec.specs.declared.outcomes.Broken.{Broken}
use Rattle.nano_spec.specs.declared.outcomes.Rule.{Rule}
use Rattle.nano_spec.specs.declared.outcomes.Rule.TheVariants.{Interference}
use Rattle.nano_spec.specs.declared.system.Bot.{Bot}
use Rattle.nano_spec.specs.Act.{Act, acts}
use Rattle.nano_spec.specs.First.{first_value}
use Rattle.nano_spec.specs.Group.{are_together, is_leader, leaders, members}
use Rattle.nano_spec.specs.Matrix.{Matrix, all_of}
use Rattle.nano_spec.specs.Rules.{broken, broken_by, clash, fault, judge_bots, judge_by, judge_pairs, judge_trace, rules_of_bots}
use Rattle.nano_spec.specs.State.{IsReady, State}
use Rattle.nano_spec.specs.Volatile.{is_volatile, is_volatile_of}
use Rattle.step_order.proofs.Facts.{apart_is, commanded, up}
use Rattle.step_order.proofs.Groups.{Differ, differ_acts, differ_filter, only_leader}
use Rattle.step_order.proofs.Lists.{In, any_in, filter_in, flat_in, in_either, in_place, map_in, none_find, place_in}
use Rattle.step_order.proofs.Together.{AreApart, together_back, together_on}

-- a contained element is in the list
pub contained : {X : Type 0} (xs : List X) (x : X) → Contains xs x → In x xs
contained {X} xs x c = by c.2
  where
    by : get_or xs c.0 x ≡ x → In x xs
    by e = subst (λ (y : X). In y xs) e (place_in x xs c.0 c.1)

pub containing : {X : Type 0} (xs : List X) (x : X) → In x xs → Contains xs x
containing xs x i = in_place x x xs i

all_none : {A : Type 0} (xs : List (Option A)) → ((x : Option A) → In x xs → x ≡ None) → first_value xs ≡ None
all_none [] h = refl
all_none (Some a ∷ more) h = let e = h (Some a) (inl refl) in cc
all_none (None ∷ more) h = all_none more (λ x i. h x (inr i))

pub nobody_left : (bots : List Bot) (commands : List Command) → length commands ≡ length bots
    → slice_get bots (length commands) ≡ None
nobody_left [] commands e = refl
nobody_left (b ∷ bots) [] e = absurd (omega arith)
nobody_left (b ∷ bots) (k ∷ commands) e = nobody_left bots commands (omega arith)

-- the bots of the acts, if there are as many commands
pub all_bots : (bots : List Bot) (commands : List Command) → length commands ≡ length bots
    → map (λ (a : Act). a.bot) (acts bots commands) ≡ bots
all_bots bots commands lengths = commanded bots commands (nobody_left bots commands lengths)

-- no coordinate is volatile for both bots
abbrev pub AreClear : Act → Act → Type 0
AreClear a b = (c : Coord) → is_volatile_of (point c) a ≡ true → is_volatile_of (point c) b ≡ true → ⊥

-- the bots act together, or no coordinate is volatile for both
abbrev pub Agree : Act → Act → Type 0
Agree a b = (are_together a b ≡ true) ⊎ AreClear a b

module _ (m : Matrix) (all : List Act) (apart : AreApart all) (agree : (a b : Act) → In a all → In b all → Agree a b) where
  no_clash : (l d : Act) → In l (leaders all) → In d (leaders all) → (l.bot.bid ≡ d.bot.bid → ⊥)
      → clash m all l d ≡ None
  no_clash l d i j differ = none_find (λ c. is_volatile all l (point c) && is_volatile all d (point c)) (all_of m) (λ c k. false_by (is_volatile all l (point c) && is_volatile all d (point c)) (never c))
    where
      at : (c : Coord) (x y : Act) → In x all → In y all → are_together l x ≡ true → are_together d y ≡ true
          → is_volatile_of (point c) x ≡ true → is_volatile_of (point c) y ≡ true → Agree x y → ⊥
      at c x y i' j' t u v w (inr clear) = clear c v w
      at c x y i' j' t u v w (inl s) =
          let il = (filter_in (is_leader all) l all i).0 in
          let id = filter_in (is_leader all) d all j in
          let ly = together_on all apart l x y il i' j' t s in
          let ld = together_on all apart l y d il j' id.0 ly (together_back d y u) in
          differ (ap (λ (a : Act). a.bot.bid) (sym (only_leader all apart l d i id.0 ld id.1)))

      never : (c : Coord) → (is_volatile all l (point c) && is_volatile all d (point c)) ≡ true → ⊥
      never c h =
          let witness = any_in (is_volatile_of (point c)) (members all l) (first_of_two (is_volatile all l (point c)) (is_volatile all d (point c)) h) in
          let its_witness = any_in (is_volatile_of (point c)) (members all d) (second_of_two (is_volatile all l (point c)) (is_volatile all d (point c)) h) in
          let xi = filter_in (are_together l) witness.0 all witness.1 in
          let yi = filter_in (are_together d) its_witness.0 all its_witness.1 in
          at c witness.0 its_witness.0 xi.0 yi.0 xi.1 yi.1 witness.2 its_witness.2 (agree witness.0 its_witness.0 xi.0 yi.0)

  no_pairs : (step : ℕ) (xs : List Act) → Differ (λ (a : Act). a.bot.bid) xs
      → ((a : Act) → In a xs → In a (leaders all)) → (j : Option Broken) → In j (judge_pairs m all step xs) → j ≡ None
  no_pairs step [] d h j i = absurd i
  no_pairs step (a ∷ more) d h j i = by (in_either j (map (λ b. broken_by step Interference a.bot.bid (clash m all a b)) more) (judge_pairs m all step more) i) (no_pairs step more d.1 (λ b l. h b (inr l)) j)
    where
      by : In j (map (λ b. broken_by step Interference a.bot.bid (clash m all a b)) more)
          ⊎ In j (judge_pairs m all step more) → (In j (judge_pairs m all step more) → j ≡ None) → j ≡ None
      by (inl k) later =
          let origin = map_in (λ b. broken_by step Interference a.bot.bid (clash m all a b)) j more k in
          origin.2 ∙ ap (broken_by step Interference a.bot.bid) (no_clash a origin.0 (h a (inl refl)) (h origin.0 (inr origin.1)) (d.0 origin.0 origin.1))
      by (inr k) later = later k

module _ (s : State) (commands : List Command) (step : ℕ) (ready : IsReady s) (lengths : length commands ≡ length s.bots) (faultless : (a : Act) (rule : Rule) → In a (acts s.bots commands) → fault s (acts s.bots commands) a rule ≡ None) (agree : (a b : Act) → In a (acts s.bots commands) → In b (acts s.bots commands) → Agree a b) where
  no_faults : (j : Option Broken) → In j (judge_bots s (acts s.bots commands) step) → j ≡ None
  no_faults j i =
      let all = acts s.bots commands in
      let origin = flat_in (judge_by rules_of_bots s all step) j all i in
      let mapped_from = map_in (λ rule. broken_by step rule origin.0.bot.bid (fault s all origin.0 rule)) j rules_of_bots origin.2 in
      mapped_from.2 ∙ ap (broken_by step mapped_from.0 origin.0.bot.bid) (faultless origin.0 mapped_from.0 origin.1)

  pub unbroken_by : broken s commands step ≡ None
  unbroken_by = all_none (judge_trace s commands step ∷ (judge_bots s all step ++ judge_pairs s.matrix all step (leaders all))) each
    where
      all : List Act
      all = acts s.bots commands

      rest : (j : Option Broken) → In j (judge_bots s (acts s.bots commands) step)
          ⊎ In j (judge_pairs s.matrix (acts s.bots commands) step (leaders (acts s.bots commands))) → j ≡ None
      rest j (inl i) = no_faults j i
      rest j (inr i) = no_pairs s.matrix (acts s.bots commands) (apart_is s (acts s.bots commands) ready (all_bots s.bots commands lengths)) agree step (leaders (acts s.bots commands)) (differ_filter (λ (a : Act). a.bot.bid) (is_leader (acts s.bots commands)) (acts s.bots commands) (differ_acts (acts s.bots commands) (up s (acts s.bots commands) ready (all_bots s.bots commands lengths)))) (λ a k. k) j i

      each : (j : Option Broken) → In j (judge_trace s commands step ∷ (judge_bots s (acts s.bots commands) step
          ++ judge_pairs s.matrix (acts s.bots commands) step (leaders (acts s.bots commands)))) → j ≡ None
      each j (inl e) = e ∙ ap (option_map (λ (bot : Bot). _)) (nobody_left s.bots commands lengths)
      each j (inr i) = rest j (in_either j (judge_bots s (acts s.bots commands) step) (judge_pairs s.matrix (acts s.bots commands) step (leaders (acts s.bots commands))) i)

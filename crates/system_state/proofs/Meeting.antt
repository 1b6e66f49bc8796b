-- Facts of a group in the current state: its bots are there, it keeps the rules, and the target coordinates are
-- free.
use Rattle.std.proofs.Common.{rules, ◌≡◌, ℕ, ◌≤◌, refl, sym, ◌∙◌, ap, arith, inl, inr, List, [], ◌∷◌, Bool, true, false, cond, ◌&&◌, ◌||◌, ◌==◌, map, not, length}
use Rattle.std.specs.Prelude.{Some, None, Option, find, unwrap_or, IsNone, IfSome, is_none, nat_lt}
use Rattle.std.specs.List.{list_all, list_any}
use Rattle.std.proofs.lemmas.Bool.Decides.{nat_tests}
use Rattle.vox_geom.specs.declared.coordinate.Coord.{Coord}
use Rattle.vox_geom.proofs.Truths.{first_of_two, not_is_false, second_of_two}
use Rattle.nano_spec.specs.declared.commands.Command.TheVariants.{Halt}
use Rattle.nano_spec.specs.declared.outcomes.Rule.{Rule}
use Rattle.nano_spec.specs.declared.outcomes.Rule.TheVariants.{HaltAlone, OutOfSpace, Seeds}
use Rattle.nano_spec.specs.declared.system.Bot.{Bot}
use Rattle.nano_spec.specs.Act.{Act, is_halt, stays_in_space}
use Rattle.nano_spec.specs.Rules.{fault, lacks_seeds, rules_of_bots}
use Rattle.nano_spec.specs.Serial.{bot_in, is_active, keeps_rules}
use Rattle.nano_spec.specs.State.{State, seed_list}
use Rattle.nano_spec.proofs.Light.{here_false}
use Rattle.bot_crew.specs.Crew.{bot_at, bot_of, stands_at}
use Rattle.bot_crew.proofs.Heirs.{found_in, stood}
use Rattle.step_order.proofs.Lists.{In, all_in}
use Rattle.system_state.specs.Effects.{IsFreeFor}
use Rattle.step_order.proofs.JudgedRules.{out_of_space_is_judged, seeds_are_judged}

-- ---- facts of a group in the current state

is_none_is : {X : Type 0} (o : Option X) → is_none o ≡ true → o ≡ None
is_none_is None e = refl
is_none_is (Some x) e = cc

module _ (t : State) (group : List Act) (keeps : keeps_rules t group ≡ true) (a : Act) (i : In a group) where
  both_of : (is_active t a.bot ≡ true) × (list_all (λ rule. is_none (fault t group a rule)) rules_of_bots ≡ true)
  both_of =
      let all_in_here = all_in (λ b. is_active t b.bot && list_all (λ rule. is_none (fault t group b rule)) rules_of_bots) a group keeps i in
      (first_of_two (is_active t a.bot) (list_all (λ rule. is_none (fault t group a rule)) rules_of_bots) all_in_here, second_of_two (is_active t a.bot) (list_all (λ rule. is_none (fault t group a rule)) rules_of_bots) all_in_here)

  pub kept_rule : (rule : Rule) → In rule rules_of_bots → fault t group a rule ≡ None
  kept_rule rule j = is_none_is (fault t group a rule) (all_in (λ r. is_none (fault t group a r)) rule rules_of_bots both_of.1 j)

  pub is_there : is_active t a.bot ≡ true
  is_there = both_of.0

  pub stays : stays_in_space t.matrix.resolution a ≡ true
  stays = not_is_false (stays_in_space t.matrix.resolution a) (here_false a (not (stays_in_space t.matrix.resolution a)) (kept_rule OutOfSpace out_of_space_is_judged))

  pub seeded : lacks_seeds (seed_list a.bot.seeds) a.command ≡ false
  seeded = here_false a (lacks_seeds (seed_list a.bot.seeds) a.command) (kept_rule Seeds seeds_are_judged)

  pub halts_alone : a.command ≡ Halt → nat_lt 1 (length t.bots) ≡ false
  halts_alone e = sym (ap (λ c. is_halt c && nat_lt 1 (length t.bots)) e) ∙ here_false a (is_halt a.command && nat_lt 1 (length t.bots)) (kept_rule HaltAlone (inr (inl refl)))

-- a bot found unchanged is active
module _ (t : State) (bot : Bot) (met : bot_in t.bots bot ≡ bot) (active : is_active t bot ≡ true) where
  find_step : (p : Bot → Bool) (b : Bot) (bs : List Bot) (v : Bool) → p b ≡ v
      → (list_any p bs ≡ true → find p bs ≡ Some (unwrap_or (find p bs) bot)) → (v || list_any p bs) ≡ true
      → cond v (Some b) (find p bs) ≡ Some (unwrap_or (cond v (Some b) (find p bs)) bot)
  find_step p b bs true e h k = refl
  find_step p b bs false e h k = h k

  finds : (p : Bot → Bool) (bots : List Bot) → list_any p bots ≡ true → find p bots ≡ Some (unwrap_or (find p bots) bot)
  finds p [] e = cc
  finds p (b ∷ bs) e = find_step p b bs (p b) refl (λ k. finds p bs k) e

  pub found : bot_of t.bots bot.bid ≡ Some bot
  found = finds (λ b. b.bid == bot.bid) t.bots active ∙ ap Some met

-- ---- the conditions of the turn

pub at_most_one : (n : ℕ) → nat_lt 1 n ≡ false → n ≤ 1
at_most_one n e = grind (arith, nat_tests)

pub some_of : (b : Bot) (bots : List Bot) → In b bots → 1 ≤ length bots
some_of b [] i = absurd i
some_of b (x ∷ xs) i = omega arith

module _ (bots : List Bot) (bot : Bot) (c : Coord) (apart : (y : Bot) → In y bots → y.pos ≡ c → y ≡ bot) where
  pub free_for : IsFreeFor bots bot c
  free_for = by (bot_at bots c) refl
    where
      by : (o : Option Bot) → bot_at bots c ≡ o → IfSome o (λ b. b.bid ≡ bot.bid)
      by None e = tt
      by (Some y) e = let found_there = found_in (stands_at c) bots y e in ap (λ (b : Bot). b.bid) (apart y found_there.0 (stood c y found_there.1))

  pub nobody : (bot.pos ≡ c → ⊥) → IsNone (bot_at bots c)
  nobody away = by (bot_at bots c) refl
    where
      by : (o : Option Bot) → bot_at bots c ≡ o → IsNone o
      by None e = search rules
      by (Some y) e = let found_there = found_in (stands_at c) bots y e in absurd (away (sym (ap (λ (b : Bot). b.pos) (apart y found_there.0 (stood c y found_there.1))) ∙ stood c y found_there.1))

-- a map that leaves a list unchanged leaves each element unchanged
pub is_met : {X : Type 0} (f : X → X) (xs : List X) → map f xs ≡ xs → (x : X) → In x xs → f x ≡ x
is_met f [] e x i = absurd i
is_met {X} f (y ∷ ys) e x (inl i) = ap f i ∙ (head e ∙ sym i)
  where
    head : f y ∷ map f ys ≡ y ∷ ys → f y ≡ y
    head k = cc
is_met {X} f (y ∷ ys) e x (inr i) = is_met f ys (tail e) x i
  where
    tail : f y ∷ map f ys ≡ y ∷ ys → map f ys ≡ ys
    tail k = cc

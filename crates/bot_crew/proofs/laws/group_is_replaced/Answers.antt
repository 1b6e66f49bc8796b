use Rattle.std.proofs.Common.{◌≡◌, ℕ, ◌||◌, not, ◌==◌, List, [], ◌∷◌, ◌++◌, map, ap, refl}
use Rattle.std.specs.Prelude.{flat_map}
use Rattle.std.specs.List.{list_any}
use Rattle.nano_spec.specs.declared.system.Bot.{Bot}
use Rattle.nano_spec.specs.Act.{Act}
use Rattle.nano_spec.specs.Bots.{in_rising_order, successors}
use Rattle.nano_spec.specs.Serial.{bots_outside}
use Rattle.step_order.proofs.Lists.{filter_same}
use Rattle.bot_crew.specs.Crew.{without}
use Rattle.bot_crew.proofs.laws.group_is_replaced.Goals as goal

same_test : (group : List Act) (k : ℕ)
    → list_any (λ a. a.bot.bid == k) group ≡ list_any (λ j. j == k) (map (λ a. a.bot.bid) group)
same_test [] k = refl
same_test (a ∷ group) k = ap (λ v. a.bot.bid == k || v) (same_test group k)

others_are : (bots : List Bot) (group : List Act) → bots_outside bots group ≡ without bots (map (λ a. a.bot.bid) group)
others_are bots group = filter_same (λ b. not (list_any (λ a. a.bot.bid == b.bid) group)) (λ b. not (list_any (λ j. j == b.bid) (map (λ a. a.bot.bid) group))) bots (λ b i. ap not (same_test group b.bid))

pub returns : goal.returns
returns c s group = ap (λ bs. in_rising_order (flat_map (λ a. successors group a a.command) group ++ bs)) (others_are s.bots group)

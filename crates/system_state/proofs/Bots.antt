-- The bots before and after the turn of a group.
use Rattle.std.proofs.Common.{◌≡◌, ℕ, ◌<◌, refl, sym, ◌∙◌, ap, subst, arith, inl, inr, ◌⊎◌, List, [], ◌∷◌, ◌++◌, Bool, true, false, cond, ◌&&◌, ◌||◌, ◌==◌, eq-eqb, map, not, get_or}
use Rattle.std.specs.Prelude.{All, Some, None, Option, option_map, unwrap_or}
use Rattle.std.specs.List.{list_any}
use Rattle.std.proofs.lemmas.Bool.Decides.{Decides-eqb}
use Rattle.vox_geom.specs.Point.{point, plus}
use Rattle.vox_geom.specs.Space.{IsInSpace, in_space}
use Rattle.vox_geom.proofs.Truths.{first_of_two, second_of_two}
use Rattle.nano_spec.specs.declared.commands.Command.{Command}
use Rattle.nano_spec.specs.declared.commands.Command.TheVariants.{Halt, SMove, LMove, FusionP, FusionS, Fission, GFill, GVoid}
use Rattle.nano_spec.specs.declared.system.Bot.{Bot}
use Rattle.nano_spec.specs.Act.{stays_in_space}
use Rattle.nano_spec.specs.Bots.{fused, in_rising_order, moved, newborn, parent, successors}
use Rattle.step_groups.specs.Judging.{is_alone, act}
use Rattle.step_order.proofs.Crews.{Differing, differ_append, differing, in_order, order_in, rising_order, rising_same}
use Rattle.step_order.proofs.Ends.{space_is}
use Rattle.step_order.proofs.Facts.{Rising}
use Rattle.step_order.proofs.Groups.{differ_filter}
use Rattle.step_order.proofs.Lists.{In, any_in, filter_in, in_any, in_either, in_filter, in_left, in_map, in_place, in_right, map_in, not_both, place_in}
use Rattle.bot_crew.specs.Crew.{bot_of, replaced, without}
use Rattle.bot_crew.proofs.Heirs.{found_in}
use Rattle.system_state.specs.Effects.{MayTake, bots_after_turn, with_partner}

-- ---- bots at their own index

module _ (bots : List Bot) (rising : Rising bots) (same : List Bot) (differ : Differing same) (there : (b : Bot) → In b same → In b bots) where
  bids : List ℕ
  bids = map (λ (b : Bot). b.bid) same

  is_named : Bot → Bool
  is_named b = list_any (λ k. k == b.bid) bids

  one_bid : (b c : Bot) → In b bots → In c bots → b.bid ≡ c.bid → b ≡ c
  one_bid b c i j e = by bots rising i j
    where
      by : (bs : List Bot) → Rising bs → In b bs → In c bs → b ≡ c
      by [] r i j = absurd i
      by (x ∷ xs) r (inl i) (inl j) = i ∙ sym j
      by (x ∷ xs) r (inl i) (inr j) = absurd (let below_bid : x.bid < c.bid = r.0 c j in let same_bid : b.bid ≡ x.bid = ap (λ (d : Bot). d.bid) i in omega arith)
      by (x ∷ xs) r (inr i) (inl j) = absurd (let below_bid : x.bid < b.bid = r.0 b i in let same_bid : c.bid ≡ x.bid = ap (λ (d : Bot). d.bid) j in omega arith)
      by (x ∷ xs) r (inr i) (inr j) = by xs r.1 i j

  of_named : (b : Bot) → In b bots → is_named b ≡ true → In b same
  unfolding is_named bids
  of_named b i e =
      let witness = any_in (λ k. k == b.bid) bids e in
      let origin = map_in (λ (c : Bot). c.bid) witness.0 same witness.1 in
      subst (λ (c : Bot). In c same) (one_bid origin.0 b (there origin.0 origin.1) i (sym origin.2 ∙ (Decides-eqb witness.0 b.bid).0 witness.2)) origin.1

  is_there : (b : Bot) → In b same → is_named b ≡ true
  unfolding is_named bids
  is_there b i = in_any (λ k. k == b.bid) b.bid (map (λ (c : Bot). c.bid) same) (in_map (λ (c : Bot). c.bid) b same i) (eq-eqb b.bid b.bid refl)

  kept : (b : Bot) → In b (same ++ without bots (map (λ (c : Bot). c.bid) same)) → In b bots
  kept b i = by (in_either b same (without bots (map (λ (c : Bot). c.bid) same)) i)
    where
      by : In b same ⊎ In b (without bots (map (λ (c : Bot). c.bid) same)) → In b bots
      by (inl j) = there b j
      by (inr j) = (filter_in (λ c. not (list_any (λ k. k == c.bid) (map (λ (d : Bot). d.bid) same))) b bots j).0

  back : (b : Bot) → In b bots → In b (same ++ without bots (map (λ (c : Bot). c.bid) same))
  unfolding is_named bids
  back b i = by (is_named b) refl
    where
      by : (t : Bool) → is_named b ≡ t → In b (same ++ without bots (map (λ (c : Bot). c.bid) same))
      by true e = in_left b same (without bots (map (λ (c : Bot). c.bid) same)) (of_named b i e)
      by false e = in_right b same (without bots (map (λ (c : Bot). c.bid) same)) (in_filter (λ c. not (list_any (λ k. k == c.bid) (map (λ (d : Bot). d.bid) same))) b bots i (ap not e))

  apart : Differing (same ++ without bots (map (λ (c : Bot). c.bid) same))
  unfolding is_named bids
  apart = differ_append same (without bots (map (λ (c : Bot). c.bid) same)) differ
      (differ_filter (λ (b : Bot). b.bid) (λ c. not (list_any (λ k. k == c.bid) (map (λ (d : Bot). d.bid) same))) bots (differing bots rising))
      (λ c e i j k.
      let passed = filter_in (λ c. not (list_any (λ k. k == c.bid) (map (λ (d : Bot). d.bid) same))) e bots j in
      not_both (is_there e (subst (λ (b : Bot). In b same) (one_bid c e (there c i) passed.0 k) i)) (untrue (is_named e) passed.1))
    where
      untrue : (b : Bool) → not b ≡ true → b ≡ false
      untrue true e = cc
      untrue false e = refl

  -- replacing bots by themselves leaves all as they are
  pub replaced_itself : replaced bots (map (λ (c : Bot). c.bid) same) same ≡ bots
  replaced_itself = rising_same (replaced bots (map (λ (c : Bot). c.bid) same) same) bots (rising_order (same ++ without bots (map (λ (c : Bot). c.bid) same)) apart) rising
      (λ c i. kept c (order_in (same ++ without bots (map (λ (c : Bot). c.bid) same)) c i))
      (λ c i. in_order (same ++ without bots (map (λ (c : Bot). c.bid) same)) c (back c i))

-- ---- properties of all bots

pub all_replaced : (P : Bot → Type 0) (bots : List Bot) (bids : List ℕ) (news : List Bot)
    → ((b : Bot) → In b bots → P b) → ((b : Bot) → In b news → P b) → (b : Bot) → In b (replaced bots bids news) → P b
all_replaced P bots bids news h k b i = by (in_either b news (without bots bids) (order_in (news ++ without bots bids) b i))
  where
    by : In b news ⊎ In b (without bots bids) → P b
    by (inl j) = k b j
    by (inr j) = h b (filter_in (λ c. not (list_any (λ k. k == c.bid) bids)) b bots j).0

module _ (r : ℕ) (bots : List Bot) (within : (b : Bot) → In b bots → IsInSpace r b.pos) (bot : Bot) (here : IsInSpace r bot.pos) where
  Within : Bot → Type 0
  Within b = IsInSpace r b.pos

  one : (n : Bot) → IsInSpace r n.pos → (b : Bot) → In b (n ∷ []) → IsInSpace r b.pos
  one n w b (inl e) = subst (λ (c : Bot). IsInSpace r c.pos) (sym e) w
  one n w b (inr i) = absurd i

  two : (n m : Bot) → IsInSpace r n.pos → IsInSpace r m.pos → (b : Bot) → In b (n ∷ m ∷ []) → IsInSpace r b.pos
  two n m w v b (inl e) = subst (λ (c : Bot). IsInSpace r c.pos) (sym e) w
  two n m w v b (inr i) = one m v b i

  joined : (partner : ℕ) (bids : List ℕ) (fuse : Bot → Bot)
      → ((other : Bot) → In other bots → IsInSpace r (fuse other).pos) → (b : Bot)
      → In b (with_partner bots partner (λ other. replaced bots bids (fuse other ∷ []))) → IsInSpace r b.pos
  joined partner bids fuse h b = by (bot_of bots partner) refl
    where
      by : (o : Option Bot) → bot_of bots partner ≡ o
          → In b (unwrap_or (option_map (λ other. replaced bots bids (fuse other ∷ [])) o) bots) → IsInSpace r b.pos
      by None e i = within b i
      by (Some other) e i = all_replaced (λ (c : Bot). IsInSpace r c.pos) bots bids (fuse other ∷ []) within (one (fuse other) (h other (found_in (λ c. c.bid == partner) bots other e).0)) b i

  -- the bots after a turn are in space
  pub after_within : (partner : ℕ) (command : Command) → stays_in_space r (act bot command) ≡ true → (b : Bot)
      → In b (bots_after_turn bots bot partner command) → IsInSpace r b.pos
  after_within partner Halt e b i = absurd i
  after_within partner (SMove d) e b i = all_replaced (λ (c : Bot). IsInSpace r c.pos) bots (bot.bid ∷ []) (moved bot (plus (point bot.pos) d) ∷ []) within (one (moved bot (plus (point bot.pos) d)) (space_is r (plus (point bot.pos) d) (first_of_two (in_space r (plus (point bot.pos) d)) true e)).0) b i
  after_within partner (LMove d f) e b i = all_replaced (λ (c : Bot). IsInSpace r c.pos) bots (bot.bid ∷ []) (moved bot (plus (plus (point bot.pos) d) f) ∷ []) within (one (moved bot (plus (plus (point bot.pos) d) f)) (space_is r (plus (plus (point bot.pos) d) f) (first_of_two (in_space r (plus (plus (point bot.pos) d) f)) true (second_of_two (in_space r (plus (point bot.pos) d)) (in_space r (plus (plus (point bot.pos) d) f) && true) e))).0) b i
  after_within partner (FusionP d) e b i = joined partner (bot.bid ∷ partner ∷ []) (λ other. fused bot other) (λ other j. here) b i
  after_within partner (FusionS d) e b i = joined partner (partner ∷ bot.bid ∷ []) (λ other. fused other bot) (λ other j. within other j) b i
  after_within partner (Fission d m) e b i = all_replaced (λ (c : Bot). IsInSpace r c.pos) bots (bot.bid ∷ []) (parent bot m ∷ newborn bot (plus (point bot.pos) d) m ∷ []) within (two (parent bot m) (newborn bot (plus (point bot.pos) d) m) here (space_is r (plus (point bot.pos) d) (first_of_two (in_space r (plus (point bot.pos) d)) true e)).0) b i
  after_within partner command e b i = within b i

-- ---- bots that are groups of their own

halted : (bot : Bot) → in_rising_order (without (bot ∷ []) (bot.bid ∷ [])) ≡ []
halted bot = ap (λ t. in_rising_order (cond (not (t || false)) (bot ∷ []) [])) (eq-eqb bot.bid bot.bid refl)

pub alone_bots : (bots : List Bot) (bot : Bot) (partner : ℕ) (command : Command) → is_alone command ≡ true → Rising bots
    → In bot bots → (command ≡ Halt → bots ≡ bot ∷ [])
    → replaced bots (bot.bid ∷ []) (successors (act bot command ∷ []) (act bot command) command ++ [])
    ≡ bots_after_turn bots bot partner command
alone_bots bots bot partner command h rising i lone = by command h lone
  where
    still : replaced bots (bot.bid ∷ []) (bot ∷ []) ≡ bots
    still = replaced_itself bots rising (bot ∷ []) ((λ c j. absurd j), tt) (λ b j. own b j)
      where
        own : (b : Bot) → In b (bot ∷ []) → In b bots
        own b (inl e) = subst (λ (c : Bot). In c bots) (sym e) i
        own b (inr j) = absurd j

    by : (c : Command) → is_alone c ≡ true → (c ≡ Halt → bots ≡ bot ∷ [])
        → replaced bots (bot.bid ∷ []) (successors (act bot c ∷ []) (act bot c) c ++ [])
        ≡ bots_after_turn bots bot partner c
    by Halt e l = ap (λ (bs : List Bot). in_rising_order (without bs (bot.bid ∷ []))) (l refl) ∙ halted bot
    by (SMove d) e l = refl
    by (LMove d f) e l = refl
    by (FusionP d) e l = cc
    by (FusionS d) e l = cc
    by (Fission d m) e l = refl
    by (GFill d f) e l = cc
    by (GVoid d f) e l = cc
    by c e l = still

-- ---- all bots after a turn

pub in_all : (r : ℕ) (bots : List Bot) → All (λ b. IsInSpace r b.pos) bots → (b : Bot) → In b bots → IsInSpace r b.pos
in_all r bots h b i = let place = in_place b b bots i in subst (λ (c : Bot). IsInSpace r c.pos) place.2 (h place.0 b place.1)

pub turn_within : (r : ℕ) (bots : List Bot) (bot : Bot) (partner : ℕ) (command : Command)
    → All (λ b. IsInSpace r b.pos) bots → MayTake r bots bot partner command
    → All (λ b. IsInSpace r b.pos) (bots_after_turn bots bot partner command)
turn_within r bots bot partner command h may = λ k d l. after_within r bots (in_all r bots h) bot may.within partner command may.stays (get_or (bots_after_turn bots bot partner command) k d) (place_in d (bots_after_turn bots bot partner command) k l)

-- If no bot breaks a rule of single bots, commands stay in space, and groups have at most eight
-- members.
use Rattle.std.proofs.Common.{◌≡◌, ℕ, zero, suc, ◌+◌, ◌<◌, ◌≤◌, ◌^◌, refl, ap, sym, ◌∙◌, subst, arith, inl, inr, ◌⊎◌, Bool, true, false, ◌||◌, ◌==◌, not, cond, List, [], ◌∷◌, filter, length, map, Option, Some, None}
use Rattle.std.specs.Prelude.{IsTrue, AllPairs, ◌≢◌, ℤ}
use Rattle.std.specs.List.{list_any}
use Rattle.std.specs.Option.{option_or}
use Rattle.vox_geom.specs.declared.coordinate.Coord.{Coord}
use Rattle.vox_geom.specs.Point.{Point, plus, same_point}
use Rattle.vox_geom.specs.Region.{Span, between, differs, dimension}
use Rattle.vox_geom.specs.Space.{coordinate}
use Rattle.vox_geom.proofs.Truths.{false_by, first_of_two, not_is_false, one_of_two, or_false, second_of_two}
use Rattle.vox_geom.proofs.Tests.{equal_by_test}
use Rattle.nano_spec.specs.declared.commands.Command.{Command}
use Rattle.nano_spec.specs.declared.commands.Command.TheVariants.{FusionP, FusionS, GFill, GVoid}
use Rattle.nano_spec.specs.declared.outcomes.Rule.{Rule}
use Rattle.nano_spec.specs.declared.outcomes.Rule.TheVariants.{OutOfSpace, GroupShape}
use Rattle.nano_spec.specs.declared.system.Bot.{Bot}
use Rattle.nano_spec.specs.Act.{Act, acts, position, stays_in_space}
use Rattle.nano_spec.specs.Group.{are_partners, are_together, fuse, is_pair, members, share_region}
use Rattle.nano_spec.specs.Rules.{broken_by, fault, rules_of_bots}
use Rattle.nano_spec.specs.State.{State}
use Rattle.nano_spec.proofs.Light.{here_false}
use Rattle.step_order.proofs.Facts.{Rising, no_first, nothing, pairs_in, rising_is}
use Rattle.step_order.proofs.Lists.{In, in_map, any_in}
use Rattle.step_order.proofs.Together.{point_is}
use Rattle.step_order.proofs.Judgements.{all_bots}
use Rattle.step_groups.specs.Groups.{AreJudged}
use Rattle.step_groups.specs.Judging.{act, judge_bot, judge_each}
use Rattle.step_groups.proofs.Joined.{bot_in, in_all}
use Rattle.step_groups.proofs.Mates.{no_filter}
use Rattle.step_order.proofs.JudgedRules.{group_shape_is_judged, out_of_space_is_judged}

-- ---- no rule is broken

none_or : {A : Type 0} (x y : Option A) → option_or x y ≡ None → (x ≡ None) × (y ≡ None)
none_or None y e = (refl, e)
none_or (Some x) y e = cc

pub unbroken : (s : State) (all : List Act) (step : ℕ) (xs : List Act) → judge_each s all step xs ≡ None → (a : Act)
    (rule : Rule) → In a xs → In rule rules_of_bots → fault s all a rule ≡ None
unbroken s all step [] e a rule i j = absurd i
unbroken s all step (x ∷ xs) e a rule (inl f) j =
    let judged = λ (r : Rule). broken_by step r x.bot.bid (fault s all x r) in
    let judge_bot_is : judge_bot s all step x ≡ None = (none_or (judge_bot s all step x) (judge_each s all step xs) e).0 in
    subst (λ (y : Act). fault s all y rule ≡ None) (sym f)
    (nothing (λ (c : Coord). record { step = step; bid = x.bot.bid; rule = rule; at = c }) (fault s all x rule) (no_first (map judged rules_of_bots) (judged rule) judge_bot_is (in_map judged rule rules_of_bots j)))
unbroken s all step (x ∷ xs) e a rule (inr i) j = unbroken s all step xs (none_or (judge_bot s all step x) (judge_each s all step xs) e).1 a rule i j

-- ---- the number of members of a group

one_at_most : (p : Act → Bool) (xs : List Act) → Rising (map (λ (a : Act). a.bot) xs)
    → ((x y : Act) → In x xs → In y xs → p x ≡ true → p y ≡ true → x.bot.bid ≡ y.bot.bid) → length (filter p xs) ≤ 1
one_at_most p [] up h = omega arith
one_at_most p (x ∷ xs) up h = by (p x) refl (one_at_most p xs up.1 (λ y z i j. h y z (inr i) (inr j)))
  where
    none : p x ≡ true → filter p xs ≡ []
    none e = no_filter p xs (false_by (list_any p xs) (λ (f : list_any p xs ≡ true).
        let witness = any_in p xs f in
        let same : x.bot.bid ≡ witness.0.bot.bid = h x witness.0 (inl refl) (inr witness.1) e witness.2 in
        let below_bid : x.bot.bid < witness.0.bot.bid = up.0 witness.0.bot (in_map (λ (a : Act). a.bot) witness.0 xs witness.1) in
        absurd (omega arith)))

    by : (b : Bool) → p x ≡ b → length (filter p xs) ≤ 1 → length (cond b (x ∷ filter p xs) (filter p xs)) ≤ 1
    by true e le = let length_is : length (filter p xs) ≡ 0 = ap length (none e) in omega (arith, length_is)
    by false e le = le

both_counts : {X : Type 0} (p q : X → Bool) (xs : List X)
    → length (filter (λ x. p x || q x) xs) ≤ length (filter p xs) + length (filter q xs)
both_counts p q [] = omega arith
both_counts {X} p q (x ∷ xs) = by (p x) (q x) (both_counts p q xs)
  where
    by : (b c : Bool) → length (filter (λ y. p y || q y) xs) ≤ length (filter p xs) + length (filter q xs)
        → length (cond (b || c) (x ∷ filter (λ y. p y || q y) xs) (filter (λ y. p y || q y) xs))
        ≤ length (cond b (x ∷ filter p xs) (filter p xs)) + length (cond c (x ∷ filter q xs) (filter q xs))
    by true true h = omega arith
    by true false h = omega arith
    by false true h = omega arith
    by false false h = h

-- the position of the partner of a bot in a fusion
abbrev mate_place : Point → Command → Point
mate_place p (FusionP d) = plus p d
mate_place p (FusionS d) = plus p d
mate_place p _ = p

ahead : (p : Point) (c : Command) (q : Point) (e : Command) → fuse p c q e ≡ true → q ≡ mate_place p c
ahead p (FusionP d) q (FusionS e) h = sym (point_is (plus p d) q (first_of_two (same_point (plus p d) q) (same_point (plus q e) p) h))
ahead p (FusionP d) q e h = cc
ahead p c q e h = cc

behind : (p : Point) (c : Command) (q : Point) (e : Command) → fuse p c q e ≡ true → p ≡ mate_place q e
behind p (FusionP d) q (FusionS e) h = sym (point_is (plus q e) p (second_of_two (same_point (plus p d) q) (same_point (plus q e) p) h))
behind p (FusionP d) q e h = cc
behind p c q e h = cc

partner_at : (a b : Act) → are_partners a b ≡ true → position b ≡ mate_place (position a) a.command
partner_at a b h = by (one_of_two (is_pair a b) (is_pair b a) h)
  where
    by : (is_pair a b ≡ true) ⊎ (is_pair b a ≡ true) → position b ≡ mate_place (position a) a.command
    by (inl e) = ahead (position a) a.command (position b) b.command e
    by (inr e) = behind (position b) b.command (position a) a.command e

differs_most : (a b : ℤ) → differs a b ≤ 1
differs_most a b = by _
  where
    by : (t : Bool) → cond {A = ℕ} t 0 1 ≤ 1
    by true = omega arith
    by false = omega arith

corners_most : (n : ℕ) → n ≤ 3 → 2 ^ n ≤ 8
corners_most zero h = omega arith
corners_most (suc zero) h = omega arith
corners_most (suc (suc zero)) h = omega arith
corners_most (suc (suc (suc zero))) h = omega arith
corners_most (suc (suc (suc (suc n)))) h = absurd (omega arith)

dimension_most : (s : Span) → dimension s ≤ 3
dimension_most s =
    let differs_little_x = differs_most s.from.x s.to.x in
    let differs_little_y = differs_most s.from.y s.to.y in
    let differs_little_z = differs_most s.from.z s.to.z in
    omega (arith, differs_little_x, differs_little_y, differs_little_z)

-- a group that fits its region
shaped : (n d : ℕ) (t : Bool) → ((not (n == d) || t) || false) ≡ false → n ≡ d
shaped n d t h = equal_by_test n d (by (n == d) h)
  where
    by : (b : Bool) → ((not b || t) || false) ≡ false → b ≡ true
    by true e = refl
    by false e = cc

fits : (n : ℕ) (s : Span) (t : Bool) → ((not (n == 2 ^ dimension s) || t) || false) ≡ false → n ≤ 8
fits n s t h =
    let n_is : n ≡ 2 ^ dimension s = shaped n (2 ^ dimension s) t h in
    let dimension_to_8 : 2 ^ dimension s ≤ 8 = corners_most (dimension s) (dimension_most s) in
    omega (arith, n_is, dimension_to_8)

module _ (bots : List Bot) (commands : List Command) (lengths : length commands ≡ length bots) (rising : AllPairs (λ a b. a.bid < b.bid) bots) (places : AllPairs (λ a b. a.pos ≢ b.pos) bots) where
  up : Rising (map (λ (x : Act). x.bot) (acts bots commands))
  up = subst (λ (bs : List Bot). Rising bs) (sym (all_bots bots commands lengths)) (rising_is bots rising)

  same_bot : (a b : Act) → In a (acts bots commands) → In b (acts bots commands) → a.bot.pos ≡ b.bot.pos
      → a.bot.bid ≡ b.bot.bid
  same_bot a b i j e = by (pairs_in (λ (x y : Bot). x.pos ≢ y.pos) bots a.bot b.bot places (bot_in bots commands a i) (bot_in bots commands b j))
    where
      by : (a.bot ≡ b.bot) ⊎ ((a.bot.pos ≢ b.bot.pos) ⊎ (b.bot.pos ≢ a.bot.pos)) → a.bot.bid ≡ b.bot.bid
      by (inl f) = ap (λ (x : Bot). x.bid) f
      by (inr (inl f)) = absurd (f e)
      by (inr (inr f)) = absurd (f (sym e))

  -- without a region a bot has one partner at most
  pair_at_most : (a : Act) → ((b : Act) → share_region (position a) a.command (position b) b.command ≡ false)
      → length (members (acts bots commands) a) ≤ 8
  pair_at_most a h =
      let all : List Act = acts bots commands in
      let same : Act → Bool = λ b. a.bot.bid == b.bot.bid in
      let bids : length (filter same all) ≤ 1 = one_at_most same all up (λ x y i j e f. sym (equal_by_test a.bot.bid x.bot.bid e) ∙ equal_by_test a.bot.bid y.bot.bid f) in
      let mates : length (filter (are_partners a) all) ≤ 1 = one_at_most (are_partners a) all up (λ x y i j e f. same_bot x y i j (ap coordinate (partner_at a x e ∙ sym (partner_at a y f)))) in
      let both = both_counts same (are_partners a) all in
      let is : (b : Act) → are_together a b ≡ (same b || are_partners a b) = λ b. ap (λ t. (same b || are_partners a b) || t) (h b) ∙ or_false (same b || are_partners a b) in
      let same_length : length (members all a) ≡ length (filter (λ b. same b || are_partners a b) all) = ap (λ t. length (filter t all)) (λ i b. is b i) in
      omega (arith, same_length, both, bids, mates)

  few_by : (s : State) (b : Bot) (k : Command) → fault s (acts bots commands) (act b k) GroupShape ≡ None
      → length (members (acts bots commands) (act b k)) ≤ 8
  few_by s b (GFill d f) e = fits _ (between (plus (position (act b (GFill d f))) d) (plus (plus (position (act b (GFill d f))) d) f)) _ (here_false (act b (GFill d f)) _ e)
  few_by s b (GVoid d f) e = fits _ (between (plus (position (act b (GVoid d f))) d) (plus (plus (position (act b (GVoid d f))) d) f)) _ (here_false (act b (GVoid d f)) _ e)
  few_by s b k e = pair_at_most (act b k) (λ x. refl)

  -- the content of the rules of single bots, if none is broken
  pub judged : (s : State) (step : ℕ) → judge_each s (acts bots commands) step (acts bots commands) ≡ None
      → AreJudged s.matrix.resolution (acts bots commands)
  judged s step e =
      let all : List Act = acts bots commands in
      record {
        stays = in_all (λ (a : Act). IsTrue (stays_in_space s.matrix.resolution a)) all (λ a i. not_is_false (stays_in_space s.matrix.resolution a) (here_false a (not (stays_in_space s.matrix.resolution a)) (unbroken s all step all e a OutOfSpace i out_of_space_is_judged)));
        few = in_all (λ (a : Act). length (members all a) ≤ 8) all (λ a i. few_by s a.bot a.command (unbroken s all step all e a GroupShape i group_shape_is_judged));
      }

-- The group of a bot among those before it and those after it.
use Rattle.std.proofs.Common.{◌≡◌, ℕ, zero, suc, ◌+◌, ◌<◌, ◌≤◌, refl, ap, sym, ◌∙◌, arith, inl, inr, ◌⊎◌, Bool, true, false, ◌||◌, not, cond, List, [], ◌∷◌, ◌++◌, filter, length, map, take, drop, get_or}
use Rattle.std.specs.Prelude.{IsTrue, nat_le}
use Rattle.std.specs.List.{list_any}
use Rattle.std.proofs.lemmas.List.Elements.{filter-append}
use Rattle.vox_geom.specs.Point.{Point}
use Rattle.vox_geom.specs.Region.{is_within, just}
use Rattle.vox_geom.proofs.Truths.{false_by, one_of_two, or_by_first, or_by_second, same_truth}
use Rattle.vox_geom.proofs.Tests.{at_most_by_test, test_at_most, test_unequal}
use Rattle.nano_spec.specs.declared.commands.Command.{Command}
use Rattle.nano_spec.specs.declared.system.Bot.{Bot}
use Rattle.nano_spec.specs.Act.{Act, acts, position}
use Rattle.nano_spec.specs.Group.{are_together, is_leader, members}
use Rattle.nano_spec.specs.Volatile.{is_volatile, is_volatile_of}
use Rattle.step_order.proofs.Facts.{Rising}
use Rattle.step_order.proofs.Lists.{In, not_both, any_in, in_any, all_in, in_all, filter_in, in_filter, in_map}
use Rattle.step_order.proofs.Together.{Together, itself, partners, shares, together_is, with_itself}
use Rattle.step_groups.specs.Judging.{act, is_alone}
use Rattle.step_groups.proofs.Alone.{together_by_bid}
use Rattle.step_groups.proofs.Spots.{of_partner, of_sharer, spot_of_partner, spot_of_sharer}

-- ---- the bots before an index and after it

-- the result of a read past the end
abbrev pub blank : Bot
blank = record { bid = 0; pos = record { x = 0; y = 0; z = 0 }; seeds = 0 }

pub split_at : (bots : List Bot) (commands : List Command) (i : ℕ) (b : Bot) (k : Command) → i < length bots
    → length commands ≡ length bots → b ≡ get_or bots i b → k ≡ get_or commands i k → acts bots commands
    ≡ acts (take i bots) (take i commands) ++ act b k ∷ acts (drop (i + 1) bots) (drop (i + 1) commands)
split_at [] commands i b k h e f g = absurd (omega arith)
split_at (x ∷ bots) [] i b k h e f g = absurd (omega arith)
split_at (x ∷ bots) (y ∷ commands) zero b k h e f g = λ n. act (sym f n) (sym g n) ∷ acts bots commands
split_at (x ∷ bots) (y ∷ commands) (suc i) b k h e f g =
    let successor_is : suc (i + 1) ≡ suc i + 1 = omega arith in
    ap (λ (more : List Act). act x y ∷ more) (split_at bots commands i b k (omega arith) (omega arith) f g ∙ ap (λ j. acts (take i bots) (take i commands) ++ act b k ∷ acts (drop j (x ∷ bots)) (drop j (y ∷ commands))) successor_is)

pub take_more : (bots : List Bot) (commands : List Command) (i : ℕ) (b : Bot) (k : Command) → i < length bots
    → length commands ≡ length bots → b ≡ get_or bots i b → k ≡ get_or commands i k
    → acts (take (i + 1) bots) (take (i + 1) commands) ≡ acts (take i bots) (take i commands) ++ act b k ∷ []
take_more [] commands i b k h e f g = absurd (omega arith)
take_more (x ∷ bots) [] i b k h e f g = absurd (omega arith)
take_more (x ∷ bots) (y ∷ commands) zero b k h e f g = λ n. act (sym f n) (sym g n) ∷ []
take_more (x ∷ bots) (y ∷ commands) (suc i) b k h e f g =
    let sum_is : suc i + 1 ≡ suc (i + 1) = omega arith in
    ap (λ j. acts (take j (x ∷ bots)) (take j (y ∷ commands))) sum_is
    ∙ ap (λ (more : List Act). act x y ∷ more) (take_more bots commands i b k (omega arith) (omega arith) f g)

pub in_middle : {X : Type 0} (xs ys : List X) (a : X) → In a (xs ++ a ∷ ys)
in_middle [] ys a = inl refl
in_middle (x ∷ xs) ys a = inr (in_middle xs ys a)

pub in_back : {X : Type 0} (xs ys : List X) (a x : X) → In x ys → In x (xs ++ a ∷ ys)
in_back [] ys a x i = inr i
in_back (y ∷ xs) ys a x i = inr (in_back xs ys a x i)

pub earlier_bid : (xs ys : List Act) (a x : Act) → Rising (map (λ (b : Act). b.bot) (xs ++ a ∷ ys)) → In x xs
    → x.bot.bid < a.bot.bid
earlier_bid [] ys a x h i = absurd i
earlier_bid (y ∷ xs) ys a x h (inl e) =
    let below_bid : y.bot.bid < a.bot.bid = h.0 a.bot (in_map (λ (b : Act). b.bot) a (xs ++ a ∷ ys) (in_middle xs ys a)) in
    let same_bid : x.bot.bid ≡ y.bot.bid = ap (λ (b : Act). b.bot.bid) e in
    omega arith
earlier_bid (y ∷ xs) ys a x h (inr i) = earlier_bid xs ys a x h.1 i

pub later_bid : (xs ys : List Act) (a y : Act) → Rising (map (λ (b : Act). b.bot) (xs ++ a ∷ ys)) → In y ys
    → a.bot.bid < y.bot.bid
later_bid [] ys a y h i = h.0 y.bot (in_map (λ (b : Act). b.bot) y ys i)
later_bid (x ∷ xs) ys a y h i = later_bid xs ys a y h.1 i

parts_of : {X : Type 0} (xs ys : List X) (a x : X) → In x (xs ++ a ∷ ys) → In x xs ⊎ ((x ≡ a) ⊎ In x ys)
parts_of [] ys a x i = inr i
parts_of (y ∷ xs) ys a x (inl e) = inl (inl e)
parts_of {X} (y ∷ xs) ys a x (inr i) = on (parts_of xs ys a x i)
  where
    on : In x xs ⊎ ((x ≡ a) ⊎ In x ys) → In x (y ∷ xs) ⊎ ((x ≡ a) ⊎ In x ys)
    on (inl j) = inl (inr j)
    on (inr j) = inr j

none_first : {X : Type 0} (p : X → Bool) (x : X) (xs : List X) (b : Bool) → p x ≡ b → (b || list_any p xs) ≡ false
    → (list_any p xs ≡ false → filter p xs ≡ []) → cond b (x ∷ filter p xs) (filter p xs) ≡ []
none_first p x xs true e h ih = cc
none_first p x xs false e h ih = ih h

pub no_filter : {X : Type 0} (p : X → Bool) (xs : List X) → list_any p xs ≡ false → filter p xs ≡ []
no_filter p [] e = refl
no_filter p (x ∷ xs) e = none_first p x xs (p x) refl e (no_filter p xs)

module _ (xs ys : List Act) (a : Act) (up : Rising (map (λ (b : Act). b.bot) (xs ++ a ∷ ys))) where
  -- the bot leads its group if no bot before it is of the group
  pub leads : is_leader (xs ++ a ∷ ys) a ≡ not (list_any (are_together a) xs)
  leads = by (list_any (are_together a) xs) refl
    where
      all : List Act
      all = xs ++ a ∷ ys

      by : (b : Bool) → list_any (are_together a) xs ≡ b → is_leader all a ≡ not b
      by true e = false_by (is_leader all a) (λ (h : is_leader all a ≡ true).
          let witness = any_in (are_together a) xs e in
          let low = earlier_bid xs ys a witness.0 up witness.1 in
          let high = at_most_by_test a.bot.bid witness.0.bot.bid (all_in (λ b. nat_le a.bot.bid b.bot.bid) witness.0 (members all a) h (in_filter (are_together a) witness.0 all (before witness.0 witness.1) witness.2)) in
          absurd (omega arith))
        where
          before : (x : Act) → In x xs → In x all
          before x i = in_front xs ys a x i
            where
              in_front : (xs ys : List Act) (a x : Act) → In x xs → In x (xs ++ a ∷ ys)
              in_front [] ys a x i = absurd i
              in_front (y ∷ xs) ys a x (inl e) = inl e
              in_front (y ∷ xs) ys a x (inr i) = inr (in_front xs ys a x i)
      by false e = in_all (λ b. nat_le a.bot.bid b.bot.bid) (members all a) (λ b i.
          let passed = filter_in (are_together a) b all i in
          test_at_most a.bot.bid b.bot.bid (at_most b passed.1 (parts_of xs ys a b passed.0)))
        where
          at_most : (b : Act) → are_together a b ≡ true → In b xs ⊎ ((b ≡ a) ⊎ In b ys) → a.bot.bid ≤ b.bot.bid
          at_most b t (inl i) = absurd (not_both (in_any (are_together a) b xs i t) e)
          at_most b t (inr (inl f)) = let same_bid : b.bot.bid ≡ a.bot.bid = ap (λ (x : Act). x.bot.bid) f in omega arith
          at_most b t (inr (inr i)) = let bid_later = later_bid xs ys a b up i in omega arith

  -- the members of a leader's group are the leader and those after it
  pub group : list_any (are_together a) xs ≡ false → members (xs ++ a ∷ ys) a ≡ a ∷ filter (are_together a) ys
  group e =
      filter-append (are_together a) xs (a ∷ ys)
      ∙ ap (λ ms. ms ++ filter (are_together a) (a ∷ ys)) (no_filter (are_together a) xs e)
      ∙ rw (with_itself a) refl

  -- a coordinate volatile for a leader's group is so for the leader, or is the position of another member
  pub volatile : list_any (are_together a) xs ≡ false → (p : Point) → is_volatile (xs ++ a ∷ ys) a p
      ≡ (is_volatile_of p a || list_any (λ b. is_within (just (position b)) p) (filter (are_together a) ys))
  volatile e p = ap (λ ms. list_any (is_volatile_of p) ms) (group e) ∙ same_truth (is_volatile_of p a || list_any (is_volatile_of p) zs) (is_volatile_of p a || list_any spots zs) onwards backwards
    where
      zs : List Act
      zs = filter (are_together a) ys

      spots : Act → Bool
      spots = λ b. is_within (just (position b)) p

      onwards : (is_volatile_of p a || list_any (is_volatile_of p) zs) ≡ true
          → (is_volatile_of p a || list_any spots zs) ≡ true
      onwards h = by (one_of_two (is_volatile_of p a) (list_any (is_volatile_of p) zs) h)
        where
          of_member : (b : Act) → In b zs → is_volatile_of p b ≡ true → Together a b
              → (is_volatile_of p a || list_any spots zs) ≡ true
          of_member b i v (itself f) = absurd (let bid_later = later_bid xs ys a b up (filter_in (are_together a) b ys i).0 in omega arith)
          of_member b i v (partners t) = or_by_second (is_volatile_of p a) (list_any spots zs) (in_any spots b zs i (of_partner a b p t v))
          of_member b i v (shares t) = on (one_of_two (is_volatile_of p a) (spots b) (of_sharer (position a) a.command (position b) b.command p t v))
            where
              on : (is_volatile_of p a ≡ true) ⊎ (spots b ≡ true) → (is_volatile_of p a || list_any spots zs) ≡ true
              on (inl w) = or_by_first (is_volatile_of p a) (list_any spots zs) w
              on (inr w) = or_by_second (is_volatile_of p a) (list_any spots zs) (in_any spots b zs i w)

          by : (is_volatile_of p a ≡ true) ⊎ (list_any (is_volatile_of p) zs ≡ true)
              → (is_volatile_of p a || list_any spots zs) ≡ true
          by (inl w) = or_by_first (is_volatile_of p a) (list_any spots zs) w
          by (inr w) = let witness = any_in (is_volatile_of p) zs w in of_member witness.0 witness.1 witness.2 (together_is a witness.0 (filter_in (are_together a) witness.0 ys witness.1).1)

      backwards : (is_volatile_of p a || list_any spots zs) ≡ true
          → (is_volatile_of p a || list_any (is_volatile_of p) zs) ≡ true
      backwards h = by (one_of_two (is_volatile_of p a) (list_any spots zs) h)
        where
          at : (b : Act) → In b zs → spots b ≡ true → Together a b → is_volatile_of p b ≡ true
          at b i v (itself f) = absurd (let bid_later = later_bid xs ys a b up (filter_in (are_together a) b ys i).0 in omega arith)
          at b i v (partners t) = spot_of_partner a b p t v
          at b i v (shares t) = spot_of_sharer (position a) a.command (position b) b.command p t v

          by : (is_volatile_of p a ≡ true) ⊎ (list_any spots zs ≡ true)
              → (is_volatile_of p a || list_any (is_volatile_of p) zs) ≡ true
          by (inl w) = or_by_first (is_volatile_of p a) (list_any (is_volatile_of p) zs) w
          by (inr w) = let witness = any_in spots zs w in or_by_second (is_volatile_of p a) (list_any (is_volatile_of p) zs) (in_any (is_volatile_of p) witness.0 zs witness.1 (at witness.0 witness.1 witness.2 (together_is a witness.0 (filter_in (are_together a) witness.0 ys witness.1).1)))

  -- a bot whose command needs no other is alone
  pub none_before : IsTrue (is_alone a.command) → list_any (are_together a) xs ≡ false
  none_before h = false_by (list_any (are_together a) xs) (λ (e : list_any (are_together a) xs ≡ true).
      let witness = any_in (are_together a) xs e in
      let bid_earlier = earlier_bid xs ys a witness.0 up witness.1 in
      not_both (sym (together_by_bid a witness.0 h) ∙ witness.2) (test_unequal a.bot.bid witness.0.bot.bid (λ f. omega arith)))

  pub none_after : IsTrue (is_alone a.command) → filter (are_together a) ys ≡ []
  none_after h = no_filter (are_together a) ys (false_by (list_any (are_together a) ys) (λ (e : list_any (are_together a) ys ≡ true).
      let witness = any_in (are_together a) ys e in
      let bid_later = later_bid xs ys a witness.0 up witness.1 in
      not_both (sym (together_by_bid a witness.0 h) ∙ witness.2) (test_unequal a.bot.bid witness.0.bot.bid (λ f. omega arith))))

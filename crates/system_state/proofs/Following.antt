-- The turn of one more group, after those of some others.
use Rattle.std.proofs.Common.{◌≡◌, ℕ, ◌<◌, ◌==◌, refl, sym, ◌∙◌, ap, subst, inl, inr, List, [], ◌∷◌, ◌++◌, map, length, get_or, eq-eqb}
use Rattle.std.specs.Prelude.{Some, None, IsPermutation, All, AllPairs, filter, flat_map}
use Rattle.std.specs.List.{Contains}
use Rattle.std.proofs.lemmas.List.{map-append}
use Rattle.std.proofs.lemmas.Bool.Decides.{Decides-eqb}
use Rattle.vox_geom.specs.Space.{IsInSpace}
use Rattle.nano_spec.specs.declared.commands.Command.{Command}
use Rattle.nano_spec.specs.declared.system.Bot.{Bot}
use Rattle.nano_spec.specs.Act.{Act, acts}
use Rattle.nano_spec.specs.Bots.{successors}
use Rattle.nano_spec.specs.Cutting.{AreCommands}
use Rattle.nano_spec.specs.Group.{is_leader, leaders, members}
use Rattle.nano_spec.specs.Rules.{broken}
use Rattle.nano_spec.specs.Serial.{acts_of, leader_bids}
use Rattle.nano_spec.specs.State.{IsReady, State}
use Rattle.bot_crew.specs.Crew.{IsCrew, bot_of}
use Rattle.step_order.specs.SomeGroups.{after_some}
use Rattle.step_order.proofs.Facts.{IsGood, good_is, rising_is}
use Rattle.step_order.proofs.Groups.{differ_acts, filter_only}
use Rattle.step_order.proofs.Order.{listed}
use Rattle.step_order.proofs.Lists.{In, filter_in, in_left, in_right, in_place, place_in}
use Rattle.step_order.proofs.After.{commands_are}
use Rattle.system_state.specs.declared.turns.Turn.{Turn}
use Rattle.system_state.specs.Effects.{MayTake, bots_after_turn}
use Rattle.system_state.specs.Turns.{AreTurns, FollowsOn, IsTurn, bots_after_some, leader_of}
use Rattle.system_state.proofs.Advancing.{OfTurns, Replaces, TurnOf, command_at, contained}
use Rattle.system_state.proofs.Arranged.{in_order_of, leaders_are, one_of_them, same_act}
use Rattle.system_state.proofs.TurnTaken.{found_there, itself_in, may_take, turn_is_group}
use Rattle.step_groups.specs.Groups.{bid_of}

-- a list whose keys are these has parts with these keys
split_keys : (key : Act → ℕ) (ys : List Act) (xs : List ℕ) (k : ℕ) (zs : List ℕ) → map key ys ≡ xs ++ k ∷ zs
    → (before : List Act) × (l : Act) × (rest : List Act) × (ys ≡ before ++ l ∷ rest) × (map key before ≡ xs)
    × (key l ≡ k)
split_keys key [] [] k zs e = cc
split_keys key [] (x ∷ xs) k zs e = cc
split_keys key (y ∷ ys) [] k zs e = let key_is : key y ≡ k = cc in ([], y, ys, refl, refl, key_is)
split_keys key (y ∷ ys) (x ∷ xs) k zs e =
    let key_is : key y ≡ x = cc in
    let list_is : map key ys ≡ xs ++ k ∷ zs = cc in
    let split_keys_here = split_keys key ys xs k zs list_is in
    (y ∷ split_keys_here.0, split_keys_here.1, split_keys_here.2, ap (λ (more : List Act). y ∷ more) split_keys_here.3, (λ i. key_is i ∷ split_keys_here.4 i), split_keys_here.5)

of_map : (f : ℕ → List Act) (xs : List Act) → ((x : Act) → In x xs → f (bid_of x) ≡ x ∷ [])
    → flat_map f (map bid_of xs) ≡ xs
of_map f [] h = refl
of_map f (x ∷ xs) h = λ i. h x (inl refl) i ++ of_map f xs (λ y j. h y (inr j)) i

module _ (s : State) (commands : List Command) (step : ℕ) (ready : IsReady s) (keep : broken s commands step ≡ None) (known : AreCommands commands) where
  good : IsGood s (acts s.bots commands)
  good = good_is s commands step ready keep

  leads_all : (a : Act) → In a (leaders (acts s.bots commands)) → In a (acts s.bots commands)
  leads_all a i = (filter_in (is_leader (acts s.bots commands)) a (acts s.bots commands) i).0

  -- the acts of some leaders, by their bids
  acts_are : (xs : List Act) → ((a : Act) → In a xs → In a (leaders (acts s.bots commands)))
      → acts_of (acts s.bots commands) (map bid_of xs) ≡ xs
  acts_are xs lead = of_map (λ k. filter (λ (a : Act). a.bot.bid == k) (acts s.bots commands)) xs (λ a i.
      let leads_all_here = leads_all a (lead a i) in
      filter_only (λ (x : Act). x.bot.bid) (λ (x : Act). x.bot.bid == a.bot.bid) a (acts s.bots commands) (differ_acts (acts s.bots commands) good.rising) leads_all_here (eq-eqb a.bot.bid a.bot.bid refl)
      (λ b k e. good.apart.bids b a k leads_all_here ((Decides-eqb b.bot.bid a.bot.bid).0 e)))

  module _ (turns : List Turn) (are : AreTurns (acts s.bots commands) (leaders (acts s.bots commands)) turns) (leader : ℕ) where
    -- the leader has a turn
    pub has_one : (before rest : List ℕ) (bots : List Bot) → FollowsOn s commands before leader rest bots
        → Contains (map leader_of turns) leader
    has_one before rest bots f =
        let listed_here = listed (leader_bids (acts s.bots commands)) (before ++ leader ∷ rest) f.leaders leader (in_right leader before (leader ∷ rest) (inl refl)) in
        let place = in_place leader leader (map leader_of turns) (subst (λ (ks : List ℕ). In leader ks) (sym (leaders_are (acts s.bots commands) (leaders (acts s.bots commands)) turns are)) listed_here) in
        (place.0, place.1, place.2)

    module _ (t : Turn) (first : t.leader ≡ leader) (among : Contains turns t) (turn_of : OfTurns TurnOf) (before rest : List ℕ) (bots : List Bot) (f : FollowsOn s commands before leader rest bots) (crew : IsCrew bots) (space : All (λ b. IsInSpace s.matrix.resolution b.pos) bots) where
      ordered : (ys : List Act) × IsPermutation (leaders (acts s.bots commands)) ys
          × (map bid_of ys ≡ before ++ leader ∷ rest)
      ordered = in_order_of bid_of (leaders (acts s.bots commands)) (before ++ leader ∷ rest) f.leaders

      parts : (done : List Act) × (l : Act) × (left : List Act) × (ordered.0 ≡ done ++ l ∷ left)
          × (map bid_of done ≡ before) × (bid_of l ≡ leader)
      parts = split_keys bid_of ordered.0 before leader rest ordered.2

      perm : IsPermutation (leaders (acts s.bots commands)) (parts.0 ++ parts.1 ∷ parts.2)
      perm = subst (λ (xs : List Act). IsPermutation (leaders (acts s.bots commands)) xs) parts.3 ordered.1

      lead : (a : Act) → In a (parts.0 ++ parts.1 ∷ parts.2) → In a (leaders (acts s.bots commands))
      lead a i = listed (leaders (acts s.bots commands)) (parts.0 ++ parts.1 ∷ parts.2) perm a i

      leads : In parts.1 (leaders (acts s.bots commands))
      leads = lead parts.1 (in_right parts.1 parts.0 (parts.1 ∷ parts.2) (inl refl))

      before_are : acts_of (acts s.bots commands) before ≡ parts.0
      before_are = ap (acts_of (acts s.bots commands)) (sym parts.4) ∙ acts_are parts.0 (λ a i. lead a (in_left a parts.0 (parts.1 ∷ parts.2) i))

      one_more : (a : Act) → In a (parts.0 ++ parts.1 ∷ []) → In a (leaders (acts s.bots commands))
      one_more a i = lead a (widen parts.0 i)
        where
          widen : (xs : List Act) → In a (xs ++ parts.1 ∷ []) → In a (xs ++ parts.1 ∷ parts.2)
          widen [] (inl e) = inl e
          widen [] (inr j) = absurd j
          widen (x ∷ xs) (inl e) = inl e
          widen (x ∷ xs) (inr j) = inr (widen xs j)

      more_are : acts_of (acts s.bots commands) (before ++ leader ∷ []) ≡ parts.0 ++ parts.1 ∷ []
      more_are = ap (acts_of (acts s.bots commands)) (sym (map-append bid_of parts.0 (parts.1 ∷ []) ∙ (λ i. parts.4 i ++ parts.5 i ∷ []))) ∙ acts_are (parts.0 ++ parts.1 ∷ []) one_more

      taken : bots ≡ (after_some s (acts s.bots commands) parts.0).bots
      taken = f.bots_are ∙ ap (λ (xs : List Act). (after_some s (acts s.bots commands) xs).bots) before_are

      turn_is : IsTurn (acts s.bots commands) parts.1 t
      turn_is =
          let one_of_first = one_of_them (acts s.bots commands) (leaders (acts s.bots commands)) turns are t (subst (λ (x : Turn). In x turns) among.2 (place_in t turns among.0 among.1)) in
          let same : one_of_first.0 ≡ parts.1 = same_act (acts s.bots commands) (differ_acts (acts s.bots commands) good.rising) one_of_first.0 parts.1 (leads_all one_of_first.0 one_of_first.1) (leads_all parts.1 leads) (sym one_of_first.2.leader ∙ (first ∙ sym parts.5)) in
          subst (λ (x : Act). IsTurn (acts s.bots commands) x t) same one_of_first.2

      law : TurnOf s (acts s.bots commands) parts.0 parts.1
      law = turn_of s commands step ready keep parts.0 parts.2 parts.1 perm

      within_there : (b : Bot) → In b (after_some s (acts s.bots commands) parts.0).bots
          → IsInSpace s.matrix.resolution b.pos
      within_there b j = let place = in_place b b bots (subst (λ (bs : List Bot). In b bs) (sym taken) j) in subst (λ (c : Bot). IsInSpace s.matrix.resolution c.pos) place.2 (space place.0 b place.1)

      apart_there : (x y : Bot) → In x (successors (members (acts s.bots commands) parts.1) parts.1 parts.1.command)
          → In y (after_some s (acts s.bots commands) parts.0).bots → x.pos ≡ y.pos → y ≡ parts.1.bot
      apart_there x y j k e = law.places x y (contained x _ j) (contained y _ k) e

      pub place_there : t.place < length commands
      place_there = (command_at s.bots commands t.place parts.1 turn_is.place).0

      command_is : (command : Command) → command ≡ get_or commands t.place command → command ≡ parts.1.command
      command_is command e = e ∙ (command_at s.bots commands t.place parts.1 turn_is.place).1 command

      found : bot_of bots leader ≡ Some parts.1.bot
      found =
          (λ j. bot_of (taken j) (sym parts.5 j))
          ∙ found_there s (acts s.bots commands) good parts.1 leads (after_some s (acts s.bots commands) parts.0) law.bots law.rules apart_there
          (rising_is (after_some s (acts s.bots commands) parts.0).bots (subst (λ (bs : List Bot). AllPairs (λ a b. a.bid < b.bid) bs) taken crew.rising)) within_there t.partner turn_is.partner parts.1
          (itself_in s (acts s.bots commands) good parts.1 leads (after_some s (acts s.bots commands) parts.0) law.bots law.rules apart_there
          (rising_is (after_some s (acts s.bots commands) parts.0).bots (subst (λ (bs : List Bot). AllPairs (λ a b. a.bid < b.bid) bs) taken crew.rising)) within_there t.partner turn_is.partner)

      pub never_none : bot_of bots leader ≡ None → ⊥
      never_none e = clash (sym found ∙ e)
        where
          clash : Some parts.1.bot ≡ None → ⊥
          clash h = cc

      pub may : (bot : Bot) (command : Command) → bot_of bots leader ≡ Some bot
          → command ≡ get_or commands t.place command → MayTake s.matrix.resolution bots bot t.partner command
      may bot command o e =
          let same_bot : parts.1.bot ≡ bot = same (sym found ∙ o) in
          subst (λ (x : Bot). MayTake s.matrix.resolution bots x t.partner command) same_bot
          (subst (λ (c : Command). MayTake s.matrix.resolution bots parts.1.bot t.partner c) (sym (command_is command e))
          (subst (λ (bs : List Bot). MayTake s.matrix.resolution bs parts.1.bot t.partner parts.1.command) (sym taken)
          (may_take s (acts s.bots commands) good parts.1 leads (after_some s (acts s.bots commands) parts.0) law.bots law.rules apart_there
          (rising_is (after_some s (acts s.bots commands) parts.0).bots (subst (λ (bs : List Bot). AllPairs (λ a b. a.bid < b.bid) bs) taken crew.rising)) within_there t.partner turn_is.partner
          (commands_are s.bots commands known parts.1 (leads_all parts.1 leads)))))
        where
          same : Some parts.1.bot ≡ Some bot → parts.1.bot ≡ bot
          same h = cc

      pub moved_on : Replaces → (bot : Bot) (command : Command) (new : List Bot) → bot_of bots leader ≡ Some bot
          → command ≡ get_or commands t.place command → new ≡ bots_after_turn bots bot t.partner command
          → new ≡ bots_after_some s commands (before ++ leader ∷ [])
      moved_on replaces bot command new o e is =
          let same_bot : bot ≡ parts.1.bot = same (sym o ∙ found) in
          is
          ∙ ((λ j. bots_after_turn (taken j) (same_bot j) t.partner (command_is command e j))
          ∙ (ap (λ (u : State). u.bots) (turn_is_group s (acts s.bots commands) good parts.1 leads (after_some s (acts s.bots commands) parts.0) law.bots law.rules apart_there
          (rising_is (after_some s (acts s.bots commands) parts.0).bots (subst (λ (bs : List Bot). AllPairs (λ a b. a.bid < b.bid) bs) taken crew.rising)) within_there t.partner turn_is.partner replaces
          ∙ law.next)
          ∙ ap (λ (xs : List Act). (after_some s (acts s.bots commands) xs).bots) (sym more_are)))
        where
          same : Some bot ≡ Some parts.1.bot → bot ≡ parts.1.bot
          same h = cc

-- The turns of a step, one after another.
use Rattle.std.proofs.Common.{rules, ◌≡◌, ℕ, zero, suc, ◌+◌, ◌<◌, ◌≤◌, refl, sym, ◌∙◌, ap, subst, arith, inl, inr, ◌⊎◌, List, [], ◌∷◌, ◌++◌, Bool, true, false, cond, map, length, take, drop, get_or}
use Rattle.std.specs.Prelude.{Some, None, Option, IfSome, IsPermutation, IsTrue, filter, flat_map, slice_get, sum, count_by, ℤ}
use Rattle.std.specs.List.{Contains, list_any}
use Rattle.std.proofs.lemmas.Int.{ints}
use Rattle.std.proofs.lemmas.List.Sums.{sum_by-cons}
use Rattle.vox_geom.specs.declared.coordinate.Coord.{Coord}
use Rattle.vox_geom.specs.Point.{point}
use Rattle.vox_geom.specs.Region.{Span, is_within}
use Rattle.vox_geom.specs.Space.{IsInSpace}
use Rattle.nano_spec.specs.declared.commands.Command.{Command}
use Rattle.nano_spec.specs.declared.system.Bot.{Bot}
use Rattle.nano_spec.specs.Act.{Act, acts, filled, position, stays_in_space, voided}
use Rattle.nano_spec.specs.Bots.{successors}
use Rattle.nano_spec.specs.Cutting.{AreCommands}
use Rattle.nano_spec.specs.Group.{is_leader, leaders, members}
use Rattle.nano_spec.specs.Matrix.{Matrix, all_of}
use Rattle.nano_spec.specs.Rules.{broken}
use Rattle.nano_spec.specs.Serial.{after_group, group_in, keeps_rules}
use Rattle.nano_spec.specs.State.{IsReady, State}
use Rattle.nano_spec.specs.Volatile.{is_volatile_of}
use Rattle.nano_spec.specs.Work.{volatile_count}
use Rattle.bot_crew.specs.Crew.{bot_of, replaced}
use Rattle.energy_sum.specs.Costs.{is_met, met}
use Rattle.step_order.specs.SomeGroups.{after_some}
use Rattle.step_order.proofs.Effects.{fills_own, voids_own}
use Rattle.step_order.proofs.Facts.{IsGood, good_is, rising_is}
use Rattle.step_order.proofs.Order.{listed}
use Rattle.step_order.proofs.Lists.{In, any_in, filter_in, in_any, in_filter, in_place, in_right}
use Rattle.step_order.proofs.After.{commands_are}
use Rattle.system_state.specs.declared.turns.Turn.{Turn}
use Rattle.system_state.specs.Bounds.{IsWithin}
use Rattle.system_state.specs.Effects.{MayTake, after_turn}
use Rattle.system_state.specs.Painting.{met_count}
use Rattle.system_state.specs.Turns.{AreTurns, IsTurn}
use Rattle.system_state.proofs.TurnTaken.{found_there, itself_in, may_take, turn_is_group}

-- ---- the turn at an index

pub turn_at : (all leaders : List Act) (turns : List Turn) (i : ℕ) (d : Turn) → AreTurns all leaders turns
    → i < length turns → (l : Act) × (leaders ≡ take i leaders ++ l ∷ drop (i + 1) leaders)
    × IsTurn all l (get_or turns i d) × (take (i + 1) leaders ≡ take i leaders ++ l ∷ [])
turn_at all [] [] i d h lt = absurd (omega arith)
turn_at all [] (t ∷ turns) i d h lt = absurd h
turn_at all (a ∷ leaders) [] i d h lt = absurd h
turn_at all (a ∷ leaders) (t ∷ turns) zero d h lt = (a, refl, h.0, refl)
turn_at all (a ∷ leaders) (t ∷ turns) (suc i) d h lt =
    let turn = turn_at all leaders turns i d h.1 (omega arith) in
    let sum_is : suc i + 1 ≡ suc (i + 1) = omega arith in
    (turn.0, ap (λ (xs : List Act). a ∷ xs) turn.1 ∙ ap (λ n. a ∷ (take i leaders ++ turn.0 ∷ drop n (a ∷ leaders))) (sym sum_is), turn.2, ap (λ n. take n (a ∷ leaders)) sum_is ∙ ap (λ (xs : List Act). a ∷ xs) turn.3)

pub turns_many : (all leaders : List Act) (turns : List Turn) → AreTurns all leaders turns
    → length turns ≡ length leaders
turns_many all [] [] h = refl
turns_many all [] (t ∷ turns) h = absurd h
turns_many all (a ∷ leaders) [] h = absurd h
turns_many all (a ∷ leaders) (t ∷ turns) h = ap suc (turns_many all leaders turns h.1)

-- the command at the index of an act
pub command_at : (bots : List Bot) (commands : List Command) (k : ℕ) (a : Act)
    → slice_get (acts bots commands) k ≡ Some a
    → (k < length commands) × ((d : Command) → get_or commands k d ≡ a.command)
command_at [] commands k a e = cc
command_at (b ∷ bots) [] k a e = cc
command_at (b ∷ bots) (c ∷ commands) zero a e = (omega arith, λ d. ap (λ (x : Act). x.command) (same e))
  where
    same : Some (record { bot = b; command = c }) ≡ Some a → record { bot = b; command = c } ≡ a
    same k = cc
command_at (b ∷ bots) (c ∷ commands) (suc k) a e = let command_at_here = command_at bots commands k a e in (omega arith, command_at_here.1)

pub contained : {X : Type 0} (x : X) (xs : List X) → In x xs → Contains xs x
contained x xs i = let place = in_place x x xs i in (place.0, place.1, place.2)

-- ---- touches

pub sums_more : (f : Act → ℕ) (xs : List Act) (y : Act) → sum (map f (xs ++ y ∷ [])) ≡ sum (map f xs) + f y
sums_more f [] y = let first_of_sum : sum (f y ∷ []) ≡ f y + sum [] = sum_by-cons (λ n. n) (f y) [] in let sum_is : sum [] ≡ 0 = refl in omega arith
sums_more f (x ∷ xs) y =
    let first_of_sum : sum (map f ((x ∷ xs) ++ y ∷ [])) ≡ f x + sum (map f (xs ++ y ∷ [])) = sum_by-cons (λ n. n) (f x) (map f (xs ++ y ∷ [])) in
    let sum_is : sum (map f (x ∷ xs)) ≡ f x + sum (map f xs) = sum_by-cons (λ n. n) (f x) (map f xs) in
    let same_sum : sum (map f (xs ++ y ∷ [])) ≡ sum (map f xs) + f y = sums_more f xs y in
    omega arith

fewer : (p q : Coord → Bool) (xs : List Coord) → ((c : Coord) → p c ≡ true → q c ≡ true) → count_by p xs ≤ count_by q xs
fewer p q [] h = omega arith
fewer p q (x ∷ xs) h =
    let sum_is : count_by p (x ∷ xs) ≡ cond (p x) 1 0 + count_by p xs = sum_by-cons (λ c. cond (p c) 1 0) x xs in
    let count_is : count_by q (x ∷ xs) ≡ cond (q x) 1 0 + count_by q xs = sum_by-cons (λ c. cond (q c) 1 0) x xs in
    let at_most_count : count_by p xs ≤ count_by q xs = fewer p q xs h in
    let at_most_choice : cond (p x) 1 0 ≤ cond (q x) 1 0 = one (p x) (q x) (h x) in
    omega arith
  where
    one : (a b : Bool) → (a ≡ true → b ≡ true) → cond {A = ℕ} a 1 0 ≤ cond b 1 0
    one false b h = omega arith
    one true true h = omega arith
    one true false h = absurd (no (h refl))
      where
        no : false ≡ true → ⊥
        no e = cc

-- the voxels that a leader's command edits are volatile for its group
met_volatile : (m : Matrix) (all : List Act) (l : Act) → In l (members all l) → stays_in_space m.resolution l ≡ true
    → met_count m l.bot l.command ≤ volatile_count m all l
met_volatile m all l i h = fewer (is_met (met (position l) l.command)) (λ c. list_any (is_volatile_of (point c)) (filter (stays_in_space m.resolution) (members all l))) (all_of m) (λ c e.
    in_any (is_volatile_of (point c)) l (filter (stays_in_space m.resolution) (members all l)) (in_filter (stays_in_space m.resolution) l (members all l) i h) (own c (any_in (λ s. is_within s (point c)) (filled (position l) l.command ++ voided (position l) l.command) e)))
  where
    own : (c : Coord) → (s : Span) × In s (filled (position l) l.command ++ voided (position l) l.command)
        × (is_within s (point c) ≡ true) → is_volatile_of (point c) l ≡ true
    own c w = by (parted (filled (position l) l.command) (voided (position l) l.command) w.1)
      where
        parted : (xs ys : List Span) → In w.0 (xs ++ ys) → In w.0 xs ⊎ In w.0 ys
        parted [] ys i = inr i
        parted (x ∷ xs) ys (inl i) = inl (inl i)
        parted (x ∷ xs) ys (inr i) = on (parted xs ys i)
          where
            on : In w.0 xs ⊎ In w.0 ys → In w.0 (x ∷ xs) ⊎ In w.0 ys
            on (inl k) = inl (inr k)
            on (inr k) = inr k

        by : In w.0 (filled (position l) l.command) ⊎ In w.0 (voided (position l) l.command)
            → is_volatile_of (point c) l ≡ true
        by (inl k) = fills_own (position l) l.command (point c) (in_any (λ s. is_within s (point c)) w.0 (filled (position l) l.command) k w.2)
        by (inr k) = voids_own (position l) l.command (point c) (in_any (λ s. is_within s (point c)) w.0 (voided (position l) l.command) k w.2)

-- ---- one turn

-- the laws of the turn of a leader, after those of some others
pub record TurnOf (s : State) (all : List Act) (before : List Act) (l : Act) : Type 0 where
  pub bots : group_in (after_some s all before) all l ≡ members all l
  pub rules : IsTrue (keeps_rules (after_some s all before) (members all l))
  pub places : (x y : Bot) → Contains (successors (members all l) l l.command) x
      → Contains (after_some s all before).bots y → x.pos ≡ y.pos → y ≡ l.bot
  pub next : after_group (after_some s all before) (members all l) ≡ after_some s all (before ++ l ∷ [])

-- a property of each turn of each step that breaks no rule
abbrev pub OfTurns : (State → List Act → List Act → Act → Type 0) → Type 0
OfTurns P = (s : State) (commands : List Command) (step : ℕ) → IsReady s → broken s commands step ≡ None → (before rest : List Act) (l : Act) → IsPermutation (leaders (acts s.bots commands)) (before ++ l ∷ rest) → P s (acts s.bots commands) before l

-- the law of the turns, of its clauses
pub turns_of : OfTurns (λ s all before l. group_in (after_some s all before) all l ≡ members all l)
    → OfTurns (λ s all before l. IsTrue (keeps_rules (after_some s all before) (members all l))) → OfTurns
    (λ s all before l. (x y : Bot) → Contains (successors (members all l) l l.command) x
    → Contains (after_some s all before).bots y → x.pos ≡ y.pos → y ≡ l.bot) → OfTurns
    (λ s all before l. after_group (after_some s all before) (members all l) ≡ after_some s all (before ++ l ∷ []))
    → OfTurns TurnOf
turns_of bots rules places next = λ s commands step ready keep before rest l perm. record {
  bots = bots s commands step ready keep before rest l perm;
  rules = rules s commands step ready keep before rest l perm;
  places = places s commands step ready keep before rest l perm;
  next = next s commands step ready keep before rest l perm;
}

-- the turn returned by a read past the end
abbrev pub no_turn : Turn
no_turn = record { leader = 0; place = 0; partner = 0 }

-- the effect of a group's acts on the bots
abbrev pub Replaces : Type 0
Replaces = (u : State) (group : List Act) → (after_group u group).bots ≡ replaced u.bots (map (λ (a : Act). a.bot.bid) group) (flat_map (λ (a : Act). successors group a a.command) group)

module _ (s : State) (commands : List Command) (step : ℕ) (ready : IsReady s) (keep : broken s commands step ≡ None) (known : AreCommands commands)
    (order : List Act) (perm : IsPermutation (leaders (acts s.bots commands)) order) (turns : List Turn) (are : AreTurns (acts s.bots commands) order turns) (i : ℕ) (lt : i < length turns) (d : Turn)
    (turn_of : OfTurns TurnOf)
    (now : State) (taken : now ≡ after_some s (acts s.bots commands) (take i order)) (now_ready : IsReady now) where
  here : (l : Act) × (order ≡ take i order ++ l ∷ drop (i + 1) order)
      × IsTurn (acts s.bots commands) l (get_or turns i d) × (take (i + 1) order ≡ take i order ++ l ∷ [])
  here = turn_at (acts s.bots commands) order turns i d are lt

  leads : In here.0 (leaders (acts s.bots commands))
  leads = listed (leaders (acts s.bots commands)) order perm here.0 (subst (λ (xs : List Act). In here.0 xs) (sym here.1) (in_right here.0 (take i order) (here.0 ∷ drop (i + 1) order) (inl refl)))

  law : TurnOf s (acts s.bots commands) (take i order) here.0
  law = turn_of s commands step ready keep (take i order) (drop (i + 1) order) here.0 (subst (λ (xs : List Act). IsPermutation (leaders (acts s.bots commands)) xs) here.1 perm)

  good : IsGood s (acts s.bots commands)
  good = good_is s commands step ready keep

  ready_there : IsReady (after_some s (acts s.bots commands) (take i order))
  ready_there = subst (λ (t : State). IsReady t) taken now_ready

  within_there : (b : Bot) → In b (after_some s (acts s.bots commands) (take i order)).bots
      → IsInSpace s.matrix.resolution b.pos
  within_there b j = let place = in_place b b (after_some s (acts s.bots commands) (take i order)).bots j in subst (λ (c : Bot). IsInSpace s.matrix.resolution c.pos) place.2 (ready_there.within place.0 b place.1)

  apart_there : (x y : Bot) → In x (successors (members (acts s.bots commands) here.0) here.0 here.0.command)
      → In y (after_some s (acts s.bots commands) (take i order)).bots → x.pos ≡ y.pos → y ≡ here.0.bot
  apart_there x y j k e = law.places x y (contained x _ j) (contained y _ k) e

  may :
      MayTake s.matrix.resolution (after_some s (acts s.bots commands) (take i order)).bots here.0.bot (get_or turns i d).partner here.0.command
  may = may_take s (acts s.bots commands) good here.0 leads (after_some s (acts s.bots commands) (take i order)) law.bots law.rules apart_there
      (rising_is (after_some s (acts s.bots commands) (take i order)).bots ready_there.rising) within_there (get_or turns i d).partner here.2.partner
      (commands_are s.bots commands known here.0 (filter_in (is_leader (acts s.bots commands)) here.0 (acts s.bots commands) leads).0)

  found_now : bot_of now.bots (get_or turns i d).leader ≡ Some here.0.bot
  found_now =
      (λ j. bot_of (taken j).bots (here.2.leader j))
      ∙ found_there s (acts s.bots commands) good here.0 leads (after_some s (acts s.bots commands) (take i order)) law.bots law.rules apart_there
      (rising_is (after_some s (acts s.bots commands) (take i order)).bots ready_there.rising) within_there (get_or turns i d).partner here.2.partner here.0
      (itself_in s (acts s.bots commands) good here.0 leads (after_some s (acts s.bots commands) (take i order)) law.bots law.rules apart_there
      (rising_is (after_some s (acts s.bots commands) (take i order)).bots ready_there.rising) within_there (get_or turns i d).partner here.2.partner)

  pub place_below : (get_or turns i d).place < length commands
  place_below = (command_at s.bots commands (get_or turns i d).place here.0 here.2.place).0

  command_is : (command : Command) → command ≡ get_or commands (get_or turns i d).place command
      → command ≡ here.0.command
  command_is command e = e ∙ (command_at s.bots commands (get_or turns i d).place here.0 here.2.place).1 command

  pub may_now : (command : Command) → command ≡ get_or commands (get_or turns i d).place command
      → IfSome (bot_of now.bots (get_or turns i d).leader)
      (λ bot. MayTake now.matrix.resolution now.bots bot (get_or turns i d).partner command)
  may_now command e =
      subst (λ (o : Option Bot). IfSome o (λ bot. MayTake now.matrix.resolution now.bots bot (get_or turns i d).partner command)) (sym found_now)
      (subst (λ (t : State). MayTake t.matrix.resolution t.bots here.0.bot (get_or turns i d).partner command) (sym taken)
      (subst (λ (c : Command). MayTake s.matrix.resolution (after_some s (acts s.bots commands) (take i order)).bots here.0.bot (get_or turns i d).partner c) (sym (command_is command e)) may))

  pub taken_more : Replaces → (command : Command) → command ≡ get_or commands (get_or turns i d).place command
      → (new : State) → IfSome (bot_of now.bots (get_or turns i d).leader)
      (λ bot. new ≡ after_turn now bot (get_or turns i d).partner command)
      → new ≡ after_some s (acts s.bots commands) (take (i + 1) order)
  taken_more replaces command e new h =
      subst (λ (o : Option Bot). IfSome o (λ bot. new ≡ after_turn now bot (get_or turns i d).partner command)) found_now h
      ∙ ((λ j. after_turn (taken j) here.0.bot (get_or turns i d).partner (command_is command e j))
      ∙ (turn_is_group s (acts s.bots commands) good here.0 leads (after_some s (acts s.bots commands) (take i order)) law.bots law.rules apart_there
      (rising_is (after_some s (acts s.bots commands) (take i order)).bots ready_there.rising) within_there (get_or turns i d).partner here.2.partner replaces
      ∙ (law.next ∙ ap (after_some s (acts s.bots commands)) (sym here.3))))

  pub touched_more : (command : Command) → command ≡ get_or commands (get_or turns i d).place command
      → (old new start : ℕ)
      → IfSome (bot_of now.bots (get_or turns i d).leader) (λ bot. new ≤ old + met_count now.matrix bot command)
      → old ≤ start + sum (map (volatile_count s.matrix (acts s.bots commands)) (take i order))
      → new ≤ start + sum (map (volatile_count s.matrix (acts s.bots commands)) (take (i + 1) order))
  touched_more command e old new start h k =
      let at_most_met_count : new ≤ old + met_count now.matrix here.0.bot command = subst (λ (o : Option Bot). IfSome o (λ bot. new ≤ old + met_count now.matrix bot command)) found_now h in
      let same_met_count : met_count now.matrix here.0.bot command ≡ met_count s.matrix here.0.bot here.0.command = (λ j. met_count (taken j).matrix here.0.bot (command_is command e j)) in
      let at_most_volatile_count : met_count s.matrix here.0.bot here.0.command ≤ volatile_count s.matrix (acts s.bots commands) here.0 = met_volatile s.matrix (acts s.bots commands) here.0
      (itself_in s (acts s.bots commands) good here.0 leads (after_some s (acts s.bots commands) (take i order)) law.bots law.rules apart_there
      (rising_is (after_some s (acts s.bots commands) (take i order)).bots ready_there.rising) within_there (get_or turns i d).partner here.2.partner)
      may.stays in
      let same_sum : sum (map (volatile_count s.matrix (acts s.bots commands)) (take (i + 1) order)) ≡ sum (map (volatile_count s.matrix (acts s.bots commands)) (take i order)) + volatile_count s.matrix (acts s.bots commands) here.0 =
      ap (λ (xs : List Act). sum (map (volatile_count s.matrix (acts s.bots commands)) xs)) here.3 ∙ sums_more (volatile_count s.matrix (acts s.bots commands)) (take i order) here.0 in
      omega arith

pub within_wider : (a b : ℕ) (e : ℤ) → a ≤ b → IsWithin a e → IsWithin b e
within_wider a b e l h = record { above = omega (arith, ints, h.above); below = omega (arith, ints, h.below) }

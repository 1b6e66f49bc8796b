-- The boxes of a group, and the groups of the leaders so far.
use Rattle.vox_geom.proofs.Truths.{or_false}
use Rattle.step_groups.specs.Judging.{is_alone}
use Rattle.std.proofs.Common.{◌≡◌, ℕ, ◌<◌, ◌≤◌, refl, ap, sym, ◌∙◌, subst, arith, inl, inr, Bool, true, false, ◌||◌, not, cond, List, [], ◌∷◌, ◌++◌, filter, length, map, min, max}
use Rattle.std.specs.Prelude.{All, IsTrue}
use Rattle.std.specs.List.{list_any}
use Rattle.std.proofs.lemmas.List.Folds.{list_any-append}
use Rattle.std.proofs.lemmas.List.Elements.{filter-append}
use Rattle.vox_geom.specs.declared.coordinate.Coord.{Coord}
use Rattle.vox_geom.specs.Point.{Point, point}
use Rattle.vox_geom.specs.Region.{Corners, between, is_within, just, span}
use Rattle.vox_geom.specs.Space.{IsInSpace}
use Rattle.vox_geom.proofs.Sums.{append_none}
use Rattle.nano_spec.specs.declared.commands.Command.{Command}
use Rattle.nano_spec.specs.declared.system.Bot.{Bot}
use Rattle.nano_spec.specs.Act.{Act, acts, position}
use Rattle.nano_spec.specs.Group.{are_together, is_leader, members}
use Rattle.nano_spec.specs.Volatile.{is_volatile, is_volatile_of}
use Rattle.step_order.proofs.Facts.{Rising}
use Rattle.step_order.proofs.Lists.{In, in_place, place_in}
use Rattle.step_groups.specs.Boxes.{AreBoxesIn, IsBoxIn, in_boxes}
use Rattle.step_groups.specs.Groups.{AreGroups, IsGroup, bid_of, box_of_bot}
use Rattle.step_groups.specs.declared.groups.Group.{Group}
use Rattle.step_groups.proofs.Mates.{group, leads, volatile, none_after, none_before}

-- ---- boxes

pub all_in : {X : Type 0} (P : X → Type 0) (x : X) (xs : List X) → All P xs → In x xs → P x
all_in P x xs h i = let place = in_place x x xs i in subst P place.2 (h place.0 x place.1)

pub in_all : {X : Type 0} (P : X → Type 0) (xs : List X) → ((x : X) → In x xs → P x) → All P xs
in_all P xs h = λ k d lt. h _ (place_in d xs k lt)

pub bot_in : (bots : List Bot) (commands : List Command) (a : Act) → In a (acts bots commands) → In a.bot bots
bot_in [] commands a i = absurd i
bot_in (b ∷ bots) [] a i = absurd i
bot_in (b ∷ bots) (k ∷ commands) a (inl e) = inl (ap (λ (x : Act). x.bot) e)
bot_in (b ∷ bots) (k ∷ commands) a (inr i) = inr (bot_in bots commands a i)

pub acts_within : (r : ℕ) (bots : List Bot) (commands : List Command) (a : Act) → All (λ b. IsInSpace r b.pos) bots
    → In a (acts bots commands) → IsInSpace r a.bot.pos
acts_within r bots commands a h i = all_in (λ (b : Bot). IsInSpace r b.pos) a.bot bots h (bot_in bots commands a i)

least_below : (r n : ℕ) → n < r → min n n < r
least_below r n h = omega arith

most_below : (r n : ℕ) → n < r → max n n < r
most_below r n h = omega arith

spot_in : (r : ℕ) (a : Act) → IsInSpace r a.bot.pos → IsBoxIn r (box_of_bot a)
spot_in r a h = record {
  low = record { x = least_below r a.bot.pos.x h.x; y = least_below r a.bot.pos.y h.y; z = least_below r a.bot.pos.z h.z };
  high = record { x = most_below r a.bot.pos.x h.x; y = most_below r a.bot.pos.y h.y; z = most_below r a.bot.pos.z h.z };
}

pub more_in : (r : ℕ) (boxes : List Corners) (others : List Act) → AreBoxesIn r boxes
    → ((b : Act) → In b others → IsInSpace r b.bot.pos) → AreBoxesIn r (boxes ++ map box_of_bot others)
more_in r [] [] h k = tt
more_in r [] (a ∷ others) h k = (spot_in r a (k a (inl refl)), more_in r [] others tt (λ b i. k b (inr i)))
more_in r (box ∷ boxes) others h k = (h.0, more_in r boxes others h.1 k)

in_spots : (others : List Act) (c : Coord)
    → in_boxes (map box_of_bot others) c ≡ list_any (λ b. is_within (span (box_of_bot b)) (point c)) others
in_spots [] c = refl
in_spots (a ∷ others) c = ap (λ b. is_within (span (box_of_bot a)) (point c) || b) (in_spots others c)

pub in_more : (boxes : List Corners) (others : List Act) (c : Coord) → in_boxes (boxes ++ map box_of_bot others) c
    ≡ (in_boxes boxes c || list_any (λ b. is_within (span (box_of_bot b)) (point c)) others)
in_more boxes others c = list_any-append (λ k. is_within (span k) (point c)) boxes (map box_of_bot others) ∙ ap (λ b. in_boxes boxes c || b) (in_spots others c)

itself_least : (n : ℕ) → min n n ≡ n
itself_least n = omega arith

itself_most : (n : ℕ) → max n n ≡ n
itself_most n = omega arith

-- the box of a position is the position
spot_is : (a : Act) → span (box_of_bot a) ≡ just (position a)
spot_is a =
    let pos = a.bot.pos in
    λ i. between (point (record { x = itself_least pos.x i; y = itself_least pos.y i; z = itself_least pos.z i })) (point (record { x = itself_most pos.x i; y = itself_most pos.y i; z = itself_most pos.z i }))

spots_are : (others : List Act) (p : Point)
    → list_any (λ b. is_within (span (box_of_bot b)) p) others ≡ list_any (λ b. is_within (just (position b)) p) others
spots_are others p = ap (λ t. list_any t others) (λ i b. is_within (spot_is b i) p)

-- ---- groups

pub one_more : (r : ℕ) (all leaders : List Act) (groups : List Group) (a : Act) (g : Group)
    → AreGroups r all leaders groups → IsGroup r all a g → AreGroups r all (leaders ++ a ∷ []) (groups ++ g ∷ [])
one_more r all [] [] a g h k = (k, tt)
one_more r all [] (f ∷ groups) a g h k = absurd h
one_more r all (l ∷ leaders) [] a g h k = absurd h
one_more r all (l ∷ leaders) (f ∷ groups) a g h k = (h.0, one_more r all leaders groups a g h.1 k)

pub with_leader : (all xs : List Act) (a : Act) (b : Bool) → is_leader all a ≡ b
    → filter (is_leader all) (xs ++ a ∷ []) ≡ filter (is_leader all) xs ++ cond b (a ∷ []) []
with_leader all xs a b e = filter-append (is_leader all) xs (a ∷ []) ∙ ap (λ t. filter (is_leader all) xs ++ cond t (a ∷ []) []) e

module _ (r : ℕ) (all xs ys : List Act) (a : Act) (whole : all ≡ xs ++ a ∷ ys) (up : Rising (map (λ (b : Act). b.bot) all)) where
  rise : Rising (map (λ (b : Act). b.bot) (xs ++ a ∷ ys))
  rise = subst (λ (as' : List Act). Rising (map (λ (b : Act). b.bot) as')) whole up

  leads_all : is_leader all a ≡ not (list_any (are_together a) xs)
  leads_all = ap (λ (as' : List Act). is_leader as' a) whole ∙ leads xs ys a rise

  members_are : list_any (are_together a) xs ≡ false → members all a ≡ a ∷ filter (are_together a) ys
  members_are h = ap (λ (as' : List Act). members as' a) whole ∙ group xs ys a rise h

  -- a bot that leads no group
  pub add_none : (more : List Act) (groups : List Group) → more ≡ xs ++ a ∷ [] → list_any (are_together a) xs ≡ true
      → AreGroups r all (filter (is_leader all) xs) groups → AreGroups r all (filter (is_leader all) more) groups
  add_none more groups e h k =
      subst (λ (ls : List Act). AreGroups r all ls groups) (sym (ap (filter (is_leader all)) e ∙ (with_leader all xs a false (leads_all ∙ ap not h) ∙ append_none (filter (is_leader all) xs)))) k

  -- a bot that leads the group of those after it
  pub add_joined : (more : List Act) (groups next : List Group) (g : Group) → more ≡ xs ++ a ∷ []
      → next ≡ groups ++ g ∷ [] → list_any (are_together a) xs ≡ false → g.leader ≡ a.bot.bid
      → g.members.items ≡ a.bot.bid ∷ map bid_of (filter (are_together a) ys) → ((c : Coord) → in_boxes g.boxes.items c
      ≡ (is_volatile_of (point c) a || list_any (λ b. is_within (span (box_of_bot b)) (point c))
      (filter (are_together a) ys))) → AreBoxesIn r g.boxes.items → AreGroups r all (filter (is_leader all) xs) groups
      → AreGroups r all (filter (is_leader all) more) next
  add_joined more groups next g e f h leader mates boxes space k =
      let one : IsGroup r all a g = record {
        leader = leader;
        members = mates ∙ sym (ap (map bid_of) (members_are h));
        boxes = λ c. boxes c ∙ (ap (λ b. is_volatile_of (point c) a || b) (spots_are (filter (are_together a) ys) (point c)) ∙ sym (ap (λ (as' : List Act). is_volatile as' a (point c)) whole ∙ volatile xs ys a rise h (point c)));
        within = space;
      } in
      subst (λ (ls : List Act). AreGroups r all ls next) (sym (ap (filter (is_leader all)) e ∙ with_leader all xs a true (leads_all ∙ ap not h)))
      (subst (λ (gs : List Group). AreGroups r all (filter (is_leader all) xs ++ a ∷ []) gs) (sym f) (one_more r all (filter (is_leader all) xs) groups a g k one))

  -- a bot that is alone
  pub add_alone : (more : List Act) (groups next : List Group) (g : Group) → more ≡ xs ++ a ∷ []
      → next ≡ groups ++ g ∷ [] → IsTrue (is_alone a.command) → g.leader ≡ a.bot.bid → g.members.items ≡ a.bot.bid ∷ []
      → ((c : Coord) → in_boxes g.boxes.items c ≡ is_volatile_of (point c) a) → AreBoxesIn r g.boxes.items
      → AreGroups r all (filter (is_leader all) xs) groups → AreGroups r all (filter (is_leader all) more) next
  add_alone more groups next g e f h leader mates boxes space k =
      let after : filter (are_together a) ys ≡ [] = none_after xs ys a rise h in
      add_joined more groups next g e f (none_before xs ys a rise h) leader
      (mates ∙ ap (λ zs. a.bot.bid ∷ map bid_of zs) (sym after))
      (λ c. boxes c ∙ (sym (or_false (is_volatile_of (point c) a)) ∙ ap (λ zs. is_volatile_of (point c) a || list_any (λ b. is_within (span (box_of_bot b)) (point c)) zs) (sym after)))
      space k

  -- a leader of no more than eight has seven after it
  pub few_after : list_any (are_together a) xs ≡ false → length (members all a) ≤ 8
      → length (filter (are_together a) ys) ≤ 7
  few_after h le = let same_length : length (members all a) ≡ length (a ∷ filter (are_together a) ys) = ap length (members_are h) in omega (arith, same_length, le)

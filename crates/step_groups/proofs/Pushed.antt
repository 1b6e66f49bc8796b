-- The groups of the leaders up to an index, with one more bot.
use Rattle.std.proofs.Common.{◌≡◌, ℕ, ◌+◌, ◌-◌, ◌<◌, ◌≤◌, ap, sym, ◌∙◌, subst, arith, false, true, ◌||◌, List, [], ◌∷◌, ◌++◌, filter, length, map, take, drop, get_or}
use Rattle.std.specs.Prelude.{IsTrue, All, AllPairs}
use Rattle.std.specs.List.{list_any}
use Rattle.std.proofs.lemmas.List.{length-map}
use Rattle.vox_geom.specs.declared.coordinate.Coord.{Coord}
use Rattle.vox_geom.specs.Point.{point}
use Rattle.vox_geom.specs.Region.{Corners, corners, is_within, span}
use Rattle.vox_geom.specs.Space.{IsInSpace}
use Rattle.nano_spec.specs.declared.commands.Command.{Command}
use Rattle.nano_spec.specs.declared.system.Bot.{Bot}
use Rattle.nano_spec.specs.Act.{Act, acts, stays_in_space}
use Rattle.nano_spec.specs.Group.{are_together, is_leader, members}
use Rattle.nano_spec.specs.Volatile.{is_volatile_of}
use Rattle.step_order.proofs.Facts.{Rising, rising_is}
use Rattle.step_order.proofs.Lists.{In, filter_in}
use Rattle.step_order.proofs.Judgements.{all_bots}
use Rattle.step_groups.specs.Boxes.{AreBoxesIn, in_boxes}
use Rattle.step_groups.specs.Groups.{AreGroups, box_of_bot}
use Rattle.step_groups.specs.Judging.{act, is_alone}
use Rattle.step_groups.specs.Numbers.{with_number}
use Rattle.step_groups.specs.declared.groups.Group.{Group}
use Rattle.step_groups.proofs.Joined.{acts_within, add_alone, add_joined, add_none, all_in, few_after, in_more, more_in}
use Rattle.step_groups.proofs.Mates.{in_back, in_middle, split_at, take_more}
use Rattle.step_groups.proofs.Telling.{of_bots}

module _ (r : ℕ) (bots : List Bot) (commands : List Command) (i : ℕ) (b : Bot) (k : Command) (lt : i < length bots) (lengths : length commands ≡ length bots) (bi : b ≡ get_or bots i b) (ki : k ≡ get_or commands i k) where
  abbrev all : List Act
  all = acts bots commands

  abbrev a : Act
  a = act b k

  abbrev xs : List Act
  xs = acts (take i bots) (take i commands)

  abbrev ys : List Act
  ys = acts (drop (i + 1) bots) (drop (i + 1) commands)

  abbrev more : List Act
  more = acts (take (i + 1) bots) (take (i + 1) commands)

  whole : acts bots commands ≡ xs ++ a ∷ ys
  whole = split_at bots commands i b k lt lengths bi ki

  one_more : more ≡ xs ++ a ∷ []
  one_more = take_more bots commands i b k lt lengths bi ki

  here : In (act b k) (acts bots commands)
  here = subst (λ (zs : List Act). In (act b k) zs) (sym whole) (in_middle xs ys a)

  pub stays_here : All (λ a. IsTrue (stays_in_space r a)) (acts bots commands) → IsTrue (stays_in_space r (act b k))
  stays_here h = all_in (λ (x : Act). IsTrue (stays_in_space r x)) (act b k) (acts bots commands) h here

  module _ (rising : AllPairs (λ a b. a.bid < b.bid) bots) where
    up : Rising (map (λ (x : Act). x.bot) (acts bots commands))
    up = subst (λ (bs : List Bot). Rising bs) (sym (all_bots bots commands lengths)) (rising_is bots rising)

    pub none_here : (groups : List Group)
        → list_any (are_together (act b k)) (acts (take i bots) (take i commands)) ≡ true
        → AreGroups r (acts bots commands)
        (filter (is_leader (acts bots commands)) (acts (take i bots) (take i commands))) groups
        → AreGroups r (acts bots commands)
        (filter (is_leader (acts bots commands)) (acts (take (i + 1) bots) (take (i + 1) commands))) groups
    none_here groups e h = add_none r all xs ys a whole up more groups one_more e h

    pub alone_here : (groups next : List Group) (g : Group) → next ≡ groups ++ g ∷ [] → IsTrue (is_alone k)
        → g.leader ≡ b.bid → g.members.items ≡ b.bid ∷ []
        → ((c : Coord) → in_boxes g.boxes.items c ≡ is_volatile_of (point c) (act b k)) → AreBoxesIn r g.boxes.items
        → AreGroups r (acts bots commands)
        (filter (is_leader (acts bots commands)) (acts (take i bots) (take i commands))) groups
        → AreGroups r (acts bots commands)
        (filter (is_leader (acts bots commands)) (acts (take (i + 1) bots) (take (i + 1) commands))) next
    alone_here groups next g f alone leader mates boxes space h = add_alone r all xs ys a whole up more groups next g one_more f alone leader mates boxes space h

    -- the bots after a leader with its group index
    module _ (ns : List ℕ) (n : ℕ) (tell : with_number n (take (length bots - (i + 1)) (drop (i + 1) bots)) (take (length ns - (i + 1)) (drop (i + 1) ns)) ≡ map (λ (x : Act). x.bot) (filter (are_together (act b k)) (acts (drop (i + 1) bots) (drop (i + 1) commands)))) (leads : list_any (are_together (act b k)) (acts (take i bots) (take i commands)) ≡ false) where
      abbrev mates : List Act
      mates = filter (are_together a) ys

      pub few_here : All (λ a. length (members (acts bots commands) a) ≤ 8) (acts bots commands) → length (with_number n
          (take (length bots - (i + 1)) (drop (i + 1) bots)) (take (length ns - (i + 1)) (drop (i + 1) ns))) ≤ 7
      few_here h =
          let few : length mates ≤ 7 = few_after r all xs ys a whole up leads (all_in (λ (x : Act). length (members all x) ≤ 8) a all h here) in
          let same = ap length tell ∙ length-map mates (λ (x : Act). x.bot) in
          omega arith

      pub joined_here : (groups next : List Group) (own g : Group) → next ≡ groups ++ g ∷ [] → own.leader ≡ b.bid
          → own.members.items ≡ b.bid ∷ []
          → ((c : Coord) → in_boxes own.boxes.items c ≡ is_volatile_of (point c) (act b k))
          → AreBoxesIn r own.boxes.items → g.leader ≡ own.leader → g.members.items ≡ own.members.items
          ++ map (λ (x : Bot). x.bid) (with_number n (take (length bots - (i + 1)) (drop (i + 1) bots))
          (take (length ns - (i + 1)) (drop (i + 1) ns))) → g.boxes.items ≡ own.boxes.items
          ++ map (λ (x : Bot). corners x.pos x.pos) (with_number n (take (length bots - (i + 1)) (drop (i + 1) bots))
          (take (length ns - (i + 1)) (drop (i + 1) ns))) → All (λ b. IsInSpace r b.pos) bots
          → AreGroups r (acts bots commands)
          (filter (is_leader (acts bots commands)) (acts (take i bots) (take i commands))) groups
          → AreGroups r (acts bots commands)
          (filter (is_leader (acts bots commands)) (acts (take (i + 1) bots) (take (i + 1) commands))) next
      joined_here groups next own g f leader member boxes space leader_stays members_are boxes_are within h =
          let spots : g.boxes.items ≡ own.boxes.items ++ map box_of_bot mates = boxes_are ∙ ap (λ more. own.boxes.items ++ more) (ap (map (λ (x : Bot). corners x.pos x.pos)) tell ∙ of_bots (λ (x : Bot). corners x.pos x.pos) mates) in
          add_joined r all xs ys a whole up more groups next g one_more f leads (leader_stays ∙ leader)
          (members_are ∙ ((λ j. member j ++ map (λ (x : Bot). x.bid) (tell j)) ∙ ap (λ more. b.bid ∷ more) (of_bots (λ (x : Bot). x.bid) mates)))
          (λ c. (ap (λ bs. in_boxes bs c) spots ∙ in_more own.boxes.items mates c) ∙ ap (λ t. t || list_any (λ x. is_within (span (box_of_bot x)) (point c)) mates) (boxes c))
          (subst (λ (bs : List Corners). AreBoxesIn r bs) (sym spots) (more_in r own.boxes.items mates space (λ x j. acts_within r bots commands x within (later x (filter_in (are_together a) x ys j).0))))
          h
        where
          later : (x : Act) → In x ys → In x all
          later x j = subst (λ (zs : List Act). In x zs) (sym whole) (in_back xs ys a x j)

-- The turns of a step in another order of their leaders.
use Rattle.std.proofs.Common.{◌≡◌, ℕ, ◌+◌, ◌<◌, refl, sym, ◌∙◌, ap, subst, arith, inl, inr, ◌⊎◌, List, [], ◌∷◌, ◌++◌, map, length, set, take, get_or}
use Rattle.std.specs.Prelude.{IsPermutation, AllPairs, slice_index_or, sum}
use Rattle.std.specs.List.{Contains, swap}
use Rattle.std.proofs.lemmas.List.{get_or-map, length-map, map-append, map-set, take_more}
use Rattle.std.proofs.lemmas.List.Edits.{swap_is}
use Rattle.std.proofs.lemmas.List.Sorted.{IsPermutation-keeps, IsPermutation-map, IsPermutation-refl, IsPermutation-swap, IsPermutation-trans, sum_by-IsPermutation}
use Rattle.nano_spec.specs.declared.commands.Command.{Command}
use Rattle.nano_spec.specs.declared.commands.Command.TheVariants.{Halt}
use Rattle.nano_spec.specs.declared.system.Bot.{Bot}
use Rattle.nano_spec.specs.Act.{Act, acts}
use Rattle.nano_spec.specs.Group.{is_leader, leaders}
use Rattle.step_order.proofs.Facts.{Rising, rising_is}
use Rattle.step_order.proofs.Groups.{Differ, differ_acts}
use Rattle.step_order.proofs.Lists.{In, filter_in, in_either, in_place, place_in}
use Rattle.step_order.proofs.Order.{listed}
use Rattle.step_order.proofs.Judgements.{all_bots}
use Rattle.system_state.specs.declared.turns.Turn.{Turn}
use Rattle.system_state.specs.Turns.{AreAllTurns, AreTurns, IsTurn, leader_of}
use Rattle.step_groups.specs.Groups.{bid_of}

-- a sum is the same in every order
pub same_sum : (f : Act → ℕ) (xs ys : List Act) → IsPermutation xs ys → sum (map f ys) ≡ sum (map f xs)
same_sum f xs ys p = sum_by-IsPermutation (λ n. n) (map f xs) (map f ys) (IsPermutation-map f xs ys p)

-- ---- a list in an order of its keys

map_swap : (f : Act → ℕ) (xs : List Act) (i j : ℕ) (d : Act) → i < length xs → j < length xs
    → map f (swap xs i j) ≡ swap (map f xs) i j
map_swap f xs i j d a b =
    let long : length (map f xs) ≡ length xs = length-map xs f in
    rw (sym (swap_is xs i j d a b), map-set f (set xs i (slice_index_or xs j d)) j (slice_index_or xs i d), map-set f xs i (slice_index_or xs j d), sym (swap_is (map f xs) i j (f d) (rw long a) (rw long b)), get_or-map f xs j d (f d) b, get_or-map f xs i d (f d) a) refl

-- the result of a read past the end
no_act : Act
no_act = record { bot = record { bid = 0; pos = record { x = 0; y = 0; z = 0 }; seeds = 0 }; command = Halt }

pub in_order_of : (key : Act → ℕ) (xs : List Act) (keys : List ℕ) → IsPermutation (map key xs) keys
    → (ys : List Act) × IsPermutation xs ys × (map key ys ≡ keys)
in_order_of key xs keys = IsPermutation-keeps (map key xs) (λ ks. (ys : List Act) × IsPermutation xs ys × (map key ys ≡ ks)) (xs, IsPermutation-refl xs, refl) (λ ks i j a b h.
    let long : length h.0 ≡ length ks = sym (length-map h.0 key) ∙ ap length h.2 in (
      swap h.0 i j,
      IsPermutation-trans xs h.0 (swap h.0 i j) h.1 (IsPermutation-swap h.0 (swap h.0 i j) i j (omega arith) (omega arith) refl),
      map_swap key h.0 i j no_act (omega arith) (omega arith) ∙ ap (λ (ks : List ℕ). swap ks i j) h.2,
    )) keys

-- ---- turns

-- each bid of the order is that of a turn's leader
pub has_turn : (old : List Turn) (order : List ℕ) → IsPermutation (map leader_of old) order → (i : ℕ) → i < length order
    → Contains (map leader_of old) (get_or order i 0)
has_turn old order perm i lt =
    let element = get_or order i 0 in
    let place = in_place element element (map leader_of old) (listed (map leader_of old) order perm element (place_in 0 order i lt)) in
    (place.0, place.1, place.2)

-- one more turn, by the bid of its leader
pub one_more : (done : List Turn) (order : List ℕ) (i : ℕ) (t : Turn) → i < length order
    → map leader_of done ≡ take i order → t.leader ≡ get_or order i 0
    → map leader_of (done ++ t ∷ []) ≡ take (i + 1) order
one_more done order i t lt e f = map-append leader_of done (t ∷ []) ∙ ((λ k. e k ++ f k ∷ []) ∙ sym (take_more order i 0 lt))

pub known_more : (old done : List Turn) (t : Turn) → Contains old t → ((x : Turn) → In x done → In x old) → (x : Turn)
    → In x (done ++ t ∷ []) → In x old
known_more old done t is known x i = by (in_either x done (t ∷ []) i)
  where
    by : In x done ⊎ In x (t ∷ []) → In x old
    by (inl j) = known x j
    by (inr (inl e)) = subst (λ (y : Turn). In y old) (is.2 ∙ sym e) (place_in t old is.0 is.1)
    by (inr (inr j)) = absurd j

-- the leaders of the turns are those of the groups
pub leaders_are : (all firsts : List Act) (turns : List Turn) → AreTurns all firsts turns
    → map leader_of turns ≡ map bid_of firsts
leaders_are all [] [] h = refl
leaders_are all [] (t ∷ turns) h = absurd h
leaders_are all (a ∷ firsts) [] h = absurd h
leaders_are all (a ∷ firsts) (t ∷ turns) h = λ i. h.0.leader i ∷ leaders_are all firsts turns h.1 i

-- each turn is that of one of the leaders
pub one_of_them : (all firsts : List Act) (turns : List Turn) → AreTurns all firsts turns → (t : Turn) → In t turns
    → (a : Act) × In a firsts × IsTurn all a t
one_of_them all [] [] h t i = absurd i
one_of_them all [] (x ∷ turns) h t i = absurd h
one_of_them all (a ∷ firsts) [] h t i = absurd h
one_of_them all (a ∷ firsts) (x ∷ turns) h t (inl e) = (a, inl refl, subst (λ (y : Turn). IsTurn all a y) (sym e) h.0)
one_of_them all (a ∷ firsts) (x ∷ turns) h t (inr i) = let one_of_first = one_of_them all firsts turns h.1 t i in (one_of_first.0, inr one_of_first.1, one_of_first.2)

-- no two have one bid
pub same_act : (xs : List Act) → Differ bid_of xs → (a b : Act) → In a xs → In b xs → a.bot.bid ≡ b.bot.bid → a ≡ b
same_act [] d a b i j e = absurd i
same_act (x ∷ xs) d a b (inl i) (inl j) e = i ∙ sym j
same_act (x ∷ xs) d a b (inl i) (inr j) e = absurd (d.0 b j (ap bid_of (sym i) ∙ e))
same_act (x ∷ xs) d a b (inr i) (inl j) e = absurd (d.0 a i (ap bid_of (sym j) ∙ sym e))
same_act (x ∷ xs) d a b (inr i) (inr j) e = same_act xs d.1 a b i j e

module _ (all : List Act) (up : Rising (map (λ (a : Act). a.bot) all)) (old : List Turn) (are : AreTurns all (leaders all) old) where
  in_all : (a : Act) → In a (leaders all) → In a all
  in_all a i = (filter_in (is_leader all) a all i).0

  -- turns of these leaders, each one of the step's
  placed : (order : List Act) → ((a : Act) → In a order → In a (leaders all)) → (new : List Turn)
      → ((t : Turn) → In t new → In t old) → map leader_of new ≡ map bid_of order → AreTurns all order new
  placed [] lead [] known e = tt
  placed [] lead (t ∷ new) known e = cc
  placed (a ∷ order) lead [] known e = cc
  placed (a ∷ order) lead (t ∷ new) known e =
      let one_of_first = one_of_them all (leaders all) old are t (known t (inl refl)) in
      let first : t.leader ≡ a.bot.bid = cc in
      let same : one_of_first.0 ≡ a = same_act all (differ_acts all up) one_of_first.0 a (in_all one_of_first.0 one_of_first.1) (in_all a (lead a (inl refl))) (sym one_of_first.2.leader ∙ first) in
      (subst (λ (x : Act). IsTurn all x t) same one_of_first.2, placed order (λ x i. lead x (inr i)) new (λ x i. known x (inr i)) cc)

  arranged : (bids : List ℕ) → IsPermutation (map leader_of old) bids → (new : List Turn) → map leader_of new ≡ bids
      → ((t : Turn) → In t new → In t old) → AreAllTurns all new
  arranged bids perm new leads known =
      let in_order_of_here = in_order_of bid_of (leaders all) bids (subst (λ (ks : List ℕ). IsPermutation ks bids) (leaders_are all (leaders all) old are) perm) in
      record {
        order = in_order_of_here.0;
        groups = in_order_of_here.1;
        each = placed in_order_of_here.0 (listed (leaders all) in_order_of_here.0 in_order_of_here.1) new known (leads ∙ sym in_order_of_here.2);
      }

-- the turns of a step, arranged
pub arranged_are : (old new : List Turn) (bids : List ℕ) → IsPermutation (map leader_of old) bids
    → map leader_of new ≡ bids → ((t : Turn) → In t new → In t old) → (bots : List Bot) (commands : List Command)
    → AllPairs (λ a b. a.bid < b.bid) bots → length commands ≡ length bots
    → AreTurns (acts bots commands) (leaders (acts bots commands)) old → AreAllTurns (acts bots commands) new
arranged_are old new bids perm leads known bots commands rising lengths are =
    arranged (acts bots commands) (subst (λ (bs : List Bot). Rising bs) (sym (all_bots bots commands lengths)) (rising_is bots rising)) old are bids perm new leads known

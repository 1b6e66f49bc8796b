-- The group index of each bot determines the leader and the members of its group.
use Rattle.std.specs.Prelude.{AllPairs, IsTrue}
use Rattle.std.proofs.Common.{◌≡◌, ◌≢◌, ℕ, zero, suc, ◌+◌, ◌-◌, ◌<◌, refl, ap, sym, ◌∙◌, subst, arith, inl, inr, ◌⊎◌, Bool, true, false, ◌||◌, ◌==◌, not, cond, List, [], ◌∷◌, ◌++◌, filter, length, map, take, drop, get_or}
use Rattle.std.specs.List.{list_any, position_or_len}
use Rattle.std.proofs.lemmas.List.{drop-map, get_or_default, length-map}
use Rattle.std.proofs.lemmas.List.Sums.{passes_at_first}
use Rattle.vox_geom.proofs.Tests.{equal_by_test, test_equal}
use Rattle.vox_geom.proofs.Truths.{same_truth}
use Rattle.nano_spec.specs.declared.commands.Command.{Command}
use Rattle.nano_spec.specs.declared.system.Bot.{Bot}
use Rattle.nano_spec.specs.Act.{Act, acts}
use Rattle.nano_spec.specs.Group.{are_together}
use Rattle.bot_crew.specs.Crew.{IsCrew}
use Rattle.step_order.proofs.Facts.{Rising, pairs_in, rising_is}
use Rattle.step_order.proofs.Judgements.{all_bots}
use Rattle.step_order.proofs.Lists.{In, in_map, place_in}
use Rattle.step_order.proofs.Together.{AreApart, together_back, together_on, with_itself}
use Rattle.step_groups.specs.Judging.{act, is_alone}
use Rattle.step_groups.specs.Numbers.{AreNumbers, TellsMembers, group_number, with_number}
use Rattle.step_groups.proofs.Joined.{bot_in}
use Rattle.step_groups.proofs.Lists.{to_end}
use Rattle.step_groups.proofs.Mates.{blank, in_back, in_middle, none_before, split_at}

-- ---- the first that passes

step_less : (t : Bool) (n m : ℕ) → (t ≡ false → n < m) → cond (not t) (1 + n) 0 < suc m
step_less true n m h = omega arith
step_less false n m h = let l = h refl in omega arith

pub is_found : {X : Type 0} (p : X → Bool) (x : X) (xs : List X) → In x xs → p x ≡ true
    → position_or_len p xs < length xs
is_found p x [] i e = absurd i
is_found p x (y ∷ xs) (inl h) e = let here : p y ≡ true = sym (ap p h) ∙ e in step_less (p y) (position_or_len p xs) (length xs) (λ f. cc)
is_found p x (y ∷ xs) (inr i) e = step_less (p y) (position_or_len p xs) (length xs) (λ f. is_found p x xs i e)

same_place : {X : Type 0} (p q : X → Bool) (xs : List X) → ((x : X) → In x xs → p x ≡ q x)
    → position_or_len p xs ≡ position_or_len q xs
same_place p q [] h = refl
same_place p q (x ∷ xs) h = λ n. cond (not (h x (inl refl) n)) (1 + same_place p q xs (λ y i. h y (inr i)) n) 0

-- an element that passes at an index is not skipped
pub place_before : {X : Type 0} (p : X → Bool) (xs ys : List X) (a : X) → p a ≡ true
    → position_or_len p (xs ++ a ∷ ys) ≡ position_or_len p xs
place_before p [] ys a e = rw e refl
place_before p (x ∷ xs) ys a e = ap (λ n. cond (not (p x)) (1 + n) 0) (place_before p xs ys a e)

pub none_found : {X : Type 0} (p : X → Bool) (xs : List X) → list_any p xs ≡ false → position_or_len p xs ≡ length xs
none_found p [] e = refl
none_found p (x ∷ xs) e = none_step (p x) (list_any p xs) (position_or_len p xs) (length xs) e (none_found p xs)
  where
    none_step : (t u : Bool) (n m : ℕ) → (t || u) ≡ false → (u ≡ false → n ≡ m) → cond (not t) (1 + n) 0 ≡ suc m
    none_step true u n m f h = cc
    none_step false u n m f h = let l = h f in omega arith

some_found : {X : Type 0} (p : X → Bool) (xs : List X) → list_any p xs ≡ true → position_or_len p xs < length xs
some_found p [] e = cc
some_found p (x ∷ xs) e = some_step (p x) (list_any p xs) (position_or_len p xs) (length xs) e (some_found p xs)
  where
    some_step : (t u : Bool) (n m : ℕ) → (t || u) ≡ true → (u ≡ true → n < m) → cond (not t) (1 + n) 0 < suc m
    some_step true u n m f h = omega arith
    some_step false u n m f h = let l = h f in omega arith

-- ---- group indices, one by one

number_at : (f : Act → ℕ) (bots : List Bot) (commands : List Command) (i n : ℕ) (b : Bot) (k : Command)
    → i < length bots → length commands ≡ length bots → b ≡ get_or bots i b → k ≡ get_or commands i k
    → n ≡ get_or (map f (acts bots commands)) i n → n ≡ f (act b k)
number_at f [] commands i n b k h e bi ki ni = absurd (omega arith)
number_at f (x ∷ bots) [] i n b k h e bi ki ni = absurd (omega arith)
number_at f (x ∷ bots) (y ∷ commands) zero n b k h e bi ki ni = ni ∙ (λ j. f (act (sym bi j) (sym ki j)))
number_at f (x ∷ bots) (y ∷ commands) (suc i) n b k h e bi ki ni = number_at f bots commands i n b k (omega arith) (omega arith) bi ki ni

pub drop_acts : (bots : List Bot) (commands : List Command) (i : ℕ) → length commands ≡ length bots
    → drop i (acts bots commands) ≡ acts (drop i bots) (drop i commands)
drop_acts bots commands zero e = refl
drop_acts [] commands (suc i) e = refl
drop_acts (x ∷ bots) [] (suc i) e = absurd (omega arith)
drop_acts (x ∷ bots) (y ∷ commands) (suc i) e = drop_acts bots commands i (omega arith)

pub rest_lengths : {X Y : Type 0} (xs : List X) (ys : List Y) (i : ℕ) → length ys ≡ length xs
    → length (drop i ys) ≡ length (drop i xs)
rest_lengths xs ys zero e = e
rest_lengths [] [] (suc i) e = refl
rest_lengths [] (y ∷ ys) (suc i) e = absurd (omega arith)
rest_lengths (x ∷ xs) [] (suc i) e = absurd (omega arith)
rest_lengths (x ∷ xs) (y ∷ ys) (suc i) e = rest_lengths xs ys i (omega arith)

-- none of the bots before it is of the group of a bot that acts alone
pub alone_before : (bots : List Bot) (commands : List Command) (i : ℕ) (b : Bot) (k : Command) → i < length bots
    → length commands ≡ length bots → b ≡ get_or bots i b → k ≡ get_or commands i k
    → AllPairs (λ a b. a.bid < b.bid) bots → IsTrue (is_alone k)
    → list_any (are_together (act b k)) (acts (take i bots) (take i commands)) ≡ false
alone_before bots commands i b k lt lengths bi ki rising h =
    let up : Rising (map (λ (x : Act). x.bot) (acts bots commands)) = subst (λ (bs : List Bot). Rising bs) (sym (all_bots bots commands lengths)) (rising_is bots rising) in
    none_before (acts (take i bots) (take i commands)) (acts (drop (i + 1) bots) (drop (i + 1) commands)) (act b k) (subst (λ (xs : List Act). Rising (map (λ (x : Act). x.bot) xs)) (split_at bots commands i b k lt lengths bi ki) up) h

-- the group index of the only bot
pub only_number : (bots : List Bot) (commands : List Command) → length bots ≡ 1 → length commands ≡ length bots
    → AreNumbers (acts bots commands) (0 ∷ [])
only_number [] commands e f = absurd (omega arith)
only_number (b ∷ []) [] e f = absurd (omega arith)
only_number (b ∷ []) (k ∷ commands) e f = λ i. cond (not (sym (with_itself (act b k)) i)) (1 + 0) 0 ∷ []
only_number (b ∷ c ∷ bots) commands e f = absurd (omega arith)

-- the bots before an index determine the group index of the bot there
pub first_before : (bots : List Bot) (commands : List Command) (i : ℕ) (b : Bot) (k : Command) → i < length bots
    → length commands ≡ length bots → b ≡ get_or bots i b → k ≡ get_or commands i k
    → position_or_len (are_together (act b k)) (acts (take i bots) (take i commands))
    ≡ group_number (acts bots commands) (act b k)
first_before bots commands i b k lt lengths bi ki =
    sym (ap (position_or_len (are_together (act b k))) (split_at bots commands i b k lt lengths bi ki) ∙ place_before (are_together (act b k)) (acts (take i bots) (take i commands)) (acts (drop (i + 1) bots) (drop (i + 1) commands)) (act b k) (with_itself (act b k)))

-- ---- the bots with the group index

with_map : (f : Act → ℕ) (p : Act → Bool) (n : ℕ) (xs : List Act) → ((x : Act) → In x xs → (f x == n) ≡ p x)
    → with_number n xs (map f xs) ≡ filter p xs
with_map f p n [] h = refl
with_map f p n (x ∷ xs) h = λ i. cond (h x (inl refl) i) (x ∷ with_map f p n xs (λ y j. h y (inr j)) i) (with_map f p n xs (λ y j. h y (inr j)) i)

kept_or_not : (t : Bool) (x : Act) (bots : List Bot) (xs : List Act) → bots ≡ map (λ (y : Act). y.bot) xs
    → cond t (x.bot ∷ bots) bots ≡ map (λ (y : Act). y.bot) (cond t (x ∷ xs) xs)
kept_or_not true x bots xs e = ap (λ (more : List Bot). x.bot ∷ more) e
kept_or_not false x bots xs e = e

bots_numbered : (n : ℕ) (xs : List Act) (ns : List ℕ)
    → with_number n (map (λ (x : Act). x.bot) xs) ns ≡ map (λ (x : Act). x.bot) (with_number n xs ns)
bots_numbered n [] ns = refl
bots_numbered n (x ∷ xs) [] = refl
bots_numbered n (x ∷ xs) (m ∷ ns) = kept_or_not (m == n) x (with_number n (map (λ (y : Act). y.bot) xs) ns) (with_number n xs ns) (bots_numbered n xs ns)

pub of_bots : {Y : Type 0} (f : Bot → Y) (xs : List Act)
    → map f (map (λ (x : Act). x.bot) xs) ≡ map (λ (x : Act). f x.bot) xs
of_bots f [] = refl
of_bots f (x ∷ xs) = ap (λ more. f x.bot ∷ more) (of_bots f xs)

-- the bots with an index are as many as its occurrences
as_long : {A : Type 0} (t : Bool) (x : A) (m : ℕ) (xs : List A) (ns : List ℕ) → length xs ≡ length ns
    → length (cond t (x ∷ xs) xs) ≡ length (cond t (m ∷ ns) ns)
as_long true x m xs ns e = ap suc e
as_long false x m xs ns e = e

pub as_many : {A : Type 0} (n : ℕ) (xs : List A) (ns : List ℕ) → length xs ≡ length ns
    → length (with_number n xs ns) ≡ length (filter (λ m. m == n) ns)
as_many n [] [] e = refl
as_many n [] (m ∷ ns) e = absurd (omega arith)
as_many n (x ∷ xs) [] e = absurd (omega arith)
as_many n (x ∷ xs) (m ∷ ns) e = as_long (m == n) x m (with_number n xs ns) (filter (λ k. k == n) ns) (as_many n xs ns (omega arith))

pub acts_length : (bots : List Bot) (commands : List Command) → length commands ≡ length bots
    → length (acts bots commands) ≡ length bots
acts_length bots commands e = sym (length-map (acts bots commands) (λ (a : Act). a.bot)) ∙ ap length (all_bots bots commands e)

-- there are as many group indices as bots
pub as_many_numbers : (bots : List Bot) (commands : List Command) (numbers : List ℕ) → length commands ≡ length bots
    → AreNumbers (acts bots commands) numbers → length numbers ≡ length bots
as_many_numbers bots commands numbers e are = ap length are ∙ (length-map (acts bots commands) (group_number (acts bots commands)) ∙ acts_length bots commands e)

-- a bot with another index is not among them
pub bot_without : (n : ℕ) (bots : List Bot) (numbers : List ℕ) (i : ℕ) → i < length bots → length numbers ≡ length bots
    → (get_or numbers i 0 == n) ≡ false
    → with_number n (drop i bots) (drop i numbers) ≡ with_number n (drop (i + 1) bots) (drop (i + 1) numbers)
bot_without n [] numbers i l e h = absurd (omega arith)
bot_without n (x ∷ bots) [] i l e h = absurd (omega arith)
bot_without n (x ∷ bots) (m ∷ numbers) zero l e h = ap (λ t. cond t (x ∷ with_number n bots numbers) (with_number n bots numbers)) h
bot_without n (x ∷ bots) (m ∷ numbers) (suc i) l e h =
    let next : suc (i + 1) ≡ suc i + 1 = omega arith in
    bot_without n bots numbers i (omega arith) (omega arith) h ∙ (λ j. with_number n (drop (next j) (x ∷ bots)) (drop (next j) (m ∷ numbers)))

-- those from an index on with the group index: the bot there, if it has it, and those after it
from_place : (n : ℕ) (bots : List Bot) (commands : List Command) (numbers : List ℕ) (i : ℕ) (b : Bot) (k : Command)
    → i < length bots → length commands ≡ length bots → length numbers ≡ length bots → b ≡ get_or bots i b
    → k ≡ get_or commands i k → with_number n (acts (drop i bots) (drop i commands)) (drop i numbers)
    ≡ cond (get_or numbers i 0 == n)
    (act b k ∷ with_number n (acts (drop (i + 1) bots) (drop (i + 1) commands)) (drop (i + 1) numbers))
    (with_number n (acts (drop (i + 1) bots) (drop (i + 1) commands)) (drop (i + 1) numbers))
from_place n [] commands numbers i b k l e f bi ki = absurd (omega arith)
from_place n (x ∷ bots) [] numbers i b k l e f bi ki = absurd (omega arith)
from_place n (x ∷ bots) (y ∷ commands) [] i b k l e f bi ki = absurd (omega arith)
from_place n (x ∷ bots) (y ∷ commands) (m ∷ numbers) zero b k l e f bi ki = λ j. cond (m == n) (act (sym bi j) (sym ki j) ∷ with_number n (acts bots commands) numbers) (with_number n (acts bots commands) numbers)
from_place n (x ∷ bots) (y ∷ commands) (m ∷ numbers) (suc i) b k l e f bi ki =
    let next : suc (i + 1) ≡ suc i + 1 = omega arith in
    from_place n bots commands numbers i b k (omega arith) (omega arith) (omega arith) bi ki
    ∙ (λ j. cond (get_or numbers i 0 == n) (act b k ∷ with_number n (acts (drop (next j) (x ∷ bots)) (drop (next j) (y ∷ commands))) (drop (next j) (m ∷ numbers))) (with_number n (acts (drop (next j) (x ∷ bots)) (drop (next j) (y ∷ commands))) (drop (next j) (m ∷ numbers))))

module _ (n : ℕ) (bots : List Bot) (commands : List Command) (numbers : List ℕ) (i : ℕ) (b : Bot) (k : Command) (lt : i < length bots) (lengths : length commands ≡ length bots) (as_long_as : length numbers ≡ length bots) (bi : b ≡ get_or bots i b) (ki : k ≡ get_or commands i k) where
  abbrev behind : List Act
  behind = with_number n (acts (drop (i + 1) bots) (drop (i + 1) commands)) (drop (i + 1) numbers)

  pub without_it : (get_or numbers i 0 == n) ≡ false
      → with_number n (acts (drop i bots) (drop i commands)) (drop i numbers)
      ≡ with_number n (acts (drop (i + 1) bots) (drop (i + 1) commands)) (drop (i + 1) numbers)
  without_it e = from_place n bots commands numbers i b k lt lengths as_long_as bi ki ∙ ap (λ t. cond t (act b k ∷ behind) behind) e

  pub with_it : (get_or numbers i 0 == n) ≡ true → with_number n (acts (drop i bots) (drop i commands)) (drop i numbers)
      ≡ act b k ∷ with_number n (acts (drop (i + 1) bots) (drop (i + 1) commands)) (drop (i + 1) numbers)
  with_it e = from_place n bots commands numbers i b k lt lengths as_long_as bi ki ∙ ap (λ t. cond t (act b k ∷ behind) behind) e

-- ---- the group indices of a crew

one_bid : (all : List Act) (a b : Act) → Rising (map (λ (x : Act). x.bot) all) → In a all → In b all
    → a.bot.bid ≡ b.bot.bid → a ≡ b
one_bid [] a b h i j e = absurd i
one_bid (x ∷ xs) a b h (inl i) (inl j) e = i ∙ sym j
one_bid (x ∷ xs) a b h (inl i) (inr j) e = absurd (let below_bid : x.bot.bid < b.bot.bid = h.0 b.bot (in_map (λ (y : Act). y.bot) b xs j) in let same_bid : a.bot.bid ≡ x.bot.bid = ap (λ (y : Act). y.bot.bid) i in omega arith)
one_bid (x ∷ xs) a b h (inr i) (inl j) e = absurd (let below_bid : x.bot.bid < a.bot.bid = h.0 a.bot (in_map (λ (y : Act). y.bot) a xs i) in let same_bid : b.bot.bid ≡ x.bot.bid = ap (λ (y : Act). y.bot.bid) j in omega arith)
one_bid (x ∷ xs) a b h (inr i) (inr j) e = one_bid xs a b h.1 i j e

module _ (all : List Act) (apart : AreApart all) where
  same_number : (a b : Act) → In a all → In b all → (group_number all b == group_number all a) ≡ are_together a b
  same_number a b i j = same_truth (group_number all b == group_number all a) (are_together a b) onwards backwards
    where
      first : Act → Act
      first x = get_or all (group_number all x) a

      there : (x : Act) → In x all → In (first x) all × (are_together x (first x) ≡ true)
      there x k =
          let is_found_here = is_found (are_together x) x all k (with_itself x) in
          (place_in a all (group_number all x) is_found_here, passes_at_first (are_together x) all a is_found_here)

      onwards : (group_number all b == group_number all a) ≡ true → are_together a b ≡ true
      onwards e =
          let same : first b ≡ first a = ap (λ n. get_or all n a) (equal_by_test (group_number all b) (group_number all a) e) in
          let of_a = there a i in
          let of_b : are_together b (first a) ≡ true = subst (λ (x : Act). are_together b x ≡ true) same (there b j).1 in
          together_on all apart a (first a) b i of_a.0 j of_a.1 (together_back b (first a) of_b)

      backwards : are_together a b ≡ true → (group_number all b == group_number all a) ≡ true
      backwards t =
          test_equal (group_number all b) (group_number all a) (same_place (are_together b) (are_together a) all (λ x k.
          same_truth (are_together b x) (are_together a x)
          (λ h. together_on all apart a b x i j k t h)
          (λ h. together_on all apart b a x j i k (together_back a b t) h)))

  tells : (a : Act) → In a all → TellsMembers all (map (group_number all) all) (group_number all a) a
  tells a i = with_map (group_number all) (are_together a) (group_number all a) all (λ b j. same_number a b i j)

module _ (bots : List Bot) (commands : List Command) (lengths : length commands ≡ length bots) (crew : IsCrew bots) where
  abbrev all : List Act
  all = acts bots commands

  up : Rising (map (λ (x : Act). x.bot) all)
  up = subst (λ (bs : List Bot). Rising bs) (sym (all_bots bots commands lengths)) (rising_is bots crew.rising)

  apart : AreApart (acts bots commands)
  apart = record {
    bids = λ a b i j e. one_bid all a b up i j e;
    places = λ a b i j e. by a b i j e (pairs_in (λ (x y : Bot). x.pos ≢ y.pos) bots a.bot b.bot crew.positions (bot_in bots commands a i) (bot_in bots commands b j));
  }
    where
      by : (a b : Act) → In a all → In b all → a.bot.pos ≡ b.bot.pos
          → (a.bot ≡ b.bot) ⊎ ((a.bot.pos ≢ b.bot.pos) ⊎ (b.bot.pos ≢ a.bot.pos)) → a ≡ b
      by a b i j e (inl f) = one_bid all a b up i j (ap (λ (x : Bot). x.bid) f)
      by a b i j e (inr (inl f)) = absurd (f e)
      by a b i j e (inr (inr f)) = absurd (f (sym e))

  module _ (numbers : List ℕ) (are : AreNumbers (acts bots commands) numbers) (i : ℕ) (k : Command) (lt : i < length bots) (ki : k ≡ get_or commands i k) where
    abbrev n : ℕ
    n = get_or numbers i 0

    abbrev b : Bot
    b = get_or bots i blank

    abbrev a : Act
    a = act b k

    abbrev xs : List Act
    xs = acts (take i bots) (take i commands)

    abbrev ys : List Act
    ys = acts (drop (i + 1) bots) (drop (i + 1) commands)

    bi : get_or bots i blank ≡ get_or bots i (get_or bots i blank)
    bi = get_or_default bots i blank b lt

    whole : acts bots commands ≡ xs ++ act (get_or bots i blank) k ∷ ys
    whole = split_at bots commands i b k lt lengths bi ki

    there : In (act (get_or bots i blank) k) (acts bots commands)
    there = subst (λ (zs : List Act). In (act b k) zs) (sym whole) (in_middle xs ys a)

    number_is : get_or numbers i 0 ≡ group_number (acts bots commands) (act (get_or bots i blank) k)
    number_is =
        let same = as_many_numbers bots commands numbers lengths are in
        number_at (group_number all) bots commands i n b k lt lengths bi ki (get_or_default numbers i 0 n (omega (arith, same, lt)) ∙ ap (λ ns. get_or ns i n) are)

    -- the group index of the bot determines the members of its group
    pub tells_members : TellsMembers (acts bots commands) numbers (get_or numbers i 0) (act (get_or bots i blank) k)
    tells_members = (λ j. with_number (number_is j) all (are j)) ∙ tells all apart a there

    -- and those of them that are after it
    pub tells_after : with_number (get_or numbers i 0) (take (length bots - (i + 1)) (drop (i + 1) bots))
        (take (length numbers - (i + 1)) (drop (i + 1) numbers)) ≡ map (λ (x : Act). x.bot)
        (filter (are_together (act (get_or bots i blank) k)) (acts (drop (i + 1) bots) (drop (i + 1) commands)))
    tells_after =
        let rest : drop (i + 1) numbers ≡ map (group_number all) ys = ap (drop (i + 1)) are ∙ (drop-map (group_number all) (i + 1) all ∙ ap (map (group_number all)) (drop_acts bots commands (i + 1) lengths)) in
        let bots_are : drop (i + 1) bots ≡ map (λ (x : Act). x.bot) ys = sym (all_bots (drop (i + 1) bots) (drop (i + 1) commands) (rest_lengths bots commands (i + 1) lengths)) in
        (λ j. with_number (number_is j) ((to_end bots (i + 1) ∙ bots_are) j) ((to_end numbers (i + 1) ∙ rest) j))
        ∙ (bots_numbered (group_number all a) ys (map (group_number all) ys)
        ∙ ap (map (λ (x : Act). x.bot)) (with_map (group_number all) (are_together a) (group_number all a) ys (λ x j. same_number all apart a x there (later x j))))
      where
        later : (x : Act) → In x ys → In x all
        later x j = subst (λ (zs : List Act). In x zs) (sym whole) (in_back xs ys a x j)

    -- the bots before it
    before_are : length (acts (take i bots) (take i commands)) ≡ i
    before_are = taken bots commands i lt lengths
      where
        taken : (bots : List Bot) (commands : List Command) (i : ℕ) → i < length bots → length commands ≡ length bots
            → length (acts (take i bots) (take i commands)) ≡ i
        taken [] commands i h e = absurd (omega arith)
        taken (x ∷ bots) [] i h e = absurd (omega arith)
        taken (x ∷ bots) (y ∷ commands) zero h e = refl
        taken (x ∷ bots) (y ∷ commands) (suc i) h e = ap suc (taken bots commands i (omega arith) (omega arith))

    pub number_before : get_or numbers i 0
        ≡ position_or_len (are_together (act (get_or bots i blank) k)) (acts (take i bots) (take i commands))
    number_before = number_is ∙ sym (first_before bots commands i b k lt lengths bi ki)

    -- it leads its group if its group index is its own index
    pub leads_by_number : get_or numbers i 0 ≡ i
        → list_any (are_together (act (get_or bots i blank) k)) (acts (take i bots) (take i commands)) ≡ false
    leads_by_number e = by (list_any (are_together a) xs) refl
      where
        by : (t : Bool) → list_any (are_together a) xs ≡ t → t ≡ false
        by true h = absurd (let found_below = some_found (are_together a) xs h in let before_number = number_before in let levels_before = before_are in omega arith)
        by false h = refl

    pub follows_by_number : (get_or numbers i 0 ≡ i → ⊥)
        → list_any (are_together (act (get_or bots i blank) k)) (acts (take i bots) (take i commands)) ≡ true
    follows_by_number e = by (list_any (are_together a) xs) refl
      where
        by : (t : Bool) → list_any (are_together a) xs ≡ t → t ≡ true
        by true h = refl
        by false h = absurd (e (number_before ∙ (none_found (are_together a) xs h ∙ before_are)))

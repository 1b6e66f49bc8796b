-- Bots with nothing in common: the facts of a crew by its members, and the crew after some bots are
-- replaced.
use Rattle.std.proofs.Common.{◌≡◌, ◌≢◌, ℕ, zero, suc, ◌+◌, ◌<◌, ◌≤◌, refl, sym, ◌∙◌, ap, subst, arith, inl, inr, ◌⊎◌, Bool, true, false, not, ◌==◌, List, [], ◌∷◌, ◌++◌, length, get_or}
use Rattle.std.specs.Prelude.{All, IsTrue, IsFalse}
use Rattle.std.specs.List.{list_any}
use Rattle.vox_geom.proofs.Truths.{false_by}
use Rattle.nano_spec.specs.declared.system.Bot.{Bot}
use Rattle.nano_spec.specs.State.{AreDisjoint, is_seed}
use Rattle.step_order.proofs.Crews.{Differing, differ_append, differing, order_in, rising_order}
use Rattle.step_order.proofs.Facts.{Rising, rising_is, pairs_in}
use Rattle.step_order.proofs.Groups.{differ_filter}
use Rattle.step_order.proofs.Lists.{In, not_both, in_either, in_place, place_in, filter_in}
use Rattle.bot_crew.specs.Crew.{IsBid, IsCrew, replaced, without}

-- a bid or a seed of the bot
abbrev pub Own : Bot → ℕ → Type 0
Own b k = (k ≡ b.bid) ⊎ (is_seed b.seeds k ≡ true)

-- facts of the bots of a crew by membership
pub record IsKin (bots : List Bot) : Type 0 where
  -- bots at one position have one bid
  pub apart : (a b : Bot) → In a bots → In b bots → a.pos ≡ b.pos → a.bid ≡ b.bid
  -- and so have bots to which one number belongs
  pub owns : (a b : Bot) (k : ℕ) → In a bots → In b bots → Own a k → Own b k → a.bid ≡ b.bid
  -- no bot has its bid as a seed
  pub unborn : (a : Bot) → In a bots → is_seed a.seeds a.bid ≡ false
  -- the numbers are 1 to 40
  pub numbers : (a : Bot) (k : ℕ) → In a bots → Own a k → IsBid k

all_in : (P : Bot → Type 0) (bots : List Bot) → All P bots → (a : Bot) → In a bots → P a
all_in P bots h a i = let place = in_place a a bots i in subst (λ (b : Bot). P b) place.2 (h place.0 a place.1)

module _ (bots : List Bot) (crew : IsCrew bots) where
  crew_apart : (a b : Bot) → a.pos ≡ b.pos → (a ≡ b) ⊎ ((a.pos ≢ b.pos) ⊎ (b.pos ≢ a.pos)) → a.bid ≡ b.bid
  crew_apart a b e (inl f) = ap (λ (x : Bot). x.bid) f
  crew_apart a b e (inr (inl f)) = absurd (f e)
  crew_apart a b e (inr (inr f)) = absurd (f (sym e))

  active : (a b : Bot) → In a bots → In b bots → is_seed a.seeds b.bid ≡ false
  active a b i j = all_in (λ b. IsFalse (is_seed a.seeds b.bid)) bots (all_in (λ a. All (λ b. IsFalse (is_seed a.seeds b.bid)) bots) bots crew.unborn a i) b j

  crew_seeds : (a b : Bot) (k : ℕ) → is_seed a.seeds k ≡ true → is_seed b.seeds k ≡ true
      → (a ≡ b) ⊎ (AreDisjoint a.seeds b.seeds ⊎ AreDisjoint b.seeds a.seeds) → a.bid ≡ b.bid
  crew_seeds a b k e f (inl g) = ap (λ (x : Bot). x.bid) g
  crew_seeds a b k e f (inr (inl g)) = absurd (not_both f (g k e))
  crew_seeds a b k e f (inr (inr g)) = absurd (not_both e (g k f))

  crew_owns : (a b : Bot) (k : ℕ) → In a bots → In b bots → Own a k → Own b k → a.bid ≡ b.bid
  crew_owns a b k i j (inl e) (inl f) = sym e ∙ f
  crew_owns a b k i j (inl e) (inr f) = absurd (not_both f (ap (is_seed b.seeds) e ∙ active b a j i))
  crew_owns a b k i j (inr e) (inl f) = absurd (not_both e (ap (is_seed a.seeds) f ∙ active a b i j))
  crew_owns a b k i j (inr e) (inr f) = crew_seeds a b k e f (pairs_in (λ a b. AreDisjoint a.seeds b.seeds) bots a b crew.seeds i j)

  crew_numbers : (a : Bot) (k : ℕ) → In a bots → Own a k → IsBid k
  crew_numbers a k i (inl e) = subst (λ v. IsBid v) (sym e) (all_in (λ a. IsBid a.bid) bots crew.bids a i)
  crew_numbers a k i (inr e) = all_in (λ a. (k : ℕ) → IsTrue (is_seed a.seeds k) → IsBid k) bots crew.numbers a i k e

  pub kin_of : IsKin bots
  kin_of = record {
    apart = λ a b i j e. crew_apart a b e (pairs_in (λ a b. a.pos ≢ b.pos) bots a b crew.positions i j);
    owns = crew_owns;
    unborn = λ a i. active a a i i;
    numbers = crew_numbers;
  }

  pub rising_of : Rising bots
  rising_of = rising_is bots crew.rising

-- ---- a crew from its members

pub rising_pairs : (bots : List Bot) → Rising bots → (i j : ℕ) (d : Bot) → i < j → j < length bots
    → (get_or bots i d).bid < (get_or bots j d).bid
rising_pairs [] r i j d l m = absurd (omega arith)
rising_pairs (x ∷ xs) r zero zero d l m = absurd (omega arith)
rising_pairs (x ∷ xs) r zero (suc j) d l m = r.0 (get_or xs j d) (place_in d xs j (omega arith))
rising_pairs (x ∷ xs) r (suc i) zero d l m = absurd (omega arith)
rising_pairs (x ∷ xs) r (suc i) (suc j) d l m = rising_pairs xs r.1 i j d (omega arith) (omega arith)

few : (least : ℕ) (bots : List Bot) → least ≤ 41 → Rising bots
    → ((c : Bot) → In c bots → (least ≤ c.bid) × (c.bid ≤ 40)) → length bots + least ≤ 41
few least [] l r h = omega arith
few least (x ∷ xs) l r h =
    let b = h x (inl refl) in
    let rest = few (x.bid + 1) xs (omega arith) r.1 (λ c i. let below_bid : x.bid < c.bid = r.0 c i in (omega arith, (h c (inr i)).1)) in
    omega arith

pub crew_of : (bots : List Bot) → Rising bots → IsKin bots → IsCrew bots
crew_of bots r kin = record {
  most = let few_enough = few 1 bots (omega arith) r (λ c i. kin.numbers c c.bid i (inl refl)) in omega arith;
  rising = rising_pairs bots r;
  positions = λ i j d l m e. differ i j d l m (kin.apart (get_or bots i d) (get_or bots j d) (place_in d bots i (omega arith)) (place_in d bots j m) e);
  seeds = λ i j d l m k e. false_by (is_seed (get_or bots j d).seeds k) (λ f. differ i j d l m (kin.owns (get_or bots i d) (get_or bots j d) k (place_in d bots i (omega arith)) (place_in d bots j m) (inr e) (inr f)));
  unborn = λ i d l j e m. false_by (is_seed (get_or bots i d).seeds (get_or bots j e).bid) (λ f. own (get_or bots i d) (get_or bots j e) (place_in d bots i l) (place_in e bots j m) f);
  bids = λ i d l. kin.numbers (get_or bots i d) (get_or bots i d).bid (place_in d bots i l) (inl refl);
  numbers = λ i d l k e. kin.numbers (get_or bots i d) k (place_in d bots i l) (inr e);
}
  where
    differ : (i j : ℕ) (d : Bot) → i < j → j < length bots → (get_or bots i d).bid ≡ (get_or bots j d).bid → ⊥
    differ i j d l m e = let rises = rising_pairs bots r i j d l m in omega arith

    own : (a b : Bot) → In a bots → In b bots → is_seed a.seeds b.bid ≡ true → ⊥
    own a b i j f = not_both f (ap (is_seed a.seeds) (sym (kin.owns a b b.bid i j (inr f) (inl refl))) ∙ kin.unborn a i)

-- ---- some bots replaced

-- the conditions on bots that replace those with some bids
pub record IsHeir (bots : List Bot) (bids : List ℕ) (news : List Bot) : Type 0 where
  pub differ : Differing news
  pub apart : (a b : Bot) → In a news → In b news → a.pos ≡ b.pos → a.bid ≡ b.bid
  pub owns : (a b : Bot) (k : ℕ) → In a news → In b news → Own a k → Own b k → a.bid ≡ b.bid
  pub unborn : (a : Bot) → In a news → is_seed a.seeds a.bid ≡ false
  -- their numbers were those of the bots that they replace
  pub heirs : (a : Bot) (k : ℕ) → In a news → Own a k
      → (b : Bot) × In b bots × (list_any (λ j. j == b.bid) bids ≡ true) × Own b k
  -- and no other bot is at their positions
  pub free : (a b : Bot) → In a news → In b bots → a.pos ≡ b.pos → list_any (λ j. j == b.bid) bids ≡ true

module _ (bots : List Bot) (rising : Rising bots) (kin : IsKin bots) (bids : List ℕ) (news : List Bot) (heir : IsHeir bots bids news) where
  untrue : (b : Bool) → not b ≡ true → b ≡ false
  untrue true e = cc
  untrue false e = refl

  kept : (e : Bot) → In e (without bots bids) → In e bots × (list_any (λ j. j == e.bid) bids ≡ false)
  kept e i = let passed = filter_in (λ b. not (list_any (λ j. j == b.bid) bids)) e bots i in (passed.0, untrue (list_any (λ j. j == e.bid) bids) passed.1)

  cross : (c e : Bot) (k : ℕ) → In c news → In e (without bots bids) → Own c k → Own e k → ⊥
  cross c e k i j o p =
      let heirs = heir.heirs c k i o in
      let kept_there = kept e j in
      not_both heirs.2 (ap (λ v. list_any (λ j. j == v) bids) (kin.owns heirs.0 e k heirs.1 kept_there.0 heirs.3 p) ∙ kept_there.1)

  clear : (c e : Bot) → In c news → In e (without bots bids) → c.pos ≡ e.pos → ⊥
  clear c e i j f = let kept_there = kept e j in not_both (heir.free c e i kept_there.0 f) kept_there.1

  pub differ_all : Differing (news ++ without bots bids)
  differ_all = differ_append news (without bots bids) heir.differ (differ_filter (λ b. b.bid) (λ b. not (list_any (λ j. j == b.bid) bids)) bots (differing bots rising)) (λ c e i j f. cross c e c.bid i j (inl refl) (inl f))

  part : (c : Bot) → In c (replaced bots bids news) → In c news ⊎ In c (without bots bids)
  part c i = in_either c news (without bots bids) (order_in (news ++ without bots bids) c i)

  by_apart : (a b : Bot) → a.pos ≡ b.pos → In a news ⊎ In a (without bots bids) → In b news ⊎ In b (without bots bids)
      → a.bid ≡ b.bid
  by_apart a b e (inl i) (inl j) = heir.apart a b i j e
  by_apart a b e (inl i) (inr j) = absurd (clear a b i j e)
  by_apart a b e (inr i) (inl j) = absurd (clear b a j i (sym e))
  by_apart a b e (inr i) (inr j) = kin.apart a b (kept a i).0 (kept b j).0 e

  by_owns : (a b : Bot) (k : ℕ) → Own a k → Own b k → In a news ⊎ In a (without bots bids)
      → In b news ⊎ In b (without bots bids) → a.bid ≡ b.bid
  by_owns a b k o p (inl i) (inl j) = heir.owns a b k i j o p
  by_owns a b k o p (inl i) (inr j) = absurd (cross a b k i j o p)
  by_owns a b k o p (inr i) (inl j) = absurd (cross b a k j i p o)
  by_owns a b k o p (inr i) (inr j) = kin.owns a b k (kept a i).0 (kept b j).0 o p

  by_unborn : (a : Bot) → In a news ⊎ In a (without bots bids) → is_seed a.seeds a.bid ≡ false
  by_unborn a (inl i) = heir.unborn a i
  by_unborn a (inr i) = kin.unborn a (kept a i).0

  by_numbers : (a : Bot) (k : ℕ) → Own a k → In a news ⊎ In a (without bots bids) → IsBid k
  by_numbers a k o (inl i) = let heirs = heir.heirs a k i o in kin.numbers heirs.0 k heirs.1 heirs.3
  by_numbers a k o (inr i) = kin.numbers a k (kept a i).0 o

  pub rising_replaced : Rising (replaced bots bids news)
  rising_replaced = rising_order (news ++ without bots bids) differ_all

  -- bots replaced by heirs are a crew
  pub crew_replaced : IsCrew (replaced bots bids news)
  crew_replaced = crew_of (replaced bots bids news) rising_replaced (record {
    apart = λ a b i j e. by_apart a b e (part a i) (part b j);
    owns = λ a b k i j o p. by_owns a b k o p (part a i) (part b j);
    unborn = λ a i. by_unborn a (part a i);
    numbers = λ a k i o. by_numbers a k o (part a i);
  })

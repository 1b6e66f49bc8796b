-- Rising bots: the index of a bid among them, and the result of a write, an insertion and a removal there.
use Rattle.std.proofs.Common.{◌≡◌, ℕ, zero, suc, ◌<◌, ◌≤◌, refl, sym, ◌∙◌, ap, arith, inl, inr, ◌⊎◌, Bool, true, false, cond, ◌||◌, not, ◌==◌, List, [], ◌∷◌, length, get_or, set}
use Rattle.std.specs.Prelude.{Some, None, IsSome, nat_lt}
use Rattle.std.specs.List.{list_any, insert, remove}
use Rattle.std.proofs.lemmas.Bool.{cases_order}
use Rattle.std.proofs.lemmas.Bool.Decides.{Decides-eqb}
use Rattle.vox_geom.proofs.Tests.{test_equal, test_less, test_not_less, test_unequal}
use Rattle.nano_spec.specs.declared.system.Bot.{Bot}
use Rattle.nano_spec.specs.Bots.{in_rising_order, with_bot}
use Rattle.step_order.proofs.Crews.{Differing, order_in, in_order, rising_order, rising_same, rising_itself}
use Rattle.step_order.proofs.Facts.{Rising}
use Rattle.step_order.proofs.Lists.{In, not_both, in_place, place_in, filter_every, filter_same, filter_within, filter_in, none_find}
use Rattle.bot_crew.specs.Crew.{bot_of, without}
use Rattle.bot_crew.proofs.Kin.{rising_pairs}

-- ---- the index of a bid

-- the index of a bid: those before it have lesser bids, and the one there has not
pub record IsPlace (bots : List Bot) (bid i : ℕ) : Type 0 where
  pub within : i ≤ length bots
  pub before : (k : ℕ) (d : Bot) → k < i → (get_or bots k d).bid < bid
  pub from : (d : Bot) → i < length bots → bid ≤ (get_or bots i d).bid

pub found_at : (bots : List Bot) (bid i : ℕ) (d : Bot) → i < length bots
    → ((k : ℕ) → k < i → (get_or bots k d).bid < bid) → (get_or bots i d).bid ≡ bid
    → bot_of bots bid ≡ Some (get_or bots i d)
found_at [] bid i d l b e = absurd (omega arith)
found_at (x ∷ xs) bid zero d l b e = let same_bid : (x.bid == bid) ≡ true = test_equal x.bid bid e in rw same_bid refl
found_at (x ∷ xs) bid (suc i) d l b e =
    let below_bid : x.bid < bid = b zero (omega arith) in
    let other_bid : (x.bid == bid) ≡ false = test_unequal x.bid bid (λ g. omega arith) in
    rw other_bid (found_at xs bid i d (omega arith) (λ k n. b (suc k) (omega arith)) e)

pub none_at : (bots : List Bot) (bid i : ℕ) → Rising bots → IsPlace bots bid i
    → ((d : Bot) → i < length bots → (get_or bots i d).bid ≡ bid → ⊥) → (c : Bot) → In c bots → c.bid ≡ bid → ⊥
none_at bots bid i r p h c j e = let place = in_place c c bots j in by place.0 place.1 (ap (λ (x : Bot). x.bid) place.2 ∙ e) (cases_order place.0 i)
  where
    by : (k : ℕ) → k < length bots → (get_or bots k c).bid ≡ bid → (k ≡ i) ⊎ ((k < i) ⊎ (i < k)) → ⊥
    by k l f (inl g) = h c (omega arith) (ap (λ v. (get_or bots v c).bid) (sym g) ∙ f)
    by k l f (inr (inl g)) = let before = p.before k c g in omega arith
    by k l f (inr (inr g)) = let below_bid : (get_or bots i c).bid < (get_or bots k c).bid = rising_pairs bots r i k c g l in let at_most_bid : bid ≤ (get_or bots i c).bid = p.from c (omega arith) in omega arith

-- no bot with the bid is active if none is at its index
pub none_found : (bots : List Bot) (bid i : ℕ) → Rising bots → IsPlace bots bid i
    → ((d : Bot) → i < length bots → (get_or bots i d).bid ≡ bid → ⊥) → bot_of bots bid ≡ None
none_found bots bid i r p h = none_find (λ b. b.bid == bid) bots (λ c j. test_unequal c.bid bid (none_at bots bid i r p h c j))

decided : (bots : List Bot) (bid i : ℕ) → ((i < length bots) × ((d : Bot) → (get_or bots i d).bid ≡ bid))
    ⊎ ((d : Bot) → i < length bots → (get_or bots i d).bid ≡ bid → ⊥)
decided [] bid i = inr (λ d l e. absurd (omega arith))
decided (x ∷ xs) bid zero = by (x.bid == bid) refl
  where
    by : (b : Bool) → (x.bid == bid) ≡ b
        → ((0 < length (x ∷ xs)) × ((d : Bot) → x.bid ≡ bid)) ⊎ ((d : Bot) → 0 < length (x ∷ xs) → x.bid ≡ bid → ⊥)
    by true e = inl (omega arith, λ d. (Decides-eqb x.bid bid).0 e)
    by false e = inr (λ d l f. not_both (test_equal x.bid bid f) e)
decided (x ∷ xs) bid (suc i) = by (decided xs bid i)
  where
    by : ((i < length xs) × ((d : Bot) → (get_or xs i d).bid ≡ bid))
        ⊎ ((d : Bot) → i < length xs → (get_or xs i d).bid ≡ bid → ⊥)
        → ((suc i < length (x ∷ xs)) × ((d : Bot) → (get_or xs i d).bid ≡ bid))
        ⊎ ((d : Bot) → suc i < length (x ∷ xs) → (get_or xs i d).bid ≡ bid → ⊥)
    by (inl h) = inl (omega (arith, h.0), h.1)
    by (inr h) = inr (λ d l e. h d (omega arith) e)

-- an active bot is at the index of its bid
pub placed : (bots : List Bot) (bid i : ℕ) → Rising bots → IsPlace bots bid i → IsSome (bot_of bots bid)
    → (i < length bots) × ((d : Bot) → (get_or bots i d).bid ≡ bid)
placed bots bid i r p s = by (decided bots bid i)
  where
    nothing : bot_of bots bid ≡ None → ⊥
    nothing e = none_some (rw e at s)
      where
        none_some : IsSome {T = Bot} None → ⊥
        none_some h = cc

    by : ((i < length bots) × ((d : Bot) → (get_or bots i d).bid ≡ bid))
        ⊎ ((d : Bot) → i < length bots → (get_or bots i d).bid ≡ bid → ⊥)
        → (i < length bots) × ((d : Bot) → (get_or bots i d).bid ≡ bid)
    by (inl h) = h
    by (inr h) = absurd (nothing (none_found bots bid i r p h))

-- ---- writes at an index

is_kept : (bid : ℕ) (x : Bot) → (bid ≡ x.bid → ⊥) → not (list_any (λ k. k == x.bid) (bid ∷ [])) ≡ true
is_kept bid x h = let other_bid : (bid == x.bid) ≡ false = test_unequal bid x.bid h in rw other_bid refl

not_kept : (bid : ℕ) (x : Bot) → bid ≡ x.bid → not (list_any (λ k. k == x.bid) (bid ∷ [])) ≡ false
not_kept bid x h = let same_bid : (bid == x.bid) ≡ true = test_equal bid x.bid h in rw same_bid refl

-- a removal
pub remove_is : (bots : List Bot) (bid i : ℕ) → Rising bots → i < length bots
    → ((d : Bot) → (get_or bots i d).bid ≡ bid) → remove bots i ≡ without bots (bid ∷ [])
remove_is [] bid i r l e = absurd (omega arith)
remove_is (x ∷ xs) bid zero r l e =
    rw (not_kept bid x (sym (e x))) (sym (filter_every (λ b. not (list_any (λ k. k == b.bid) (bid ∷ []))) xs (λ c j. is_kept bid c (λ f. let below_bid : x.bid < c.bid = r.0 c j in let same_bid : x.bid ≡ bid = e x in omega arith))))
remove_is (x ∷ xs) bid (suc i) r l e =
    let bid_below : x.bid < (get_or xs i x).bid = r.0 (get_or xs i x) (place_in x xs i (omega arith)) in
    let bid_is : (get_or xs i x).bid ≡ bid = e x in
    rw (is_kept bid x (λ f. omega arith)) (ap (λ ys. x ∷ ys) (remove_is xs bid i r.1 (omega arith) e))

pub without_rises : (bots : List Bot) (bids : List ℕ) → Rising bots → Rising (without bots bids)
without_rises [] bids r = tt
without_rises (x ∷ xs) bids r = by (not (list_any (λ k. k == x.bid) bids)) (without_rises xs bids r.1)
  where
    by : (b : Bool) → Rising (without xs bids) → Rising (cond b (x ∷ without xs bids) (without xs bids))
    by true later = ((λ c i. r.0 c (filter_in (λ b. not (list_any (λ k. k == b.bid) bids)) c xs i).0), later)
    by false later = later

-- a write that keeps the bid
pub set_is : (bots : List Bot) (bid i : ℕ) (new : Bot) → Rising bots → i < length bots
    → ((d : Bot) → (get_or bots i d).bid ≡ bid) → new.bid ≡ bid
    → set bots i new ≡ in_rising_order (new ∷ without bots (bid ∷ []))
set_is [] bid i new r l e n = absurd (omega arith)
set_is (x ∷ xs) bid zero new r l e n =
    let same : new.bid ≡ x.bid = n ∙ sym (e x) in
    rw (not_kept bid x (sym (e x)), filter_every (λ b. not (list_any (λ k. k == b.bid) (bid ∷ []))) xs (λ c j. is_kept bid c (λ f. let below_bid : x.bid < c.bid = r.0 c j in let same_bid : x.bid ≡ bid = e x in omega arith)))
    (sym (rising_itself (new ∷ xs) ((λ c j. let below_bid : x.bid < c.bid = r.0 c j in omega arith), r.1)))
set_is (x ∷ xs) bid (suc i) new r l e n =
    let bid_below : x.bid < (get_or xs i x).bid = r.0 (get_or xs i x) (place_in x xs i (omega arith)) in
    let bid_is : (get_or xs i x).bid ≡ bid = e x in
    let ws = without xs (bid ∷ []) in
    let rest : set xs i new ≡ with_bot new ws = set_is xs bid i new r.1 (omega arith) e n ∙ ap (λ ys. with_bot new ys) (rising_itself ws (without_rises xs (bid ∷ []) r.1)) in
    let rises : Rising (x ∷ ws) = ((λ c j. r.0 c (filter_in (λ b. not (list_any (λ k. k == b.bid) (bid ∷ []))) c xs j).0), without_rises xs (bid ∷ []) r.1) in
    let after : nat_lt new.bid x.bid ≡ false = test_not_less new.bid x.bid (omega arith) in
    let one : with_bot new (x ∷ ws) ≡ x ∷ with_bot new ws = rw after refl in
    rw (is_kept bid x (λ f. omega arith)) (ap (λ ys. x ∷ ys) rest ∙ (sym one ∙ ap (λ ys. with_bot new ys) (sym (rising_itself (x ∷ ws) rises))))

insert_with : (bots : List Bot) (i : ℕ) (new : Bot) → i ≤ length bots
    → ((k : ℕ) (d : Bot) → k < i → (get_or bots k d).bid < new.bid)
    → ((d : Bot) → i < length bots → new.bid < (get_or bots i d).bid) → insert bots i new ≡ with_bot new bots
insert_with [] zero new l b f = refl
insert_with [] (suc i) new l b f = absurd (omega arith)
insert_with (x ∷ xs) zero new l b f = let is_less : nat_lt new.bid x.bid ≡ true = test_less new.bid x.bid (f x (omega arith)) in rw is_less refl
insert_with (x ∷ xs) (suc i) new l b f =
    let below_bid : x.bid < new.bid = b zero x (omega arith) in
    let not_nat_lt : nat_lt new.bid x.bid ≡ false = test_not_less new.bid x.bid (omega arith) in
    rw not_nat_lt (ap (λ ys. x ∷ ys) (insert_with xs i new (omega arith) (λ k d h. b (suc k) d (omega arith)) (λ d h. f d (omega arith))))

-- an insertion at the index of a bid that no bot has
pub insert_is : (bots : List Bot) (i : ℕ) (new : Bot) → Rising bots → IsPlace bots new.bid i
    → ((c : Bot) → In c bots → c.bid ≡ new.bid → ⊥) → insert bots i new ≡ in_rising_order (new ∷ bots)
insert_is bots i new r p h =
    insert_with bots i new p.within p.before (λ d l. let at_most_bid : new.bid ≤ (get_or bots i d).bid = p.from d l in let differs : (get_or bots i d).bid ≡ new.bid → ⊥ = h (get_or bots i d) (place_in d bots i l) in strict new.bid (get_or bots i d).bid at_most_bid differs)
    ∙ ap (λ ys. with_bot new ys) (sym (rising_itself bots r))
  where
    strict : (a b : ℕ) → a ≤ b → (b ≡ a → ⊥) → a < b
    strict a b l ne = grind arith

-- ---- orders

swapped_in : (a b c : Bot) (xs : List Bot) → In c (a ∷ b ∷ xs) → In c (b ∷ a ∷ xs)
swapped_in a b c xs (inl e) = inr (inl e)
swapped_in a b c xs (inr (inl e)) = inl e
swapped_in a b c xs (inr (inr i)) = inr (inr i)

pub order_swap : (a b : Bot) (xs : List Bot) → Differing (a ∷ b ∷ xs)
    → in_rising_order (b ∷ a ∷ xs) ≡ in_rising_order (a ∷ b ∷ xs)
order_swap a b xs d =
    rising_same (in_rising_order (b ∷ a ∷ xs)) (in_rising_order (a ∷ b ∷ xs)) (rising_order (b ∷ a ∷ xs) other) (rising_order (a ∷ b ∷ xs) d)
    (λ c i. in_order (a ∷ b ∷ xs) c (swapped_in b a c xs (order_in (b ∷ a ∷ xs) c i)))
    (λ c i. in_order (b ∷ a ∷ xs) c (swapped_in a b c xs (order_in (a ∷ b ∷ xs) c i)))
  where
    first : (c : Bot) → In c (a ∷ xs) → b.bid ≡ c.bid → ⊥
    first c (inl e) f = d.0 b (inl refl) (sym (f ∙ ap (λ (x : Bot). x.bid) e))
    first c (inr i) f = d.1.0 c i f

    other : Differing (b ∷ a ∷ xs)
    other = ((λ c i f. first c i f), ((λ c i f. d.0 c (inr i) f), d.1.1))

-- two bids taken out one after another
pub without_both : (bots : List Bot) (a b : ℕ) → without (without bots (b ∷ [])) (a ∷ []) ≡ without bots (a ∷ b ∷ [])
without_both bots a b =
    filter_same (λ x. not (list_any (λ k. k == x.bid) (a ∷ []))) (λ x. not (list_any (λ k. k == x.bid) (a ∷ b ∷ []))) (without bots (b ∷ [])) (λ x i. second (a == x.bid) (b == x.bid) (filter_in (λ x. not (list_any (λ k. k == x.bid) (b ∷ []))) x bots i).1)
    ∙ filter_within (λ x. not (list_any (λ k. k == x.bid) (b ∷ []))) (λ x. not (list_any (λ k. k == x.bid) (a ∷ b ∷ []))) bots (λ x i. wider (a == x.bid) (b == x.bid))
  where
    second : (p q : Bool) → not (q || false) ≡ true → not (p || false) ≡ not (p || (q || false))
    second true q e = refl
    second false true e = cc
    second false false e = refl

    wider : (p q : Bool) → not (p || (q || false)) ≡ true → not (q || false) ≡ true
    wider true q e = cc
    wider false q e = e

-- The bots after a move, a Fission and a Fusion have nothing in common with each other or with the unchanged ones.
use Rattle.std.proofs.Common.{◌≡◌, ℕ, zero, suc, ◌+◌, ◌<◌, ◌≤◌, refl, sym, ◌∙◌, ap, subst, arith, inl, inr, ◌⊎◌, Bool, true, false, ◌&&◌, ◌||◌, ◌==◌, List, [], ◌∷◌, length, take, drop}
use Rattle.std.specs.Prelude.{Option, Some, None, IfSome, IsNone, filter, find, nat_le, slice_index}
use Rattle.std.specs.List.{list_any}
use Rattle.std.proofs.lemmas.Bool.Decides.{nat_tests, Decides-eqb}
use Rattle.std.proofs.lemmas.List.{drop-drop}
use Rattle.vox_geom.specs.declared.coordinate.Coord.{Coord}
use Rattle.vox_geom.specs.Point.{point}
use Rattle.vox_geom.specs.Space.{numbers_from}
use Rattle.vox_geom.proofs.Truths.{false_by, first_of_two, one_of_two, second_of_two, true_by_false}
use Rattle.vox_geom.proofs.Tests.{test_equal}
use Rattle.nano_spec.specs.declared.system.Bot.{Bot}
use Rattle.nano_spec.specs.Bots.{fused, moved, newborn, parent}
use Rattle.nano_spec.specs.declared.system.Profile.{Profile}
use Rattle.nano_spec.specs.State.{first_bot, is_seed, seed_list, seed_numbers, seed_set}
use Rattle.nano_spec.proofs.Opening.{first_bid}
use Rattle.nano_spec.proofs.Seeds.{Rising as NumbersRise, contains, none_below, seed_is, numbers_rise, filter_rises, drop_rises, take_rises, filtered, none_dropped, none_taken}
use Rattle.nano_spec.proofs.Alike.{list_rises}
use Rattle.step_order.proofs.Crews.{first_seed}
use Rattle.step_order.proofs.Lists.{In, not_both, find_none}
use Rattle.step_order.proofs.Kin.{of_list}
use Rattle.bot_crew.specs.Crew.{IsBid, IsCrew, bot_at, stands_at}
use Rattle.bot_crew.proofs.Kin.{IsHeir, IsKin, Own, crew_of}

-- ---- the bot at a coordinate

pub stands : (c : Coord) (b : Bot) → b.pos ≡ c → stands_at c b ≡ true
stands c b e =
    let same_x : (b.pos.x == c.x) ≡ true = test_equal b.pos.x c.x (ap (λ (v : Coord). v.x) e) in
    let same_y : (b.pos.y == c.y) ≡ true = test_equal b.pos.y c.y (ap (λ (v : Coord). v.y) e) in
    let same_z : (b.pos.z == c.z) ≡ true = test_equal b.pos.z c.z (ap (λ (v : Coord). v.z) e) in
    rw (same_x, same_y, same_z) refl

pub stood : (c : Coord) (b : Bot) → stands_at c b ≡ true → b.pos ≡ c
stood c b h =
    let rest = second_of_two (b.pos.x == c.x) ((b.pos.y == c.y) && (b.pos.z == c.z)) h in
    let same_x = (Decides-eqb b.pos.x c.x).0 (first_of_two (b.pos.x == c.x) ((b.pos.y == c.y) && (b.pos.z == c.z)) h) in
    let same_y = (Decides-eqb b.pos.y c.y).0 (first_of_two (b.pos.y == c.y) (b.pos.z == c.z) rest) in
    let same_z = (Decides-eqb b.pos.z c.z).0 (second_of_two (b.pos.y == c.y) (b.pos.z == c.z) rest) in
    λ i. record { x = same_x i; y = same_y i; z = same_z i }

pub found_in : (p : Bot → Bool) (bots : List Bot) (b : Bot) → find p bots ≡ Some b → In b bots × (p b ≡ true)
found_in p [] b e = cc
found_in p (x ∷ xs) b e = by (p x) refl (found_in p xs b)
  where
    by : (t : Bool) → p x ≡ t → (find p xs ≡ Some b → In b xs × (p b ≡ true)) → In b (x ∷ xs) × (p b ≡ true)
    by true f later = let same_some : Some x ≡ Some b = rw f at e in let b_is : b ≡ x = cc in (inl b_is, ap p b_is ∙ f)
    by false f later = let later_on = later (rw f at e) in (inr later_on.0, later_on.1)

module _ (bots : List Bot) (c : Coord) where
  -- no bot is there if none is found
  pub none_there : IsNone (bot_at bots c) → (e : Bot) → In e bots → e.pos ≡ c → ⊥
  none_there h e i f = by (bot_at bots c) refl h
    where
      by : (o : Option Bot) → bot_at bots c ≡ o → IsNone o → ⊥
      by None g n = not_both (stands c e f) (find_none (stands_at c) e bots g i)
      by (Some b) g n = cc

  -- all bots at a coordinate have the bid of the one found there
  pub only_there : (bid : ℕ) → IsKin bots → IfSome (bot_at bots c) (λ b. b.bid ≡ bid) → (e : Bot) → In e bots
      → e.pos ≡ c → e.bid ≡ bid
  only_there bid kin h e i f = by (bot_at bots c) refl h
    where
      by : (o : Option Bot) → bot_at bots c ≡ o → IfSome o (λ b. b.bid ≡ bid) → e.bid ≡ bid
      by None g n = absurd (not_both (stands c e f) (find_none (stands_at c) e bots g i))
      by (Some b) g n = let found_there = found_in (stands_at c) bots b g in kin.apart e b i found_there.0 (f ∙ sym (stood c b found_there.1)) ∙ n

-- ---- seeds

cut_apart : (m a : ℕ) (ks : List ℕ) (k : ℕ) → NumbersRise a ks → contains (take m ks) k ≡ true
    → contains (drop m ks) k ≡ true → ⊥
cut_apart zero a ks k r e f = cc
cut_apart (suc m) a [] k r e f = cc
cut_apart (suc m) a (j ∷ ks) k r e f = by (one_of_two (k == j) (contains (take m ks) k) e) (λ g. cut_apart m (j + 1) ks k r.1 g f)
  where
    by : ((k == j) ≡ true) ⊎ (contains (take m ks) k ≡ true) → (contains (take m ks) k ≡ true → ⊥) → ⊥
    by (inl g) later = let k_is : k ≡ j = (Decides-eqb k j).0 g in not_both f (none_dropped m ks k (none_below (j + 1) ks r.1 k (omega arith)))
    by (inr g) later = later g

head_apart : (ks : List ℕ) → NumbersRise 0 ks → contains (drop 1 ks) (slice_index ks 0) ≡ false
head_apart [] r = refl
head_apart (j ∷ ks) r = none_below (j + 1) ks r.1 j (omega arith)

one_in : (a b : ℕ) → a ≡ b → ((a == b) || false) ≡ true
one_in a b e = let a_is_b : (a == b) ≡ true = test_equal a b e in rw a_is_b refl

-- ---- a move

pub move_heir : (bots : List Bot) (kin : IsKin bots) (b : Bot) (c : Coord) → In b bots
    → ((e : Bot) → In e bots → e.pos ≡ c → e.bid ≡ b.bid) → IsHeir bots (b.bid ∷ []) (moved b (point c) ∷ [])
move_heir bots kin b c i free = record {
  differ = ((λ x j e. j), tt);
  apart = λ x y j k e. bid_of x j ∙ sym (bid_of y k);
  owns = λ x y n j k o p. bid_of x j ∙ sym (bid_of y k);
  unborn = λ x j. subst (λ (v : Bot). is_seed v.seeds v.bid ≡ false) (sym (is x j)) (kin.unborn b i);
  heirs = λ x k j o. (b, i, one_in b.bid b.bid refl, subst (λ (v : Bot). Own v k) (is x j) o);
  free = λ x e j k f. one_in b.bid e.bid (sym (free e k (sym f ∙ ap (λ (v : Bot). v.pos) (is x j))));
}
  where
    is : (x : Bot) → In x (moved b (point c) ∷ []) → x ≡ moved b (point c)
    is x (inl e) = e
    is x (inr j) = absurd j

    bid_of : (x : Bot) → In x (moved b (point c) ∷ []) → x.bid ≡ b.bid
    bid_of x j = ap (λ (v : Bot). v.bid) (is x j)

-- ---- a Fission

turn : (m : ℕ) → 1 + m ≡ m + 1
turn m = omega arith

module _ (bots : List Bot) (kin : IsKin bots) (b : Bot) (c : Coord) (m : ℕ) (i : In b bots) (enough : m + 1 ≤ length (seed_list b.seeds)) (free : (e : Bot) → In e bots → e.pos ≡ c → ⊥) where
  least : is_seed b.seeds (slice_index (seed_list b.seeds) 0) ≡ true
  least = first_seed b.seeds m (not_fewer (length (seed_list b.seeds)) m enough)
    where
      not_fewer : (n m : ℕ) → m + 1 ≤ n → nat_le n m ≡ false
      not_fewer n m h = grind (arith, nat_tests)

  old_in : (k : ℕ) → is_seed (parent b m).seeds k ≡ contains (drop (m + 1) (seed_list b.seeds)) k
  old_in k = seed_is 0 (drop (m + 1) (seed_list b.seeds)) (drop_rises (m + 1) 0 (seed_list b.seeds) (list_rises b.seeds)) k

  new_in : (k : ℕ) → is_seed (newborn b (point c) m).seeds k ≡ contains (take m (drop 1 (seed_list b.seeds))) k
  new_in k = seed_is 0 (take m (drop 1 (seed_list b.seeds))) (take_rises m 0 (drop 1 (seed_list b.seeds)) (drop_rises 1 0 (seed_list b.seeds) (list_rises b.seeds))) k

  old_seed : (k : ℕ) → is_seed (parent b m).seeds k ≡ true → is_seed b.seeds k ≡ true
  old_seed k e = of_list b.seeds k (true_by_false (contains (seed_list b.seeds) k) (contains (drop (m + 1) (seed_list b.seeds)) k) (none_dropped (m + 1) (seed_list b.seeds) k) (sym (old_in k) ∙ e))

  new_seed : (k : ℕ) → is_seed (newborn b (point c) m).seeds k ≡ true → is_seed b.seeds k ≡ true
  new_seed k e = of_list b.seeds k (true_by_false (contains (seed_list b.seeds) k) (contains (take m (drop 1 (seed_list b.seeds))) k) (λ h. none_taken m (drop 1 (seed_list b.seeds)) k (none_dropped 1 (seed_list b.seeds) k h)) (sym (new_in k) ∙ e))

  not_bid : (k : ℕ) → k ≡ b.bid → is_seed b.seeds k ≡ true → ⊥
  not_bid k e f = not_both f (ap (is_seed b.seeds) e ∙ kin.unborn b i)

  least_kept : is_seed (parent b m).seeds (slice_index (seed_list b.seeds) 0) ≡ false
  least_kept =
      let later : drop m (drop 1 (seed_list b.seeds)) ≡ drop (m + 1) (seed_list b.seeds) = drop-drop m 1 (seed_list b.seeds) ∙ ap (λ v. drop v (seed_list b.seeds)) (turn m) in
      old_in (slice_index (seed_list b.seeds) 0) ∙ (ap (λ v. contains v (slice_index (seed_list b.seeds) 0)) (sym later) ∙ none_dropped m (drop 1 (seed_list b.seeds)) (slice_index (seed_list b.seeds) 0) (head_apart (seed_list b.seeds) (list_rises b.seeds)))

  least_taken : is_seed (newborn b (point c) m).seeds (slice_index (seed_list b.seeds) 0) ≡ false
  least_taken = new_in (slice_index (seed_list b.seeds) 0) ∙ none_taken m (drop 1 (seed_list b.seeds)) (slice_index (seed_list b.seeds) 0) (head_apart (seed_list b.seeds) (list_rises b.seeds))

  not_shared : (k : ℕ) → is_seed (parent b m).seeds k ≡ true → is_seed (newborn b (point c) m).seeds k ≡ true → ⊥
  not_shared k e f =
      let later : drop m (drop 1 (seed_list b.seeds)) ≡ drop (m + 1) (seed_list b.seeds) = drop-drop m 1 (seed_list b.seeds) ∙ ap (λ v. drop v (seed_list b.seeds)) (turn m) in
      cut_apart m 0 (drop 1 (seed_list b.seeds)) k (drop_rises 1 0 (seed_list b.seeds) (list_rises b.seeds)) (sym (new_in k) ∙ f) (ap (λ v. contains v k) later ∙ (sym (old_in k) ∙ e))

  own_apart : (k : ℕ) → Own (parent b m) k → Own (newborn b (point c) m) k → ⊥
  own_apart k (inl e) (inl f) = not_bid k e (ap (is_seed b.seeds) f ∙ least)
  own_apart k (inl e) (inr f) = not_bid k e (new_seed k f)
  own_apart k (inr e) (inl f) = not_both e (ap (is_seed (parent b m).seeds) f ∙ least_kept)
  own_apart k (inr e) (inr f) = not_shared k e f

  owns_of : (x y : Bot) (k : ℕ) → In x (parent b m ∷ newborn b (point c) m ∷ [])
      → In y (parent b m ∷ newborn b (point c) m ∷ []) → Own x k → Own y k → x.bid ≡ y.bid
  owns_of x y k (inl e) (inl f) o p = ap (λ (v : Bot). v.bid) (e ∙ sym f)
  owns_of x y k (inl e) (inr (inl f)) o p = absurd (own_apart k (subst (λ (v : Bot). Own v k) e o) (subst (λ (v : Bot). Own v k) f p))
  owns_of x y k (inl e) (inr (inr f)) o p = absurd f
  owns_of x y k (inr (inl e)) (inl f) o p = absurd (own_apart k (subst (λ (v : Bot). Own v k) f p) (subst (λ (v : Bot). Own v k) e o))
  owns_of x y k (inr (inl e)) (inr (inl f)) o p = ap (λ (v : Bot). v.bid) (e ∙ sym f)
  owns_of x y k (inr (inl e)) (inr (inr f)) o p = absurd f
  owns_of x y k (inr (inr e)) j o p = absurd e

  heir_of : (x : Bot) (k : ℕ) → In x (parent b m ∷ newborn b (point c) m ∷ []) → Own x k → Own b k
  heir_of x k (inl e) o = by (subst (λ (v : Bot). Own v k) e o)
    where
      by : Own (parent b m) k → Own b k
      by (inl f) = inl f
      by (inr f) = inr (old_seed k f)
  heir_of x k (inr (inl e)) o = by (subst (λ (v : Bot). Own v k) e o)
    where
      by : Own (newborn b (point c) m) k → Own b k
      by (inl f) = inr (ap (is_seed b.seeds) f ∙ least)
      by (inr f) = inr (new_seed k f)
  heir_of x k (inr (inr e)) o = absurd e

  unborn_of : (x : Bot) → In x (parent b m ∷ newborn b (point c) m ∷ []) → is_seed x.seeds x.bid ≡ false
  unborn_of x (inl e) = subst (λ (v : Bot). is_seed v.seeds v.bid ≡ false) (sym e) (false_by (is_seed (parent b m).seeds b.bid) (λ f. not_bid b.bid refl (old_seed b.bid f)))
  unborn_of x (inr (inl e)) = subst (λ (v : Bot). is_seed v.seeds v.bid ≡ false) (sym e) least_taken
  unborn_of x (inr (inr e)) = absurd e

  place_of : (x : Bot) → In x (parent b m ∷ newborn b (point c) m ∷ []) → (x.pos ≡ b.pos) ⊎ (x.pos ≡ c)
  place_of x (inl e) = inl (ap (λ (v : Bot). v.pos) e)
  place_of x (inr (inl e)) = inr (ap (λ (v : Bot). v.pos) e)
  place_of x (inr (inr e)) = absurd e

  apart_of : (x y : Bot) → In x (parent b m ∷ newborn b (point c) m ∷ [])
      → In y (parent b m ∷ newborn b (point c) m ∷ []) → x.pos ≡ y.pos → x.bid ≡ y.bid
  apart_of x y (inl e) (inl f) g = ap (λ (v : Bot). v.bid) (e ∙ sym f)
  apart_of x y (inl e) (inr (inl f)) g = absurd (free b i (sym (ap (λ (v : Bot). v.pos) e) ∙ (g ∙ ap (λ (v : Bot). v.pos) f)))
  apart_of x y (inl e) (inr (inr f)) g = absurd f
  apart_of x y (inr (inl e)) (inl f) g = absurd (free b i (sym (ap (λ (v : Bot). v.pos) f) ∙ (sym g ∙ ap (λ (v : Bot). v.pos) e)))
  apart_of x y (inr (inl e)) (inr (inl f)) g = ap (λ (v : Bot). v.bid) (e ∙ sym f)
  apart_of x y (inr (inl e)) (inr (inr f)) g = absurd f
  apart_of x y (inr (inr e)) j g = absurd e

  free_of : (x e : Bot) → In e bots → x.pos ≡ e.pos → (x.pos ≡ b.pos) ⊎ (x.pos ≡ c) → ((b.bid == e.bid) || false) ≡ true
  free_of x e j f (inl g) = one_in b.bid e.bid (sym (kin.apart e b j i (sym f ∙ g)))
  free_of x e j f (inr g) = absurd (free e j (sym f ∙ g))

  pub fission_heir : IsHeir bots (b.bid ∷ []) (parent b m ∷ newborn b (point c) m ∷ [])
  fission_heir = record {
    differ = (differ, ((λ x j e. j), tt));
    apart = apart_of;
    owns = owns_of;
    unborn = unborn_of;
    heirs = λ x k j o. (b, i, one_in b.bid b.bid refl, heir_of x k j o);
    free = λ x e j k f. free_of x e k f (place_of x j);
  }
    where
      differ : (x : Bot) → In x (newborn b (point c) m ∷ []) → b.bid ≡ x.bid → ⊥
      differ x (inl e) f = not_bid b.bid refl (ap (is_seed b.seeds) (f ∙ ap (λ (v : Bot). v.bid) e) ∙ least)
      differ x (inr j) f = j

-- ---- a Fusion

numbers_in : (p : ℕ → Bool) (k : ℕ) → is_seed (seed_set (filter p seed_numbers)) k ≡ true → p k ≡ true
unfolding seed_numbers
numbers_in p k h = first_of_two (p k) (contains (numbers_from 0 64) k) (sym (filtered p (numbers_from 0 64) k) ∙ (sym (seed_is 0 (filter p (numbers_from 0 64)) (filter_rises p 0 (numbers_from 0 64) (numbers_rise 0 64)) k) ∙ h))

module _ (bots : List Bot) (kin : IsKin bots) (a b : Bot) (i : In a bots) (j : In b bots) (two : a.bid ≡ b.bid → ⊥) where
  of_either : (k : ℕ) → is_seed (fused a b).seeds k ≡ true → Own a k ⊎ Own b k
  of_either k e = by (one_of_two (is_seed a.seeds k || is_seed b.seeds k) (k == b.bid) (numbers_in (λ n. is_seed a.seeds n || is_seed b.seeds n || n == b.bid) k e))
    where
      more : (is_seed a.seeds k ≡ true) ⊎ (is_seed b.seeds k ≡ true) → Own a k ⊎ Own b k
      more (inl f) = inl (inr f)
      more (inr f) = inr (inr f)

      by : ((is_seed a.seeds k || is_seed b.seeds k) ≡ true) ⊎ ((k == b.bid) ≡ true) → Own a k ⊎ Own b k
      by (inl f) = more (one_of_two (is_seed a.seeds k) (is_seed b.seeds k) f)
      by (inr f) = inr (inl ((Decides-eqb k b.bid).0 f))

  of_fused : (k : ℕ) → Own (fused a b) k → Own a k ⊎ Own b k
  of_fused k (inl e) = inl (inl e)
  of_fused k (inr e) = of_either k e

  fused_is : (x : Bot) → In x (fused a b ∷ []) → x ≡ fused a b
  fused_is x (inl e) = e
  fused_is x (inr k) = absurd k

  pos_of : (x : Bot) → In x (fused a b ∷ []) → x.pos ≡ a.pos
  pos_of x k = ap (λ (v : Bot). v.pos) (fused_is x k)

  bid_of : (x : Bot) → In x (fused a b ∷ []) → x.bid ≡ a.bid
  bid_of x k = ap (λ (v : Bot). v.bid) (fused_is x k)

  first_in : (x : ℕ) → a.bid ≡ x → ((a.bid == x) || ((b.bid == x) || false)) ≡ true
  first_in x e = let same_bid : (a.bid == x) ≡ true = test_equal a.bid x e in rw same_bid refl

  second_in : ((a.bid == b.bid) || ((b.bid == b.bid) || false)) ≡ true
  second_in = by (a.bid == b.bid) (one_in b.bid b.bid refl)
    where
      by : (t : Bool) → ((b.bid == b.bid) || false) ≡ true → (t || ((b.bid == b.bid) || false)) ≡ true
      by true e = refl
      by false e = e

  heir_from : (k : ℕ) → Own a k ⊎ Own b k
      → (o : Bot) × In o bots × (list_any (λ n. n == o.bid) (a.bid ∷ b.bid ∷ []) ≡ true) × Own o k
  heir_from k (inl o) = (a, i, first_in a.bid refl, o)
  heir_from k (inr o) = (b, j, second_in, o)

  unborn_fused : is_seed (fused a b).seeds a.bid ≡ true → Own a a.bid ⊎ Own b a.bid → ⊥
  unborn_fused e (inl o) = by (one_of_two (is_seed a.seeds a.bid || is_seed b.seeds a.bid) (a.bid == b.bid) (numbers_in (λ n. is_seed a.seeds n || is_seed b.seeds n || n == b.bid) a.bid e))
    where
      more : (is_seed a.seeds a.bid ≡ true) ⊎ (is_seed b.seeds a.bid ≡ true) → ⊥
      more (inl f) = not_both f (kin.unborn a i)
      more (inr f) = two (kin.owns a b a.bid i j (inl refl) (inr f))

      by : ((is_seed a.seeds a.bid || is_seed b.seeds a.bid) ≡ true) ⊎ ((a.bid == b.bid) ≡ true) → ⊥
      by (inl f) = more (one_of_two (is_seed a.seeds a.bid) (is_seed b.seeds a.bid) f)
      by (inr f) = two ((Decides-eqb a.bid b.bid).0 f)
  unborn_fused e (inr o) = two (kin.owns a b a.bid i j (inl refl) o)

  pub fusion_heir : IsHeir bots (a.bid ∷ b.bid ∷ []) (fused a b ∷ [])
  fusion_heir = record {
    differ = ((λ x k e. k), tt);
    apart = λ x y k l e. bid_of x k ∙ sym (bid_of y l);
    owns = λ x y n k l o p. bid_of x k ∙ sym (bid_of y l);
    unborn = λ x k. subst (λ (v : Bot). is_seed v.seeds v.bid ≡ false) (sym (fused_is x k)) (false_by (is_seed (fused a b).seeds a.bid) (λ e. unborn_fused e (of_either a.bid e)));
    heirs = λ x k l o. heir_from k (of_fused k (subst (λ (v : Bot). Own v k) (fused_is x l) o));
    free = λ x e k l f. first_in e.bid (kin.apart a e i l (sym (pos_of x k) ∙ f));
  }

-- ---- the first bot

row_within : (a n k : ℕ) → contains (numbers_from a n) k ≡ true → (a ≤ k) × (k < a + n)
row_within a zero k e = cc
row_within a (suc n) k e = by (one_of_two (k == a) (contains (numbers_from (a + 1) n) k) e) (λ f. row_within (a + 1) n k f)
  where
    by : ((k == a) ≡ true) ⊎ (contains (numbers_from (a + 1) n) k ≡ true)
        → (contains (numbers_from (a + 1) n) k ≡ true → (a + 1 ≤ k) × (k < a + 1 + n)) → (a ≤ k) × (k < a + suc n)
    by (inl f) later = let k_is : k ≡ a = (Decides-eqb k a).0 f in (omega arith, omega arith)
    by (inr f) later = let later_on = later f in (omega arith, omega arith)

module _ (profile : Profile) (few : profile.seeds ≤ 39) where
  seed_within : (k : ℕ) → is_seed (first_bot profile).seeds k ≡ true → (2 ≤ k) × (k ≤ 40)
  seed_within k e =
      let whole : profile.seeds + 2 ≡ suc (suc profile.seeds) = omega arith in
      let row : seed_set (drop 2 (numbers_from 0 (profile.seeds + 2))) ≡ seed_set (numbers_from 2 profile.seeds) = ap (λ v. seed_set (drop 2 (numbers_from 0 v))) whole in
      let within_row = row_within 2 profile.seeds k (sym (seed_is 2 (numbers_from 2 profile.seeds) (numbers_rise 2 profile.seeds) k) ∙ (ap (λ v. is_seed v k) (sym row) ∙ e)) in
      (within_row.0, omega arith)

  own_within : (k : ℕ) → Own (first_bot profile) k → IsBid k
  own_within k (inl e) = (omega arith, omega arith)
  own_within k (inr e) = let seed_range = seed_within k e in (omega arith, seed_range.1)

  bid_of_first : (x : Bot) → In x (first_bot profile ∷ []) → x.bid ≡ 1
  bid_of_first x (inl e) = ap (λ (v : Bot). v.bid) e
  bid_of_first x (inr i) = absurd i

  -- the bots of an opening are a crew
  pub first_crew : IsCrew (first_bot profile ∷ [])
  first_crew = crew_of (first_bot profile ∷ []) ((λ x i. absurd i), tt) (record {
    apart = λ x y i j e. bid_of_first x i ∙ sym (bid_of_first y j);
    owns = λ x y k i j o p. bid_of_first x i ∙ sym (bid_of_first y j);
    unborn = unborn;
    numbers = numbers;
  })
    where
      unborn : (x : Bot) → In x (first_bot profile ∷ []) → is_seed x.seeds x.bid ≡ false
      unborn x (inl e) = subst (λ (v : Bot). is_seed v.seeds v.bid ≡ false) (sym e) (first_bid profile)
      unborn x (inr i) = absurd i

      numbers : (x : Bot) (k : ℕ) → In x (first_bot profile ∷ []) → Own x k → IsBid k
      numbers x k (inl e) o = own_within k (subst (λ (v : Bot). Own v k) e o)
      numbers x k (inr i) o = absurd i

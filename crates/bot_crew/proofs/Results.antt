-- The result of each call on a crew.
use Rattle.std.proofs.Common.{◌≡◌, ℕ, zero, suc, ◌+◌, ◌<◌, ◌≤◌, refl, sym, ◌∙◌, ap, subst, arith, inl, inr, ◌⊎◌, Bool, true, false, cond, ◌||◌, not, ◌==◌, List, [], ◌∷◌, ◌++◌, length, take, drop, get_or, set}
use Rattle.std.specs.Prelude.{Some, None, IfSome, IsNone, IsSome, filter, nat_lt, slice_index}
use Rattle.std.specs.List.{insert, remove, refill, list_any}
use Rattle.std.proofs.lemmas.Bool.Decides.{nat_tests, Decides-eqb}
use Rattle.std.proofs.lemmas.List.Edits.{length-insert}
use Rattle.std.proofs.Math.ListN.{length-set}
use Rattle.vox_geom.specs.declared.coordinate.Coord.{Coord}
use Rattle.vox_geom.specs.Point.{point}
use Rattle.vox_geom.proofs.Tests.{test_itself, test_unequal}
use Rattle.nano_spec.specs.declared.system.Bot.{Bot}
use Rattle.nano_spec.specs.Bots.{fused, in_rising_order, moved, newborn, parent, with_bot}
use Rattle.nano_spec.specs.State.{is_seed, seed_list, seed_numbers, seed_set}
use Rattle.step_order.proofs.Crews.{Differing, order_in, rising_itself, rising_order}
use Rattle.step_order.proofs.Facts.{Rising}
use Rattle.step_order.proofs.Lists.{In, find_within, in_place, none_find, place_in}
use Rattle.bot_crew.specs.Crew.{IsActive, IsCrew, bot_at, bot_of, replaced, stands_at, without}
use Rattle.bot_crew.proofs.Kin.{IsHeir, kin_of, rising_of, crew_replaced, differ_all}
use Rattle.bot_crew.proofs.Places.{IsPlace, found_at, insert_is, none_found, order_swap, placed, remove_is, set_is, without_both, without_rises}
use Rattle.bot_crew.proofs.Heirs.{fission_heir, found_in, fusion_heir, move_heir, none_there, only_there, stands}

take_length : (xs : List Bot) → take (length xs) xs ≡ xs
take_length [] = refl
take_length (x ∷ xs) = ap (λ ys. x ∷ ys) (take_length xs)

nothing_after : (xs ys : List Bot) → length xs ≡ length ys → xs ++ drop (length xs) ys ≡ xs
nothing_after [] [] e = refl
nothing_after [] (y ∷ ys) e = absurd (omega arith)
nothing_after (x ∷ xs) [] e = absurd (omega arith)
nothing_after (x ∷ xs) (y ∷ ys) e = ap (λ zs. x ∷ zs) (nothing_after xs ys (omega arith))

-- a list that is written through a slice of all of it
pub written : (bots now : List Bot) (i : ℕ) (new : Bot) → now ≡ bots
    → refill (length bots) bots (set now i new) ≡ set bots i new
written bots now i new e = ap (λ ws. refill (length bots) bots (set ws i new)) e ∙ (ap (λ ws. take (length bots) ws) (nothing_after (set bots i new) bots same) ∙ (ap (λ n. take n (set bots i new)) (sym same) ∙ take_length (set bots i new)))
  where
    same : length (set bots i new) ≡ length bots
    same = length-set bots i new

-- the index of a bid, in a borrowed list
pub place_is : (bots now : List Bot) (bid i : ℕ) → now ≡ bots → i ≤ length now
    → ((k : ℕ) (d : Bot) → k < i → (get_or now k d).bid < bid)
    → ((d : Bot) → i < length now → bid ≤ (get_or now i d).bid) → IsPlace bots bid i
place_is bots now bid i e l b f = subst (λ v. IsPlace v bid i) e (record { within = l; before = b; from = f })

-- ---- a bot at its index

module _ (bots : List Bot) (crew : IsCrew bots) (bid i : ℕ) (place : IsPlace bots bid i) (active : IsActive bots bid) where
  pub at_place : i < length bots
  at_place = (placed bots bid i (rising_of bots crew) place active).0

  pub bid_there : (d : Bot) → (get_or bots i d).bid ≡ bid
  bid_there = (placed bots bid i (rising_of bots crew) place active).1

  pub is_there : (d : Bot) → bot_of bots bid ≡ Some (get_or bots i d)
  is_there d = found_at bots bid i d at_place (λ k l. place.before k d l) (bid_there d)

  -- a property of the bot holds of the one at the index
  pub of_bot : (P : Bot → Type 0) (d : Bot) → IfSome (bot_of bots bid) P → P (get_or bots i d)
  of_bot P d h = subst (λ o. IfSome o P) (is_there d) h

  pub for_bot : (P : Bot → Type 0) (d : Bot) → P (get_or bots i d) → IfSome (bot_of bots bid) P
  for_bot P d h = subst (λ o. IfSome o P) (sym (is_there d)) h

  there : (d : Bot) → In (get_or bots i d) bots
  there d = place_in d bots i at_place

  -- the bots with another at its index
  pub set_there : (new : Bot) → new.bid ≡ bid → set bots i new ≡ replaced bots (bid ∷ []) (new ∷ [])
  set_there new e = set_is bots bid i new (rising_of bots crew) at_place bid_there e

  module _ (c : Coord) (d : Bot) (free : IfSome (bot_at bots c) (λ b. b.bid ≡ bid)) where
    pub move_is : set bots i (moved (get_or bots i d) (point c))
        ≡ replaced bots (bid ∷ []) (moved (get_or bots i d) (point c) ∷ [])
    move_is = set_there (moved (get_or bots i d) (point c)) (bid_there d)

    heir : IsHeir bots (bid ∷ []) (moved (get_or bots i d) (point c) ∷ [])
    heir = subst (λ v. IsHeir bots (v ∷ []) (moved (get_or bots i d) (point c) ∷ [])) (bid_there d)
        (move_heir bots (kin_of bots crew) (get_or bots i d) c (there d) (λ e j f. only_there bots c bid (kin_of bots crew) free e j f ∙ sym (bid_there d)))

    pub move_crew : IsCrew (set bots i (moved (get_or bots i d) (point c)))
    move_crew = subst (λ v. IsCrew v) (sym move_is) (crew_replaced bots (rising_of bots crew) (kin_of bots crew) (bid ∷ []) (moved (get_or bots i d) (point c) ∷ []) heir)

-- the bot returned by a read past the end
abbrev pub nobody : Bot
nobody = record { bid = 0; pos = record { x = 0; y = 0; z = 0 }; seeds = 0 }

-- the bots after the write of a position
abbrev pub bots_moved : List Bot → List Bot → ℕ → Coord → List Bot
bots_moved bots now i c = refill (length bots) bots (set now i (record { bid = (get_or now i nobody).bid; pos = c; seeds = (get_or now i nobody).seeds }))

abbrev pub MoveResult : List Bot → List Bot → List Bot → ℕ → ℕ → Coord → Type 0
MoveResult bots old now bid i c = IsCrew (bots_moved bots now i c) × IfSome (bot_of old bid) (λ b. bots_moved bots now i c ≡ replaced old (bid ∷ []) (moved b (point c) ∷ []))

pub move_result : (bots old now : List Bot) (bid i : ℕ) (c : Coord) → bots ≡ old → now ≡ bots → IsCrew bots
    → IsPlace bots bid i → IsActive old bid → IfSome (bot_at old c) (λ b. b.bid ≡ bid) → MoveResult bots old now bid i c
move_result bots old now bid i c e f crew place active free =
    subst (λ v. MoveResult bots v now bid i c) e (subst (λ v. MoveResult bots bots v bid i c) (sym f)
    (here (subst (λ v. IsActive v bid) (sym e) active) (subst (λ v. IfSome (bot_at v c) (λ b. b.bid ≡ bid)) (sym e) free)))
  where
    here : IsActive bots bid → IfSome (bot_at bots c) (λ b. b.bid ≡ bid) → MoveResult bots bots bots bid i c
    here a g =
        let bots_moved_is : bots_moved bots bots i c ≡ set bots i (moved (get_or bots i nobody) (point c)) = written bots bots i (moved (get_or bots i nobody) (point c)) refl in (
          subst (λ v. IsCrew v) (sym bots_moved_is) (move_crew bots crew bid i place a c nobody g),
          for_bot bots crew bid i place a (λ b. bots_moved bots bots i c ≡ replaced bots (bid ∷ []) (moved b (point c) ∷ [])) nobody (bots_moved_is ∙ move_is bots crew bid i place a c nobody g),
        )

-- ---- the only bot

only_active : (a : Bot) → IsActive (a ∷ []) a.bid
only_active a = rw (test_itself a.bid) refl

only_free : (a : Bot) (c : Coord) → IfSome (bot_at (a ∷ []) c) (λ b. b.bid ≡ a.bid)
only_free a c = by (stands_at c a)
  where
    by : (s : Bool) → IfSome (cond s (Some a) None) (λ (b : Bot). b.bid ≡ a.bid)
    by true = refl
    by false = tt

only_place : (a : Bot) → IsPlace (a ∷ []) a.bid 0
only_place a = record { within = omega arith; before = λ k d l. absurd (omega (arith, l)); from = λ d l. omega arith }

abbrev pub OnlyMoved : List Bot → List Bot → List Bot → Coord → Type 0
OnlyMoved bots old now c = IsCrew (bots_moved bots now 0 c) × ((b : Bot) → old ≡ b ∷ [] → bots_moved bots now 0 c ≡ moved b (point c) ∷ [])

pub only_moved : (bots old now : List Bot) (c : Coord) → bots ≡ old → now ≡ bots → IsCrew bots → length old ≡ 1
    → OnlyMoved bots old now c
only_moved bots [] now c e f crew one = absurd (omega (arith, one))
only_moved bots (a ∷ b ∷ old) now c e f crew one = absurd (omega (arith, one))
only_moved bots (a ∷ []) now c e f crew one =
    let result : MoveResult bots (a ∷ []) now a.bid 0 c = move_result bots (a ∷ []) now a.bid 0 c e f crew (subst (λ v. IsPlace v a.bid 0) (sym e) (only_place a)) (only_active a) (only_free a c) in
    (result.0, λ b is. (λ i. bots_moved (e i) ((f ∙ e) i) 0 c) ∙ ap (λ (v : List Bot). moved (get_or v 0 nobody) (point c) ∷ []) is)

-- ---- a Fission

module _ (bots : List Bot) (crew : IsCrew bots) (bid i : ℕ) (place : IsPlace bots bid i) (active : IsActive bots bid) (c : Coord) (m : ℕ) (free : IsNone (bot_at bots c)) (seeds : IfSome (bot_of bots bid) (λ b. m + 1 ≤ length (seed_list b.seeds))) where
  enough : m + 1 ≤ length (seed_list (get_or bots i nobody).seeds)
  enough = of_bot bots crew bid i place active (λ b. m + 1 ≤ length (seed_list b.seeds)) nobody seeds

  parting : IsHeir bots (bid ∷ []) (parent (get_or bots i nobody) m ∷ newborn (get_or bots i nobody) (point c) m ∷ [])
  parting = subst (λ v. IsHeir bots (v ∷ []) (parent (get_or bots i nobody) m ∷ newborn (get_or bots i nobody) (point c) m ∷ [])) (bid_there bots crew bid i place active nobody)
      (fission_heir bots (kin_of bots crew) (get_or bots i nobody) c m (there bots crew bid i place active nobody) enough (none_there bots c free))

  differ :
      Differing (parent (get_or bots i nobody) m ∷ newborn (get_or bots i nobody) (point c) m ∷ without bots (bid ∷ []))
  differ = differ_all bots (rising_of bots crew) (kin_of bots crew) (bid ∷ []) (parent (get_or bots i nobody) m ∷ newborn (get_or bots i nobody) (point c) m ∷ []) parting

  parent_set : set bots i (parent (get_or bots i nobody) m)
      ≡ in_rising_order (parent (get_or bots i nobody) m ∷ without bots (bid ∷ []))
  parent_set = set_there bots crew bid i place active (parent (get_or bots i nobody) m) (bid_there bots crew bid i place active nobody)

  parent_rises : Rising (set bots i (parent (get_or bots i nobody) m))
  parent_rises = subst (λ v. Rising v) (sym parent_set) (rising_order (parent (get_or bots i nobody) m ∷ without bots (bid ∷ [])) ((λ x j e. differ.0 x (inr j) e), differ.1.1))

  unborn : (x : Bot) → In x (set bots i (parent (get_or bots i nobody) m))
      → x.bid ≡ (newborn (get_or bots i nobody) (point c) m).bid → ⊥
  unborn x j e = by (order_in (parent (get_or bots i nobody) m ∷ without bots (bid ∷ [])) x (subst (λ v. In x v) parent_set j))
    where
      by : (x ≡ parent (get_or bots i nobody) m) ⊎ In x (without bots (bid ∷ [])) → ⊥
      by (inl f) = differ.0 (newborn (get_or bots i nobody) (point c) m) (inl refl) (sym (ap (λ (v : Bot). v.bid) f) ∙ e)
      by (inr k) = differ.1.0 x k (sym e)

  module _ (p : ℕ) (there : IsPlace (set bots i (parent (get_or bots i nobody) m)) (newborn (get_or bots i nobody) (point c) m).bid p) where
    pub split_is : insert (set bots i (parent (get_or bots i nobody) m)) p (newborn (get_or bots i nobody) (point c) m)
        ≡ replaced bots (bid ∷ []) (parent (get_or bots i nobody) m ∷ newborn (get_or bots i nobody) (point c) m ∷ [])
    split_is =
        insert_is (set bots i (parent (get_or bots i nobody) m)) p (newborn (get_or bots i nobody) (point c) m) parent_rises there unborn
        ∙ (ap (λ v. with_bot (newborn (get_or bots i nobody) (point c) m) v) (rising_itself (set bots i (parent (get_or bots i nobody) m)) parent_rises ∙ parent_set)
        ∙ order_swap (parent (get_or bots i nobody) m) (newborn (get_or bots i nobody) (point c) m) (without bots (bid ∷ [])) differ)

    pub split_crew :
        IsCrew (insert (set bots i (parent (get_or bots i nobody) m)) p (newborn (get_or bots i nobody) (point c) m))
    split_crew = subst (λ v. IsCrew v) (sym split_is) (crew_replaced bots (rising_of bots crew) (kin_of bots crew) (bid ∷ []) (parent (get_or bots i nobody) m ∷ newborn (get_or bots i nobody) (point c) m ∷ []) parting)

    pub split_room : length (set bots i (parent (get_or bots i nobody) m)) < 40
    split_room =
        let most = split_crew.most in
        let one = length-insert (set bots i (parent (get_or bots i nobody) m)) p (newborn (get_or bots i nobody) (point c) m) there.within in
        omega arith

-- the bots after the write of a set of seeds
abbrev pub bots_seeded : List Bot → List Bot → ℕ → ℕ → List Bot
bots_seeded bots now i seeds = refill (length bots) bots (set now i (record { bid = (get_or now i nobody).bid; pos = (get_or now i nobody).pos; seeds = seeds }))

-- the code's split of the seeds of a bot
pub record IsSplit (b : Bot) (m least some rest : ℕ) : Type 0 where
  pub bid : least ≡ slice_index (seed_list b.seeds) 0
  pub taken : some ≡ seed_set (take m (drop 1 (seed_list b.seeds)))
  pub kept : rest ≡ seed_set (drop (m + 1) (seed_list b.seeds))

abbrev pub SplitResult : List Bot → List Bot → List Bot → ℕ → ℕ → Coord → ℕ → ℕ → ℕ → ℕ → ℕ → Type 0
SplitResult bots old now bid i c m first taken kept p =
    (length (bots_seeded bots now i kept) < 40)
    × IsCrew (insert (bots_seeded bots now i kept) p (record { bid = first; pos = c; seeds = taken }))
    × IfSome (bot_of old bid) (λ b. insert (bots_seeded bots now i kept) p (record { bid = first; pos = c; seeds = taken }) ≡ replaced old (bid ∷ []) (parent b m ∷ newborn b (point c) m ∷ []))

pub split_result : (bots old now : List Bot) (bid i : ℕ) (c : Coord) (m first taken kept p : ℕ) → bots ≡ old
    → now ≡ bots → IsCrew bots → IsPlace bots bid i → IsActive old bid → IsNone (bot_at old c)
    → IfSome (bot_of old bid) (λ b. m + 1 ≤ length (seed_list b.seeds))
    → IsSplit (get_or bots i nobody) m first taken kept → IsPlace (bots_seeded bots now i kept) first p
    → SplitResult bots old now bid i c m first taken kept p
split_result bots old now bid i c m first taken kept p e f crew place active free seeds split later =
    subst (λ v. SplitResult bots v now bid i c m first taken kept p) e (subst (λ v. SplitResult bots bots v bid i c m first taken kept p) (sym f)
    (here (subst (λ v. IsActive v bid) (sym e) active) (subst (λ v. IsNone (bot_at v c)) (sym e) free) (subst (λ v. IfSome (bot_of v bid) (λ b. m + 1 ≤ length (seed_list b.seeds))) (sym e) seeds) (subst (λ v. IsPlace (bots_seeded bots v i kept) first p) f later)))
  where
    here : IsActive bots bid → IsNone (bot_at bots c)
        → IfSome (bot_of bots bid) (λ b. m + 1 ≤ length (seed_list b.seeds))
        → IsPlace (bots_seeded bots bots i kept) first p → SplitResult bots bots bots bid i c m first taken kept p
    here a g s l =
        let bots_seeded_is : bots_seeded bots bots i kept ≡ set bots i (parent (get_or bots i nobody) m) = ap (λ v. bots_seeded bots bots i v) split.kept ∙ written bots bots i (parent (get_or bots i nobody) m) refl in
        let same_insert : insert (bots_seeded bots bots i kept) p (record { bid = first; pos = c; seeds = taken }) ≡ insert (set bots i (parent (get_or bots i nobody) m)) p (newborn (get_or bots i nobody) (point c) m) = λ k. insert (bots_seeded_is k) p (record { bid = split.bid k; pos = c; seeds = split.taken k }) in
        let is_place : IsPlace (set bots i (parent (get_or bots i nobody) m)) (newborn (get_or bots i nobody) (point c) m).bid p = subst (λ v. IsPlace (set bots i (parent (get_or bots i nobody) m)) v p) split.bid (subst (λ v. IsPlace v first p) bots_seeded_is l) in (
          subst (λ v. length v < 40) (sym bots_seeded_is) (split_room bots crew bid i place a c m g s p is_place),
          subst (λ v. IsCrew v) (sym same_insert) (split_crew bots crew bid i place a c m g s p is_place),
          for_bot bots crew bid i place a (λ b. insert (bots_seeded bots bots i kept) p (record { bid = first; pos = c; seeds = taken }) ≡ replaced bots (bid ∷ []) (parent b m ∷ newborn b (point c) m ∷ [])) nobody (same_insert ∙ split_is bots crew bid i place a c m g s p is_place),
        )

-- ---- a Fusion

module _ (bots : List Bot) (crew : IsCrew bots) (primary secondary end : ℕ) (place : IsPlace bots secondary end) (first : IsActive bots primary) (second : IsActive bots secondary) (two : primary ≡ secondary → ⊥) where
  pub rest_is : remove bots end ≡ without bots (secondary ∷ [])
  rest_is = remove_is bots secondary end (rising_of bots crew) (at_place bots crew secondary end place second) (bid_there bots crew secondary end place second)

  rest_rises : Rising (remove bots end)
  rest_rises = subst (λ v. Rising v) (sym rest_is) (without_rises bots (secondary ∷ []) (rising_of bots crew))

  stays : (x : Bot) → (x.bid == primary) ≡ true → not (list_any (λ k. k == x.bid) (secondary ∷ [])) ≡ true
  stays x e = let other_secondary : (secondary == x.bid) ≡ false = test_unequal secondary x.bid (λ g. two (sym (g ∙ (Decides-eqb x.bid primary).0 e))) in rw other_secondary refl

  primary_in : bot_of (remove bots end) primary ≡ bot_of bots primary
  primary_in = ap (λ v. bot_of v primary) rest_is ∙ find_within (λ b. not (list_any (λ k. k == b.bid) (secondary ∷ []))) (λ b. b.bid == primary) bots (λ x j e. stays x e)

  module _ (p : ℕ) (there : IsPlace (remove bots end) primary p) where
    still : (p < length (remove bots end)) × ((d : Bot) → (get_or (remove bots end) p d).bid ≡ primary)
    still = placed (remove bots end) primary p rest_rises there (subst (λ v. IsSome v) (sym primary_in) first)

    pub at_rest : p < length (remove bots end)
    at_rest = still.0

    pub primary_is : bot_of bots primary ≡ Some (get_or (remove bots end) p nobody)
    primary_is = sym primary_in ∙ found_at (remove bots end) primary p nobody still.0 (λ k l. there.before k nobody l) (still.1 nobody)

    heirs :
        IsHeir bots (primary ∷ secondary ∷ []) (fused (get_or (remove bots end) p nobody) (get_or bots end nobody) ∷ [])
    heirs =
        let element = get_or (remove bots end) p nobody in
        let bot = get_or bots end nobody in
        let bid_there_here : bot.bid ≡ secondary = bid_there bots crew secondary end place second nobody in
        let bid_is : element.bid ≡ primary = still.1 nobody in
        subst (λ v. IsHeir bots (v ∷ secondary ∷ []) (fused element bot ∷ [])) bid_is (subst (λ v. IsHeir bots (element.bid ∷ v ∷ []) (fused element bot ∷ [])) bid_there_here
        (fusion_heir bots (kin_of bots crew) element bot (found_in (λ x. x.bid == primary) bots element primary_is).0 (there_in bot) (λ g. two (sym bid_is ∙ (g ∙ bid_there_here)))))
      where
        there_in : (b : Bot) → In (get_or bots end nobody) bots
        there_in b = place_in nobody bots end (at_place bots crew secondary end place second)

    pub fused_is : set (remove bots end) p (fused (get_or (remove bots end) p nobody) (get_or bots end nobody))
        ≡ replaced bots (primary ∷ secondary ∷ [])
        (fused (get_or (remove bots end) p nobody) (get_or bots end nobody) ∷ [])
    fused_is =
        set_is (remove bots end) primary p (fused (get_or (remove bots end) p nobody) (get_or bots end nobody)) rest_rises still.0 still.1 (still.1 nobody)
        ∙ ap (λ v. in_rising_order (fused (get_or (remove bots end) p nobody) (get_or bots end nobody) ∷ v)) (ap (λ v. without v (primary ∷ [])) rest_is ∙ without_both bots primary secondary)

    pub fused_crew :
        IsCrew (set (remove bots end) p (fused (get_or (remove bots end) p nobody) (get_or bots end nobody)))
    fused_crew = subst (λ v. IsCrew v) (sym fused_is) (crew_replaced bots (rising_of bots crew) (kin_of bots crew) (primary ∷ secondary ∷ []) (fused (get_or (remove bots end) p nobody) (get_or bots end nobody) ∷ []) heirs)

either : (xs : List Bot) (i : ℕ) (d e : Bot) → i < length xs → get_or xs i d ≡ get_or xs i e
either [] i d e l = absurd (omega arith)
either (x ∷ xs) zero d e l = refl
either (x ∷ xs) (suc i) d e l = either xs i d e (omega arith)

-- a read at an index returns the bot there
pub read_is : (bots : List Bot) (i : ℕ) (b : Bot) → i < length bots → b ≡ get_or bots i b → b ≡ get_or bots i nobody
read_is bots i b l e = e ∙ either bots i b nobody l

-- the seeds that the code writes
abbrev pub seeds_of_both : Bot → Bot → ℕ
seeds_of_both a b = seed_set (filter (λ k. is_seed a.seeds k || is_seed b.seeds k || k == b.bid) seed_numbers)

abbrev pub FusionResult : List Bot → List Bot → List Bot → List Bot → ℕ → ℕ → ℕ → ℕ → Type 0
FusionResult bots old rest now primary secondary p seeds =
    IsCrew (bots_seeded rest now p seeds)
    × IfSome (bot_of old primary) (λ b. IfSome (bot_of old secondary) (λ other. bots_seeded rest now p seeds ≡ replaced old (primary ∷ secondary ∷ []) (fused b other ∷ [])))

pub fusion_result : (bots old rest now : List Bot) (primary secondary end p : ℕ) (other : Bot) (seeds : ℕ) → bots ≡ old
    → rest ≡ remove bots end → now ≡ rest → IsCrew bots → IsPlace bots secondary end → other ≡ get_or bots end other
    → IsPlace rest primary p → IsActive old primary → IsActive old secondary → (primary ≡ secondary → ⊥)
    → seeds ≡ seeds_of_both (get_or rest p nobody) other → FusionResult bots old rest now primary secondary p seeds
fusion_result bots old rest now primary secondary end p other seeds e f g crew place read later first second two union =
    subst (λ v. FusionResult bots v rest now primary secondary p seeds) e (subst (λ v. FusionResult bots bots rest v primary secondary p seeds) (sym g) (subst (λ v. FusionResult bots bots v v primary secondary p seeds) (sym f)
    (here (subst (λ v. IsActive v primary) (sym e) first) (subst (λ v. IsActive v secondary) (sym e) second) (subst (λ v. IsPlace v primary p) f later) (subst (λ v. seeds ≡ seeds_of_both (get_or v p nobody) other) f union))))
  where
    here : IsActive bots primary → IsActive bots secondary → IsPlace (remove bots end) primary p
        → seeds ≡ seeds_of_both (get_or (remove bots end) p nobody) other
        → FusionResult bots bots (remove bots end) (remove bots end) primary secondary p seeds
    here a s l u =
        let other_is : other ≡ get_or bots end nobody = read_is bots end other (at_place bots crew secondary end place s) read in
        let seeds_is : seeds ≡ seeds_of_both (get_or (remove bots end) p nobody) (get_or bots end nobody) = u ∙ ap (λ x. seeds_of_both (get_or (remove bots end) p nobody) x) other_is in
        let bots_seeded_is : bots_seeded (remove bots end) (remove bots end) p seeds ≡ set (remove bots end) p (fused (get_or (remove bots end) p nobody) (get_or bots end nobody)) =
        ap (λ x. bots_seeded (remove bots end) (remove bots end) p x) seeds_is ∙ written (remove bots end) (remove bots end) p (fused (get_or (remove bots end) p nobody) (get_or bots end nobody)) refl in (
          subst (λ x. IsCrew x) (sym bots_seeded_is) (fused_crew bots crew primary secondary end place a s two p l),
          subst (λ x. IfSome x (λ b. IfSome (bot_of bots secondary) (λ other. bots_seeded (remove bots end) (remove bots end) p seeds ≡ replaced bots (primary ∷ secondary ∷ []) (fused b other ∷ [])))) (sym (primary_is bots crew primary secondary end place a s two p l))
              (for_bot bots crew secondary end place s (λ other. bots_seeded (remove bots end) (remove bots end) p seeds ≡ replaced bots (primary ∷ secondary ∷ []) (fused (get_or (remove bots end) p nobody) other ∷ [])) nobody
              (bots_seeded_is ∙ fused_is bots crew primary secondary end place a s two p l)),
        )

-- ---- reads

less_by : (a b : ℕ) → true ≡ nat_lt a b → a < b
less_by a b h = grind (arith, nat_tests)

not_less_by : (a b : ℕ) → false ≡ nat_lt a b → b ≤ a
not_less_by a b h = grind (arith, nat_tests)

module _ (bots old now : List Bot) (crew : IsCrew bots) (e : bots ≡ old) (f : now ≡ bots) (bid i : ℕ) (place : IsPlace bots bid i) where
  -- the bot at the index, if it has the bid
  pub read_bot : (b : Bot) → true ≡ nat_lt i (length now) → b ≡ get_or now i b → b.bid ≡ bid → Some b ≡ bot_of old bid
  read_bot b t g h =
      let is_less = less_by i (length now) t in
      let same : b ≡ get_or bots i b = g ∙ ap (λ v. get_or v i b) f in
      ap Some same ∙ (sym (found_at bots bid i b (subst (λ v. i < length v) f is_less) (λ k m. place.before k b m) (ap (λ (v : Bot). v.bid) (sym same) ∙ h)) ∙ ap (λ v. bot_of v bid) e)

  pub read_other : (b : Bot) → true ≡ nat_lt i (length now) → b ≡ get_or now i b → (b.bid ≡ bid → ⊥)
      → None ≡ bot_of old bid
  read_other b t g h = let is_less = less_by i (length now) t in sym (none_found bots bid i (rising_of bots crew) place (λ d m n. h (ap (λ (v : Bot). v.bid) (read_is now i b is_less g) ∙ (ap (λ v. (get_or v i nobody).bid) f ∙ (ap (λ (v : Bot). v.bid) (sym (read_is bots i (get_or bots i d) m (again d m))) ∙ n))))) ∙ ap (λ v. bot_of v bid) e
    where
      again : (d : Bot) → i < length bots → get_or bots i d ≡ get_or bots i (get_or bots i d)
      again d m = either bots i d (get_or bots i d) m

  pub read_nothing : false ≡ nat_lt i (length now) → None ≡ bot_of old bid
  read_nothing t = let at_least = not_less_by i (length now) t in sym (none_found bots bid i (rising_of bots crew) place (λ d m n. absurd (let same_length : length now ≡ length bots = ap length f in omega arith))) ∙ ap (λ v. bot_of v bid) e

-- the bot found at a coordinate
pub found_there : (bots : List Bot) (c : Coord) (i : ℕ) (b : Bot) → i < length bots
    → ((k : ℕ) (d : Bot) → k < i → stands_at c (get_or bots k d) ≡ false) → b ≡ get_or bots i b → b.pos ≡ c
    → bot_at bots c ≡ Some b
found_there [] c i b l h e f = absurd (omega arith)
found_there (x ∷ xs) c zero b l h e f = let stands_at_holds : stands_at c x ≡ true = stands c x (ap (λ (v : Bot). v.pos) (sym e) ∙ f) in rw stands_at_holds (ap Some (sym e))
found_there (x ∷ xs) c (suc i) b l h e f = rw (h zero x (omega arith)) (found_there xs c i b (omega arith) (λ k d m. h (suc k) d (omega arith)) e f)

pub look_there : (bots now : List Bot) (i : ℕ) → now ≡ bots → i < length now
    → get_or now i nobody ≡ get_or bots i (get_or now i nobody)
look_there bots now i e l = either now i nobody (get_or now i nobody) l ∙ ap (λ v. get_or v i (get_or now i nobody)) e

pub none_stands : (bots : List Bot) (c : Coord)
    → ((k : ℕ) (d : Bot) → k < length bots → stands_at c (get_or bots k d) ≡ false) → bot_at bots c ≡ None
none_stands bots c h = none_find (stands_at c) bots (λ x i. let place = in_place x x bots i in ap (stands_at c) (sym place.2) ∙ h place.0 x place.1)

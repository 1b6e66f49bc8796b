-- The effects of bots that break no rule.
use Rattle.std.proofs.Common.{◌≡◌, ℕ, zero, suc, ◌*◌, ◌%◌, ◌^◌, ◌<◌, refl, sym, ◌∙◌, ap, subst, inl, inr, ◌⊎◌, arith, List, [], ◌∷◌, Bool, true, false, cond, ◌&&◌, ◌||◌, not, ◌==◌, map, length, lit<, pow-suc}
use Rattle.std.specs.Prelude.{Some, Option, IsTrue, count_by, find}
use Rattle.std.specs.List.{AllByRecursion, list_any}
use Rattle.std.proofs.lemmas.List.Concat.{flat_map_single}
use Rattle.std.proofs.lemmas.List.Sums.{sum_by-cons}
use Rattle.vox_geom.specs.declared.coordinate.Coord.{Coord}
use Rattle.vox_geom.specs.Point.{Point, point, plus}
use Rattle.vox_geom.specs.Region.{Span, between, dimension, is_within}
use Rattle.vox_geom.proofs.Truths.{and_false, and_true, or_by_first, or_false}
use Rattle.nano_spec.specs.declared.commands.Command.{Command}
use Rattle.nano_spec.specs.declared.commands.Command.TheVariants.{Halt, Wait, Flip, SMove, LMove, FusionP, FusionS, Fission, Fill, Void, GFill, GVoid}
use Rattle.nano_spec.specs.declared.system.Bot.{Bot}
use Rattle.nano_spec.specs.declared.system.Harmonics.{Harmonics}
use Rattle.nano_spec.specs.Act.{Act, filled, is_flip, position, voided}
use Rattle.nano_spec.specs.Bots.{bots_after, fused, in_rising_order, moved, successors, after_fusion}
use Rattle.nano_spec.specs.Group.{fuse, is_pair}
use Rattle.nano_spec.specs.Matrix.{Matrix, is_full}
use Rattle.nano_spec.specs.State.{State}
use Rattle.nano_spec.specs.Step.{flipped, harmonics_after, is_filled, is_voided, matrix_after}
use Rattle.step_order.specs.Acting.{gone, goal_of, leaves_voxels, stays_one, with_region}
use Rattle.step_order.specs.Unbroken.{AreOneGroup, IsMember, MayJoin}
use Rattle.step_order.proofs.Crews.{rising_itself}
use Rattle.step_order.proofs.Facts.{Rising, up}
use Rattle.step_order.proofs.Faultless.{all_by, within_as}
use Rattle.step_order.proofs.Lists.{In, flat_same, in_map, map_in, map_same}
use Rattle.step_order.proofs.Together.{AreApart, one_partner}
use Rattle.step_order.proofs.Voxels.{as_it_is, matrix_same}

-- a property of each element that is in a list
all_from : {X : Type 0} (P : X → Type 0) (xs : List X) → ((x : X) → In x xs → P x) → AllByRecursion P xs
all_from P [] h = tt
all_from P (x ∷ xs) h = (h x (inl refl), all_from P xs (λ y i. h y (inr i)))

-- ---- the bots

one_successor : (all : List Act) (a : Act) (k : Command) → stays_one k ≡ true → successors all a k
    ≡ record { bid = a.bot.bid; pos = (gone (record { bot = a.bot; command = k })).pos; seeds = a.bot.seeds } ∷ []
one_successor all a Halt h = cc
one_successor all a Wait h = refl
one_successor all a Flip h = refl
one_successor all a (SMove d) h = refl
one_successor all a (LMove d e) h = refl
one_successor all a (FusionP d) h = cc
one_successor all a (FusionS d) h = cc
one_successor all a (Fission d m) h = cc
one_successor all a (Fill d) h = refl
one_successor all a (Void d) h = refl
one_successor all a (GFill d f) h = refl
one_successor all a (GVoid d f) h = refl

rising_gone : (xs : List Act) → Rising (map (λ a. a.bot) xs) → Rising (map gone xs)
rising_gone [] h = tt
rising_gone (x ∷ xs) h = (later, rising_gone xs h.1)
  where
    later : (c : Bot) → In c (map gone xs) → x.bot.bid < c.bid
    later c i =
        let origin = map_in gone c xs i in
        subst (λ (b : Bot). x.bot.bid < b.bid) (sym origin.2) (h.0 origin.0.bot (in_map (λ (a : Act). a.bot) origin.0 xs origin.1))

pub bots_gone : (all : List Act) → Rising (map (λ a. a.bot) all)
    → AllByRecursion (λ a. IsTrue (stays_one a.command)) all → bots_after all ≡ map gone all
bots_gone all up h =
    ap in_rising_order (flat_same (λ a. successors all a a.command) (λ a. gone a ∷ []) all (λ a i. one_successor all a a.command (all_by (λ (x : Act). IsTrue (stays_one x.command)) all a h i)) ∙ flat_map_single gone all)
    ∙ rising_itself (map gone all) (rising_gone all up)

-- ---- harmonics

none_count : {X : Type 0} (p : X → Bool) (xs : List X) → ((x : X) → In x xs → p x ≡ false) → count_by p xs ≡ 0
none_count p [] h = refl
none_count p (x ∷ xs) h =
    let sum_is = sum_by-cons (λ y. cond {A = ℕ} (p y) 1 0) x xs in
    let choice_zero : cond {A = ℕ} (p x) 1 0 ≡ 0 = ap (λ t. cond {A = ℕ} t 1 0) (h x (inl refl)) in
    let count_is : count_by p xs ≡ 0 = none_count p xs (λ y i. h y (inr i)) in
    omega (arith, sum_is, choice_zero, count_is)

pub harmonics_stay : (h : Harmonics) (all : List Act) → ((a : Act) → In a all → is_flip a.command ≡ false)
    → harmonics_after h all ≡ h
harmonics_stay h all none = ap (λ n. cond (n % 2 == 1) (flipped h) h) (none_count (λ (a : Act). is_flip a.command) all none)

-- ---- the matrix

nothing_more : (full : Bool) → (false || (full && not false)) ≡ full
nothing_more true = refl
nothing_more false = refl

fills_none : (p : Point) (k : Command) → leaves_voxels k ≡ true → filled p k ≡ []
fills_none p (Fill d) h = cc
fills_none p (GFill d f) h = cc
fills_none p (Void d) h = cc
fills_none p (GVoid d f) h = cc
fills_none p _ h = refl

voids_none : (p : Point) (k : Command) → leaves_voxels k ≡ true → voided p k ≡ []
voids_none p (Fill d) h = cc
voids_none p (GFill d f) h = cc
voids_none p (Void d) h = cc
voids_none p (GVoid d f) h = cc
voids_none p _ h = refl

some_false : {X : Type 0} (p : X → Bool) (xs : List X) → ((x : X) → In x xs → p x ≡ false) → list_any p xs ≡ false
some_false p [] h = refl
some_false p (x ∷ xs) h = rw (h x (inl refl)) (some_false p xs (λ y i. h y (inr i)))

some_same : {X : Type 0} (p : X → Bool) (xs : List X) (t : Bool) → 0 < length xs → ((x : X) → In x xs → p x ≡ t)
    → list_any p xs ≡ t
some_same p [] t some h = absurd (omega arith)
some_same p (x ∷ xs) false some h = some_false p (x ∷ xs) h
some_same p (x ∷ xs) true some h = rw (h x (inl refl)) refl

pub voxels_stay : (m : Matrix) (all : List Act) → length m.voxels ≡ m.resolution * m.resolution * m.resolution
    → AllByRecursion (λ a. IsTrue (leaves_voxels a.command)) all → matrix_after m all ≡ m
voxels_stay m all whole h = matrix_same m.resolution _ (is_full m) (λ c i. (λ j. none_filled c j || (is_full m c && not (none_voided c j))) ∙ nothing_more (is_full m c)) ∙ as_it_is m whole
  where
    leaves : (a : Act) → In a all → leaves_voxels a.command ≡ true
    leaves a i = all_by (λ (x : Act). IsTrue (leaves_voxels x.command)) all a h i

    none_filled : (c : Coord) → is_filled all c ≡ false
    none_filled c = some_false (λ (a : Act). list_any (λ s. is_within s (point c)) (filled (position a) a.command)) all (λ a i. ap (λ ss. list_any (λ s. is_within s (point c)) ss) (fills_none (position a) a.command (leaves a i)))

    none_voided : (c : Coord) → is_voided all c ≡ false
    none_voided c = some_false (λ (a : Act). list_any (λ s. is_within s (point c)) (voided (position a) a.command)) all (λ a i. ap (λ ss. list_any (λ s. is_within s (point c)) ss) (voids_none (position a) a.command (leaves a i)))

-- ---- one group

some_power : (n : ℕ) → 0 < 2 ^ n
some_power zero = lit< tt
some_power (suc n) = let power_positive = some_power n in rw pow-suc (omega arith)

pub group_stays_one : (r : ℕ) (region : Span) (full : Bool) (p : Point) (k : Command) → MayJoin r region full p k
    → IsTrue (stays_one k)
group_stays_one r region true p (GFill d f) h = refl
group_stays_one r region true p _ h = absurd h
group_stays_one r region false p (GVoid d f) h = refl
group_stays_one r region false p _ h = absurd h

group_goal : (r : ℕ) (region : Span) (full : Bool) (p : Point) (k : Command) → MayJoin r region full p k
    → goal_of p k ≡ p
group_goal r region true p (GFill d f) h = refl
group_goal r region true p _ h = absurd h
group_goal r region false p (GVoid d f) h = refl
group_goal r region false p _ h = absurd h

group_flip : (r : ℕ) (region : Span) (full : Bool) (p : Point) (k : Command) → MayJoin r region full p k
    → is_flip k ≡ false
group_flip r region true p (GFill d f) h = refl
group_flip r region true p _ h = absurd h
group_flip r region false p (GVoid d f) h = refl
group_flip r region false p _ h = absurd h

group_filled : (r : ℕ) (region : Span) (full : Bool) (p q : Point) (k : Command) → MayJoin r region full p k
    → list_any (λ s. is_within s q) (filled p k) ≡ (is_within region q && full)
group_filled r region true p q (GFill d f) h = or_false (is_within (between (plus p d) (plus (plus p d) f)) q) ∙ (within_as (between (plus p d) (plus (plus p d) f)) region q h.same ∙ sym (and_true (is_within region q)))
group_filled r region true p q _ h = absurd h
group_filled r region false p q (GVoid d f) h = sym (and_false (is_within region q))
group_filled r region false p q _ h = absurd h

group_voided : (r : ℕ) (region : Span) (full : Bool) (p q : Point) (k : Command) → MayJoin r region full p k
    → list_any (λ s. is_within s q) (voided p k) ≡ (is_within region q && not full)
group_voided r region true p q (GFill d f) h = sym (and_false (is_within region q))
group_voided r region true p q _ h = absurd h
group_voided r region false p q (GVoid d f) h = or_false (is_within (between (plus p d) (plus (plus p d) f)) q) ∙ (within_as (between (plus p d) (plus (plus p d) f)) region q h.same ∙ sym (and_true (is_within region q)))
group_voided r region false p q _ h = absurd h

made : (within full was : Bool) → ((within && full) || (was && not (within && not full))) ≡ cond within full was
made true true was = refl
made true false true = refl
made true false false = refl
made false full true = refl
made false full false = refl

module _ (s : State) (region : Span) (full : Bool) (all : List Act) (h : AreOneGroup s region full all) where
  joins : (a : Act) → In a all → MayJoin s.matrix.resolution region full (position a) a.command
  joins a i = (all_by (IsMember s region full) all a h.each i).joins

  some : 0 < length all
  some = let many = h.many in let power_positive = some_power (dimension region) in omega arith

  pub group_matrix : matrix_after s.matrix all ≡ with_region s.matrix region full
  group_matrix = matrix_same s.matrix.resolution _ _ (λ c i. (λ j. all_filled c j || (is_full s.matrix c && not (all_voided c j))) ∙ made (is_within region (point c)) full (is_full s.matrix c))
    where
      all_filled : (c : Coord) → is_filled all c ≡ (is_within region (point c) && full)
      all_filled c = some_same (λ (a : Act). list_any (λ s. is_within s (point c)) (filled (position a) a.command)) all (is_within region (point c) && full) some (λ a i. group_filled s.matrix.resolution region full (position a) (point c) a.command (joins a i))

      all_voided : (c : Coord) → is_voided all c ≡ (is_within region (point c) && not full)
      all_voided c = some_same (λ (a : Act). list_any (λ s. is_within s (point c)) (voided (position a) a.command)) all (is_within region (point c) && not full) some (λ a i. group_voided s.matrix.resolution region full (position a) (point c) a.command (joins a i))

  pub group_bots : Rising (map (λ a. a.bot) all) → bots_after all ≡ map (λ a. a.bot) all
  group_bots up =
      bots_gone all up (all_from (λ (a : Act). IsTrue (stays_one a.command)) all (λ a i. group_stays_one s.matrix.resolution region full (position a) a.command (joins a i)))
      ∙ map_same gone (λ a. a.bot) all (λ a i. ap (λ q. moved a.bot q) (group_goal s.matrix.resolution region full (position a) a.command (joins a i)))

  pub group_harmonics : harmonics_after s.harmonics all ≡ s.harmonics
  group_harmonics = harmonics_stay s.harmonics all (λ a i. group_flip s.matrix.resolution region full (position a) a.command (joins a i))

-- ---- fusions

find_only : {X : Type 0} (p : X → Bool) (b : X) (xs : List X) → In b xs → p b ≡ true
    → ((x : X) → In x xs → p x ≡ true → x ≡ b) → find p xs ≡ Some b
find_only p b [] i t only = absurd i
find_only {X} p b (x ∷ xs) i t only = by (p x) refl i (λ j. find_only p b xs j t (λ y k. only y (inr k)))
  where
    by : (s : Bool) → p x ≡ s → (b ≡ x) ⊎ In b xs → (In b xs → find p xs ≡ Some b)
        → cond s (Some x) (find p xs) ≡ Some b
    by true e j later = ap Some (only x (inl refl) e)
    by false e (inl f) later = let g = sym (ap p f) ∙ t in let impossible = sym e ∙ g in cc
    by false e (inr j) later = later j

module _ (all : List Act) (apart : AreApart all) (a b : Act) (j : In b all) (pair : is_pair a b ≡ true) where
  found_partner : find (is_pair a) all ≡ Some b
  found_partner = find_only (is_pair a) b all j pair (λ x i t. apart.places x b i j (one_partner x a b (or_by_first (is_pair a x) (is_pair x a) t) (or_by_first (is_pair a b) (is_pair b a) pair)))

  primary_by : (k : Command) → fuse (position a) k (position b) b.command ≡ true
      → successors all a k ≡ fused a.bot b.bot ∷ []
  primary_by (FusionP d) h = ap (λ (o : Option Act). after_fusion a.bot o ∷ []) found_partner
  primary_by _ h = cc

  pub primary_becomes : successors all a a.command ≡ fused a.bot b.bot ∷ []
  primary_becomes = primary_by a.command pair

secondary_by : (all : List Act) (a b : Act) (k e : Command) → fuse (position a) k (position b) e ≡ true
    → successors all b e ≡ []
secondary_by all a b (FusionP d) (FusionS e) h = refl
secondary_by all a b (FusionP d) _ h = cc
secondary_by all a b _ e h = cc

pub secondary_goes : (all : List Act) (a b : Act) → is_pair a b ≡ true → successors all b b.command ≡ []
secondary_goes all a b h = secondary_by all a b a.command b.command h

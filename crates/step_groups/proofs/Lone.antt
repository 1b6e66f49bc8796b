-- Bots that act alone do not interfere if they are disjoint.
use Rattle.std.proofs.Common.{◌≡◌, ℕ, ◌<◌, refl, ap, sym, ◌∙◌, subst, inl, inr, ◌⊎◌, Bool, true, false, ◌&&◌, ◌||◌, List, [], ◌∷◌, ◌++◌, length, map, Option, Some, None}
use Rattle.std.specs.Prelude.{All, AllPairs, IfNone, IsTrue, is_some}
use Rattle.std.specs.List.{list_all, list_any}
use Rattle.std.proofs.lemmas.List.Folds.{list_any-append}
use Rattle.vox_geom.specs.declared.coordinate.Coord.{Coord}
use Rattle.vox_geom.specs.Point.{point}
use Rattle.vox_geom.specs.Region.{Corners, is_within, span}
use Rattle.vox_geom.proofs.Truths.{one_of_two, or_by_first, or_by_second, or_false}
use Rattle.nano_spec.specs.declared.commands.Command.{Command}
use Rattle.nano_spec.specs.declared.outcomes.Rule.TheVariants.{Interference}
use Rattle.nano_spec.specs.declared.system.Bot.{Bot}
use Rattle.nano_spec.specs.Act.{Act, acts}
use Rattle.nano_spec.specs.First.{first_value}
use Rattle.nano_spec.specs.Group.{is_leader, leaders, members}
use Rattle.nano_spec.specs.Matrix.{Matrix, all_of}
use Rattle.nano_spec.specs.Rules.{broken_by, clash, judge_pairs}
use Rattle.nano_spec.specs.Volatile.{is_volatile, is_volatile_of}
use Rattle.step_order.proofs.Facts.{Rising, rising_is}
use Rattle.step_order.proofs.Lists.{In, filter_every, none_find}
use Rattle.step_order.proofs.Judgements.{all_bots}
use Rattle.step_groups.specs.Apart.{AreAllApart, IsApartFrom}
use Rattle.step_groups.specs.Boxes.{IsHull, in_boxes}
use Rattle.step_groups.specs.Groups.{AreLone, judge_with}
use Rattle.step_groups.specs.Judging.{is_alone}
use Rattle.step_groups.proofs.Couples.{pairs_miss}
use Rattle.step_groups.proofs.Joined.{in_all}
use Rattle.step_groups.proofs.Shared.{any-push}
use Rattle.step_groups.proofs.Sums.{alone_leads, alone_members}

-- ---- one bot more

-- the volatile coordinates of one more
pub any_more : (c : Coord) (xs : List Act) (a : Act) → IsTrue (list_any (is_volatile_of (point c)) (xs ++ a ∷ []))
    → IsTrue (list_any (is_volatile_of (point c)) xs) ⊎ IsTrue (is_volatile_of (point c) a)
any_more c xs a h =
    let same_list_any : list_any (is_volatile_of (point c)) (xs ++ a ∷ []) ≡ (list_any (is_volatile_of (point c)) xs || (is_volatile_of (point c) a || false)) = list_any-append (is_volatile_of (point c)) xs (a ∷ []) in
    elim (one_of_two (list_any (is_volatile_of (point c)) xs) (is_volatile_of (point c) a || false) (sym same_list_any ∙ h)) [
      | inl k ↦ inl k
      | inr k ↦ inr (sym (or_false (is_volatile_of (point c) a)) ∙ k)
    ]

pub apart_more : (xs : List Act) (a : Act) → AreAllApart xs → IsApartFrom a xs → AreAllApart (xs ++ a ∷ [])
apart_more [] a h k = ((λ c v w. cc), tt)
apart_more (x ∷ xs) a h k = (
  (λ c v w. elim (any_more c xs a w) [
    | inl o ↦ h.0 c v o
    | inr o ↦ k c o (or_by_first (is_volatile_of (point c) x) (list_any (is_volatile_of (point c)) xs) v)
  ]),
  apart_more xs a h.1 (λ c v w. k c v (or_by_second (is_volatile_of (point c) x) (list_any (is_volatile_of (point c)) xs) w)),
)

-- ---- the bounding box of some and one more

pub in_more_boxes : (others : List Corners) (k : Corners) (c : Coord) → IsTrue (in_boxes (others ++ k ∷ []) c)
    → IsTrue (in_boxes others c) ⊎ IsTrue (is_within (span k) (point c))
in_more_boxes others k c t = one_of_two (in_boxes others c) (is_within (span k) (point c)) (sym (any-push (λ l. is_within (span l) (point c)) others k) ∙ t)

pub hull_more : (others : List Corners) (k all next : Corners) → IsHull all others
    → ((c : Coord) → IsTrue (is_within (span all) (point c)) → IsTrue (is_within (span next) (point c)))
    → ((c : Coord) → IsTrue (is_within (span k) (point c)) → IsTrue (is_within (span next) (point c)))
    → IsHull next (others ++ k ∷ [])
hull_more others k all next h f g c t =
    elim (in_more_boxes others k c t) [ inl i ↦ f c (h c i) | inr i ↦ g c i ]

pub in_box_last : (others : List Corners) (k : Corners) (c : Coord) → IsTrue (is_within (span k) (point c))
    → IsTrue (in_boxes (others ++ k ∷ []) c)
in_box_last others k c t = any-push (λ l. is_within (span l) (point c)) others k ∙ or_by_second (in_boxes others c) (is_within (span k) (point c)) t

pub in_box_before : (others : List Corners) (k : Corners) (c : Coord) → IsTrue (in_boxes others c)
    → IsTrue (in_boxes (others ++ k ∷ []) c)
in_box_before others k c t = any-push (λ l. is_within (span l) (point c)) others k ∙ or_by_first (in_boxes others c) (is_within (span k) (point c)) t

pub none_of : (o : Option Coord) (P : Type 0) → is_some o ≡ false → IfNone o P → P
none_of None P e h = h
none_of (Some c) P e h = cc

-- facts of some bots and of the volatile bounding box of each
pub record AreBoxed (all : Corners) (hulls : List Corners) (xs : List Act) : Type 0 where
  pub around : IsHull all hulls
  pub each : (c : Coord) → IsTrue (list_any (is_volatile_of (point c)) xs) → IsTrue (in_boxes hulls c)
  pub apart : AreAllApart xs

pub boxed_more : (xs more : List Act) (a : Act) (hulls next slice other : List Corners) (all after hull : Corners)
    → AreBoxed all hulls xs → more ≡ xs ++ a ∷ [] → next ≡ hulls ++ hull ∷ [] → slice ≡ hulls → other ≡ hulls
    → ((c : Coord) → IsTrue (is_volatile_of (point c) a) → IsTrue (is_within (span hull) (point c)))
    → ((c : Coord) → IsTrue (is_within (span hull) (point c)) → IsTrue (in_boxes slice c) → ⊥)
    → IsHull after (other ++ hull ∷ []) → AreBoxed after next more
boxed_more xs more a hulls next slice other all after hull b e f g h own apart hulled =
    let apart' : (c : Coord) → IsTrue (is_within (span hull) (point c)) → IsTrue (in_boxes hulls c) → ⊥ = subst (λ (ks : List Corners). (c : Coord) → IsTrue (is_within (span hull) (point c)) → IsTrue (in_boxes ks c) → ⊥) g apart in
    let hulled' : IsHull after (hulls ++ hull ∷ []) = subst (λ (ks : List Corners). IsHull after (ks ++ hull ∷ [])) h hulled in
    subst (λ (ys : List Act). AreBoxed after next ys) (sym e) (subst (λ (ks : List Corners). AreBoxed after ks (xs ++ a ∷ [])) (sym f) (record {
      around = hulled';
      each = λ c t. elim (any_more c xs a t) [ inl o ↦ in_box_before hulls hull c (b.each c o) | inr o ↦ in_box_last hulls hull c (own c o) ];
      apart = apart_more xs a b.apart (λ c v w. apart' c (own c v) (b.each c w));
    }))

-- ---- no pair interferes

not_true : (b : Bool) → (IsTrue b → ⊥) → b ≡ false
not_true true h = absurd (h refl)
not_true false h = refl

both : (a b : Bool) → IsTrue (a && b) → IsTrue a × IsTrue b
both true true h = (refl, refl)
both true false h = cc
both false b h = cc

module _ (m : Matrix) (all : List Act) (step : ℕ) where
  -- the volatile coordinates of the group of a bot that is alone
  by_itself : (a : Act) (c : Coord) → members all a ≡ a ∷ [] → is_volatile all a (point c) ≡ is_volatile_of (point c) a
  by_itself a c e = ap (λ ms. list_any (is_volatile_of (point c)) ms) e ∙ or_false (is_volatile_of (point c) a)

  no_clash : (a b : Act) → members all a ≡ a ∷ [] → members all b ≡ b ∷ []
      → ((c : Coord) → IsTrue (is_volatile_of (point c) a) → IsTrue (is_volatile_of (point c) b) → ⊥)
      → clash m all a b ≡ None
  no_clash a b e f h = none_find (λ c. is_volatile all a (point c) && is_volatile all b (point c)) (all_of m)
      (λ c i. not_true (is_volatile all a (point c) && is_volatile all b (point c)) (λ k. let both_here = both (is_volatile all a (point c)) (is_volatile all b (point c)) k in h c (sym (by_itself a c e) ∙ both_here.0) (sym (by_itself b c f) ∙ both_here.1)))

  with_none : (a : Act) (more : List Act) → members all a ≡ a ∷ [] → ((b : Act) → In b more → members all b ≡ b ∷ [])
      → IsApartFrom a more → judge_with m all step a more ≡ None
  with_none a [] e h k = refl
  with_none a (b ∷ more) e h k =
      let clash_is : clash m all a b ≡ None = no_clash a b e (h b (inl refl)) (λ c v w. k c v (or_by_first (is_volatile_of (point c) b) (list_any (is_volatile_of (point c)) more) w)) in
      ap (λ o. first_value (broken_by step Interference a.bot.bid o ∷ map (λ x. broken_by step Interference a.bot.bid (clash m all a x)) more)) clash_is
      ∙ with_none a more e (λ x i. h x (inr i)) (λ c v w. k c v (or_by_second (is_volatile_of (point c) b) (list_any (is_volatile_of (point c)) more) w))

  pairs_none : (xs : List Act) → ((a : Act) → In a xs → members all a ≡ a ∷ []) → AreAllApart xs
      → first_value (judge_pairs m all step xs) ≡ None
  pairs_none [] h k = refl
  pairs_none (a ∷ more) h k =
      pairs_miss m all step a more (with_none a more (h a (inl refl)) (λ b i. h b (inr i)) k.0)
      ∙ pairs_none more (λ b i. h b (inr i)) k.1

-- ---- all commands need no other bot

alone_in : (bots : List Bot) (commands : List Command) (a : Act) → IsTrue (list_all is_alone commands)
    → In a (acts bots commands) → IsTrue (is_alone a.command)
alone_in [] commands a h i = absurd i
alone_in (b ∷ bots) [] a h i = absurd i
alone_in (b ∷ bots) (k ∷ commands) a h (inl e) = ap (λ (x : Act). is_alone x.command) e ∙ (both (is_alone k) (list_all is_alone commands) h).0
alone_in (b ∷ bots) (k ∷ commands) a h (inr i) = alone_in bots commands a (both (is_alone k) (list_all is_alone commands) h).1 i

module _ (m : Matrix) (bots : List Bot) (commands : List Command) (lengths : length commands ≡ length bots) (rising : AllPairs (λ a b. a.bid < b.bid) bots) (alone : IsTrue (list_all is_alone commands)) where
  up : Rising (map (λ (x : Act). x.bot) (acts bots commands))
  up = subst (λ (bs : List Bot). Rising bs) (sym (all_bots bots commands lengths)) (rising_is bots rising)

  own_members : (a : Act) → In a (acts bots commands) → members (acts bots commands) a ≡ a ∷ []
  own_members a i = alone_members m (acts bots commands) up a i (alone_in bots commands a alone i)

  lone_groups : All (λ a. members (acts bots commands) a ≡ a ∷ []) (acts bots commands)
  lone_groups = in_all (λ (a : Act). members (acts bots commands) a ≡ a ∷ []) (acts bots commands) own_members

  lone_leaders : leaders (acts bots commands) ≡ acts bots commands
  lone_leaders = filter_every (is_leader (acts bots commands)) (acts bots commands) (λ a i. alone_leads m (acts bots commands) up a i (alone_in bots commands a alone i))

  -- each bot is a group of its own
  pub all_lone : AreLone (acts bots commands)
  all_lone = record { leads = lone_leaders; alone = lone_groups }

  -- and none interferes with another if they are disjoint
  pub lone_pairs : (step : ℕ) → AreAllApart (acts bots commands)
      → first_value (judge_pairs m (acts bots commands) step (leaders (acts bots commands))) ≡ None
  lone_pairs step h = ap (λ ls. first_value (judge_pairs m (acts bots commands) step ls)) lone_leaders ∙ pairs_none m (acts bots commands) step (acts bots commands) own_members h

-- A bound on the voxels that the groups of a step change.
use Rattle.std.proofs.Common.{◌≡◌, ℕ, suc, ◌+◌, ◌*◌, ◌≤◌, ◌^◌, ◌||◌, ◌==◌, not, refl, sym, ◌∙◌, ap, inl, inr, arith, List, [], ◌∷◌, Bool, true, false, cond, length, length-append, subst}
use Rattle.std.specs.Prelude.{count_by, sum_by, flat_map, ℤ, nat_le}
use Rattle.std.specs.List.{list_any}
use Rattle.std.proofs.lemmas.Bool.Decides.{nat_tests}
use Rattle.std.proofs.lemmas.Int.{ints}
use Rattle.std.proofs.lemmas.List.Sums.{sum_by-cons}
use Rattle.std.proofs.Math.Nat.{mul-le-mul}
use Rattle.vox_geom.specs.declared.coordinate.Coord.{Coord}
use Rattle.vox_geom.specs.declared.difference.Diff.{Diff}
use Rattle.vox_geom.specs.Difference.{IsFar, is_far, is_near}
use Rattle.vox_geom.specs.Point.{Point, plus, point, same_number}
use Rattle.vox_geom.specs.Region.{Span, between, differs, dimension, extent, is_within, just, size}
use Rattle.vox_geom.proofs.Counts.{region_count_most}
use Rattle.vox_geom.proofs.Truths.{false_by, or_by_first, or_false, second_of_two}
use Rattle.vox_geom.proofs.Tests.{at_most_by_test}
use Rattle.nano_spec.specs.declared.commands.Command.{Command}
use Rattle.nano_spec.specs.declared.commands.Command.TheVariants.{Fill, Void, GFill, GVoid}
use Rattle.nano_spec.specs.declared.system.Bot.{Bot}
use Rattle.nano_spec.specs.Act.{Act, acts, group_regions, position}
use Rattle.nano_spec.specs.Command.{is_command}
use Rattle.nano_spec.specs.Group.{are_together, is_leader, leaders, members}
use Rattle.nano_spec.specs.Rules.{corners_of, is_misshapen, repeats}
use Rattle.nano_spec.specs.State.{State}
use Rattle.nano_spec.specs.declared.outcomes.Rule.TheVariants.{GroupShape}
use Rattle.nano_spec.specs.Matrix.{Matrix, all_of}
use Rattle.nano_spec.proofs.Light.{here_false}
use Rattle.nano_spec.proofs.Codes.{far_bounds}
use Rattle.step_order.proofs.Lists.{In, all_in, any_in, filter_in, flat_in, in_any, in_filter, not_both}
use Rattle.step_order.proofs.Facts.{IsGood}
use Rattle.step_order.proofs.Groups.{Differ, differ_acts}
use Rattle.step_order.proofs.Together.{number_is, together_back, together_on, with_itself}
use Rattle.energy_sum.proofs.Bounds.{extent_far}
use Rattle.step_machine.proofs.Apart.{Apart, apart_filter, apart_flat}
use Rattle.step_machine.specs.Edits.{edit_count, edits_total}
use Rattle.step_groups.specs.Judging.{act}
use Rattle.step_order.proofs.JudgedRules.{group_shape_is_judged}

-- ---- a region by its dimension

extent_itself : (a : ℤ) → extent a a ≡ 1
extent_itself a = omega (arith, ints)

axis_most : (a b : ℤ) → extent a b ≤ 31 → 2 * extent a b ≤ 31 * 2 ^ differs a b
axis_most a b h = by (same_number a b) refl
  where
    by : (t : Bool) → same_number a b ≡ t → 2 * extent a b ≤ 31 * 2 ^ cond t 0 1
    by true e = let a_is : a ≡ b = number_is a b e in let extent_is : extent a b ≡ 1 = ap (extent a) (sym a_is) ∙ extent_itself a in omega arith
    by false e = omega arith

eights : (x y z : ℕ) → (2 * x) * (2 * y) * (2 * z) ≡ 8 * (x * y * z)
eights x y z = grind arith

powers : (t u v : Bool) → (31 * 2 ^ cond t 0 1) * (31 * 2 ^ cond u 0 1) * (31 * 2 ^ cond v 0 1)
    ≡ 29791 * 2 ^ (cond t 0 1 + cond u 0 1 + cond v 0 1)
powers true true true = refl
powers true true false = refl
powers true false true = refl
powers true false false = refl
powers false true true = refl
powers false true false = refl
powers false false true = refl
powers false false false = refl

region_most : (s : Span) → extent s.from.x s.to.x ≤ 31 → extent s.from.y s.to.y ≤ 31 → extent s.from.z s.to.z ≤ 31
    → 8 * size s ≤ 29791 * 2 ^ dimension s
region_most s x y z =
    let le = mul-le-mul (mul-le-mul (axis_most s.from.x s.to.x x) (axis_most s.from.y s.to.y y)) (axis_most s.from.z s.to.z z) in
    let eights_here = eights (extent s.from.x s.to.x) (extent s.from.y s.to.y) (extent s.from.z s.to.z) in
    let powers_here = powers (same_number s.from.x s.to.x) (same_number s.from.y s.to.y) (same_number s.from.z s.to.z) in
    omega (arith, le, eights_here, powers_here)

far_most : (p : Point) (f : Diff) → IsFar f
    → 8 * size (between p (plus p f)) ≤ 29791 * 2 ^ dimension (between p (plus p f))
far_most p f h = let bounds = far_bounds f h in region_most (between p (plus p f)) (extent_far p.x f.dx bounds.0) (extent_far p.y f.dy bounds.1) (extent_far p.z f.dz bounds.2)

just_one : (p : Point) → size (just p) ≡ 1
just_one p = λ i. extent_itself p.x i * extent_itself p.y i * extent_itself p.z i

-- ---- the number of coordinates that an act edits

pub count_none : (xs : List Coord) → count_by (λ c. false) xs ≡ 0
count_none [] = refl
count_none (x ∷ xs) = let same_count : count_by (λ c. false) (x ∷ xs) ≡ 0 + count_by (λ c. false) xs = sum_by-cons (λ c. 0) x xs in let none_counted = count_none xs in omega arith

count_one : (m : Matrix) (s : Span) → count_by (λ c. is_within s (point c) || false) (all_of m) ≤ size s
count_one m s =
    let same_count : count_by (λ c. is_within s (point c) || false) (all_of m) ≡ count_by (λ c. is_within s (point c)) (all_of m) = λ i. count_by (λ c. or_false (is_within s (point c)) i) (all_of m) in
    let region_bound = region_count_most m.resolution s in
    omega (arith, same_count, region_bound)

-- the number of coordinates that an act voids or fills
abbrev edits_of : Matrix → Act → ℕ
edits_of m a = edit_count m true a + edit_count m false a

-- the size of an act's edit, by the number of members that its group needs
abbrev Fits : Act → ℕ → Type 0
Fits a n = (list_any (λ s. not (n == 2 ^ dimension s)) (group_regions (position a) a.command) ≡ false) × (1 ≤ n)

none_most : (m : Matrix) (n : ℕ) → 8 * (count_by (λ c. false) (all_of m) + count_by (λ c. false) (all_of m)) ≤ 29791 * n
none_most m n = let none_counted = count_none (all_of m) in omega (arith, none_counted)

fits_is : (n k : ℕ) → (not (n == k) || false) ≡ false → n ≡ k
fits_is n k h = grind (arith, nat_tests)

pub act_most : (m : Matrix) (b : Bot) (k : Command) (n : ℕ) → is_command k ≡ true → Fits (act b k) n
    → 8 * edits_of m (act b k) ≤ 29791 * n
act_most m b (Fill d) n h f =
    let none_counted = count_none (all_of m) in let one_counted = count_one m (just (plus (point b.pos) d)) in let size_one = just_one (plus (point b.pos) d) in let p = f.1 in omega (arith, none_counted, one_counted, size_one, p)
act_most m b (Void d) n h f =
    let none_counted = count_none (all_of m) in let one_counted = count_one m (just (plus (point b.pos) d)) in let size_one = just_one (plus (point b.pos) d) in let p = f.1 in omega (arith, none_counted, one_counted, size_one, p)
act_most m b (GFill d f) n h g =
    let none_counted = count_none (all_of m) in
    let one_counted = count_one m (between (plus (point b.pos) d) (plus (plus (point b.pos) d) f)) in
    let far_bound = far_most (plus (point b.pos) d) f (second_of_two (is_near d) (is_far f) h) in
    let fit_is = fits_is n (2 ^ dimension (between (plus (point b.pos) d) (plus (plus (point b.pos) d) f))) g.0 in
    omega (arith, none_counted, one_counted, far_bound, fit_is)
act_most m b (GVoid d f) n h g =
    let none_counted = count_none (all_of m) in
    let one_counted = count_one m (between (plus (point b.pos) d) (plus (plus (point b.pos) d) f)) in
    let far_bound = far_most (plus (point b.pos) d) f (second_of_two (is_near d) (is_far f) h) in
    let fit_is = fits_is n (2 ^ dimension (between (plus (point b.pos) d) (plus (plus (point b.pos) d) f))) g.0 in
    omega (arith, none_counted, one_counted, far_bound, fit_is)
act_most m b k n h f = none_most m n

-- ---- a list whose elements differ and are of another list

taken_out : {X : Type 0} (x : X) (ys : List X) → In x ys
    → (zs : List X) × (length ys ≡ suc (length zs)) × ((y : X) → In y ys → (y ≡ x → ⊥) → In y zs)
taken_out x [] h = absurd h
taken_out {X} x (z ∷ zs) (inl e) = (zs, refl, other)
  where
    other : (y : X) → In y (z ∷ zs) → (y ≡ x → ⊥) → In y zs
    other y (inl f) n = absurd (n (f ∙ sym e))
    other y (inr i) n = i
taken_out {X} x (z ∷ zs) (inr h) = longer (taken_out x zs h)
  where
    longer : (ws : List X) × (length zs ≡ suc (length ws)) × ((y : X) → In y zs → (y ≡ x → ⊥) → In y ws)
        → (ws : List X) × (length (z ∷ zs) ≡ suc (length ws)) × ((y : X) → In y (z ∷ zs) → (y ≡ x → ⊥) → In y ws)
    longer r = (z ∷ r.0, ap suc r.1, other)
      where
        other : (y : X) → In y (z ∷ zs) → (y ≡ x → ⊥) → In y (z ∷ r.0)
        other y (inl f) n = inl f
        other y (inr i) n = inr (r.2 y i n)

pub no_more : {X : Type 0} (xs ys : List X) → Apart xs → ((x : X) → In x xs → In x ys) → length xs ≤ length ys
no_more [] ys a h = omega arith
no_more {X} (x ∷ xs) ys a h =
    let without_it = taken_out x ys (h x (inl refl)) in
    let no_longer = no_more xs without_it.0 a.1 (λ y i. without_it.2 y (h y (inr i)) (λ (e : y ≡ x). a.0 (subst (λ (z : X). In z xs) e i))) in
    let n = without_it.1 in
    omega arith

-- ---- all groups

length_flat : {X Y : Type 0} (f : X → List Y) (xs : List X) → length (flat_map f xs) ≡ sum_by (λ x. length (f x)) xs
length_flat f [] = refl
length_flat f (x ∷ xs) =
    let length_is = length-append (f x) (flat_map f xs) in
    let sum_is = sum_by-cons (λ y. length (f y)) x xs in
    let flat_length = length_flat f xs in
    omega (arith, length_is, sum_is, flat_length)

none_of_either : {X : Type 0} (p q : X → Bool) (xs : List X) → list_any (λ x. p x || q x) xs ≡ false
    → list_any p xs ≡ false
none_of_either {X} p q xs h = false_by (list_any p xs) (λ (e : list_any p xs ≡ true). let witness = any_in p xs e in not_both (in_any (λ (x : X). p x || q x) witness.0 xs witness.1 (or_by_first (p witness.0) (q witness.0) witness.2)) h)

some_in : {X : Type 0} (x : X) (xs : List X) → In x xs → 1 ≤ length xs
some_in x [] h = absurd h
some_in x (y ∷ ys) h = omega arith

abbrev member_count : List Act → Act → ℕ
member_count all l = length (members all l)

group_totals : (m : Matrix) (all ls : List Act) → ((l : Act) → In l ls → 8 * edits_of m l ≤ 29791 * member_count all l)
    → 8 * (edits_total m true ls + edits_total m false ls) ≤ 29791 * sum_by (member_count all) ls
group_totals m all [] h = omega arith
group_totals m all (l ∷ ls) h =
    let sum_is = sum_by-cons (edit_count m true) l ls in
    let first_of_sum = sum_by-cons (edit_count m false) l ls in
    let sum_is_here = sum_by-cons (member_count all) l ls in
    let a = h l (inl refl) in
    let totals_bound = group_totals m all ls (λ d i. h d (inr i)) in
    omega (arith, sum_is, first_of_sum, sum_is_here, a, totals_bound)

module _ (s : State) (all : List Act) (good : IsGood s all) where
  lead : (l : Act) → In l (leaders all) → In l all
  lead l i = (filter_in (is_leader all) l all i).0

  -- a bot has one leader
  one_leader_each : (l d a : Act) → In l (leaders all) → In d (leaders all) → In a (members all l)
      → In a (members all d) → l ≡ d
  one_leader_each l d a i j p q =
      let passed = filter_in (are_together l) a all p in
      let passes = filter_in (are_together d) a all q in
      let ld = together_on all good.apart l a d (lead l i) passed.0 (lead d j) passed.1 (together_back d a passes.1) in
      let up = at_most_by_test l.bot.bid d.bot.bid (all_in (λ b. nat_le l.bot.bid b.bot.bid) d (members all l) (filter_in (is_leader all) l all i).1 (in_filter (are_together l) d all (lead d j) ld)) in
      let down = at_most_by_test d.bot.bid l.bot.bid (all_in (λ b. nat_le d.bot.bid b.bot.bid) l (members all d) (filter_in (is_leader all) d all j).1 (in_filter (are_together d) l all (lead l i) (together_back l d ld))) in
      good.apart.bids l d (lead l i) (lead d j) (let same_bid : l.bot.bid ≡ d.bot.bid = omega arith in same_bid)

  apart_acts : Apart all
  apart_acts = by all (differ_acts all good.rising)
    where
      by : (xs : List Act) → Differ (λ (a : Act). a.bot.bid) xs → Apart xs
      by [] d = tt
      by (x ∷ xs) d = ((λ i. d.0 x i refl), by xs d.1)

  members_most : sum_by (member_count all) (leaders all) ≤ length all
  members_most =
      let all_apart = apart_flat (members all) (leaders all) (apart_filter (is_leader all) all apart_acts) (λ l i. apart_filter (are_together l) all apart_acts) (λ l d x i j p q n. n (one_leader_each l d x i j p q)) in
      let no_longer = no_more (flat_map (members all) (leaders all)) all all_apart (λ x i. let origin = flat_in (members all) x (leaders all) i in (filter_in (are_together origin.0) x all origin.2).0) in
      let flat_length = length_flat (members all) (leaders all) in
      omega (arith, no_longer, flat_length)

  fits : (l : Act) → In l (leaders all) → Fits l (member_count all l)
  fits l i = (
    none_of_either (λ t. not (length (members all l) == 2 ^ dimension t)) (λ t. repeats (flat_map (λ b. corners_of (position b) b.command) (members all l))) (group_regions (position l) l.command)
        (here_false l (is_misshapen all l) (good.keeps l GroupShape (lead l i) group_shape_is_judged)),
    some_in l (members all l) (in_filter (are_together l) l all (lead l i) (with_itself l)),
  )

  pub changes_most : length all ≤ 40 → ((a : Act) → In a all → is_command a.command ≡ true)
      → edits_total s.matrix true (leaders all) + edits_total s.matrix false (leaders all) ≤ 148955
  changes_most few are =
      let totals_bound = group_totals s.matrix all (leaders all) (λ l i. act_most s.matrix l.bot l.command (member_count all l) (are l (lead l i)) (fits l i)) in
      let members_bound = members_most in
      omega (arith, totals_bound, members_bound, few)

pub acts_few : (bots : List Bot) (commands : List Command) → length (acts bots commands) ≤ length bots
acts_few [] commands = omega arith
acts_few (b ∷ bots) [] = omega arith
acts_few (b ∷ bots) (c ∷ commands) = let acts_bound = acts_few bots commands in omega arith

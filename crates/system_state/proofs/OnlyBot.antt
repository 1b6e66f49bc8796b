-- The effect and the cost of a command of the only bot.
use Rattle.std.proofs.Common.{◌≡◌, ℕ, zero, suc, ◌+◌, ◌*◌, ◌<◌, ◌≤◌, refl, sym, ◌∙◌, ap, inl, inr, arith, List, [], ◌∷◌, Bool, true, false, cond, ◌&&◌, ◌||◌, not, nat_le, map}
use Rattle.std.specs.Prelude.{ℤ, pos, negsuc, unsigned_abs, filter, int_le}
use Rattle.std.specs.List.{list_all}
use Rattle.std.proofs.lemmas.Bool.Decides.{nat_tests}
use Rattle.std.proofs.lemmas.Int.{ints}
use Rattle.vox_geom.specs.declared.coordinate.Coord.{Coord}
use Rattle.vox_geom.specs.declared.difference.Diff.{Diff}
use Rattle.vox_geom.specs.Point.{Point, point, plus, same_point}
use Rattle.vox_geom.specs.Region.{just, is_within}
use Rattle.vox_geom.specs.Space.{IsInSpace, in_range, in_space, coordinate, coordinate_at, coordinates, numbers_from, place}
use Rattle.vox_geom.proofs.Places.{place-coordinate_at}
use Rattle.vox_geom.proofs.Truths.{and_true, parts_of_three}
use Rattle.vox_geom.proofs.Sums.{integer_plus_none}
use Rattle.nano_spec.specs.declared.commands.Command.{Command}
use Rattle.nano_spec.specs.declared.commands.Command.TheVariants.{Fill, Void}
use Rattle.nano_spec.specs.declared.system.Bot.{Bot}
use Rattle.nano_spec.specs.Act.{Act, position, filled, voided}
use Rattle.nano_spec.specs.Energy.{group_cost, groups_cost, price, total}
use Rattle.nano_spec.specs.Group.{are_together, is_leader, leaders}
use Rattle.nano_spec.specs.Matrix.{Matrix, is_full}
use Rattle.nano_spec.specs.Step.{matrix_after}
use Rattle.step_order.proofs.Groups.{Differ, filter_only}
use Rattle.step_order.proofs.Lists.{In, map_in}
use Rattle.step_order.proofs.Together.{point_is}
use Rattle.step_order.proofs.Voxels.{as_it_is, in_coordinates, matrix_same}
use Rattle.vox_planes.specs.Voxel.{IsWhole, with_voxel}
use Rattle.step_groups.specs.Judging.{act as lone}

-- ---- a point that is in space, and its coordinate

number_in : (r : ℕ) (z : ℤ) → in_range r z ≡ true → (pos (unsigned_abs z) ≡ z) × (unsigned_abs z < r)
number_in r (pos n) e = (refl, grind (arith, nat_tests))
number_in r (negsuc n) e = cc

pub of_point : (r : ℕ) (q : Point) → in_space r q ≡ true → (point (coordinate q) ≡ q) × IsInSpace r (coordinate q)
of_point r q e =
    let three_parts = parts_of_three (in_range r q.x) (in_range r q.y) (in_range r q.z) e in
    let in_range_x = number_in r q.x three_parts.0 in
    let in_range_y = number_in r q.y three_parts.1 in
    let in_range_z = number_in r q.z three_parts.2 in
    (λ i. record { x = in_range_x.0 i; y = in_range_y.0 i; z = in_range_z.0 i }, record { x = in_range_x.1; y = in_range_y.1; z = in_range_z.1 })

-- ---- the matrix after the step

turned : (x y : Bool) → ((x && y) || (x && y)) ≡ (y && x)
turned true true = refl
turned true false = refl
turned false true = refl
turned false false = refl

-- a region of one point
pub within_just : (q p : Point) → is_within (just q) p ≡ same_point p q
within_just q p = λ i. turned (int_le q.x p.x) (int_le p.x q.x) i && turned (int_le q.y p.y) (int_le p.y q.y) i && turned (int_le q.z p.z) (int_le p.z q.z) i

set_full : (here full : Bool) → ((here || false) || false || (full && not (false || false))) ≡ cond here true full
set_full true full = refl
set_full false full = and_true full

set_void : (here full : Bool) → (false || false || (full && not ((here || false) || false))) ≡ cond here false full
set_void true true = refl
set_void true false = refl
set_void false full = and_true full

module _ (m : Matrix) where
  pub untouched : (a : Act) → IsWhole m → filled (position a) a.command ≡ [] → voided (position a) a.command ≡ []
      → matrix_after m (a ∷ []) ≡ m
  untouched a w f v = matrix_same m.resolution _ (is_full m) (λ c s. rw (f, v) (and_true (is_full m c))) ∙ as_it_is m w.voxels

  module _ (b : Bot) (d : Diff) (i : in_space m.resolution (plus (point b.pos) d) ≡ true) where
    here : (c : Coord) → is_within (just (plus (point b.pos) d)) (point c)
        ≡ same_point (point c) (point (coordinate (plus (point b.pos) d)))
    here c = within_just (plus (point b.pos) d) (point c) ∙ ap (same_point (point c)) (sym (of_point m.resolution (plus (point b.pos) d) i).0)

    pub matrix_filled : matrix_after m (lone b (Fill d) ∷ []) ≡ with_voxel m (coordinate (plus (point b.pos) d)) true
    matrix_filled = matrix_same m.resolution _ _ (λ c s. ap (λ t. (t || false) || false || (is_full m c && not (false || false))) (here c) ∙ set_full (same_point (point c) (point (coordinate (plus (point b.pos) d)))) (is_full m c))

    pub matrix_voided : matrix_after m (lone b (Void d) ∷ []) ≡ with_voxel m (coordinate (plus (point b.pos) d)) false
    matrix_voided = matrix_same m.resolution _ _ (λ c s. ap (λ t. false || false || (is_full m c && not ((t || false) || false))) (here c) ∙ set_void (same_point (point c) (point (coordinate (plus (point b.pos) d)))) (is_full m c))

-- ---- the only bot leads its group

least : (n : ℕ) (t : Bool) (a : Act) → list_all (λ (b : Act). nat_le a.bot.bid b.bot.bid) (cond t (a ∷ []) []) ≡ true
least n true a = grind (arith, nat_tests)
least n false a = refl

kept : (t : Bool) (a : Act) → t ≡ true → cond t (a ∷ []) [] ≡ a ∷ []
kept t a e = rw e refl

leads : (b : Bot) (k : Command) → leaders (lone b k ∷ []) ≡ lone b k ∷ []
leads b k = kept (is_leader (lone b k ∷ []) (lone b k)) (lone b k) (least 0 (are_together (lone b k) (lone b k)) (lone b k))

pub cost_is : (m : Matrix) (b : Bot) (k : Command) → groups_cost m (lone b k ∷ []) ≡ group_cost m (point b.pos) k
cost_is m b k = ap (λ (xs : List Act). total (map (λ a. group_cost m (point a.bot.pos) a.command) xs)) (leads b k) ∙ integer_plus_none (group_cost m (point b.pos) k)

-- ---- a region of one coordinate

numbers_differ : (r n a : ℕ) → Differ (place r) (map (coordinate_at r) (numbers_from a n))
numbers_differ r zero a = tt
numbers_differ r (suc n) a = ((λ y i e. let later_on = later (numbers_from (a + 1) n) y i in let at_most_w : a + 1 ≤ later_on.0 = above n (a + 1) later_on.0 later_on.1 in absurd (let a_is : a ≡ later_on.0 = sym (place-coordinate_at r a) ∙ (e ∙ (ap (place r) later_on.2 ∙ place-coordinate_at r later_on.0)) in omega arith)), numbers_differ r n (a + 1))
  where
    later : (xs : List ℕ) (y : Coord) → In y (map (coordinate_at r) xs) → (k : ℕ) × In k xs × (y ≡ coordinate_at r k)
    later xs y i = map_in (coordinate_at r) y xs i

    above : (n a k : ℕ) → In k (numbers_from a n) → a ≤ k
    above zero a k i = absurd i
    above (suc n) a k i = first i (above n (a + 1) k)
      where
        first : In k (a ∷ numbers_from (a + 1) n) → (In k (numbers_from (a + 1) n) → a + 1 ≤ k) → a ≤ k
        first (inl e) f = omega arith
        first (inr i) f = let l = f i in omega arith

same_self : (p : Point) → same_point p p ≡ true
same_self p = λ i. itself p.x i && itself p.y i && itself p.z i
  where
    itself : (z : ℤ) → (int_le z z && int_le z z) ≡ true
    itself z = grind (arith, ints)

pub one_only : (r : ℕ) (p : Coord) → IsInSpace r p
    → filter (λ c. is_within (just (point p)) (point c)) (coordinates r) ≡ p ∷ []
one_only r p i =
    ap (λ (test : Coord → Bool). filter test (coordinates r)) (λ j c. within_just (point p) (point c) j)
    ∙ filter_only (place r) (λ c. same_point (point c) (point p)) p (coordinates r) (numbers_differ r (r * r * r) 0) (in_coordinates r p i) (same_self (point p)) (λ c k e. coordinate_is c p (point_is (point c) (point p) e))
  where
    coordinate_is : (c d : Coord) → point c ≡ point d → c ≡ d
    coordinate_is c d e = ap coordinate e

price_just : (m : Matrix) (p : Coord) (a b : ℤ) → IsInSpace m.resolution p
    → price m (just (point p)) a b ≡ cond (is_full m p) b a
price_just m p a b i = ap (λ cs. total (map (λ c. cond (is_full m c) b a) cs)) (one_only m.resolution p i) ∙ integer_plus_none (cond (is_full m p) b a)

module _ (m : Matrix) (b : Bot) (d : Diff) (i : in_space m.resolution (plus (point b.pos) d) ≡ true) where
  beside_cost : (if_void if_full : ℤ) → price m (just (plus (point b.pos) d)) if_void if_full
      ≡ cond (is_full m (coordinate (plus (point b.pos) d))) if_full if_void
  beside_cost if_void if_full =
      let point_facts = of_point m.resolution (plus (point b.pos) d) i in
      ap (λ (s : Point). price m (just s) if_void if_full) (sym point_facts.0) ∙ price_just m (coordinate (plus (point b.pos) d)) if_void if_full point_facts.1

  pub fill_cost :
      groups_cost m (lone b (Fill d) ∷ []) ≡ cond (is_full m (coordinate (plus (point b.pos) d))) (pos 6) (pos 12)
  fill_cost = cost_is m b (Fill d) ∙ beside_cost (pos 12) (pos 6)

  pub void_cost :
      groups_cost m (lone b (Void d) ∷ []) ≡ cond (is_full m (coordinate (plus (point b.pos) d))) (negsuc 11) (pos 3)
  void_cost = cost_is m b (Void d) ∙ beside_cost (pos 3) (negsuc 11)

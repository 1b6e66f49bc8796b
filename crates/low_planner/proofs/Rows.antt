-- Searches in rows.
use Rattle.std.proofs.Common.{◌≡◌, ℕ, ◌+◌, ◌-◌, ◌*◌, ◌<◌, ◌≤◌, ◌⊎◌, inl, inr, refl, sym, ◌∙◌, ap, subst, arith, true, false, ◌&&◌, ◌==◌, find, Option, Some, None}
use Rattle.std.specs.Prelude.{is_some, IsTrue, MatchOption, nat_le, nat_lt}
use Rattle.std.proofs.lemmas.Bool.{cases_lt}
use Rattle.std.proofs.lemmas.Bool.Decides.{nat_tests}
use native.Mathlib.Decide.{ℕ_discrete}
use Rattle.vox_geom.specs.declared.coordinate.Coord.{Coord}
use Rattle.vox_geom.specs.Least.{LeastOf}
use Rattle.vox_geom.specs.Point.{point, coord}
use Rattle.vox_geom.specs.Region.{Corners, corners, is_within, span}
use Rattle.vox_geom.specs.Space.{IsInSpace, is_before}
use Rattle.vox_geom.proofs.Truths.{false_by, first_of_two as left, second_of_two}
use Rattle.nano_spec.specs.Matrix.{Matrix, all_of, is_full}
use Rattle.step_order.proofs.Lists.{not_both}
use Rattle.low_planner.specs.Supported.{rests}
use Rattle.plan_tape.specs.Leg.{distance}
use Rattle.low_planner.specs.declared.sweep.Sweep.{Sweep}
use Rattle.low_planner.specs.Sweep.{AreAllSwept, AreSwept, IsNextFull, IsNextRow, IsPartStart, IsStartInRow, IsSweptRow, IsVoidRow, IsWithinReach}
use Rattle.plan_tape.proofs.LegalModels.{full_within}
use Rattle.model_file.proofs.Boxes.{box_least, in_box}

-- ---- boxes

between_by : (low high v : ℕ) → low ≤ v → v ≤ high → (nat_le low v && nat_le v high) ≡ true
between_by low high v h k = grind (arith, nat_tests)

box_by : (low high c : Coord) → low.x ≤ c.x → c.x ≤ high.x → low.y ≤ c.y → c.y ≤ high.y → low.z ≤ c.z → c.z ≤ high.z
    → in_box low high c ≡ true
unfolding in_box
box_by low high c a b d e f g = rw (between_by low.x high.x c.x a b, between_by low.y high.y c.y d e, between_by low.z high.z c.z f g) refl

between_from : (low high v : ℕ) → (nat_le low v && nat_le v high) ≡ true → (low ≤ v) × (v ≤ high)
between_from low high v h = grind (arith, nat_tests)

box_from : (low high c : Coord) → in_box low high c ≡ true
    → (low.x ≤ c.x) × (c.x ≤ high.x) × (low.y ≤ c.y) × (c.y ≤ high.y) × (low.z ≤ c.z) × (c.z ≤ high.z)
unfolding in_box
box_from low high c h =
    let front = left ((nat_le low.x c.x && nat_le c.x high.x) && (nat_le low.y c.y && nat_le c.y high.y)) (nat_le low.z c.z && nat_le c.z high.z) h in
    let between_x = between_from low.x high.x c.x (left (nat_le low.x c.x && nat_le c.x high.x) (nat_le low.y c.y && nat_le c.y high.y) front) in
    let between_y = between_from low.y high.y c.y (second_of_two (nat_le low.x c.x && nat_le c.x high.x) (nat_le low.y c.y && nat_le c.y high.y) front) in
    let between = between_from low.z high.z c.z (second_of_two ((nat_le low.x c.x && nat_le c.x high.x) && (nat_le low.y c.y && nat_le c.y high.y)) (nat_le low.z c.z && nat_le c.z high.z) h) in
    (between_x.0, between_x.1, between_y.0, between_y.1, between.0, between.1)

-- ---- the first full voxel of a row

before_in_row : (d c : Coord) → d.x ≡ c.x → d.y ≡ c.y → d.z < c.z → is_before d c ≡ true
before_in_row d c x y z = rw (same_as d.x c.x x, same_as d.y c.y y) (less d.z c.z z)
  where
    same_as : (a b : ℕ) → a ≡ b → (a == b) ≡ true
    same_as a b h = grind (arith, nat_tests)

    less : (a b : ℕ) → a < b → nat_lt a b ≡ true
    less a b h = grind (arith, nat_tests)

module _ (m : Matrix) (from : Coord) (e : ℕ) (end : e + 1 ≡ m.resolution) where
  in_row : (d : Coord) → IsTrue (is_full m d) → d.x ≡ from.x → d.y ≡ from.y → from.z ≤ d.z
      → (is_full m d && in_box from (coord from.x from.y e) d) ≡ true
  in_row d f x y z =
      let along_z = (full_within m d f).z in
      rw f (box_by from (coord from.x from.y e) d (omega arith) (omega arith) (omega arith) (omega arith) z (omega arith))

  found_in_row : (o : Option Coord) → LeastOf m.resolution (λ c. is_full m c && in_box from (coord from.x from.y e) c) o
      → MatchOption o (IsVoidRow m from) (IsNextFull m from)
  found_in_row None h = λ d x y z. false_by (is_full m d) (λ f. not_both (in_row d f x y z) (h d (full_within m d f)))
  found_in_row (Some c) h =
      let within_box = box_from from (coord from.x from.y e) c (second_of_two (is_full m c) (in_box from (coord from.x from.y e) c) h.passes) in
      let cx : c.x ≡ from.x = omega (arith, within_box.0, within_box.1) in
      let cy : c.y ≡ from.y = omega (arith, within_box.2, within_box.3) in
      record {
        within = h.within;
        x = cx;
        y = cy;
        z = within_box.4;
        full = left (is_full m c) (in_box from (coord from.x from.y e) c) h.passes;
        first = λ d x y z l. false_by (is_full m d) (λ f. not_both (before_in_row d c (x ∙ sym cx) (y ∙ sym cy) l) (h.least d (full_within m d f) (in_row d f x y z)));
      }

pub next_full_is : (m : Matrix) (k : Corners) (from : Coord) (e : ℕ) (o : Option Coord) → IsInSpace m.resolution from
    → e + 1 ≡ m.resolution → k ≡ corners from (coord from.x from.y e)
    → o ≡ find (λ c. is_full m c && is_within (span k) (point c)) (all_of m)
    → MatchOption o (IsVoidRow m from) (IsNextFull m from)
next_full_is m k from e o i end c found =
    let along_z = i.z in
    found_in_row m from e end o (box_least m k from (coord from.x from.y e) o c (omega arith) (omega arith) (omega arith) found)

-- ---- the first voxel of a row that rests

module _ (m left : Matrix) (from at c : Coord) (x : at.x ≡ from.x) (y : at.y ≡ from.y) (swept : IsSweptRow m left from at.z) where
  -- the voxels before the next full voxel were visited
  before_next : IsNextFull left at c → IsSweptRow m left from c.z
  before_next n d dx dy l u r = by (cases_lt d.z at.z)
    where
      by : ((d.z < at.z) ⊎ (at.z ≤ d.z)) → is_full left d ≡ false
      by (inl k) = swept d dx dy l k r
      by (inr k) = n.first d (dx ∙ sym x) (dy ∙ sym y) k u

  pub starts_here : left.resolution ≡ m.resolution → from.z ≤ at.z → IsNextFull left at c → IsTrue (rests m c)
      → IsStartInRow m left from c
  starts_here e l n r = record {
    within = subst (λ (s : ℕ). IsInSpace s c) e n.within;
    x = n.x ∙ x;
    y = n.y ∙ y;
    z = (let along_z = n.z in omega arith);
    here = n.full;
    resting = r;
    first = before_next n;
  }

  -- if the next full voxel does not rest
  pub swept_on : IsNextFull left at c → rests m c ≡ false → IsSweptRow m left from (c.z + 1)
  swept_on n r d dx dy l u s = by (ℕ_discrete d.z c.z)
    where
      by : Dec (d.z ≡ c.z) → is_full left d ≡ false
      by (no ne) = before_next n d dx dy l (omega arith) s
      by (yes e) =
          let same : d ≡ c = (λ i. record { x = (dx ∙ sym (n.x ∙ x)) i; y = (dy ∙ sym (n.y ∙ y)) i; z = e i }) in
          absurd (not_both (subst (λ (q : Coord). IsTrue (rests m q)) same s) r)

-- if none is full from there on
pub swept_all : (m left : Matrix) (from at : Coord) (end : ℕ) → at.x ≡ from.x → at.y ≡ from.y
    → IsSweptRow m left from at.z → IsVoidRow left at → IsSweptRow m left from end
swept_all m left from at end x y swept none d dx dy l u r = by (cases_lt d.z at.z)
  where
    by : ((d.z < at.z) ⊎ (at.z ≤ d.z)) → is_full left d ≡ false
    by (inl k) = swept d dx dy l k r
    by (inr k) = none d (dx ∙ sym x) (dy ∙ sym y) k

-- ---- from row to row

pub rows_fall : (r y x v u : ℕ) → y < r → x < r → ((v ≡ y) × (u ≡ x + 1)) ⊎ ((v ≡ y + 1) × (u ≡ 0) × (x + 1 ≡ r))
    → (r - v) * r + (r - u) < (r - y) * r + (r - x)
rows_fall r y x v u h l (inl e) =
    let same : (r - v) * r ≡ (r - y) * r = ap (λ (n : ℕ). (r - n) * r) e.0 in
    let up = e.1 in
    omega arith
rows_fall r y x v u h l (inr e) =
    let up : r - y ≡ r - v + 1 = omega (arith, e.0) in
    let more : (r - y) * r ≡ (r - v) * r + r = ap (λ (n : ℕ). n * r) up ∙ omega arith in
    omega (arith, e.1, e.2)

gaps_on : (a b c : ℕ) → (a - c) + (c - a) ≤ ((a - b) + (b - a)) + ((b - c) + (c - b))
gaps_on a b c = omega arith

pub distance_on : (a b c : Coord) → distance a c ≤ distance a b + distance b c
distance_on a b c = omega (arith, gaps_on a.x b.x c.x, gaps_on a.y b.y c.y, gaps_on a.z b.z c.z)

-- the path to one coordinate, and from there to another
pub reach_on : (r : ℕ) (a b c : Coord) → IsWithinReach r a b → IsWithinReach r b c → IsWithinReach r a c
reach_on r a b c h k = let distance_sum = distance_on a b c in omega arith

-- to a coordinate of the same row
pub reach_row : (r : ℕ) (a b : Coord) → b.x ≡ a.x → b.y ≡ a.y → a.z ≤ b.z → IsWithinReach r a b
reach_row r a b x y z =
    let distance_is : distance a b ≡ b.z - a.z = omega arith in
    let product_is : 3 * r * (b.y * r + b.x) ≡ 3 * r * (a.y * r + a.x) = (λ i. 3 * r * (y i * r + x i)) in
    omega arith

-- if the resting voxels of a row were visited, so were those before a later coordinate of the row
pub swept_to : (m left : Matrix) (from c : Coord) → AreSwept m left from → IsStartInRow m left from c
    → AreSwept m left c
swept_to m left from c h s = record {
  layers = λ d l r. h.layers d (let along_y = s.y in omega arith) r;
  rows = λ d e l r. h.rows d (e ∙ s.y) (let along_x = s.x in omega arith) r;
  cells = λ d e f l r. by d (e ∙ s.y) (f ∙ s.x) l r (cases_lt d.z from.z);
}
  where
    by : (d : Coord) → d.y ≡ from.y → d.x ≡ from.x → d.z < c.z → IsTrue (rests m d) → ((d.z < from.z) ⊎ (from.z ≤ d.z))
        → is_full left d ≡ false
    by d e f l r (inl k) = h.cells d e f k r
    by d e f l r (inr k) = s.first d f e k l r

-- the next part begins at its start in a row that the search has reached
pub start_is : (m : Matrix) (s : Sweep) (from c : Coord) → IsWithinReach m.resolution s.at from → s.at.y ≤ from.y
    → AreSwept m s.remaining from → IsStartInRow m s.remaining from c → IsPartStart m s c
start_is m s from c near up swept h = record {
  within = h.within;
  here = h.here;
  resting = h.resting;
  swept = swept_to m s.remaining from c swept h;
  up = (let along_y = h.y in omega arith);
  near = reach_on m.resolution s.at from c near (reach_row m.resolution from c h.x h.y h.z);
}

-- past the last layer
pub swept_past : (m left : Matrix) (from : Coord) → left.resolution ≡ m.resolution → m.resolution ≤ from.y
    → AreSwept m left from → AreAllSwept m left
swept_past m left from e h swept c r = false_by (is_full left c) (λ f. not_both f (swept.layers c (let along_y = (full_within left c f).y in omega arith) r))

pub row_up : (r : ℕ) (from next : Coord) → IsNextRow r from next → from.y ≤ next.y
row_up r from next h = by h.forth
  where
    by : ((next.y ≡ from.y) × (next.x ≡ from.x + 1)) ⊎ ((next.y ≡ from.y + 1) × (next.x ≡ 0) × (from.x + 1 ≡ r))
        → from.y ≤ next.y
    by (inl e) = omega (arith, e.0)
    by (inr e) = omega (arith, e.0)

pub row_most : (r : ℕ) (from next : Coord) → IsNextRow r from next → from.y < r → next.y ≤ r
row_most r from next h l = by h.forth
  where
    by : ((next.y ≡ from.y) × (next.x ≡ from.x + 1)) ⊎ ((next.y ≡ from.y + 1) × (next.x ≡ 0) × (from.x + 1 ≡ r))
        → next.y ≤ r
    by (inl e) = omega (arith, e.0)
    by (inr e) = omega (arith, e.0)

-- if a search has found none
pub found_none : {A : Type 0} (o : Option A) (P : Type 0) (Q : A → Type 0) → is_some o ≡ false → MatchOption o P Q → P
found_none None P Q e h = h
found_none (Some a) P Q e h = cc

pub found_some : {A : Type 0} (o : Option A) (P : Type 0) (Q : A → Type 0) (S : Type 0) (R : A → Type 0)
    → is_some o ≡ true → ((a : A) → Q a → R a) → MatchOption o P Q → MatchOption o S R
found_some None P Q S R e f h = cc
found_some (Some a) P Q S R e f h = f a h

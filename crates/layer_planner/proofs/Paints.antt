-- Painting by parts.
use Rattle.std.proofs.Common.{◌≡◌, ℕ, ◌+◌, ◌*◌, ◌<◌, ◌≤◌, refl, sym, ◌∙◌, ap, arith, Bool, true, false, cond, ◌&&◌, ◌||◌, ◌==◌, nat_lt}
use Rattle.std.specs.Prelude.{pos}
use Rattle.std.proofs.lemmas.Bool.Decides.{nat_tests}
use Rattle.vox_geom.specs.declared.coordinate.Coord.{Coord}
use Rattle.vox_geom.specs.Point.{point, same_point, same_number}
use Rattle.vox_geom.specs.Space.{IsInSpace, in_space}
use Rattle.vox_geom.proofs.Truths.{no_first as none, parts_of_three}
use Rattle.vox_geom.proofs.Tests.{equal_by_test}
use Rattle.vox_geom.proofs.Points.{in_space_is, space_by_test}
use Rattle.nano_spec.specs.Matrix.{Matrix, is_full}
use Rattle.step_order.proofs.Voxels.{full_where}
use Rattle.vox_planes.specs.Voxel.{with_voxel}
use Rattle.plan_tape.specs.Leg.{moves_to}
use Rattle.plan_tape.specs.Progress.{TapeState, spot}
use Rattle.layer_planner.specs.Painting.{CanPaint, CanSweep, IsPartlyBuilt, Paints}
use Rattle.plan_tape.specs.Parts.{below_layer, in_layer, in_row, layer, is_in_line, voxel}
use Rattle.plan_tape.proofs.ClearWays.{moves_on}
use Rattle.plan_tape.proofs.Parts.{void_past_x, void_past_z}

-- ---- one voxel

same_is : (a b : ℕ) → same_number (pos a) (pos b) ≡ (a == b)
same_is a b = grind (arith, nat_tests)

here_is : (q c : Coord) → same_point (point q) (point c) ≡ voxel c.x c.y c.z q
here_is q c = λ i. same_is q.x c.x i && same_is q.y c.y i && same_is q.z c.z i

-- a coordinate that passes the test of a voxel is that voxel
pub voxel-is : (q c : Coord) → voxel c.x c.y c.z q ≡ true → q ≡ c
voxel-is q c h =
    let three_parts = parts_of_three (q.x == c.x) (q.y == c.y) (q.z == c.z) h in
    let same_x = equal_by_test q.x c.x three_parts.0 in
    let same_y = equal_by_test q.y c.y three_parts.1 in
    let same_z = equal_by_test q.z c.z three_parts.2 in
    λ j. record { x = same_x j; y = same_y j; z = same_z j }

both : {b : Bool} → b ≡ false → b ≡ true → ⊥
both f g = let impossible = sym f ∙ g in cc

outside : (r : ℕ) (q c : Coord) → IsInSpace r c → in_space r (point q) ≡ false → voxel c.x c.y c.z q ≡ false
outside r q c i o = by (voxel c.x c.y c.z q) refl
  where
    by : (t : Bool) → voxel c.x c.y c.z q ≡ t → voxel c.x c.y c.z q ≡ false
    by false e = e
    by true e = absurd (both (sym (ap (λ (d : Coord). in_space r (point d)) (voxel-is q c e)) ∙ o) (in_space_is r c i))

-- the voxels of a matrix of which one was changed
full_with : (m : Matrix) (c : Coord) (b : Bool) (q : Coord) → IsInSpace m.resolution c
    → is_full (with_voxel m c b) q ≡ cond (voxel c.x c.y c.z q) b (is_full m q)
full_with m c b q i = by (in_space m.resolution (point q)) refl
  where
    by : (s : Bool) → in_space m.resolution (point q) ≡ s
        → is_full (with_voxel m c b) q ≡ cond (voxel c.x c.y c.z q) b (is_full m q)
    by true s =
        full_where m.resolution (λ d. cond (same_point (point d) (point c)) b (is_full m d)) q (space_by_test m.resolution q s)
        ∙ ap (λ t. cond t b (is_full m q)) (here_is q c)
    by false s =
        none (in_space m.resolution (point q)) _ s
        ∙ sym (ap (λ t. cond t b (is_full m q)) (outside m.resolution q c i s) ∙ none (in_space m.resolution (point q)) _ s)

-- a voxel that is set to the goal's
pub painted_set : (m goal : Matrix) (c : Coord) (b : Bool) → IsInSpace m.resolution c → is_full goal c ≡ b
    → IsPartlyBuilt (with_voxel m c b) m goal (voxel c.x c.y c.z)
painted_set m goal c b i e = λ q. full_with m c b q i ∙ by q (voxel c.x c.y c.z q) refl
  where
    by : (q : Coord) (t : Bool) → voxel c.x c.y c.z q ≡ t
        → cond t b (is_full m q) ≡ cond t (is_full goal q) (is_full m q)
    by q true s = sym (ap (is_full goal) (voxel-is q c s) ∙ e)
    by q false s = refl

-- a voxel that is the goal's already
pub painted_yet : (m goal : Matrix) (c : Coord) → is_full m c ≡ is_full goal c
    → IsPartlyBuilt m m goal (voxel c.x c.y c.z)
painted_yet m goal c e = λ q. by q (voxel c.x c.y c.z q) refl
  where
    by : (q : Coord) (t : Bool) → voxel c.x c.y c.z q ≡ t → is_full m q ≡ cond t (is_full goal q) (is_full m q)
    by q true s = let there = voxel-is q c s in ap (is_full m) there ∙ (e ∙ sym (ap (is_full goal) there))
    by q false s = refl

-- ---- parts

both_parts : (a b g o : Bool) → cond a g (cond b g o) ≡ cond (a || b) g o
both_parts true b g o = refl
both_parts false b g o = refl

-- one part after another
pub painted_more : (a b m goal : Matrix) (first last all : Coord → Bool) → IsPartlyBuilt b m goal first
    → IsPartlyBuilt a b goal last → ((c : Coord) → all c ≡ (last c || first c)) → IsPartlyBuilt a m goal all
painted_more a b m goal first last all p q e =
    λ c. q c ∙ (ap (cond (last c) (is_full goal c)) (p c) ∙ (both_parts (last c) (first c) (is_full goal c) (is_full m c) ∙ ap (λ t. cond t (is_full goal c) (is_full m c)) (sym (e c))))

-- below a layer the voxels are those of the goal already
pub same_below : (m goal : Matrix) (low : ℕ) → ((c : Coord) → c.y < low → is_full m c ≡ is_full goal c)
    → IsPartlyBuilt m m goal (below_layer low)
same_below m goal low h = λ c. by c (nat_lt c.y low) refl
  where
    less : (v y : ℕ) → nat_lt v y ≡ true → v < y
    less v y e = grind (arith, nat_tests)

    by : (c : Coord) (t : Bool) → nat_lt c.y low ≡ t → is_full m c ≡ cond t (is_full goal c) (is_full m c)
    by c true e = h c (less c.y low e)
    by c false e = refl

-- ---- whole rows and layers

all_false : (t a b c : Bool) → a ≡ false → b ≡ false → c ≡ false → a ≡ cond t b c
all_false true a b c e f g = e ∙ sym f
all_false false a b c e f g = e ∙ sym g

module _ (a m goal : Matrix) (r : ℕ) (ra : a.resolution ≡ r) (rm : m.resolution ≡ r) (rg : goal.resolution ≡ r) where
  pub whole_row : (x y : ℕ) → IsPartlyBuilt a m goal (in_row x y r) → IsPartlyBuilt a m goal (is_in_line x y)
  whole_row x y p = λ c. by c (nat_lt c.z r) refl
    where
      end : (c : Coord) → (s t : Bool) → nat_lt c.z r ≡ true → (s && t && nat_lt c.z r) ≡ (s && t)
      end c true true e = e
      end c true false e = refl
      end c false t e = refl

      by : (c : Coord) (t : Bool) → nat_lt c.z r ≡ t
          → is_full a c ≡ cond (is_in_line x y c) (is_full goal c) (is_full m c)
      by c true e = p c ∙ ap (λ s. cond s (is_full goal c) (is_full m c)) (end c (c.x == x) (c.y == y) e)
      by c false e = all_false (is_in_line x y c) _ _ _ (void_past_z a c (ap (nat_lt c.z) ra ∙ e)) (void_past_z goal c (ap (nat_lt c.z) rg ∙ e)) (void_past_z m c (ap (nat_lt c.z) rm ∙ e))

  pub whole_layer : (y : ℕ) → IsPartlyBuilt a m goal (in_layer r y) → IsPartlyBuilt a m goal (layer y)
  whole_layer y p = λ c. by c (nat_lt c.x r) refl
    where
      by : (c : Coord) (t : Bool) → nat_lt c.x r ≡ t → is_full a c ≡ cond (layer y c) (is_full goal c) (is_full m c)
      by c true e = p c ∙ ap (λ s. cond (s && c.y == y) (is_full goal c) (is_full m c)) e
      by c false e = all_false (layer y c) _ _ _ (void_past_x a c (ap (nat_lt c.x) ra ∙ e)) (void_past_x goal c (ap (nat_lt c.x) rg ∙ e)) (void_past_x m c (ap (nat_lt c.x) rm ∙ e))

-- ---- tapes

-- a voxel that is the goal's already is painted
pub paints_yet : (a : TapeState) (goal : Matrix) (done : Coord → Bool) (at : Coord) (most : ℕ) → CanSweep a goal
    → IsPartlyBuilt a.matrix a.matrix goal done → Paints a a goal done at at most
paints_yet a goal done at most k h = record { source = refl; resolution = refl; painted = h; ready = k; bytes_are = omega arith; steps_are = omega arith }

-- nothing is painted yet
pub paints_none : (a : TapeState) (goal : Matrix) (none : Coord → Bool) (at : Coord) → CanSweep a goal
    → ((c : Coord) → none c ≡ false) → Paints a a goal none at at 0
paints_none a goal none at k e = record { source = refl; resolution = refl; painted = λ c. rw (e c) refl; ready = k; bytes_are = omega arith; steps_are = omega arith }

-- one part after another
pub paints_more : (a b c : TapeState) (goal : Matrix) (first last all : Coord → Bool) (p q s : Coord) (k n most : ℕ)
    → Paints a b goal first p q k → Paints b c goal last q s n → ((d : Coord) → all d ≡ (last d || first d))
    → k + n ≤ most → Paints a c goal all p s most
paints_more a b c goal first last all p q s k n most h g e l = record {
  source = g.source ∙ h.source;
  resolution = g.resolution ∙ h.resolution;
  painted = painted_more c.matrix b.matrix a.matrix goal first last all h.painted g.painted e;
  ready = g.ready;
  bytes_are = let its_bytes_are = h.bytes_are in let bytes_are = g.bytes_are in omega arith;
  steps_are = let its_steps_are = h.steps_are in let steps_are = g.steps_are in omega arith;
}

-- the path to another coordinate
pub paints_to : (a b : TapeState) (goal : Matrix) (done : Coord → Bool) (p q s : Coord) (k n most : ℕ)
    → Paints a b goal done p q k → 2 * moves_to q s ≤ n → k + n ≤ most → Paints a b goal done p s most
paints_to a b goal done p q s k n most h l m = record {
  source = h.source;
  resolution = h.resolution;
  painted = h.painted;
  ready = h.ready;
  bytes_are = let bytes_are = h.bytes_are in let onward = moves_on (spot b.bots) q s in omega arith;
  steps_are = let steps_are = h.steps_are in let onward = moves_on (spot b.bots) q s in omega arith;
}

-- a greater bound holds too
pub paints_few : (a b : TapeState) (goal : Matrix) (done : Coord → Bool) (p q : Coord) (k most : ℕ)
    → Paints a b goal done p q k → k ≤ most → Paints a b goal done p q most
paints_few a b goal done p q k most h l = record { source = h.source; resolution = h.resolution; painted = h.painted; ready = h.ready; bytes_are = let bytes_are = h.bytes_are in omega arith; steps_are = let steps_are = h.steps_are in omega arith }

-- the same by another test with the same voxels
pub paints_as : (a b : TapeState) (goal : Matrix) (done all : Coord → Bool) (p q : Coord) (k : ℕ)
    → Paints a b goal done p q k → IsPartlyBuilt b.matrix a.matrix goal all → Paints a b goal all p q k
paints_as a b goal done all p q k h i = record { source = h.source; resolution = h.resolution; painted = i; ready = h.ready; bytes_are = h.bytes_are; steps_are = h.steps_are }

-- painting continues if nothing was painted above the layer
pub paints_on : (a b : TapeState) (goal : Matrix) (y : ℕ) (done : Coord → Bool) (p q : Coord) (k : ℕ)
    → CanPaint a goal y → Paints a b goal done p q k → ((c : Coord) → y + 1 ≤ c.y → done c ≡ false) → CanPaint b goal y
paints_on a b goal y done p q k c h n = record {
  sweep = h.ready;
  within = let within = c.within in let resolution = h.resolution in omega arith;
  above = λ d l. h.painted d ∙ (ap (λ t. cond t (is_full goal d) (is_full a.matrix d)) (n d l) ∙ c.above d l);
}

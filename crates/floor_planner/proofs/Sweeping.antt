-- The sweep over the floor: its begin, its continuation, and its end.
use Rattle.std.proofs.Common.{◌≡◌, ℕ, ◌+◌, ◌*◌, ◌<◌, ◌≤◌, refl, sym, ◌∙◌, ap, subst, arith, mul-le-mul, Bool, true, false, cond, ◌&&◌, ◌||◌, ◌==◌, nat_lt, length}
use Rattle.std.specs.Prelude.{ℤ, pos}
use Rattle.std.proofs.lemmas.Bool.Decides.{nat_tests}
use Rattle.vox_geom.specs.declared.coordinate.Coord.{Coord}
use Rattle.vox_geom.specs.Point.{plus, point, same_number, same_point, coord, down}
use Rattle.vox_geom.specs.Space.{IsInSpace, coordinate}
use Rattle.vox_geom.proofs.Truths.{false_by, first_of_two}
use Rattle.vox_geom.proofs.Sums.{unsigned_plus_none}
use Rattle.nano_spec.specs.declared.commands.Command.{Command}
use Rattle.nano_spec.specs.Legal.{IsLegal}
use Rattle.nano_spec.specs.Matrix.{Matrix, empty, is_full}
use Rattle.nano_spec.specs.Profile.{full_profile}
use Rattle.nano_spec.specs.Step.{flipped}
use Rattle.step_order.proofs.Lists.{not_both}
use Rattle.step_order.proofs.Voxels.{as_it_is, full_where, matrix_same}
use Rattle.vox_planes.specs.Voxel.{IsWhole, with_voxel}
use Rattle.vox_planes.proofs.Voxels.{same_point-is}
use Rattle.plan_tape.specs.Leg.{AreVoidTo, Moves, moves_to}
use Rattle.plan_tape.specs.Progress.{TapeState, Writes, beside, spot, starting}
use Rattle.floor_planner.specs.Floor.{IsFlat, IsSweptTo, is_passed, swept}
use Rattle.floor_planner.proofs.Models.{full_passes}
use Rattle.plan_tape.proofs.ClearWays.{ways_between, moves_most}
use Rattle.plan_tape.proofs.LegalModels.{empty_is_void, full_in_box, full_within}

-- ---- which coordinates are passed

after_one : (x z a b c : ℕ) → b ≡ 0 → cond
    (same_number (pos a) (pos x) && same_number (pos b) (pos 0) && same_number (pos c) (pos z)) true
    (nat_lt a x || (a == x && nat_lt c z)) ≡ (nat_lt a x || (a == x && nat_lt c (z + 1)))
after_one x z a b c e = grind (arith, nat_tests)

after_row : (x r a c : ℕ) → c < r
    → (nat_lt a x || (a == x && nat_lt c r)) ≡ (nat_lt a (x + 1) || (a == x + 1 && nat_lt c 0))
after_row x r a c h = grind (arith, nat_tests)

at_first : (a c : ℕ) → (nat_lt a 0 || (a == 0 && nat_lt c 0)) ≡ false
at_first a c = grind (arith, nat_tests)

at_last : (r a c : ℕ) → a < r → (nat_lt a r || (a == r && nat_lt c 0)) ≡ true
at_last r a c h = grind (arith, nat_tests)

-- ---- the matrix

-- two tests that agree if a voxel is full
agree : (full s t : Bool) → (full ≡ true → s ≡ t) → (full && s) ≡ (full && t)
agree true s t h = h refl
agree false s t h = refl

same_swept : (target : Matrix) (x z a b : ℕ)
    → ((c : Coord) → is_full target c ≡ true → is_passed x z c ≡ is_passed a b c) → swept target x z ≡ swept target a b
same_swept target x z a b same = matrix_same target.resolution (λ c. is_full target c && is_passed x z c) (λ c. is_full target c && is_passed a b c) (λ c i. agree (is_full target c) (is_passed x z c) (is_passed a b c) (same c))

none_swept : (target : Matrix) → empty target.resolution ≡ swept target 0 0
none_swept target = matrix_same target.resolution (λ _. false) (λ c. is_full target c && is_passed 0 0 c) (λ c i. sym (by (is_full target c) c))
  where
    by : (full : Bool) (c : Coord) → (full && is_passed 0 0 c) ≡ false
    by true c = at_first c.x c.z
    by false c = refl

all_swept : (target : Matrix) → IsWhole target → swept target target.resolution 0 ≡ target
all_swept target w = matrix_same target.resolution (λ c. is_full target c && is_passed target.resolution 0 c) (is_full target) (λ c i. by (is_full target c) c (at_last target.resolution c.x c.z i.x)) ∙ as_it_is target w.voxels
  where
    by : (full : Bool) (c : Coord) → is_passed target.resolution 0 c ≡ true
        → (full && is_passed target.resolution 0 c) ≡ full
    by true c e = e
    by false c e = refl

-- a voxel that the target has not is another than one that it has
apart : (target : Matrix) (c d : Coord) → is_full target c ≡ true → is_full target d ≡ false
    → same_point (point c) (point d) ≡ false
apart target c d f g = false_by (same_point (point c) (point d)) (λ s. not_both (sym (ap (is_full target) (same_point-is c d s)) ∙ f) g)

one_swept : (target : Matrix) (x z : ℕ) → IsFlat target → is_full target (coord x 0 z) ≡ true
    → with_voxel (swept target x z) (coord x 0 z) true ≡ swept target x (z + 1)
one_swept target x z flat wanted = matrix_same target.resolution (λ c. cond (same_point (point c) (point (coord x 0 z))) true (is_full (swept target x z) c)) (λ c. is_full target c && is_passed x (z + 1) c) (λ c i. ap (cond (same_point (point c) (point (coord x 0 z))) true) (full_where target.resolution (λ d. is_full target d && is_passed x z d) c i) ∙ by c (is_full target c) refl)
  where
    by : (c : Coord) (full : Bool) → is_full target c ≡ full
        → cond (same_point (point c) (point (coord x 0 z))) true (full && is_passed x z c)
        ≡ (full && is_passed x (z + 1) c)
    by c true f = after_one x z c.x c.y c.z (flat c f)
    by c false f = ap (λ s. cond s true false) (false_by (same_point (point c) (point (coord x 0 z))) (λ s. not_both (ap (is_full target) (same_point-is c (coord x 0 z) s) ∙ wanted) f))

-- from the first layer on all is void
clear : (m target : Matrix) (x z : ℕ) → IsFlat target → m ≡ swept target x z → (c : Coord) → 1 ≤ c.y
    → is_full m c ≡ false
clear m target x z flat e c h = false_by (is_full m c) (λ f. let low = flat c (first_of_two _ _ (full_passes target.resolution (λ d. is_full target d && is_passed x z d) c (sym (ap (λ (n : Matrix). is_full n c) e) ∙ f))) in omega arith)

-- ---- the sweep continues

-- if nothing is written
goes_on : (t : TapeState) (target : Matrix) (x z a b : ℕ) → IsSweptTo t target x z
    → ((c : Coord) → is_full target c ≡ true → is_passed x z c ≡ is_passed a b c)
    → x * target.resolution + z ≤ a * target.resolution + b → IsSweptTo t target a b
goes_on t target x z a b s same more = record { source = s.source; matrix = s.matrix ∙ same_swept target x z a b same; profile = s.profile; high = s.high; alone = s.alone; placed = s.placed; above = s.above; few = let few = s.few in omega arith }

pub row_ends : (t : TapeState) (target : Matrix) (x : ℕ) → IsSweptTo t target x target.resolution
    → IsSweptTo t target (x + 1) 0
row_ends t target x s = goes_on t target x target.resolution (x + 1) 0 s (λ c f. let is_within = full_within target c f in after_row x target.resolution c.x c.z is_within.z) (omega arith)

-- past a voxel that the target has not
pub skipped : (t : TapeState) (target : Matrix) (x z : ℕ) → IsFlat target → IsSweptTo t target x z
    → is_full target (coord x 0 z) ≡ false → IsSweptTo t target x (z + 1)
skipped t target x z flat s void = goes_on t target x z x (z + 1) s (λ c f. ap (λ q. cond q true (is_passed x z c)) (sym (apart target c (coord x 0 z) f void)) ∙ after_one x z c.x c.y c.z (flat c f)) (omega arith)

-- ---- a voxel is filled from above

-- there is a position above each voxel of the target
pub place_above : (r : ℕ) (target : Matrix) (x z : ℕ) → IsLegal target → r ≡ target.resolution
    → is_full target (coord x 0 z) ≡ true → IsInSpace r (coord x 1 z)
place_above r target x z legal e wanted =
    let is_within = full_within target (coord x 0 z) wanted in
    subst (λ n. IsInSpace n (coord x 1 z)) (sym e) (record { x = is_within.x; y = (full_in_box target (coord x 0 z) legal wanted).y_end; z = is_within.z })

area : (x r : ℕ) → x ≤ r → r ≤ 400 → x * r ≤ 160000
area x r h l = let x_to_400 : x ≤ 400 = omega arith in mul-le-mul x_to_400 l

-- no path takes the tape past its limit
pub room_left : (t : TapeState) (target : Matrix) (x z : ℕ) (to : Coord) → IsSweptTo t target x z
    → x ≤ target.resolution → z ≤ target.resolution → target.resolution ≤ 400 → IsInSpace target.resolution to
    → t.steps + moves_to (spot t.bots) to + 2 < 1073741824
room_left t target x z to s h k most i = let few = s.few in omega (arith, area x target.resolution h most, moves_most target.resolution (spot t.bots) to most s.placed i)

-- the path to above a voxel of the floor
pub ways_above : (t : TapeState) (target : Matrix) (x z : ℕ) → IsFlat target → IsSweptTo t target x z
    → AreVoidTo t.matrix (spot t.bots) (coord x 1 z)
ways_above t target x z flat s = ways_between t.matrix (spot t.bots) (coord x 1 z) s.above (clear t.matrix target x z flat s.matrix)

below : (p : TapeState) (x z : ℕ) → spot p.bots ≡ coord x 1 z → beside p down ≡ coord x 0 z
below p x z e = ap (λ (c : Coord). coordinate (plus (point c) down)) e ∙ (λ i. record { x = unsigned_plus_none x i; y = 0; z = unsigned_plus_none z i })

pub filled_one : (s t u : TapeState) (target : Matrix) (k : Command) (cost : ℤ) (x z : ℕ) → IsLegal target
    → IsFlat target → target.resolution ≤ 400 → IsSweptTo s target x z → is_full target (coord x 0 z) ≡ true
    → Moves s t (coord x 1 z) → Writes t u k (with_voxel t.matrix (beside t down) true) t.harmonics t.bots cost
    → IsSweptTo u target x (z + 1)
filled_one s t u target k cost x z legal flat most w wanted m f =
    let at : spot u.bots ≡ coord x 1 z = ap spot f.bots_are ∙ m.there in
    let matrix : u.matrix ≡ swept target x (z + 1) = f.matrix ∙ ((λ i. with_voxel ((m.matrix ∙ w.matrix) i) (below t x z m.there i) true) ∙ one_swept target x z flat wanted) in
    let placed = place_above target.resolution target x z legal refl wanted in
    record {
      source = f.source ∙ (m.source ∙ w.source);
      matrix = matrix;
      profile = f.profile ∙ (m.profile ∙ w.profile);
      high = f.harmonics ∙ (m.harmonics ∙ w.high);
      alone = ap length f.bots_are ∙ m.alone;
      placed = subst (IsInSpace target.resolution) (sym at) placed;
      above = λ c h. clear u.matrix target x (z + 1) flat matrix c (subst (λ (q : Coord). q.y ≤ c.y) at h);
      few = let few = w.few in let one = f.steps in let way = m.steps in omega (arith, moves_most target.resolution (spot s.bots) (coord x 1 z) most w.placed placed);
    }

-- ---- the beginning and the end

pub begins : (t u : TapeState) (nothing target : Matrix) (k : Command) (cost : ℤ) → nothing ≡ empty target.resolution
    → 1 ≤ target.resolution → t ≡ starting nothing full_profile
    → Writes t u k t.matrix (flipped t.harmonics) t.bots cost → IsSweptTo u target 0 0
begins t u nothing target k cost n some e w =
    let matrix : u.matrix ≡ empty target.resolution = w.matrix ∙ (ap (λ (p : TapeState). p.matrix) e ∙ n) in
    let at : spot u.bots ≡ coord 0 0 0 = ap spot (w.bots_are ∙ ap (λ (p : TapeState). p.bots) e) in
    record {
      source = w.source ∙ (ap (λ (p : TapeState). p.source) e ∙ n);
      matrix = matrix ∙ none_swept target;
      profile = w.profile ∙ ap (λ (p : TapeState). p.profile) e;
      high = w.harmonics ∙ ap (λ (p : TapeState). flipped p.harmonics) e;
      alone = ap length (w.bots_are ∙ ap (λ (p : TapeState). p.bots) e);
      placed = subst (IsInSpace target.resolution) (sym at) (record { x = some; y = some; z = some });
      above = λ c h. ap (λ (m : Matrix). is_full m c) matrix ∙ empty_is_void target.resolution c;
      few = let one = w.steps in let none = ap (λ (p : TapeState). p.steps) e in omega arith;
    }

pub matrix_is : (t : TapeState) (target : Matrix) → IsSweptTo t target target.resolution 0 → IsWhole target
    → t.matrix ≡ target
matrix_is t target s w = s.matrix ∙ all_swept target w

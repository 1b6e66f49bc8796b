-- Building by parts.
use Rattle.std.proofs.Common.{◌≡◌, ℕ, zero, suc, ◌+◌, ◌-◌, ◌*◌, ◌<◌, ◌≤◌, refl, sym, ◌∙◌, ap, subst, arith, Bool, true, false, ◌&&◌, ◌||◌, not, ◌==◌, min, List, [], ◌∷◌, add-one}
use Rattle.std.proofs.lemmas.Bool.Decides.{nat_tests}
use Rattle.vox_geom.specs.declared.coordinate.Coord.{Coord}
use Rattle.vox_geom.specs.Point.{coord}
use Rattle.vox_geom.proofs.Truths.{no_second_of_three, none_of_two, or_of_and, second_by_and_not}
use Rattle.nano_spec.specs.Matrix.{Matrix, is_full}
use Rattle.plan_tape.specs.Leg.{distance}
use Rattle.plan_tape.specs.Progress.{TapeState, spot, IsVoidFrom}
use Rattle.swarm_planner.specs.Building.{Builds, CanFillLayer, Fills, IsRaised, are_wanted, cell, in_line, in_lines, is_below, is_column, is_under, is_wanted, line, line_steps, in_first_lines}
use Rattle.swarm_planner.specs.Crew.{MayLead, RowGoes, places}
use Rattle.swarm_planner.specs.Strips.{count, held, last, next, bot_row, strip_row}
use Rattle.swarm_planner.specs.Bounds.{width}
use Rattle.swarm_planner.proofs.Filling.{is_below-is}

-- ---- which voxels are below a row

one_up : (a b : ℕ) → (a + 1 == b + 1) ≡ (a == b)
one_up a b = grind (arith, nat_tests)

one_more : (a b c d e : Bool) → ((a && c && d) || (b && c && d)) ≡ ((a || b) && c && d)
one_more true true c d e = or_itself (c && d)
  where
    or_itself : (t : Bool) → (t || t) ≡ t
    or_itself true = refl
    or_itself false = refl
one_more true false c d e = or_false (c && d)
  where
    or_false : (t : Bool) → (t || false) ≡ t
    or_false true = refl
    or_false false = refl
one_more false b c d e = refl

under_row : (w l n a y z : ℕ) (c : Coord)
    → is_under (bot_row w l n (coord a (y + 1) z)) c ≡ (is_column w l n a c.x && c.y == y && c.z == z)
under_row w l zero a y z c = refl
under_row w l (suc n) a y z c =
    (λ i. (c.x == min a l && one_up c.y y i && c.z == z) || under_row w l n (a + w) y z c i)
    ∙ one_more (c.x == min a l) (is_column w l n (a + w) c.x) (c.y == y) (c.z == z) true

pub under_is : (r x y z : ℕ) (c : Coord) → is_under (strip_row r (coord x (y + 1) z)) c ≡ cell r x y z c
under_is r x y z c = under_row (width r) (last r) (count r) x y z c

-- ---- if nothing is missing

none_wanted : (m target : Matrix) (ps : List Coord) (c : Coord) → are_wanted m target ps ≡ false → is_under ps c ≡ true
    → is_full target c ≡ true → is_full m c ≡ true
none_wanted m target [] c h u g = cc
none_wanted m target (p ∷ ps) c h u g = by (is_below p c) refl (none_of_two (is_wanted m target p) (are_wanted m target ps) h) (λ n v. none_wanted m target ps c n v g)
  where
    by : (t : Bool) → is_below p c ≡ t → (is_wanted m target p ≡ false) × (are_wanted m target ps ≡ false)
        → (are_wanted m target ps ≡ false → is_under ps c ≡ true → is_full m c ≡ true) → is_full m c ≡ true
    by true e n later = let is_the_one_below = is_below-is p c e in second_by_and_not (is_full target c) (is_full m c) (ap (λ (d : Coord). is_full target d && not (is_full m d)) is_the_one_below ∙ n.0) g
    by false e n later = later n.1 (sym (ap (λ t. t || is_under ps c) e) ∙ u)

all_there : (full under target : Bool) → (under ≡ true → target ≡ true → full ≡ true)
    → full ≡ (full || (under && target))
all_there true under target h = refl
all_there false true true h = h refl refl
all_there false true false h = refl
all_there false false target h = refl

pub raised_already : (m target : Matrix) (ps : List Coord) → are_wanted m target ps ≡ false
    → IsRaised m m target (is_under ps)
raised_already m target ps h = λ c. all_there (is_full m c) (is_under ps c) (is_full target c) (none_wanted m target ps c h)

-- ---- parts

both_parts : (full d e target : Bool) → ((full || (d && target)) || (e && target)) ≡ (full || ((d || e) && target))
both_parts true d e target = refl
both_parts false true e true = refl
both_parts false true true false = refl
both_parts false true false false = refl
both_parts false false e target = refl

same_where_full : (full d e target : Bool) → (target ≡ true → d ≡ e) → (full || (d && target)) ≡ (full || (e && target))
same_where_full full d e true h = ap (λ t. full || (t && true)) (h refl)
same_where_full true d e false h = refl
same_where_full false true true false h = refl
same_where_full false true false false h = refl
same_where_full false false true false h = refl
same_where_full false false false false h = refl

pub raised_as : (m n target : Matrix) (d e : Coord → Bool) → IsRaised m n target d
    → ((c : Coord) → is_full target c ≡ true → d c ≡ e c) → IsRaised m n target e
raised_as m n target d e h k = λ c. h c ∙ same_where_full (is_full n c) (d c) (e c) (is_full target c) (k c)

pub raised_more : (k m n target : Matrix) (d e all : Coord → Bool) → IsRaised m n target d → IsRaised k m target e
    → ((c : Coord) → is_full target c ≡ true → (d c || e c) ≡ all c) → IsRaised k n target all
raised_more k m n target d e all h i j = λ c. i c ∙ (ap (λ t. t || (e c && is_full target c)) (h c) ∙ (both_parts (is_full n c) (d c) (e c) (is_full target c) ∙ same_where_full (is_full n c) (d c || e c) (all c) (is_full target c) (j c)))

-- one part of the plan after another, with the path between them
pub builds_then : (a b c : TapeState) (target : Matrix) (d e all : Coord → Bool) (from to start end : Coord)
    (m n way : ℕ) → Builds a b target d from to m → Builds b c target e start end n
    → ((p : Coord) → distance p start ≤ distance p to + way)
    → ((q : Coord) → is_full target q ≡ true → (d q || e q) ≡ all q) → Builds a c target all from end (m + way + n)
builds_then a b c target d e all from to start end m n way h k near join = record {
  source = k.source ∙ h.source;
  resolution = k.resolution ∙ h.resolution;
  raised = raised_more c.matrix b.matrix a.matrix target d e all h.raised k.raised join;
  ready = k.ready;
  low = k.low;
  steps_are = let its_steps_are = h.steps_are in let steps_are = k.steps_are in let near_here = near (spot b.bots) in omega arith;
}

-- the same part, with the path to another position at its end
pub builds_on : (a b : TapeState) (target : Matrix) (d e : Coord → Bool) (from to end : Coord) (m most way : ℕ)
    → Builds a b target d from to m → ((p : Coord) → distance p end ≤ distance p to + way) → to.y ≤ end.y
    → m + way ≤ most → ((q : Coord) → is_full target q ≡ true → d q ≡ e q) → Builds a b target e from end most
builds_on a b target d e from to end m most way h near up fits same = record {
  source = h.source;
  resolution = h.resolution;
  raised = raised_as b.matrix a.matrix target d e h.raised same;
  ready = h.ready;
  low = let low = h.low in omega arith;
  steps_are = let steps_are = h.steps_are in let near_here = near (spot b.bots) in omega arith;
}

-- ---- if all stays void

no_less : (full under target : Bool) → full ≡ false → under ≡ false → (full || (under && target)) ≡ false
no_less full under target e f = rw (e, f) refl

pub void_above : (m n target : Matrix) (d : Coord → Bool) (h : ℕ) → IsRaised m n target d → IsVoidFrom n h
    → ((c : Coord) → h ≤ c.y → d c ≡ false) → IsVoidFrom m h
void_above m n target d h raised void none = λ c l. raised c ∙ no_less (is_full n c) (d c) (is_full target c) (void c l) (none c l)

higher : (a b : ℕ) → b + 1 ≤ a → (a == b) ≡ false
higher a b h = grind (arith, nat_tests)

pub no_cell : (r x y z : ℕ) (c : Coord) → y + 1 ≤ c.y → cell r x y z c ≡ false
no_cell r x y z c h = no_second_of_three (in_line r x c.x) (c.y == y) (c.z == z) (higher c.y y h)

-- ---- the search for missing voxels

row_more : (w l n i : ℕ) (c : Coord) → i < n → bot_row w l (n - i) c ≡ held l c ∷ bot_row w l (n - (i + 1)) (next w c)
row_more w l n i c h = let difference_is : n - i ≡ suc (n - (i + 1)) = omega arith in ap (λ k. bot_row w l k c) difference_is

pub wanted_here : (m target : Matrix) (w l n i : ℕ) (c : Coord) → i < n → is_wanted m target (held l c) ≡ true
    → are_wanted m target (bot_row w l (n - i) c) ≡ true
wanted_here m target w l n i c h e = ap (are_wanted m target) (row_more w l n i c h) ∙ ap (λ t. t || are_wanted m target (bot_row w l (n - (i + 1)) (next w c))) e

pub wanted_later : (m target : Matrix) (w l n i : ℕ) (c : Coord) → i < n → is_wanted m target (held l c) ≡ false
    → are_wanted m target (bot_row w l (n - (i + 1)) (next w c)) ≡ are_wanted m target (bot_row w l (n - i) c)
wanted_later m target w l n i c h e = sym (ap (are_wanted m target) (row_more w l n i c h) ∙ ap (λ t. t || are_wanted m target (bot_row w l (n - (i + 1)) (next w c))) e)

pub wanted_by : (m n target : Matrix) (t u : Bool) (v x r s y z : ℕ) → t ≡ is_wanted m target (coord v y z) → t ≡ u
    → m ≡ n → v ≡ min x (r - 2) → r ≡ s → is_wanted n target (held (last s) (coord x y z)) ≡ u
wanted_by m n target t u v x r s y z h g e f k =
    sym (λ i. is_wanted (e i) target (coord ((f ∙ ap (λ q. min x (q - 2)) k) i) y z)) ∙ (sym h ∙ g)

pub none_left : (m target : Matrix) (w l n i : ℕ) (c : Coord) → n ≤ i
    → are_wanted m target (bot_row w l (n - i) c) ≡ false
none_left m target w l n i c h = let difference_is : n - i ≡ 0 = omega arith in ap (λ k. are_wanted m target (bot_row w l k c)) difference_is

-- ---- one cell

no_way : (c : Coord) → distance c c ≡ 0
no_way c = omega arith

pub cell_already : (p : TapeState) (target : Matrix) (x y z : ℕ) → CanFillLayer p target y
    → are_wanted p.matrix target (strip_row p.matrix.resolution (coord x (y + 1) z)) ≡ false
    → Builds p p target (cell p.matrix.resolution x y z) (coord x (y + 1) z) (coord x (y + 1) z) 1
cell_already p target x y z k h = record {
  source = refl;
  resolution = refl;
  raised = raised_as p.matrix p.matrix target (is_under (strip_row p.matrix.resolution (coord x (y + 1) z))) (cell p.matrix.resolution x y z) (raised_already p.matrix target (strip_row p.matrix.resolution (coord x (y + 1) z)) h) (λ c g. under_is p.matrix.resolution x y z c);
  ready = k.ready;
  low = k.below;
  steps_are = omega arith;
}

pub cell_built : (a b c : TapeState) (target : Matrix) (x y z : ℕ) → CanFillLayer a target y
    → RowGoes a b (coord x (y + 1) z) (distance (spot a.bots) (coord x (y + 1) z)) → Fills b c target
    → Builds a c target (cell a.matrix.resolution x y z) (coord x (y + 1) z) (coord x (y + 1) z) 1
cell_built a b c target x y z k g f =
    let at = coord x (y + 1) z in
    let matrix_resolution = a.matrix.resolution in
    let size : b.matrix.resolution ≡ matrix_resolution = ap (λ (m : Matrix). m.resolution) g.matrix in
    let here : places b.bots ≡ strip_row matrix_resolution at = g.row.places_are ∙ (λ i. strip_row (size i) (g.there i)) in
    let all : (q : Coord) → is_under (places b.bots) q ≡ cell matrix_resolution x y z q = λ q. ap (λ ps. is_under ps q) here ∙ under_is matrix_resolution x y z q in
    let raised : IsRaised c.matrix a.matrix target (cell matrix_resolution x y z) = subst (λ (m : Matrix). IsRaised c.matrix m target (cell matrix_resolution x y z)) g.matrix (raised_as c.matrix b.matrix target (is_under (places b.bots)) (cell matrix_resolution x y z) f.raised (λ q h. all q)) in
    let stands : spot c.bots ≡ at = ap spot f.bots ∙ g.there in
    let same : c.matrix.resolution ≡ matrix_resolution = f.resolution ∙ size in
    let void : IsVoidFrom c.matrix (y + 1) = void_above c.matrix a.matrix target (cell matrix_resolution x y z) (y + 1) raised k.above (λ q l. no_cell matrix_resolution x y z q l) in
    record {
      source = f.source ∙ g.source;
      resolution = same;
      raised = raised;
      ready = record {
        swarm = f.swarm;
        row = record {
          places_are = ap places f.bots ∙ (g.row.places_are ∙ (λ i. strip_row (sym f.resolution i) (ap spot (sym f.bots) i)));
          leads = subst (λ n. MayLead n (spot c.bots)) (sym f.resolution) (subst (λ (q : Coord). MayLead b.matrix.resolution q) (sym (ap spot f.bots)) g.row.leads);
        };
        same = k.ready.same ∙ sym same;
        here = subst (λ (q : Coord). IsVoidFrom c.matrix q.y) (sym stands) void;
      };
      low = let same_y = ap (λ (q : Coord). q.y) stands in omega arith;
      steps_are =
          let steps = f.steps in
          let steps_are = g.steps_are in
          let none : distance (spot c.bots) at ≡ 0 = ap (λ (q : Coord). distance q at) stands ∙ no_way at in
          omega arith;
    }

-- ---- lines and layers

lines_more : (r x y : ℕ) (c : Coord) → (in_first_lines r x y c || line r (x + 1) y c) ≡ in_first_lines r (x + 1) y c
lines_more r x y c =
    ap (λ n. (in_lines r x c.x && c.y == y) || (in_line r n c.x && c.y == y)) (add-one x)
    ∙ (or_of_and (in_lines r x c.x) (in_line r (suc x) c.x) (c.y == y) ∙ ap (λ n. in_lines r n c.x && c.y == y) (sym (add-one x)))

pub one_more_line : (a b c : TapeState) (target : Matrix) (x y : ℕ)
    → Builds a b target (in_first_lines a.matrix.resolution x y) (coord 1 (y + 1) 0) (coord (x + 1) (y + 1) 0)
    (x * line_steps a.matrix.resolution) → Builds b c target (line b.matrix.resolution (x + 1) y)
    (coord (x + 1) (y + 1) 0) (coord (x + 1) (y + 1) b.matrix.resolution) (2 * b.matrix.resolution)
    → Builds a c target (in_first_lines a.matrix.resolution (x + 1) y) (coord 1 (y + 1) 0) (coord (x + 1 + 1) (y + 1) 0)
    ((x + 1) * line_steps a.matrix.resolution)
one_more_line a b c target x y h k =
    let resolution = h.resolution in
    builds_on a c target (in_first_lines a.matrix.resolution (x + 1) y) (in_first_lines a.matrix.resolution (x + 1) y) (coord 1 (y + 1) 0) (coord (x + 1) (y + 1) b.matrix.resolution) (coord (x + 1 + 1) (y + 1) 0) (x * line_steps a.matrix.resolution + 0 + 2 * b.matrix.resolution) ((x + 1) * line_steps a.matrix.resolution) (b.matrix.resolution + 1)
    (builds_then a b c target (in_first_lines a.matrix.resolution x y) (line b.matrix.resolution (x + 1) y) (in_first_lines a.matrix.resolution (x + 1) y) (coord 1 (y + 1) 0) (coord (x + 1) (y + 1) 0) (coord (x + 1) (y + 1) 0) (coord (x + 1) (y + 1) b.matrix.resolution) (x * line_steps a.matrix.resolution) (2 * b.matrix.resolution) 0 h k (λ p. omega arith) (λ q g. ap (λ r. in_first_lines a.matrix.resolution x y q || line r (x + 1) y q) resolution ∙ lines_more a.matrix.resolution x y q))
    (λ p. omega arith) (omega arith) (omega arith) (λ q g. refl)

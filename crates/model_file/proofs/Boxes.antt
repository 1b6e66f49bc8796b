-- The coordinates of the whole matrix, of its faces and of the legal box.
use Rattle.std.proofs.Common.{◌≡◌, ℕ, ◌+◌, ◌-◌, ◌<◌, ◌≤◌, refl, sym, ◌∙◌, ap, subst, arith, Bool, true, false, ◌&&◌, ◌||◌, not, pos, min, max, find, Option, Some, None, is_some}
use Rattle.std.specs.Prelude.{nat_le, nat_lt}
use Rattle.std.proofs.lemmas.Bool.Decides.{nat_tests}
use Rattle.vox_geom.specs.declared.coordinate.Coord.{Coord}
use Rattle.vox_geom.specs.Least.{LeastOf}
use Rattle.vox_geom.specs.Point.{point}
use Rattle.vox_geom.specs.Region.{Corners, corners, is_between, is_within, span}
use Rattle.vox_geom.specs.Space.{IsInSpace}
use Rattle.vox_geom.proofs.Firsts.{first_of}
use Rattle.vox_geom.proofs.Truths.{and_by_second}
use Rattle.nano_spec.specs.Legal.{in_legal_box}
use Rattle.nano_spec.specs.Matrix.{Matrix, all_of, is_full}
use Rattle.model_file.proofs.Floods.{full_within}

-- tests that agree in space have one least
pub least_same : (r : ℕ) (f g : Coord → Bool) → ((c : Coord) → IsInSpace r c → f c ≡ g c) → (o : Option Coord)
    → LeastOf r f o → LeastOf r g o
least_same r f g same None h = λ d i. sym (same d i) ∙ h d i
least_same r f g same (Some c) h = record { within = h.within; passes = sym (same c h.within) ∙ h.passes; least = λ d i t. h.least d i (same d i ∙ t) }

between_is : (low high v : ℕ) → low ≤ high
    → is_between (pos (min low high)) (pos (max low high)) (pos v) ≡ (nat_le low v && nat_le v high)
between_is low high v o = grind (arith, nat_tests)

-- whether a coordinate is in the box between two
unfoldable pub in_box : Coord → Coord → Coord → Bool
in_box low high c = (nat_le low.x c.x && nat_le c.x high.x) && (nat_le low.y c.y && nat_le c.y high.y) && (nat_le low.z c.z && nat_le c.z high.z)

within_is : (low high c : Coord) → low.x ≤ high.x → low.y ≤ high.y → low.z ≤ high.z
    → is_within (span (corners low high)) (point c) ≡ in_box low high c
unfolding in_box
within_is low high c x y z = λ i. between_is low.x high.x c.x x i && between_is low.y high.y c.y y i && between_is low.z high.z c.z z i

-- the result of a search of a box
pub box_least : (m : Matrix) (k : Corners) (low high : Coord) (o : Option Coord) → k ≡ corners low high → low.x ≤ high.x
    → low.y ≤ high.y → low.z ≤ high.z → o ≡ find (λ c. is_full m c && is_within (span k) (point c)) (all_of m)
    → LeastOf m.resolution (λ c. is_full m c && in_box low high c) o
box_least m k low high o e x y z found =
    subst (λ (p : Option Coord). LeastOf m.resolution (λ c. is_full m c && in_box low high c) p) (sym found)
    (least_same m.resolution (λ c. is_full m c && is_within (span k) (point c)) (λ c. is_full m c && in_box low high c)
    (λ c i. ap (λ b. is_full m c && b) (ap (λ (j : Corners). is_within (span j) (point c)) e ∙ within_is low high c x y z))
    (find (λ c. is_full m c && is_within (span k) (point c)) (all_of m))
    (first_of m.resolution (λ c. is_full m c && is_within (span k) (point c))))

-- ---- the whole matrix

abbrev pub zero_corner : Coord
zero_corner = record { x = 0; y = 0; z = 0 }

abbrev pub end_corner : ℕ → Coord
end_corner e = record { x = e; y = e; z = e }

up_to : (v e r : ℕ) → v < r → e + 1 ≡ r → (nat_le 0 v && nat_le v e) ≡ true
up_to v e r l h = grind (arith, nat_tests)

in_all : (r e : ℕ) (c : Coord) → IsInSpace r c → e + 1 ≡ r → in_box zero_corner (end_corner e) c ≡ true
unfolding in_box
in_all r e c i h = rw (up_to c.x e r i.x h, up_to c.y e r i.y h, up_to c.z e r i.z h) refl

pub least_of_all : (m : Matrix) (k : Corners) (e : ℕ) (o : Option Coord) → e + 1 ≡ m.resolution
    → k ≡ corners zero_corner (end_corner e) → o ≡ find (λ c. is_full m c && is_within (span k) (point c)) (all_of m)
    → LeastOf m.resolution (is_full m) o
least_of_all m k e o h c found =
    least_same m.resolution (λ c. is_full m c && in_box zero_corner (end_corner e) c) (is_full m) (λ c i. and_by_second (is_full m c) (in_box zero_corner (end_corner e) c) (in_all m.resolution e c i h)) o
    (box_least m k zero_corner (end_corner e) o c (omega arith) (omega arith) (omega arith) found)

-- ---- a layer and the adjacent ones

near_layer : (y v e r : ℕ) → v < r → e + 1 ≡ r → y ≤ v + 1 → v ≤ y + 1
    → (nat_le (max y 1 - 1) v && nat_le v (min (y + 1) e)) ≡ true
near_layer y v e r l h f t = grind (arith, nat_tests)

abbrev pub under_corner : ℕ → Coord
under_corner y = record { x = 0; y = max y 1 - 1; z = 0 }

abbrev pub over_corner : ℕ → ℕ → Coord
over_corner y e = record { x = e; y = min (y + 1) e; z = e }

in_layers : (y e r : ℕ) (c : Coord) → IsInSpace r c → e + 1 ≡ r → y ≤ c.y + 1 → c.y ≤ y + 1
    → in_box (under_corner y) (over_corner y e) c ≡ true
unfolding in_box
in_layers y e r c i h f t = rw (up_to c.x e r i.x h, near_layer y c.y e r i.y h f t, up_to c.z e r i.z h) refl

pub no_answer : (o : Option Coord) → is_some o ≡ false → o ≡ None
no_answer None e = refl
no_answer (Some c) e = cc

-- if a search of the layers finds none, none of their voxels is full
pub none_in_layers : (m : Matrix) (k : Corners) (y e : ℕ) (o : Option Coord) → y < m.resolution → e + 1 ≡ m.resolution
    → k ≡ corners (under_corner y) (over_corner y e)
    → o ≡ find (λ c. is_full m c && is_within (span k) (point c)) (all_of m) → o ≡ None
    → (d : Coord) → y ≤ d.y + 1 → d.y ≤ y + 1 → is_full m d ≡ false
none_in_layers m k y e o l h c found none d from to = by (is_full m d) refl
  where
    nothing : LeastOf m.resolution (λ q. is_full m q && in_box (under_corner y) (over_corner y e) q) None
    nothing = subst (λ (p : Option Coord). LeastOf m.resolution (λ q. is_full m q && in_box (under_corner y) (over_corner y e) q) p) none
        (box_least m k (under_corner y) (over_corner y e) o c (omega arith) (omega arith) (omega arith) found)

    by : (b : Bool) → is_full m d ≡ b → is_full m d ≡ false
    by false q = q
    by true q =
        let inside = full_within m d q in
        sym (and_by_second (is_full m d) (in_box (under_corner y) (over_corner y e) d) (in_layers y e m.resolution d inside h from to)) ∙ nothing d inside

-- ---- the faces that are outside the legal box

at_zero : (v : ℕ) → (nat_le 0 v && nat_le v 0) ≡ not (nat_le 1 v)
at_zero v = grind (arith, nat_tests)

at_end : (v e r : ℕ) → v < r → e + 1 ≡ r → (nat_le e v && nat_le v e) ≡ not (nat_lt (v + 1) r)
at_end v e r l h = grind (arith, nat_tests)

abbrev pub left_box : ℕ → Coord → Bool
left_box e = in_box zero_corner (record { x = 0; y = e; z = e })

abbrev pub right_box : ℕ → Coord → Bool
right_box e = in_box (record { x = e; y = 0; z = 0 }) (end_corner e)

abbrev pub front_box : ℕ → Coord → Bool
front_box e = in_box zero_corner (record { x = e; y = e; z = 0 })

abbrev pub back_box : ℕ → Coord → Bool
back_box e = in_box (record { x = 0; y = 0; z = e }) (end_corner e)

abbrev pub top_box : ℕ → Coord → Bool
top_box e = in_box (record { x = 0; y = e; z = 0 }) (end_corner e)

pub outside_is : (r e : ℕ) (c : Coord) → IsInSpace r c → e + 1 ≡ r
    → (((left_box e c || right_box e c) || (front_box e c || back_box e c)) || top_box e c) ≡ not (in_legal_box r c)
unfolding in_box
outside_is r e c i h = rw (up_to c.x e r i.x h, up_to c.y e r i.y h, up_to c.z e r i.z h, at_zero c.x, at_zero c.z, at_end c.x e r i.x h, at_end c.y e r i.y h, at_end c.z e r i.z h) (same (nat_le 1 c.x) (nat_lt (c.x + 1) r) (nat_lt (c.y + 1) r) (nat_le 1 c.z) (nat_lt (c.z + 1) r))
  where
    same : (x u y z w : Bool)
        → ((((not x && true && true) || (not u && true && true)) || ((true && true && not z) || (true && true && not w)))
        || (true && not y && true)) ≡ not (x && u && y && z && w)
    same true true true true true = refl
    same true true true true false = refl
    same true true true false true = refl
    same true true true false false = refl
    same true true false true true = refl
    same true true false true false = refl
    same true true false false true = refl
    same true true false false false = refl
    same true false y z w = refl
    same false u y z w = refl

either_full : (f a b c d e : Bool)
    → ((((f && a) || (f && b)) || ((f && c) || (f && d))) || (f && e)) ≡ (f && (((a || b) || (c || d)) || e))
either_full true a b c d e = refl
either_full false a b c d e = refl

-- the least in the faces is the least outside the legal box
pub least_outside : (m : Matrix) (e : ℕ) (o : Option Coord) → e + 1 ≡ m.resolution → LeastOf m.resolution (λ c.
    (((is_full m c && left_box e c) || (is_full m c && right_box e c))
    || ((is_full m c && front_box e c) || (is_full m c && back_box e c))) || (is_full m c && top_box e c)) o
    → LeastOf m.resolution (λ c. is_full m c && not (in_legal_box m.resolution c)) o
least_outside m e o h l =
    least_same m.resolution (λ c. (((is_full m c && left_box e c) || (is_full m c && right_box e c)) || ((is_full m c && front_box e c) || (is_full m c && back_box e c))) || (is_full m c && top_box e c)) (λ c. is_full m c && not (in_legal_box m.resolution c))
    (λ c i. either_full (is_full m c) (left_box e c) (right_box e c) (front_box e c) (back_box e c) (top_box e c) ∙ ap (λ b. is_full m c && b) (outside_is m.resolution e c i h)) o l

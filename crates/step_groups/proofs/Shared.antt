-- The intersection of boxes.
use Rattle.std.proofs.Common.{◌≡◌, ℕ, zero, suc, ◌+◌, take, length, get_or, ◌<◌, ◌≤◌, refl, ap, sym, ◌∙◌, subst, arith, Bool, true, false, ◌&&◌, ◌||◌, List, [], ◌∷◌, ◌++◌, Option, Some, None, pos, IfSome, IfNone}
use Rattle.std.specs.Prelude.{IsTrue}
use Rattle.std.specs.List.{list_any}
use Rattle.std.proofs.Common.{add-one}
use Rattle.std.proofs.Math.Seq.{take-suc}
use Rattle.std.proofs.lemmas.List.{take_all}
use Rattle.std.proofs.lemmas.Bool.Decides.{nat_tests}
use Rattle.vox_geom.specs.declared.coordinate.Coord.{Coord}
use Rattle.vox_geom.specs.Point.{point}
use Rattle.vox_geom.specs.Region.{Corners, is_within, is_between, span, AreShared, IsLeastOf}
use Rattle.vox_geom.specs.Space.{IsInSpace}
use Rattle.step_groups.specs.Boxes.{IsBoxIn, AreBoxesIn, in_boxes}
use Rattle.vox_geom.specs.Least.{LeastOf}
use Rattle.vox_geom.proofs.Truths.{both_true, false_by, first_of_two, or_of_and, second_of_two}
use Rattle.vox_planes.specs.Difference.{earlier}
use Rattle.vox_planes.proofs.Differences.{earlier-least}

-- a number between two numbers below r is below r
between_below : (r a b v : ℕ) → a < r → b < r → IsTrue (is_between (pos a) (pos b) (pos v)) → v < r
between_below r a b v h k t = grind (arith, nat_tests)

pub within_space : (r : ℕ) (k : Corners) (c : Coord) → IsBoxIn r k → IsTrue (is_within (span k) (point c))
    → IsInSpace r c
within_space r k c h t =
    let between_x : Bool = is_between (pos k.low.x) (pos k.high.x) (pos c.x) in
    let between_y : Bool = is_between (pos k.low.y) (pos k.high.y) (pos c.y) in
    let between_z : Bool = is_between (pos k.low.z) (pos k.high.z) (pos c.z) in
    record {
      x = between_below r k.low.x k.high.x c.x h.low.x h.high.x (first_of_two between_x between_y (first_of_two (between_x && between_y) between_z t));
      y = between_below r k.low.y k.high.y c.y h.low.y h.high.y (second_of_two between_x between_y (first_of_two (between_x && between_y) between_z t));
      z = between_below r k.low.z k.high.z c.z h.low.z h.high.z (second_of_two (between_x && between_y) between_z t);
    }

-- the intersection of two boxes
pub meets_is : (r : ℕ) (k l : Corners) (o : Option Coord) → IsBoxIn r k → IfSome o (AreShared k l)
    → IfSome o (IsLeastOf (AreShared k l)) → IfNone o ((c : Coord) → AreShared k l c → ⊥)
    → LeastOf r (λ c. is_within (span k) (point c) && is_within (span l) (point c)) o
meets_is r k l (Some c) h shared least none = record {
  within = within_space r k c h shared.0;
  passes = both_true (is_within (span k) (point c)) (is_within (span l) (point c)) shared.0 shared.1;
  least = λ d i t. least d (first_of_two (is_within (span k) (point d)) (is_within (span l) (point d)) t, second_of_two (is_within (span k) (point d)) (is_within (span l) (point d)) t);
}
meets_is r k l None h shared least none = λ d i.
    false_by (is_within (span k) (point d) && is_within (span l) (point d))
    (λ t. none d (first_of_two (is_within (span k) (point d)) (is_within (span l) (point d)) t, second_of_two (is_within (span k) (point d)) (is_within (span l) (point d)) t))

-- the same test
pub least_same : (r : ℕ) (f g : Coord → Bool) (o : Option Coord) → ((c : Coord) → f c ≡ g c) → LeastOf r f o
    → LeastOf r g o
least_same r f g o e h = subst (λ (t : Coord → Bool). LeastOf r t o) (λ i c. e c i) h

pub any-push : {A : Type 0} (p : A → Bool) (xs : List A) (x : A) → list_any p (xs ++ x ∷ []) ≡ (list_any p xs || p x)
any-push p [] x = or_false (p x)
  where
    or_false : (b : Bool) → (b || false) ≡ (false || b)
    or_false true = refl
    or_false false = refl
any-push p (y ∷ xs) x = ap (λ b. p y || b) (any-push p xs x) ∙ assoc (p y) (list_any p xs) (p x)
  where
    assoc : (a b c : Bool) → (a || (b || c)) ≡ ((a || b) || c)
    assoc true b c = refl
    assoc false b c = refl

and_or : (a b c : Bool) → ((a && b) || (a && c)) ≡ (a && (b || c))
and_or true b c = refl
and_or false b c = refl

-- one more box on the right
pub more_right : (r : ℕ) (s : Coord → Bool) (boxes : List Corners) (k : Corners) (x y : Option Coord)
    → LeastOf r (λ c. s c && in_boxes boxes c) x → LeastOf r (λ c. s c && is_within (span k) (point c)) y
    → LeastOf r (λ c. s c && in_boxes (boxes ++ k ∷ []) c) (earlier x y)
more_right r s boxes k x y h i =
    least_same r (λ c. (s c && in_boxes boxes c) || (s c && is_within (span k) (point c))) (λ c. s c && in_boxes (boxes ++ k ∷ []) c) (earlier x y)
    (λ c. and_or (s c) (in_boxes boxes c) (is_within (span k) (point c)) ∙ ap (λ b. s c && b) (sym (any-push (λ l. is_within (span l) (point c)) boxes k)))
    (earlier-least r (λ c. s c && in_boxes boxes c) (λ c. s c && is_within (span k) (point c)) x y h i)

-- one more box on the left
pub more_left : (r : ℕ) (t : Coord → Bool) (boxes : List Corners) (k : Corners) (x y : Option Coord)
    → LeastOf r (λ c. in_boxes boxes c && t c) x → LeastOf r (λ c. is_within (span k) (point c) && t c) y
    → LeastOf r (λ c. in_boxes (boxes ++ k ∷ []) c && t c) (earlier x y)
more_left r t boxes k x y h i =
    least_same r (λ c. (in_boxes boxes c && t c) || (is_within (span k) (point c) && t c)) (λ c. in_boxes (boxes ++ k ∷ []) c && t c) (earlier x y)
    (λ c. or_of_and (in_boxes boxes c) (is_within (span k) (point c)) (t c) ∙ ap (λ b. b && t c) (sym (any-push (λ l. is_within (span l) (point c)) boxes k)))
    (earlier-least r (λ c. in_boxes boxes c && t c) (λ c. is_within (span k) (point c) && t c) x y h i)

pub take_one : {A : Type 0} (xs : List A) (j : ℕ) (x : A) → j < length xs → x ≡ get_or xs j x
    → take (j + 1) xs ≡ take j xs ++ x ∷ []
take_one xs j x h e = rw add-one (take-suc xs j x h ∙ ap (λ v. take j xs ++ v ∷ []) (sym e))

-- a turn of the loop over the right boxes
pub turn_right : (r : ℕ) (s : Coord → Bool) (boxes : List Corners) (j : ℕ) (k : Corners) (x y z : Option Coord)
    → j < length boxes → k ≡ get_or boxes j k → z ≡ earlier x y → LeastOf r (λ c. s c && in_boxes (take j boxes) c) x
    → LeastOf r (λ c. s c && is_within (span k) (point c)) y → LeastOf r (λ c. s c && in_boxes (take (j + 1) boxes) c) z
turn_right r s boxes j k x y z h e f u v =
    subst (λ (o : Option Coord). LeastOf r (λ c. s c && in_boxes (take (j + 1) boxes) c) o) (sym f)
    (subst (λ (l : List Corners). LeastOf r (λ c. s c && in_boxes l c) (earlier x y)) (sym (take_one boxes j k h e)) (more_right r s (take j boxes) k x y u v))

-- and over the left ones
pub turn_left : (r : ℕ) (t : Coord → Bool) (boxes : List Corners) (j : ℕ) (k : Corners) (x y z : Option Coord)
    → j < length boxes → k ≡ get_or boxes j k → z ≡ earlier x y → LeastOf r (λ c. in_boxes (take j boxes) c && t c) x
    → LeastOf r (λ c. is_within (span k) (point c) && t c) y → LeastOf r (λ c. in_boxes (take (j + 1) boxes) c && t c) z
turn_left r t boxes j k x y z h e f u v =
    subst (λ (o : Option Coord). LeastOf r (λ c. in_boxes (take (j + 1) boxes) c && t c) o) (sym f)
    (subst (λ (l : List Corners). LeastOf r (λ c. in_boxes l c && t c) (earlier x y)) (sym (take_one boxes j k h e)) (more_left r t (take j boxes) k x y u v))

pub end_right : (r : ℕ) (s : Coord → Bool) (boxes : List Corners) (j : ℕ) (x : Option Coord) → length boxes ≤ j
    → LeastOf r (λ c. s c && in_boxes (take j boxes) c) x → LeastOf r (λ c. s c && in_boxes boxes c) x
end_right r s boxes j x h u = subst (λ (l : List Corners). LeastOf r (λ c. s c && in_boxes l c) x) (take_all j boxes h) u

pub end_left : (r : ℕ) (t : Coord → Bool) (boxes : List Corners) (j : ℕ) (x : Option Coord) → length boxes ≤ j
    → LeastOf r (λ c. in_boxes (take j boxes) c && t c) x → LeastOf r (λ c. in_boxes boxes c && t c) x
end_left r t boxes j x h u = subst (λ (l : List Corners). LeastOf r (λ c. in_boxes l c && t c) x) (take_all j boxes h) u

-- each box of a list in space is in space
pub box_at : (r : ℕ) (boxes : List Corners) (j : ℕ) (k : Corners) → j < length boxes → k ≡ get_or boxes j k
    → AreBoxesIn r boxes → IsBoxIn r k
box_at r [] j k h e a = absurd (omega arith)
box_at r (b ∷ boxes) zero k h e a = subst (λ (l : Corners). IsBoxIn r l) (sym e) a.0
box_at r (b ∷ boxes) (suc j) k h e a = box_at r boxes j k (omega arith) e a.1

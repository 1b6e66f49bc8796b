-- Void and free paths, the number of their moves, the paths home of a legal model, and that High requires no
-- grounding.
use Rattle.std.proofs.Common.{◌≡◌, ◌⊎◌, inl, inr, ℕ, ◌+◌, ◌≤◌, sym, ◌∙◌, subst, arith, Bool, false, ◌&&◌}
use Rattle.std.specs.Prelude.{pos, IsTrue}
use Rattle.vox_geom.specs.declared.coordinate.Coord.{Coord}
use Rattle.vox_geom.specs.Point.{Point, point}
use Rattle.vox_geom.specs.Region.{between, is_between}
use Rattle.vox_geom.specs.Space.{IsInSpace}
use Rattle.vox_geom.proofs.Truths.{first_of_three, second_of_three}
use Rattle.vox_geom.proofs.Points.{between_zeros, from_both_ends, from_one_end, in_space_is}
use Rattle.nano_spec.specs.declared.system.Harmonics.{Harmonics}
use Rattle.nano_spec.specs.declared.system.Harmonics.TheVariants.{Low, High}
use Rattle.nano_spec.specs.Legal.{IsLegal}
use Rattle.nano_spec.specs.Matrix.{Matrix, is_full}
use Rattle.step_order.specs.Unbroken.{IsFreeWay, IsVoid}
use Rattle.plan_tape.specs.Leg.{AreVoidTo, IsVoidAlong, moves, moves_to, put}
use Rattle.plan_tape.specs.declared.axis.Axis.TheVariants.{X, Y}
use Rattle.plan_tape.specs.Progress.{IsHeld, IsVoidFrom}
use Rattle.plan_tape.proofs.LegalModels.{void_at_border}

-- under High nothing has to be grounded
pub held_high : (h : Harmonics) (m : Matrix) → h ≡ High → IsHeld h m
held_high h m e = λ l. absurd (high_low (sym e ∙ l))
  where
    high_low : High ≡ Low → ⊥
    high_low f = cc

-- ---- void paths

-- if all is void from the heights of two coordinates on, so is all between them
pub void_between : (m : Matrix) (a b : Coord) → IsVoidFrom m a.y → IsVoidFrom m b.y
    → IsVoid m (between (point a) (point b))
void_between m a b v w = λ c t. by c (from_one_end a.y b.y c.y (second_of_three (is_between (pos a.x) (pos b.x) (pos c.x)) _ _ t))
  where
    by : (c : Coord) → (a.y ≤ c.y) ⊎ (b.y ≤ c.y) → is_full m c ≡ false
    by c (inl h) = v c h
    by c (inr h) = w c h

-- so are the paths
pub ways_between : (m : Matrix) (a b : Coord) → IsVoidFrom m a.y → IsVoidFrom m b.y → AreVoidTo m a b
ways_between m a b v w = record {
  x = void_between m a (put X a b.x) v v;
  y = void_between m (put X a b.x) (put Y (put X a b.x) b.y) v w;
  z = void_between m (put Y (put X a b.x) b.y) b w w;
}

-- and a path to a point in space is free
pub free_way : (m : Matrix) (a b : Coord) (q : Point) → q ≡ point b → IsInSpace m.resolution b → IsVoidFrom m a.y
    → IsVoidFrom m b.y → IsFreeWay m (point a) q
free_way m a b q e i v w = subst (λ (u : Point). IsFreeWay m (point a) u) (sym e) (record { within = in_space_is m.resolution b i; void = void_between m a b v w })

-- as is the point alone
pub free_place : (m : Matrix) (b : Coord) (q : Point) → q ≡ point b → IsInSpace m.resolution b → IsVoidFrom m b.y
    → IsFreeWay m q q
free_place m b q e i v = subst (λ (u : Point). IsFreeWay m u q) (sym e) (free_way m b b q e i v v)

-- if the path along x is void, and all is void at x = 0, so are the paths to an end there
ways_by_x : (m : Matrix) (a b : Coord) → b.x ≡ 0 → IsVoidAlong m X a b.x → ((c : Coord) → c.x ≡ 0 → is_full m c ≡ false)
    → AreVoidTo m a b
ways_by_x m a b e along border = record { x = along; y = λ c t. at_zero c _ _ t; z = λ c t. at_zero c _ _ t }
  where
    at_zero : (c : Coord) (v w : Bool) → IsTrue (is_between (pos b.x) (pos b.x) (pos c.x) && v && w)
        → is_full m c ≡ false
    at_zero c v w t = border c (between_zeros c.x (subst (λ n. IsTrue (is_between (pos n) (pos n) (pos c.x))) e (first_of_three (is_between (pos b.x) (pos b.x) (pos c.x)) v w t)))

-- if all is void from the height of one end on, and at x = 0, so are the paths to an end there
pub ways_to_border : (m : Matrix) (a b : Coord) → b.x ≡ 0 → IsVoidFrom m a.y
    → ((c : Coord) → c.x ≡ 0 → is_full m c ≡ false) → AreVoidTo m a b
ways_to_border m a b e v border = ways_by_x m a b e (λ c t. v c (from_both_ends a.y c.y (second_of_three (is_between (pos a.x) (pos b.x) (pos c.x)) _ _ t))) border

-- ---- the number of moves

on : (a b c : ℕ) → moves a c ≤ moves a b + moves b c
on a b c = omega (arith)

-- a path by another coordinate takes no fewer moves
pub moves_on : (a b c : Coord) → moves_to a c ≤ moves_to a b + moves_to b c
moves_on a b c = omega (arith, on a.x b.x c.x, on a.y b.y c.y, on a.z b.z c.z)

pub no_moves : (a : Coord) → moves_to a a ≡ 0
no_moves a = omega (arith)

pub moves_most : (r : ℕ) (a b : Coord) → r ≤ 400 → IsInSpace r a → IsInSpace r b → moves_to a b ≤ 81
moves_most r a b l i j =
    let ax = i.x in let ay = i.y in let az = i.z in
    let bx = j.x in let by' = j.y in let bz = j.z in
    omega arith

-- ---- paths home

-- if all is void from the height of the first coordinate on, or it is at the border of x, the paths from there to the border
-- and along it are void
pub ways_home : (m : Matrix) (a b : Coord) → IsLegal m → IsVoidFrom m a.y ⊎ (a.x ≡ 0) → b.x ≡ 0 → AreVoidTo m a b
ways_home m a b h (inl void) e = ways_to_border m a b e void (void_at_border m h)
ways_home m a b h (inr f) e = ways_by_x m a b e (λ c t. void_at_border m h c (at_zero c (first_of_three (is_between (pos a.x) (pos b.x) (pos c.x)) _ _ t))) (void_at_border m h)
  where
    at_zero : (c : Coord) → IsTrue (is_between (pos a.x) (pos b.x) (pos c.x)) → c.x ≡ 0
    at_zero c t = between_zeros c.x (subst (λ v. IsTrue (is_between (pos v) (pos 0) (pos c.x))) f (subst (λ v. IsTrue (is_between (pos a.x) (pos v) (pos c.x))) e t))

-- the same of a matrix and a coordinate that are given by equations
pub ways_home_at : (m n : Matrix) (a b to : Coord) → m ≡ n → a ≡ b → IsLegal n → IsVoidFrom n b.y ⊎ (b.x ≡ 0) → to.x ≡ 0
    → AreVoidTo m a to
ways_home_at m n a b to e f h from g =
    subst (λ (k : Matrix). AreVoidTo k a to) (sym e) (subst (λ (q : Coord). AreVoidTo n q to) (sym f) (ways_home n b to h from g))

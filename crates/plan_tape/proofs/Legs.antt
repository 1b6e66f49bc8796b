-- Paths and moves along an axis.
use Rattle.std.proofs.Common.{◌≡◌, ℕ, ◌+◌, ◌<◌, refl, ap, subst, arith, List, [], ◌∷◌, ◌++◌, Bool, true, false, ◌&&◌, length, inl, inr, append_assoc, append-nil}
use Rattle.std.specs.Prelude.{pos, ◌+ℤ◌, ◌-ℤ◌, IsTrue, unsigned_abs}
use Rattle.std.proofs.lemmas.Bool.Decides.{nat_tests}
use Rattle.std.proofs.lemmas.Int.{ints}
use Rattle.vox_geom.specs.declared.coordinate.Coord.{Coord}
use Rattle.vox_geom.specs.declared.difference.Diff.{Diff}
use Rattle.vox_geom.specs.Difference.{mlen}
use Rattle.vox_geom.specs.Point.{point, plus}
use Rattle.vox_geom.specs.Region.{between, is_between}
use Rattle.vox_geom.specs.Space.{IsInSpace}
use Rattle.vox_geom.proofs.Sums.{plus_none}
use Rattle.nano_spec.specs.declared.commands.Command.{Command}
use Rattle.nano_spec.specs.declared.commands.Command.TheVariants.{SMove}
use Rattle.nano_spec.specs.declared.system.Bot.{Bot}
use Rattle.nano_spec.specs.Matrix.{Matrix}
use Rattle.plan_tape.specs.declared.axis.Axis.{Axis}
use Rattle.plan_tape.specs.declared.axis.Axis.TheVariants.{X, Y, Z}
use Rattle.plan_tape.specs.Leg.{IsLeg, IsLeastLeg, IsMove, IsOnward, IsVoidAlong, along, component_of, gap, moves, put}
use Rattle.plan_tape.specs.Progress.{bots_at, spot}
use Rattle.step_order.specs.Unbroken.{IsVoid}

-- ---- moves, one after another

-- moves that any moves to the end complete are completed so with one more
pub one_more_move : (axis : Axis) (from at v to : ℕ) (done : List Command) (d : Diff) → d ≡ along axis (pos v -ℤ pos at)
    → IsMove at v to → ((rest : List Command) → IsLeg axis at to rest → IsLeg axis from to (done ++ rest))
    → (rest : List Command) → IsLeg axis v to rest → IsLeg axis from to ((done ++ SMove d ∷ []) ++ rest)
one_more_move axis from at v to done d e o f rest h = rw (append_assoc done (SMove d ∷ []) rest) (f (SMove d ∷ rest) (v, ap SMove e, o, h))

pub no_more_moves : (axis : Axis) (from at to : ℕ) (done : List Command) → at ≡ to
    → ((rest : List Command) → IsLeg axis at to rest → IsLeg axis from to (done ++ rest))
    → length done + moves at to ≡ moves from to → IsLeastLeg axis from to done
no_more_moves axis from at to done e f l = record {
  leg = subst (λ (xs : List Command). IsLeg axis from to xs) (append-nil done) (f [] e);
  least = let none : moves at to ≡ 0 = omega arith in omega arith;
}

-- ---- one component

pub put-component_of : (axis : Axis) (c : Coord) → put axis c (component_of axis c) ≡ c
put-component_of X c = refl
put-component_of Y c = refl
put-component_of Z c = refl

pub put-put : (axis : Axis) (c : Coord) (u v : ℕ) → put axis (put axis c u) v ≡ put axis c v
put-put X c u v = refl
put-put Y c u v = refl
put-put Z c u v = refl

pub put_in_space : (axis : Axis) (r : ℕ) (c : Coord) (v : ℕ) → IsInSpace r c → v < r → IsInSpace r (put axis c v)
put_in_space X r c v h l = record { x = l; y = h.y; z = h.z }
put_in_space Y r c v h l = record { x = h.x; y = l; z = h.z }
put_in_space Z r c v h l = record { x = h.x; y = h.y; z = l }

there : (u v : ℕ) → pos u +ℤ (pos v -ℤ pos u) ≡ pos v
there u v = omega (arith, ints)

pub plus-along : (axis : Axis) (c : Coord) (u v : ℕ)
    → plus (point (put axis c u)) (along axis (pos v -ℤ pos u)) ≡ point (put axis c v)
plus-along X c u v = λ i. record { x = there u v i; y = plus_none c.y i; z = plus_none c.z i }
plus-along Y c u v = λ i. record { x = plus_none c.x i; y = there u v i; z = plus_none c.z i }
plus-along Z c u v = λ i. record { x = plus_none c.x i; y = plus_none c.y i; z = there u v i }

far : (u v : ℕ) → unsigned_abs (pos v -ℤ pos u) ≡ gap u v
far u v = omega (arith, ints)

pub mlen-along : (axis : Axis) (u v : ℕ) → mlen (along axis (pos v -ℤ pos u)) ≡ gap u v
mlen-along X u v = let far_here = far u v in omega arith
mlen-along Y u v = let far_here = far u v in omega arith
mlen-along Z u v = let far_here = far u v in omega arith

-- ---- a part of a path

first_part : (u v w x : ℕ) → IsOnward u v w → IsTrue (is_between (pos u) (pos v) (pos x))
    → IsTrue (is_between (pos u) (pos w) (pos x))
first_part u v w x (inl h) t = grind (arith, nat_tests)
first_part u v w x (inr h) t = grind (arith, nat_tests)

last_part : (u v w x : ℕ) → IsOnward u v w → IsTrue (is_between (pos v) (pos w) (pos x))
    → IsTrue (is_between (pos u) (pos w) (pos x))
last_part u v w x (inl h) t = grind (arith, nat_tests)
last_part u v w x (inr h) t = grind (arith, nat_tests)

in_first : (a b c d : Bool) → (IsTrue a → IsTrue d) → IsTrue (a && b && c) → IsTrue (d && b && c)
in_first true b c d f t = rw (f refl) t
in_first false b c d f t = cc

in_second : (a b c d : Bool) → (IsTrue b → IsTrue d) → IsTrue (a && b && c) → IsTrue (a && d && c)
in_second true true c d f t = rw (f refl) t
in_second true false c d f t = cc
in_second false b c d f t = cc

in_third : (a b c d : Bool) → (IsTrue c → IsTrue d) → IsTrue (a && b && c) → IsTrue (a && b && d)
in_third true true c d f t = f t
in_third true false c d f t = cc
in_third false b c d f t = cc

-- a component that stays
abbrev stays : ℕ → ℕ → Bool
stays a v = is_between (pos a) (pos a) (pos v)

pub first_void : (m : Matrix) (axis : Axis) (c : Coord) (u v w : ℕ) → IsOnward u v w
    → IsVoidAlong m axis (put axis c u) w → IsVoid m (between (point (put axis c u)) (point (put axis c v)))
first_void m X c u v w o h = λ q t. h q (in_first (is_between (pos u) (pos v) (pos q.x)) (stays c.y q.y) (stays c.z q.z) (is_between (pos u) (pos w) (pos q.x)) (first_part u v w q.x o) t)
first_void m Y c u v w o h = λ q t. h q (in_second (stays c.x q.x) (is_between (pos u) (pos v) (pos q.y)) (stays c.z q.z) (is_between (pos u) (pos w) (pos q.y)) (first_part u v w q.y o) t)
first_void m Z c u v w o h = λ q t. h q (in_third (stays c.x q.x) (stays c.y q.y) (is_between (pos u) (pos v) (pos q.z)) (is_between (pos u) (pos w) (pos q.z)) (first_part u v w q.z o) t)

pub last_void : (m : Matrix) (axis : Axis) (c : Coord) (u v w : ℕ) → IsOnward u v w
    → IsVoidAlong m axis (put axis c u) w → IsVoidAlong m axis (put axis c v) w
last_void m X c u v w o h = λ q t. h q (in_first (is_between (pos v) (pos w) (pos q.x)) (stays c.y q.y) (stays c.z q.z) (is_between (pos u) (pos w) (pos q.x)) (last_part u v w q.x o) t)
last_void m Y c u v w o h = λ q t. h q (in_second (stays c.x q.x) (is_between (pos v) (pos w) (pos q.y)) (stays c.z q.z) (is_between (pos u) (pos w) (pos q.y)) (last_part u v w q.y o) t)
last_void m Z c u v w o h = λ q t. h q (in_third (stays c.x q.x) (stays c.y q.y) (is_between (pos v) (pos w) (pos q.z)) (is_between (pos u) (pos w) (pos q.z)) (last_part u v w q.z o) t)

-- ---- the only bot, moved

pub spot-bots_at : (bots : List Bot) (c : Coord) → length bots ≡ 1 → spot (bots_at bots c) ≡ c
spot-bots_at [] c e = absurd (omega arith)
spot-bots_at (b ∷ bots) c e = refl

pub length-bots_at : (bots : List Bot) (c : Coord) → length (bots_at bots c) ≡ length bots
length-bots_at [] c = refl
length-bots_at (b ∷ bots) c = refl

pub bots_at-bots_at : (bots : List Bot) (c d : Coord) → bots_at (bots_at bots c) d ≡ bots_at bots d
bots_at-bots_at [] c d = refl
bots_at-bots_at (b ∷ bots) c d = refl

pub bots_at-spot : (bots : List Bot) → bots_at bots (spot bots) ≡ bots
bots_at-spot [] = refl
bots_at-spot (b ∷ bots) = refl

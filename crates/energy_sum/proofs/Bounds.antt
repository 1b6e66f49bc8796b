-- Bounds on the cost of a step.
use Rattle.std.proofs.Common.{◌≡◌, ℕ, suc, ◌+◌, ◌*◌, ◌≤◌, sym, subst, arith, Bool, true, false, cond, List, [], ◌∷◌, length, map, filter}
use Rattle.std.specs.Prelude.{ℤ, pos, negsuc, ◌+ℤ◌, ◌≤ℤ◌, ◌<ℤ◌, unsigned_abs, nat_le, count_by}
use Rattle.std.specs.List.{AllByRecursion}
use Rattle.std.proofs.lemmas.Int.{ints}
use Rattle.std.proofs.Math.Nat.{mul-le-mul}
use Rattle.vox_geom.specs.declared.difference.Diff.{Diff}
use Rattle.vox_geom.specs.Difference.{is_far, is_linear, is_near, is_short, mlen, IsFar, IsLong, IsShort}
use Rattle.vox_geom.specs.Point.{Point, point, plus}
use Rattle.vox_geom.specs.Region.{Span, between, extent, is_within, just, size}
use Rattle.vox_geom.proofs.Counts.{region_count_most}
use Rattle.vox_geom.proofs.Truths.{first_of_two, second_of_two}
use Rattle.vox_geom.proofs.Tests.{at_most_by_test}
use Rattle.nano_spec.specs.declared.commands.Command.{Command}
use Rattle.nano_spec.specs.declared.commands.Command.TheVariants.{Halt, Wait, Flip, SMove, LMove, FusionP, FusionS, Fission, Fill, Void, GFill, GVoid}
use Rattle.nano_spec.specs.declared.system.Bot.{Bot}
use Rattle.nano_spec.specs.Act.{Act, acts, position}
use Rattle.nano_spec.specs.Command.{IsCommand}
use Rattle.nano_spec.specs.Cutting.{AreCommands}
use Rattle.nano_spec.specs.Energy.{filling, group_cost, groups_cost, total, voiding}
use Rattle.nano_spec.specs.Group.{is_leader}
use Rattle.nano_spec.specs.Matrix.{Matrix, all_of}
use Rattle.nano_spec.specs.State.{State, is_high}
use Rattle.nano_spec.specs.Step.{after}
use Rattle.nano_spec.proofs.Codes.{far_bounds}
use Rattle.energy_sum.specs.Costs.{filling_cost, voiding_cost}
use Rattle.energy_sum.proofs.Prices.{filling-is, fulls, voiding-is, voids, voids-and-fulls}

pub cube_most : (r k : ℕ) → r ≤ k → r * r * r ≤ k * k * k
cube_most r k h = mul-le-mul (mul-le-mul h h) h

-- the number is at most k either way
record IsAtMost (k : ℕ) (z : ℤ) : Type 0 where
  above : z ≤ℤ pos k
  below : pos 0 ≤ℤ (z +ℤ pos k)

-- ---- regions

pub extent_far : (a d : ℤ) → unsigned_abs d ≤ 30 → extent a (a +ℤ d) ≤ 31
extent_far a d h = omega (arith, ints)

extent_just : (a : ℤ) → extent a a ≤ 31
extent_just a = omega (arith, ints)

size_most : (s : Span) → extent s.from.x s.to.x ≤ 31 → extent s.from.y s.to.y ≤ 31 → extent s.from.z s.to.z ≤ 31
    → size s ≤ 29791
size_most s x y z = mul-le-mul (mul-le-mul x y) z

pub size_just : (p : Point) → size (just p) ≤ 29791
size_just p = size_most (just p) (extent_just p.x) (extent_just p.y) (extent_just p.z)

pub size_far : (p : Point) (f : Diff) → IsFar f → size (between p (plus p f)) ≤ 29791
size_far p f h = let bounds = far_bounds f h in size_most (between p (plus p f)) (extent_far p.x f.dx bounds.0) (extent_far p.y f.dy bounds.1) (extent_far p.z f.dz bounds.2)

-- ---- groups

filling_most : (v f n : ℕ) → v + f ≡ n → n ≤ 29791 → IsAtMost 357492 (filling_cost v f)
filling_most v f n e h = record { above = omega (arith, ints); below = omega (arith, ints) }

voiding_most : (v f n : ℕ) → v + f ≡ n → n ≤ 29791 → IsAtMost 357492 (voiding_cost v f)
voiding_most v f n e h = record { above = omega (arith, ints); below = omega (arith, ints) }

at_most : (k : ℕ) (y z : ℤ) → z ≡ y → IsAtMost k y → IsAtMost k z
at_most k y z e h = subst (λ (w : ℤ). IsAtMost k w) (sym e) h

-- how many coordinates of the matrix are in a small region
inside_most : (m : Matrix) (s : Span) → size s ≤ 29791 → count_by (λ c. is_within s (point c)) (all_of m) ≤ 29791
inside_most m s h = let at_most_size : count_by (λ c. is_within s (point c)) (all_of m) ≤ size s = region_count_most m.resolution s in omega arith

filled_most : (m : Matrix) (s : Span) → size s ≤ 29791 → IsAtMost 357492 (filling m s)
filled_most m s h =
    at_most 357492 (filling_cost (voids m (λ c. is_within s (point c)) (all_of m)) (fulls m (λ c. is_within s (point c)) (all_of m))) (filling m s) (filling-is m s)
    (filling_most (voids m (λ c. is_within s (point c)) (all_of m)) (fulls m (λ c. is_within s (point c)) (all_of m)) (count_by (λ c. is_within s (point c)) (all_of m)) (voids-and-fulls m (λ c. is_within s (point c)) (all_of m)) (inside_most m s h))

voided_most : (m : Matrix) (s : Span) → size s ≤ 29791 → IsAtMost 357492 (voiding m s)
voided_most m s h =
    at_most 357492 (voiding_cost (voids m (λ c. is_within s (point c)) (all_of m)) (fulls m (λ c. is_within s (point c)) (all_of m))) (voiding m s) (voiding-is m s)
    (voiding_most (voids m (λ c. is_within s (point c)) (all_of m)) (fulls m (λ c. is_within s (point c)) (all_of m)) (count_by (λ c. is_within s (point c)) (all_of m)) (voids-and-fulls m (λ c. is_within s (point c)) (all_of m)) (inside_most m s h))

small : (n : ℕ) → n ≤ 357492 → IsAtMost 357492 (pos n)
small n h = record { above = omega (arith, ints); below = omega (arith, ints) }

fused : IsAtMost 357492 (negsuc 23)
fused = record { above = omega (arith, ints); below = omega (arith, ints) }

long_most : (d : Diff) → IsLong d → mlen d ≤ 15
long_most d h = at_most_by_test (mlen d) 15 (second_of_two (is_linear d) (nat_le (mlen d) 15) h)

short_most : (d : Diff) → IsShort d → mlen d ≤ 5
short_most d h = at_most_by_test (mlen d) 5 (second_of_two (is_linear d) (nat_le (mlen d) 5) h)

group_most : (m : Matrix) (p : Point) (command : Command) → IsCommand command → IsAtMost 357492 (group_cost m p command)
group_most m p Halt h = small 0 (omega arith)
group_most m p Wait h = small 0 (omega arith)
group_most m p Flip h = small 0 (omega arith)
group_most m p (SMove d) h = let long_bound = long_most d h in small (2 * mlen d) (omega arith)
group_most m p (LMove d e) h =
    let short_bound = short_most d (first_of_two (is_short d) (is_short e) h) in
    let short_bound_here = short_most e (second_of_two (is_short d) (is_short e) h) in
    small (2 * (mlen d + 2 + mlen e)) (omega arith)
group_most m p (FusionP d) h = fused
group_most m p (FusionS d) h = fused
group_most m p (Fission d n) h = small 24 (omega arith)
group_most m p (Fill d) h = filled_most m (just (plus p d)) (size_just (plus p d))
group_most m p (Void d) h = voided_most m (just (plus p d)) (size_just (plus p d))
group_most m p (GFill d f) h = filled_most m (between (plus p d) (plus (plus p d) f)) (size_far (plus p d) f (second_of_two (is_near d) (is_far f) h))
group_most m p (GVoid d f) h = voided_most m (between (plus p d) (plus (plus p d) f)) (size_far (plus p d) f (second_of_two (is_near d) (is_far f) h))

-- ---- all groups of a step

acts_commands : (bots : List Bot) (commands : List Command) → AreCommands commands
    → AllByRecursion (λ a. IsCommand a.command) (acts bots commands)
acts_commands [] commands h = tt
acts_commands (b ∷ bots) [] h = tt
acts_commands (b ∷ bots) (c ∷ commands) h = (h.0, acts_commands bots commands h.1)

acts_length : (bots : List Bot) (commands : List Command) → length (acts bots commands) ≤ length bots
acts_length [] commands = omega arith
acts_length (b ∷ bots) [] = omega arith
acts_length (b ∷ bots) (c ∷ commands) = let as_many_acts = acts_length bots commands in omega arith

one_more : (n : ℕ) (y z : ℤ) → IsAtMost 357492 y → IsAtMost (357492 * n) z → IsAtMost (357492 * suc n) (y +ℤ z)
one_more n y z h k = record { above = omega (arith, ints, h.above, k.above); below = omega (arith, ints, h.below, k.below) }

no_more : (n : ℕ) (z : ℤ) → IsAtMost (357492 * n) z → IsAtMost (357492 * suc n) z
no_more n z k = record { above = omega (arith, ints, k.above); below = omega (arith, ints, k.below) }

some_most : (m : Matrix) (test : Act → Bool) (xs : List Act) → AllByRecursion (λ a. IsCommand a.command) xs
    → IsAtMost (357492 * length xs) (total (map (λ a. group_cost m (position a) a.command) (filter test xs)))
some_most m test [] h = record { above = omega (arith, ints); below = omega (arith, ints) }
some_most m test (x ∷ xs) h = by (test x) (some_most m test xs h.1)
  where
    by : (b : Bool)
        → IsAtMost (357492 * length xs) (total (map (λ a. group_cost m (position a) a.command) (filter test xs)))
        → IsAtMost (357492 * length (x ∷ xs))
        (total (map (λ a. group_cost m (position a) a.command) (cond b (x ∷ filter test xs) (filter test xs))))
    by true k = one_more (length xs) (group_cost m (position x) x.command) (total (map (λ a. group_cost m (position a) a.command) (filter test xs))) (group_most m (position x) x.command h.0) k
    by false k = no_more (length xs) (total (map (λ a. group_cost m (position a) a.command) (filter test xs))) k

groups_most : (s : State) (commands : List Command) → length s.bots ≤ 40 → AreCommands commands
    → IsAtMost 14299680 (groups_cost s.matrix (acts s.bots commands))
groups_most s commands n h =
    let as_many_acts = acts_length s.bots commands in
    let total_bound = some_most s.matrix (is_leader (acts s.bots commands)) (acts s.bots commands) (acts_commands s.bots commands h) in
    record { above = omega (arith, ints, total_bound.above); below = omega (arith, ints, total_bound.below) }

space_most : (high : Bool) (v n : ℕ) → v ≤ 64000000 → n ≤ 40 → cond high 30 3 * v + 20 * n ≤ 1920000800
space_most true v n h k = omega arith
space_most false v n h k = omega arith

energy_rises : (e : ℤ) (u : ℕ) (g : ℤ) → u ≤ 1920000800 → IsAtMost 14299680 g
    → ((e +ℤ pos u) +ℤ g) <ℤ (e +ℤ pos 3000000000)
energy_rises e u g h k = omega (arith, ints, k.above)

energy_falls : (e : ℤ) (u : ℕ) (g : ℤ) → u ≤ 1920000800 → IsAtMost 14299680 g
    → e <ℤ (((e +ℤ pos u) +ℤ g) +ℤ pos 3000000000)
energy_falls e u g h k = omega (arith, ints, k.below)

upkeep_most : (s : State) → s.matrix.resolution ≤ 400 → length s.bots ≤ 40
    → cond (is_high s.harmonics) 30 3 * (s.matrix.resolution * s.matrix.resolution * s.matrix.resolution)
    + 20 * length s.bots ≤ 1920000800
upkeep_most s r n = space_most (is_high s.harmonics) (s.matrix.resolution * s.matrix.resolution * s.matrix.resolution) (length s.bots) (cube_most s.matrix.resolution 400 r) n

-- a step changes the energy by less than 3,000,000,000 either way
pub rises : (s : State) (commands : List Command) → s.matrix.resolution ≤ 400 → length s.bots ≤ 40
    → AreCommands commands → (after s commands).energy <ℤ (s.energy +ℤ pos 3000000000)
rises s commands r n h = energy_rises s.energy (cond (is_high s.harmonics) 30 3 * (s.matrix.resolution * s.matrix.resolution * s.matrix.resolution) + 20 * length s.bots) (groups_cost s.matrix (acts s.bots commands)) (upkeep_most s r n) (groups_most s commands n h)

pub falls : (s : State) (commands : List Command) → s.matrix.resolution ≤ 400 → length s.bots ≤ 40
    → AreCommands commands → s.energy <ℤ ((after s commands).energy +ℤ pos 3000000000)
falls s commands r n h = energy_falls s.energy (cond (is_high s.harmonics) 30 3 * (s.matrix.resolution * s.matrix.resolution * s.matrix.resolution) + 20 * length s.bots) (groups_cost s.matrix (acts s.bots commands)) (upkeep_most s r n) (groups_most s commands n h)

-- a group costs little either way
pub costs_most : (m : Matrix) (p : Point) (command : Command) → IsCommand command → group_cost m p command ≤ℤ pos 357492
costs_most m p command h = (group_most m p command h).above

pub costs_least : (m : Matrix) (p : Point) (command : Command) → IsCommand command
    → pos 0 ≤ℤ (group_cost m p command +ℤ pos 357492)
costs_least m p command h = (group_most m p command h).below

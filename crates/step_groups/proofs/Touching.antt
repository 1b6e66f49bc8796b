-- The touches that the rules of one bot make.
use Rattle.std.proofs.Common.{◌≡◌, ℕ, zero, suc, ◌+◌, ◌*◌, ◌≤◌, ◌<◌, length, drop, get_or, refl, ap, sym, ◌∙◌, subst, arith, Bool, true, false, ◌&&◌, ◌||◌, cond, List, [], ◌∷◌, count_by, max}
use Rattle.std.specs.Prelude.{IsTrue, sum_by}
use Rattle.nano_spec.specs.declared.commands.Command.{Command}
use Rattle.std.proofs.lemmas.List.Sums.{sum_by-cons}
use Rattle.vox_geom.specs.declared.coordinate.Coord.{Coord}
use Rattle.vox_geom.specs.declared.difference.Diff.{Diff}
use Rattle.vox_geom.specs.Point.{Point, point, plus}
use Rattle.vox_geom.specs.Region.{Corners, IsOrdered, Span, between, corners, just, is_within, size, span}
use Rattle.vox_geom.specs.Space.{IsInSpace, in_space}
use Rattle.vox_geom.proofs.Counts.{region_count}
use Rattle.vox_geom.proofs.Truths.{both_true, or_by_first, or_by_second}
use Rattle.nano_spec.specs.declared.commands.Command.TheVariants.{SMove, LMove, Fission}
use Rattle.nano_spec.specs.declared.system.Bot.{Bot}
use Rattle.nano_spec.specs.Act.{Act, acts, stays_in_space}
use Rattle.nano_spec.specs.Matrix.{Matrix, all_of}
use Rattle.nano_spec.specs.Volatile.{is_volatile_of}
use Rattle.step_groups.specs.Judging.{act, is_alone, touches_of}

step : (b c : Bool) → (IsTrue b → IsTrue c) → cond {A = ℕ} b 1 0 ≤ cond {A = ℕ} c 1 0
step true true h = omega arith
step true false h = absurd (no (h refl))
  where
    no : IsTrue false → ⊥
    no e = cc
step false true h = omega arith
step false false h = omega arith

-- an element that passes one test passes the other
pub count_more : (f g : Coord → Bool) (xs : List Coord) → ((c : Coord) → IsTrue (f c) → IsTrue (g c))
    → count_by f xs ≤ count_by g xs
count_more f g [] h = omega arith
count_more f g (x ∷ xs) h =
    let sum_is = sum_by-cons (λ c. cond {A = ℕ} (f c) 1 0) x xs in
    let first_of_sum = sum_by-cons (λ c. cond {A = ℕ} (g c) 1 0) x xs in
    let step_here = step (f x) (g x) (h x) in
    let more_counted = count_more f g xs h in
    omega (arith, sum_is, first_of_sum, step_here, more_counted)

pub high_within : (r : ℕ) (k : Corners) (a b : Coord) → k ≡ corners a b → IsInSpace r a → IsInSpace r b
    → IsInSpace r k.high
high_within r k a b e h i = subst (λ (l : Corners). IsInSpace r l.high) (sym e) (record { x = below r a.x b.x h.x i.x; y = below r a.y b.y h.y i.y; z = below r a.z b.z h.z i.z })
  where
    below : (r m n : ℕ) → m < r → n < r → max m n < r
    below r m n h i = omega arith

abbrev in_box : Corners → Coord → Bool
in_box k c = is_within (span k) (point c)

twice : (m : Matrix) (a : Act) → IsTrue (is_alone a.command) → IsTrue (stays_in_space m.resolution a)
    → touches_of m a ≡ 2 * count_by (λ c. is_volatile_of (point c) a) (all_of m)
twice m a l h = λ i. cond {A = ℕ} (l i && h i) (2 * count_by (λ c. is_volatile_of (point c) a) (all_of m)) 0

-- a region has as many coordinates as its size
pub counted : (m : Matrix) (k : Corners) (a b : Coord) (old new : ℕ) → k ≡ corners a b → IsOrdered k
    → IsInSpace m.resolution a → IsInSpace m.resolution b → new ≤ old + size (span k)
    → new ≤ old + count_by (in_box k) (all_of m)
counted m k a b old new e o h i le =
    let high : IsInSpace m.resolution k.high = high_within m.resolution k a b e h i in
    omega (arith, region_count m.resolution k o high, le)

pub one_read : (m : Matrix) (a : Act) (k : Corners) (old new : ℕ) → IsTrue (is_alone a.command)
    → IsTrue (stays_in_space m.resolution a) → ((c : Coord) → IsTrue (in_box k c) → IsTrue (is_volatile_of (point c) a))
    → new ≤ old + count_by (in_box k) (all_of m) → new ≤ old + touches_of m a
one_read m a k old new alone h i le =
    let twice_here = twice m a alone h in
    let more_counted = count_more (in_box k) (λ c. is_volatile_of (point c) a) (all_of m) i in
    omega (arith, twice_here, more_counted, le)

pub two_reads : (m : Matrix) (a : Act) (k j : Corners) (old mid new : ℕ) → IsTrue (is_alone a.command)
    → IsTrue (stays_in_space m.resolution a) → ((c : Coord) → IsTrue (in_box k c) → IsTrue (is_volatile_of (point c) a))
    → ((c : Coord) → IsTrue (in_box j c) → IsTrue (is_volatile_of (point c) a))
    → mid ≤ old + count_by (in_box k) (all_of m) → new ≤ mid + count_by (in_box j) (all_of m)
    → new ≤ old + touches_of m a
two_reads m a k j old mid new alone h i n le lf =
    let twice_here = twice m a alone h in
    let more_counted = count_more (in_box k) (λ c. is_volatile_of (point c) a) (all_of m) i in
    let more_counted_here = count_more (in_box j) (λ c. is_volatile_of (point c) a) (all_of m) n in
    omega (arith, twice_here, more_counted, more_counted_here, le, lf)

abbrev Covers : Corners → Span → Type 0
Covers k s = (p : Point) → is_within (span k) p ≡ is_within s p

-- a box that covers the path of a move has volatile coordinates alone
on_way : (bot : Bot) (d : Diff) (k : Corners) (to : Coord) → point to ≡ plus (point bot.pos) d
    → Covers k (between (point bot.pos) (point to)) → (c : Coord) → IsTrue (in_box k c)
    → IsTrue (is_volatile_of (point c) (act bot (SMove d)))
on_way bot d k to sum covers c t = or_by_first (is_within (between (point bot.pos) (plus (point bot.pos) d)) (point c)) false (sym (covers (point c) ∙ ap (λ q. is_within (between (point bot.pos) q) (point c)) sum) ∙ t)

pub smove_reads : (m : Matrix) (bot : Bot) (d : Diff) (k : Corners) (to : Coord) (old new : ℕ)
    → IsTrue (in_space m.resolution (plus (point bot.pos) d)) → point to ≡ plus (point bot.pos) d
    → Covers k (between (point bot.pos) (point to)) → new ≤ old + count_by (in_box k) (all_of m)
    → new ≤ old + touches_of m (act bot (SMove d))
smove_reads m bot d k to old new inside sum covers most = one_read m (act bot (SMove d)) k old new refl (both_true (in_space m.resolution (plus (point bot.pos) d)) true inside refl) (on_way bot d k to sum covers) most

pub smove_reads_twice : (m : Matrix) (bot : Bot) (d : Diff) (k j : Corners) (to : Coord) (old half new : ℕ)
    → IsTrue (in_space m.resolution (plus (point bot.pos) d)) → point to ≡ plus (point bot.pos) d
    → Covers k (between (point bot.pos) (point to)) → Covers j (between (point bot.pos) (point to))
    → half ≤ old + count_by (in_box k) (all_of m) → new ≤ half + count_by (in_box j) (all_of m)
    → new ≤ old + touches_of m (act bot (SMove d))
smove_reads_twice m bot d k j to old half new inside sum first second le lf = two_reads m (act bot (SMove d)) k j old half new refl (both_true (in_space m.resolution (plus (point bot.pos) d)) true inside refl) (on_way bot d k to sum first) (on_way bot d j to sum second) le lf

pub fission_reads : (m : Matrix) (bot : Bot) (d : Diff) (n : ℕ) (k : Corners) (to : Coord) (old new : ℕ)
    → IsTrue (in_space m.resolution (plus (point bot.pos) d)) → point to ≡ plus (point bot.pos) d
    → Covers k (between (point to) (point to)) → new ≤ old + count_by (in_box k) (all_of m)
    → new ≤ old + touches_of m (act bot (Fission d n))
fission_reads m bot d n k to old new i e h le =
    one_read m (act bot (Fission d n)) k old new refl (both_true (in_space m.resolution (plus (point bot.pos) d)) true i refl)
    (λ c t. or_by_second (is_within (just (point bot.pos)) (point c)) (is_within (just (plus (point bot.pos) d)) (point c) || false)
    (or_by_first (is_within (just (plus (point bot.pos) d)) (point c)) false (sym (h (point c) ∙ ap (λ q. is_within (just q) (point c)) e) ∙ t)))
    le

pub lmove_reads : (m : Matrix) (bot : Bot) (d e : Diff) (k j : Corners) (mid to : Coord) (old half new : ℕ)
    → IsTrue (in_space m.resolution (plus (point bot.pos) d)) → IsTrue (in_space m.resolution (plus (point mid) e))
    → point mid ≡ plus (point bot.pos) d → point to ≡ plus (point mid) e
    → Covers k (between (point bot.pos) (point mid)) → Covers j (between (point mid) (point to))
    → half ≤ old + count_by (in_box k) (all_of m) → new ≤ half + count_by (in_box j) (all_of m)
    → new ≤ old + touches_of m (act bot (LMove d e))
lmove_reads m bot d e k j mid to old half new i n f g h l le lf =
    let reached : Point = plus (point bot.pos) d in
    let place_reached : Point = plus reached e in
    let point_is : point to ≡ place_reached = g ∙ ap (λ w. plus w e) f in
    two_reads m (act bot (LMove d e)) k j old half new refl
    (both_true (in_space m.resolution reached) (in_space m.resolution place_reached && true) i (both_true (in_space m.resolution place_reached) true (subst (λ (w : Point). IsTrue (in_space m.resolution (plus w e))) f n) refl))
    (λ c t. or_by_first (is_within (between (point bot.pos) reached) (point c)) (is_within (between reached place_reached) (point c) || false) (sym (h (point c) ∙ ap (λ q. is_within (between (point bot.pos) q) (point c)) f) ∙ t))
    (λ c t. or_by_second (is_within (between (point bot.pos) reached) (point c)) (is_within (between reached place_reached) (point c) || false) (or_by_first (is_within (between reached place_reached) (point c)) false (sym (l (point c) ∙ (λ v. is_within (between (f v) (point_is v)) (point c))) ∙ t)))
    le lf

-- the touches of the bots from an index on
pub sum_at : (T : Act → ℕ) (bots : List Bot) (commands : List Command) (i : ℕ) (b : Bot) (k : Command) → i < length bots
    → length commands ≡ length bots → b ≡ get_or bots i b → k ≡ get_or commands i k
    → sum_by T (acts (drop i bots) (drop i commands))
    ≡ T (act b k) + sum_by T (acts (drop (i + 1) bots) (drop (i + 1) commands))
sum_at T [] commands i b k h e f g = absurd (omega arith)
sum_at T (x ∷ bots) [] i b k h e f g = absurd (omega arith)
sum_at T (x ∷ bots) (y ∷ commands) zero b k h e f g =
    sum_by-cons T (act x y) (acts bots commands) ∙ (λ n. T (act (sym f n) (sym g n)) + sum_by T (acts bots commands))
sum_at T (x ∷ bots) (y ∷ commands) (suc i) b k h e f g =
    let successor_is : suc (i + 1) ≡ suc i + 1 = omega arith in
    sum_at T bots commands i b k (omega arith) (omega arith) f g
    ∙ ap (λ j. T (act b k) + sum_by T (acts (drop j (x ∷ bots)) (drop j (y ∷ commands)))) successor_is

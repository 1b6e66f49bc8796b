-- Bots that are led along an axis.
use Rattle.std.proofs.Common.{◌≡◌, ℕ, suc, ◌+◌, ◌<◌, ◌≤◌, refl, sym, ◌∙◌, ap, subst, arith, Bool, true, false, cond, ◌==◌, max, List, [], ◌∷◌, length, map}
use Rattle.std.specs.Prelude.{pos, ◌-ℤ◌, IsTrue}
use Rattle.std.specs.List.{AllByRecursion}
use Rattle.std.proofs.lemmas.Int.{ints}
use Rattle.vox_geom.specs.declared.coordinate.Coord.{Coord}
use Rattle.vox_geom.specs.Point.{plus, point}
use Rattle.vox_geom.specs.Region.{Span, between}
use Rattle.vox_geom.specs.Space.{coordinate}
use Rattle.vox_geom.proofs.Tests.{equal_by_test}
use Rattle.nano_spec.specs.declared.commands.Command.TheVariants.{SMove, Wait}
use Rattle.nano_spec.specs.declared.system.Bot.{Bot}
use Rattle.nano_spec.specs.declared.system.Profile.{Profile}
use Rattle.nano_spec.specs.Act.{acts}
use Rattle.nano_spec.specs.Matrix.{Matrix}
use Rattle.nano_spec.specs.Profile.{is_allowed, light_profile}
use Rattle.step_order.specs.Acting.{goal_of, gone}
use Rattle.step_order.specs.Apart.{LieApart}
use Rattle.plan_tape.specs.declared.axis.Axis.{Axis}
use Rattle.plan_tape.specs.declared.axis.Axis.TheVariants.{X, Y, Z}
use Rattle.plan_tape.specs.Crowd.{AreWaysApart, CanGo, MayGo, way}
use Rattle.plan_tape.specs.Leg.{along, component_of, put}
use Rattle.plan_tape.specs.Progress.{TapeState, IsVoidFrom}
use Rattle.plan_tape.proofs.Legs.{plus-along, put-component_of}
use Rattle.plan_tape.proofs.ClearWays.{free_way}
use Rattle.swarm_planner.specs.Crew.{AreAlong, AreLed, IsLed, lead, led, placed, places}

-- ---- one bot

put_there : (axis : Axis) (p q : Coord) → AreAlong axis p q → put axis p (component_of axis q) ≡ q
put_there X p q h = λ i. record { x = q.x; y = h.0 i; z = h.1 i }
put_there Y p q h = λ i. record { x = h.0 i; y = q.y; z = h.1 i }
put_there Z p q h = λ i. record { x = h.0 i; y = h.1 i; z = q.z }

-- the end of a bot's move
move_ends : (axis : Axis) (p q : Coord) → AreAlong axis p q
    → plus (point p) (along axis (pos (component_of axis q) -ℤ pos (component_of axis p))) ≡ point q
move_ends axis p q h =
    ap (λ (c : Coord). plus (point c) (along axis (pos (component_of axis q) -ℤ pos (component_of axis p)))) (sym (put-component_of axis p))
    ∙ (plus-along axis p (component_of axis p) (component_of axis q) ∙ ap point (put_there axis p q h))

-- if the component is the same, the bot is there
stays_there : (axis : Axis) (p q : Coord) → AreAlong axis p q → (component_of axis p == component_of axis q) ≡ true
    → p ≡ q
stays_there axis p q h e = sym (put-component_of axis p) ∙ (ap (put axis p) (equal_by_test (component_of axis p) (component_of axis q) e) ∙ put_there axis p q h)

pub goal_is : (axis : Axis) (p q : Coord) → AreAlong axis p q → goal_of (point p) (lead axis p q) ≡ point q
goal_is axis p q h = by (component_of axis p == component_of axis q) refl
  where
    by : (t : Bool) → (component_of axis p == component_of axis q) ≡ t
        → goal_of (point p) (cond t Wait (SMove (along axis (pos (component_of axis q) -ℤ pos (component_of axis p)))))
        ≡ point q
    by true e = ap point (stays_there axis p q h e)
    by false e = move_ends axis p q h

pub may_go : (m : Matrix) (h : ℕ) (axis : Axis) (low : ℕ) (p q : Coord) → IsVoidFrom m h
    → IsLed m.resolution h axis low p q → MayGo m (point p) (lead axis p q)
may_go m h axis low p q void k = by (component_of axis p == component_of axis q)
  where
    by : (t : Bool)
        → MayGo m (point p) (cond t Wait (SMove (along axis (pos (component_of axis q) -ℤ pos (component_of axis p)))))
    by true = tt
    by false = let from = k.high_from in let to = k.high_to in free_way m p q _ (move_ends axis p q k.line) k.to (λ c l. void c (omega arith)) (λ c l. void c (omega arith))

pub allowed : (profile : Profile) (axis : Axis) (p q : Coord) → profile ≡ light_profile
    → IsTrue (is_allowed profile (lead axis p q))
allowed profile axis p q e = subst (λ (k : Profile). IsTrue (is_allowed k (lead axis p q))) (sym e) (by (component_of axis p == component_of axis q))
  where
    by : (t : Bool) → IsTrue (is_allowed light_profile
        (cond t Wait (SMove (along axis (pos (component_of axis q) -ℤ pos (component_of axis p))))))
    by true = refl
    by false = refl

-- ---- all bots

module _ (p : TapeState) (light : p.profile ≡ light_profile) (h : ℕ) (void : IsVoidFrom p.matrix h) (axis : Axis) where
  pub all_can : (bots : List Bot) (cs : List Coord) (low : ℕ) → AreLed p.matrix.resolution h axis low (places bots) cs
      → AllByRecursion (CanGo p) (acts bots (led axis bots cs))
  all_can [] [] low k = tt
  all_can [] (c ∷ cs) low k = absurd k
  all_can (b ∷ bots) [] low k = absurd k
  all_can (b ∷ bots) (c ∷ cs) low k = (record { allowed = allowed p.profile axis b.pos c light; may = may_go p.matrix h axis low b.pos c void k.0 }, all_can bots cs (max b.pos.x c.x + 1) k.1)

-- a path in columns below those of the other
lies_before : (a b c d : Coord) (low : ℕ) → a.x < low → b.x < low → low ≤ c.x → low ≤ d.x
    → LieApart (between (point a) (point b)) (between (point c) (point d))
lies_before a b c d low i j k l = LieApart.before_x (record { near = omega (arith, ints); far = omega (arith, ints); next_near = omega (arith, ints); next_far = omega (arith, ints) })

way_is : (axis : Axis) (b : Bot) (c : Coord) → AreAlong axis b.pos c
    → way (record { bot = b; command = lead axis b.pos c }) ≡ between (point b.pos) (point c)
way_is axis b c h = ap (between (point b.pos)) (goal_is axis b.pos c h)

module _ (r h : ℕ) (axis : Axis) where
  all_past : (a d : Coord) (first low : ℕ) → a.x < first → d.x < first → first ≤ low → (bots : List Bot)
      (cs : List Coord) → AreLed r h axis low (places bots) cs
      → AllByRecursion (λ b. LieApart (between (point a) (point d)) (way b)) (acts bots (led axis bots cs))
  all_past a d first low i j l [] [] k = tt
  all_past a d first low i j l [] (c ∷ cs) k = absurd k
  all_past a d first low i j l (b ∷ bots) [] k = absurd k
  all_past a d first low i j l (b ∷ bots) (c ∷ cs) k =
      let from = k.0.low_from in
      let to = k.0.low_to in
      (subst (λ (s : Span). LieApart (between (point a) (point d)) s) (sym (way_is axis b c k.0.line)) (lies_before a d b.pos c first i j (omega arith) (omega arith)), all_past a d first (max b.pos.x c.x + 1) i j (omega arith) bots cs k.1)

  pub ways_apart : (bots : List Bot) (cs : List Coord) (low : ℕ) → AreLed r h axis low (places bots) cs
      → AreWaysApart (acts bots (led axis bots cs))
  ways_apart [] [] low k = tt
  ways_apart [] (c ∷ cs) low k = absurd k
  ways_apart (b ∷ bots) [] low k = absurd k
  ways_apart (b ∷ bots) (c ∷ cs) low k = (
    subst (λ (s : Span). AllByRecursion (λ b. LieApart s (way b)) (acts bots (led axis bots cs))) (sym (way_is axis b c k.0.line)) (all_past b.pos c (max b.pos.x c.x + 1) (max b.pos.x c.x + 1) (omega arith) (omega arith) (omega arith) bots cs k.1),
    ways_apart bots cs (max b.pos.x c.x + 1) k.1,
  )

  pub gone_there : (bots : List Bot) (cs : List Coord) (low : ℕ) → AreLed r h axis low (places bots) cs
      → map gone (acts bots (led axis bots cs)) ≡ placed bots cs
  gone_there [] [] low k = refl
  gone_there [] (c ∷ cs) low k = absurd k
  gone_there (b ∷ bots) [] low k = absurd k
  gone_there (b ∷ bots) (c ∷ cs) low k =
      let there = ap coordinate (goal_is axis b.pos c k.0.line) in
      let more = gone_there bots cs (max b.pos.x c.x + 1) k.1 in
      λ i. record { bid = b.bid; pos = there i; seeds = b.seeds } ∷ more i

  pub led_length : (bots : List Bot) (cs : List Coord) (low : ℕ) → AreLed r h axis low (places bots) cs
      → length (led axis bots cs) ≡ length bots
  led_length [] [] low k = refl
  led_length [] (c ∷ cs) low k = absurd k
  led_length (b ∷ bots) [] low k = absurd k
  led_length (b ∷ bots) (c ∷ cs) low k = ap suc (led_length bots cs (max b.pos.x c.x + 1) k.1)

  pub places-placed : (bots : List Bot) (cs : List Coord) (low : ℕ) → AreLed r h axis low (places bots) cs
      → places (placed bots cs) ≡ cs
  places-placed [] [] low k = refl
  places-placed [] (c ∷ cs) low k = absurd k
  places-placed (b ∷ bots) [] low k = absurd k
  places-placed (b ∷ bots) (c ∷ cs) low k = ap (λ ds. c ∷ ds) (places-placed bots cs (max b.pos.x c.x + 1) k.1)

-- Steps of four bots that wait or move.
use Rattle.std.proofs.Common.{◌≡◌, ℕ, ◌+◌, ◌-◌, ◌^◌, ◌<◌, ◌≤◌, refl, sym, ◌∙◌, ap, subst, arith, List, [], ◌∷◌, true}
use Rattle.std.specs.Prelude.{count_by, pos, ◌+ℤ◌, ◌-ℤ◌, IsTrue}
use Rattle.std.specs.List.{AllByRecursion}
use Rattle.std.proofs.lemmas.Int.{ints}
use Rattle.vox_geom.specs.declared.coordinate.Coord.{Coord}
use Rattle.vox_geom.specs.declared.difference.Diff.{Diff}
use Rattle.vox_geom.specs.Point.{Point, point, plus, coord}
use Rattle.vox_geom.specs.Region.{Span, between}
use Rattle.vox_geom.specs.Space.{IsInSpace, coordinate}
use Rattle.vox_geom.proofs.Truths.{second_of_three as second}
use Rattle.vox_geom.proofs.Sums.{plus_none}
use Rattle.nano_spec.specs.declared.commands.Command.{Command}
use Rattle.nano_spec.specs.declared.commands.Command.TheVariants.{Wait, SMove}
use Rattle.nano_spec.specs.declared.system.Bot.{Bot}
use Rattle.nano_spec.specs.declared.system.Harmonics.TheVariants.{High}
use Rattle.nano_spec.specs.declared.system.Profile.{Profile}
use Rattle.nano_spec.specs.Act.{Act, acts}
use Rattle.nano_spec.specs.Matrix.{Matrix}
use Rattle.nano_spec.specs.Profile.{full_profile, is_allowed}
use Rattle.step_order.specs.Acting.{gone}
use Rattle.step_order.specs.Apart.{AreBelow, LieApart, after_x, before_x, before_z}
use Rattle.plan_tape.specs.declared.axis.Axis.{Axis}
use Rattle.plan_tape.specs.declared.axis.Axis.TheVariants.{X, Y, Z}
use Rattle.plan_tape.specs.Crowd.{AllStep, AreWaysApart, CanGo, CanMoveAll, bots_gone, way}
use Rattle.plan_tape.specs.Leg.{along, component_of, put}
use Rattle.plan_tape.specs.Progress.{TapeState, spot, IsVoidFrom}
use Rattle.plan_tape.specs.Fissions.{is_fission}
use Rattle.void_planner.specs.Square.{CanStand, FourGo, IsRectangle, bot_with, four}
use Rattle.void_planner.specs.Tiles.{far_of}
use Rattle.void_planner.proofs.Corners.{point_by}
use Rattle.plan_tape.proofs.Fissions.{fissions_more}
use Rattle.plan_tape.proofs.ClearWays.{free_way}

-- ---- one bot

abbrev act : Bot → Command → Act
act b k = record { bot = b; command = k }

-- the bot waits there, or makes a move there
pub data Goes (b : Bot) (k : Command) (q : Coord) : Type 0 where
  waits : k ≡ Wait → q ≡ b.pos → Goes b k q
  moves : (d : Diff) → k ≡ SMove d → plus (point b.pos) d ≡ point q → Goes b k q

module _ (p : TapeState) (full : p.profile ≡ full_profile) (b : Bot) (k : Command) (q : Coord) where
  allowed : is_allowed full_profile k ≡ true → IsTrue (is_allowed p.profile k)
  allowed e = ap (λ (f : Profile). is_allowed f k) full ∙ e

  pub can_go : Goes b k q → IsInSpace p.matrix.resolution q → IsVoidFrom p.matrix b.pos.y → IsVoidFrom p.matrix q.y
      → CanGo p (act b k)
  can_go (waits e f) i v w = record { allowed = allowed (ap (is_allowed full_profile) e); may = rw e tt }
  can_go (moves d e f) i v w = record {
    allowed = allowed (ap (is_allowed full_profile) e);
    may = rw e (free_way p.matrix b.pos q _ f i v w);
  }

pub way_is : (b : Bot) (k : Command) (q : Coord) → Goes b k q → way (act b k) ≡ between (point b.pos) (point q)
way_is b k q (waits e f) = rw e (ap (λ (c : Coord). between (point b.pos) (point c)) (sym f))
way_is b k q (moves d e f) = rw e (ap (between (point b.pos)) f)

pub gone_is : (b : Bot) (k : Command) (q : Coord) → Goes b k q → gone (act b k) ≡ bot_with b.bid q b.seeds
gone_is b k q (waits e f) = rw e (ap (λ (c : Coord). bot_with b.bid c b.seeds) (sym f))
gone_is b k q (moves d e f) = rw e (ap (λ (u : Point). bot_with b.bid (coordinate u) b.seeds) f)

-- ---- four bots

-- the left bots stay before the right ones, and the front ones before the rear ones
pub record StayApart (c : Coord) (w d : ℕ) (n : Coord) (width depth : ℕ) : Type 0 where
  pub wide : 1 ≤ w
  pub wide_then : 1 ≤ width
  pub deep : 1 ≤ d
  pub deep_then : 1 ≤ depth
  pub right : c.x < n.x + width
  pub left : n.x < c.x + w
  pub rear : c.z < n.z + depth
  pub front : n.z < c.z + d

below : (a b c d : ℕ) → a < c → a < d → b < c → b < d → AreBelow (pos a) (pos b) (pos c) (pos d)
below a b c d h i j k = record { near = omega (arith, ints); far = omega (arith, ints); next_near = omega (arith, ints); next_far = omega (arith, ints) }

-- each of the four moves from a corner of one rectangle to that of another
pub record FourGoes (c : Coord) (w d : ℕ) (n : Coord) (width depth : ℕ) (k l m o : Command) : Type 0 where
  pub first : Goes (bot_with 1 c (2 ^ 41 - 2 ^ 5)) k n
  pub second : Goes (bot_with 2 (coord (c.x + w) c.y c.z) 0) l (coord (n.x + width) n.y n.z)
  pub third : Goes (bot_with 3 (coord (c.x + w) c.y (c.z + d)) 0) m (coord (n.x + width) n.y (n.z + depth))
  pub fourth : Goes (bot_with 4 (coord c.x c.y (c.z + d)) 0) o (coord n.x n.y (n.z + depth))

module _ (p : TapeState) (c : Coord) (w d : ℕ) (n : Coord) (width depth : ℕ) (k l m o : Command) (full : p.profile ≡ full_profile) (stand : CanStand p.matrix w d c) (then : CanStand p.matrix width depth n) (apart : StayApart c w d n width depth) (goes : FourGoes c w d n width depth k l m o) where
  pub can_move : AllByRecursion (CanGo p) (acts (four c w d) (k ∷ l ∷ m ∷ o ∷ []))
  can_move =
      let sx = stand.x in
      let sz = stand.z in
      let tx = then.x in
      let ty = then.y in
      let tz = then.z in (
        can_go p full (bot_with 1 c (2 ^ 41 - 2 ^ 5)) k n goes.first (record { x = omega arith; y = ty; z = omega arith }) stand.above then.above,
        (
          can_go p full (bot_with 2 (coord (c.x + w) c.y c.z) 0) l (coord (n.x + width) n.y n.z) goes.second (record { x = tx; y = ty; z = omega arith }) stand.above then.above,
          (
            can_go p full (bot_with 3 (coord (c.x + w) c.y (c.z + d)) 0) m (coord (n.x + width) n.y (n.z + depth)) goes.third (record { x = tx; y = ty; z = tz }) stand.above then.above,
            (
              can_go p full (bot_with 4 (coord c.x c.y (c.z + d)) 0) o (coord n.x n.y (n.z + depth)) goes.fourth (record { x = omega arith; y = ty; z = tz }) stand.above then.above,
              tt,
            ),
          ),
        ),
      )

  -- moves by their begin and end
  lie : (a b : Bot) (k l : Command) (q r : Coord) → Goes a k q → Goes b l r
      → LieApart (between (point a.pos) (point q)) (between (point b.pos) (point r))
      → LieApart (way (act a k)) (way (act b l))
  lie a b k l q r g h e = subst (λ (s : Span). LieApart s (way (act b l))) (sym (way_is a k q g)) (subst (λ (s : Span). LieApart (between (point a.pos) (point q)) s) (sym (way_is b l r h)) e)

  left_right : AreBelow (pos c.x) (pos n.x) (pos (c.x + w)) (pos (n.x + width))
  left_right = let wide = apart.wide in let wide_then = apart.wide_then in let right = apart.right in let left = apart.left in below c.x n.x (c.x + w) (n.x + width) (omega arith) (omega arith) (omega arith) (omega arith)

  front_rear : AreBelow (pos c.z) (pos n.z) (pos (c.z + d)) (pos (n.z + depth))
  front_rear = let deep = apart.deep in let deep_then = apart.deep_then in let rear = apart.rear in let front = apart.front in below c.z n.z (c.z + d) (n.z + depth) (omega arith) (omega arith) (omega arith) (omega arith)

  pub ways_apart : AreWaysApart (acts (four c w d) (k ∷ l ∷ m ∷ o ∷ []))
  ways_apart =
      let one = bot_with 1 c (2 ^ 41 - 2 ^ 5) in
      let two = bot_with 2 (coord (c.x + w) c.y c.z) 0 in
      let three = bot_with 3 (coord (c.x + w) c.y (c.z + d)) 0 in
      let four = bot_with 4 (coord c.x c.y (c.z + d)) 0 in
      let corner = coord (n.x + width) n.y n.z in
      let corner_here = coord (n.x + width) n.y (n.z + depth) in
      let corner_there = coord n.x n.y (n.z + depth) in (
        (lie one two k l n corner goes.first goes.second (before_x left_right), (lie one three k m n corner_here goes.first goes.third (before_x left_right), (lie one four k o n corner_there goes.first goes.fourth (before_z front_rear), tt))),
        (
          (lie two three l m corner corner_here goes.second goes.third (before_z front_rear), (lie two four l o corner corner_there goes.second goes.fourth (before_z front_rear), tt)),
          (
            (lie three four m o corner_here corner_there goes.third goes.fourth (after_x left_right), tt),
            (tt, tt),
          ),
        ),
      )

  pub four_gone : bots_gone (four c w d) (k ∷ l ∷ m ∷ o ∷ []) ≡ four n width depth
  four_gone =
      let bot_gone = gone_is (bot_with 1 c (2 ^ 41 - 2 ^ 5)) k n goes.first in
      let is_gone = gone_is (bot_with 2 (coord (c.x + w) c.y c.z) 0) l (coord (n.x + width) n.y n.z) goes.second in
      let bot_gone_here = gone_is (bot_with 3 (coord (c.x + w) c.y (c.z + d)) 0) m (coord (n.x + width) n.y (n.z + depth)) goes.third in
      let bot_gone_too = gone_is (bot_with 4 (coord c.x c.y (c.z + d)) 0) o (coord n.x n.y (n.z + depth)) goes.fourth in
      λ i. bot_gone i ∷ is_gone i ∷ bot_gone_here i ∷ bot_gone_too i ∷ []

  module _ (bots : p.bots ≡ four c w d) where
    pub can_move_all : CanMoveAll p (k ∷ l ∷ m ∷ o ∷ [])
    can_move_all = record {
      each = subst (λ (bs : List Bot). AllByRecursion (CanGo p) (acts bs (k ∷ l ∷ m ∷ o ∷ []))) (sym bots) can_move;
      apart = subst (λ (bs : List Bot). AreWaysApart (acts bs (k ∷ l ∷ m ∷ o ∷ []))) (sym bots) ways_apart;
    }

    pub went : (q : TapeState) → p.harmonics ≡ High → count_by is_fission (k ∷ l ∷ m ∷ o ∷ []) ≡ 0
        → AllStep p q (k ∷ l ∷ m ∷ o ∷ []) p.matrix p.harmonics (bots_gone p.bots (k ∷ l ∷ m ∷ o ∷ []))
        → FourGo p q width depth n 1
    went q high none s =
        let all : q.bots ≡ four n width depth = s.bots_are ∙ (ap (λ (bs : List Bot). bots_gone bs (k ∷ l ∷ m ∷ o ∷ [])) bots ∙ four_gone) in
        let there : spot q.bots ≡ n = ap spot all in
        record {
          source = s.source;
          matrix = s.matrix;
          rectangle = record {
            bots_are = all ∙ ap (λ (at : Coord). four at width depth) (sym there);
            high = s.harmonics ∙ high;
            full = s.profile ∙ full;
            wide = apart.wide_then;
            deep = apart.deep_then;
            stand = subst (λ (at : Coord). CanStand q.matrix width depth at) (sym there) (subst (λ (x : Matrix). CanStand x width depth n) (sym s.matrix) then);
          };
          there = there;
          fissions_are = let more_fissions = fissions_more p q (k ∷ l ∷ m ∷ o ∷ []) 0 s.added none in omega arith;
          steps = s.steps;
        }

-- ---- moves along an axis

by_gap : (a b at next : ℕ) → a + next ≡ b + at → pos a +ℤ (pos next -ℤ pos at) ≡ pos b
by_gap a b at next e = omega (arith, ints)

-- a coordinate whose component on the axis changes by as much
pub along_x : (b q : Coord) (at next : ℕ) → b.x + next ≡ q.x + at → b.y ≡ q.y → b.z ≡ q.z
    → plus (point b) (along X (pos next -ℤ pos at)) ≡ point q
along_x b q at next x y z = point_by b (along X (pos next -ℤ pos at)) q (by_gap b.x q.x at next x) (plus_none b.y ∙ ap pos y) (plus_none b.z ∙ ap pos z)

pub along_y : (b q : Coord) (at next : ℕ) → b.y + next ≡ q.y + at → b.x ≡ q.x → b.z ≡ q.z
    → plus (point b) (along Y (pos next -ℤ pos at)) ≡ point q
along_y b q at next y x z = point_by b (along Y (pos next -ℤ pos at)) q (plus_none b.x ∙ ap pos x) (by_gap b.y q.y at next y) (plus_none b.z ∙ ap pos z)

pub along_z : (b q : Coord) (at next : ℕ) → b.z + next ≡ q.z + at → b.x ≡ q.x → b.y ≡ q.y
    → plus (point b) (along Z (pos next -ℤ pos at)) ≡ point q
along_z b q at next z x y = point_by b (along Z (pos next -ℤ pos at)) q (plus_none b.x ∙ ap pos x) (plus_none b.y ∙ ap pos y) (by_gap b.z q.z at next z)

-- all four make the same move
pub shift_goes : (axis : Axis) (c : Coord) (f at next : ℕ) (a b e g : Diff) → component_of axis c ≡ at
    → a ≡ along axis (pos next -ℤ pos at) → b ≡ along axis (pos next -ℤ pos at) → e ≡ along axis (pos next -ℤ pos at)
    → g ≡ along axis (pos next -ℤ pos at) → FourGoes c f f (put axis c next) f f (SMove a) (SMove b) (SMove e) (SMove g)
shift_goes X c f at next a b e g here ea eb ee eg = record {
  first = moves a refl (ap (plus (point c)) ea ∙ along_x c (put X c next) at next (omega arith) refl refl);
  second = moves b refl (ap (plus (point (coord (c.x + f) c.y c.z))) eb ∙ along_x (coord (c.x + f) c.y c.z) (coord (next + f) c.y c.z) at next (omega arith) refl refl);
  third = moves e refl (ap (plus (point (coord (c.x + f) c.y (c.z + f)))) ee ∙ along_x (coord (c.x + f) c.y (c.z + f)) (coord (next + f) c.y (c.z + f)) at next (omega arith) refl refl);
  fourth = moves g refl (ap (plus (point (coord c.x c.y (c.z + f)))) eg ∙ along_x (coord c.x c.y (c.z + f)) (coord next c.y (c.z + f)) at next (omega arith) refl refl);
}
shift_goes Y c f at next a b e g here ea eb ee eg = record {
  first = moves a refl (ap (plus (point c)) ea ∙ along_y c (put Y c next) at next (omega arith) refl refl);
  second = moves b refl (ap (plus (point (coord (c.x + f) c.y c.z))) eb ∙ along_y (coord (c.x + f) c.y c.z) (coord (c.x + f) next c.z) at next (omega arith) refl refl);
  third = moves e refl (ap (plus (point (coord (c.x + f) c.y (c.z + f)))) ee ∙ along_y (coord (c.x + f) c.y (c.z + f)) (coord (c.x + f) next (c.z + f)) at next (omega arith) refl refl);
  fourth = moves g refl (ap (plus (point (coord c.x c.y (c.z + f)))) eg ∙ along_y (coord c.x c.y (c.z + f)) (coord c.x next (c.z + f)) at next (omega arith) refl refl);
}
shift_goes Z c f at next a b e g here ea eb ee eg = record {
  first = moves a refl (ap (plus (point c)) ea ∙ along_z c (put Z c next) at next (omega arith) refl refl);
  second = moves b refl (ap (plus (point (coord (c.x + f) c.y c.z))) eb ∙ along_z (coord (c.x + f) c.y c.z) (coord (c.x + f) c.y next) at next (omega arith) refl refl);
  third = moves e refl (ap (plus (point (coord (c.x + f) c.y (c.z + f)))) ee ∙ along_z (coord (c.x + f) c.y (c.z + f)) (coord (c.x + f) c.y (next + f)) at next (omega arith) refl refl);
  fourth = moves g refl (ap (plus (point (coord c.x c.y (c.z + f)))) eg ∙ along_z (coord c.x c.y (c.z + f)) (coord c.x c.y (next + f)) at next (omega arith) refl refl);
}

-- the moves of a tile's four bots are disjoint: if there is more than one tile along an axis, bots are farther from each
-- other than a move leads
pub shift_apart : (axis : Axis) (m : Matrix) (c : Coord) (at next : ℕ) → 1 ≤ far_of m.resolution
    → component_of axis c ≡ at → next ≤ at + 15 → at ≤ next + 15
    → CanStand m (far_of m.resolution) (far_of m.resolution) c
    → CanStand m (far_of m.resolution) (far_of m.resolution) (put axis c next) → StayApart c (far_of m.resolution)
    (far_of m.resolution) (put axis c next) (far_of m.resolution) (far_of m.resolution)
shift_apart X m c at next some here near back s t =
    let sx = s.x in
    let tx = t.x in
    record { wide = some; wide_then = some; deep = some; deep_then = some; right = omega arith; left = omega arith; rear = omega arith; front = omega arith }
shift_apart Y m c at next some here near back s t = record { wide = some; wide_then = some; deep = some; deep_then = some; right = omega arith; left = omega arith; rear = omega arith; front = omega arith }
shift_apart Z m c at next some here near back s t =
    let sz = s.z in
    let tz = t.z in
    record { wide = some; wide_then = some; deep = some; deep_then = some; right = omega arith; left = omega arith; rear = omega arith; front = omega arith }

-- the right bots make the same move along x
pub widen_goes : (c : Coord) (d at next : ℕ) (b e : Diff) → b ≡ along X (pos next -ℤ pos at)
    → e ≡ along X (pos next -ℤ pos at) → FourGoes c at d c next d Wait (SMove b) (SMove e) Wait
widen_goes c d at next b e eb ee = record {
  first = waits refl refl;
  second = moves b refl (ap (plus (point (coord (c.x + at) c.y c.z))) eb ∙ along_x (coord (c.x + at) c.y c.z) (coord (c.x + next) c.y c.z) at next (omega arith) refl refl);
  third = moves e refl (ap (plus (point (coord (c.x + at) c.y (c.z + d)))) ee ∙ along_x (coord (c.x + at) c.y (c.z + d)) (coord (c.x + next) c.y (c.z + d)) at next (omega arith) refl refl);
  fourth = waits refl refl;
}

-- the rear bots make the same move along z
pub deepen_goes : (c : Coord) (w at next : ℕ) (e g : Diff) → e ≡ along Z (pos next -ℤ pos at)
    → g ≡ along Z (pos next -ℤ pos at) → FourGoes c w at c w next Wait Wait (SMove e) (SMove g)
deepen_goes c w at next e g ee eg = record {
  first = waits refl refl;
  second = waits refl refl;
  third = moves e refl (ap (plus (point (coord (c.x + w) c.y (c.z + at)))) ee ∙ along_z (coord (c.x + w) c.y (c.z + at)) (coord (c.x + w) c.y (c.z + next)) at next (omega arith) refl refl);
  fourth = moves g refl (ap (plus (point (coord c.x c.y (c.z + at)))) eg ∙ along_z (coord c.x c.y (c.z + at)) (coord c.x c.y (c.z + next)) at next (omega arith) refl refl);
}

-- bots that stay at the corners of a rectangle with the same least corner
pub stay_apart : (c : Coord) (w d width depth : ℕ) → 1 ≤ w → 1 ≤ d → 1 ≤ width → 1 ≤ depth
    → StayApart c w d c width depth
stay_apart c w d width depth h i j k = record { wide = h; wide_then = j; deep = i; deep_then = k; right = omega arith; left = omega arith; rear = omega arith; front = omega arith }

-- ---- the three directions of moves

module _ (p : TapeState) (axis : Axis) (at next : ℕ) (a b e g : Diff) (square : IsRectangle p (far_of p.matrix.resolution) (far_of p.matrix.resolution)) (here : component_of axis (spot p.bots) ≡ at) (near : next ≤ at + 15) (back : at ≤ next + 15) (then : CanStand p.matrix (far_of p.matrix.resolution) (far_of p.matrix.resolution) (put axis (spot p.bots) next)) (ea : a ≡ along axis (pos next -ℤ pos at)) (eb : b ≡ along axis (pos next -ℤ pos at)) (ee : e ≡ along axis (pos next -ℤ pos at)) (eg : g ≡ along axis (pos next -ℤ pos at)) where
  pub can_shift : CanMoveAll p (SMove a ∷ SMove b ∷ SMove e ∷ SMove g ∷ [])
  can_shift = can_move_all p _ _ _ _ _ _ _ _ _ _ square.full square.stand then (shift_apart axis p.matrix (spot p.bots) at next square.wide here near back square.stand then) (shift_goes axis (spot p.bots) (far_of p.matrix.resolution) at next a b e g here ea eb ee eg) square.bots_are

  pub shift_went : (q : TapeState) → AllStep p q (SMove a ∷ SMove b ∷ SMove e ∷ SMove g ∷ []) p.matrix p.harmonics
      (bots_gone p.bots (SMove a ∷ SMove b ∷ SMove e ∷ SMove g ∷ []))
      → FourGo p q (far_of p.matrix.resolution) (far_of p.matrix.resolution) (put axis (spot p.bots) next) 1
  shift_went q = went p _ _ _ _ _ _ _ _ _ _ square.full square.stand then (shift_apart axis p.matrix (spot p.bots) at next square.wide here near back square.stand then) (shift_goes axis (spot p.bots) (far_of p.matrix.resolution) at next a b e g here ea eb ee eg) square.bots_are q square.high refl

module _ (p : TapeState) (d at next : ℕ) (b e : Diff) (rectangle : IsRectangle p at d) (some : 1 ≤ next) (within : (spot p.bots).x + next < p.matrix.resolution) (eb : b ≡ along X (pos next -ℤ pos at)) (ee : e ≡ along X (pos next -ℤ pos at)) where
  wider : CanStand p.matrix next d (spot p.bots)
  wider = let stand = rectangle.stand in record { x = within; y = stand.y; z = stand.z; above = stand.above }

  pub can_widen : CanMoveAll p (Wait ∷ SMove b ∷ SMove e ∷ Wait ∷ [])
  can_widen = can_move_all p _ _ _ _ _ _ _ _ _ _ rectangle.full rectangle.stand wider (stay_apart (spot p.bots) at d next d rectangle.wide rectangle.deep some rectangle.deep) (widen_goes (spot p.bots) d at next b e eb ee) rectangle.bots_are

  pub widen_went : (q : TapeState) → AllStep p q (Wait ∷ SMove b ∷ SMove e ∷ Wait ∷ []) p.matrix p.harmonics
      (bots_gone p.bots (Wait ∷ SMove b ∷ SMove e ∷ Wait ∷ [])) → FourGo p q next d (spot p.bots) 1
  widen_went q = went p _ _ _ _ _ _ _ _ _ _ rectangle.full rectangle.stand wider (stay_apart (spot p.bots) at d next d rectangle.wide rectangle.deep some rectangle.deep) (widen_goes (spot p.bots) d at next b e eb ee) rectangle.bots_are q rectangle.high refl

module _ (p : TapeState) (w at next : ℕ) (e g : Diff) (rectangle : IsRectangle p w at) (some : 1 ≤ next) (within : (spot p.bots).z + next < p.matrix.resolution) (ee : e ≡ along Z (pos next -ℤ pos at)) (eg : g ≡ along Z (pos next -ℤ pos at)) where
  deeper : CanStand p.matrix w next (spot p.bots)
  deeper = let stand = rectangle.stand in record { x = stand.x; y = stand.y; z = within; above = stand.above }

  pub can_deepen : CanMoveAll p (Wait ∷ Wait ∷ SMove e ∷ SMove g ∷ [])
  can_deepen = can_move_all p _ _ _ _ _ _ _ _ _ _ rectangle.full rectangle.stand deeper (stay_apart (spot p.bots) w at w next rectangle.wide rectangle.deep rectangle.wide some) (deepen_goes (spot p.bots) w at next e g ee eg) rectangle.bots_are

  pub deepen_went : (q : TapeState) → AllStep p q (Wait ∷ Wait ∷ SMove e ∷ SMove g ∷ []) p.matrix p.harmonics
      (bots_gone p.bots (Wait ∷ Wait ∷ SMove e ∷ SMove g ∷ [])) → FourGo p q w next (spot p.bots) 1
  deepen_went q = went p _ _ _ _ _ _ _ _ _ _ rectangle.full rectangle.stand deeper (stay_apart (spot p.bots) w at w next rectangle.wide rectangle.deep rectangle.wide some) (deepen_goes (spot p.bots) w at next e g ee eg) rectangle.bots_are q rectangle.high refl

-- One more step of the only bot, and many moves.
use Rattle.std.proofs.Common.{◌≡◌, ℕ, zero, suc, ◌+◌, ◌*◌, ◌<◌, refl, sym, ◌∙◌, ap, subst, arith, List, [], ◌∷◌, ◌++◌, true, false, cond, length, length-append, append_assoc, append-nil, lit<, inl, inr}
use Rattle.std.specs.Prelude.{ℤ, pos, negsuc, ◌+ℤ◌, ◌-ℤ◌, unsigned_abs, None}
use Rattle.std.proofs.lemmas.Grind.{flat_map-append}
use Rattle.std.proofs.lemmas.Int.{ints}
use Rattle.vox_geom.specs.declared.coordinate.Coord.{Coord}
use Rattle.vox_geom.specs.declared.difference.Diff.{Diff}
use Rattle.vox_geom.specs.Difference.{mlen}
use Rattle.vox_geom.specs.Point.{Point, point, plus}
use Rattle.vox_geom.specs.Region.{between}
use Rattle.vox_geom.specs.Space.{IsInSpace, in_space, coordinate}
use Rattle.vox_geom.proofs.Points.{in_space_is}
use Rattle.nano_spec.specs.declared.commands.Command.{Command}
use Rattle.nano_spec.specs.declared.commands.Command.TheVariants.{Halt, Flip, SMove, Fill, Void}
use Rattle.nano_spec.specs.declared.system.Bot.{Bot}
use Rattle.nano_spec.specs.declared.system.Harmonics.{Harmonics}
use Rattle.nano_spec.specs.declared.system.Harmonics.TheVariants.{Low}
use Rattle.nano_spec.specs.Bots.{bots_after}
use Rattle.nano_spec.specs.Energy.{groups_cost, upkeep, upkeep_of}
use Rattle.nano_spec.specs.Grounded.{FirstUngrounded}
use Rattle.nano_spec.specs.Matrix.{Matrix, is_full}
use Rattle.nano_spec.specs.Next.{Next, Goes, accepts}
use Rattle.nano_spec.specs.Rules.{broken}
use Rattle.nano_spec.specs.Spelling.{spelling, spellings}
use Rattle.nano_spec.specs.State.{State, origin}
use Rattle.nano_spec.specs.Step.{after, matrix_after, harmonics_after, flipped}
use Rattle.vox_planes.specs.Voxel.{IsWhole, with_voxel}
use Rattle.plan_tape.specs.declared.axis.Axis.{Axis}
use Rattle.plan_tape.specs.declared.axis.Axis.TheVariants.{X, Y, Z}
use Rattle.plan_tape.specs.Leg.{AreLegs, AreVoidTo, IsLeg, IsOnward, IsVoidAlong, MayMove, along, component_of, distance, gap, moves_to, put}
use Rattle.plan_tape.specs.Progress.{IsAllowed, IsHeld, IsReachable, TapeState, beside, bots_at, spot, state_of, upkeep_of_step}
use Rattle.plan_tape.specs.Reaches.{Reaches, steps_on}
use Rattle.system_state.proofs.OnlyBot.{cost_is, fill_cost, matrix_filled, matrix_voided, untouched, void_cost}
use Rattle.plan_tape.proofs.Faults.{BreaksNoBotRule, fill_faults, flip_faults, halt_faults, lone, move_faults, unbroken, void_faults, with_one}
use Rattle.plan_tape.proofs.Legs.{bots_at-bots_at, bots_at-spot, first_void, last_void, length-bots_at, mlen-along, plus-along, put-component_of, put-put, put_in_space, spot-bots_at}
use Rattle.step_order.specs.Unbroken.{IsVoid}

-- ---- the step is accepted

-- if no rule is broken, and the state after is grounded if its harmonics are Low, the step is accepted
pub goes_on : (s t : State) (commands : List Command) (step : ℕ) → broken s commands step ≡ None → after s commands ≡ t
    → (t.harmonics ≡ Low → FirstUngrounded t.matrix None) → Next s commands step (Goes t)
goes_on s t commands step b e g =
    subst (λ (u : State). Next s commands step (Goes u)) e
    (accepts b (subst (λ (u : State). u.harmonics ≡ Low → FirstUngrounded u.matrix None) (sym e) g) refl)

-- ---- one more step of the only bot

-- the tape after a command
abbrev pub progress_after : TapeState → Command → Matrix → Harmonics → List Bot → ℤ → TapeState
progress_after p k m h bots cost = record {
  source = p.source;
  commands = p.commands ++ k ∷ [];
  matrix = m;
  harmonics = h;
  bots = bots;
  energy = (p.energy +ℤ pos (upkeep_of_step p)) +ℤ cost;
  profile = p.profile;
  steps = p.steps + 1;
}

-- the commands of a tape reach its state
abbrev pub IsRun : TapeState → Type 0
IsRun p = Reaches p.source p.profile p.commands (state_of p) p.steps

-- the effect of a command of the only bot that breaks no rule
pub record Does (p : TapeState) (b : Bot) (k : Command) (m : Matrix) (h : Harmonics) (bots : List Bot) (cost : ℤ) : Type 0 where
  pub faultless : BreaksNoBotRule p.matrix p.harmonics b p.energy p.profile k
  pub matrix_is : matrix_after p.matrix (lone b k ∷ []) ≡ m
  pub harmonics_are : harmonics_after p.harmonics (lone b k ∷ []) ≡ h
  pub bots_are : bots_after (lone b k ∷ []) ≡ bots
  pub cost_is : groups_cost p.matrix (lone b k ∷ []) ≡ cost
  pub held : IsHeld h m

module _ (p : TapeState) (b : Bot) (k : Command) (m : Matrix) (h : Harmonics) (bots : List Bot) (cost : ℤ) (only : p.bots ≡ b ∷ []) where
  pub one_more : IsRun p → Does p b k m h bots cost → IsRun (progress_after p k m h bots cost)
  one_more r d =
      let start : State = with_one p.matrix p.harmonics b p.energy p.profile in
      let old : state_of p ≡ start = (λ i. record { matrix = p.matrix; harmonics = p.harmonics; bots = only i; energy = p.energy; profile = p.profile }) in
      let done : Reaches p.source p.profile p.commands start p.steps = subst (λ (s : State). Reaches p.source p.profile p.commands s p.steps) old r in
      let new : State = state_of (progress_after p k m h bots cost) in
      let paid : upkeep start ≡ pos (upkeep_of_step p) = ap (λ (bs : List Bot). pos (unsigned_abs (upkeep_of p.matrix.resolution p.harmonics (length bs)))) (sym only) in
      let em = d.matrix_is in
      let eh = d.harmonics_are in
      let eb = d.bots_are in
      let ec = d.cost_is in
      let same : after start (k ∷ []) ≡ new = (λ i. record { matrix = em i; harmonics = eh i; bots = eb i; energy = (p.energy +ℤ paid i) +ℤ ec i; profile = p.profile }) in
      steps_on start p.commands (k ∷ []) p.steps done (lit< tt) refl (goes_on start new (k ∷ []) (p.steps + 1) (unbroken p.matrix p.harmonics b p.energy p.profile k (p.steps + 1) d.faultless) same d.held) refl refl

-- the only bot of a list of one
pub only_bot : (bots : List Bot) → length bots ≡ 1 → (b : Bot) × (bots ≡ b ∷ []) × (spot bots ≡ b.pos)
only_bot [] e = absurd (omega arith)
only_bot (b ∷ []) e = (b, refl, refl)
only_bot (b ∷ c ∷ bots) e = absurd (omega arith)

in_place : (p : TapeState) (b : Bot) (d : Diff) → spot p.bots ≡ b.pos → IsReachable p d
    → in_space p.matrix.resolution (plus (point b.pos) d) ≡ true
in_place p b d e i = subst (λ (q : Coord). in_space p.matrix.resolution (plus (point q) d) ≡ true) e i

all_moved : (bots : List Bot) (b : Bot) (c e : Coord) → bots ≡ b ∷ [] → c ≡ e
    → record { bid = b.bid; pos = e; seeds = b.seeds } ∷ [] ≡ bots_at bots c
all_moved bots b c e f g = rw (f, g) refl

module _ (p : TapeState) (w : IsWhole p.matrix) (alone : length p.bots ≡ 1) where
  pub flips : IsAllowed p Flip → IsHeld (flipped p.harmonics) p.matrix
      → Does p (only_bot p.bots alone).0 Flip p.matrix (flipped p.harmonics) p.bots (pos 0)
  flips a g =
      let only = only_bot p.bots alone in
      record { faultless = flip_faults p.matrix p.harmonics only.0 p.energy p.profile a; matrix_is = untouched p.matrix (lone only.0 Flip) w refl refl; harmonics_are = refl; bots_are = sym only.1; cost_is = cost_is p.matrix only.0 Flip; held = g }

  pub fills : (d : Diff) → IsAllowed p (Fill d) → IsReachable p d
      → IsHeld p.harmonics (with_voxel p.matrix (beside p d) true) → Does p (only_bot p.bots alone).0 (Fill d)
      (with_voxel p.matrix (beside p d) true) p.harmonics p.bots (cond (is_full p.matrix (beside p d)) (pos 6) (pos 12))
  fills d a i g =
      let only = only_bot p.bots alone in
      let place = in_place p only.0 d only.2 i in
      record {
        faultless = fill_faults p.matrix p.harmonics only.0 p.energy p.profile d a place;
        matrix_is = subst (λ (q : Coord). matrix_after p.matrix (lone only.0 (Fill d) ∷ []) ≡ with_voxel p.matrix (coordinate (plus (point q) d)) true) (sym only.2) (matrix_filled p.matrix only.0 d place);
        harmonics_are = refl;
        bots_are = sym only.1;
        cost_is = subst (λ (q : Coord). groups_cost p.matrix (lone only.0 (Fill d) ∷ []) ≡ cond (is_full p.matrix (coordinate (plus (point q) d))) (pos 6) (pos 12)) (sym only.2) (fill_cost p.matrix only.0 d place);
        held = g;
      }

  pub voids : (d : Diff) → IsAllowed p (Void d) → IsReachable p d
      → IsHeld p.harmonics (with_voxel p.matrix (beside p d) false) → Does p (only_bot p.bots alone).0 (Void d)
      (with_voxel p.matrix (beside p d) false) p.harmonics p.bots
      (cond (is_full p.matrix (beside p d)) (negsuc 11) (pos 3))
  voids d a i g =
      let only = only_bot p.bots alone in
      let place = in_place p only.0 d only.2 i in
      record {
        faultless = void_faults p.matrix p.harmonics only.0 p.energy p.profile d a place;
        matrix_is = subst (λ (q : Coord). matrix_after p.matrix (lone only.0 (Void d) ∷ []) ≡ with_voxel p.matrix (coordinate (plus (point q) d)) false) (sym only.2) (matrix_voided p.matrix only.0 d place);
        harmonics_are = refl;
        bots_are = sym only.1;
        cost_is = subst (λ (q : Coord). groups_cost p.matrix (lone only.0 (Void d) ∷ []) ≡ cond (is_full p.matrix (coordinate (plus (point q) d))) (negsuc 11) (pos 3)) (sym only.2) (void_cost p.matrix only.0 d place);
        held = g;
      }

  pub goes : (d : Diff) → IsAllowed p (SMove d) → IsReachable p d
      → IsVoid p.matrix (between (point (spot p.bots)) (plus (point (spot p.bots)) d)) → IsHeld p.harmonics p.matrix
      → Does p (only_bot p.bots alone).0 (SMove d) p.matrix p.harmonics (bots_at p.bots (beside p d)) (pos (2 * mlen d))
  goes d a i v g =
      let only = only_bot p.bots alone in
      record {
        faultless = move_faults p.matrix p.harmonics only.0 p.energy p.profile d a (in_place p only.0 d only.2 i) (subst (λ (q : Coord). IsVoid p.matrix (between (point q) (plus (point q) d))) only.2 v);
        matrix_is = untouched p.matrix (lone only.0 (SMove d)) w refl refl;
        harmonics_are = refl;
        bots_are = all_moved p.bots only.0 (beside p d) (coordinate (plus (point only.0.pos) d)) only.1 (ap (λ (q : Coord). coordinate (plus (point q) d)) only.2);
        cost_is = cost_is p.matrix only.0 (SMove d);
        held = g;
      }

  pub halts : IsAllowed p Halt → spot p.bots ≡ origin → p.harmonics ≡ Low → IsHeld p.harmonics p.matrix
      → Does p (only_bot p.bots alone).0 Halt p.matrix p.harmonics [] (pos 0)
  halts a at low g =
      let only = only_bot p.bots alone in
      let home : only.0.pos ≡ origin = sym only.2 ∙ at in
      record { faultless = halt_faults p.matrix p.harmonics only.0 p.energy p.profile a (rw home refl) low; matrix_is = untouched p.matrix (lone only.0 Halt) w refl refl; harmonics_are = refl; bots_are = refl; cost_is = cost_is p.matrix only.0 Halt; held = g }

-- ---- many moves along an axis

-- the tape after them
abbrev pub progress_along : TapeState → Axis → ℕ → ℕ → List Command → TapeState
progress_along p axis a b moves = record {
  source = p.source;
  commands = p.commands ++ moves;
  matrix = p.matrix;
  harmonics = p.harmonics;
  bots = bots_at p.bots (put axis (spot p.bots) b);
  energy = p.energy +ℤ pos (length moves * upkeep_of_step p + 2 * gap a b);
  profile = p.profile;
  steps = p.steps + length moves;
}

move_bytes : (axis : Axis) (a b : ℕ) (moves : List Command) → IsLeg axis a b moves
    → length (spellings moves) ≡ 2 * length moves
move_bytes axis a b [] l = refl
move_bytes axis a b (k ∷ more) l =
    let rest = move_bytes axis l.0 b more l.3 in
    rw l.1 (let same_length : suc (suc (length (spellings more))) ≡ 2 * suc (length more) = omega arith in same_length)

onward_gap : (a v b : ℕ) → IsOnward a v b → gap a b ≡ gap a v + gap v b
onward_gap a v b (inl h) = omega arith
onward_gap a v b (inr h) = omega arith

paid_on : (e : ℤ) (n u g h : ℕ)
    → ((e +ℤ pos u) +ℤ pos (2 * g)) +ℤ pos (n * u + 2 * h) ≡ e +ℤ pos (suc n * u + 2 * (g + h))
paid_on e n u g h = omega (arith, ints)

component_below : (x : Axis) (r : ℕ) (c : Coord) → IsInSpace r c → component_of x c < r
component_below X r c i = i.x
component_below Y r c i = i.y
component_below Z r c i = i.z

component_of-put : (x : Axis) (c : Coord) (v : ℕ) → component_of x (put x c v) ≡ v
component_of-put X c v = refl
component_of-put Y c v = refl
component_of-put Z c v = refl

-- from a tape, moves along an axis reach the tape after them
pub walked : (moves : List Command) (p : TapeState) (axis : Axis) (a b : ℕ) → IsWhole p.matrix
    → IsHeld p.harmonics p.matrix → length p.bots ≡ 1 → IsInSpace p.matrix.resolution (spot p.bots)
    → component_of axis (spot p.bots) ≡ a → b < p.matrix.resolution → MayMove p
    → IsVoidAlong p.matrix axis (spot p.bots) b → IsLeg axis a b moves → IsRun p
    → IsRun (progress_along p axis a b moves)
walked [] p axis a b w g alone i at l may v leg r = subst IsRun (λ j. stayed j) r
  where
    spot_is : put axis (spot p.bots) b ≡ spot p.bots
    spot_is = ap (put axis (spot p.bots)) (sym (at ∙ leg)) ∙ put-component_of axis (spot p.bots)

    stayed : p ≡ progress_along p axis a b []
    stayed =
        let ec : p.commands ≡ p.commands ++ [] = sym (append-nil p.commands) in
        let eb : p.bots ≡ bots_at p.bots (put axis (spot p.bots) b) = sym (ap (bots_at p.bots) spot_is ∙ bots_at-spot p.bots) in
        let none : gap a b ≡ 0 = omega (arith, leg) in
        let ee : p.energy ≡ p.energy +ℤ pos (zero * upkeep_of_step p + 2 * gap a b) = omega (arith, ints, none) in
        let es : p.steps ≡ p.steps + zero = omega arith in
        λ j. record { source = p.source; commands = ec j; matrix = p.matrix; harmonics = p.harmonics; bots = eb j; energy = ee j; profile = p.profile; steps = es j }
walked (k ∷ more) p axis a b w g alone i at l may v leg r =
    subst IsRun after_all (walked more q axis u b w g (length-bots_at p.bots (beside p d) ∙ alone) (subst (λ (c : Coord). IsInSpace p.matrix.resolution c) (sym spot_is) (put_in_space axis p.matrix.resolution (spot p.bots) u i u_below)) (ap (component_of axis) spot_is ∙ component_of-put axis (spot p.bots) u) l may
    (subst (λ (c : Coord). IsVoidAlong p.matrix axis c b) (sym spot_is) (last_void p.matrix axis (spot p.bots) a u b leg.2.onward from_here)) leg.3 run)
  where
    u : ℕ
    u = leg.0

    d : Diff
    d = along axis (pos u -ℤ pos a)

    from_is : put axis (spot p.bots) a ≡ spot p.bots
    from_is = ap (put axis (spot p.bots)) (sym at) ∙ put-component_of axis (spot p.bots)

    from_here : IsVoidAlong p.matrix axis (put axis (spot p.bots) a) b
    from_here = subst (λ (c : Coord). IsVoidAlong p.matrix axis c b) (sym from_is) v

    to_is : plus (point (spot p.bots)) d ≡ point (put axis (spot p.bots) u)
    to_is = ap (λ (c : Coord). plus (point c) d) (sym from_is) ∙ plus-along axis (spot p.bots) a u

    beside_is : beside p d ≡ put axis (spot p.bots) u
    beside_is = ap coordinate to_is

    u_below : u < p.matrix.resolution
    u_below = below leg.2.onward
      where
        below : IsOnward a u b → u < p.matrix.resolution
        below (inl h) = omega arith
        below (inr h) = let in_range = component_below axis p.matrix.resolution (spot p.bots) i in omega (arith, at, in_range)

    q : TapeState
    q = progress_after p (SMove d) p.matrix p.harmonics (bots_at p.bots (beside p d)) (pos (2 * mlen d))

    spot_is : spot (bots_at p.bots (beside p d)) ≡ put axis (spot p.bots) u
    spot_is = spot-bots_at p.bots (beside p d) alone ∙ beside_is

    run : IsRun q
    run =
        let only = only_bot p.bots alone in
        let reaches : IsReachable p d = ap (in_space p.matrix.resolution) to_is ∙ in_space_is p.matrix.resolution (put axis (spot p.bots) u) (put_in_space axis p.matrix.resolution (spot p.bots) u i u_below) in
        let void : IsVoid p.matrix (between (point (spot p.bots)) (plus (point (spot p.bots)) d)) = subst (λ (x : Point). IsVoid p.matrix (between (point (spot p.bots)) x)) (sym to_is) (subst (λ (c : Coord). IsVoid p.matrix (between (point c) (point (put axis (spot p.bots) u)))) from_is (first_void p.matrix axis (spot p.bots) a u b leg.2.onward from_here)) in
        one_more p only.0 (SMove d) p.matrix p.harmonics (bots_at p.bots (beside p d)) (pos (2 * mlen d)) only.1 r (goes p w alone d (may d) reaches void g)

    after_all : progress_along q axis u b more ≡ progress_along p axis a b (k ∷ more)
    after_all =
        let ec : (p.commands ++ SMove d ∷ []) ++ more ≡ p.commands ++ k ∷ more = append_assoc p.commands (SMove d ∷ []) more ∙ ap (λ (x : Command). p.commands ++ x ∷ more) (sym leg.1) in
        let eb : bots_at (bots_at p.bots (beside p d)) (put axis (spot (bots_at p.bots (beside p d))) b) ≡ bots_at p.bots (put axis (spot p.bots) b) = bots_at-bots_at p.bots (beside p d) _ ∙ ap (bots_at p.bots) (ap (λ (c : Coord). put axis c b) spot_is ∙ put-put axis (spot p.bots) u b) in
        let up : upkeep_of_step q ≡ upkeep_of_step p = ap (λ n. unsigned_abs (upkeep_of p.matrix.resolution p.harmonics n)) (length-bots_at p.bots (beside p d)) in
        let el : mlen d ≡ gap a u = mlen-along axis a u in
        let ee : q.energy +ℤ pos (length more * upkeep_of_step q + 2 * gap u b) ≡ p.energy +ℤ pos (suc (length more) * upkeep_of_step p + 2 * gap a b) =
        (ap (λ n. q.energy +ℤ pos (length more * n + 2 * gap u b)) up ∙ (ap (λ n. ((p.energy +ℤ pos (upkeep_of_step p)) +ℤ pos (2 * n)) +ℤ pos (length more * upkeep_of_step p + 2 * gap u b)) el ∙ (paid_on p.energy (length more) (upkeep_of_step p) (gap a u) (gap u b) ∙ ap (λ n. p.energy +ℤ pos (suc (length more) * upkeep_of_step p + 2 * n)) (sym (onward_gap a u b leg.2.onward))))) in
        let es : p.steps + 1 + length more ≡ p.steps + suc (length more) = omega arith in
        λ j. record { source = p.source; commands = ec j; matrix = p.matrix; harmonics = p.harmonics; bots = eb j; energy = ee j; profile = p.profile; steps = es j }

-- ---- moves along all axes

pub spellings-joined : (x y : List Command) → length (spellings (x ++ y)) ≡ length (spellings x) + length (spellings y)
spellings-joined x y = ap length (flat_map-append spelling x y) ∙ length-append (spellings x) (spellings y)

-- the tape after moves to a coordinate
abbrev pub progress_at : TapeState → Coord → List Command → TapeState
progress_at p to moves = record {
  source = p.source;
  commands = p.commands ++ moves;
  matrix = p.matrix;
  harmonics = p.harmonics;
  bots = bots_at p.bots to;
  energy = p.energy +ℤ pos (moves_to (spot p.bots) to * upkeep_of_step p + 2 * distance (spot p.bots) to);
  profile = p.profile;
  steps = p.steps + moves_to (spot p.bots) to;
}

paid_all : (e : ℤ) (a b c u g h i : ℕ) → ((e +ℤ pos (a * u + 2 * g)) +ℤ pos (b * u + 2 * h)) +ℤ pos (c * u + 2 * i)
    ≡ e +ℤ pos ((a + b + c) * u + 2 * (g + h + i))
paid_all e a b c u g h i = omega (arith, ints)

module _ (p : TapeState) (to : Coord) (moves : List Command) (legs : AreLegs (spot p.bots) to moves) where
  pub legs_bytes : length (spellings moves) ≡ 2 * moves_to (spot p.bots) to
  legs_bytes =
      let bytes_of_moves = move_bytes X (spot p.bots).x to.x legs.x legs.along_x.leg in
      let two_bytes_each = move_bytes Y (spot p.bots).y to.y legs.y legs.along_y.leg in
      let bytes_of_moves_here = move_bytes Z (spot p.bots).z to.z legs.z legs.along_z.leg in
      let along_x_least = legs.along_x.least in
      let along_y_least = legs.along_y.least in
      let least = legs.along_z.least in
      let spellings_length = spellings-joined (legs.x ++ legs.y) legs.z in
      let spellings_length_here = spellings-joined legs.x legs.y in
      ap (λ (xs : List Command). length (spellings xs)) legs.joined ∙ (let length_is : length (spellings (legs.x ++ legs.y ++ legs.z)) ≡ 2 * moves_to (spot p.bots) to = omega arith in length_is)

  module _ (w : IsWhole p.matrix) (g : IsHeld p.harmonics p.matrix) (alone : length p.bots ≡ 1) (i : IsInSpace p.matrix.resolution (spot p.bots)) (t : IsInSpace p.matrix.resolution to) (may : MayMove p) (v : AreVoidTo p.matrix (spot p.bots) to) where
    abbrev a : Coord
    a = spot p.bots

    abbrev p1 : TapeState
    p1 = progress_along p X a.x to.x legs.x

    abbrev p2 : TapeState
    p2 = progress_along p1 Y a.y to.y legs.y

    abbrev p3 : TapeState
    p3 = progress_along p2 Z a.z to.z legs.z

    spot1 : spot p1.bots ≡ put X a to.x
    spot1 = spot-bots_at p.bots (put X a to.x) alone

    alone1 : length p1.bots ≡ 1
    alone1 = length-bots_at p.bots (put X a to.x) ∙ alone

    spot2 : spot p2.bots ≡ put Y (put X a to.x) to.y
    spot2 = spot-bots_at p1.bots (put Y (spot p1.bots) to.y) alone1 ∙ ap (λ (c : Coord). put Y c to.y) spot1

    alone2 : length p2.bots ≡ 1
    alone2 = length-bots_at p1.bots (put Y (spot p1.bots) to.y) ∙ alone1

    within1 : IsInSpace p.matrix.resolution (put X a to.x)
    within1 = put_in_space X p.matrix.resolution a to.x i t.x

    upkeep_same : (bots : List Bot) → length bots ≡ 1
        → unsigned_abs (upkeep_of p.matrix.resolution p.harmonics (length bots)) ≡ upkeep_of_step p
    upkeep_same bots l = ap (λ n. unsigned_abs (upkeep_of p.matrix.resolution p.harmonics n)) (l ∙ sym alone)

    arrived : p3 ≡ progress_at p to moves
    arrived =
        let ec : ((p.commands ++ legs.x) ++ legs.y) ++ legs.z ≡ p.commands ++ moves =
        (ap (λ xs. xs ++ legs.z) (append_assoc p.commands legs.x legs.y) ∙ (append_assoc p.commands (legs.x ++ legs.y) legs.z ∙ ap (λ xs. p.commands ++ xs) (sym legs.joined))) in
        let eb : p3.bots ≡ bots_at p.bots to =
        (bots_at-bots_at p1.bots (put Y (spot p1.bots) to.y) (put Z (spot p2.bots) to.z) ∙ (bots_at-bots_at p.bots (put X a to.x) (put Z (spot p2.bots) to.z) ∙ ap (λ (c : Coord). bots_at p.bots (put Z c to.z)) spot2)) in
        let u1 = upkeep_same p1.bots alone1 in
        let u2 = upkeep_same p2.bots alone2 in
        let lx = legs.along_x.least in
        let ly = legs.along_y.least in
        let lz = legs.along_z.least in
        let all : length legs.x + length legs.y + length legs.z ≡ moves_to a to = omega arith in
        let ee : p3.energy ≡ p.energy +ℤ pos (moves_to a to * upkeep_of_step p + 2 * distance a to) =
        ((λ j. ((p.energy +ℤ pos (length legs.x * upkeep_of_step p + 2 * gap a.x to.x)) +ℤ pos (length legs.y * u1 j + 2 * gap a.y to.y)) +ℤ pos (length legs.z * u2 j + 2 * gap a.z to.z))
        ∙ (paid_all p.energy (length legs.x) (length legs.y) (length legs.z) (upkeep_of_step p) (gap a.x to.x) (gap a.y to.y) (gap a.z to.z)
        ∙ ap (λ n. p.energy +ℤ pos (n * upkeep_of_step p + 2 * distance a to)) all)) in
        let es : p.steps + length legs.x + length legs.y + length legs.z ≡ p.steps + moves_to a to = omega arith in
        λ j. record { source = p.source; commands = ec j; matrix = p.matrix; harmonics = p.harmonics; bots = eb j; energy = ee j; profile = p.profile; steps = es j }

    pub walked_to : IsRun p → IsRun (progress_at p to moves)
    walked_to r =
        subst IsRun arrived
        (walked legs.z p2 Z a.z to.z w g alone2 (subst (λ (c : Coord). IsInSpace p.matrix.resolution c) (sym spot2) (put_in_space Y p.matrix.resolution (put X a to.x) to.y within1 t.y)) (ap (component_of Z) spot2) t.z may (subst (λ (c : Coord). IsVoidAlong p.matrix Z c to.z) (sym spot2) v.z) legs.along_z.leg
        (walked legs.y p1 Y a.y to.y w g alone1 (subst (λ (c : Coord). IsInSpace p.matrix.resolution c) (sym spot1) within1) (ap (component_of Y) spot1) t.y may (subst (λ (c : Coord). IsVoidAlong p.matrix Y c to.y) (sym spot1) v.y) legs.along_y.leg
        (walked legs.x p X a.x to.x w g alone i refl t.x may v.x legs.along_x.leg r)))

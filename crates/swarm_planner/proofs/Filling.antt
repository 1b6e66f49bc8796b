-- The effect of a step in which each bot fills the voxel below it, or waits.
use Rattle.std.proofs.Common.{◌≡◌, ℕ, suc, ◌+◌, ◌-◌, ◌≤◌, refl, sym, ◌∙◌, ap, subst, arith, Bool, true, false, cond, ◌&&◌, ◌||◌, not, ◌==◌, max, List, [], ◌∷◌, length}
use Rattle.std.specs.Prelude.{pos, negsuc, ◌+ℤ◌, ◌≤ℤ◌, IsTrue}
use Rattle.std.specs.List.{AllByRecursion, list_any}
use Rattle.std.proofs.lemmas.Bool.Decides.{nat_tests}
use Rattle.std.proofs.lemmas.Int.{ints}
use Rattle.vox_geom.specs.declared.coordinate.Coord.{Coord}
use Rattle.vox_geom.specs.Point.{Point, plus, point, down, below}
use Rattle.vox_geom.specs.Region.{is_between, is_within, just}
use Rattle.vox_geom.specs.Space.{IsInSpace, in_space}
use Rattle.vox_geom.proofs.Truths.{or_false, or_of_and, parts_of_three}
use Rattle.vox_geom.proofs.Tests.{equal_by_test}
use Rattle.vox_geom.proofs.Sums.{plus_none}
use Rattle.vox_geom.proofs.Points.{between_is_equal, in_space_is, space_by_test}
use Rattle.nano_spec.specs.declared.commands.Command.{Command}
use Rattle.nano_spec.specs.declared.commands.Command.TheVariants.{Fill, Wait}
use Rattle.nano_spec.specs.declared.system.Bot.{Bot}
use Rattle.nano_spec.specs.declared.system.Profile.{Profile}
use Rattle.nano_spec.specs.Act.{Act, acts, filled}
use Rattle.nano_spec.specs.Matrix.{Matrix, is_full}
use Rattle.nano_spec.specs.Profile.{is_allowed, light_profile}
use Rattle.nano_spec.specs.State.{State}
use Rattle.nano_spec.specs.Step.{is_filled}
use Rattle.nano_spec.specs.Volatile.{volatile_regions}
use Rattle.step_order.specs.Unbroken.{AreFree, IsFree, MayAct}
use Rattle.step_order.proofs.Voxels.{full_where}
use Rattle.plan_tape.specs.declared.axis.Axis.TheVariants.{Z}
use Rattle.plan_tape.specs.Crowd.{AllStep, FillsOrWaits, with_fills}
use Rattle.plan_tape.specs.Progress.{TapeState, spot, state_of}
use Rattle.swarm_planner.specs.Building.{Fills, IsRaised, fill, fills, is_below, is_under, is_wanted}
use Rattle.swarm_planner.specs.Crew.{AreLed, InRow, IsSwarm, places}
use Rattle.swarm_planner.proofs.Rows.{led_row}
use Rattle.swarm_planner.proofs.Fences.{AreFenced, IsFenced, IsInColumns, untangled}

-- ---- one bot

down_y : (n : ℕ) → 1 ≤ n → pos n +ℤ negsuc 0 ≡ pos (n - 1)
down_y n h = omega (arith, ints)

pub below_is : (p : Coord) → 1 ≤ p.y → plus (point p) down ≡ point (below p)
below_is p h = λ i. record { x = plus_none p.x i; y = down_y p.y h i; z = plus_none p.z i }

only_below : (a v : ℕ) → 1 ≤ a → is_between (pos (a - 1)) (pos (a - 1)) (pos v) ≡ (v + 1 == a)
only_below a v h = grind (arith, nat_tests)

within_below : (p c : Coord) → 1 ≤ p.y → is_within (just (plus (point p) down)) (point c) ≡ is_below p c
within_below p c h = ap (λ q. is_within (just q) (point c)) (below_is p h) ∙ (λ i. between_is_equal p.x c.x i && only_below p.y c.y h i && between_is_equal p.z c.z i)

less_one : (a b : ℕ) → (a + 1 == b) ≡ true → a ≡ b - 1
less_one a b h = let same_sum = equal_by_test (a + 1) b h in omega arith

pub is_below-is : (p c : Coord) → is_below p c ≡ true → c ≡ below p
is_below-is p c h =
    let three_parts = parts_of_three (c.x == p.x) (c.y + 1 == p.y) (c.z == p.z) h in
    let same_x = equal_by_test c.x p.x three_parts.0 in
    let is_less_one_y = less_one c.y p.y three_parts.1 in
    let same_z = equal_by_test c.z p.z three_parts.2 in
    λ i. record { x = same_x i; y = is_less_one_y i; z = same_z i }

and_with : (a b : Bool) → (a ≡ true → b ≡ false) → (a && b) ≡ false
and_with true b h = h refl
and_with false b h = refl

with_true : (a b : Bool) → (a ≡ true → b ≡ true) → (a && b) ≡ a
with_true true b h = h refl
with_true false b h = refl

-- the voxel that one bot fills
fills_one : (m target : Matrix) (p c : Coord) → 1 ≤ p.y
    → list_any (λ s. is_within s (point c)) (filled (point p) (fill m target p))
    ≡ (is_below p c && (is_full target c && not (is_full m c)))
fills_one m target p c h = by (is_wanted m target p) refl
  where
    at : is_below p c ≡ true → (is_full target c && not (is_full m c)) ≡ is_wanted m target p
    at e = ap (λ (d : Coord). is_full target d && not (is_full m d)) (is_below-is p c e)

    by : (t : Bool) → is_wanted m target p ≡ t
        → list_any (λ s. is_within s (point c)) (filled (point p) (cond t (Fill down) Wait))
        ≡ (is_below p c && (is_full target c && not (is_full m c)))
    by true e = or_false (is_within (just (plus (point p) down)) (point c)) ∙ (within_below p c h ∙ sym (with_true (is_below p c) (is_full target c && not (is_full m c)) (λ f. at f ∙ e)))
    by false e = sym (and_with (is_below p c) (is_full target c && not (is_full m c)) (λ f. at f ∙ e))

fill_waits : (m target : Matrix) (p : Coord) → FillsOrWaits (fill m target p)
fill_waits m target p = by (is_wanted m target p)
  where
    by : (t : Bool) → FillsOrWaits (cond t (Fill down) Wait)
    by true = tt
    by false = tt

allowed : (profile : Profile) (m target : Matrix) (p : Coord) → profile ≡ light_profile
    → IsTrue (is_allowed profile (fill m target p))
allowed profile m target p e = subst (λ (k : Profile). IsTrue (is_allowed k (fill m target p))) (sym e) (by (is_wanted m target p))
  where
    by : (t : Bool) → IsTrue (is_allowed light_profile (cond t (Fill down) Wait))
    by true = refl
    by false = refl

may_fill : (s : State) (all : List Act) (target : Matrix) (b : Bot) → IsInSpace s.matrix.resolution b.pos → 1 ≤ b.pos.y
    → MayAct s all (record { bot = b; command = fill s.matrix target b.pos }) (fill s.matrix target b.pos)
may_fill s all target b i h = by (is_wanted s.matrix target b.pos)
  where
    by : (t : Bool) → MayAct s all (record { bot = b; command = fill s.matrix target b.pos }) (cond t (Fill down) Wait)
    by true = subst (λ (q : Point). IsTrue (in_space s.matrix.resolution q)) (sym (below_is b.pos h)) (in_space_is s.matrix.resolution (below b.pos) (let along_y = i.y in record { x = i.x; y = omega arith; z = i.z }))
    by false = tt

-- the region of one point in a column
pub just_in : (low high : ℕ) (q : Point) (n : ℕ) → q.x ≡ pos n → low ≤ n → n ≤ high → IsInColumns low high (just q)
just_in low high q n e l h =
    let a : pos low ≤ℤ q.x = rw e (omega (arith, ints)) in
    let b : q.x ≤ℤ pos high = rw e (omega (arith, ints)) in
    record { from_low = a; from_high = b; to_low = a; to_high = b }

fenced : (m target : Matrix) (low high : ℕ) (b : Bot) → low ≤ b.pos.x → b.pos.x ≤ high
    → IsFenced low high (record { bot = b; command = fill m target b.pos })
fenced m target low high b l h = by (is_wanted m target b.pos)
  where
    by : (t : Bool) → AllByRecursion (IsInColumns low high) (volatile_regions (point b.pos) (cond t (Fill down) Wait))
    by true = (just_in low high (point b.pos) b.pos.x refl l h, (just_in low high (plus (point b.pos) down) b.pos.x (plus_none b.pos.x) l h, tt))
    by false = (just_in low high (point b.pos) b.pos.x refl l h, tt)

-- ---- all bots

pub fills_length : (m target : Matrix) (bots : List Bot) → length (fills m target bots) ≡ length bots
fills_length m target [] = refl
fills_length m target (b ∷ bots) = ap suc (fills_length m target bots)

fills_wait : (m target : Matrix) (bots : List Bot) → AllByRecursion FillsOrWaits (fills m target bots)
fills_wait m target [] = tt
fills_wait m target (b ∷ bots) = (fill_waits m target b.pos, fills_wait m target bots)

module _ (s : State) (target : Matrix) (light : s.profile ≡ light_profile) where
  each_free : (all : List Act) (bots : List Bot) (low : ℕ)
      → AreLed s.matrix.resolution 1 Z low (places bots) (places bots)
      → AllByRecursion (IsFree s all) (acts bots (fills s.matrix target bots))
  each_free all [] low k = tt
  each_free all (b ∷ bots) low k = (record { allowed = allowed s.profile s.matrix target b.pos light; may = may_fill s all target b k.0.from k.0.high_from }, each_free all bots (max b.pos.x b.pos.x + 1) k.1)

  all_fenced : (bots : List Bot) (low : ℕ) → AreLed s.matrix.resolution 1 Z low (places bots) (places bots)
      → AreFenced low (acts bots (fills s.matrix target bots))
  all_fenced [] low k = AreFenced.none
  all_fenced (b ∷ bots) low k =
      let low_from = k.0.low_from in
      AreFenced.one (max b.pos.x b.pos.x) (omega arith) (fenced s.matrix target low (max b.pos.x b.pos.x) b low_from (omega arith)) (all_fenced bots (max b.pos.x b.pos.x + 1) k.1)

  pub fills_free : (bots : List Bot) (low : ℕ) → AreLed s.matrix.resolution 1 Z low (places bots) (places bots)
      → AreFree s (acts bots (fills s.matrix target bots))
  fills_free bots low k = record { each = each_free (acts bots (fills s.matrix target bots)) bots low k; untangled = untangled (all_fenced bots low k) }

-- ---- the matrix

all_filled : (m target : Matrix) (c : Coord) (r low : ℕ) (bots : List Bot)
    → AreLed r 1 Z low (places bots) (places bots) → is_filled (acts bots (fills m target bots)) c
    ≡ (is_under (places bots) c && (is_full target c && not (is_full m c)))
all_filled m target c r low [] k = refl
all_filled m target c r low (b ∷ bots) k =
    let here = fills_one m target b.pos c k.0.high_from in
    let more = all_filled m target c r (max b.pos.x b.pos.x + 1) bots k.1 in
    (λ i. here i || more i) ∙ or_of_and (is_below b.pos c) (is_under (places bots) c) (is_full target c && not (is_full m c))

together : (under target full : Bool) → ((under && (target && not full)) || full) ≡ (full || (under && target))
together true true true = refl
together true true false = refl
together true false true = refl
together true false false = refl
together false target true = refl
together false target false = refl

nothing : (a b u : Bool) → a ≡ false → b ≡ false → false ≡ (a || (u && b))
nothing a b true e f = sym (λ i. e i || f i)
nothing a b false e f = sym (λ i. e i || false)

outside : (n : Matrix) (r : ℕ) (c : Coord) → n.resolution ≡ r → in_space r (point c) ≡ false → is_full n c ≡ false
outside n r c e o = no (in_space n.resolution (point c)) _ (ap (λ k. in_space k (point c)) e ∙ o)
  where
    no : (a b : Bool) → a ≡ false → (a && b) ≡ false
    no a b f = rw f refl

pub raised_by : (m target : Matrix) (bots : List Bot) (low : ℕ) → target.resolution ≡ m.resolution
    → AreLed m.resolution 1 Z low (places bots) (places bots)
    → IsRaised (with_fills m (acts bots (fills m target bots))) m target (is_under (places bots))
raised_by m target bots low e k = λ c. by c (in_space m.resolution (point c)) refl
  where
    by : (c : Coord) (t : Bool) → in_space m.resolution (point c) ≡ t
        → is_full (with_fills m (acts bots (fills m target bots))) c
        ≡ (is_full m c || (is_under (places bots) c && is_full target c))
    by c true i =
        full_where m.resolution (λ d. is_filled (acts bots (fills m target bots)) d || is_full m d) c (space_by_test m.resolution c i)
        ∙ ((λ j. all_filled m target c m.resolution low bots k j || is_full m c)
        ∙ together (is_under (places bots) c) (is_full target c) (is_full m c))
    by c false o =
        outside (with_fills m (acts bots (fills m target bots))) m.resolution c refl o
        ∙ nothing (is_full m c) (is_full target c) (is_under (places bots) c) (outside m m.resolution c refl o) (outside target m.resolution c e o)

-- ---- the tape

module _ (p : TapeState) (swarm : IsSwarm p) (row : InRow p) (up : 1 ≤ (spot p.bots).y) where
  pub standing : AreLed p.matrix.resolution 1 Z 1 (places p.bots) (places p.bots)
  standing = subst (λ (cs : List Coord). AreLed p.matrix.resolution 1 Z 1 cs cs) (sym row.places_are) (led_row p.matrix.resolution 1 Z (spot p.bots) (spot p.bots) row.leads row.leads (refl, refl) (omega arith) up up)

  pub bots_within : AllByRecursion (λ b. IsInSpace p.matrix.resolution b.pos × (1 ≤ b.pos.y)) p.bots
  bots_within = all p.bots 1 standing
    where
      all : (bots : List Bot) (low : ℕ) → AreLed p.matrix.resolution 1 Z low (places bots) (places bots)
          → AllByRecursion (λ b. IsInSpace p.matrix.resolution b.pos × (1 ≤ b.pos.y)) bots
      all [] low k = tt
      all (b ∷ bots) low k = ((k.0.from, k.0.high_from), all bots (max b.pos.x b.pos.x + 1) k.1)

  module _ (target : Matrix) (ks : List Command) (e : ks ≡ fills p.matrix target p.bots) where
    pub fills_are_free : AreFree (state_of p) (acts p.bots ks)
    fills_are_free = subst (λ (k : List Command). AreFree (state_of p) (acts p.bots k)) (sym e) (fills_free (state_of p) target swarm.light p.bots 1 standing)

    pub only_fills : AllByRecursion FillsOrWaits ks
    only_fills = subst (λ (k : List Command). AllByRecursion FillsOrWaits k) (sym e) (fills_wait p.matrix target p.bots)

    pub has_filled : (q : TapeState) → target.resolution ≡ p.matrix.resolution
        → AllStep p q ks (with_fills p.matrix (acts p.bots ks)) p.harmonics p.bots → Fills p q target
    has_filled q equal_by_test s = record {
      source = s.source;
      swarm = record { high = s.harmonics ∙ swarm.high; light = s.profile ∙ swarm.light };
      bots = s.bots_are;
      resolution = ap (λ (m : Matrix). m.resolution) s.matrix;
      raised = subst (λ (m : Matrix). IsRaised m p.matrix target (is_under (places p.bots))) (sym (s.matrix ∙ ap (λ (k : List Command). with_fills p.matrix (acts p.bots k)) e)) (raised_by p.matrix target p.bots 1 equal_by_test standing);
      steps = s.steps;
    }

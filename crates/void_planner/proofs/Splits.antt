-- Fission of one bot into four, and fusion into one.
use Rattle.std.proofs.Common.{◌≡◌, ℕ, ◌+◌, ◌-◌, ◌^◌, ◌<◌, refl, sym, ◌∙◌, ap, subst, inl, inr, arith, List, [], ◌∷◌, ◌++◌, true, length, lit<}
use Rattle.std.specs.Prelude.{ℤ, count_by, pos, negsuc, IsTrue}
use Rattle.std.specs.List.{Contains}
use Rattle.std.proofs.lemmas.Int.{ints}
use Rattle.vox_geom.specs.declared.coordinate.Coord.{Coord}
use Rattle.vox_geom.specs.declared.difference.Diff.{Diff}
use Rattle.vox_geom.specs.Point.{Point, point, plus, same_point, coord}
use Rattle.vox_geom.specs.Region.{just}
use Rattle.vox_geom.specs.Space.{IsInSpace, in_space}
use Rattle.vox_geom.proofs.Truths.{both_true, or_by_first}
use Rattle.vox_geom.proofs.Sums.{less_one, plus_none, plus_one}
use Rattle.vox_geom.proofs.Points.{in_space_is, point_itself}
use Rattle.nano_spec.specs.declared.commands.Command.{Command}
use Rattle.nano_spec.specs.declared.commands.Command.TheVariants.{Fission, FusionP, FusionS}
use Rattle.nano_spec.specs.declared.system.Bot.{Bot}
use Rattle.nano_spec.specs.declared.system.Harmonics.TheVariants.{High}
use Rattle.nano_spec.specs.declared.system.Profile.{Profile}
use Rattle.nano_spec.specs.Act.{Act, acts}
use Rattle.nano_spec.specs.Bots.{fused, in_rising_order, newborn, parent, successors}
use Rattle.nano_spec.specs.Group.{are_partners, fuse, is_pair}
use Rattle.nano_spec.specs.Matrix.{Matrix}
use Rattle.nano_spec.specs.Profile.{full_profile, is_allowed}
use Rattle.nano_spec.specs.State.{seed_list, seed_numbers}
use Rattle.step_order.specs.Apart.{AreBelow, LieApart, after_x, before_x}
use Rattle.step_order.specs.Unbroken.{AreFree, IsFreeWay}
use Rattle.plan_tape.specs.Crowd.{AllStep, bots_fused, bots_split}
use Rattle.plan_tape.specs.Progress.{TapeState, state_of}
use Rattle.plan_tape.specs.Fissions.{is_fission}
use Rattle.void_planner.specs.Square.{Becomes, CanStand, bot_with, four, one, two}
use Rattle.plan_tape.proofs.Fissions.{fissions_more}
use Rattle.plan_tape.proofs.ClearWays.{free_place}
use Rattle.void_planner.proofs.Corners.{point_by}

-- ---- the result of a step

pub becomes : (p q : TapeState) (k : List Command) (some bots : List Bot) (made : ℕ) → count_by is_fission k ≡ made
    → some ≡ bots → p.harmonics ≡ High → p.profile ≡ full_profile → AllStep p q k p.matrix p.harmonics some
    → Becomes p q bots made
becomes p q k some bots made n e high full s = record {
  source = s.source;
  matrix = s.matrix;
  high = s.harmonics ∙ high;
  full = s.profile ∙ full;
  bots_are = s.bots_are ∙ e;
  fissions_are = fissions_more p q k made s.added n;
  steps = s.steps;
}

-- ---- points

abbrev to : ℤ → ℤ → Diff
to dx dz = record { dx = dx; dy = pos 0; dz = dz }

-- the neighbor along x, along z, and back
beside_x : (c : Coord) → plus (point c) (to (pos 1) (pos 0)) ≡ point (coord (c.x + 1) c.y c.z)
beside_x c = point_by c (to (pos 1) (pos 0)) (coord (c.x + 1) c.y c.z) (plus_one c.x) (plus_none c.y) (plus_none c.z)

beside_z : (c : Coord) → plus (point c) (to (pos 0) (pos 1)) ≡ point (coord c.x c.y (c.z + 1))
beside_z c = point_by c (to (pos 0) (pos 1)) (coord c.x c.y (c.z + 1)) (plus_none c.x) (plus_none c.y) (plus_one c.z)

back_x : (c : Coord) → plus (point (coord (c.x + 1) c.y c.z)) (to (negsuc 0) (pos 0)) ≡ point c
back_x c = point_by (coord (c.x + 1) c.y c.z) (to (negsuc 0) (pos 0)) c (less_one c.x) (plus_none c.y) (plus_none c.z)

back_z : (c : Coord) → plus (point (coord c.x c.y (c.z + 1))) (to (pos 0) (negsuc 0)) ≡ point c
back_z c = point_by (coord c.x c.y (c.z + 1)) (to (pos 0) (negsuc 0)) c (plus_none c.x) (plus_none c.y) (less_one c.z)

-- a move within one coordinate that is in space, if all is void from its height on
free_spot : (m : Matrix) (w d : ℕ) (c q : Coord) (u : Point) → CanStand m w d c → u ≡ point q → IsInSpace m.resolution q
    → q.y ≡ c.y → IsFreeWay m u u
free_spot m w d c q u stand e i same = free_place m q u e i (λ a l. stand.above a (omega arith))

below : (a b : ℕ) → a < b → AreBelow (pos a) (pos a) (pos b) (pos b)
below a b h = record { near = omega (arith, ints); far = omega (arith, ints); next_near = omega (arith, ints); next_far = omega (arith, ints) }

-- ---- one bot becomes two

split_bots : (c q : Coord) → in_rising_order
    (parent (bot_with 1 c (2 ^ 41 - 2 ^ 2)) 1 ∷ newborn (bot_with 1 c (2 ^ 41 - 2 ^ 2)) (point q) 1 ∷ [])
    ≡ bot_with 1 c (2 ^ 41 - 2 ^ 4) ∷ bot_with 2 q (2 ^ 3) ∷ []
unfolding seed_numbers
split_bots c q = refl

many_seeds : 1 < length (seed_list (2 ^ 41 - 2 ^ 2))
unfolding seed_numbers
many_seeds = lit< tt

module _ (p : TapeState) (c : Coord) (d : Diff) (bots : p.bots ≡ one c) (full : p.profile ≡ full_profile) (stand : CanStand p.matrix 1 1 c) (ed : d ≡ to (pos 1) (pos 0)) where
  there : plus (point c) d ≡ point (coord (c.x + 1) c.y c.z)
  there = ap (plus (point c)) ed ∙ beside_x c

  pub split_free : AreFree (state_of p) (acts p.bots (Fission d 1 ∷ []))
  split_free =
      let sy = stand.y in
      let sz = stand.z in
      subst (λ (bs : List Bot). AreFree (state_of p) (acts bs (Fission d 1 ∷ []))) (sym bots) (record {
        each = (
          record {
            allowed = ap (λ (f : Profile). is_allowed f (Fission d 1)) full;
            may = (free_spot p.matrix 1 1 c (coord (c.x + 1) c.y c.z) (plus (point c) d) stand there (record { x = stand.x; y = sy; z = omega arith }) refl, many_seeds);
          },
          tt,
        );
        untangled = (tt, tt);
      })

  pub split_makes : bots_split p.bots (Fission d 1 ∷ []) ≡ two c
  split_makes = ap (λ (bs : List Bot). bots_split bs (Fission d 1 ∷ [])) bots ∙ (ap (λ (u : Point). in_rising_order (parent (bot_with 1 c (2 ^ 41 - 2 ^ 2)) 1 ∷ newborn (bot_with 1 c (2 ^ 41 - 2 ^ 2)) u 1 ∷ [])) there ∙ split_bots c (coord (c.x + 1) c.y c.z))

-- ---- two become four

split_bots_both : (c f g e : Coord) → in_rising_order (parent (bot_with 1 c (2 ^ 41 - 2 ^ 4)) 0
    ∷ newborn (bot_with 1 c (2 ^ 41 - 2 ^ 4)) (point f) 0 ∷ parent (bot_with 2 e (2 ^ 3)) 0
    ∷ newborn (bot_with 2 e (2 ^ 3)) (point g) 0 ∷ [])
    ≡ bot_with 1 c (2 ^ 41 - 2 ^ 5) ∷ bot_with 2 e 0 ∷ bot_with 3 g 0 ∷ bot_with 4 f 0 ∷ []
unfolding seed_numbers
split_bots_both c f g e = refl

some_seeds : 0 < length (seed_list (2 ^ 41 - 2 ^ 4))
unfolding seed_numbers
some_seeds = lit< tt

one_seed : 0 < length (seed_list (2 ^ 3))
unfolding seed_numbers
one_seed = lit< tt

-- regions of one coordinate, of which the first has the lesser x
before_by : (a b : Coord) (u v : Point) → u ≡ point a → v ≡ point b → a.x < b.x → LieApart (just u) (just v)
before_by a b u v e f h = subst (λ (x : Point). LieApart (just x) (just v)) (sym e) (subst (λ (y : Point). LieApart (just (point a)) (just y)) (sym f) (before_x (below a.x b.x h)))

after_by : (a b : Coord) → b.x < a.x → LieApart (just (point a)) (just (point b))
after_by a b h = after_x (below b.x a.x h)

module _ (p : TapeState) (c : Coord) (d e : Diff) (bots : p.bots ≡ two c) (full : p.profile ≡ full_profile) (stand : CanStand p.matrix 1 1 c) (ed : d ≡ to (pos 0) (pos 1)) (ee : e ≡ to (pos 0) (pos 1)) where
  rear : plus (point c) d ≡ point (coord c.x c.y (c.z + 1))
  rear = ap (plus (point c)) ed ∙ beside_z c

  rear_right : plus (point (coord (c.x + 1) c.y c.z)) e ≡ point (coord (c.x + 1) c.y (c.z + 1))
  rear_right = ap (plus (point (coord (c.x + 1) c.y c.z))) ee ∙ beside_z (coord (c.x + 1) c.y c.z)

  pub split_both_free : AreFree (state_of p) (acts p.bots (Fission d 0 ∷ Fission e 0 ∷ []))
  split_both_free =
      let sx = stand.x in
      let sy = stand.y in
      let sz = stand.z in
      let right = coord (c.x + 1) c.y c.z in
      let corner = coord c.x c.y (c.z + 1) in
      let corner_here = coord (c.x + 1) c.y (c.z + 1) in
      subst (λ (bs : List Bot). AreFree (state_of p) (acts bs (Fission d 0 ∷ Fission e 0 ∷ []))) (sym bots) (record {
        each = (
          record {
            allowed = ap (λ (f : Profile). is_allowed f (Fission d 0)) full;
            may = (free_spot p.matrix 1 1 c corner (plus (point c) d) stand rear (record { x = omega arith; y = sy; z = sz }) refl, some_seeds);
          },
          (
            record {
              allowed = ap (λ (f : Profile). is_allowed f (Fission e 0)) full;
              may = (free_spot p.matrix 1 1 c corner_here (plus (point right) e) stand rear_right (record { x = sx; y = sy; z = sz }) refl, one_seed);
            },
            tt,
          ),
        );
        untangled = (
          (
            inr (
              (before_by c right (point c) (point right) refl refl (omega arith), (before_by c corner_here (point c) (plus (point right) e) refl rear_right (omega arith), tt)),
              (
                (before_by corner right (plus (point c) d) (point right) rear refl (omega arith), (before_by corner corner_here (plus (point c) d) (plus (point right) e) rear rear_right (omega arith), tt)),
                tt,
              ),
            ),
            tt,
          ),
          (tt, tt),
        );
      })

  pub split_both_makes : bots_split p.bots (Fission d 0 ∷ Fission e 0 ∷ []) ≡ four c 1 1
  split_both_makes =
      ap (λ (bs : List Bot). bots_split bs (Fission d 0 ∷ Fission e 0 ∷ [])) bots
      ∙ ((λ i. in_rising_order (parent (bot_with 1 c (2 ^ 41 - 2 ^ 4)) 0 ∷ newborn (bot_with 1 c (2 ^ 41 - 2 ^ 4)) (rear i) 0 ∷ parent (bot_with 2 (coord (c.x + 1) c.y c.z) (2 ^ 3)) 0 ∷ newborn (bot_with 2 (coord (c.x + 1) c.y c.z) (2 ^ 3)) (rear_right i) 0 ∷ []))
      ∙ split_bots_both c (coord c.x c.y (c.z + 1)) (coord (c.x + 1) c.y (c.z + 1)) (coord (c.x + 1) c.y c.z))

-- ---- bots that fuse

-- two bots whose differences lead to each other
pair : (a b : Coord) (d e : Diff) → plus (point a) d ≡ point b → plus (point b) e ≡ point a
    → fuse (point a) (FusionP d) (point b) (FusionS e) ≡ true
pair a b d e f g = both_true (same_point (plus (point a) d) (point b)) (same_point (plus (point b) e) (point a)) (ap (λ (u : Point). same_point u (point b)) f ∙ point_itself b) (ap (λ (u : Point). same_point u (point a)) g ∙ point_itself a)

fused_two : (c e : Coord) → fused (bot_with 1 c (2 ^ 41 - 2 ^ 4)) (bot_with 2 e (2 ^ 3)) ∷ [] ≡ one c
unfolding seed_numbers
fused_two c e = refl

fused_four : (c e f g : Coord)
    → fused (bot_with 1 c (2 ^ 41 - 2 ^ 5)) (bot_with 4 f 0) ∷ fused (bot_with 2 e 0) (bot_with 3 g 0) ∷ []
    ≡ bot_with 1 c (2 ^ 41 - 2 ^ 4) ∷ bot_with 2 e (2 ^ 3) ∷ []
unfolding seed_numbers
fused_four c e f g = refl

module _ (p : TapeState) (c : Coord) (d e : Diff) (bots : p.bots ≡ two c) (full : p.profile ≡ full_profile) (stand : CanStand p.matrix 1 1 c) (ed : d ≡ to (pos 1) (pos 0)) (ee : e ≡ to (negsuc 0) (pos 0)) where
  abbrev fusion : List Act
  fusion = acts (two c) (FusionP d ∷ FusionS e ∷ [])

  abbrev pub first : Act
  first = record { bot = bot_with 1 c (2 ^ 41 - 2 ^ 4); command = FusionP d }

  abbrev pub second : Act
  second = record { bot = bot_with 2 (coord (c.x + 1) c.y c.z) (2 ^ 3); command = FusionS e }

  forth : plus (point c) d ≡ point (coord (c.x + 1) c.y c.z)
  forth = ap (plus (point c)) ed ∙ beside_x c

  back : plus (point (coord (c.x + 1) c.y c.z)) e ≡ point c
  back = ap (plus (point (coord (c.x + 1) c.y c.z))) ee ∙ back_x c

  pub fuse_pair : is_pair first second ≡ true
  fuse_pair = pair c (coord (c.x + 1) c.y c.z) d e forth back

  pub fuse_free : AreFree (state_of p) (acts p.bots (FusionP d ∷ FusionS e ∷ []))
  fuse_free =
      let sx = stand.x in
      let sy = stand.y in
      let sz = stand.z in
      subst (λ (bs : List Bot). AreFree (state_of p) (acts bs (FusionP d ∷ FusionS e ∷ []))) (sym bots) (record {
        each = (
          record {
            allowed = ap (λ (f : Profile). is_allowed f (FusionP d)) full;
            may = record { within = ap (in_space p.matrix.resolution) forth ∙ in_space_is p.matrix.resolution (coord (c.x + 1) c.y c.z) (record { x = sx; y = sy; z = omega arith }); other = second; here = (1, lit< tt, refl); partners = or_by_first (is_pair first second) (is_pair second first) fuse_pair };
          },
          (
            record {
              allowed = ap (λ (f : Profile). is_allowed f (FusionS e)) full;
              may = record { within = ap (in_space p.matrix.resolution) back ∙ in_space_is p.matrix.resolution c (record { x = omega arith; y = sy; z = omega arith }); other = first; here = (0, lit< tt, refl); partners = fuse_pair };
            },
            tt,
          ),
        );
        untangled = ((inl (or_by_first (is_pair first second) (is_pair second first) fuse_pair), tt), (tt, tt));
      })

  pub fuse_makes : successors fusion first (FusionP d) ≡ fused first.bot second.bot ∷ []
      → bots_fused p.bots (FusionP d ∷ FusionS e ∷ []) ≡ one c
  fuse_makes h = ap (λ (bs : List Bot). bots_fused bs (FusionP d ∷ FusionS e ∷ [])) bots ∙ ((λ i. h i ++ []) ∙ fused_two c (coord (c.x + 1) c.y c.z))

-- ---- four become two

module _ (p : TapeState) (c : Coord) (d e f g : Diff) (bots : p.bots ≡ four c 1 1) (full : p.profile ≡ full_profile) (stand : CanStand p.matrix 1 1 c) (ed : d ≡ to (pos 0) (pos 1)) (ee : e ≡ to (pos 0) (pos 1)) (ef : f ≡ to (pos 0) (negsuc 0)) (eg : g ≡ to (pos 0) (negsuc 0)) where
  abbrev commands : List Command
  commands = FusionP d ∷ FusionP e ∷ FusionS f ∷ FusionS g ∷ []

  abbrev fusions : List Act
  fusions = acts (four c 1 1) commands

  abbrev right : Coord
  right = coord (c.x + 1) c.y c.z

  abbrev behind_right : Coord
  behind_right = coord (c.x + 1) c.y (c.z + 1)

  abbrev behind : Coord
  behind = coord c.x c.y (c.z + 1)

  abbrev pub one_of_four : Act
  one_of_four = record { bot = bot_with 1 c (2 ^ 41 - 2 ^ 5); command = FusionP d }

  abbrev pub two_of_four : Act
  two_of_four = record { bot = bot_with 2 right 0; command = FusionP e }

  abbrev pub three_of_four : Act
  three_of_four = record { bot = bot_with 3 behind_right 0; command = FusionS f }

  abbrev pub four_of_four : Act
  four_of_four = record { bot = bot_with 4 behind 0; command = FusionS g }

  left_forth : plus (point c) d ≡ point behind
  left_forth = ap (plus (point c)) ed ∙ beside_z c

  left_back : plus (point behind) g ≡ point c
  left_back = ap (plus (point behind)) eg ∙ back_z c

  right_forth : plus (point right) e ≡ point behind_right
  right_forth = ap (plus (point right)) ee ∙ beside_z right

  right_back : plus (point behind_right) f ≡ point right
  right_back = ap (plus (point behind_right)) ef ∙ back_z right

  pub left_pair : is_pair one_of_four four_of_four ≡ true
  left_pair = pair c behind d g left_forth left_back

  pub right_pair : is_pair two_of_four three_of_four ≡ true
  right_pair = pair right behind_right e f right_forth right_back

  stays_in : (u : Point) (q : Coord) → u ≡ point q → IsInSpace p.matrix.resolution q
      → IsTrue (in_space p.matrix.resolution u)
  stays_in u q e i = ap (in_space p.matrix.resolution) e ∙ in_space_is p.matrix.resolution q i

  joined : (a b : Act) → is_pair a b ≡ true → are_partners a b ≡ true
  joined a b h = or_by_first (is_pair a b) (is_pair b a) h

  pub fuse_both_free : AreFree (state_of p) (acts p.bots commands)
  fuse_both_free =
      let sx = stand.x in
      let sy = stand.y in
      let sz = stand.z in
      subst (λ (bs : List Bot). AreFree (state_of p) (acts bs commands)) (sym bots) (record {
        each = (
          record {
            allowed = ap (λ (k : Profile). is_allowed k (FusionP d)) full;
            may = record { within = stays_in (plus (point c) d) behind left_forth (record { x = omega arith; y = sy; z = sz }); other = four_of_four; here = (3, lit< tt, refl); partners = joined one_of_four four_of_four left_pair };
          },
          (
            record {
              allowed = ap (λ (k : Profile). is_allowed k (FusionP e)) full;
              may = record { within = stays_in (plus (point right) e) behind_right right_forth (record { x = sx; y = sy; z = sz }); other = three_of_four; here = (2, lit< tt, refl); partners = joined two_of_four three_of_four right_pair };
            },
            (
              record {
                allowed = ap (λ (k : Profile). is_allowed k (FusionS f)) full;
                may = record { within = stays_in (plus (point behind_right) f) right right_back (record { x = sx; y = sy; z = omega arith }); other = two_of_four; here = (1, lit< tt, refl); partners = right_pair };
              },
              (
                record {
                  allowed = ap (λ (k : Profile). is_allowed k (FusionS g)) full;
                  may = record { within = stays_in (plus (point behind) g) c left_back (record { x = omega arith; y = sy; z = omega arith }); other = one_of_four; here = (0, lit< tt, refl); partners = left_pair };
                },
                tt,
              ),
            ),
          ),
        );
        untangled = (
          (inr ((before_by c right (point c) (point right) refl refl (omega arith), tt), tt), (inr ((before_by c behind_right (point c) (point behind_right) refl refl (omega arith), tt), tt), (inl (joined one_of_four four_of_four left_pair), tt))),
          (
            (inl (joined two_of_four three_of_four right_pair), (inr ((after_by right behind (omega arith), tt), tt), tt)),
            (
              (inr ((after_by behind_right behind (omega arith), tt), tt), tt),
              (tt, tt),
            ),
          ),
        );
      })

  pub fuse_both_makes : successors fusions one_of_four (FusionP d) ≡ fused one_of_four.bot four_of_four.bot ∷ []
      → successors fusions two_of_four (FusionP e) ≡ fused two_of_four.bot three_of_four.bot ∷ []
      → bots_fused p.bots commands ≡ two c
  fuse_both_makes h k = ap (λ (bs : List Bot). bots_fused bs commands) bots ∙ ((λ i. h i ++ (k i ++ [])) ∙ fused_four c right behind behind_right)

-- ---- facts of the acts of known bots

pub contains_as : (bs cs : List Bot) (k : List Command) (a : Act) → bs ≡ cs → Contains (acts cs k) a
    → Contains (acts bs k) a
contains_as bs cs k a e h = subst (λ (xs : List Bot). Contains (acts xs k) a) (sym e) h

pub successors_as : (bs cs : List Bot) (k : List Command) (a : Act) (bots : List Bot) → bs ≡ cs
    → successors (acts bs k) a a.command ≡ bots → successors (acts cs k) a a.command ≡ bots
successors_as bs cs k a bots e h = subst (λ (xs : List Bot). successors (acts xs k) a a.command ≡ bots) e h

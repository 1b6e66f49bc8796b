-- Four bots above the corners of a tile are one group that voids it.
use Rattle.std.proofs.Common.{◌≡◌, ℕ, ◌+◌, ◌-◌, ◌^◌, ◌<◌, ◌≤◌, refl, sym, ◌∙◌, ap, subst, arith, List, [], ◌∷◌, Bool, true, false, ◌&&◌, ◌||◌}
use Rattle.std.specs.Prelude.{ℤ, pos, negsuc, neg_ℤ, ◌+ℤ◌}
use Rattle.std.specs.List.{AllByRecursion}
use Rattle.std.proofs.lemmas.Bool.Decides.{nat_tests}
use Rattle.std.proofs.lemmas.Int.{ints}
use Rattle.vox_geom.specs.declared.coordinate.Coord.{Coord}
use Rattle.vox_geom.specs.declared.difference.Diff.{Diff}
use Rattle.vox_geom.specs.Point.{Point, point, plus, same_number, same_point, coord}
use Rattle.vox_geom.specs.Region.{between, differs, dimension, is_between, is_within, same_extent, same_region}
use Rattle.vox_geom.specs.Space.{IsInSpace}
use Rattle.vox_geom.proofs.Truths.{no_first_of_three, no_second_of_three, three_true}
use Rattle.vox_geom.proofs.Sums.{plus_none}
use Rattle.vox_geom.proofs.Points.{in_space_is}
use Rattle.nano_spec.specs.declared.commands.Command.{Command}
use Rattle.nano_spec.specs.declared.commands.Command.TheVariants.{GVoid}
use Rattle.nano_spec.specs.declared.system.Bot.{Bot}
use Rattle.nano_spec.specs.declared.system.Harmonics.TheVariants.{High}
use Rattle.nano_spec.specs.declared.system.Profile.{Profile}
use Rattle.nano_spec.specs.Act.{Act, acts}
use Rattle.nano_spec.specs.Matrix.{Matrix}
use Rattle.nano_spec.specs.Profile.{full_profile, is_allowed}
use Rattle.nano_spec.specs.Rules.{repeats}
use Rattle.step_order.specs.Acting.{with_region}
use Rattle.step_order.specs.Unbroken.{AreOneGroup, IsCornered, IsMember}
use Rattle.plan_tape.specs.Crowd.{AllStep, CanPaintAll}
use Rattle.plan_tape.specs.Progress.{TapeState, spot, state_of}
use Rattle.void_planner.specs.Square.{CanStand, FourVoid, bot_with, four}
use Rattle.void_planner.specs.Tiles.{tile}
use Rattle.plan_tape.proofs.Fissions.{fissions_more}
use Rattle.void_planner.proofs.Regions.{region_fewer}

abbrev act : Bot → Command → Act
act b k = record { bot = b; command = k }

-- ---- one member

-- a bot above a corner of the tile, with the corner and the one across
record IsAbove (r far : ℕ) (t : Coord) (p : Coord) (a o : Coord) : Type 0 where
  near : IsInSpace r a
  across : IsInSpace r o
  same : same_region (between (point a) (point o)) (tile far t) ≡ true
  outside : is_within (tile far t) (point p) ≡ false

member : (p : TapeState) (b : Bot) (n f : Diff) (far : ℕ) (t a o : Coord) → p.profile ≡ full_profile
    → plus (point b.pos) n ≡ point a → plus (point a) f ≡ point o → IsAbove p.matrix.resolution far t b.pos a o
    → IsMember (state_of p) (tile far t) false (act b (GVoid n f))
member p b n f far t a o full e g h = record {
  allowed = ap (λ (k : Profile). is_allowed k (GVoid n f)) full;
  joins =
      subst (λ (u : Point). IsCornered p.matrix.resolution (tile far t) (point b.pos) u (plus u f)) (sym e)
      (subst (λ (v : Point). IsCornered p.matrix.resolution (tile far t) (point b.pos) (point a) v) (sym g)
      (record { near_within = in_space_is p.matrix.resolution a h.near; far_within = in_space_is p.matrix.resolution o h.across; same = h.same; outside = h.outside }));
}

straight : (a b : ℕ) → same_extent (pos a) (pos b) (pos a) (pos b) ≡ true
straight a b = grind (arith, nat_tests)

crossed : (a b : ℕ) → same_extent (pos b) (pos a) (pos a) (pos b) ≡ true
crossed a b = grind (arith, nat_tests)

not_between : (y v : ℕ) → v ≡ y + 1 → is_between (pos y) (pos y) (pos v) ≡ false
not_between y v h = grind (arith, nat_tests)

above_tile : (far : ℕ) (t p : Coord) → p.y ≡ t.y + 1 → is_within (tile far t) (point p) ≡ false
above_tile far t p h = no_second_of_three (is_between (pos t.x) (pos (t.x + far)) (pos p.x)) (is_between (pos t.y) (pos t.y) (pos p.y)) (is_between (pos t.z) (pos (t.z + far)) (pos p.z)) (not_between t.y p.y h)

-- ---- the shape

differ_by : (x far : ℕ) → 1 ≤ far → differs (pos x) (pos (x + far)) ≡ 1
differ_by x far h = grind (arith, nat_tests)

differ_not : (y : ℕ) → differs (pos y) (pos y) ≡ 0
differ_not y = grind (arith, nat_tests)

four_corners : (far : ℕ) (t : Coord) → 1 ≤ far → 4 ≡ 2 ^ dimension (tile far t)
four_corners far t h =
    let differs_one_x = differ_by t.x far h in
    let differ_not_here_y = differ_not t.y in
    let differs_one_z = differ_by t.z far h in
    sym (λ i. 2 ^ (differs_one_x i + differ_not_here_y i + differs_one_z i))

unlike : (a b : ℕ) → a + 1 ≤ b → same_number (pos a) (pos b) ≡ false
unlike a b h = grind (arith, nat_tests)

unlike_back : (a b : ℕ) → a + 1 ≤ b → same_number (pos b) (pos a) ≡ false
unlike_back a b h = grind (arith, nat_tests)

not_third : (a b d : Bool) → d ≡ false → (a && b && d) ≡ false
not_third true true d e = e
not_third true false d e = refl
not_third false b d e = refl

other_x : (a b : Coord) → same_number (pos a.x) (pos b.x) ≡ false → same_point (point a) (point b) ≡ false
other_x a b e = no_first_of_three (same_number (pos a.x) (pos b.x)) (same_number (pos a.y) (pos b.y)) (same_number (pos a.z) (pos b.z)) e

other_z : (a b : Coord) → same_number (pos a.z) (pos b.z) ≡ false → same_point (point a) (point b) ≡ false
other_z a b e = not_third (same_number (pos a.x) (pos b.x)) (same_number (pos a.y) (pos b.y)) (same_number (pos a.z) (pos b.z)) e

none_repeats : (a b d e f g : Bool) → a ≡ false → b ≡ false → d ≡ false → e ≡ false → f ≡ false → g ≡ false
    → ((a || (b || (d || false))) || ((e || (f || false)) || ((g || false) || (false || false)))) ≡ false
none_repeats a b d e f g ea eb ed ee ef eg = rw (ea, eb, ed, ee, ef, eg) refl

corners_differ : (far x y z : ℕ) → 1 ≤ far → repeats (point (coord x y z) ∷ point (coord (x + far) y z)
    ∷ point (coord (x + far) y (z + far)) ∷ point (coord x y (z + far)) ∷ []) ≡ false
corners_differ far x y z h =
    let first_corner = coord x y z in
    let second_corner = coord (x + far) y z in
    let third_corner = coord (x + far) y (z + far) in
    let fourth_corner = coord x y (z + far) in
    none_repeats (same_point (point first_corner) (point second_corner)) (same_point (point first_corner) (point third_corner)) (same_point (point first_corner) (point fourth_corner)) (same_point (point second_corner) (point third_corner)) (same_point (point second_corner) (point fourth_corner)) (same_point (point third_corner) (point fourth_corner))
    (other_x first_corner second_corner (unlike x (x + far) (omega arith)))
    (other_x first_corner third_corner (unlike x (x + far) (omega arith)))
    (other_z first_corner fourth_corner (unlike z (z + far) (omega arith)))
    (other_z second_corner third_corner (unlike z (z + far) (omega arith)))
    (other_x second_corner fourth_corner (unlike_back x (x + far) (omega arith)))
    (other_x third_corner fourth_corner (unlike_back x (x + far) (omega arith)))

-- ---- the four

pub point_by : (b : Coord) (e : Diff) (q : Coord) → pos b.x +ℤ e.dx ≡ pos q.x → pos b.y +ℤ e.dy ≡ pos q.y
    → pos b.z +ℤ e.dz ≡ pos q.z → plus (point b) e ≡ point q
point_by b e q x y z = λ i. record { x = x i; y = y i; z = z i }

by_down : (a b : ℕ) → a ≡ b + 1 → pos a +ℤ negsuc 0 ≡ pos b
by_down a b h = omega (arith, ints)

by_back : (a far : ℕ) → pos (a + far) +ℤ neg_ℤ (pos far) ≡ pos a
by_back a far = omega (arith, ints)

-- the difference to the voxel below
abbrev pub down : Diff
down = record { dx = pos 0; dy = negsuc 0; dz = pos 0 }

-- the difference to the corner across
abbrev pub over : ℤ → ℤ → Diff
over dx dz = record { dx = dx; dy = pos 0; dz = dz }

below : (b : Coord) (y : ℕ) (n : Diff) → n ≡ down → b.y ≡ y + 1 → plus (point b) n ≡ point (coord b.x y b.z)
below b y n e h = ap (plus (point b)) e ∙ point_by b down (coord b.x y b.z) (plus_none b.x) (by_down b.y y h) (plus_none b.z)

module _ (p : TapeState) (far x y z : ℕ) (k l m o f g h j : Diff) (full : p.profile ≡ full_profile) (some : 1 ≤ far) (wide : x + far < p.matrix.resolution) (high : y < p.matrix.resolution) (deep : z + far < p.matrix.resolution) (ek : k ≡ down) (el : l ≡ down) (em : m ≡ down) (eo : o ≡ down) (ef : f ≡ over (pos far) (pos far)) (eg : g ≡ over (neg_ℤ (pos far)) (pos far)) (eh : h ≡ over (neg_ℤ (pos far)) (neg_ℤ (pos far))) (ej : j ≡ over (pos far) (neg_ℤ (pos far))) where
  abbrev low : Coord
  low = coord x y z

  abbrev commands : List Command
  commands = GVoid k f ∷ GVoid l g ∷ GVoid m h ∷ GVoid o j ∷ []

  abbrev s : Coord
  s = coord x (y + 1) z

  near_first : IsInSpace p.matrix.resolution (coord x y z)
  near_first = record { x = omega arith; y = high; z = omega arith }

  near_second : IsInSpace p.matrix.resolution (coord (x + far) y z)
  near_second = record { x = wide; y = high; z = omega arith }

  near_third : IsInSpace p.matrix.resolution (coord (x + far) y (z + far))
  near_third = record { x = wide; y = high; z = deep }

  near_fourth : IsInSpace p.matrix.resolution (coord x y (z + far))
  near_fourth = record { x = omega arith; y = high; z = deep }

  members : AllByRecursion (IsMember (state_of p) (tile far low) false) (acts (four s far far) commands)
  members = (
    member p (bot_with 1 s (2 ^ 41 - 2 ^ 5)) k f far low (coord x y z) (coord (x + far) y (z + far)) full (below s y k ek refl) (ap (plus (point (coord x y z))) ef ∙ point_by (coord x y z) (over (pos far) (pos far)) (coord (x + far) y (z + far)) refl (plus_none y) refl)
        (record { near = near_first; across = near_third; same = three_true _ _ _ (straight x (x + far)) (straight y y) (straight z (z + far)); outside = above_tile far low s refl }),
    (
      member p (bot_with 2 (coord (x + far) (y + 1) z) 0) l g far low (coord (x + far) y z) (coord x y (z + far)) full (below (coord (x + far) (y + 1) z) y l el refl) (ap (plus (point (coord (x + far) y z))) eg ∙ point_by (coord (x + far) y z) (over (neg_ℤ (pos far)) (pos far)) (coord x y (z + far)) (by_back x far) (plus_none y) refl)
          (record { near = near_second; across = near_fourth; same = three_true _ _ _ (crossed x (x + far)) (straight y y) (straight z (z + far)); outside = above_tile far low (coord (x + far) (y + 1) z) refl }),
      (
        member p (bot_with 3 (coord (x + far) (y + 1) (z + far)) 0) m h far low (coord (x + far) y (z + far)) (coord x y z) full (below (coord (x + far) (y + 1) (z + far)) y m em refl) (ap (plus (point (coord (x + far) y (z + far)))) eh ∙ point_by (coord (x + far) y (z + far)) (over (neg_ℤ (pos far)) (neg_ℤ (pos far))) (coord x y z) (by_back x far) (plus_none y) (by_back z far))
            (record { near = near_third; across = near_first; same = three_true _ _ _ (crossed x (x + far)) (straight y y) (crossed z (z + far)); outside = above_tile far low (coord (x + far) (y + 1) (z + far)) refl }),
        (
          member p (bot_with 4 (coord x (y + 1) (z + far)) 0) o j far low (coord x y (z + far)) (coord (x + far) y z) full (below (coord x (y + 1) (z + far)) y o eo refl) (ap (plus (point (coord x y (z + far)))) ej ∙ point_by (coord x y (z + far)) (over (pos far) (neg_ℤ (pos far))) (coord (x + far) y z) refl (plus_none y) (by_back z far))
              (record { near = near_fourth; across = near_second; same = three_true _ _ _ (straight x (x + far)) (straight y y) (crossed z (z + far)); outside = above_tile far low (coord x (y + 1) (z + far)) refl }),
          tt,
        ),
      ),
    ),
  )

  apart :
      repeats (plus (point s) k ∷ plus (point (coord (x + far) (y + 1) z)) l ∷ plus (point (coord (x + far) (y + 1) (z + far))) m ∷ plus (point (coord x (y + 1) (z + far))) o ∷ [])
      ≡ false
  apart =
      (λ i. repeats (below s y k ek refl i ∷ below (coord (x + far) (y + 1) z) y l el refl i ∷ below (coord (x + far) (y + 1) (z + far)) y m em refl i ∷ below (coord x (y + 1) (z + far)) y o eo refl i ∷ []))
      ∙ corners_differ far x y z some

  group : AreOneGroup (state_of p) (tile far low) false (acts (four s far far) commands)
  group = record { each = members; many = four_corners far low some; corners = apart }

  module _ (bots : p.bots ≡ four s far far) where
    pub voids_together : AreOneGroup (state_of p) (tile far low) false (acts p.bots commands)
    voids_together = subst (λ (bs : List Bot). AreOneGroup (state_of p) (tile far low) false (acts bs commands)) (sym bots) group

    pub can_void : CanPaintAll p commands
    can_void = record { region = tile far low; full = false; group = voids_together }

    pub voided_together : (q : TapeState) → p.harmonics ≡ High → CanStand p.matrix far far s
        → AllStep p q commands (with_region p.matrix (tile far low) false) p.harmonics p.bots
        → FourVoid p q far (tile far low) (with_region p.matrix (tile far low) false)
    voided_together q high stand w =
        let all : q.bots ≡ four s far far = w.bots_are ∙ bots in
        let there : spot q.bots ≡ s = ap spot all in
        record {
          source = w.source;
          matrix = w.matrix;
          rectangle = record {
            bots_are = all ∙ ap (λ (at : Coord). four at far far) (sym there);
            high = w.harmonics ∙ high;
            full = w.profile ∙ full;
            wide = some;
            deep = some;
            stand =
                subst (λ (at : Coord). CanStand q.matrix far far at) (sym there)
                (subst (λ (m : Matrix). CanStand m far far s) (sym w.matrix)
                (record { x = stand.x; y = stand.y; z = stand.z; above = λ c l. region_fewer p.matrix (tile far low) c (stand.above c l) }));
          };
          there = there ∙ sym (ap spot bots);
          fissions_are = let more_fissions = fissions_more p q commands 0 w.added refl in omega arith;
          steps = w.steps;
        }

-- Steps in which both of the pair fill or void the voxels below them and between.
use Rattle.std.proofs.Common.{◌≡◌, ℕ, ◌+◌, ◌-◌, ◌*◌, ◌^◌, ◌<◌, ◌≤◌, refl, sym, ◌∙◌, ap, subst, arith, Bool, true, false, ◌&&◌, ◌||◌, List, [], ◌∷◌, length, lit≤}
use Rattle.std.specs.Prelude.{IsTrue, IsFalse, ℤ, pos, ◌-ℤ◌, count_by, flat_map}
use Rattle.std.proofs.lemmas.Bool.Decides.{nat_tests}
use Rattle.vox_geom.specs.declared.coordinate.Coord.{Coord}
use Rattle.vox_geom.specs.Point.{Point, point, plus, same_number, coord, down}
use Rattle.vox_geom.specs.Region.{Span, between, dimension, is_between, is_within, same_region}
use Rattle.vox_geom.proofs.Points.{in_space_is, number_itself}
use Rattle.nano_spec.specs.declared.commands.Command.{Command}
use Rattle.nano_spec.specs.declared.system.Bot.{Bot}
use Rattle.nano_spec.specs.Act.{Act, acts, position}
use Rattle.nano_spec.specs.Matrix.{Matrix}
use Rattle.nano_spec.specs.Profile.{full_profile, is_allowed}
use Rattle.nano_spec.specs.Rules.{corners_of, repeats}
use Rattle.nano_spec.specs.Spelling.{spellings}
use Rattle.step_order.specs.Acting.{with_region}
use Rattle.step_order.specs.Unbroken.{AreOneGroup, IsCornered, MayJoin}
use Rattle.plan_tape.specs.Crowd.{AllStep, CanPaintAll}
use Rattle.plan_tape.specs.Fissions.{is_fission}
use Rattle.plan_tape.specs.Progress.{TapeState, spot, state_of}
use Rattle.group_planner.specs.Pair.{AreSet, IsPair, Sets, front, in_part, rear, second_spot}
use Rattle.group_planner.specs.Writing.{ahead, all_below}
use Rattle.group_planner.proofs.Pairs.{all_allowed, both_bots, spends, still_one}
use Rattle.group_planner.proofs.Written.{across, below, set_region, still_free}

-- ---- the region below both bots

others : (a b : ℕ) → a < b → same_number (pos a) (pos b) ≡ false
others a b h = grind (arith, nat_tests)

flat_above : (y v : ℕ) → y < v → is_between (pos y) (pos y) (pos v) ≡ false
flat_above y v h = grind (arith, nat_tests)

abbrev region : ℕ → ℕ → ℕ → ℕ → Span
region x y a b = between (point (coord x y a)) (point (coord x y b))

-- it has two corners
two_corners : (x y a b : ℕ) → a < b → 2 ≡ 2 ^ dimension (region x y a b)
two_corners x y a b h = rw (number_itself x, number_itself y, others a b h) refl

same_as_it : (x y a b : ℕ) → IsTrue (same_region (region x y a b) (region x y a b))
same_as_it x y a b = rw (number_itself x, number_itself y, number_itself a, number_itself b) refl

same_turned : (x y a b : ℕ) → IsTrue (same_region (region x y b a) (region x y a b))
same_turned x y a b = rw (number_itself x, number_itself y, number_itself a, number_itself b) (or_true (same_number (pos b) (pos a) && same_number (pos a) (pos b)))
  where
    or_true : (t : Bool) → (t || true) ≡ true
    or_true true = refl
    or_true false = refl

-- the bot above is outside the region
outside : (x y a b : ℕ) (c : Coord) → y < c.y → IsFalse (is_within (region x y a b) (point c))
outside x y a b c h = by (is_between (pos x) (pos x) (pos c.x)) (is_between (pos a) (pos b) (pos c.z)) (flat_above y c.y h)
  where
    by : (s u : Bool) → is_between (pos y) (pos y) (pos c.y) ≡ false
        → (s && is_between (pos y) (pos y) (pos c.y) && u) ≡ false
    by true u e = rw e refl
    by false u e = refl

-- no corner occurs twice
no_twice : (x y a b : ℕ) → a < b → repeats (point (coord x y a) ∷ point (coord x y b) ∷ []) ≡ false
no_twice x y a b h = rw (number_itself x, number_itself y, others a b h) refl

no_twice_at : (x y a b : ℕ) (p q : Point) → a < b → p ≡ point (coord x y a) → q ≡ point (coord x y b)
    → repeats (p ∷ q ∷ []) ≡ false
no_twice_at x y a b p q h e f = subst (λ (u : Point). repeats (u ∷ q ∷ []) ≡ false) (sym e) (subst (λ (u : Point). repeats (point (coord x y a) ∷ u ∷ []) ≡ false) (sym f) (no_twice x y a b h))

-- ---- the commands

-- the facts of both commands that write together with the other bot
record Together (k : Command) (full : Bool) (z : ℤ) : Type 0 where
  allowed : IsTrue (is_allowed full_profile k)
  joins : (r : ℕ) (s : Span) (p : Point) → IsCornered r s p (plus p down) (plus (plus p down) (ahead z))
      → MayJoin r s full p k
  corner : (p : Point) → corners_of p k ≡ plus p down ∷ []

together : (full : Bool) (z : ℤ) → Together (all_below full z) full z
together true z = record { allowed = refl; joins = λ r s p h. h; corner = λ p. refl }
together false z = record { allowed = refl; joins = λ r s p h. h; corner = λ p. refl }

few : (full : Bool) (y z : ℤ) → length (spellings (all_below full y ∷ all_below full z ∷ [])) ≤ 4 + 4 * 1
few true y z = lit≤ tt
few false y z = lit≤ tt

unsplit : (full : Bool) (y z : ℤ) → count_by is_fission (all_below full y ∷ all_below full z ∷ []) ≡ 0
unsplit true y z = refl
unsplit false y z = refl

-- a bot at one end, whose command leads to the other
cornered : (r x y a b : ℕ) (c : Coord) (s : Span) → c.x ≡ x → c.y ≡ y → c.z ≡ a → 1 ≤ y → x < r → y < r → a < r → b < r
    → IsTrue (same_region (region x (y - 1) a b) s) → IsFalse (is_within s (point c))
    → IsCornered r s (point c) (plus (point c) down) (plus (plus (point c) down) (ahead (pos b -ℤ pos a)))
cornered r x y a b c s ex ey ez h lx ly la lb same out =
    let here : c ≡ coord x y a = (λ i. record { x = ex i; y = ey i; z = ez i }) in
    let near : plus (point c) down ≡ point (coord x (y - 1) a) = ap (λ (d : Coord). plus (point d) down) here ∙ below (coord x y a) h in
    let far : plus (plus (point c) down) (ahead (pos b -ℤ pos a)) ≡ point (coord x (y - 1) b) = ap (λ (q : Point). plus q (ahead (pos b -ℤ pos a))) near ∙ across x (y - 1) a b in
    subst (λ (q : Point). IsCornered r s (point c) (plus (point c) down) q) (sym far) (subst (λ (q : Point). IsCornered r s (point c) q (point (coord x (y - 1) b))) (sym near)
    (record {
      near_within = in_space_is r (coord x (y - 1) a) (record { x = lx; y = omega arith; z = la });
      far_within = in_space_is r (coord x (y - 1) b) (record { x = lx; y = omega arith; z = lb });
      same = same;
      outside = out;
    }))

module _ (p : TapeState) (full : Bool) (k l : Command) (first last : ℕ) (h : IsPair p) (above : 1 ≤ (rear p).y) (ef : first ≡ (rear p).z) (el : last ≡ (front p).z) (ek : k ≡ all_below full (pos last -ℤ pos first)) (er : l ≡ all_below full (pos first -ℤ pos last)) where
  abbrev below_both : Span
  below_both = region (rear p).x ((rear p).y - 1) first last

  rear_how : Together k full (pos last -ℤ pos first)
  rear_how = subst (λ (c : Command). Together c full (pos last -ℤ pos first)) (sym ek) (together full (pos last -ℤ pos first))

  front_how : Together l full (pos first -ℤ pos last)
  front_how = subst (λ (c : Command). Together c full (pos first -ℤ pos last)) (sym er) (together full (pos first -ℤ pos last))

  in_order : first < last
  in_order = let order = h.in_row.order in omega arith

  pub one_group : AreOneGroup (state_of p) below_both full (acts p.bots (k ∷ l ∷ []))
  one_group =
      let both = both_bots p.bots h.two in
      let its_first = both.first in
      let second = both.second in
      let resolution = p.matrix.resolution in
      let x = (rear p).x in
      let y = (rear p).y in
      let ra = ap (λ (c : Coord). c.x) both.rear_is in
      let rb = ap (λ (c : Coord). c.y) both.rear_is in
      let rc = ap (λ (c : Coord). c.z) both.rear_is in
      let fa = ap (λ (c : Coord). c.x) both.front_is in
      let fb = ap (λ (c : Coord). c.y) both.front_is in
      let fc = ap (λ (c : Coord). c.z) both.front_is in
      let ordered = in_order in
      let lz : last < resolution = (let in_row_z = h.in_row.z in omega arith) in
      let rear_together = rear_how in
      let front_together = front_how in
      let sx = h.in_row.same_x in
      let sy = h.in_row.same_y in
      subst (λ (bots : List Bot). AreOneGroup (state_of p) below_both full (acts bots (k ∷ l ∷ []))) (sym both.are) (record {
        each = (
          record { allowed = all_allowed p.profile k h.full rear_together.allowed; joins = rear_together.joins resolution below_both (point its_first.pos) (cornered resolution x y first last its_first.pos below_both (sym ra) (sym rb) (sym rc ∙ sym ef) above h.in_row.x h.in_row.y (omega arith) lz (same_as_it x (y - 1) first last) (outside x (y - 1) first last its_first.pos (omega arith))) },
          (record { allowed = all_allowed p.profile l h.full front_together.allowed; joins = front_together.joins resolution below_both (point second.pos) (cornered resolution x y last first second.pos below_both (sym fa ∙ sx) (sym fb ∙ sy) (sym fc ∙ sym el) above h.in_row.x h.in_row.y lz (omega arith) (same_turned x (y - 1) first last) (outside x (y - 1) first last second.pos (omega arith))) }, tt),
        );
        many = two_corners x (y - 1) first last ordered;
        corners = corners_differ its_first second both.rear_is both.front_is;
      })
    where
      corners_differ : (a b : Bot) → rear p ≡ a.pos → front p ≡ b.pos → IsFalse
          (repeats (flat_map (λ (c : Act). corners_of (position c) c.command) (acts (a ∷ b ∷ []) (k ∷ l ∷ []))))
      corners_differ a b ra rb =
          let rear_together = rear_how in
          let front_together = front_how in
          let sx = h.in_row.same_x in
          let sy = h.in_row.same_y in
          let na : plus (point a.pos) down ≡ point (coord (rear p).x ((rear p).y - 1) first) = ap (λ (c : Coord). plus (point c) down) (sym ra) ∙ (below (rear p) above ∙ ap (λ z. point (coord (rear p).x ((rear p).y - 1) z)) (sym ef)) in
          let nb : plus (point b.pos) down ≡ point (coord (rear p).x ((rear p).y - 1) last) = ap (λ (c : Coord). plus (point c) down) (sym rb) ∙ (below (front p) (omega arith) ∙ (λ i. point (coord (sx i) (sy i - 1) (sym el i)))) in
          rw (rear_together.corner (point a.pos), front_together.corner (point b.pos)) (no_twice_at (rear p).x ((rear p).y - 1) first last (plus (point a.pos) down) (plus (point b.pos) down) in_order na nb)

  pub can_paint : CanPaintAll p (k ∷ l ∷ [])
  can_paint = record { region = below_both; full = full; group = one_group }

  pub wrote_both : (q : TapeState) → AllStep p q (k ∷ l ∷ []) (with_region p.matrix below_both full) p.harmonics p.bots
      → Sets p q (rear p).x ((rear p).y - 1) (rear p).z ((front p).z + 1) full (rear p) (front p) 1 1
  wrote_both q s =
      let matrix_resolution = p.matrix.resolution in
      let in_row_y = h.in_row.y in
      let ordered = in_order in
      let lz : last < matrix_resolution = (let in_row_z = h.in_row.z in omega arith) in
      let rear_is : rear q ≡ rear p = ap spot s.bots_are in
      let front_is : front q ≡ front p = ap second_spot s.bots_are in
      let same : q.matrix.resolution ≡ matrix_resolution = ap (λ (m : Matrix). m.resolution) s.matrix in
      let set = set_region p.matrix (rear p).x ((rear p).y - 1) first last full h.in_row.x (omega arith) lz (omega arith) in
      let set_as = subst (λ (m : Matrix). AreSet m p.matrix (in_part (rear p).x ((rear p).y - 1) first (last + 1)) full) (sym s.matrix) set in
      let all : AreSet q.matrix p.matrix (in_part (rear p).x ((rear p).y - 1) (rear p).z ((front p).z + 1)) full = subst (λ a. AreSet q.matrix p.matrix (in_part (rear p).x ((rear p).y - 1) a ((front p).z + 1)) full) ef (subst (λ b. AreSet q.matrix p.matrix (in_part (rear p).x ((rear p).y - 1) first (b + 1)) full) el set_as) in
      record {
        source = s.source;
        resolution = same;
        set = all;
        pair = record {
          two = ap length s.bots_are ∙ h.two;
          one_split = still_one p q k l h s.added (subst (λ (c : Command). count_by is_fission (c ∷ l ∷ []) ≡ 0) (sym ek) (subst (λ (c : Command). count_by is_fission (all_below full (pos last -ℤ pos first) ∷ c ∷ []) ≡ 0) (sym er) (unsplit full (pos last -ℤ pos first) (pos first -ℤ pos last))));
          high = s.harmonics ∙ h.high;
          full = s.profile ∙ h.full;
          in_row = rw (same, rear_is, front_is) h.in_row;
          free = rw rear_is (still_free q.matrix p.matrix (rear p).x ((rear p).y - 1) (rear p).z ((front p).z + 1) full (rear p).y all (omega arith) h.free);
        };
        rear_is = rear_is;
        front_is = front_is;
        steps_are = omega (arith, s.steps);
        spends = spends p q k l _ p.bots 1 s (subst (λ (c : Command). length (spellings (c ∷ l ∷ [])) ≤ 4 + 4 * 1) (sym ek) (subst (λ (c : Command). length (spellings (all_below full (pos last -ℤ pos first) ∷ c ∷ [])) ≤ 4 + 4 * 1) (sym er) (few full (pos last -ℤ pos first) (pos first -ℤ pos last))));
      }

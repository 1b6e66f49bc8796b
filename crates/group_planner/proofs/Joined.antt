-- One bot becomes two, and two become one.
use Rattle.std.proofs.Common.{◌≡◌, ℕ, ◌+◌, ◌<◌, refl, sym, ◌∙◌, ap, subst, arith, true, ◌||◌, List, [], ◌∷◌, length, length-append, lit<, inl, nat_lt}
use Rattle.std.specs.Prelude.{IsTrue, IsFalse, pos, negsuc, Option, Some, None, slice_index, find}
use Rattle.std.specs.List.{AllByRecursion}
use Rattle.vox_geom.specs.declared.coordinate.Coord.{Coord}
use Rattle.vox_geom.specs.declared.difference.Diff.{Diff}
use Rattle.vox_geom.specs.Point.{Point, point, plus, same_point, coord}
use Rattle.vox_geom.specs.Space.{IsInSpace, coordinate, in_space}
use Rattle.vox_geom.proofs.Truths.{both_true, or_by_second}
use Rattle.vox_geom.proofs.Sums.{less_one, plus_none, plus_one}
use Rattle.vox_geom.proofs.Points.{in_space_is, point_itself}
use Rattle.nano_spec.specs.declared.commands.Command.TheVariants.{Fission, FusionP, FusionS}
use Rattle.nano_spec.specs.declared.system.Bot.{Bot}
use Rattle.nano_spec.specs.declared.system.Harmonics.TheVariants.{High}
use Rattle.nano_spec.specs.Act.{Act, acts, is_flip}
use Rattle.nano_spec.specs.Bots.{bots_after, newborn, parent, after_fusion}
use Rattle.nano_spec.specs.Group.{are_partners, is_pair}
use Rattle.nano_spec.specs.Profile.{full_profile}
use Rattle.nano_spec.specs.State.{first_bot, seed_list, seed_numbers}
use Rattle.nano_spec.specs.Step.{after}
use Rattle.step_order.specs.Acting.{leaves_voxels}
use Rattle.step_order.specs.Unbroken.{AreFree}
use Rattle.plan_tape.specs.Fissions.{fissions}
use Rattle.plan_tape.specs.Progress.{TapeState, spot, state_of, IsVoidFrom}
use Rattle.plan_tape.proofs.Fissions.{fissions_more}
use Rattle.plan_tape.proofs.ClearWays.{free_place}
use Rattle.group_planner.specs.Pair.{IsPair, front, rear, second_spot}
use Rattle.group_planner.specs.Phases.{PairJoins, Splits, first_at}
use Rattle.plan_tape.specs.Crowd.{AreCalm, CalmStep}
use Rattle.group_planner.specs.Writing.{ahead}
use Rattle.group_planner.proofs.Pairs.{all_allowed, both_bots, front_within, rear_within, still_one}

next_is : (c : Coord) → plus (point c) (ahead (pos 1)) ≡ point (coord c.x c.y (c.z + 1))
next_is c = λ i. record { x = plus_none c.x i; y = plus_none c.y i; z = plus_one c.z i }

last_is : (x y z : ℕ) → plus (point (coord x y (z + 1))) (ahead (negsuc 0)) ≡ point (coord x y z)
last_is x y z = λ i. record { x = plus_none x i; y = plus_none y i; z = less_one z i }

-- ---- the single bot splits

seeds_enough : 0 < length (seed_list (first_bot full_profile).seeds)
unfolding seed_numbers
seeds_enough = lit< tt

bids_rise : nat_lt 1 (slice_index (seed_list (first_bot full_profile).seeds) 0) ≡ true
unfolding seed_numbers
bids_rise = refl

abbrev bot_at : Coord → Bot
bot_at c = record { bid = 1; pos = c; seeds = (first_bot full_profile).seeds }

module _ (p : TapeState) (d : Diff) (e : d ≡ ahead (pos 1)) (alone : p.bots ≡ first_at (spot p.bots)) (full : p.profile ≡ full_profile) (room : (spot p.bots).z + 1 < p.matrix.resolution) (within : IsInSpace p.matrix.resolution (spot p.bots)) (free : IsVoidFrom p.matrix (spot p.bots).y) where
  abbrev beside : Coord
  beside = coord (spot p.bots).x (spot p.bots).y ((spot p.bots).z + 1)

  leads : plus (point (spot p.bots)) d ≡ point beside
  leads = ap (plus (point (spot p.bots))) e ∙ next_is (spot p.bots)

  pub split_calm : AreCalm p (Fission d 0 ∷ [])
  split_calm = record {
    free = subst (λ (bots : List Bot). AreFree (state_of p) (acts bots (Fission d 0 ∷ []))) (sym alone) (record {
      each = (record { allowed = all_allowed p.profile (Fission d 0) full refl; may = (free_place p.matrix beside _ leads (record { x = within.x; y = within.y; z = room }) free, seeds_enough) }, tt);
      untangled = (tt, tt);
    });
    calm = subst (λ (bots : List Bot). AllByRecursion (λ x. IsFalse (is_flip x.command)) (acts bots (Fission d 0 ∷ []))) (sym alone) (refl, tt);
  }

  two_bots : bots_after (acts (first_at (spot p.bots)) (Fission d 0 ∷ []))
      ≡ parent (bot_at (spot p.bots)) 0 ∷ newborn (bot_at (spot p.bots)) (plus (point (spot p.bots)) d) 0 ∷ []
  two_bots = rw bids_rise refl

  pub split_stays : AllByRecursion (λ x. IsTrue (leaves_voxels x.command)) (acts p.bots (Fission d 0 ∷ []))
  split_stays = subst (λ (bots : List Bot). AllByRecursion (λ x. IsTrue (leaves_voxels x.command)) (acts bots (Fission d 0 ∷ []))) (sym alone) (refl, tt)

  pub has_split : (q : TapeState) → fissions p ≡ 0 → p.harmonics ≡ High → CalmStep p q (Fission d 0 ∷ [])
      → (after (state_of p) (Fission d 0 ∷ [])).matrix ≡ p.matrix → Splits p q
  has_split q none high s m =
      let bots : q.bots ≡ parent (bot_at (spot p.bots)) 0 ∷ newborn (bot_at (spot p.bots)) (plus (point (spot p.bots)) d) 0 ∷ [] = s.bots_are ∙ (ap (λ (bs : List Bot). bots_after (acts bs (Fission d 0 ∷ []))) alone ∙ two_bots) in
      let rear_is : rear q ≡ spot p.bots = ap spot bots in
      let front_is : front q ≡ beside = ap second_spot bots ∙ ap coordinate leads in
      let matrix = s.matrix ∙ m in
      let added = ap length s.added ∙ length-append p.commands (Fission d 0 ∷ []) in
      record {
        source = s.source;
        matrix = matrix;
        pair = record {
          two = ap length bots;
          one_split = let more = fissions_more p q (Fission d 0 ∷ []) 1 s.added refl in omega (arith, more, none);
          high = s.harmonics ∙ high;
          full = s.profile ∙ full;
          in_row = rw (matrix, rear_is, front_is) (record { x = within.x; y = within.y; z = room; same_x = refl; same_y = refl; order = omega arith });
          free = rw (matrix, rear_is) free;
        };
        rear_is = rear_is;
        steps_are = s.steps;
        spends = let steps = s.steps in let few = s.bytes_are in record { commands_are = omega (arith, added, steps); bytes_are = omega (arith, steps, few) };
      }

-- ---- the pair joins

-- the result of the fusion is at the primary's position
stays_there : (bot : Bot) (partner : Option Act) → (after_fusion bot partner).pos ≡ bot.pos
stays_there bot None = refl
stays_there bot (Some partner) = refl

module _ (p : TapeState) (d e : Diff) (ed : d ≡ ahead (pos 1)) (ee : e ≡ ahead (negsuc 0)) (h : IsPair p) (beside : (front p).z ≡ (rear p).z + 1) where
  front_is_next : front p ≡ coord (rear p).x (rear p).y ((rear p).z + 1)
  front_is_next = λ i. record { x = h.in_row.same_x i; y = h.in_row.same_y i; z = beside i }

  to_front : plus (point (rear p)) d ≡ point (front p)
  to_front = ap (plus (point (rear p))) ed ∙ (next_is (rear p) ∙ ap point (sym front_is_next))

  to_rear : plus (point (front p)) e ≡ point (rear p)
  to_rear = ap (plus (point (front p))) ee ∙ (ap (λ (c : Coord). plus (point c) (ahead (negsuc 0))) front_is_next ∙ last_is (rear p).x (rear p).y (rear p).z)

  abbrev first_act : Bot → Act
  first_act a = record { bot = a; command = FusionP d }

  abbrev second_act : Bot → Act
  second_act b = record { bot = b; command = FusionS e }

  pair_up : (a b : Bot) → rear p ≡ a.pos → front p ≡ b.pos → is_pair (first_act a) (second_act b) ≡ true
  pair_up a b ra rb =
      let to_b : plus (point a.pos) d ≡ point b.pos = ap (λ (c : Coord). plus (point c) d) (sym ra) ∙ (to_front ∙ ap point rb) in
      let to_a : plus (point b.pos) e ≡ point a.pos = ap (λ (c : Coord). plus (point c) e) (sym rb) ∙ (to_rear ∙ ap point ra) in
      both_true (same_point (plus (point a.pos) d) (point b.pos)) (same_point (plus (point b.pos) e) (point a.pos)) (ap (λ (q : Point). same_point q (point b.pos)) to_b ∙ point_itself b.pos) (ap (λ (q : Point). same_point q (point a.pos)) to_a ∙ point_itself a.pos)

  pub join_calm : AreCalm p (FusionP d ∷ FusionS e ∷ [])
  join_calm =
      let both = both_bots p.bots h.two in
      let first = both.first in
      let second = both.second in
      let resolution = p.matrix.resolution in
      let up = pair_up first second both.rear_is both.front_is in
      let all = acts (first ∷ second ∷ []) (FusionP d ∷ FusionS e ∷ []) in
      let in_rear : IsTrue (in_space resolution (plus (point second.pos) e)) = ap (λ (q : Point). in_space resolution q) (ap (λ (c : Coord). plus (point c) e) (sym both.front_is) ∙ to_rear) ∙ in_space_is resolution (rear p) (rear_within resolution (rear p) (front p) h.in_row) in
      let in_front : IsTrue (in_space resolution (plus (point first.pos) d)) = ap (λ (q : Point). in_space resolution q) (ap (λ (c : Coord). plus (point c) d) (sym both.rear_is) ∙ to_front) ∙ in_space_is resolution (front p) (front_within resolution (rear p) (front p) h.in_row) in
      let partners : are_partners (first_act first) (second_act second) ≡ true = ap (λ u. u || is_pair (second_act second) (first_act first)) up in
      let turned : are_partners (second_act second) (first_act first) ≡ true = or_by_second (is_pair (second_act second) (first_act first)) (is_pair (first_act first) (second_act second)) up in
      record {
        free = subst (λ (bots : List Bot). AreFree (state_of p) (acts bots (FusionP d ∷ FusionS e ∷ []))) (sym both.are) (record {
          each = (
            record { allowed = all_allowed p.profile (FusionP d) h.full refl; may = record { within = in_front; other = second_act second; here = (1, lit< tt, refl); partners = partners } },
            (record { allowed = all_allowed p.profile (FusionS e) h.full refl; may = record { within = in_rear; other = first_act first; here = (0, lit< tt, refl); partners = turned } }, tt),
          );
          untangled = ((inl partners, tt), (tt, tt));
        });
        calm = subst (λ (bots : List Bot). AllByRecursion (λ x. IsFalse (is_flip x.command)) (acts bots (FusionP d ∷ FusionS e ∷ []))) (sym both.are) (refl, (refl, tt));
      }

  pub join_stays : AllByRecursion (λ x. IsTrue (leaves_voxels x.command)) (acts p.bots (FusionP d ∷ FusionS e ∷ []))
  join_stays = let both = both_bots p.bots h.two in subst (λ (bots : List Bot). AllByRecursion (λ x. IsTrue (leaves_voxels x.command)) (acts bots (FusionP d ∷ FusionS e ∷ []))) (sym both.are) (refl, (refl, tt))

  pub has_joined : (q : TapeState) → CalmStep p q (FusionP d ∷ FusionS e ∷ [])
      → (after (state_of p) (FusionP d ∷ FusionS e ∷ [])).matrix ≡ p.matrix → PairJoins p q (rear p) 1
  has_joined q s m =
      let both = both_bots p.bots h.two in
      let first = both.first in
      let second = both.second in
      let all = acts (first ∷ second ∷ []) (FusionP d ∷ FusionS e ∷ []) in
      let bots : q.bots ≡ bots_after all = s.bots_are ∙ ap (λ (bs : List Bot). bots_after (acts bs (FusionP d ∷ FusionS e ∷ []))) both.are in
      let added = ap length s.added ∙ length-append p.commands (FusionP d ∷ FusionS e ∷ []) in
      record {
        source = s.source;
        matrix = s.matrix ∙ m;
        profile = s.profile ∙ h.full;
        harmonics = s.harmonics ∙ h.high;
        alone = ap length bots;
        one_split = still_one p q (FusionP d) (FusionS e) h s.added refl;
        there = ap spot bots ∙ (stays_there first (find (is_pair (first_act first)) all) ∙ sym both.rear_is);
        steps_are = omega (arith, s.steps);
        spends = let steps = s.steps in let few = s.bytes_are in record { commands_are = omega (arith, added, steps); bytes_are = omega (arith, steps, few) };
      }

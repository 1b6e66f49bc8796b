-- Steps in which one of the pair writes the voxel below it, and the other waits.
use Rattle.std.proofs.Common.{◌≡◌, ℕ, ◌+◌, ◌-◌, ◌<◌, ◌≤◌, refl, sym, ◌∙◌, ap, subst, arith, Bool, true, false, cond, not, ◌&&◌, ◌||◌, List, [], ◌∷◌, length, lit≤, inr}
use Rattle.std.specs.Prelude.{IsTrue, IsFalse, count_by}
use Rattle.std.specs.List.{AllByRecursion, list_any}
use Rattle.vox_geom.specs.declared.coordinate.Coord.{Coord}
use Rattle.vox_geom.specs.Point.{Point, point, plus, coord, down}
use Rattle.vox_geom.specs.Region.{Span, is_within, just}
use Rattle.vox_geom.specs.Space.{IsInSpace, in_space}
use Rattle.vox_geom.proofs.Points.{in_space_is}
use Rattle.nano_spec.specs.declared.commands.Command.{Command}
use Rattle.nano_spec.specs.declared.commands.Command.TheVariants.{Wait}
use Rattle.nano_spec.specs.declared.system.Bot.{Bot}
use Rattle.nano_spec.specs.Act.{Act, acts, filled, is_flip, position, voided}
use Rattle.nano_spec.specs.Matrix.{Matrix, is_full}
use Rattle.nano_spec.specs.Profile.{full_profile, is_allowed}
use Rattle.nano_spec.specs.Spelling.{spellings}
use Rattle.nano_spec.specs.State.{State}
use Rattle.nano_spec.specs.Step.{after, is_filled, is_voided}
use Rattle.nano_spec.specs.Volatile.{volatile_regions}
use Rattle.step_order.specs.Acting.{goal_of, stays_one}
use Rattle.step_order.specs.Apart.{LieApart}
use Rattle.step_order.specs.Unbroken.{AreFree, MayAct}
use Rattle.plan_tape.specs.Crowd.{AreCalm, CalmStep, AllStep, bots_gone}
use Rattle.plan_tape.specs.Fissions.{is_fission}
use Rattle.plan_tape.specs.Progress.{TapeState, spot, state_of}
use Rattle.group_planner.specs.Pair.{AreSet, IsPair, Sets, front, in_part, rear, second_spot}
use Rattle.group_planner.specs.Writing.{one_below}
use Rattle.group_planner.proofs.Pairs.{all_allowed, apart_z, both_bots, front_within, rear_within, spends, still_one, there}
use Rattle.group_planner.proofs.Written.{below, set_by, still_free}

-- the facts of both commands that write the voxel below
record Writer (k : Command) (full : Bool) : Type 0 where
  allowed : IsTrue (is_allowed full_profile k)
  may : (s : State) (all : List Act) (a : Act) → IsTrue (in_space s.matrix.resolution (plus (position a) down))
      → MayAct s all a k
  stays : IsTrue (stays_one k)
  goal : (p : Point) → goal_of p k ≡ p
  calm : IsFalse (is_flip k)
  volatile : (p : Point) → volatile_regions p k ≡ just p ∷ just (plus p down) ∷ []
  few_first : length (spellings (k ∷ Wait ∷ [])) ≤ 4
  few_last : length (spellings (Wait ∷ k ∷ [])) ≤ 4
  unsplit_first : count_by is_fission (k ∷ Wait ∷ []) ≡ 0
  unsplit_last : count_by is_fission (Wait ∷ k ∷ []) ≡ 0
  marks : (p c : Point) (old : Bool) → ((list_any (λ s. is_within s c) (filled p k) || false)
      || (old && not (list_any (λ s. is_within s c) (voided p k) || false)))
      ≡ cond (is_within (just (plus p down)) c) full old

fills : (t old : Bool) → (((t || false) || false) || (old && not (false || false))) ≡ cond t true old
fills true old = refl
fills false true = refl
fills false false = refl

voids : (t old : Bool) → ((false || false) || (old && not ((t || false) || false))) ≡ cond t false old
voids true true = refl
voids true false = refl
voids false true = refl
voids false false = refl

writer : (full : Bool) → Writer (one_below full) full
writer true = record { allowed = refl; may = λ s all a h. h; stays = refl; goal = λ p. refl; calm = refl; volatile = λ p. refl; few_first = lit≤ tt; few_last = lit≤ tt; unsplit_first = refl; unsplit_last = refl; marks = λ p c old. fills (is_within (just (plus p down)) c) old }
writer false = record { allowed = refl; may = λ s all a h. h; stays = refl; goal = λ p. refl; calm = refl; volatile = λ p. refl; few_first = lit≤ tt; few_last = lit≤ tt; unsplit_first = refl; unsplit_last = refl; marks = λ p c old. voids (is_within (just (plus p down)) c) old }

-- the voxel below is in space
below_within : (r : ℕ) (a : Coord) → IsInSpace r a → 1 ≤ a.y → IsTrue (in_space r (plus (point a) down))
below_within r a i h = let along_y = i.y in subst (λ (q : Point). IsTrue (in_space r q)) (sym (below a h)) (in_space_is r (coord a.x (a.y - 1) a.z) (record { x = i.x; y = omega arith; z = i.z }))

-- a bot that waits and one that writes the voxel below it, disjoint in z
writes_apart : (k : Command) (full : Bool) (a b : Coord) → Writer k full → 1 ≤ a.y → a.z < b.z
    → AllByRecursion (λ s. AllByRecursion (λ t. LieApart s t) (just (point b) ∷ [])) (volatile_regions (point a) k)
writes_apart k full a b w h l =
    subst (λ (ss : List Span). AllByRecursion (λ s. AllByRecursion (λ t. LieApart s t) (just (point b) ∷ [])) ss) (sym (w.volatile (point a)))
    ((apart_z a a b b l l l l, tt), ((subst (λ (q : Point). LieApart (just q) (just (point b))) (sym (below a h)) (apart_z (coord a.x (a.y - 1) a.z) (coord a.x (a.y - 1) a.z) b b l l l l), tt), tt))

waits_apart : (k : Command) (full : Bool) (a b : Coord) → Writer k full → 1 ≤ b.y → a.z < b.z
    → AllByRecursion (λ s. AllByRecursion (λ t. LieApart s t) (volatile_regions (point b) k)) (just (point a) ∷ [])
waits_apart k full a b w h l = (
  subst (λ (ts : List Span). AllByRecursion (λ t. LieApart (just (point a)) t) ts) (sym (w.volatile (point b)))
      (apart_z a a b b l l l l, (subst (λ (q : Point). LieApart (just (point a)) (just q)) (sym (below b h)) (apart_z a a (coord b.x (b.y - 1) b.z) (coord b.x (b.y - 1) b.z) l l l l), tt)),
  tt,
)

module _ (p : TapeState) (k : Command) (full : Bool) (e : k ≡ one_below full) (h : IsPair p) (above : 1 ≤ (rear p).y) where
  how : Writer k full
  how = subst (λ (l : Command). Writer l full) (sym e) (writer full)

  above_too : 1 ≤ (front p).y
  above_too = subst (λ y. 1 ≤ y) (sym h.in_row.same_y) above

  order : (a b : Coord) → rear p ≡ a → front p ≡ b → a.z < b.z
  order a b ea eb = subst (λ (c : Coord). c.z < b.z) ea (subst (λ (c : Coord). (rear p).z < c.z) eb h.in_row.order)

  pub rear_calm : AreCalm p (k ∷ Wait ∷ [])
  rear_calm =
      let both = both_bots p.bots h.two in
      let first = both.first in
      let second = both.second in
      let how_it_writes = how in
      let order_here = order first.pos second.pos both.rear_is both.front_is in
      let is_in_space : IsInSpace p.matrix.resolution first.pos = subst (IsInSpace p.matrix.resolution) both.rear_is (rear_within p.matrix.resolution (rear p) (front p) h.in_row) in
      let some_y : 1 ≤ first.pos.y = subst (λ (c : Coord). 1 ≤ c.y) both.rear_is above in
      record {
        free = subst (λ (bots : List Bot). AreFree (state_of p) (acts bots (k ∷ Wait ∷ []))) (sym both.are) (record {
          each = (record { allowed = all_allowed p.profile k h.full how_it_writes.allowed; may = how_it_writes.may (state_of p) (acts (first ∷ second ∷ []) (k ∷ Wait ∷ [])) (record { bot = first; command = k }) (below_within p.matrix.resolution first.pos is_in_space some_y) }, (record { allowed = all_allowed p.profile Wait h.full refl; may = tt }, tt));
          untangled = ((inr (writes_apart k full first.pos second.pos how_it_writes some_y order_here), tt), (tt, tt));
        });
        calm = subst (λ (bots : List Bot). AllByRecursion (λ x. IsFalse (is_flip x.command)) (acts bots (k ∷ Wait ∷ []))) (sym both.are) (how_it_writes.calm, (refl, tt));
      }

  pub front_calm : AreCalm p (Wait ∷ k ∷ [])
  front_calm =
      let both = both_bots p.bots h.two in
      let first = both.first in
      let second = both.second in
      let how_it_writes = how in
      let order_here = order first.pos second.pos both.rear_is both.front_is in
      let is_in_space : IsInSpace p.matrix.resolution second.pos = subst (IsInSpace p.matrix.resolution) both.front_is (front_within p.matrix.resolution (rear p) (front p) h.in_row) in
      let some_y : 1 ≤ second.pos.y = subst (λ (c : Coord). 1 ≤ c.y) both.front_is above_too in
      record {
        free = subst (λ (bots : List Bot). AreFree (state_of p) (acts bots (Wait ∷ k ∷ []))) (sym both.are) (record {
          each = (record { allowed = all_allowed p.profile Wait h.full refl; may = tt }, (record { allowed = all_allowed p.profile k h.full how_it_writes.allowed; may = how_it_writes.may (state_of p) (acts (first ∷ second ∷ []) (Wait ∷ k ∷ [])) (record { bot = second; command = k }) (below_within p.matrix.resolution second.pos is_in_space some_y) }, tt));
          untangled = ((inr (waits_apart k full first.pos second.pos how_it_writes some_y order_here), tt), (tt, tt));
        });
        calm = subst (λ (bots : List Bot). AllByRecursion (λ x. IsFalse (is_flip x.command)) (acts bots (Wait ∷ k ∷ []))) (sym both.are) (refl, (how_it_writes.calm, tt));
      }

  -- each bot stays one
  pub rear_stays : AllByRecursion (λ x. IsTrue (stays_one x.command)) (acts p.bots (k ∷ Wait ∷ []))
  rear_stays = let both = both_bots p.bots h.two in let how_it_writes = how in subst (λ (bots : List Bot). AllByRecursion (λ x. IsTrue (stays_one x.command)) (acts bots (k ∷ Wait ∷ []))) (sym both.are) (how_it_writes.stays, (refl, tt))

  pub front_stays : AllByRecursion (λ x. IsTrue (stays_one x.command)) (acts p.bots (Wait ∷ k ∷ []))
  front_stays = let both = both_bots p.bots h.two in let how_it_writes = how in subst (λ (bots : List Bot). AllByRecursion (λ x. IsTrue (stays_one x.command)) (acts bots (Wait ∷ k ∷ []))) (sym both.are) (refl, (how_it_writes.stays, tt))

  -- the voxel below one of the bots, in a matrix given by the commands' Fills and Voids
  set_below : (n : Matrix) (c : Coord) → (c.x ≡ (rear p).x) → (c.y ≡ (rear p).y) → IsInSpace p.matrix.resolution c
      → n.resolution ≡ p.matrix.resolution → ((d : Coord) → IsInSpace p.matrix.resolution d
      → is_full n d ≡ cond (is_within (just (plus (point c) down)) (point d)) full (is_full p.matrix d))
      → AreSet n p.matrix (in_part (rear p).x ((rear p).y - 1) c.z (c.z + 1)) full
  set_below n c ex ey i er f =
      let some_y : 1 ≤ c.y = subst (λ y. 1 ≤ y) (sym ey) above in
      let along_y = i.y in
      let here : AreSet n p.matrix (in_part c.x (c.y - 1) c.z (c.z + 1)) full = set_by n p.matrix c.x (c.y - 1) c.z c.z full er i.x (omega arith) i.z (omega arith) (λ d j. f d j ∙ ap (λ (q : Point). cond (is_within (just q) (point d)) full (is_full p.matrix d)) (below c some_y)) in
      subst (λ x. AreSet n p.matrix (in_part x ((rear p).y - 1) c.z (c.z + 1)) full) ex (subst (λ v. AreSet n p.matrix (in_part c.x (v - 1) c.z (c.z + 1)) full) ey here)

  -- the pair after either step
  pub wrote_one : (q : TapeState) (l r : Command) (z : ℕ)
      → AllStep p q (l ∷ r ∷ []) q.matrix p.harmonics (bots_gone p.bots (l ∷ r ∷ []))
      → goal_of (point (rear p)) l ≡ point (rear p) → goal_of (point (front p)) r ≡ point (front p)
      → length (spellings (l ∷ r ∷ [])) ≤ 4 → count_by is_fission (l ∷ r ∷ []) ≡ 0
      → q.matrix.resolution ≡ p.matrix.resolution
      → AreSet q.matrix p.matrix (in_part (rear p).x ((rear p).y - 1) z (z + 1)) full
      → Sets p q (rear p).x ((rear p).y - 1) z (z + 1) full (rear p) (front p) 1 0
  wrote_one q l r z s el er few none res set =
      let at = there p l r (rear p) (front p) h el er in
      let rear_is : rear q ≡ rear p = ap spot s.bots_are ∙ at.0 in
      let front_is : front q ≡ front p = ap second_spot s.bots_are ∙ at.1 in
      record {
        source = s.source;
        resolution = res;
        set = set;
        pair = record {
          two = ap length s.bots_are ∙ at.2;
          one_split = still_one p q l r h s.added none;
          high = s.harmonics ∙ h.high;
          full = s.profile ∙ h.full;
          in_row = rw (res, rear_is, front_is) h.in_row;
          free = rw rear_is (still_free q.matrix p.matrix (rear p).x ((rear p).y - 1) z (z + 1) full (rear p).y set (omega arith) h.free);
        };
        rear_is = rear_is;
        front_is = front_is;
        steps_are = omega (arith, s.steps);
        spends = spends p q l r q.matrix _ 0 s (omega (arith, few));
      }

  calm_bots : (q : TapeState) (l r : Command) → CalmStep p q (l ∷ r ∷ [])
      → (after (state_of p) (l ∷ r ∷ [])).bots ≡ bots_gone p.bots (l ∷ r ∷ [])
      → AllStep p q (l ∷ r ∷ []) q.matrix p.harmonics (bots_gone p.bots (l ∷ r ∷ []))
  calm_bots q l r s e = record { source = s.source; profile = s.profile; added = s.added; matrix = refl; harmonics = s.harmonics; bots_are = s.bots_are ∙ e; energy = s.energy; steps = s.steps; bytes_are = s.bytes_are }

  -- after the step all is as in these laws
  abbrev Voxels : Command → Command → Type 0
  Voxels l r = (d : Coord) → IsInSpace p.matrix.resolution d → is_full (after (state_of p) (l ∷ r ∷ [])).matrix d ≡ (is_filled (acts p.bots (l ∷ r ∷ [])) d || (is_full p.matrix d && not (is_voided (acts p.bots (l ∷ r ∷ [])) d)))

  pub rear_wrote : (q : TapeState) → CalmStep p q (k ∷ Wait ∷ [])
      → (after (state_of p) (k ∷ Wait ∷ [])).bots ≡ bots_gone p.bots (k ∷ Wait ∷ []) → Voxels k Wait
      → Sets p q (rear p).x ((rear p).y - 1) (rear p).z ((rear p).z + 1) full (rear p) (front p) 1 0
  rear_wrote q s e v =
      let both = both_bots p.bots h.two in
      let how_it_writes = how in
      let same = ap (λ (m : Matrix). m.resolution) s.matrix in
      wrote_one q k Wait (rear p).z (calm_bots q k Wait s e) (how_it_writes.goal (point (rear p))) refl how_it_writes.few_first how_it_writes.unsplit_first same
      (set_below q.matrix (rear p) refl refl (rear_within p.matrix.resolution (rear p) (front p) h.in_row) same (λ d i.
      ap (λ (m : Matrix). is_full m d) s.matrix
      ∙ (v d i
      ∙ (ap (λ (bots : List Bot). is_filled (acts bots (k ∷ Wait ∷ [])) d || (is_full p.matrix d && not (is_voided (acts bots (k ∷ Wait ∷ [])) d))) both.are
      ∙ (how_it_writes.marks (point both.first.pos) (point d) (is_full p.matrix d)
      ∙ ap (λ (c : Coord). cond (is_within (just (plus (point c) down)) (point d)) full (is_full p.matrix d)) (sym both.rear_is))))))

  pub front_wrote : (q : TapeState) → CalmStep p q (Wait ∷ k ∷ [])
      → (after (state_of p) (Wait ∷ k ∷ [])).bots ≡ bots_gone p.bots (Wait ∷ k ∷ []) → Voxels Wait k
      → Sets p q (rear p).x ((rear p).y - 1) (front p).z ((front p).z + 1) full (rear p) (front p) 1 0
  front_wrote q s e v =
      let both = both_bots p.bots h.two in
      let how_it_writes = how in
      let same = ap (λ (m : Matrix). m.resolution) s.matrix in
      wrote_one q Wait k (front p).z (calm_bots q Wait k s e) refl (how_it_writes.goal (point (front p))) how_it_writes.few_last how_it_writes.unsplit_last same
      (set_below q.matrix (front p) h.in_row.same_x h.in_row.same_y (front_within p.matrix.resolution (rear p) (front p) h.in_row) same (λ d i.
      ap (λ (m : Matrix). is_full m d) s.matrix
      ∙ (v d i
      ∙ (ap (λ (bots : List Bot). is_filled (acts bots (Wait ∷ k ∷ [])) d || (is_full p.matrix d && not (is_voided (acts bots (Wait ∷ k ∷ [])) d))) both.are
      ∙ (how_it_writes.marks (point both.second.pos) (point d) (is_full p.matrix d)
      ∙ ap (λ (c : Coord). cond (is_within (just (plus (point c) down)) (point d)) full (is_full p.matrix d)) (sym both.front_is))))))

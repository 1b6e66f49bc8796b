-- The turn of a group is possible, and has the definition's effect of the group.
use Rattle.std.proofs.Common.{rules, ◌≡◌, ℕ, ◌+◌, ◌<◌, ◌≤◌, refl, sym, ◌∙◌, ap, subst, arith, inl, inr, ◌⊎◌, List, [], ◌∷◌, ◌++◌, Bool, true, false, cond, ◌&&◌, ◌||◌, ◌==◌, map, not, length, pos}
use Rattle.std.specs.Prelude.{Some, None, Option, nat_lt, filter, find, flat_map, option_map, unwrap_or, IsSome, slice_index_or, ◌+ℤ◌, ℤ}
use Rattle.std.specs.List.{list_all, list_any}
use Rattle.std.proofs.lemmas.Int.{ints}
use Rattle.std.proofs.lemmas.List.Concat.{flat_map_single}
use Rattle.vox_geom.specs.declared.coordinate.Coord.{Coord}
use Rattle.vox_geom.specs.declared.difference.Diff.{Diff}
use Rattle.vox_geom.specs.Difference.{is_near}
use Rattle.vox_geom.specs.Point.{Point, point, plus}
use Rattle.vox_geom.specs.Region.{between, is_within, Span}
use Rattle.vox_geom.specs.Space.{IsInSpace, coordinate, in_space}
use Rattle.vox_geom.proofs.Truths.{false_by, first_of_two, one_of_two, or_by_first, or_false, same_truth}
use Rattle.vox_geom.proofs.Tests.{not_at_most_by_test}
use Rattle.nano_spec.specs.declared.commands.Command.{Command}
use Rattle.nano_spec.specs.declared.commands.Command.TheVariants.{Halt, SMove, LMove, FusionP, FusionS, Fission, GFill, GVoid}
use Rattle.nano_spec.specs.declared.system.Bot.{Bot}
use Rattle.nano_spec.specs.Act.{Act, filled, is_flip, is_fusion, named_points, position, voided}
use Rattle.nano_spec.specs.Bots.{fused, in_rising_order, moved, newborn, successors, after_fusion}
use Rattle.nano_spec.specs.Command.{is_command}
use Rattle.nano_spec.specs.Energy.{group_cost, groups_cost, total}
use Rattle.nano_spec.specs.Group.{are_partners, are_together, fuse, is_pair, leaders, members, share_region}
use Rattle.nano_spec.specs.Matrix.{is_full, matrix_where}
use Rattle.nano_spec.specs.Rules.{lacks_seeds}
use Rattle.nano_spec.specs.Serial.{after_group, bot_in, group_in, keeps_rules}
use Rattle.nano_spec.specs.State.{State, seed_list}
use Rattle.nano_spec.specs.Step.{harmonics_after, is_filled, is_voided, matrix_after}
use Rattle.bot_crew.specs.Crew.{bot_of, replaced}
use Rattle.bot_crew.proofs.Heirs.{found_in}
use Rattle.step_groups.specs.Judging.{is_alone}
use Rattle.step_order.proofs.Ends.{near_away, region_on, space_is}
use Rattle.step_order.proofs.Facts.{IsGood, Rising}
use Rattle.step_order.proofs.Groups.{Differ, differ_acts, differ_filter, one_leader}
use Rattle.step_order.proofs.Lists.{In, any_in, flat_same, in_any, in_filter, map_in}
use Rattle.step_order.proofs.Together.{share_back, with_itself}
use Rattle.step_order.proofs.Acted.{harmonics_stay}
use Rattle.system_state.specs.Effects.{MayTake, Needs, after_turn, bots_after_turn, with_partner}
use Rattle.system_state.proofs.Bots.{alone_bots, replaced_itself}
use Rattle.system_state.proofs.Members.{alone_is, couple, is_group, leader_in, shared}
use Rattle.system_state.proofs.Meeting.{at_most_one, found, free_for, halts_alone, is_met, is_there, nobody, seeded, some_of, stays}
use Rattle.step_groups.specs.Deeds.{deed_by}
use Rattle.step_groups.specs.Groups.{bid_of}

-- ---- kinds of commands

-- a bot acts alone, in a fusion, or in a group command
kind : (c : Command) → (is_alone c ≡ true) ⊎ ((is_fusion c ≡ true) ⊎ (is_group c ≡ true))
kind (FusionP d) = inr (inl refl)
kind (FusionS d) = inr (inl refl)
kind (GFill d f) = inr (inr refl)
kind (GVoid d f) = inr (inr refl)
kind c = inl refl

no_work : (p : Point) (c : Command) → is_fusion c ≡ true → (filled p c ≡ []) × (voided p c ≡ [])
no_work p (FusionP d) h = (refl, refl)
no_work p (FusionS d) h = (refl, refl)
no_work p c h = cc

fuse_second : (p : Point) (c : Command) (q : Point) (e : Command) → fuse p c q e ≡ true → is_fusion e ≡ true
fuse_second p (FusionP d) q (FusionS e) h = refl
fuse_second p (FusionP d) q e h = cc
fuse_second p c q e h = cc

fuse_first : (p : Point) (c : Command) (q : Point) (e : Command) → fuse q e p c ≡ true → is_fusion e ≡ true
fuse_first p c q (FusionP d) h = refl
fuse_first p c q e h = cc

partner_fuses : (p : Point) (c : Command) (q : Point) (e : Command) → (fuse p c q e ≡ true) ⊎ (fuse q e p c ≡ true)
    → is_fusion e ≡ true
partner_fuses p c q e (inl h) = fuse_second p c q e h
partner_fuses p c q e (inr h) = fuse_first p c q e h

no_flip : (c : Command) → is_alone c ≡ false → is_flip c ≡ false
no_flip (FusionP d) h = refl
no_flip (FusionS d) h = refl
no_flip (GFill d f) h = refl
no_flip (GVoid d f) h = refl
no_flip c h = cc

fusion_not_alone : (c : Command) → is_fusion c ≡ true → is_alone c ≡ false
fusion_not_alone (FusionP d) h = refl
fusion_not_alone (FusionS d) h = refl
fusion_not_alone c h = cc

group_not_alone : (c : Command) → is_group c ≡ true → is_alone c ≡ false
group_not_alone (GFill d f) h = refl
group_not_alone (GVoid d f) h = refl
group_not_alone c h = cc

shares_group : (p : Point) (c : Command) (q : Point) (e : Command) → share_region p c q e ≡ true → is_group e ≡ true
shares_group p (GFill d f) q (GFill e g) h = refl
shares_group p (GVoid d f) q (GVoid e g) h = refl
shares_group p c q e h = cc

-- ---- the voxels that members of a group command fill and void

of_or : (b : Bool) → (b || false) ≡ true → b ≡ true
of_or b e = sym (or_false b) ∙ e

shared_filled : (p : Point) (c : Command) (q : Point) (e : Command) (x : Point) → share_region p c q e ≡ true
    → list_any (λ s. is_within s x) (filled p c) ≡ true → list_any (λ s. is_within s x) (filled q e) ≡ true
shared_filled p (GFill d f) q (GFill e g) x h k = or_by_first _ false (region_on (between (plus p d) (plus (plus p d) f)) (between (plus q e) (plus (plus q e) g)) x h (of_or _ k))
shared_filled p c q e x h k = cc

shared_voided : (p : Point) (c : Command) (q : Point) (e : Command) (x : Point) → share_region p c q e ≡ true
    → list_any (λ s. is_within s x) (voided p c) ≡ true → list_any (λ s. is_within s x) (voided q e) ≡ true
shared_voided p (GVoid d f) q (GVoid e g) x h k = or_by_first _ false (region_on (between (plus p d) (plus (plus p d) f)) (between (plus q e) (plus (plus q e) g)) x h (of_or _ k))
shared_voided p c q e x h k = cc

-- ---- the law

-- a successor of the leader finds no other bot at its position
abbrev pub StandsApart : State → List Act → Act → Type 0
StandsApart t group l = (x y : Bot) → In x (successors group l l.command) → In y t.bots → x.pos ≡ y.pos → y ≡ l.bot

module _ (s : State) (all : List Act) (good : IsGood s all) (l : Act) (leads : In l (leaders all)) (t : State)
    (met : group_in t all l ≡ members all l) (keeps : keeps_rules t (members all l) ≡ true) (apart : StandsApart t (members all l) l)
    (rising : Rising t.bots) (within : (b : Bot) → In b t.bots → IsInSpace t.matrix.resolution b.pos)
    (partner : ℕ) (partner_is : partner ≡ slice_index_or (map bid_of (members all l)) 1 0) where
  pub itself_in : In l (members all l)
  itself_in = in_filter (are_together l) l all (leader_in s all good l leads) (with_itself l)

  pub found_there : (a : Act) → In a (members all l) → bot_of t.bots a.bot.bid ≡ Some a.bot
  found_there a i = found t a.bot
      (ap (λ (b : Act). b.bot) (is_met (λ (b : Act). record { bot = bot_in t.bots b.bot; command = b.command }) (members all l) met a i))
      (is_there t (members all l) keeps a i)

  bot_there : (a : Act) → In a (members all l) → In a.bot t.bots
  bot_there a i = (found_in (λ b. b.bid == a.bot.bid) t.bots a.bot (found_there a i)).0

  partner_of : (b : Act) → members all l ≡ l ∷ b ∷ [] → partner ≡ b.bot.bid
  partner_of b e = partner_is ∙ ap (λ (xs : List Act). slice_index_or (map bid_of xs) 1 0) e

  second_in : (b : Act) → members all l ≡ l ∷ b ∷ [] → In b (members all l)
  second_in b e = subst (λ (xs : List Act). In b xs) (sym e) (inr (inl refl))

  partner_there : (b : Act) → members all l ≡ l ∷ b ∷ [] → bot_of t.bots partner ≡ Some b.bot
  partner_there b e = ap (bot_of t.bots) (partner_of b e) ∙ found_there b (second_in b e)

  -- ---- the conditions of the turn

  comes : (c : Command) → l.command ≡ c → (x : Bot) → In x (successors (members all l) l c) → (y : Bot) → In y t.bots
      → y.pos ≡ x.pos → y ≡ l.bot
  comes c e x i y j k = apart x y (subst (λ (d : Command). In x (successors (members all l) l d)) (sym e) i) j (sym k)

  in_space_of : (c : Command) → l.command ≡ c
      → list_all (in_space t.matrix.resolution) (named_points (position l) c) ≡ true
  in_space_of c e = sym (ap (λ (d : Command). list_all (in_space t.matrix.resolution) (named_points (position l) d)) e) ∙ stays t (members all l) keeps l itself_in

  is_active_partner : (b : Act) → members all l ≡ l ∷ b ∷ [] → IsSome (bot_of t.bots partner)
  is_active_partner b e = subst (λ (o : Option Bot). IsSome o) (sym (partner_there b e)) (search rules)

  needs : is_command l.command ≡ true → (c : Command) → l.command ≡ c
      → Needs t.bots l.bot partner (deed_by (point l.bot.pos) c)
  needs known Halt e =
      let few : length t.bots ≤ 1 = at_most_one (length t.bots) (halts_alone t (members all l) keeps l itself_in e) in
      let some : 1 ≤ length t.bots = some_of l.bot t.bots (bot_there l itself_in) in
      omega arith
  needs known (SMove d) e = free_for t.bots l.bot (coordinate (plus (point l.bot.pos) d)) (comes (SMove d) e (moved l.bot (plus (point l.bot.pos) d)) (inl refl))
  needs known (LMove d f) e = free_for t.bots l.bot (coordinate (plus (plus (point l.bot.pos) d) f)) (comes (LMove d f) e (moved l.bot (plus (plus (point l.bot.pos) d) f)) (inl refl))
  needs known (Fission d m) e = (
    nobody t.bots l.bot (coordinate (plus (point l.bot.pos) d)) (comes (Fission d m) e (newborn l.bot (plus (point l.bot.pos) d) m) (inr (inl refl))) away,
    not_at_most_by_test (length (seed_list l.bot.seeds)) m (sym (ap (lacks_seeds (seed_list l.bot.seeds)) e) ∙ seeded t (members all l) keeps l itself_in),
  )
    where
      near : is_near d ≡ true
      near = first_of_two (is_near d) (nat_lt m 256) (sym (ap is_command e) ∙ known)

      away : l.bot.pos ≡ coordinate (plus (point l.bot.pos) d) → ⊥
      away k = near_away (point l.bot.pos) d near
          (sym (space_is t.matrix.resolution (plus (point l.bot.pos) d) (first_of_two (in_space t.matrix.resolution (plus (point l.bot.pos) d)) true (in_space_of (Fission d m) e))).1 ∙ ap point (sym k))
  needs known (FusionP d) e =
      let couple_here = couple s all good l leads (ap is_fusion e) in
      (is_active_partner couple_here.0 couple_here.3, λ k. let below_bid : l.bot.bid < couple_here.0.bot.bid = couple_here.2 in let partner_is : partner ≡ couple_here.0.bot.bid = partner_of couple_here.0 couple_here.3 in omega arith)
  needs known (FusionS d) e =
      let couple_here = couple s all good l leads (ap is_fusion e) in
      (is_active_partner couple_here.0 couple_here.3, λ k. let below_bid : l.bot.bid < couple_here.0.bot.bid = couple_here.2 in let partner_is : partner ≡ couple_here.0.bot.bid = partner_of couple_here.0 couple_here.3 in omega arith)
  needs known c e = tt

  pub may_take : is_command l.command ≡ true → MayTake t.matrix.resolution t.bots l.bot partner l.command
  may_take known = record {
    active = found_there l itself_in;
    within = within l.bot (bot_there l itself_in);
    stays = stays t (members all l) keeps l itself_in;
    needs = needs known l.command refl;
  }

  -- ---- the voxels

  shared_any : (work : Point → Command → List Span) → ((p : Point) (c : Command) (q : Point) (e : Command) (x : Point)
      → share_region p c q e ≡ true → list_any (λ r. is_within r x) (work p c) ≡ true
      → list_any (λ r. is_within r x) (work q e) ≡ true) → is_group l.command ≡ true → (x : Coord)
      → list_any (λ (a : Act). list_any (λ r. is_within r (point x)) (work (position a) a.command)) (members all l)
      ≡ list_any (λ (a : Act). list_any (λ r. is_within r (point x)) (work (position a) a.command)) (l ∷ [])
  shared_any work share g x = same_truth (list_any (λ (a : Act). list_any (λ r. is_within r (point x)) (work (position a) a.command)) (members all l)) (list_any (λ (a : Act). list_any (λ r. is_within r (point x)) (work (position a) a.command)) (l ∷ []))
      (λ h. let witness = any_in (λ (a : Act). list_any (λ r. is_within r (point x)) (work (position a) a.command)) (members all l) h in by witness.0 witness.2 (shared s all good l leads g witness.0 witness.1))
      (λ h. in_any (λ (a : Act). list_any (λ r. is_within r (point x)) (work (position a) a.command)) l (members all l) itself_in (of_or _ h))
    where
      by : (a : Act) → list_any (λ r. is_within r (point x)) (work (position a) a.command) ≡ true
          → (a ≡ l) ⊎ (share_region (position l) l.command (position a) a.command ≡ true)
          → (list_any (λ r. is_within r (point x)) (work (position l) l.command) || false) ≡ true
      by a h (inl e) = ap (λ v. v || false) (sym (ap (λ (b : Act). list_any (λ r. is_within r (point x)) (work (position b) b.command)) e) ∙ h)
      by a h (inr e) = ap (λ v. v || false) (share (position a) a.command (position l) l.command (point x) (share_back (position l) l.command (position a) a.command e) h)

  couple_any : (work : Point → Command → List Span) → ((p : Point) (c : Command) → is_fusion c ≡ true → work p c ≡ [])
      → (b : Act) → is_fusion b.command ≡ true → members all l ≡ l ∷ b ∷ [] → (x : Coord)
      → list_any (λ (a : Act). list_any (λ r. is_within r (point x)) (work (position a) a.command)) (members all l)
      ≡ list_any (λ (a : Act). list_any (λ r. is_within r (point x)) (work (position a) a.command)) (l ∷ [])
  couple_any work none b h e x =
      ap (λ (xs : List Act). list_any (λ (a : Act). list_any (λ r. is_within r (point x)) (work (position a) a.command)) xs) e
      ∙ (λ i. list_any (λ r. is_within r (point x)) (work (position l) l.command) || (list_any (λ r. is_within r (point x)) (none (position b) b.command h i) || false))

  mate_fuses : (b : Act) → are_partners l b ≡ true → is_fusion b.command ≡ true
  mate_fuses b h = partner_fuses (position l) l.command (position b) b.command (one_of_two (is_pair l b) (is_pair b l) h)

  same_filled : (x : Coord) → is_filled (members all l) x ≡ is_filled (l ∷ []) x
  same_filled x = by (kind l.command)
    where
      by : (is_alone l.command ≡ true) ⊎ ((is_fusion l.command ≡ true) ⊎ (is_group l.command ≡ true))
          → is_filled (members all l) x ≡ is_filled (l ∷ []) x
      by (inl h) = ap (λ (xs : List Act). is_filled xs x) (alone_is s all good l leads h)
      by (inr (inl h)) = let couple_here = couple s all good l leads h in couple_any filled (λ p c k. (no_work p c k).0) couple_here.0 (mate_fuses couple_here.0 couple_here.1) couple_here.3 x
      by (inr (inr h)) = shared_any filled shared_filled h x

  same_voided : (x : Coord) → is_voided (members all l) x ≡ is_voided (l ∷ []) x
  same_voided x = by (kind l.command)
    where
      by : (is_alone l.command ≡ true) ⊎ ((is_fusion l.command ≡ true) ⊎ (is_group l.command ≡ true))
          → is_voided (members all l) x ≡ is_voided (l ∷ []) x
      by (inl h) = ap (λ (xs : List Act). is_voided xs x) (alone_is s all good l leads h)
      by (inr (inl h)) = let couple_here = couple s all good l leads h in couple_any voided (λ p c k. (no_work p c k).1) couple_here.0 (mate_fuses couple_here.0 couple_here.1) couple_here.3 x
      by (inr (inr h)) = shared_any voided shared_voided h x

  same_matrix : matrix_after t.matrix (members all l) ≡ matrix_after t.matrix (l ∷ [])
  same_matrix = λ i. matrix_where t.matrix.resolution (λ x. same_filled x i || (is_full t.matrix x && not (same_voided x i)))

  -- ---- harmonics and cost

  same_harmonics : harmonics_after t.harmonics (members all l) ≡ harmonics_after t.harmonics (l ∷ [])
  same_harmonics = by (kind l.command)
    where
      one : is_alone l.command ≡ false → (a : Act) → In a (l ∷ []) → is_flip a.command ≡ false
      one h a (inl e) = ap (λ (b : Act). is_flip b.command) e ∙ no_flip l.command h
      one h a (inr i) = absurd i

      couple_still : (b : Act) → is_fusion l.command ≡ true → is_fusion b.command ≡ true → members all l ≡ l ∷ b ∷ []
          → (a : Act) → In a (members all l) → is_flip a.command ≡ false
      couple_still b h k e a i = of (subst (λ (xs : List Act). In a xs) e i)
        where
          of : In a (l ∷ b ∷ []) → is_flip a.command ≡ false
          of (inl f) = ap (λ (c : Act). is_flip c.command) f ∙ no_flip l.command (fusion_not_alone l.command h)
          of (inr (inl f)) = ap (λ (c : Act). is_flip c.command) f ∙ no_flip b.command (fusion_not_alone b.command k)
          of (inr (inr j)) = absurd j

      group_still : is_group l.command ≡ true → (a : Act) → In a (members all l) → is_flip a.command ≡ false
      group_still h a i = of (shared s all good l leads h a i)
        where
          of : (a ≡ l) ⊎ (share_region (position l) l.command (position a) a.command ≡ true) → is_flip a.command ≡ false
          of (inl e) = ap (λ (c : Act). is_flip c.command) e ∙ no_flip l.command (group_not_alone l.command h)
          of (inr e) = no_flip a.command (group_not_alone a.command (shares_group (position l) l.command (position a) a.command e))

      by : (is_alone l.command ≡ true) ⊎ ((is_fusion l.command ≡ true) ⊎ (is_group l.command ≡ true))
          → harmonics_after t.harmonics (members all l) ≡ harmonics_after t.harmonics (l ∷ [])
      by (inl h) = ap (harmonics_after t.harmonics) (alone_is s all good l leads h)
      by (inr (inl h)) = let couple_here = couple s all good l leads h in harmonics_stay t.harmonics (members all l) (couple_still couple_here.0 h (mate_fuses couple_here.0 couple_here.1) couple_here.3) ∙ sym (harmonics_stay t.harmonics (l ∷ []) (one (fusion_not_alone l.command h)))
      by (inr (inr h)) = harmonics_stay t.harmonics (members all l) (group_still h) ∙ sym (harmonics_stay t.harmonics (l ∷ []) (one (group_not_alone l.command h)))

  same_cost : groups_cost t.matrix (members all l) ≡ group_cost t.matrix (position l) l.command
  same_cost = ap (λ (xs : List Act). total (map (λ (a : Act). group_cost t.matrix (position a) a.command) xs)) (one_leader all good.apart l (differ_acts all good.rising) leads) ∙ no_more (group_cost t.matrix (position l) l.command)
    where
      no_more : (z : ℤ) → z +ℤ pos 0 ≡ z
      no_more z = omega (arith, ints)

  -- ---- the bots

  lone_halt : l.command ≡ Halt → t.bots ≡ l.bot ∷ []
  lone_halt e = by t.bots (bot_there l itself_in) (at_most_one (length t.bots) (halts_alone t (members all l) keeps l itself_in e))
    where
      by : (bs : List Bot) → In l.bot bs → length bs ≤ 1 → bs ≡ l.bot ∷ []
      by [] i n = absurd i
      by (b ∷ []) (inl f) n = ap (λ (c : Bot). c ∷ []) (sym f)
      by (b ∷ []) (inr i) n = absurd i
      by (b ∷ c ∷ bs) i n = absurd (omega arith)

  -- the successors of a group
  Come : List Act → List Bot
  Come group = replaced t.bots (map (λ (a : Act). a.bot.bid) group) (flat_map (λ (a : Act). successors group a a.command) group)

  pair_first : (b : Act) (d : Diff) → l.command ≡ FusionP d → are_partners l b ≡ true → is_pair l b ≡ true
  pair_first b d e h = by (one_of_two (is_pair l b) (is_pair b l) h)
    where
      no : (q : Point) (c : Command) (p : Point) → fuse q c p (FusionP d) ≡ true → ⊥
      no q (FusionP f) p k = cc
      no q c p k = cc

      by : (is_pair l b ≡ true) ⊎ (is_pair b l ≡ true) → is_pair l b ≡ true
      by (inl k) = k
      by (inr k) = absurd (no (position b) b.command (position l) (sym (ap (λ (c : Command). fuse (position b) b.command (position l) c) e) ∙ k))

  pair_second : (b : Act) (d : Diff) → l.command ≡ FusionS d → are_partners l b ≡ true → is_pair b l ≡ true
  pair_second b d e h = by (one_of_two (is_pair l b) (is_pair b l) h)
    where
      no : (q : Point) (c : Command) (p : Point) → fuse p (FusionS d) q c ≡ true → ⊥
      no q c p k = cc

      by : (is_pair l b ≡ true) ⊎ (is_pair b l ≡ true) → is_pair b l ≡ true
      by (inr k) = k
      by (inl k) = absurd (no (position b) b.command (position l) (sym (ap (λ (c : Command). fuse (position l) c (position b) b.command) e) ∙ k))

  no_pair : (a : Act) → is_pair a a ≡ false
  no_pair a = false_by (is_pair a a) (no_itself (position a) a.command)
    where
      no_itself : (p : Point) (c : Command) → fuse p c p c ≡ true → ⊥
      no_itself p (FusionP d) h = cc
      no_itself p c h = cc

  with_second : (b : Act) (e : members all l ≡ l ∷ b ∷ []) (change : Bot → List Bot)
      → with_partner t.bots partner change ≡ change b.bot
  with_second b e change = ap (λ (o : Option Bot). unwrap_or (option_map change o) t.bots) (partner_there b e)

  swapped : (j k : ℕ) (news : List Bot) → replaced t.bots (j ∷ k ∷ []) news ≡ replaced t.bots (k ∷ j ∷ []) news
  swapped j k news = λ i. in_rising_order (news ++ filter (λ (x : Bot). not (turned (j == x.bid) (k == x.bid) i)) t.bots)
    where
      turned : (a b : Bool) → (a || (b || false)) ≡ (b || (a || false))
      turned true true = refl
      turned true false = refl
      turned false true = refl
      turned false false = refl

  couple_bots : (c : Command) → l.command ≡ c → is_fusion c ≡ true → (b : Act) → are_partners l b ≡ true
      → members all l ≡ l ∷ b ∷ [] → Come (l ∷ b ∷ []) ≡ bots_after_turn t.bots l.bot partner c
  unfolding Come
  couple_bots (FusionP d) e h b q m =
      (λ i. replaced t.bots (l.bot.bid ∷ b.bot.bid ∷ []) (first_comes i ++ (second_comes i ++ [])))
      ∙ ((λ i. replaced t.bots (l.bot.bid ∷ sym (partner_of b m) i ∷ []) (fused l.bot b.bot ∷ []))
      ∙ sym (with_second b m (λ other. replaced t.bots (l.bot.bid ∷ partner ∷ []) (fused l.bot other ∷ []))))
    where
      finds : find (is_pair l) (l ∷ b ∷ []) ≡ Some b
      finds = (λ i. cond (no_pair l i) (Some l) (cond (is_pair l b) (Some b) None)) ∙ ap (λ v. cond v (Some b) None) (pair_first b d e q)

      first_comes : successors (l ∷ b ∷ []) l l.command ≡ fused l.bot b.bot ∷ []
      first_comes = ap (successors (l ∷ b ∷ []) l) e ∙ ap (λ (o : Option Act). after_fusion l.bot o ∷ []) finds

      second_comes : successors (l ∷ b ∷ []) b b.command ≡ []
      second_comes = gone b.command (pair_first b d e q)
        where
          gone : (c : Command) → fuse (position l) l.command (position b) c ≡ true → successors (l ∷ b ∷ []) b c ≡ []
          gone c k = by c (sym (ap (λ (f : Command). fuse (position l) f (position b) c) e) ∙ k)
            where
              by : (c : Command) → fuse (position l) (FusionP d) (position b) c ≡ true
                  → successors (l ∷ b ∷ []) b c ≡ []
              by (FusionS f) u = refl
              by c u = cc
  couple_bots (FusionS d) e h b q m =
      (λ i. replaced t.bots (l.bot.bid ∷ b.bot.bid ∷ []) (first_comes i ++ (second_comes i ++ [])))
      ∙ (swapped l.bot.bid b.bot.bid (fused b.bot l.bot ∷ [])
      ∙ ((λ i. replaced t.bots (sym (partner_of b m) i ∷ l.bot.bid ∷ []) (fused b.bot l.bot ∷ []))
      ∙ sym (with_second b m (λ other. replaced t.bots (partner ∷ l.bot.bid ∷ []) (fused other l.bot ∷ [])))))
    where
      first_comes : successors (l ∷ b ∷ []) l l.command ≡ []
      first_comes = ap (successors (l ∷ b ∷ []) l) e

      second_comes : successors (l ∷ b ∷ []) b b.command ≡ fused b.bot l.bot ∷ []
      second_comes = comes_of b.command (pair_second b d e q)
        where
          comes_of : (c : Command) → fuse (position b) c (position l) l.command ≡ true
              → successors (l ∷ b ∷ []) b c ≡ fused b.bot l.bot ∷ []
          comes_of (FusionP f) k = ap (λ (v : Bool). after_fusion b.bot (cond v (Some l) (cond (is_pair b b) (Some b) None)) ∷ []) (pair_second b d e q)
          comes_of c k = cc
  couple_bots c e h b q m = cc

  group_bots : (c : Command) → l.command ≡ c → is_group c ≡ true
      → Come (members all l) ≡ bots_after_turn t.bots l.bot partner c
  unfolding Come
  group_bots c e h =
      (λ i. replaced t.bots (bids_are (members all l) i) ((flat_same (λ (a : Act). successors (members all l) a a.command) (λ (a : Act). a.bot ∷ []) (members all l) stay ∙ flat_map_single (λ (a : Act). a.bot) (members all l)) i))
      ∙ (replaced_itself t.bots rising (map (λ (a : Act). a.bot) (members all l)) (apart_bots (members all l) (differ_filter (λ (a : Act). a.bot.bid) (are_together l) all (differ_acts all good.rising))) there
      ∙ same c h)
    where
      bids_are : (xs : List Act) → map (λ (a : Act). a.bot.bid) xs ≡ map (λ (b : Bot). b.bid)
          (map (λ (a : Act). a.bot) xs)
      bids_are [] = refl
      bids_are (x ∷ xs) = ap (λ ks. x.bot.bid ∷ ks) (bids_are xs)

      apart_bots : (xs : List Act) → Differ (λ (a : Act). a.bot.bid) xs → Differ (λ (b : Bot). b.bid)
          (map (λ (a : Act). a.bot) xs)
      apart_bots [] d = tt
      apart_bots (x ∷ xs) d = ((λ b i k. let origin = map_in (λ (a : Act). a.bot) b xs i in d.0 origin.0 origin.1 (k ∙ ap (λ (z : Bot). z.bid) origin.2)), apart_bots xs d.1)

      there : (b : Bot) → In b (map (λ (a : Act). a.bot) (members all l)) → In b t.bots
      there b i = let origin = map_in (λ (a : Act). a.bot) b (members all l) i in subst (λ (x : Bot). In x t.bots) (sym origin.2) (bot_there origin.0 origin.1)

      still_there : (a : Act) (d : Command) → is_group d ≡ true → successors (members all l) a d ≡ a.bot ∷ []
      still_there a (GFill d f) k = refl
      still_there a (GVoid d f) k = refl
      still_there a d k = cc

      stay : (a : Act) → In a (members all l) → successors (members all l) a a.command ≡ a.bot ∷ []
      stay a i = of (shared s all good l leads (ap is_group e ∙ h) a i)
        where
          of : (a ≡ l) ⊎ (share_region (position l) l.command (position a) a.command ≡ true)
              → successors (members all l) a a.command ≡ a.bot ∷ []
          of (inl k) = still_there a a.command (ap (λ (b : Act). is_group b.command) k ∙ (ap is_group e ∙ h))
          of (inr k) = still_there a a.command (shares_group (position l) l.command (position a) a.command k)

      same : (d : Command) → is_group d ≡ true → t.bots ≡ bots_after_turn t.bots l.bot partner d
      same (GFill d f) k = refl
      same (GVoid d f) k = refl
      same d k = cc

  same_bots : Come (members all l) ≡ bots_after_turn t.bots l.bot partner l.command
  unfolding Come
  same_bots = by (kind l.command)
    where
      by : (is_alone l.command ≡ true) ⊎ ((is_fusion l.command ≡ true) ⊎ (is_group l.command ≡ true))
          → Come (members all l) ≡ bots_after_turn t.bots l.bot partner l.command
      by (inl h) = ap Come (alone_is s all good l leads h) ∙ alone_bots t.bots l.bot partner l.command h rising (bot_there l itself_in) lone_halt
      by (inr (inl h)) = let couple_here = couple s all good l leads h in
          ap Come couple_here.3 ∙ couple_bots l.command refl h couple_here.0 couple_here.1 couple_here.3
      by (inr (inr h)) = group_bots l.command refl h

  -- the turn has the effect of the group's acts
  pub turn_is_group : ((u : State) (group : List Act) → (after_group u group).bots
      ≡ replaced u.bots (map (λ (a : Act). a.bot.bid) group)
      (flat_map (λ (a : Act). successors group a a.command) group))
      → after_turn t l.bot partner l.command ≡ after_group t (members all l)
  unfolding Come
  turn_is_group law = λ i. record {
    matrix = sym same_matrix i;
    harmonics = sym same_harmonics i;
    bots = (sym same_bots ∙ sym (law t (members all l))) i;
    energy = ap (λ z. t.energy +ℤ z) (sym same_cost) i;
    profile = t.profile;
  }

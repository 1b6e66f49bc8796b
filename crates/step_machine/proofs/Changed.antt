-- The voxels that the groups of a step change, taken together.
use Rattle.std.proofs.Common.{◌≡◌, ℕ, refl, sym, ◌∙◌, ap, subst, inl, inr, ◌⊎◌, List, [], ◌∷◌, Bool, true, false, ◌&&◌, ◌||◌, not}
use Rattle.std.specs.Prelude.{ℤ, int_le, IsTrue}
use Rattle.std.specs.List.{Contains, list_any}
use native.Mathlib.Decide.{ℕ_discrete}
use Rattle.vox_geom.specs.declared.coordinate.Coord.{Coord}
use Rattle.vox_geom.specs.Point.{Point, plus, point}
use Rattle.vox_geom.specs.Region.{between, is_between, is_within}
use Rattle.vox_geom.specs.Space.{IsInSpace}
use Rattle.vox_geom.proofs.Truths.{false_by, first_of_two, one_of_two, or_by_first, or_by_second, or_swapped, same_truth, second_of_two}
use Rattle.nano_spec.specs.declared.commands.Command.{Command}
use Rattle.nano_spec.specs.declared.commands.Command.TheVariants.{FusionP, FusionS, GFill, GVoid}
use Rattle.nano_spec.specs.Act.{Act, filled, position, voided}
use Rattle.nano_spec.specs.Group.{are_together, fuse, is_leader, is_pair, leaders, members, share_region}
use Rattle.nano_spec.specs.Matrix.{Matrix, all_of, is_full, matrix_where}
use Rattle.nano_spec.specs.State.{State}
use Rattle.nano_spec.specs.Step.{is_filled, is_voided, matrix_after}
use Rattle.nano_spec.specs.Volatile.{is_volatile, is_volatile_of}
use Rattle.nano_spec.specs.Work.{without_voided}
use Rattle.support_forest.specs.ForestView.{AreAdded, AreRemoved, MayAdd, MayRemove}
use Rattle.vox_planes.specs.Voxel.{is_state}
use Rattle.step_order.proofs.Effects.{fills_own, voids_own}
use Rattle.step_order.proofs.Facts.{IsGood}
use Rattle.step_order.proofs.Groups.{Differ, differ_acts, differ_filter, led}
use Rattle.step_order.proofs.Lists.{In, any_in, both, filter_in, flat_in, in_any, in_filter, in_flat, not_both, true_or_false}
use Rattle.step_order.proofs.Together.{Together, itself, partners, shares, together_is, with_itself}
use Rattle.step_order.proofs.Voxels.{as_it_is, coordinates_within, in_coordinates, matrix_same}
use Rattle.step_order.proofs.Faultless.{within_as}
use Rattle.step_order.proofs.Turns.{held}
use Rattle.step_machine.specs.Edits.{cells_of, cells_of_all, is_edited}
use Rattle.step_machine.proofs.Apart.{Apart, apart_coordinates, apart_filter, apart_flat, holds, pairs_of}
use Rattle.step_machine.proofs.Regions.{one_edit}

-- ---- members of a group make the same edit

axis : (a b c d v : ℤ) → ((a ≡ c) × (b ≡ d)) ⊎ ((a ≡ d) × (b ≡ c)) → is_between a b v ≡ is_between c d v
axis a b c d v (inl e) = λ i. is_between (e.0 i) (e.1 i) v
axis a b c d v (inr e) = (λ i. is_between (e.0 i) (e.1 i) v) ∙ or_swapped (int_le d v && int_le v c) (int_le c v && int_le v d)

shared_void : (p : Point) (c : Command) (q : Point) (e : Command) (x : Point) → share_region p c q e ≡ true
    → list_any (λ s. is_within s x) (voided p c) ≡ list_any (λ s. is_within s x) (voided q e)
shared_void p (GFill d f) q (GFill e g) x h = refl
shared_void p (GVoid d f) q (GVoid e g) x h = ap (λ b. b || false) (within_as (between (plus p d) (plus (plus p d) f)) (between (plus q e) (plus (plus q e) g)) x h)
shared_void p c q e x h = cc

shared_fill : (p : Point) (c : Command) (q : Point) (e : Command) (x : Point) → share_region p c q e ≡ true
    → list_any (λ s. is_within s x) (filled p c) ≡ list_any (λ s. is_within s x) (filled q e)
shared_fill p (GFill d f) q (GFill e g) x h = ap (λ b. b || false) (within_as (between (plus p d) (plus (plus p d) f)) (between (plus q e) (plus (plus q e) g)) x h)
shared_fill p (GVoid d f) q (GVoid e g) x h = refl
shared_fill p c q e x h = cc

fusion_edits_not : (p : Point) (c : Command) (q : Point) (e : Command) (x : Point) → fuse p c q e ≡ true
    → (list_any (λ s. is_within s x) (voided p c) ≡ false) × (list_any (λ s. is_within s x) (filled p c) ≡ false)
    × (list_any (λ s. is_within s x) (voided q e) ≡ false) × (list_any (λ s. is_within s x) (filled q e) ≡ false)
fusion_edits_not p (FusionP d) q (FusionS e) x h = (refl, refl, refl, refl)
fusion_edits_not p (FusionP d) q e x h = cc
fusion_edits_not p c q e x h = cc

pub same_edit : (full : Bool) (l a : Act) (c : Coord) → (l.bot.bid ≡ a.bot.bid → l ≡ a) → Together l a
    → is_edited full a c ≡ true → is_edited full l c ≡ true
same_edit full l a c bids (itself e) h = ap (λ (x : Act). is_edited full x c) (bids e) ∙ h
same_edit true l a c bids (shares e) h = shared_void (position l) l.command (position a) a.command (point c) e ∙ h
same_edit false l a c bids (shares e) h = shared_fill (position l) l.command (position a) a.command (point c) e ∙ h
same_edit full l a c bids (partners e) h = by full (one_of_two (is_pair l a) (is_pair a l) e) h
  where
    by : (full : Bool) → (is_pair l a ≡ true) ⊎ (is_pair a l ≡ true) → is_edited full a c ≡ true
        → is_edited full l c ≡ true
    by true (inl f) h = absurd (not_both h (fusion_edits_not (position l) l.command (position a) a.command (point c) f).2)
    by false (inl f) h = absurd (not_both h (fusion_edits_not (position l) l.command (position a) a.command (point c) f).3)
    by true (inr f) h = absurd (not_both h (fusion_edits_not (position a) a.command (position l) l.command (point c) f).0)
    by false (inr f) h = absurd (not_both h (fusion_edits_not (position a) a.command (position l) l.command (point c) f).1)

pub edits_own : (full : Bool) (a : Act) (c : Coord) → is_edited full a c ≡ true → is_volatile_of (point c) a ≡ true
edits_own true a c h = voids_own (position a) a.command (point c) h
edits_own false a c h = fills_own (position a) a.command (point c) h

-- ---- the voxels that the leaders' groups change

-- whether some act edits the coordinate so
abbrev pub is_changed : Bool → List Act → Coord → Bool
is_changed full all c = list_any (λ a. is_edited full a c) all

module _ (s : State) (all : List Act) (good : IsGood s all) where
  leader_is : (l : Act) → In l (leaders all) → In l all
  leader_is l i = (filter_in (is_leader all) l all i).0

  volatile_for : (full : Bool) (l : Act) (c : Coord) → In l (leaders all) → is_edited full l c ≡ true
      → is_volatile all l (point c) ≡ true
  volatile_for full l c i e = in_any (is_volatile_of (point c)) l (members all l) (in_filter (are_together l) l all (leader_is l i) (with_itself l)) (edits_own full l c e)

  -- a leader whose group edits a coordinate that some act edits
  leader_edits : (full : Bool) (c : Coord) → is_changed full all c ≡ true
      → (l : Act) × In l (leaders all) × (is_edited full l c ≡ true)
  leader_edits full c h =
      let witness = any_in (λ x. is_edited full x c) all h in
      let led_by = led all good.apart witness.0 witness.1 in
      (led_by.0, led_by.1, same_edit full led_by.0 witness.0 c (λ e. good.apart.bids led_by.0 witness.0 (leader_is led_by.0 led_by.1) witness.1 e) (together_is led_by.0 witness.0 led_by.2) witness.2)

  apart_leaders : Apart (leaders all)
  apart_leaders = by (leaders all) (differ_filter (λ (a : Act). a.bot.bid) (is_leader all) all (differ_acts all good.rising))
    where
      by : (xs : List Act) → Differ (λ (a : Act). a.bot.bid) xs → Apart xs
      by [] d = tt
      by (x ∷ xs) d = ((λ i. d.0 x i refl), by xs d.1)

  -- the changes of two leaders' groups are disjoint
  never_both : (full other : Bool) (l d : Act) (c : Coord) → In l (leaders all) → In d (leaders all)
      → IsInSpace s.matrix.resolution c → is_edited full l c ≡ true → is_edited other d c ≡ true → (l ≡ d → ⊥) → ⊥
  never_both full other l d c i j w e f ne = good.clear l d i j ne c w (volatile_for full l c i e) (volatile_for other d c j f)

  cell_is : (full : Bool) (a : Act) (c : Coord) → In c (cells_of s.matrix full a)
      → IsInSpace s.matrix.resolution c × (is_state s.matrix full c ≡ true) × (is_edited full a c ≡ true)
  cell_is full a c i =
      let passed = filter_in (λ x. is_state s.matrix full x && is_edited full a x) c (all_of s.matrix) i in
      (coordinates_within s.matrix.resolution c passed.0, first_of_two (is_state s.matrix full c) (is_edited full a c) passed.1, second_of_two (is_state s.matrix full c) (is_edited full a c) passed.1)

  pub cells_apart : (full : Bool) → Apart (cells_of_all s.matrix full (leaders all))
  cells_apart full = apart_flat (cells_of s.matrix full) (leaders all) apart_leaders
      (λ l i. apart_filter (λ c. is_state s.matrix full c && is_edited full l c) (all_of s.matrix) (apart_coordinates s.matrix.resolution))
      (λ l d c i j p q ne. let cell_facts = cell_is full l c p in never_both full full l d c i j cell_facts.0 cell_facts.2 (cell_is full d c q).2 ne)

  pub cell_of : (full : Bool) (c : Coord) → In c (cells_of_all s.matrix full (leaders all))
      → IsInSpace s.matrix.resolution c × (is_state s.matrix full c ≡ true) × (is_changed full all c ≡ true)
  cell_of full c i =
      let origin = flat_in (cells_of s.matrix full) c (leaders all) i in
      let cell_facts = cell_is full origin.0 c origin.2 in
      (cell_facts.0, cell_facts.1, in_any (λ a. is_edited full a c) origin.0 all (leader_is origin.0 origin.1) cell_facts.2)

  pub of_cell : (full : Bool) (c : Coord) → IsInSpace s.matrix.resolution c → is_state s.matrix full c ≡ true
      → is_changed full all c ≡ true → In c (cells_of_all s.matrix full (leaders all))
  of_cell full c w e h =
      let editing_leader = leader_edits full c h in
      in_flat (cells_of s.matrix full) editing_leader.0 c (leaders all) editing_leader.1 (in_filter (λ x. is_state s.matrix full x && is_edited full editing_leader.0 x) c (all_of s.matrix) (in_coordinates s.matrix.resolution c w) (both e editing_leader.2))

  -- nothing is both voided and filled
  pub one_way : (c : Coord) → IsInSpace s.matrix.resolution c → is_changed true all c ≡ true
      → is_changed false all c ≡ true → ⊥
  one_way c w v f = by (leader_edits true c v) (leader_edits false c f)
    where
      by : (l : Act) × In l (leaders all) × (is_edited true l c ≡ true)
          → (l : Act) × In l (leaders all) × (is_edited false l c ≡ true) → ⊥
      by l d = on (ℕ_discrete l.0.bot.bid d.0.bot.bid)
        where
          on : Dec (l.0.bot.bid ≡ d.0.bot.bid) → ⊥
          on (yes e) = one_edit d.0 c (ap (λ (a : Act). is_edited true a c) (sym (good.apart.bids l.0 d.0 (leader_is l.0 l.1) (leader_is d.0 d.1) e)) ∙ l.2) d.2
          on (no ne) = never_both true false l.0 d.0 c l.1 d.1 w l.2 d.2 (λ e. ne (ap (λ (a : Act). a.bot.bid) e))

  pub void_state : (c : Coord) → is_state s.matrix false c ≡ true → is_full s.matrix c ≡ false
  void_state c h = flip (is_full s.matrix c) h
    where
      flip : (b : Bool) → not b ≡ true → b ≡ false
      flip true e = cc
      flip false e = refl

  pub state_void : (c : Coord) → is_full s.matrix c ≡ false → is_state s.matrix false c ≡ true
  state_void c h = ap not h

  -- ---- the forest may lose the voided voxels and then gain the filled ones

  pub may_remove : MayRemove s.matrix (cells_of_all s.matrix true (leaders all))
  may_remove = record {
    differ = pairs_of (cells_of_all s.matrix true (leaders all)) (cells_apart true);
    full = λ c i. (cell_of true c (held c (cells_of_all s.matrix true (leaders all)) i)).1;
  }

  pub may_add : (between : Matrix) → AreRemoved s.matrix between (cells_of_all s.matrix true (leaders all))
      → MayAdd between (cells_of_all s.matrix false (leaders all))
  may_add between r = record {
    differ = pairs_of (cells_of_all s.matrix false (leaders all)) (cells_apart false);
    within = λ c i. subst (λ (n : ℕ). IsInSpace n c) (sym r.resolution) (cell_of false c (held c (cells_of_all s.matrix false (leaders all)) i)).0;
    void = λ c i. false_by (is_full between c) (λ f. not_both (r.full c f) (void_state c (cell_of false c (held c (cells_of_all s.matrix false (leaders all)) i)).1));
  }

  -- ---- the result

  module _ (between : Matrix) (lost : AreRemoved s.matrix between (cells_of_all s.matrix true (leaders all))) where
    is_left : (c : Coord) → IsInSpace s.matrix.resolution c → is_full between c ≡ true
        → (is_full s.matrix c && not (is_voided all c)) ≡ true
    is_left c w f = both (lost.full c f) (ap not (false_by (is_voided all c) (λ v. not_both f (lost.gone c (holds c (cells_of_all s.matrix true (leaders all)) (of_cell true c w (lost.full c f) v))))))

    left_is : (c : Coord) → is_full s.matrix c ≡ true → (is_voided all c ≡ true → ⊥) → is_full between c ≡ true
    left_is c f n = by (lost.kept c f)
      where
        by : IsTrue (is_full between c) ⊎ Contains (cells_of_all s.matrix true (leaders all)) c
            → is_full between c ≡ true
        by (inl e) = e
        by (inr i) = absurd (n (cell_of true c (held c (cells_of_all s.matrix true (leaders all)) i)).2)

    pub between_is : between ≡ without_voided s.matrix all
    between_is =
        sym (as_it_is between lost.whole)
        ∙ (ap (λ r. matrix_where r (is_full between)) lost.resolution
        ∙ matrix_same s.matrix.resolution (is_full between) (λ c. is_full s.matrix c && not (is_voided all c)) (λ c w. same_truth (is_full between c) (is_full s.matrix c && not (is_voided all c))
        (is_left c w)
        (λ e. left_is c (first_of_two (is_full s.matrix c) (not (is_voided all c)) e) (λ v. not_both (second_of_two (is_full s.matrix c) (not (is_voided all c)) e) (ap not v)))))

    module _ (new : Matrix) (won : AreAdded between new (cells_of_all s.matrix false (leaders all))) where
      there : (c : Coord) → IsInSpace s.matrix.resolution c → is_full new c ≡ true
          → (is_filled all c || (is_full s.matrix c && not (is_voided all c))) ≡ true
      there c w f = by (won.full c f)
        where
          by : IsTrue (is_full between c) ⊎ Contains (cells_of_all s.matrix false (leaders all)) c
              → (is_filled all c || (is_full s.matrix c && not (is_voided all c))) ≡ true
          by (inl e) = or_by_second (is_filled all c) (is_full s.matrix c && not (is_voided all c)) (is_left c w e)
          by (inr i) = or_by_first (is_filled all c) (is_full s.matrix c && not (is_voided all c)) (cell_of false c (held c (cells_of_all s.matrix false (leaders all)) i)).2

      back : (c : Coord) → IsInSpace s.matrix.resolution c
          → (is_filled all c ≡ true) ⊎ ((is_full s.matrix c && not (is_voided all c)) ≡ true) → is_full new c ≡ true
      back c w (inl e) = by (true_or_false (is_full s.matrix c))
        where
          by : (is_full s.matrix c ≡ true) ⊎ (is_full s.matrix c ≡ false) → is_full new c ≡ true
          by (inl f) = won.kept c (left_is c f (λ v. one_way c w v e))
          by (inr f) = won.added c (holds c (cells_of_all s.matrix false (leaders all)) (of_cell false c w (state_void c f) e))
      back c w (inr e) = won.kept c (left_is c (first_of_two (is_full s.matrix c) (not (is_voided all c)) e) (λ v. not_both (second_of_two (is_full s.matrix c) (not (is_voided all c)) e) (ap not v)))

      pub new_is : new ≡ matrix_after s.matrix all
      new_is =
          sym (as_it_is new won.whole)
          ∙ (ap (λ r. matrix_where r (is_full new)) (won.resolution ∙ lost.resolution)
          ∙ matrix_same s.matrix.resolution (is_full new) (λ c. is_filled all c || (is_full s.matrix c && not (is_voided all c))) (λ c w. same_truth (is_full new c) (is_filled all c || (is_full s.matrix c && not (is_voided all c)))
          (there c w)
          (λ e. back c w (one_of_two (is_filled all c) (is_full s.matrix c && not (is_voided all c)) e))))

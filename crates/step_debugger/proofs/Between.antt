-- The voxels between the groups of a step: the leader whose group changes a voxel decides.
use Rattle.std.proofs.Common.{◌≡◌, ℕ, zero, suc, ◌+◌, ◌≤◌, ◌<◌, ◌==◌, refl, sym, ◌∙◌, ap, subst, arith, List, [], ◌∷◌, Bool, true, false, ◌&&◌, ◌||◌, not, length, get_or}
use Rattle.std.specs.Prelude.{filter, is_some, IfNone, IfSome, Option, Some, None, IsSomeAnd, IsTrue}
use Rattle.std.specs.Bool.{beq}
use Rattle.std.specs.List.{list_any}
use Rattle.std.proofs.lemmas.Bool.Decides.{nat_tests}
use Rattle.std.proofs.lemmas.List.{length-map}
use Rattle.step_groups.specs.Judging.{act}
use native.Mathlib.Decide.{ℕ_discrete}
use Rattle.circular_buffer.specs.Buffer.{Buffer}
use Rattle.vox_geom.specs.declared.coordinate.Coord.{Coord}
use Rattle.vox_geom.specs.Point.{point}
use Rattle.vox_geom.specs.Region.{is_within, span}
use Rattle.vox_geom.specs.Space.{IsInSpace}
use Rattle.vox_geom.proofs.Truths.{false_by, or_by_first}
use Rattle.nano_spec.specs.declared.commands.Command.{Command}
use Rattle.nano_spec.specs.declared.system.Bot.{Bot}
use Rattle.nano_spec.specs.Act.{Act, acts, stays_in_space}
use Rattle.nano_spec.specs.Group.{are_together}
use Rattle.nano_spec.specs.Matrix.{is_full}
use Rattle.nano_spec.specs.Rules.{broken}
use Rattle.nano_spec.specs.Serial.{acts_of}
use Rattle.nano_spec.specs.State.{IsReady, State}
use Rattle.nano_spec.specs.Step.{is_filled, is_voided, matrix_after}
use Rattle.step_order.specs.SomeGroups.{is_taken, taken as taken_acts}
use Rattle.step_order.proofs.Facts.{IsGood, bots_of, good_is}
use Rattle.step_order.proofs.Lists.{In, any_in, filter_in, flat_in, in_any, in_filter, in_flat, in_place, not_both, place_in}
use Rattle.step_order.proofs.Together.{together_is, with_itself}
use Rattle.step_order.proofs.Voxels.{full_where}
use Rattle.step_machine.specs.Edits.{is_edited}
use Rattle.step_machine.specs.Situation.{Situation}
use Rattle.step_machine.specs.declared.undo.Undo.{Undo}
use Rattle.step_machine.proofs.Acting.{stays}
use Rattle.step_machine.proofs.Changed.{is_changed, one_way, same_edit}
use Rattle.step_machine.proofs.Regions.{edits_nothing, edits_region}
use Rattle.step_machine.proofs.Sizes.{acts_few}
use Rattle.system_state.specs.declared.edited.EditedRegion.{EditedRegion}
use Rattle.system_state.specs.Edited.{IsEditedRegion}
use Rattle.step_debugger.specs.Debugging.{Debugging, debugging_of, point_of}
use Rattle.step_debugger.specs.Kept.{IsKept}
use Rattle.step_debugger.specs.Middle.{IsEditOf, matrix_after_some}
use Rattle.step_debugger.specs.Session.{middle_state, next_commands}
use Rattle.step_debugger.proofs.Grouping.{MiddleLaw, any_here}
use Rattle.step_debugger.proofs.Trying.{begun_are}

-- whether the group that the bot leads is begun
abbrev pub leads_in : List ℕ → Act → Bool
leads_in begun a = list_any (λ k. k == a.bot.bid) begun

-- the act neither fills nor voids the coordinate, if its group is begun
abbrev pub IsKeptBy : List ℕ → Coord → Act → Type 0
IsKeptBy begun c a = leads_in begun a ≡ true → (full : Bool) → is_edited full a c ≡ false

module _ (s : State) (all : List Act) (good : IsGood s all) (begun : List ℕ) (c : Coord) (within : IsInSpace s.matrix.resolution c) where
  same_test : (a b : ℕ) → a ≡ b → (a == b) ≡ true
  same_test a b e = grind (arith, nat_tests)

  test_is : (a b : ℕ) → (a == b) ≡ true → a ≡ b
  test_is a b t = grind (arith, nat_tests)

  in_done : (l : Act) → In l (acts_of all begun) → In l all × (leads_in begun l ≡ true)
  in_done l i =
      let origin = flat_in (λ k. filter (λ (a : Act). a.bot.bid == k) all) l begun i in
      let passed = filter_in (λ (a : Act). a.bot.bid == origin.0) l all origin.2 in
      (passed.0, in_any (λ k. k == l.bot.bid) origin.0 begun origin.1 (same_test origin.0 l.bot.bid (sym (test_is l.bot.bid origin.0 passed.1))))

  done_in : (l : Act) → In l all → leads_in begun l ≡ true → In l (acts_of all begun)
  done_in l i h =
      let witness = any_in (λ k. k == l.bot.bid) begun h in
      in_flat (λ k. filter (λ (a : Act). a.bot.bid == k) all) witness.0 l begun witness.1 (in_filter (λ (a : Act). a.bot.bid == witness.0) l all i (same_test l.bot.bid witness.0 (sym (test_is witness.0 l.bot.bid witness.2))))

  -- a leader that edits the coordinate, if some act of the begun groups does
  leader_of_edit : (full : Bool) → is_changed full (taken_acts all (acts_of all begun)) c ≡ true
      → (l : Act) × In l all × (leads_in begun l ≡ true) × (is_edited full l c ≡ true)
  leader_of_edit full h =
      let witness = any_in (λ (x : Act). is_edited full x c) (taken_acts all (acts_of all begun)) h in
      let passed = filter_in (is_taken (acts_of all begun)) witness.0 all witness.1 in
      let its_witness = any_in (λ (d : Act). are_together d witness.0) (acts_of all begun) passed.1 in
      let in_list = in_done its_witness.0 its_witness.1 in
      (its_witness.0, in_list.0, in_list.1, same_edit full its_witness.0 witness.0 c (λ e. good.apart.bids its_witness.0 witness.0 in_list.0 passed.0 e) (together_is its_witness.0 witness.0 its_witness.2) witness.2)

  edit_of_leader : (full : Bool) (l : Act) → In l all → leads_in begun l ≡ true → is_edited full l c ≡ true
      → is_changed full (taken_acts all (acts_of all begun)) c ≡ true
  edit_of_leader full l i h e =
      in_any (λ (x : Act). is_edited full x c) l (taken_acts all (acts_of all begun))
      (in_filter (is_taken (acts_of all begun)) l all i (in_any (λ (d : Act). are_together d l) l (acts_of all begun) (done_in l i h) (with_itself l))) e

  some_edit : (full : Bool) → is_changed full (taken_acts all (acts_of all begun)) c ≡ true
      → is_changed full all c ≡ true
  some_edit full h =
      let editing_leader = leader_of_edit full h in
      in_any (λ (x : Act). is_edited full x c) editing_leader.0 all editing_leader.1 editing_leader.3

  full_is : is_full (matrix_after s.matrix (taken_acts all (acts_of all begun))) c
      ≡ (is_filled (taken_acts all (acts_of all begun)) c
      || (is_full s.matrix c && not (is_voided (taken_acts all (acts_of all begun)) c)))
  full_is = full_where s.matrix.resolution (λ x. is_filled (taken_acts all (acts_of all begun)) x || (is_full s.matrix x && not (is_voided (taken_acts all (acts_of all begun)) x))) c within

  pub untouched : ((a : Act) → In a all → IsKeptBy begun c a)
      → is_full (matrix_after s.matrix (taken_acts all (acts_of all begun))) c ≡ is_full s.matrix c
  untouched h = full_is ∙ ((λ i. filled i || (is_full s.matrix c && not (voided i))) ∙ stays_so (is_full s.matrix c))
    where
      none : (full : Bool) → is_changed full (taken_acts all (acts_of all begun)) c ≡ false
      none full = false_by (is_changed full (taken_acts all (acts_of all begun)) c) (λ g. let editing_leader = leader_of_edit full g in not_both editing_leader.3 (h editing_leader.0 editing_leader.1 editing_leader.2 full))

      filled : is_filled (taken_acts all (acts_of all begun)) c ≡ false
      filled = none false

      voided : is_voided (taken_acts all (acts_of all begun)) c ≡ false
      voided = none true

      stays_so : (b : Bool) → (false || (b && not false)) ≡ b
      stays_so true = refl
      stays_so false = refl

  pub touched : (full : Bool) (l : Act) → In l all → leads_in begun l ≡ true → IsEditOf l c (Some full)
      → full ≡ is_full (matrix_after s.matrix (taken_acts all (acts_of all begun))) c
  touched true l i h e = sym (full_is ∙ or_by_first (is_filled (taken_acts all (acts_of all begun)) c) (is_full s.matrix c && not (is_voided (taken_acts all (acts_of all begun)) c)) (edit_of_leader false l i h e))
  touched false l i h e = sym (full_is ∙ ((λ j. filled j || (is_full s.matrix c && not (voided j))) ∙ gone (is_full s.matrix c)))
    where
      voided : is_voided (taken_acts all (acts_of all begun)) c ≡ true
      voided = edit_of_leader true l i h e

      filled : is_filled (taken_acts all (acts_of all begun)) c ≡ false
      filled = false_by (is_filled (taken_acts all (acts_of all begun)) c) (λ g. one_way s all good c within (in_any (λ (x : Act). is_edited true x c) l all i e) (some_edit false g))

      gone : (b : Bool) → (false || (b && not true)) ≡ false
      gone true = refl
      gone false = refl

-- ---- the effect of one command on a voxel

module _ (r : ℕ) (b : Bot) (k : Command) (w : EditedRegion) (h : IsEditedRegion r b k w) (c : Coord) where
  pub edit_within : is_within (span w.region) (point c) ≡ true → is_edited (not w.full) (act b k) c ≡ true
  edit_within e = sym (edits_region r b k w (not w.full) h (other w.full) c) ∙ e
    where
      other : (f : Bool) → beq f (not f) ≡ false
      other true = refl
      other false = refl

  outside : is_within (span w.region) (point c) ≡ false → (full : Bool) → is_edited full (act b k) c ≡ false
  outside e full = by (beq w.full full) refl
    where
      by : (t : Bool) → beq w.full full ≡ t → is_edited full (act b k) c ≡ false
      by true t = sym (edits_nothing r b k w full h t c)
      by false t = sym (edits_region r b k w full h t c) ∙ e

  pub edit_outside : is_within (span w.region) (point c) ≡ false → IsEditOf (act b k) c None
  edit_outside e = (outside e true, outside e false)

-- ---- the acts, by index

-- the first i acts neither fill nor void the coordinate, except those whose groups are not begun
abbrev pub AreKeptBy : List ℕ → Coord → List Act → ℕ → Type 0
AreKeptBy begun c all i = (k : ℕ) (a : Act) → k < i → k < length all → IsKeptBy begun c (get_or all k a)

act_at : (bots : List Bot) (commands : List Command) (i : ℕ) (b : Bot) (k : Command) (a : Act) → i < length bots
    → i < length commands → get_or (acts bots commands) i a ≡ act (get_or bots i b) (get_or commands i k)
act_at [] commands i b k a l m = absurd (omega arith)
act_at (x ∷ bots) [] i b k a l m = absurd (omega arith)
act_at (x ∷ bots) (y ∷ commands) zero b k a l m = refl
act_at (x ∷ bots) (y ∷ commands) (suc i) b k a l m = act_at bots commands i b k a (omega arith) (omega arith)

pub acts_short : (bots : List Bot) (commands : List Command) → length (acts bots commands) ≤ length commands
acts_short [] commands = omega arith
acts_short (b ∷ bots) [] = omega arith
acts_short (b ∷ bots) (k ∷ commands) = let acts_bound = acts_short bots commands in omega arith

acts_long : (bots : List Bot) (commands : List Command) (i : ℕ) → i < length bots → i < length commands
    → i < length (acts bots commands)
acts_long [] commands i l m = absurd (omega arith)
acts_long (x ∷ bots) [] i l m = absurd (omega arith)
acts_long (x ∷ bots) (y ∷ commands) zero l m = omega arith
acts_long (x ∷ bots) (y ∷ commands) (suc i) l m = let place_in_acts = acts_long bots commands i (omega arith) (omega arith) in omega (arith, place_in_acts)

module _ (s : State) (next : List Command) (step : ℕ) (ready : IsReady s) (keeps : broken s next step ≡ None) (begun : List ℕ) (c : Coord) (within : IsInSpace s.matrix.resolution c) where
  as_many : length (acts s.bots next) ≡ length s.bots
  as_many = sym (length-map (acts s.bots next) (λ (a : Act). a.bot)) ∙ ap length (bots_of s next step ready keeps)

  pub has_command : (i : ℕ) → i < length s.bots → i < length next
  has_command i l = let same_length = as_many in let acts_bound = acts_short s.bots next in omega (arith, l, same_length, acts_bound)

  module _ (bots : List Bot) (same : bots ≡ s.bots) (i : ℕ) (below : i < length bots) (b d : Bot) (k e : Command) (bot : b ≡ get_or bots i d) (command : k ≡ get_or next i e) where
    here_below : i < length s.bots
    here_below = let length_is = ap length same in omega (arith, below, length_is)

    act_here : (a : Act) → get_or (acts s.bots next) i a ≡ act b k
    act_here a = act_at s.bots next i d e a here_below (has_command i here_below) ∙ (λ j. act (sym (bot ∙ ap (λ (bs : List Bot). get_or bs i d) same) j) (sym command j))

    among : In (act b k) (acts s.bots next)
    among = subst (λ (a : Act). In a (acts s.bots next)) (act_here (act b k)) (place_in (act b k) (acts s.bots next) i (acts_long s.bots next i here_below (has_command i here_below)))

    pub stays_here : IsTrue (stays_in_space s.matrix.resolution (act b k))
    stays_here = stays s next step ready keeps (act b k) among

    pub one_kept : AreKeptBy begun c (acts s.bots next) i → IsKeptBy begun c (act b k)
        → AreKeptBy begun c (acts s.bots next) (i + 1)
    one_kept before h n a l m = by (ℕ_discrete n i)
      where
        by : Dec (n ≡ i) → IsKeptBy begun c (get_or (acts s.bots next) n a)
        by (yes f) = subst (λ (x : Act). IsKeptBy begun c x) (sym (ap (λ j. get_or (acts s.bots next) j a) f ∙ act_here a)) h
        by (no ne) = before n a (less n i l ne) m
          where
            less : (x y : ℕ) → x < y + 1 → (x ≡ y → ⊥) → x < y
            less x y p q = grind arith

    -- the group is not begun
    pub not_led : list_any (λ j. j == b.bid) begun ≡ false → IsKeptBy begun c (act b k)
    not_led f g = absurd (not_both g f)

    pub not_edited : IsEditOf (act b k) c None → IsKeptBy begun c (act b k)
    not_edited h g true = h.0
    not_edited h g false = h.1

    pub decided : (full : Bool) → list_any (λ j. j == b.bid) begun ≡ true → IsEditOf (act b k) c (Some full)
        → full ≡ is_full (matrix_after_some s next begun) c
    decided full g h = touched s (acts s.bots next) (good_is s next step ready keeps) begun c within full (act b k) among g h

  pub all_kept : (i : ℕ) → length s.bots ≤ i → AreKeptBy begun c (acts s.bots next) i
      → is_full (matrix_after_some s next begun) c ≡ is_full s.matrix c
  all_kept i past h = untouched s (acts s.bots next) (good_is s next step ready keeps) begun c within (λ a j.
      let place = in_place a a (acts s.bots next) j in
      subst (λ (x : Act). IsKeptBy begun c x) place.2 (h place.0 a (let l = place.1 in let acts_bound = acts_few s.bots next in omega (arith, l, acts_bound, past)) place.1))

-- ---- the bids in a list

pub unfound : (bids : List ℕ) (bid : ℕ) (place : Option ℕ) (none : Bool) → is_some place ≡ not none → none ≡ true
    → IfNone place (list_any (λ k. k == bid) bids ≡ false) → list_any (λ k. k == bid) bids ≡ false
unfound bids bid None none e f h = h
unfound bids bid (Some i) none e f h = absurd (let not_holds : true ≡ not true = e ∙ ap not f in cc)

pub found : (bids : List ℕ) (bid : ℕ) (place : Option ℕ) (none : Bool) → is_some place ≡ not none → none ≡ false
    → IfSome place (λ i. (i < length bids) × (get_or bids i 0 ≡ bid)) → list_any (λ k. k == bid) bids ≡ true
found bids bid None none e f h = absurd (let not_not : false ≡ not false = e ∙ ap not f in cc)
found bids bid (Some i) none e f h = any_here bids i bid h.0 h.1

-- ---- the voxel of the middle state

module _ (v : Situation) (notes : Buffer Undo) (commands : List Command) (taken : ℕ) (begun left : List ℕ) (bots : List Bot) (d : Debugging)
    (e : debugging_of v notes.items commands taken begun ≡ d) (kept : IsKept v notes commands taken begun left bots) (stands : d.spent ≡ false) (c : Coord) where
  pub space_here : IsInSpace d.session.point.state.matrix.resolution c → IsInSpace v.state.matrix.resolution c
  space_here h = subst (λ (x : Debugging). IsInSpace x.session.point.state.matrix.resolution c) (sym e) h

  pub full_between : MiddleLaw → IsReady v.state → (begun ≡ [] → ⊥) → (full : Bool)
      → full ≡ is_full (matrix_after_some v.state (next_commands commands (point_of v taken)) begun) c
      → IsSomeAnd (middle_state d.commands d.session) (λ m. full ≡ is_full m.matrix c)
  full_between law ready some full f =
      let are = begun_are v notes commands taken begun left bots d e kept stands some in
      subst (λ (x : Debugging). IsSomeAnd (middle_state x.commands x.session) (λ m. full ≡ is_full m.matrix c)) e
      (subst (λ (o : Option State). IsSomeAnd o (λ m. full ≡ is_full m.matrix c)) (sym (law v.state (next_commands commands (point_of v taken)) (v.steps + 1) begun left ready are.keeps are.leaders)) f)

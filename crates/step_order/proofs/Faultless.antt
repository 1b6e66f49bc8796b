-- Bots that meet the conditions of their commands break no rule that is judged bot by bot.
use Rattle.std.proofs.Common.{◌≡◌, ℕ, ◌+◌, ◌<◌, ◌^◌, refl, sym, ◌∙◌, ap, subst, inl, inr, ◌⊎◌, arith, List, [], ◌∷◌, Bool, true, false, cond, ◌&&◌, ◌||◌, not, nat_le, ◌==◌, eq-eqb, length}
use Rattle.std.specs.Prelude.{ℤ, Some, None, IsTrue, int_le, find, flat_map}
use Rattle.std.specs.List.{AllByRecursion}
use Rattle.std.proofs.lemmas.Bool.Decides.{nat_tests}
use Rattle.std.proofs.lemmas.Int.{ints}
use Rattle.vox_geom.specs.declared.difference.Diff.{Diff}
use Rattle.vox_geom.specs.Point.{Point, point, plus, same_point}
use Rattle.vox_geom.specs.Region.{Span, between, differs, dimension, is_between, is_within, just, same_extent, same_region}
use Rattle.vox_geom.specs.Space.{in_space}
use Rattle.vox_geom.proofs.Truths.{and_false, first_of_two, second_of_two}
use Rattle.nano_spec.specs.declared.commands.Command.{Command}
use Rattle.nano_spec.specs.declared.commands.Command.TheVariants.{Halt, Wait, Flip, SMove, LMove, FusionP, FusionS, Fission, Fill, Void, GFill, GVoid}
use Rattle.nano_spec.specs.declared.outcomes.Rule.{Rule}
use Rattle.nano_spec.specs.declared.outcomes.Rule.TheVariants.{Forbidden, HaltAlone, HaltOrigin, HaltLow, OutOfSpace, Blocked, Seeds, InRegion, Partner, GroupShape}
use Rattle.nano_spec.specs.declared.system.Bot.{Bot}
use Rattle.nano_spec.specs.Act.{Act, position}
use Rattle.nano_spec.specs.Group.{are_partners, are_together, members, share_region}
use Rattle.nano_spec.specs.Matrix.{Matrix, all_of, is_full}
use Rattle.nano_spec.specs.Profile.{is_allowed}
use Rattle.nano_spec.specs.Rules.{corners_of, fault, repeats}
use Rattle.nano_spec.specs.State.{State, origin, seed_list}
use Rattle.nano_spec.specs.Volatile.{volatile_regions}
use Rattle.step_order.specs.Apart.{AreApart, AreBelow, DoNotInterfere, LieApart, MayMeet, before_x, before_y, before_z, after_x, after_y, after_z}
use Rattle.step_order.specs.Unbroken.{AreFree, AreOneGroup, HasPartner, IsCornered, IsFree, IsFreeWay, IsMember, MayAct, MayHalt, MayJoin}
use Rattle.step_order.proofs.Judgements.{Agree, AreClear, contained}
use Rattle.step_order.proofs.Lists.{In, any_in, filter_every, in_any, none_find}
use Rattle.step_order.proofs.Together.{extent_is, is_together, partners, region_back, region_on, region_parts, shares, together_back, with_itself}

-- a bot and its command
abbrev act : Bot → Command → Act
act bot command = record { bot = bot; command = command }

-- ---- disjoint regions

axis_apart : (a b c d v : ℤ) → AreBelow a b c d → is_between a b v ≡ true → is_between c d v ≡ true → ⊥
axis_apart a b c d v h i j = grind (arith, ints)

-- a point of a region lies between the region's ends on each axis
module _ (s : Span) (p : Point) (h : is_within s p ≡ true) where
  within_x : is_between s.from.x s.to.x p.x ≡ true
  within_x = first_of_two (is_between s.from.x s.to.x p.x) (is_between s.from.y s.to.y p.y) (first_of_two (is_between s.from.x s.to.x p.x && is_between s.from.y s.to.y p.y) (is_between s.from.z s.to.z p.z) h)

  within_y : is_between s.from.y s.to.y p.y ≡ true
  within_y = second_of_two (is_between s.from.x s.to.x p.x) (is_between s.from.y s.to.y p.y) (first_of_two (is_between s.from.x s.to.x p.x && is_between s.from.y s.to.y p.y) (is_between s.from.z s.to.z p.z) h)

  within_z : is_between s.from.z s.to.z p.z ≡ true
  within_z = second_of_two (is_between s.from.x s.to.x p.x && is_between s.from.y s.to.y p.y) (is_between s.from.z s.to.z p.z) h

none_shared : (s t : Span) (p : Point) → LieApart s t → is_within s p ≡ true → is_within t p ≡ true → ⊥
none_shared s t p (before_x h) i j = axis_apart s.from.x s.to.x t.from.x t.to.x p.x h (within_x s p i) (within_x t p j)
none_shared s t p (before_y h) i j = axis_apart s.from.y s.to.y t.from.y t.to.y p.y h (within_y s p i) (within_y t p j)
none_shared s t p (before_z h) i j = axis_apart s.from.z s.to.z t.from.z t.to.z p.z h (within_z s p i) (within_z t p j)
none_shared s t p (after_x h) i j = axis_apart t.from.x t.to.x s.from.x s.to.x p.x h (within_x t p j) (within_x s p i)
none_shared s t p (after_y h) i j = axis_apart t.from.y t.to.y s.from.y s.to.y p.y h (within_y t p j) (within_y s p i)
none_shared s t p (after_z h) i j = axis_apart t.from.z t.to.z s.from.z s.to.z p.z h (within_z t p j) (within_z s p i)

-- a property of all elements of a list is one of each that is in it
pub all_by : {X : Type 0} (P : X → Type 0) (xs : List X) (x : X) → AllByRecursion P xs → In x xs → P x
all_by P [] x h i = absurd i
all_by P (y ∷ ys) x h (inl e) = subst P (sym e) h.0
all_by P (y ∷ ys) x h (inr i) = all_by P ys x h.1 i

clear : (a b : Act) → AreApart a b → AreClear a b
clear a b h = λ c v w.
    let witness = any_in (λ (r : Span). is_within r (point c)) (volatile_regions (position a) a.command) v in
    let its_witness = any_in (λ (r : Span). is_within r (point c)) (volatile_regions (position b) b.command) w in
    none_shared witness.0 its_witness.0 (point c) (all_by (λ (r : Span). LieApart witness.0 r) (volatile_regions (position b) b.command) its_witness.0 (all_by (λ (q : Span). AllByRecursion (λ (r : Span). LieApart q r) (volatile_regions (position b) b.command)) (volatile_regions (position a) a.command) witness.0 h witness.1) its_witness.1) witness.2 its_witness.2

meets : (a b : Act) → MayMeet a b → Agree a b
meets a b (inl h) = inl (is_together a b (partners h))
meets a b (inr h) = inr (clear a b h)

turned : (a b : Act) → Agree a b → Agree b a
turned a b (inl h) = inl (together_back a b h)
turned a b (inr h) = inr (λ c v w. h c w v)

-- ---- bots that fuse in pairs or act alone

agree_in : (xs : List Act) → DoNotInterfere xs → (a b : Act) → In a xs → In b xs → Agree a b
agree_in [] h a b i j = absurd i
agree_in (x ∷ xs) h a b (inl i) (inl j) = inl (subst (λ (y : Act). are_together a y ≡ true) (i ∙ sym j) (with_itself a))
agree_in (x ∷ xs) h a b (inl i) (inr j) = subst (λ (y : Act). Agree y b) (sym i) (meets x b (all_by (λ (y : Act). MayMeet x y) xs b h.0 j))
agree_in (x ∷ xs) h a b (inr i) (inl j) = subst (λ (y : Act). Agree a y) (sym j) (turned x a (meets x a (all_by (λ (y : Act). MayMeet x y) xs a h.0 i)))
agree_in (x ∷ xs) h a b (inr i) (inr j) = agree_in xs h.1 a b i j

pub one_way : (way full : Bool) → (IsTrue way → full ≡ false) → (full && (way || false)) ≡ false
one_way true full f = rw (f refl) refl
one_way false full f = and_false full

two_ways : (way next full : Bool) → (IsTrue way → full ≡ false) → (IsTrue next → full ≡ false)
    → (full && (way || (next || false))) ≡ false
two_ways true next full f g = rw (f refl) refl
two_ways false next full f g = one_way next full g

enough : (n m : ℕ) → m < n → nat_le n m ≡ false
enough n m h = grind (arith, nat_tests)

none_blocked : (m : Matrix) → find (λ c. is_full m c && false) (all_of m) ≡ None
none_blocked m = none_find (λ c. is_full m c && false) (all_of m) (λ c i. and_false (is_full m c))

module _ (s : State) (all : List Act) (b : Bot) where
  halt_faults : is_allowed s.profile Halt ≡ true → MayHalt s (act b Halt) → (rule : Rule)
      → fault s all (act b Halt) rule ≡ None
  halt_faults a h Forbidden = rw a refl
  halt_faults a h HaltAlone = let alone = h.alone in rw alone refl
  halt_faults a h HaltOrigin = ap (λ (q : Point). cond (not (same_point q (point origin))) (Some b.pos) None) h.home
  halt_faults a h HaltLow = let low = h.low in rw low refl
  halt_faults a h Blocked = none_blocked s.matrix
  halt_faults a h _ = refl

  wait_faults : is_allowed s.profile Wait ≡ true → (rule : Rule) → fault s all (act b Wait) rule ≡ None
  wait_faults a Forbidden = rw a refl
  wait_faults a Blocked = none_blocked s.matrix
  wait_faults a _ = refl

  flip_faults : is_allowed s.profile Flip ≡ true → (rule : Rule) → fault s all (act b Flip) rule ≡ None
  flip_faults a Forbidden = rw a refl
  flip_faults a Blocked = none_blocked s.matrix
  flip_faults a _ = refl

  smove_faults : (d : Diff) → is_allowed s.profile (SMove d) ≡ true
      → IsFreeWay s.matrix (point b.pos) (plus (point b.pos) d) → (rule : Rule)
      → fault s all (act b (SMove d)) rule ≡ None
  smove_faults d a w Forbidden = rw a refl
  smove_faults d a w OutOfSpace = let within = w.within in rw within refl
  smove_faults d a w Blocked = none_find _ (all_of s.matrix) (λ c i. one_way (is_within (between (point b.pos) (plus (point b.pos) d)) (point c)) (is_full s.matrix c) (w.void c))
  smove_faults d a w _ = refl

  lmove_faults : (d e : Diff) → is_allowed s.profile (LMove d e) ≡ true
      → IsFreeWay s.matrix (point b.pos) (plus (point b.pos) d)
      → IsFreeWay s.matrix (plus (point b.pos) d) (plus (plus (point b.pos) d) e) → (rule : Rule)
      → fault s all (act b (LMove d e)) rule ≡ None
  lmove_faults d e a w v Forbidden = rw a refl
  lmove_faults d e a w v OutOfSpace = let its_within = w.within in let within = v.within in rw (its_within, within) refl
  lmove_faults d e a w v Blocked = none_find _ (all_of s.matrix) (λ c i. two_ways (is_within (between (point b.pos) (plus (point b.pos) d)) (point c)) (is_within (between (plus (point b.pos) d) (plus (plus (point b.pos) d) e)) (point c)) (is_full s.matrix c) (w.void c) (v.void c))
  lmove_faults d e a w v _ = refl

  primary_faults : (d : Diff) → is_allowed s.profile (FusionP d) ≡ true
      → HasPartner s.matrix.resolution all (act b (FusionP d)) (plus (point b.pos) d) → (rule : Rule)
      → fault s all (act b (FusionP d)) rule ≡ None
  primary_faults d a h Forbidden = rw a refl
  primary_faults d a h OutOfSpace = let within = h.within in rw within refl
  primary_faults d a h Blocked = none_blocked s.matrix
  primary_faults d a h Partner = let some_holds = in_any (are_partners (act b (FusionP d))) h.other all (contained all h.other h.here) h.partners in rw some_holds refl
  primary_faults d a h _ = refl

  secondary_faults : (d : Diff) → is_allowed s.profile (FusionS d) ≡ true
      → HasPartner s.matrix.resolution all (act b (FusionS d)) (plus (point b.pos) d) → (rule : Rule)
      → fault s all (act b (FusionS d)) rule ≡ None
  secondary_faults d a h Forbidden = rw a refl
  secondary_faults d a h OutOfSpace = let within = h.within in rw within refl
  secondary_faults d a h Blocked = none_blocked s.matrix
  secondary_faults d a h Partner = let some_holds = in_any (are_partners (act b (FusionS d))) h.other all (contained all h.other h.here) h.partners in rw some_holds refl
  secondary_faults d a h _ = refl

  fission_faults : (d : Diff) (m : ℕ) → is_allowed s.profile (Fission d m) ≡ true
      → IsFreeWay s.matrix (plus (point b.pos) d) (plus (point b.pos) d) → m < length (seed_list b.seeds)
      → (rule : Rule) → fault s all (act b (Fission d m)) rule ≡ None
  fission_faults d m a w l Forbidden = rw a refl
  fission_faults d m a w l OutOfSpace = let within = w.within in rw within refl
  fission_faults d m a w l Blocked = none_find _ (all_of s.matrix) (λ c i. one_way (is_within (just (plus (point b.pos) d)) (point c)) (is_full s.matrix c) (w.void c))
  fission_faults d m a w l Seeds = let enough_seeds = enough (length (seed_list b.seeds)) m l in rw enough_seeds refl
  fission_faults d m a w l _ = refl

  fill_faults : (d : Diff) → is_allowed s.profile (Fill d) ≡ true
      → in_space s.matrix.resolution (plus (point b.pos) d) ≡ true → (rule : Rule)
      → fault s all (act b (Fill d)) rule ≡ None
  fill_faults d a i Forbidden = rw a refl
  fill_faults d a i OutOfSpace = rw i refl
  fill_faults d a i Blocked = none_blocked s.matrix
  fill_faults d a i _ = refl

  void_faults : (d : Diff) → is_allowed s.profile (Void d) ≡ true
      → in_space s.matrix.resolution (plus (point b.pos) d) ≡ true → (rule : Rule)
      → fault s all (act b (Void d)) rule ≡ None
  void_faults d a i Forbidden = rw a refl
  void_faults d a i OutOfSpace = rw i refl
  void_faults d a i Blocked = none_blocked s.matrix
  void_faults d a i _ = refl

  faults_by : (k : Command) → is_allowed s.profile k ≡ true → MayAct s all (act b k) k → (rule : Rule)
      → fault s all (act b k) rule ≡ None
  faults_by Halt a h = halt_faults a h
  faults_by Wait a h = wait_faults a
  faults_by Flip a h = flip_faults a
  faults_by (SMove d) a h = smove_faults d a h
  faults_by (LMove d e) a h = lmove_faults d e a h.0 h.1
  faults_by (FusionP d) a h = primary_faults d a h
  faults_by (FusionS d) a h = secondary_faults d a h
  faults_by (Fission d m) a h = fission_faults d m a h.0 h.1
  faults_by (Fill d) a h = fill_faults d a h
  faults_by (Void d) a h = void_faults d a h
  faults_by (GFill d f) a h = absurd h
  faults_by (GVoid d f) a h = absurd h

pub free_faults : (s : State) (all : List Act) → AreFree s all → (a : Act) (rule : Rule) → In a all
    → fault s all a rule ≡ None
free_faults s all h a rule i =
    let holds_for_all = all_by (IsFree s all) all a h.each i in
    faults_by s all a.bot a.command holds_for_all.allowed holds_for_all.may rule

pub free_agree : (s : State) (all : List Act) → AreFree s all → (a b : Act) → In a all → In b all → Agree a b
free_agree s all h = agree_in all h.untangled

-- ---- one group

differs_as : (a b c d : ℤ) → same_extent a b c d ≡ true → differs a b ≡ differs c d
differs_as a b c d h = by (extent_is a b c d h)
  where
    back : differs c d ≡ differs d c
    back = ap (λ t. cond {A = ℕ} t 0 1) (and_turned (int_le c d) (int_le d c))
      where
        and_turned : (x y : Bool) → (x && y) ≡ (y && x)
        and_turned true true = refl
        and_turned true false = refl
        and_turned false true = refl
        and_turned false false = refl

    by : ((a ≡ c) × (b ≡ d)) ⊎ ((a ≡ d) × (b ≡ c)) → differs a b ≡ differs c d
    by (inl e) = λ i. differs (e.0 i) (e.1 i)
    by (inr e) = (λ i. differs (e.0 i) (e.1 i)) ∙ sym back

dimension_as : (s t : Span) → same_region s t ≡ true → dimension s ≡ dimension t
dimension_as s t h =
    let same_extents = region_parts s t h in
    let differ_alike_x = differs_as s.from.x s.to.x t.from.x t.to.x same_extents.0 in
    let differ_alike_y = differs_as s.from.y s.to.y t.from.y t.to.y same_extents.1 in
    let differ_alike_z = differs_as s.from.z s.to.z t.from.z t.to.z same_extents.2 in
    λ i. differ_alike_x i + differ_alike_y i + differ_alike_z i

pub between_as : (a b c d v : ℤ) → same_extent a b c d ≡ true → is_between a b v ≡ is_between c d v
between_as a b c d v h = by (extent_is a b c d h)
  where
    or_turned : (x y : Bool) → (x || y) ≡ (y || x)
    or_turned true true = refl
    or_turned true false = refl
    or_turned false true = refl
    or_turned false false = refl

    by : ((a ≡ c) × (b ≡ d)) ⊎ ((a ≡ d) × (b ≡ c)) → is_between a b v ≡ is_between c d v
    by (inl e) = λ i. is_between (e.0 i) (e.1 i) v
    by (inr e) = (λ i. is_between (e.0 i) (e.1 i) v) ∙ or_turned (int_le d v && int_le v c) (int_le c v && int_le v d)

-- equal regions contain the same points
pub within_as : (s t : Span) (p : Point) → same_region s t ≡ true → is_within s p ≡ is_within t p
within_as s t p h =
    let same_extents = region_parts s t h in
    let between_alike_x = between_as s.from.x s.to.x t.from.x t.to.x p.x same_extents.0 in
    let between_alike_y = between_as s.from.y s.to.y t.from.y t.to.y p.y same_extents.1 in
    let between_alike_z = between_as s.from.z s.to.z t.from.z t.to.z p.z same_extents.2 in
    λ i. between_alike_x i && between_alike_y i && between_alike_z i

-- the group command that fills or voids
abbrev word : Bool → Diff → Diff → Command
word true d f = GFill d f
word false d f = GVoid d f

-- the command by which a bot takes part in filling or voiding the region
record IsJoining (r : ℕ) (region : Span) (full : Bool) (p : Point) (c : Command) : Type 0 where
  near : Diff
  far : Diff
  command : c ≡ word full near far
  cornered : IsCornered r region p (plus p near) (plus (plus p near) far)

joining : (r : ℕ) (region : Span) (full : Bool) (p : Point) (c : Command) → MayJoin r region full p c
    → IsJoining r region full p c
joining r region true p (GFill d f) h = record { near = d; far = f; command = refl; cornered = h }
joining r region true p _ h = absurd h
joining r region false p (GVoid d f) h = record { near = d; far = f; command = refl; cornered = h }
joining r region false p _ h = absurd h

shared : (full : Bool) (p : Point) (d f : Diff) (q : Point) (e g : Diff)
    → same_region (between (plus p d) (plus (plus p d) f)) (between (plus q e) (plus (plus q e) g)) ≡ true
    → share_region p (word full d f) q (word full e g) ≡ true
shared true p d f q e g h = h
shared false p d f q e g h = h

joined : (r : ℕ) (region : Span) (full : Bool) (p : Point) (c : Command) (q : Point) (e : Command)
    → IsJoining r region full p c → IsJoining r region full q e → share_region p c q e ≡ true
joined r region full p c q e h k =
    (λ i. share_region p (h.command i) q (k.command i))
    ∙ shared full p h.near h.far q k.near k.far (region_on (between (plus p h.near) (plus (plus p h.near) h.far)) region (between (plus q k.near) (plus (plus q k.near) k.far)) h.cornered.same (region_back (between (plus q k.near) (plus (plus q k.near) k.far)) region k.cornered.same))

well_shaped : (n k : ℕ) (t : Bool) → n ≡ k → t ≡ false → ((not (n == k) || t) || false) ≡ false
well_shaped n k t e f = rw (f, eq-eqb n k e) refl

no_region : (t : Bool) → t ≡ false → (t || false) ≡ false
no_region t e = rw e refl

module _ (s : State) (all : List Act) (region : Span) (b : Bot) (d f : Diff) (corner : IsCornered s.matrix.resolution region (point b.pos) (plus (point b.pos) d) (plus (plus (point b.pos) d) f)) (many : length all ≡ 2 ^ dimension region) (differ : repeats (flat_map (λ a. corners_of (position a) a.command) all) ≡ false) where
  stays :
      not (in_space s.matrix.resolution (plus (point b.pos) d) && (in_space s.matrix.resolution (plus (plus (point b.pos) d) f) && true))
      ≡ false
  stays = let near_within = corner.near_within in let far_within = corner.far_within in rw (near_within, far_within) refl

  outside : (is_within (between (plus (point b.pos) d) (plus (plus (point b.pos) d) f)) (point b.pos) || false) ≡ false
  outside = no_region _ (within_as (between (plus (point b.pos) d) (plus (plus (point b.pos) d) f)) region (point b.pos) corner.same ∙ corner.outside)

  shaped : (ms : List Act) → ms ≡ all
      → ((not (length ms == 2 ^ dimension (between (plus (point b.pos) d) (plus (plus (point b.pos) d) f)))
      || repeats (flat_map (λ a. corners_of (position a) a.command) ms)) || false) ≡ false
  shaped ms e =
      well_shaped (length ms) (2 ^ dimension (between (plus (point b.pos) d) (plus (plus (point b.pos) d) f))) (repeats (flat_map (λ a. corners_of (position a) a.command) ms))
      (ap length e ∙ (many ∙ ap (λ n. 2 ^ n) (sym (dimension_as (between (plus (point b.pos) d) (plus (plus (point b.pos) d) f)) region corner.same))))
      (ap (λ (xs : List Act). repeats (flat_map (λ a. corners_of (position a) a.command) xs)) e ∙ differ)

  gfill_faults : is_allowed s.profile (GFill d f) ≡ true → members all (act b (GFill d f)) ≡ all → (rule : Rule)
      → fault s all (act b (GFill d f)) rule ≡ None
  gfill_faults a m Forbidden = rw a refl
  gfill_faults a m OutOfSpace = ap (λ t. cond t (Some b.pos) None) stays
  gfill_faults a m Blocked = none_blocked s.matrix
  gfill_faults a m InRegion = ap (λ t. cond t (Some b.pos) None) outside
  gfill_faults a m GroupShape = ap (λ t. cond t (Some b.pos) None) (shaped (members all (act b (GFill d f))) m)
  gfill_faults a m _ = refl

  gvoid_faults : is_allowed s.profile (GVoid d f) ≡ true → members all (act b (GVoid d f)) ≡ all → (rule : Rule)
      → fault s all (act b (GVoid d f)) rule ≡ None
  gvoid_faults a m Forbidden = rw a refl
  gvoid_faults a m OutOfSpace = ap (λ t. cond t (Some b.pos) None) stays
  gvoid_faults a m Blocked = none_blocked s.matrix
  gvoid_faults a m InRegion = ap (λ t. cond t (Some b.pos) None) outside
  gvoid_faults a m GroupShape = ap (λ t. cond t (Some b.pos) None) (shaped (members all (act b (GVoid d f))) m)
  gvoid_faults a m _ = refl

  word_faults : (full : Bool) → is_allowed s.profile (word full d f) ≡ true → members all (act b (word full d f)) ≡ all
      → (rule : Rule) → fault s all (act b (word full d f)) rule ≡ None
  word_faults true = gfill_faults
  word_faults false = gvoid_faults

module _ (s : State) (region : Span) (full : Bool) (all : List Act) (h : AreOneGroup s region full all) where
  joining_in : (a : Act) → In a all → IsJoining s.matrix.resolution region full (position a) a.command
  joining_in a i = joining s.matrix.resolution region full (position a) a.command (all_by (IsMember s region full) all a h.each i).joins

  pub one_group : (a b : Act) → In a all → In b all → are_together a b ≡ true
  one_group a b i j = is_together a b (shares (joined s.matrix.resolution region full (position a) a.command (position b) b.command (joining_in a i) (joining_in b j)))

  pub group_members : (a : Act) → In a all → members all a ≡ all
  group_members a i = filter_every (are_together a) all (λ b j. one_group a b i j)

  pub group_faults : (a : Act) (rule : Rule) → In a all → fault s all a rule ≡ None
  group_faults a rule i =
      let joins = joining_in a i in
      let same : a ≡ act a.bot (word full joins.near joins.far) = (λ j. act a.bot (joins.command j)) in
      subst (λ (x : Act). fault s all x rule ≡ None) (sym same)
      (word_faults s all region a.bot joins.near joins.far joins.cornered h.many h.corners full
      (ap (is_allowed s.profile) (sym joins.command) ∙ (all_by (IsMember s region full) all a h.each i).allowed)
      (ap (members all) (sym same) ∙ group_members a i) rule)

  pub group_agree : (a b : Act) → In a all → In b all → Agree a b
  group_agree a b i j = inl (one_group a b i j)

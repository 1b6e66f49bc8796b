-- The effect of a step in which the last two bots of a line fuse.
use Rattle.std.proofs.Common.{◌≡◌, ℕ, suc, ◌+◌, ◌<◌, ◌≤◌, refl, sym, ◌∙◌, ap, subst, inl, inr, arith, true, ◌&&◌, List, [], ◌∷◌, ◌++◌, length}
use Rattle.std.specs.Prelude.{IsTrue, flat_map}
use Rattle.std.specs.List.{AllByRecursion, Contains}
use Rattle.vox_geom.specs.declared.coordinate.Coord.{Coord}
use Rattle.vox_geom.specs.Point.{Point, plus, point, same_point}
use Rattle.vox_geom.specs.Space.{IsInSpace, in_space}
use Rattle.vox_geom.proofs.Truths.{or_by_first, or_by_second}
use Rattle.vox_geom.proofs.Sums.{less_one, plus_none}
use Rattle.vox_geom.proofs.Points.{in_space_is, point_itself}
use Rattle.nano_spec.specs.declared.commands.Command.{Command}
use Rattle.nano_spec.specs.declared.commands.Command.TheVariants.{FusionP, FusionS, Wait}
use Rattle.nano_spec.specs.declared.system.Bot.{Bot}
use Rattle.nano_spec.specs.declared.system.Profile.{Profile}
use Rattle.nano_spec.specs.Act.{Act, acts}
use Rattle.nano_spec.specs.Bots.{fused as fused_bot, successors}
use Rattle.nano_spec.specs.Group.{is_pair}
use Rattle.nano_spec.specs.Profile.{is_allowed, light_profile}
use Rattle.nano_spec.specs.State.{State}
use Rattle.step_order.specs.Unbroken.{AreFree, IsFree}
use Rattle.step_order.proofs.Judgements.{containing}
use Rattle.step_order.proofs.Lists.{In}
use Rattle.plan_tape.specs.Crowd.{FusesOrWaits, bots_fused}
use Rattle.plan_tape.specs.Progress.{TapeState, spot, state_of}
use Rattle.swarm_planner.specs.Crew.{places}
use Rattle.swarm_planner.specs.Lineup.{AreLined, InLine, next_along_x, free_column, without_last, last_column, left, pair_ends, right}
use Rattle.swarm_planner.proofs.Fences.{AreFenced, untangled}
use Rattle.swarm_planner.proofs.Filling.{just_in}
use Rattle.swarm_planner.proofs.Splitting.{right_is}

-- ---- two bots side by side

left_is : (p : Coord) → plus (point (next_along_x p)) left ≡ point p
left_is p = λ i. record { x = less_one p.x i; y = plus_none p.y i; z = plus_none p.z i }

-- the next position is the other bot's
beside_is : (p q : Coord) → q.x ≡ p.x + 1 → q.y ≡ p.y → q.z ≡ p.z → next_along_x p ≡ q
beside_is p q e f g = λ i. record { x = sym e i; y = sym f i; z = sym g i }

are_pair : (b c : Bot) → next_along_x b.pos ≡ c.pos
    → is_pair (record { bot = b; command = FusionP right }) (record { bot = c; command = FusionS left }) ≡ true
are_pair b c e =
    let to : same_point (plus (point b.pos) right) (point c.pos) ≡ true = (λ i. same_point (right_is b.pos i) (point (sym e i))) ∙ point_itself (next_along_x b.pos) in
    let back : same_point (plus (point c.pos) left) (point b.pos) ≡ true = (λ i. same_point (plus (point (sym e i)) left) (point b.pos)) ∙ ((λ i. same_point (left_is b.pos i) (point b.pos)) ∙ point_itself b.pos) in
    λ i. to i && back i

allowed : (profile : Profile) (k : Command) → profile ≡ light_profile → IsTrue (is_allowed light_profile k)
    → IsTrue (is_allowed profile k)
allowed profile k e h = subst (λ (f : Profile). IsTrue (is_allowed f k)) (sym e) h

-- ---- each bot's requirements hold

module _ (s : State) (light : s.profile ≡ light_profile) (y z : ℕ) (below : y < s.matrix.resolution) (deep : z < s.matrix.resolution) where
  pair_free : (all : List Act) (low : ℕ) (b c : Bot)
      → ((a : Act) → In a (acts (b ∷ c ∷ []) (FusionP right ∷ FusionS left ∷ [])) → In a all)
      → AreLined s.matrix.resolution y z low (b.pos ∷ c.pos ∷ []) → c.pos.x ≡ b.pos.x + 1
      → AllByRecursion (IsFree s all) (acts (b ∷ c ∷ []) (FusionP right ∷ FusionS left ∷ []))
  pair_free all low b c within k e =
      let next : next_along_x b.pos ≡ c.pos = beside_is b.pos c.pos e (k.1.0.height ∙ sym k.0.height) (k.1.0.depth ∙ sym k.0.depth) in
      let pair = are_pair b c next in
      let height = k.0.height in
      let depth = k.0.depth in
      let here : IsInSpace s.matrix.resolution b.pos = record { x = k.0.within; y = omega arith; z = omega arith } in
      let there : IsInSpace s.matrix.resolution (next_along_x b.pos) = let its_within = k.1.0.within in record { x = omega arith; y = omega arith; z = omega arith } in (
        record {
          allowed = allowed s.profile (FusionP right) light refl;
          may = record {
            within = subst (λ (q : Point). IsTrue (in_space s.matrix.resolution q)) (sym (right_is b.pos)) (in_space_is s.matrix.resolution (next_along_x b.pos) there);
            other = record { bot = c; command = FusionS left };
            here = containing all (record { bot = c; command = FusionS left }) (within (record { bot = c; command = FusionS left }) (inr (inl refl)));
            partners = or_by_first (is_pair (record { bot = b; command = FusionP right }) (record { bot = c; command = FusionS left })) _ pair;
          };
        },
        (
          record {
            allowed = allowed s.profile (FusionS left) light refl;
            may = record {
              within = subst (λ (q : Point). IsTrue (in_space s.matrix.resolution q)) (sym (ap (λ (q : Coord). plus (point q) left) (sym next) ∙ left_is b.pos)) (in_space_is s.matrix.resolution b.pos here);
              other = record { bot = b; command = FusionP right };
              here = containing all (record { bot = b; command = FusionP right }) (within (record { bot = b; command = FusionP right }) (inl refl));
              partners = or_by_second (is_pair (record { bot = c; command = FusionS left }) (record { bot = b; command = FusionP right })) (is_pair (record { bot = b; command = FusionP right }) (record { bot = c; command = FusionS left })) pair;
            };
          },
          tt,
        ),
      )

  each_free : (all : List Act) (bots : List Bot) (low : ℕ)
      → ((a : Act) → In a (acts bots (pair_ends (FusionP right) (FusionS left) bots)) → In a all)
      → AreLined s.matrix.resolution y z low (places bots) → last_column (places bots) ≡ free_column low (places bots)
      → 1 < length bots → AllByRecursion (IsFree s all) (acts bots (pair_ends (FusionP right) (FusionS left) bots))
  each_free all [] low within k e h = tt
  each_free all (b ∷ []) low within k e h = absurd (omega arith)
  each_free all (b ∷ c ∷ []) low within k e h = pair_free all low b c within k e
  each_free all (b ∷ c ∷ d ∷ more) low within k e h = (record { allowed = allowed s.profile Wait light refl; may = tt }, each_free all (c ∷ d ∷ more) (b.pos.x + 1) (λ a i. within a (inr i)) k.1 e (omega arith))

  all_fenced : (bots : List Bot) (low : ℕ) → AreLined s.matrix.resolution y z low (places bots)
      → last_column (places bots) ≡ free_column low (places bots) → 1 < length bots
      → AreFenced low (acts bots (pair_ends (FusionP right) (FusionS left) bots))
  all_fenced [] low k e h = AreFenced.none
  all_fenced (b ∷ []) low k e h = absurd (omega arith)
  all_fenced (b ∷ c ∷ []) low k e h =
      let its_past = k.0.past in
      let past = k.1.0.past in
      let next : next_along_x b.pos ≡ c.pos = beside_is b.pos c.pos e (k.1.0.height ∙ sym k.0.height) (k.1.0.depth ∙ sym k.0.depth) in
      AreFenced.two c.pos.x (just_in low c.pos.x (point b.pos) b.pos.x refl its_past (omega arith), tt) (just_in low c.pos.x (point c.pos) c.pos.x refl (omega arith) (omega arith), tt) (or_by_first (is_pair (record { bot = b; command = FusionP right }) (record { bot = c; command = FusionS left })) _ (are_pair b c next))
  all_fenced (b ∷ c ∷ d ∷ more) low k e h =
      let past = k.0.past in
      AreFenced.one b.pos.x past (just_in low b.pos.x (point b.pos) b.pos.x refl past (omega arith), tt) (all_fenced (c ∷ d ∷ more) (b.pos.x + 1) k.1 e (omega arith))

  pub fuse_free : (bots : List Bot) (low : ℕ) → AreLined s.matrix.resolution y z low (places bots)
      → last_column (places bots) ≡ free_column low (places bots) → 1 < length bots
      → AreFree s (acts bots (pair_ends (FusionP right) (FusionS left) bots))
  fuse_free bots low k e h = record { each = each_free (acts bots (pair_ends (FusionP right) (FusionS left) bots)) bots low (λ a i. i) k e h; untangled = untangled (all_fenced bots low k e h) }

fuse_waits : (bots : List Bot) → AllByRecursion FusesOrWaits (pair_ends (FusionP right) (FusionS left) bots)
fuse_waits [] = tt
fuse_waits (b ∷ []) = tt
fuse_waits (b ∷ c ∷ []) = (tt, (tt, tt))
fuse_waits (b ∷ c ∷ d ∷ more) = (tt, fuse_waits (c ∷ d ∷ more))

pub pair_length : (k l : Command) (bots : List Bot) → 1 < length bots → length (pair_ends k l bots) ≡ length bots
pair_length k l [] h = absurd (omega arith)
pair_length k l (b ∷ []) h = absurd (omega arith)
pair_length k l (b ∷ c ∷ []) h = refl
pair_length k l (b ∷ c ∷ d ∷ more) h = ap suc (pair_length k l (c ∷ d ∷ more) (omega arith))

-- ---- the bots afterwards

-- the bots, the last two as one
abbrev merged : List Bot → List Bot
merged [] = []
merged (b ∷ []) = []
merged (b ∷ c ∷ []) = fused_bot b c ∷ []
merged (b ∷ c ∷ d ∷ more) = b ∷ merged (c ∷ d ∷ more)

-- the law of fusions for the primary among all
abbrev PrimaryFuses : List Act → Type 0
PrimaryFuses all = (a b : Act) → Contains all a → Contains all b → IsTrue (is_pair a b) → successors all a a.command ≡ fused_bot a.bot b.bot ∷ []

become : (all : List Act) → PrimaryFuses all → (bots : List Bot) (r y z low : ℕ)
    → ((a : Act) → In a (acts bots (pair_ends (FusionP right) (FusionS left) bots)) → In a all)
    → AreLined r y z low (places bots) → last_column (places bots) ≡ free_column low (places bots)
    → flat_map (λ a. successors all a a.command) (acts bots (pair_ends (FusionP right) (FusionS left) bots))
    ≡ merged bots
become all law [] r y z low within k e = refl
become all law (b ∷ []) r y z low within k e = refl
become all law (b ∷ c ∷ []) r y z low within k e =
    let next : next_along_x b.pos ≡ c.pos = beside_is b.pos c.pos e (k.1.0.height ∙ sym k.0.height) (k.1.0.depth ∙ sym k.0.depth) in
    let law_here = law (record { bot = b; command = FusionP right }) (record { bot = c; command = FusionS left }) (containing all (record { bot = b; command = FusionP right }) (within (record { bot = b; command = FusionP right }) (inl refl))) (containing all (record { bot = c; command = FusionS left }) (within (record { bot = c; command = FusionS left }) (inr (inl refl)))) (are_pair b c next) in
    ap (λ (bs : List Bot). bs ++ []) law_here
become all law (b ∷ c ∷ d ∷ more) r y z low within k e = ap (λ bs. b ∷ bs) (become all law (c ∷ d ∷ more) r y z (b.pos.x + 1) (λ a i. within a (inr i)) k.1 e)

places_merged : (bots : List Bot) → places (merged bots) ≡ without_last (places bots)
places_merged [] = refl
places_merged (b ∷ []) = refl
places_merged (b ∷ c ∷ []) = refl
places_merged (b ∷ c ∷ d ∷ more) = ap (λ cs. b.pos ∷ cs) (places_merged (c ∷ d ∷ more))

fused_places : (bots : List Bot) (r y z low : ℕ)
    → PrimaryFuses (acts bots (pair_ends (FusionP right) (FusionS left) bots)) → AreLined r y z low (places bots)
    → last_column (places bots) ≡ free_column low (places bots)
    → places (bots_fused bots (pair_ends (FusionP right) (FusionS left) bots)) ≡ without_last (places bots)
fused_places bots r y z low law k e = ap places (become (acts bots (pair_ends (FusionP right) (FusionS left) bots)) law bots r y z low (λ a i. i) k e) ∙ places_merged bots

-- ---- the tape

module _ (p : TapeState) (line : InLine p) (two : 2 ≤ length p.bots) (near : last_column (places p.bots) ≡ free_column 1 (places p.bots)) (ks : List Command) (e : ks ≡ pair_ends (FusionP right) (FusionS left) p.bots) where
  pub is_free : AreFree (state_of p) (acts p.bots ks)
  is_free = subst (λ (k : List Command). AreFree (state_of p) (acts p.bots k)) (sym e) (fuse_free (state_of p) line.swarm.light (spot p.bots).y (spot p.bots).z line.y line.z p.bots 1 line.lined near (omega arith))

  pub only_fuses : AllByRecursion FusesOrWaits ks
  only_fuses = subst (λ (k : List Command). AllByRecursion FusesOrWaits k) (sym e) (fuse_waits p.bots)

  pub is_long : length ks ≡ length p.bots
  is_long = ap length e ∙ pair_length (FusionP right) (FusionS left) p.bots (omega arith)

  pub has_fused : PrimaryFuses (acts p.bots ks) → places (bots_fused p.bots ks) ≡ without_last (places p.bots)
  has_fused law =
      ap (λ (k : List Command). places (bots_fused p.bots k)) e
      ∙ fused_places p.bots p.matrix.resolution (spot p.bots).y (spot p.bots).z 1 (subst (λ (k : List Command). PrimaryFuses (acts p.bots k)) e law) line.lined near

-- The effect of a step in which the last bot of a line splits.
use Rattle.std.proofs.Common.{◌≡◌, ℕ, zero, suc, ◌+◌, ◌-◌, ◌<◌, ◌≤◌, refl, sym, ◌∙◌, ap, subst, inl, inr, ◌⊎◌, arith, true, List, [], ◌∷◌, length, take, drop}
use Rattle.std.specs.Prelude.{IsTrue, flat_map, slice_index}
use Rattle.std.specs.List.{AllByRecursion}
use Rattle.vox_geom.specs.declared.coordinate.Coord.{Coord}
use Rattle.vox_geom.specs.Point.{plus, point}
use Rattle.vox_geom.specs.Space.{coordinate, numbers_from}
use Rattle.vox_geom.proofs.Sums.{numbers_length, plus_none, plus_one}
use Rattle.nano_spec.specs.declared.commands.Command.{Command}
use Rattle.nano_spec.specs.declared.commands.Command.TheVariants.{Fission, Wait}
use Rattle.nano_spec.specs.declared.system.Bot.{Bot}
use Rattle.nano_spec.specs.declared.system.Profile.{Profile}
use Rattle.nano_spec.specs.Act.{Act, acts}
use Rattle.nano_spec.specs.Bots.{in_rising_order, newborn, parent}
use Rattle.nano_spec.specs.Profile.{is_allowed, light_profile}
use Rattle.nano_spec.specs.State.{State, seed_list, seed_set}
use Rattle.nano_spec.proofs.Seeds.{contains, none_above, numbers_rise, weaker as weaker_rise}
use Rattle.bot_crew.proofs.Bits.{list_of_set}
use Rattle.step_order.specs.Unbroken.{AreFree, IsFree, IsFreeWay}
use Rattle.step_order.proofs.Crews.{rising_itself}
use Rattle.step_order.proofs.Facts.{Rising}
use Rattle.step_order.proofs.Lists.{In}
use Rattle.plan_tape.specs.Crowd.{AllStep, SplitsOrWaits, bots_split, parts}
use Rattle.plan_tape.specs.Progress.{TapeState, spot, state_of, IsVoidFrom}
use Rattle.plan_tape.proofs.ClearWays.{free_place}
use Rattle.swarm_planner.specs.Crew.{IsSwarm, places}
use Rattle.swarm_planner.specs.Lineup.{AreLined, InLine, Regroups, next_along_x, ends, last_column, lined_up, right, seeds_after, split}
use Rattle.swarm_planner.proofs.Fences.{AreFenced, untangled}
use Rattle.swarm_planner.proofs.Filling.{just_in}
use Rattle.swarm_planner.proofs.Rows.{length-places}

-- ---- the next position

pub right_is : (p : Coord) → plus (point p) right ≡ point (next_along_x p)
right_is p = λ i. record { x = plus_one p.x i; y = plus_none p.y i; z = plus_none p.z i }

-- ---- each bot's requirements hold

-- the seeds of the last bot
abbrev last_seeds : List Bot → ℕ
last_seeds [] = 0
last_seeds (b ∷ []) = b.seeds
last_seeds (b ∷ c ∷ more) = last_seeds (c ∷ more)

allowed_wait : (profile : Profile) → profile ≡ light_profile → IsTrue (is_allowed profile Wait)
allowed_wait profile e = subst (λ (k : Profile). IsTrue (is_allowed k Wait)) (sym e) refl

allowed_split : (profile : Profile) (m : ℕ) → profile ≡ light_profile → IsTrue (is_allowed profile (Fission right m))
allowed_split profile m e = subst (λ (k : Profile). IsTrue (is_allowed k (Fission right m))) (sym e) refl

module _ (s : State) (light : s.profile ≡ light_profile) (y z : ℕ) (void : IsVoidFrom s.matrix y) (below : y < s.matrix.resolution) (deep : z < s.matrix.resolution) (m : ℕ) where
  free_beside : (p : Coord) → p.x + 1 < s.matrix.resolution → p.y ≡ y → p.z ≡ z
      → IsFreeWay s.matrix (plus (point p) right) (plus (point p) right)
  free_beside p h e f = free_place s.matrix (next_along_x p) _ (right_is p) (record { x = h; y = omega arith; z = omega arith }) (λ c l. void c (omega arith))

  each_free : (all : List Act) (bots : List Bot) (low : ℕ) → AreLined s.matrix.resolution y z low (places bots)
      → last_column (places bots) + 1 < s.matrix.resolution → m < length (seed_list (last_seeds bots))
      → AllByRecursion (IsFree s all) (acts bots (ends (Fission right m) bots))
  each_free all [] low k h l = tt
  each_free all (b ∷ []) low k h l = (record { allowed = allowed_split s.profile m light; may = (free_beside b.pos h k.0.height k.0.depth, l) }, tt)
  each_free all (b ∷ c ∷ more) low k h l = (record { allowed = allowed_wait s.profile light; may = tt }, each_free all (c ∷ more) (b.pos.x + 1) k.1 h l)

  all_fenced : (bots : List Bot) (low : ℕ) → AreLined s.matrix.resolution y z low (places bots)
      → AreFenced low (acts bots (ends (Fission right m) bots))
  all_fenced [] low k = AreFenced.none
  all_fenced (b ∷ []) low k =
      let past = k.0.past in
      AreFenced.one (b.pos.x + 1) (omega arith) (just_in low (b.pos.x + 1) (point b.pos) b.pos.x refl past (omega arith), (just_in low (b.pos.x + 1) (plus (point b.pos) right) (b.pos.x + 1) (plus_one b.pos.x) (omega arith) (omega arith), tt)) AreFenced.none
  all_fenced (b ∷ c ∷ more) low k =
      let past = k.0.past in
      AreFenced.one b.pos.x past (just_in low b.pos.x (point b.pos) b.pos.x refl past (omega arith), tt) (all_fenced (c ∷ more) (b.pos.x + 1) k.1)

  pub split_free : (bots : List Bot) (low : ℕ) → AreLined s.matrix.resolution y z low (places bots)
      → last_column (places bots) + 1 < s.matrix.resolution → m < length (seed_list (last_seeds bots))
      → AreFree s (acts bots (ends (Fission right m) bots))
  split_free bots low k h l = record { each = each_free (acts bots (ends (Fission right m) bots)) bots low k h l; untangled = untangled (all_fenced bots low k) }

split_waits : (m : ℕ) (bots : List Bot) → AllByRecursion SplitsOrWaits (ends (Fission right m) bots)
split_waits m [] = tt
split_waits m (b ∷ []) = (tt, tt)
split_waits m (b ∷ c ∷ more) = (tt, split_waits m (c ∷ more))

pub ends_length : (k : Command) (bots : List Bot) → length (ends k bots) ≡ length bots
ends_length k [] = refl
ends_length k (b ∷ []) = refl
ends_length k (b ∷ c ∷ more) = ap suc (ends_length k (c ∷ more))

-- ---- seeds

below_64 : (a n k : ℕ) → a + n ≤ 64 → contains (numbers_from a n) k ≡ true → k < 64
below_64 a n k h e = by k
  where
    which : (v : ℕ) → (v < 64) ⊎ (64 ≤ v)
    which v = grind arith

    by : (v : ℕ) → k < 64
    by v = of (which k)
      where
        of : (k < 64) ⊎ (64 ≤ k) → k < 64
        of (inl l) = l
        of (inr l) = let not_above = none_above a n k (omega arith) in let impossible = sym e ∙ not_above in cc

seeds_list : (bid : ℕ) → bid ≤ 20 → seed_list (seeds_after bid) ≡ numbers_from (bid + 1) (20 - bid)
seeds_list bid h = list_of_set (numbers_from (bid + 1) (20 - bid)) (weaker_rise (bid + 1) 0 (numbers_from (bid + 1) (20 - bid)) (omega arith) (numbers_rise (bid + 1) (20 - bid))) (λ k e. below_64 (bid + 1) (20 - bid) k (omega arith) e)

take_numbers : (a n : ℕ) → take n (numbers_from a n) ≡ numbers_from a n
take_numbers a zero = refl
take_numbers a (suc n) = ap (λ ks. a ∷ ks) (take_numbers (a + 1) n)

drop_numbers : (a n : ℕ) → drop n (numbers_from a n) ≡ []
drop_numbers a zero = refl
drop_numbers a (suc n) = drop_numbers (a + 1) n

-- the list of seeds without its first one
first_seed : (bid m : ℕ) → m + bid ≡ 19 → seed_list (seeds_after bid) ≡ (bid + 1) ∷ numbers_from (bid + 1 + 1) m
first_seed bid m h = seeds_list bid (omega arith) ∙ ap (numbers_from (bid + 1)) (let bid_is : 20 - bid ≡ suc m = omega arith in bid_is)

pub enough_seeds : (bid m : ℕ) → m + bid ≡ 19 → m < length (seed_list (seeds_after bid))
enough_seeds bid m h = let length_is = ap length (first_seed bid m h) in let as_many_numbers = numbers_length (bid + 1 + 1) m in omega arith

pub parent_is : (bid m : ℕ) (c : Coord) → m + bid ≡ 19
    → parent (record { bid = bid; pos = c; seeds = seeds_after bid }) m ≡ record { bid = bid; pos = c; seeds = 0 }
parent_is bid m c h =
    let whole : drop (m + 1) (seed_list (seeds_after bid)) ≡ [] = ap (drop (m + 1)) (first_seed bid m h) ∙ (ap (λ n. drop n ((bid + 1) ∷ numbers_from (bid + 1 + 1) m)) (let sum_is : m + 1 ≡ suc m = omega arith in sum_is) ∙ drop_numbers (bid + 1 + 1) m) in
    λ i. record { bid = bid; pos = c; seeds = seed_set (whole i) }

pub newborn_is : (bid m : ℕ) (c : Coord) → m + bid ≡ 19
    → newborn (record { bid = bid; pos = c; seeds = seeds_after bid }) (plus (point c) right) m
    ≡ record { bid = bid + 1; pos = next_along_x c; seeds = seeds_after (bid + 1) }
newborn_is bid m c h =
    let first : slice_index (seed_list (seeds_after bid)) 0 ≡ bid + 1 = ap (λ ks. slice_index ks 0) (first_seed bid m h) in
    let rest : take m (drop 1 (seed_list (seeds_after bid))) ≡ numbers_from (bid + 1 + 1) (20 - (bid + 1)) =
    ap (λ ks. take m (drop 1 ks)) (first_seed bid m h) ∙ (take_numbers (bid + 1 + 1) m ∙ ap (numbers_from (bid + 1 + 1)) (let m_is : m ≡ 20 - (bid + 1) = omega arith in m_is)) in
    let there = ap coordinate (right_is c) in
    λ i. record { bid = first i; pos = there i; seeds = seed_set (rest i) }

-- ---- the bots afterwards

-- all bots, the last with a new one
abbrev births : ℕ → List Bot → List Bot
births m [] = []
births m (b ∷ []) = parent b m ∷ newborn b (plus (point b.pos) right) m ∷ []
births m (b ∷ c ∷ more) = b ∷ births m (c ∷ more)

become : (m : ℕ) (bots : List Bot)
    → flat_map (λ a. parts a a.command) (acts bots (ends (Fission right m) bots)) ≡ births m bots
become m [] = refl
become m (b ∷ []) = refl
become m (b ∷ c ∷ more) = ap (λ bs. b ∷ bs) (become m (c ∷ more))

births_more : (m : ℕ) (b : Bot) (bots : List Bot) → 0 < length bots → births m (b ∷ bots) ≡ b ∷ births m bots
births_more m b [] h = absurd (omega arith)
births_more m b (c ∷ more) h = refl

pub length-lined_up : (bid : ℕ) (cs : List Coord) → length (lined_up bid cs) ≡ length cs
length-lined_up bid [] = refl
length-lined_up bid (c ∷ []) = refl
length-lined_up bid (c ∷ d ∷ more) = ap suc (length-lined_up (bid + 1) (d ∷ more))

length-split : (cs : List Coord) → length cs ≤ length (split cs)
length-split [] = omega arith
length-split (c ∷ []) = omega arith
length-split (c ∷ d ∷ more) = let split_length = length-split (d ∷ more) in omega arith

lined_up_more : (bid : ℕ) (c : Coord) (cs : List Coord) → 0 < length cs
    → lined_up bid (c ∷ cs) ≡ record { bid = bid; pos = c; seeds = 0 } ∷ lined_up (bid + 1) cs
lined_up_more bid c [] h = absurd (omega arith)
lined_up_more bid c (d ∷ more) h = refl

births_are : (bid m : ℕ) (cs : List Coord) → 0 < length cs → m + bid + length cs ≡ 20
    → births m (lined_up bid cs) ≡ lined_up bid (split cs)
births_are bid m [] h e = absurd (omega arith)
births_are bid m (c ∷ []) h e = let same_parent = parent_is bid m c (omega arith) in let newborn_is_here = newborn_is bid m c (omega arith) in λ i. same_parent i ∷ newborn_is_here i ∷ []
births_are bid m (c ∷ d ∷ more) h e =
    births_more m (record { bid = bid; pos = c; seeds = 0 }) (lined_up (bid + 1) (d ∷ more)) (let lined_up_length = length-lined_up (bid + 1) (d ∷ more) in omega arith)
    ∙ (ap (λ bs. record { bid = bid; pos = c; seeds = 0 } ∷ bs) (births_are (bid + 1) m (d ∷ more) (omega arith) (omega arith))
    ∙ sym (lined_up_more bid c (split (d ∷ more)) (let split_length = length-split (d ∷ more) in omega arith)))

later_bid : (bid : ℕ) (cs : List Coord) (b : Bot) → In b (lined_up bid cs) → bid ≤ b.bid
later_bid bid [] b i = absurd i
later_bid bid (c ∷ []) b (inl e) = let bid_is = ap (λ (x : Bot). x.bid) e in omega arith
later_bid bid (c ∷ []) b (inr i) = absurd i
later_bid bid (c ∷ d ∷ more) b (inl e) = let bid_is = ap (λ (x : Bot). x.bid) e in omega arith
later_bid bid (c ∷ d ∷ more) b (inr i) = let bid_later = later_bid (bid + 1) (d ∷ more) b i in omega arith

rising : (bid : ℕ) (cs : List Coord) → Rising (lined_up bid cs)
rising bid [] = tt
rising bid (c ∷ []) = ((λ b i. absurd i), tt)
rising bid (c ∷ d ∷ more) = ((λ b i. let bid_later = later_bid (bid + 1) (d ∷ more) b i in omega arith), rising (bid + 1) (d ∷ more))

parted : (m : ℕ) (cs : List Coord) → 0 < length cs → m + 1 + length cs ≡ 20
    → bots_split (lined_up 1 cs) (ends (Fission right m) (lined_up 1 cs)) ≡ lined_up 1 (split cs)
parted m cs h e =
    ap in_rising_order (become m (lined_up 1 cs) ∙ births_are 1 m cs h e)
    ∙ rising_itself (lined_up 1 (split cs)) (rising 1 (split cs))

pub seeds_of_last : (bid m : ℕ) (cs : List Coord) → 0 < length cs → m + bid + length cs ≡ 20
    → m < length (seed_list (last_seeds (lined_up bid cs)))
seeds_of_last bid m [] h e = absurd (omega arith)
seeds_of_last bid m (c ∷ []) h e = enough_seeds bid m (omega arith)
seeds_of_last bid m (c ∷ d ∷ more) h e = subst (λ n. m < length (seed_list n)) (sym (last_more (record { bid = bid; pos = c; seeds = 0 }) (lined_up (bid + 1) (d ∷ more)) (let lined_up_length = length-lined_up (bid + 1) (d ∷ more) in omega arith))) (seeds_of_last (bid + 1) m (d ∷ more) (omega arith) (omega arith))
  where
    last_more : (b : Bot) (bots : List Bot) → 0 < length bots → last_seeds (b ∷ bots) ≡ last_seeds bots
    last_more b [] h = absurd (omega arith)
    last_more b (c ∷ more) h = refl

pub places-lined_up : (bid : ℕ) (cs : List Coord) → places (lined_up bid cs) ≡ cs
places-lined_up bid [] = refl
places-lined_up bid (c ∷ []) = refl
places-lined_up bid (c ∷ d ∷ more) = ap (λ ds. c ∷ ds) (places-lined_up (bid + 1) (d ∷ more))

-- ---- the tape

module _ (p : TapeState) (line : InLine p) (m : ℕ) (bots_are : p.bots ≡ lined_up 1 (places p.bots)) (seeds : m + 1 + length p.bots ≡ 20) (within : last_column (places p.bots) + 1 < p.matrix.resolution) (ks : List Command) (e : ks ≡ ends (Fission right m) p.bots) where
  some : 0 < length (places p.bots)
  some = let as_many_places = length-places p.bots in let line_some = line.some in omega arith

  all_seeds : m + 1 + length (places p.bots) ≡ 20
  all_seeds = let as_many_places = length-places p.bots in omega arith

  pub is_free : AreFree (state_of p) (acts p.bots ks)
  is_free = subst (λ (k : List Command). AreFree (state_of p) (acts p.bots k)) (sym e)
      (split_free (state_of p) line.swarm.light (spot p.bots).y (spot p.bots).z line.void line.y line.z m p.bots 1 line.lined within
      (subst (λ (bs : List Bot). m < length (seed_list (last_seeds bs))) (sym bots_are) (seeds_of_last 1 m (places p.bots) some all_seeds)))

  pub only_splits : AllByRecursion SplitsOrWaits ks
  only_splits = subst (λ (k : List Command). AllByRecursion SplitsOrWaits k) (sym e) (split_waits m p.bots)

  pub is_long : length ks ≡ length p.bots
  is_long = ap length e ∙ ends_length (Fission right m) p.bots

  pub has_split : bots_split p.bots ks ≡ lined_up 1 (split (places p.bots))
  has_split =
      ap (λ (k : List Command). bots_split p.bots k) e
      ∙ ((λ i. bots_split (bots_are i) (ends (Fission right m) (bots_are i)))
      ∙ parted m (places p.bots) some all_seeds)

-- a step that does not change voxels and harmonics
pub regroups : (p q : TapeState) (ks : List Command) (bots : List Bot) → IsSwarm p
    → AllStep p q ks p.matrix p.harmonics bots → Regroups p q
regroups p q ks bots swarm s = record {
  source = s.source;
  matrix = s.matrix;
  swarm = record { high = s.harmonics ∙ swarm.high; light = s.profile ∙ swarm.light };
  steps = s.steps;
}

-- Steps in which some bots fill, split or fuse, and the others wait.
use Rattle.std.proofs.Common.{◌≡◌, ℕ, ◌<◌, refl, sym, ◌∙◌, ap, subst, inl, inr, arith, List, [], ◌∷◌, ◌++◌, Bool, true, false, ◌&&◌, ◌||◌, not, length, map}
use Rattle.std.specs.Prelude.{IsTrue, IsFalse, find, flat_map}
use Rattle.std.specs.List.{AllByRecursion, list_any}
use Rattle.vox_geom.specs.declared.coordinate.Coord.{Coord}
use Rattle.vox_geom.specs.Point.{Point, point}
use Rattle.vox_geom.specs.Region.{Span, is_within}
use Rattle.nano_spec.specs.declared.commands.Command.{Command}
use Rattle.nano_spec.specs.declared.commands.Command.TheVariants.{Wait, FusionP, FusionS, Fission, Fill}
use Rattle.nano_spec.specs.declared.system.Bot.{Bot}
use Rattle.nano_spec.specs.Act.{Act, acts, is_flip, voided}
use Rattle.nano_spec.specs.Bots.{bots_after, in_rising_order, successors}
use Rattle.nano_spec.specs.Group.{is_pair}
use Rattle.nano_spec.specs.Matrix.{Matrix, is_full, matrix_where}
use Rattle.nano_spec.specs.State.{IsReady}
use Rattle.nano_spec.specs.Step.{is_filled, is_voided, matrix_after}
use Rattle.step_order.specs.Acting.{gone, leaves_voxels, stays_one}
use Rattle.step_order.proofs.Crews.{fused_bid, rising_itself}
use Rattle.step_order.proofs.Facts.{Rising, rising_is}
use Rattle.step_order.proofs.Faultless.{all_by}
use Rattle.step_order.proofs.Lists.{In, flat_in, in_map}
use Rattle.plan_tape.specs.Crowd.{FillsOrWaits, FusesOrWaits, SplitsOrWaits, bots_fused, bots_split, parts, with_fills}
use Rattle.plan_tape.specs.Progress.{TapeState, state_of}

-- a property of the acts by their commands
pub each_act : (P : Command → Type 0) (Q : Act → Type 0) → ((a : Act) → P a.command → Q a) → (bots : List Bot)
    (commands : List Command) → AllByRecursion P commands → AllByRecursion Q (acts bots commands)
each_act P Q f [] commands h = tt
each_act P Q f (b ∷ bots) [] h = tt
each_act P Q f (b ∷ bots) (k ∷ commands) h = (f (record { bot = b; command = k }) h.0, each_act P Q f bots commands h.1)

-- ---- fills

fill_stays : (k : Command) → FillsOrWaits k → IsTrue (stays_one k)
fill_stays Wait h = refl
fill_stays (Fill d) h = refl
fill_stays _ h = absurd h

fill_flips_not : (k : Command) → FillsOrWaits k → IsFalse (is_flip k)
fill_flips_not Wait h = refl
fill_flips_not (Fill d) h = refl
fill_flips_not _ h = absurd h

fill_voids_none : (p : Point) (k : Command) → FillsOrWaits k → voided p k ≡ []
fill_voids_none p Wait h = refl
fill_voids_none p (Fill d) h = refl
fill_voids_none p _ h = absurd h

fill_stands : (b : Bot) (k : Command) → FillsOrWaits k → gone (record { bot = b; command = k }) ≡ b
fill_stands b Wait h = refl
fill_stands b (Fill d) h = refl
fill_stands b _ h = absurd h

pub fills_stay : (bots : List Bot) (commands : List Command) → AllByRecursion FillsOrWaits commands
    → AllByRecursion (λ a. IsTrue (stays_one a.command)) (acts bots commands)
fills_stay = each_act FillsOrWaits (λ a. IsTrue (stays_one a.command)) (λ a h. fill_stays a.command h)

pub fills_flip_not : (bots : List Bot) (commands : List Command) → AllByRecursion FillsOrWaits commands
    → AllByRecursion (λ a. IsFalse (is_flip a.command)) (acts bots commands)
fills_flip_not = each_act FillsOrWaits (λ a. IsFalse (is_flip a.command)) (λ a h. fill_flips_not a.command h)

pub fills_stand : (bots : List Bot) (commands : List Command) → length commands ≡ length bots
    → AllByRecursion FillsOrWaits commands → map gone (acts bots commands) ≡ bots
fills_stand [] commands l h = refl
fills_stand (b ∷ bots) [] l h = absurd (omega arith)
fills_stand (b ∷ bots) (k ∷ commands) l h = let bot_stands = fill_stands b k h.0 in let more = fills_stand bots commands (omega arith) h.1 in λ i. bot_stands i ∷ more i

none_voided : (c : Coord) (bots : List Bot) (commands : List Command) → AllByRecursion FillsOrWaits commands
    → is_voided (acts bots commands) c ≡ false
none_voided c [] commands h = refl
none_voided c (b ∷ bots) [] h = refl
none_voided c (b ∷ bots) (k ∷ commands) h = let voids_none = fill_voids_none (point b.pos) k h.0 in let more = none_voided c bots commands h.1 in λ i. list_any (λ (s : Span). is_within s (point c)) (voids_none i) || more i

and_all : (b : Bool) → (b && not false) ≡ b
and_all true = refl
and_all false = refl

pub matrix_filled : (m : Matrix) (bots : List Bot) (commands : List Command) → AllByRecursion FillsOrWaits commands
    → matrix_after m (acts bots commands) ≡ with_fills m (acts bots commands)
matrix_filled m bots commands h = λ i. matrix_where m.resolution (λ c. is_filled (acts bots commands) c || same c i)
  where
    same : (c : Coord) → (is_full m c && not (is_voided (acts bots commands) c)) ≡ is_full m c
    same c = ap (λ t. is_full m c && not t) (none_voided c bots commands h) ∙ and_all (is_full m c)

-- ---- splits

split_leaves : (k : Command) → SplitsOrWaits k → IsTrue (leaves_voxels k)
split_leaves Wait h = refl
split_leaves (Fission d m) h = refl
split_leaves _ h = absurd h

split_flips_not : (k : Command) → SplitsOrWaits k → IsFalse (is_flip k)
split_flips_not Wait h = refl
split_flips_not (Fission d m) h = refl
split_flips_not _ h = absurd h

split_parts : (all : List Act) (a : Act) (k : Command) → SplitsOrWaits k → successors all a k ≡ parts a k
split_parts all a Wait h = refl
split_parts all a (Fission d m) h = refl
split_parts all a _ h = absurd h

pub splits_leave : (bots : List Bot) (commands : List Command) → AllByRecursion SplitsOrWaits commands
    → AllByRecursion (λ a. IsTrue (leaves_voxels a.command)) (acts bots commands)
splits_leave = each_act SplitsOrWaits (λ a. IsTrue (leaves_voxels a.command)) (λ a h. split_leaves a.command h)

pub splits_flip_not : (bots : List Bot) (commands : List Command) → AllByRecursion SplitsOrWaits commands
    → AllByRecursion (λ a. IsFalse (is_flip a.command)) (acts bots commands)
splits_flip_not = each_act SplitsOrWaits (λ a. IsFalse (is_flip a.command)) (λ a h. split_flips_not a.command h)

all_parts : (all : List Act) (bots : List Bot) (commands : List Command) → AllByRecursion SplitsOrWaits commands
    → flat_map (λ a. successors all a a.command) (acts bots commands)
    ≡ flat_map (λ a. parts a a.command) (acts bots commands)
all_parts all [] commands h = refl
all_parts all (b ∷ bots) [] h = refl
all_parts all (b ∷ bots) (k ∷ commands) h = let parts_of_split = split_parts all (record { bot = b; command = k }) k h.0 in let more = all_parts all bots commands h.1 in λ i. parts_of_split i ++ more i

pub splits_part : (bots : List Bot) (commands : List Command) → AllByRecursion SplitsOrWaits commands
    → bots_after (acts bots commands) ≡ bots_split bots commands
splits_part bots commands h = ap in_rising_order (all_parts (acts bots commands) bots commands h)

-- ---- fusions

fuse_leaves : (k : Command) → FusesOrWaits k → IsTrue (leaves_voxels k)
fuse_leaves Wait h = refl
fuse_leaves (FusionP d) h = refl
fuse_leaves (FusionS d) h = refl
fuse_leaves _ h = absurd h

fuse_flips_not : (k : Command) → FusesOrWaits k → IsFalse (is_flip k)
fuse_flips_not Wait h = refl
fuse_flips_not (FusionP d) h = refl
fuse_flips_not (FusionS d) h = refl
fuse_flips_not _ h = absurd h

pub fusions_leave : (bots : List Bot) (commands : List Command) → AllByRecursion FusesOrWaits commands
    → AllByRecursion (λ a. IsTrue (leaves_voxels a.command)) (acts bots commands)
fusions_leave = each_act FusesOrWaits (λ a. IsTrue (leaves_voxels a.command)) (λ a h. fuse_leaves a.command h)

pub fusions_flip_not : (bots : List Bot) (commands : List Command) → AllByRecursion FusesOrWaits commands
    → AllByRecursion (λ a. IsFalse (is_flip a.command)) (acts bots commands)
fusions_flip_not = each_act FusesOrWaits (λ a. IsFalse (is_flip a.command)) (λ a h. fuse_flips_not a.command h)

-- the successors of a bot have its bid
bid_stays : (all : List Act) (a : Act) (k : Command) (x : Bot) → FusesOrWaits k → In x (successors all a k)
    → x.bid ≡ a.bot.bid
bid_stays all a Wait x h (inl e) = ap (λ (b : Bot). b.bid) e
bid_stays all a Wait x h (inr i) = absurd i
bid_stays all a (FusionP d) x h (inl e) = ap (λ (b : Bot). b.bid) e ∙ fused_bid a (find (is_pair a) all)
bid_stays all a (FusionP d) x h (inr i) = absurd i
bid_stays all a (FusionS d) x h i = absurd i
bid_stays all a _ x h i = absurd h

fused_first : (all : List Act) (a : Act) (k : Command) (rest : List Bot) → FusesOrWaits k
    → ((c : Bot) → In c rest → a.bot.bid < c.bid) → Rising rest → Rising (successors all a k ++ rest)
fused_first all a Wait rest h later up = (later, up)
fused_first all a (FusionP d) rest h later up = ((λ c i. let later_on = later c i in let same_bid = fused_bid a (find (is_pair a) all) in omega arith), up)
fused_first all a (FusionS d) rest h later up = up
fused_first all a _ rest h later up = absurd h

fused_rise : (all more : List Act) → AllByRecursion (λ a. FusesOrWaits a.command) more → Rising (map (λ a. a.bot) more)
    → Rising (flat_map (λ a. successors all a a.command) more)
fused_rise all [] h up = tt
fused_rise all (a ∷ more) h up = fused_first all a a.command (flat_map (λ b. successors all b b.command) more) h.0 later (fused_rise all more h.1 up.1)
  where
    later : (c : Bot) → In c (flat_map (λ b. successors all b b.command) more) → a.bot.bid < c.bid
    later c i =
        let origin = flat_in (λ (b : Act). successors all b b.command) c more i in
        let same_bid = bid_stays all origin.0 origin.0.command c (all_by (λ (b : Act). FusesOrWaits b.command) more origin.0 h.1 origin.1) origin.2 in
        let l = up.0 origin.0.bot (in_map (λ (b : Act). b.bot) origin.0 more origin.1) in
        subst (λ (n : ℕ). a.bot.bid < n) (sym same_bid) l

bots_of : (bots : List Bot) (commands : List Command) → length commands ≡ length bots
    → map (λ a. a.bot) (acts bots commands) ≡ bots
bots_of [] commands l = refl
bots_of (b ∷ bots) [] l = absurd (omega arith)
bots_of (b ∷ bots) (k ∷ commands) l = ap (λ bs. b ∷ bs) (bots_of bots commands (omega arith))

pub fusions_merge : (p : TapeState) (commands : List Command) → IsReady (state_of p) → length commands ≡ length p.bots
    → AllByRecursion FusesOrWaits commands → bots_after (acts p.bots commands) ≡ bots_fused p.bots commands
fusions_merge p commands ready l h =
    let all = acts p.bots commands in
    rising_itself (bots_fused p.bots commands)
    (fused_rise all all (each_act FusesOrWaits (λ a. FusesOrWaits a.command) (λ a k. k) p.bots commands h) (subst Rising (sym (bots_of p.bots commands l)) (rising_is p.bots ready.rising)))

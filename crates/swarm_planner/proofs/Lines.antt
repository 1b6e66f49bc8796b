-- Lines of positions, and bots of which the last moves along the line.
use Rattle.std.proofs.Common.{◌≡◌, ℕ, suc, ◌+◌, ◌-◌, ◌<◌, ◌≤◌, refl, sym, ◌∙◌, ap, subst, arith, cond, max, List, [], ◌∷◌, ◌++◌, length, get_or, replicate, slice_set, take, append_assoc}
use Rattle.std.specs.Prelude.{pos, ◌-ℤ◌}
use Rattle.std.proofs.lemmas.List.{length-replicate, length-set, take-replicate, take_more_set}
use Rattle.vox_geom.specs.declared.coordinate.Coord.{Coord}
use Rattle.vox_geom.specs.declared.difference.Diff.{Diff}
use Rattle.nano_spec.specs.declared.commands.Command.{Command}
use Rattle.nano_spec.specs.declared.commands.Command.TheVariants.{SMove, Wait}
use Rattle.nano_spec.specs.declared.system.Bot.{Bot}
use Rattle.plan_tape.specs.declared.axis.Axis.TheVariants.{X}
use Rattle.plan_tape.specs.Leg.{along, gap}
use Rattle.swarm_planner.specs.Crew.{AreLed, lead, led, places}
use Rattle.swarm_planner.specs.Lineup.{AreLined, ends, free_column, without_last, last_column, pair_ends, sent, split}
use Rattle.vox_geom.specs.Point.{coord}
use Rattle.vox_geom.proofs.Tests.{test_itself, test_unequal}

-- ---- positions

pub sent_lined : (r y z low x : ℕ) (cs : List Coord) → AreLined r y z low cs → free_column low cs ≤ x → x < r
    → AreLined r y z low (sent cs x)
sent_lined r y z low x [] k h l = tt
sent_lined r y z low x (c ∷ []) k h l = (record { within = l; past = h; height = k.0.height; depth = k.0.depth }, tt)
sent_lined r y z low x (c ∷ d ∷ more) k h l = (k.0, sent_lined r y z (c.x + 1) x (d ∷ more) k.1 h l)

pub sent_more : (c : Coord) (cs : List Coord) (x : ℕ) → 0 < length cs → sent (c ∷ cs) x ≡ c ∷ sent cs x
sent_more c [] x h = absurd (omega arith)
sent_more c (d ∷ more) x h = refl

pub length-sent : (cs : List Coord) (x : ℕ) → length (sent cs x) ≡ length cs
length-sent [] x = refl
length-sent (c ∷ []) x = refl
length-sent (c ∷ d ∷ more) x = ap suc (length-sent (d ∷ more) x)

pub free-sent : (low x : ℕ) (cs : List Coord) → free_column low (sent cs x) ≡ free_column low cs
free-sent low x [] = refl
free-sent low x (c ∷ []) = refl
free-sent low x (c ∷ d ∷ more) = free_more low c (sent (d ∷ more) x) (let sent_length = length-sent (d ∷ more) x in omega arith) ∙ free-sent (c.x + 1) x (d ∷ more)
  where
    free_more : (low : ℕ) (c : Coord) (cs : List Coord) → 0 < length cs
        → free_column low (c ∷ cs) ≡ free_column (c.x + 1) cs
    free_more low c [] h = absurd (omega arith)
    free_more low c (d ∷ more) h = refl

pub last-sent : (x : ℕ) (cs : List Coord) → 0 < length cs → last_column (sent cs x) ≡ x
last-sent x [] h = absurd (omega arith)
last-sent x (c ∷ []) h = refl
last-sent x (c ∷ d ∷ more) h = last_more c (sent (d ∷ more) x) (let sent_length = length-sent (d ∷ more) x in omega arith) ∙ last-sent x (d ∷ more) (omega arith)
  where
    last_more : (c : Coord) (cs : List Coord) → 0 < length cs → last_column (c ∷ cs) ≡ last_column cs
    last_more c [] h = absurd (omega arith)
    last_more c (d ∷ more) h = refl

pub sent-sent : (u v : ℕ) (cs : List Coord) → sent (sent cs u) v ≡ sent cs v
sent-sent u v [] = refl
sent-sent u v (c ∷ []) = refl
sent-sent u v (c ∷ d ∷ more) = sent_more c (sent (d ∷ more) u) v (let sent_length = length-sent (d ∷ more) u in omega arith) ∙ ap (λ ds. c ∷ ds) (sent-sent u v (d ∷ more))

pub sent_there : (cs : List Coord) → sent cs (last_column cs) ≡ cs
sent_there [] = refl
sent_there (c ∷ []) = refl
sent_there (c ∷ d ∷ more) = ap (λ ds. c ∷ ds) (sent_there (d ∷ more))

-- the last position is past all others
pub last_free : (r y z low : ℕ) (cs : List Coord) → AreLined r y z low cs → 0 < length cs
    → free_column low cs ≤ last_column cs
last_free r y z low [] k h = absurd (omega arith)
last_free r y z low (c ∷ []) k h = k.0.past
last_free r y z low (c ∷ d ∷ more) k h = last_free r y z (c.x + 1) (d ∷ more) k.1 (omega arith)

pub last_within : (r y z low : ℕ) (cs : List Coord) → AreLined r y z low cs → 0 < length cs → last_column cs < r
last_within r y z low [] k h = absurd (omega arith)
last_within r y z low (c ∷ []) k h = k.0.within
last_within r y z low (c ∷ d ∷ more) k h = last_within r y z (c.x + 1) (d ∷ more) k.1 (omega arith)

pub split_lined : (r y z low : ℕ) (cs : List Coord) → AreLined r y z low cs → last_column cs + 1 < r
    → AreLined r y z low (split cs)
split_lined r y z low [] k h = tt
split_lined r y z low (c ∷ []) k h = (k.0, (record { within = h; past = omega arith; height = k.0.height; depth = k.0.depth }, tt))
split_lined r y z low (c ∷ d ∷ more) k h = (k.0, split_lined r y z (c.x + 1) (d ∷ more) k.1 h)

pub fused-sent : (x : ℕ) (cs : List Coord) → without_last (sent cs x) ≡ without_last cs
fused-sent x [] = refl
fused-sent x (c ∷ []) = refl
fused-sent x (c ∷ d ∷ more) = fused_more c (sent (d ∷ more) x) (let sent_length = length-sent (d ∷ more) x in omega arith) ∙ ap (λ ds. c ∷ ds) (fused-sent x (d ∷ more))
  where
    fused_more : (c : Coord) (cs : List Coord) → 0 < length cs → without_last (c ∷ cs) ≡ c ∷ without_last cs
    fused_more c [] h = absurd (omega arith)
    fused_more c (d ∷ more) h = refl

-- ---- the last bot moves along the line

pub sent_led : (r y z low x : ℕ) (cs : List Coord) → y < r → z < r → AreLined r y z low cs → free_column low cs ≤ x
    → x < r → gap (last_column cs) x ≤ 15 → AreLed r y X low cs (sent cs x)
sent_led r y z low x [] i j k h l near = tt
sent_led r y z low x (c ∷ []) i j k h l near =
    let height = k.0.height in
    let depth = k.0.depth in
    (record { line = (refl, refl); near = near; from = record { x = k.0.within; y = omega arith; z = omega arith }; to = record { x = l; y = omega arith; z = omega arith }; high_from = omega arith; high_to = omega arith; low_from = k.0.past; low_to = h }, tt)
sent_led r y z low x (c ∷ d ∷ more) i j k h l near =
    let height = k.0.height in
    let depth = k.0.depth in
    (record { line = (refl, refl); near = omega arith; from = record { x = k.0.within; y = omega arith; z = omega arith }; to = record { x = k.0.within; y = omega arith; z = omega arith }; high_from = omega arith; high_to = omega arith; low_from = k.0.past; low_to = k.0.past }, subst (λ v. AreLed r y X v (d ∷ more) (sent (d ∷ more) x)) (let sum_is : c.x + 1 ≡ max c.x c.x + 1 = omega arith in sum_is) (sent_led r y z (c.x + 1) x (d ∷ more) i j k.1 h l near))

pub waits_then : (k : Command) (bots : List Bot) → 0 < length bots
    → replicate (length bots - 1) Wait ++ k ∷ [] ≡ ends k bots
waits_then k [] h = absurd (omega arith)
waits_then k (b ∷ []) h = refl
waits_then k (b ∷ c ∷ more) h =
    let same_length : length (b ∷ c ∷ more) - 1 ≡ suc (length (c ∷ more) - 1) = omega arith in
    ap (λ m. replicate m Wait ++ k ∷ []) same_length ∙ ap (λ ks. Wait ∷ ks) (waits_then k (c ∷ more) (omega arith))

pub waits_then_two : (k l : Command) (bots : List Bot) → 1 < length bots
    → replicate (length bots - 2) Wait ++ k ∷ l ∷ [] ≡ pair_ends k l bots
waits_then_two k l [] h = absurd (omega arith)
waits_then_two k l (b ∷ []) h = absurd (omega arith)
waits_then_two k l (b ∷ c ∷ []) h = refl
waits_then_two k l (b ∷ c ∷ d ∷ more) h =
    let same_length : length (b ∷ c ∷ d ∷ more) - 2 ≡ suc (length (c ∷ d ∷ more) - 2) = omega arith in
    ap (λ m. replicate m Wait ++ k ∷ l ∷ []) same_length ∙ ap (λ ks. Wait ∷ ks) (waits_then_two k l (c ∷ d ∷ more) (omega arith))

pub ends_led : (bots : List Bot) (x : ℕ) → (last_column (places bots) ≡ x → ⊥)
    → ends (SMove (along X (pos x -ℤ pos (last_column (places bots))))) bots ≡ led X bots (sent (places bots) x)
ends_led [] x h = refl
ends_led (b ∷ []) x h = ap (λ t. cond t Wait (SMove (along X (pos x -ℤ pos b.pos.x))) ∷ []) (sym (test_unequal b.pos.x x h))
ends_led (b ∷ c ∷ more) x h =
    let stays : lead X b.pos b.pos ≡ Wait = ap (λ t. cond t Wait (SMove (along X (pos b.pos.x -ℤ pos b.pos.x)))) (test_itself b.pos.x) in
    let back = sym stays in
    let later = ends_led (c ∷ more) x h in
    λ i. back i ∷ later i

nobody : Bot
nobody = record { bid = 0; pos = coord 0 0 0; seeds = 0 }

-- the last bot by its index
pub last_at : (bots : List Bot) (b : Bot) → 0 < length bots
    → (get_or bots (length bots - 1) b).pos.x ≡ last_column (places bots)
last_at [] d h = absurd (omega arith)
last_at (b ∷ []) d h = refl
last_at (b ∷ c ∷ more) d h =
    let same_length : length (b ∷ c ∷ more) - 1 ≡ suc (length (c ∷ more) - 1) = omega arith in
    ap (λ k. (get_or (b ∷ c ∷ more) k d).pos.x) same_length ∙ last_at (c ∷ more) d (omega arith)

-- the commands that move the last bot to a column
-- ---- commands among Waits

-- n Waits, and the command that was put behind them
put_behind : (waits : List Command) (n : ℕ) (k : Command) → waits ≡ replicate 40 Wait → n < 40
    → take (n + 1) (slice_set waits n k) ≡ replicate n Wait ++ k ∷ []
put_behind waits n k e l =
    let length_is : length waits ≡ 40 = ap length e ∙ length-replicate 40 Wait in
    take_more_set waits n k (omega arith) ∙ ap (λ ks. ks ++ k ∷ []) (ap (take n) e ∙ take-replicate n 40 Wait (omega arith))

-- all wait but the last
pub ends_are : (bots read : List Bot) (waits : List Command) (k : Command) → read ≡ bots → 0 < length bots
    → length bots ≤ 40 → waits ≡ replicate 40 Wait
    → take (length read - 1 + 1) (slice_set waits (length read - 1) k) ≡ ends k bots
ends_are bots read waits k eb some few ew =
    let same_length = ap length eb in
    put_behind waits (length read - 1) k ew (omega arith)
    ∙ (ap (λ (bs : List Bot). replicate (length bs - 1) Wait ++ k ∷ []) eb ∙ waits_then k bots some)

-- all wait but the last two
pub pair_ends_are : (bots read : List Bot) (waits : List Command) (k l : Command) → read ≡ bots → 1 < length bots
    → length bots ≤ 40 → waits ≡ replicate 40 Wait
    → take (length read - 1 + 1) (slice_set (slice_set waits (length read - 1 - 1) k) (length read - 1) l)
    ≡ pair_ends k l bots
pair_ends_are bots read waits k l eb two few ew =
    let same_length = ap length eb in
    let length_is : length waits ≡ 40 = ap length ew ∙ length-replicate 40 Wait in
    let length_kept = length-set waits (length read - 1 - 1) k in
    let one_more : length read - 1 ≡ length read - 1 - 1 + 1 = omega arith in
    let before_both : length read - 1 - 1 ≡ length bots - 2 = omega arith in
    take_more_set (slice_set waits (length read - 1 - 1) k) (length read - 1) l (omega arith)
    ∙ (ap (λ ks. ks ++ l ∷ []) (ap (λ n. take n (slice_set waits (length read - 1 - 1) k)) one_more ∙ put_behind waits (length read - 1 - 1) k ew (omega arith))
    ∙ (append_assoc (replicate (length read - 1 - 1) Wait) (k ∷ []) (l ∷ [])
    ∙ (ap (λ n. replicate n Wait ++ k ∷ l ∷ []) before_both ∙ waits_then_two k l bots two)))

-- all wait but the last, which moves along x
pub last_led : (bots read : List Bot) (waits : List Command) (d : Diff) (at x : ℕ) → read ≡ bots → 0 < length bots
    → length bots ≤ 40 → waits ≡ replicate 40 Wait → at ≡ last_column (places bots) → d ≡ along X (pos x -ℤ pos at)
    → (last_column (places bots) ≡ x → ⊥)
    → take (length read - 1 + 1) (slice_set waits (length read - 1) (SMove d)) ≡ led X bots (sent (places bots) x)
last_led bots read waits d at x eb some few ew ea ed differ =
    let d_is : d ≡ along X (pos x -ℤ pos (last_column (places bots))) = ed ∙ ap (λ v. along X (pos x -ℤ pos v)) ea in
    ends_are bots read waits (SMove d) eb some few ew ∙ (ap (λ v. ends (SMove v) bots) d_is ∙ ends_led bots x differ)

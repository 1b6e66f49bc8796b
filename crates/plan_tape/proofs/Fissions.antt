-- There are no more bots than the commands have made, and the first one.
use Rattle.std.proofs.Common.{◌≡◌, ℕ, ◌+◌, ◌≤◌, refl, ◌∙◌, ap, arith, List, [], ◌∷◌, ◌++◌, Bool, true, false, cond, length, length-append}
use Rattle.std.specs.Prelude.{count_by, flat_map, nat_lt}
use Rattle.std.proofs.lemmas.List.Sums.{sum_by-append, sum_by-cons}
use Rattle.vox_geom.specs.declared.coordinate.Coord.{Coord}
use Rattle.nano_spec.specs.declared.commands.Command.{Command}
use Rattle.nano_spec.specs.declared.commands.Command.TheVariants.{Halt, Wait, Flip, SMove, LMove, FusionP, FusionS, Fission, Fill, Void, GFill, GVoid}
use Rattle.nano_spec.specs.declared.system.Bot.{Bot}
use Rattle.nano_spec.specs.declared.system.Profile.{Profile}
use Rattle.nano_spec.specs.Act.{Act, acts}
use Rattle.nano_spec.specs.Bots.{in_rising_order, successors, with_bot}
use Rattle.nano_spec.specs.Matrix.{Matrix}
use Rattle.nano_spec.specs.State.{State}
use Rattle.nano_spec.specs.Step.{after}
use Rattle.nano_spec.proofs.Accepted.{accepted_step}
use Rattle.plan_tape.specs.Leg.{IsLeg, Moves}
use Rattle.plan_tape.specs.declared.axis.Axis.{Axis}
use Rattle.plan_tape.specs.declared.axis.Axis.TheVariants.{X, Y, Z}
use Rattle.plan_tape.specs.Fissions.{fissions, is_fission}
use Rattle.plan_tape.specs.Progress.{TapeState, spot}
use Rattle.plan_tape.specs.Reaches.{HasAtMost, Reaches, starts, steps_on}

-- ---- one step

with_length : (b : Bot) (xs : List Bot) → length (with_bot b xs) ≡ length xs + 1
with_length b [] = refl
with_length b (x ∷ xs) = by (nat_lt b.bid x.bid) (with_length b xs)
  where
    by : (t : Bool) → length (with_bot b xs) ≡ length xs + 1
        → length (cond t (b ∷ x ∷ xs) (x ∷ with_bot b xs)) ≡ length (x ∷ xs) + 1
    by true h = omega arith
    by false h = omega arith

order_length : (xs : List Bot) → length (in_rising_order xs) ≡ length xs
order_length [] = refl
order_length (x ∷ xs) = let ordered_length = order_length xs in let length_with = with_length x (in_rising_order xs) in omega arith

-- a bot becomes one at most, or two by a Fission
few_successors : (all : List Act) (a : Act) (k : Command)
    → length (successors all a k) ≤ 1 + cond {A = ℕ} (is_fission k) 1 0
few_successors all a (Fission d m) = omega arith
few_successors all a Halt = omega arith
few_successors all a (FusionS d) = omega arith
few_successors all a Wait = omega arith
few_successors all a Flip = omega arith
few_successors all a (SMove d) = omega arith
few_successors all a (LMove d e) = omega arith
few_successors all a (FusionP d) = omega arith
few_successors all a (Fill d) = omega arith
few_successors all a (Void d) = omega arith
few_successors all a (GFill d f) = omega arith
few_successors all a (GVoid d f) = omega arith

few_in_all : (all : List Act) (bots : List Bot) (commands : List Command)
    → length (flat_map (λ a. successors all a a.command) (acts bots commands))
    ≤ length bots + count_by is_fission commands
few_in_all all [] commands = omega arith
few_in_all all (b ∷ bots) [] = omega arith
few_in_all all (b ∷ bots) (k ∷ commands) =
    let act : Act = record { bot = b; command = k } in
    let successors_few = few_in_all all bots commands in
    let successors_few_here = few_successors all act k in
    let length_is = length-append (successors all act k) (flat_map (λ x. successors all x x.command) (acts bots commands)) in
    let sum_is = sum_by-cons (λ x. cond {A = ℕ} (is_fission x) 1 0) k commands in
    omega (arith, successors_few, successors_few_here, length_is, sum_is)

few_after : (s : State) (commands : List Command)
    → length (after s commands).bots ≤ length s.bots + count_by is_fission commands
few_after s commands = let successors_few = few_in_all (acts s.bots commands) s.bots commands in let ordered_length = order_length (flat_map (λ a. successors (acts s.bots commands) a a.command) (acts s.bots commands)) in omega arith

-- ---- all steps

-- there are no more bots than those that were made, and the first one
few_reached : (source : Matrix) (profile : Profile) (commands : List Command) (s : State) (steps : ℕ)
    → Reaches source profile commands s steps → length s.bots ≤ 1 + count_by is_fission commands
few_reached source profile commands s steps (starts e f g) = let length_is : length s.bots ≡ 1 = ap (λ (t : State). length t.bots) f in omega arith
few_reached source profile commands s steps (steps_on t before step done r some l next e f) =
    let bots_few = few_reached source profile before t done r in
    let bots_few_here = few_after t step in
    let same_length : length s.bots ≡ length (after t step).bots = ap (λ (u : State). length u.bots) (accepted_step t s step (done + 1) next).is in
    let same_count : count_by is_fission commands ≡ count_by is_fission before + count_by is_fission step = ap (count_by is_fission) e ∙ sum_by-append (λ x. cond {A = ℕ} (is_fission x) 1 0) before step in
    omega arith

-- if few commands make bots, there are few bots at all times
pub few_at_most : (source : Matrix) (profile : Profile) (commands : List Command) (n : ℕ)
    → 1 + count_by is_fission commands ≤ n → HasAtMost source profile commands n
few_at_most source profile commands n le = λ before rest s steps e r.
    let bots_few = few_reached source profile before s steps r in
    let same_count : count_by is_fission commands ≡ count_by is_fission before + count_by is_fission rest = ap (count_by is_fission) e ∙ sum_by-append (λ x. cond {A = ℕ} (is_fission x) 1 0) before rest in
    omega arith

-- ---- tapes

pub fissions_more : (p q : TapeState) (k : List Command) (n : ℕ) → q.commands ≡ p.commands ++ k
    → count_by is_fission k ≡ n → fissions q ≡ fissions p + n
unfolding fissions
fissions_more p q k n e f = ap (count_by is_fission) e ∙ (sum_by-append (λ x. cond {A = ℕ} (is_fission x) 1 0) p.commands k ∙ ap (λ m. count_by is_fission p.commands + m) f)

pub no_fission_in_leg : (axis : Axis) (a b : ℕ) (commands : List Command) → IsLeg axis a b commands
    → count_by is_fission commands ≡ 0
no_fission_in_leg axis a b [] h = refl
no_fission_in_leg axis a b (k ∷ more) h =
    let sum_is = sum_by-cons (λ x. cond {A = ℕ} (is_fission x) 1 0) k more in
    let fission_count_zero : cond {A = ℕ} (is_fission k) 1 0 ≡ 0 = ap (λ x. cond {A = ℕ} (is_fission x) 1 0) h.1 in
    let no_fission = no_fission_in_leg axis h.0 b more h.3 in
    omega (arith, sum_is, fission_count_zero, no_fission)

pub fissions_is : (p : TapeState) (k : List Command) → k ≡ p.commands → count_by is_fission k ≡ fissions p
unfolding fissions
fissions_is p k e = ap (count_by is_fission) e

pub fissions_none : (p : TapeState) → p.commands ≡ [] → fissions p ≡ 0
unfolding fissions
fissions_none p e = ap (count_by is_fission) e

-- moves make no bot
pub moves_make_none : (p q : TapeState) (to : Coord) → Moves p q to → fissions q ≡ fissions p
moves_make_none p q to h =
    let legs = h.legs in
    let no_fission_x = no_fission_in_leg X (spot p.bots).x to.x legs.x legs.along_x.leg in
    let no_fission_y = no_fission_in_leg Y (spot p.bots).y to.y legs.y legs.along_y.leg in
    let no_fission_z = no_fission_in_leg Z (spot p.bots).z to.z legs.z legs.along_z.leg in
    let fission_count = λ (c : Command). cond {A = ℕ} (is_fission c) 1 0 in
    let xy : count_by is_fission (legs.x ++ legs.y) ≡ count_by is_fission legs.x + count_by is_fission legs.y = sum_by-append fission_count legs.x legs.y in
    let xyz : count_by is_fission (legs.x ++ legs.y ++ legs.z) ≡ count_by is_fission (legs.x ++ legs.y) + count_by is_fission legs.z = sum_by-append fission_count (legs.x ++ legs.y) legs.z in
    let all : count_by is_fission h.commands ≡ count_by is_fission (legs.x ++ legs.y ++ legs.z) = ap (count_by is_fission) legs.joined in
    let none : count_by is_fission h.commands ≡ 0 = omega arith in
    let more = fissions_more p q h.commands 0 h.added none in
    omega arith

-- one command of the only bot that is no Fission makes none
pub write_makes_none : (p q : TapeState) (k : Command) → q.commands ≡ p.commands ++ k ∷ [] → is_fission k ≡ false
    → fissions q ≡ fissions p
write_makes_none p q k e n =
    let sum_is = sum_by-cons (λ (c : Command). cond {A = ℕ} (is_fission c) 1 0) k [] in
    let one : cond {A = ℕ} (is_fission k) 1 0 ≡ 0 = ap (λ t. cond {A = ℕ} t 1 0) n in
    let none : count_by is_fission (k ∷ []) ≡ 0 = omega (arith, sum_is, one) in
    let more = fissions_more p q (k ∷ []) 0 e none in
    omega arith

-- The most commands and bytes of an accepted trace with few active bots.
use Rattle.std.proofs.Common.{◌≡◌, ◌∙◌, ℕ, suc, ◌+◌, ◌*◌, ◌/◌, ◌≤◌, List, [], ◌∷◌, ◌++◌, refl, sym, ap, subst, arith, length, take, drop, append_assoc, mul-le-mul}
use Rattle.std.specs.Prelude.{ℤ, All, Option, Some, None}
use Rattle.std.proofs.lemmas.List.{length-append, length-take, take-append-drop}
use Rattle.vox_geom.specs.declared.coordinate.Coord.{Coord}
use Rattle.nano_spec.specs.declared.commands.Command.{Command}
use Rattle.nano_spec.specs.declared.commands.Command.TheVariants.{Fill, Fission, Flip, FusionP, FusionS, GFill, GVoid, Halt, LMove, SMove, Void, Wait}
use Rattle.nano_spec.specs.declared.outcomes.Verdict.{Verdict}
use Rattle.nano_spec.specs.declared.outcomes.Verdict.TheVariants.{Accepted}
use Rattle.nano_spec.specs.declared.system.Profile.{Profile}
use Rattle.nano_spec.specs.Matrix.{Matrix}
use Rattle.nano_spec.specs.Model.{volume}
use Rattle.nano_spec.specs.Spelling.{spelling, spellings}
use Rattle.nano_spec.specs.State.{State, opening}
use Rattle.nano_spec.specs.Verdict.{Run, VerdictOf, breaks, compared, ending, ends, first_difference, goes}
use Rattle.low_planner.specs.Commands.{IsPlain}
use Rattle.plan_tape.specs.Reaches.{HasAtMost, Reaches, starts, steps_on}
use Rattle.swarm_planner.specs.Bounds.{width}
use Rattle.void_planner.specs.Bounds.{most_void_steps, tiles_of}
use Rattle.plan_tape.proofs.Reached.{enough}
use Rattle.low_planner.proofs.Alone.{plain_more}
use Rattle.plan_choice.specs.Planners.{byte_limit}
use Rattle.nano_spec.proofs.Lengths.{spelling_short}

-- ---- commands

module _ (source target : Matrix) (profile : Profile) (commands : List Command) (n : ℕ) (few : HasAtMost source profile commands n) (energy : ℤ) (steps : ℕ) where
  at_end : (s : State) (rest : List Command) (done : ℕ) → ending target s rest done ≡ Accepted energy steps
      → length rest + n * done ≤ n * steps
  at_end s [] done h = by (first_difference s.matrix target) h
    where
      by : (o : Option Coord) → compared s.energy done o ≡ Accepted energy steps → 0 + n * done ≤ n * steps
      by None h = let same : done ≡ steps = cc in subst (λ (m : ℕ). 0 + n * done ≤ n * m) same (omega arith)
      by (Some c) h = absurd (cc)
  at_end s (k ∷ more) done h = absurd (cc)

  one_more : (whole step rest done : ℕ) → whole ≡ step + rest → step ≤ n → rest + n * (done + 1) ≤ n * steps
      → whole + n * done ≤ n * steps
  one_more whole step rest done e l h = let more : n * (done + 1) ≡ n * done + n = omega arith in omega (arith, e, l, h, more)

  counted : (before rest : List Command) (s : State) (done : ℕ) (v : Verdict) → commands ≡ before ++ rest
      → Reaches source profile before s done → Run target s rest done v → v ≡ Accepted energy steps
      → length rest + n * done ≤ n * steps
  counted before rest s done v e r (ends none f) g = at_end s rest done (sym f ∙ g)
  counted before rest s done v e r (breaks some next f) g = absurd (let impossible = sym f ∙ g in cc)
  counted before rest s done v e r (goes {bot = bot} {bots = bots} {t = t} some next run) g =
      let count = length s.bots in
      let step = take count rest in
      let left = drop count rest in
      let joined : step ++ left ≡ rest = take-append-drop count rest in
      let there : count ≡ suc (length bots) = ap length some in
      let enough_there = enough s t step (done + 1) next in
      let taken = length-take count rest in
      let size : length step ≡ count = omega (arith, taken, enough_there) in
      let whole : commands ≡ (before ++ step) ++ left = e ∙ (ap (λ (xs : List Command). before ++ xs) (sym joined) ∙ sym (append_assoc before step left)) in
      let later = counted (before ++ step) left t (done + 1) v whole (steps_on s before step done r (omega (arith, there)) size next refl refl) run g in
      let sum : length rest ≡ length step + length left = ap length (sym joined) ∙ length-append step left in
      let most : length step ≤ n = subst (λ (m : ℕ). m ≤ n) (sym size) (few before rest s done e r) in
      one_more (length rest) (length step) (length left) done sum most later

  pub few_commands : VerdictOf source target commands profile (Accepted energy steps) → length commands ≤ n * steps
  few_commands h = let counted_here = counted [] commands (opening source profile) 0 (Accepted energy steps) refl (starts refl refl refl) h refl in omega (arith, counted_here)

-- ---- bytes

pub four_each : (commands : List Command) → length (spellings commands) ≤ 4 * length commands
four_each [] = omega arith
four_each (c ∷ more) =
    let sum : length (spellings (c ∷ more)) ≡ length (spelling c) + length (spellings more) = length-append (spelling c) (spellings more) in
    let one = spelling_short c in
    let rest = four_each more in
    omega (arith, sum, one, rest)

two : (c : Command) → IsPlain c → length (spelling c) ≤ 2
two Halt h = omega arith
two Wait h = omega arith
two Flip h = absurd h
two (SMove d) h = omega arith
two (LMove d e) h = omega arith
two (FusionP d) h = omega arith
two (FusionS d) h = omega arith
two (Fission d m) h = absurd h
two (Fill d) h = omega arith
two (Void d) h = omega arith
two (GFill d f) h = absurd h
two (GVoid d f) h = absurd h

pub two_each : (commands : List Command) → All IsPlain commands → length (spellings commands) ≤ 2 * length commands
two_each [] h = omega arith
two_each (c ∷ more) h =
    let sum : length (spellings (c ∷ more)) ≡ length (spelling c) + length (spellings more) = length-append (spelling c) (spellings more) in
    let one = two c (h 0 c (omega arith)) in
    let rest = two_each more (plain_more c more h) in
    omega (arith, sum, one, rest)

-- ---- within the limit of a crew's plan

-- a plan of the layer planner
pub layer_fits : (r size : ℕ) → r ≤ 400 → size ≤ 8 * volume r + 200 → size ≤ byte_limit
layer_fits r size most bound = let cube : r * r * r ≤ 400 * 400 * 400 = mul-le-mul (mul-le-mul most most) most in omega (arith, cube, bound)

pub void_fits : (r steps commands size : ℕ) → r ≤ 400 → steps ≤ most_void_steps r → commands ≤ 4 * steps
    → size ≤ 4 * commands → size ≤ byte_limit
void_fits r steps commands size most few a b =
    let side : tiles_of r ≤ 13 = few_tiles r most in
    let square : tiles_of r * tiles_of r ≤ 13 * 13 = mul-le-mul side side in
    let all : 8 * r * (tiles_of r * tiles_of r) ≤ 3200 * 169 = mul-le-mul (eight r most) square in
    by (8 * r * (tiles_of r * tiles_of r)) all few
  where
    few_tiles : (r : ℕ) → r ≤ 400 → (r + 30) / 31 ≤ 13
    few_tiles r h = omega arith

    eight : (r : ℕ) → r ≤ 400 → 8 * r ≤ 3200
    eight r h = omega arith

    by : (x : ℕ) → x ≤ 540800 → steps ≤ x + 8 * r + 200 → size ≤ byte_limit
    by x h few = omega (arith, h, few, most, a, b)

-- a model has few voxels
pub volume_most : (r : ℕ) → r ≤ 400 → volume r ≤ 64000000
volume_most r h = mul-le-mul (mul-le-mul h h) h

pub low_fits : (cube full steps commands size : ℕ) → cube ≤ 64000000 → full ≤ cube → steps ≤ 4 * full + cube + 200
    → commands ≤ 1 * steps → size ≤ 2 * commands → size ≤ byte_limit
low_fits cube full steps commands size most some few a b = omega arith

-- a plan of the swarm planner
pub swarm_fits : (r steps commands size : ℕ) → r ≤ 400 → steps ≤ 4 * width r * r * r + 8 * r + 2000
    → commands ≤ 20 * steps → size ≤ 4 * commands → size ≤ byte_limit
swarm_fits r steps commands size most few a b =
    let all : 4 * width r * r * r ≤ 80 * 400 * 400 = mul-le-mul (mul-le-mul (strip r most) most) most in
    by (4 * width r * r * r) all few
  where
    strip : (r : ℕ) → r ≤ 400 → 4 * width r ≤ 80
    strip r h = omega arith

    by : (all : ℕ) → all ≤ 80 * 400 * 400 → steps ≤ all + 8 * r + 2000 → size ≤ byte_limit
    by all h k = omega arith

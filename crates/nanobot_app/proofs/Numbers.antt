-- The numbers of an accepted run are small, and no two that are small are printed alike.
use Rattle.std.proofs.Common.{◌≡◌, ◌∙◌, ℕ, suc, ◌+◌, ◌^◌, ◌<◌, ◌≤◌, List, [], ◌∷◌, ◌++◌, codes, refl, sym, ap, subst, arith, length, take, drop, append_assoc, FitsSigned, w64, decimal}
use Rattle.std.specs.Prelude.{ℤ, pos, negsuc, ◌+ℤ◌, ◌<ℤ◌, unsigned_abs, Option, Some, None, Ok, IsSomeAnd}
use Rattle.std.specs.Fmt.{signed_decimal}
use Rattle.std.specs.List.{AllByRecursion}
use Rattle.std.specs.Str.Parse.{AllDigits}
use Rattle.std.proofs.lemmas.Fmt.{decimal_injective, decimal_is_IsNumeral, signed_decimal_injective}
use Rattle.std.proofs.lemmas.Int.{ints}
use Rattle.std.proofs.lemmas.List.{length-append, length-map, length-take, take-append-drop}
use Rattle.std.proofs.lemmas.Str.Parse.{digit_from_value}
use Rattle.vox_geom.specs.declared.coordinate.Coord.{Coord}
use Rattle.vox_geom.specs.Space.{coordinate_at, coordinates}
use Rattle.nano_spec.specs.declared.commands.Command.{Command}
use Rattle.nano_spec.specs.declared.outcomes.Verdict.{Verdict}
use Rattle.nano_spec.specs.declared.outcomes.Verdict.TheVariants.{Accepted}
use Rattle.nano_spec.specs.declared.system.Profile.{Profile}
use Rattle.nano_spec.specs.Cutting.{AreCommands}
use Rattle.nano_spec.specs.Legal.{IsLegal}
use Rattle.nano_spec.specs.Matrix.{Matrix, empty}
use Rattle.nano_spec.specs.Model.{model, volume}
use Rattle.nano_spec.specs.Profile.{full_profile}
use Rattle.nano_spec.specs.State.{State, opening}
use Rattle.nano_spec.specs.Step.{after}
use Rattle.nano_spec.specs.Verdict.{Run, VerdictOf, breaks, compared, ending, ends, first_difference, goes}
use Rattle.nano_spec.proofs.Accepted.{accepted_step}
use Rattle.plan_tape.specs.Progress.{IsBounded}
use Rattle.plan_tape.specs.Reaches.{HasAtMost, Reaches, starts, steps_on}
use Rattle.vox_depot.specs.Files.{Files, content}
use Rattle.plan_choice.specs.Planners.{byte_limit}
use Rattle.nanobot_rows.specs.Models.{AreModels, IsModelOf}
use Rattle.nanobot_words.specs.Rows.{HasName}
use Rattle.nanobot_rows.specs.Lines.{accepted_line}
use Rattle.nanobot_rows.proofs.Loads.{few_commands}
use Rattle.nanobot_app.specs.Headline.{IsCost, MachineTakes, TakesBytes}
use Rattle.plan_tape.proofs.Reached.{enough}
use Rattle.plan_tape.proofs.AfterSteps.{bounded_on}
use Rattle.plan_tape.proofs.Many.{first_part, last_part}
use Rattle.low_planner.proofs.Builds.{length_all}

-- ---- no two are printed alike

-- the byte is none of these
abbrev LacksByte : ℕ → List ℕ → Type 0
LacksByte end bytes = AllByRecursion (λ b. b ≡ end → ⊥) bytes

abbrev first : List ℕ → ℕ
first [] = 0
first (b ∷ bytes) = b

-- the bytes before the first byte of a kind, and those after it
split : (end : ℕ) (xs ys more rest : List ℕ) → LacksByte end xs → LacksByte end ys → xs ++ end ∷ more ≡ ys ++ end ∷ rest
    → (xs ≡ ys) × (more ≡ rest)
split end [] [] more rest h k e = (refl, ap (drop 1) e)
split end [] (y ∷ ys) more rest h k e = absurd (k.0 (sym (ap first e)))
split end (x ∷ xs) [] more rest h k e = absurd (h.0 (ap first e))
split end (x ∷ xs) (y ∷ ys) more rest h k e =
    let head : x ≡ y = ap first e in
    let later = split end xs ys more rest h.1 k.1 (ap (drop 1) e) in
    ((λ i. head i ∷ later.0 i), later.1)

digits_lack : (end : ℕ) (ds : List ℕ) → end < 48 → AllDigits 10 ds → LacksByte end ds
digits_lack end [] low h = tt
digits_lack end (d ∷ ds) low h = ((λ e. let is = digit_from_value d h.0 in absurd (omega (arith, is, e))), digits_lack end ds low h.1)

decimal_lacks : (end n : ℕ) → end < 45 → n < 2 ^ 64 → LacksByte end (decimal n)
decimal_lacks end n low small = digits_lack end (decimal n) (omega arith) (decimal_is_IsNumeral n small).0.1

signed_lacks : (end : ℕ) (z : ℤ) → end < 45 → FitsSigned w64 z → LacksByte end (signed_decimal z)
signed_lacks end (pos n) low fits = decimal_lacks end n low (let small : n < 2 ^ 63 = fits.sfits in omega arith)
signed_lacks end (negsuc n) low fits = ((λ e. absurd (omega arith)), decimal_lacks end (suc n) low (let small : n < 2 ^ 63 = fits.sfits in omega arith))

pub line_apart : (energy energy' : ℤ) (steps steps' : ℕ) → FitsSigned w64 energy → FitsSigned w64 energy'
    → steps < 2 ^ 64 → steps' < 2 ^ 64 → accepted_line energy steps ≡ accepted_line energy' steps'
    → (energy ≡ energy') × (steps ≡ steps')
line_apart energy energy' steps steps' fits fits' few few' e =
    let one = split 32 (signed_decimal energy) (signed_decimal energy') (codes "steps " ++ (decimal steps ++ 10 ∷ [])) (codes "steps " ++ (decimal steps' ++ 10 ∷ [])) (signed_lacks 32 energy (omega arith) fits) (signed_lacks 32 energy' (omega arith) fits') (ap (drop 10) e) in
    let two = split 10 (decimal steps) (decimal steps') [] [] (decimal_lacks 10 steps (omega arith) few) (decimal_lacks 10 steps' (omega arith) few') (ap (drop 6) one.1) in
    (signed_decimal_injective energy energy' fits.sfits fits'.sfits one.0, decimal_injective steps steps' few few' two.0)

fits_of : (z : ℤ) → unsigned_abs z < 2 ^ 63 → FitsSigned w64 z
fits_of (pos n) h = record { sfits = h }
fits_of (negsuc n) h = record { sfits = omega (arith, h) }

pub cost_fits : (energy : ℤ) (steps : ℕ) → IsCost energy steps → FitsSigned w64 energy × (steps < 2 ^ 64)
cost_fits energy steps is = (fits_of energy is.0, omega (arith, is.1))

pub cost_apart : (energy energy' : ℤ) (steps steps' : ℕ) → IsCost energy steps → IsCost energy' steps'
    → accepted_line energy steps ≡ accepted_line energy' steps' → (energy ≡ energy') × (steps ≡ steps')
cost_apart energy energy' steps steps' is is' =
    let fits = cost_fits energy steps is in
    let fits_here = cost_fits energy' steps' is' in
    line_apart energy energy' steps steps' fits.0 fits_here.0 fits.1 fits_here.1

-- ---- those of an accepted run are small

-- laws of lower crates on a step, on the states that are reached, and on models
pub record CostLaws : Type 0 where
  pub rises : (s : State) (commands : List Command) → s.matrix.resolution ≤ 400 → length s.bots ≤ 40
      → AreCommands commands → (after s commands).energy <ℤ (s.energy +ℤ pos 3000000000)
  pub falls : (s : State) (commands : List Command) → s.matrix.resolution ≤ 400 → length s.bots ≤ 40
      → AreCommands commands → s.energy <ℤ ((after s commands).energy +ℤ pos 3000000000)
  pub few : (source : Matrix) (profile : Profile) (commands : List Command) → 1 ≤ source.resolution
      → source.resolution ≤ 400 → length source.voxels ≡ volume source.resolution → AreCommands commands
      → HasAtMost source profile commands (profile.seeds + 1)
  pub some : (bytes : List ℕ) (m : Matrix) → model bytes ≡ Ok m → 1 ≤ m.resolution
  pub most : (bytes : List ℕ) (m : Matrix) → model bytes ≡ Ok m → m.resolution ≤ 400
  pub whole : (bytes : List ℕ) (m : Matrix) → model bytes ≡ Ok m → length m.voxels ≡ volume m.resolution

small : (energy : ℤ) (steps : ℕ) → IsBounded energy steps → steps ≤ 1073741824 → IsCost energy steps
small (pos n) steps b few = let high = b.high in (omega (arith, ints), omega arith)
small (negsuc n) steps b few = let low = b.low in (omega (arith, ints), omega arith)

module _ (laws : CostLaws) (source target : Matrix) (profile : Profile) (commands : List Command) (seeds : profile.seeds ≤ 39) (some : 1 ≤ source.resolution) (most : source.resolution ≤ 400) (whole : length source.voxels ≡ volume source.resolution) (are : AreCommands commands) (energy : ℤ) (steps : ℕ) where
  at_end : (s : State) (rest : List Command) (done : ℕ) → IsBounded s.energy done
      → ending target s rest done ≡ Accepted energy steps → IsBounded energy steps × (steps ≤ done + length rest)
  at_end s [] done b h = by (first_difference s.matrix target) h
    where
      by : (o : Option Coord) → compared s.energy done o ≡ Accepted energy steps
          → IsBounded energy steps × (steps ≤ done + 0)
      by None h =
          let count : done ≡ steps = cc in
          let cost : s.energy ≡ energy = cc in
          (subst (λ (k : ℕ). IsBounded energy k) count (subst (λ (e : ℤ). IsBounded e done) cost b), omega arith)
      by (Some c) h = absurd (cc)
  at_end s (k ∷ more) done b h = absurd (cc)

  counted : (before rest : List Command) (s : State) (done : ℕ) (v : Verdict) → commands ≡ before ++ rest
      → Reaches source profile before s done → s.matrix.resolution ≡ source.resolution → IsBounded s.energy done
      → Run target s rest done v → v ≡ Accepted energy steps → IsBounded energy steps × (steps ≤ done + length rest)
  counted before rest s done v e r same b (ends none f) g = at_end s rest done b (sym f ∙ g)
  counted before rest s done v e r same b (breaks some_bot next f) g = absurd (let impossible = sym f ∙ g in cc)
  counted before rest s done v e r same b (goes {bot = bot} {bots = bots} {t = t} some_bot next run) g =
      let count = length s.bots in
      let step = take count rest in
      let left = drop count rest in
      let joined : step ++ left ≡ rest = take-append-drop count rest in
      let there : count ≡ suc (length bots) = ap length some_bot in
      let enough_there = enough s t step (done + 1) next in
      let taken = length-take count rest in
      let size : length step ≡ count = omega (arith, taken, enough_there) in
      let all : commands ≡ (before ++ step) ++ left = e ∙ (ap (λ (xs : List Command). before ++ xs) (sym joined) ∙ sym (append_assoc before step left)) in
      let fits : s.matrix.resolution ≤ 400 = subst (λ (k : ℕ). k ≤ 400) (sym same) most in
      let few_bots = laws.few source profile commands some most whole are before rest s done e r in
      let little : count ≤ 40 = omega (arith, few_bots, seeds) in
      let of_step : AreCommands step = last_part before step (first_part (before ++ step) left (subst AreCommands all are)) in
      let is : t ≡ after s step = (accepted_step s t step (done + 1) next).is in
      let on : IsBounded t.energy (done + 1) = subst (λ (u : State). IsBounded u.energy (done + 1)) (sym is) (bounded_on s.energy (after s step).energy done b (laws.rises s step fits little of_step) (laws.falls s step fits little of_step)) in
      let later = counted (before ++ step) left t (done + 1) v all (steps_on s before step done r (omega (arith, there)) size next refl refl) (ap (λ (u : State). u.matrix.resolution) is ∙ same) on run g in
      let sum : length rest ≡ length step + length left = ap length (sym joined) ∙ length-append step left in
      (later.0, omega (arith, later.1, sum, size, there))

  pub verdict_is_small : length commands ≤ byte_limit → VerdictOf source target commands profile (Accepted energy steps)
      → IsCost energy steps
  verdict_is_small few h =
      let counted_here = counted [] commands (opening source profile) 0 (Accepted energy steps) refl (starts refl refl refl) refl (record { low = omega (arith, ints); high = omega (arith, ints) }) h refl in
      small energy steps counted_here.0 (omega (arith, counted_here.1, few))

-- ---- of a run of files

-- the resolution is 1 to 400, and each coordinate has a voxel
record HasVoxels (m : Matrix) : Type 0 where
  some : 1 ≤ m.resolution
  most : m.resolution ≤ 400
  whole : length m.voxels ≡ volume m.resolution

empty_has : (r : ℕ) → 1 ≤ r → r ≤ 400 → HasVoxels (empty r)
empty_has r low high = record {
  some = low;
  most = high;
  whole = length-map (coordinates r) _ ∙ length_all (coordinate_at r) (volume r) 0;
}

module _ (laws : CostLaws) (files : Files) where
  model_has : (name : List ℕ) (m : Matrix) → IsModelOf files name m → HasVoxels m
  model_has name m is = by (content files name) is
    where
      by : (o : Option (List ℕ)) → IsSomeAnd o (λ bytes. (model bytes ≡ Ok m) × IsLegal m) → HasVoxels m
      by None h = absurd h
      by (Some bytes) h = record { some = laws.some bytes m h.0; most = laws.most bytes m h.0; whole = laws.whole bytes m h.0 }

  source_has : (source target : Option (List ℕ)) (s t : Matrix) → HasName source target
      → AreModels source target files s t → HasVoxels s
  source_has (Some name) target s t named m = model_has name s m.source_is
  source_has None (Some name) s t named m = let has_voxels = model_has name t m.target_is in subst HasVoxels (sym m.source_is) (empty_has t.resolution has_voxels.some has_voxels.most)
  source_has None None s t named m = absurd named

  -- the energy and the number of steps of a run that takes its whole trace
  pub run_is_small : (source target : Option (List ℕ)) (trace : List ℕ) (energy : ℤ) (steps : ℕ)
      → MachineTakes files source target trace energy steps → IsCost energy steps
  run_is_small source target trace energy steps t = by (content files trace) t.taken
    where
      has : HasVoxels t.from
      has = source_has source target t.from t.to t.named t.models

      by : (o : Option (List ℕ)) → IsSomeAnd o (λ bytes. TakesBytes t.from t.to bytes energy steps)
          → IsCost energy steps
      by None h = absurd h
      by (Some bytes) h =
          verdict_is_small laws t.from t.to full_profile h.1.0 (omega arith) has.some has.most has.whole h.1.1.0 energy steps
          (few_commands bytes h.1.0 byte_limit h.1.1 h.0) h.1.2

-- A run of the definitions goes through the reached states, and ends at one of them.
use Rattle.std.proofs.Common.{◌≡◌, ◌⊎◌, ℕ, suc, ◌+◌, ◌<◌, ◌≤◌, refl, sym, ◌∙◌, ap, subst, inl, inr, arith, List, [], ◌∷◌, ◌++◌, length, take, drop, get_or, append_assoc, append-nil, Option, Some, None}
use Rattle.std.specs.Prelude.{ℤ, ◌↔◌, option_map}
use Rattle.std.specs.List.{slice_get}
use Rattle.std.proofs.Math.Seq.{take-append_seam, drop-append_seam}
use Rattle.std.proofs.lemmas.List.{length-take, take-append-drop}
use Rattle.std.proofs.lemmas.Option.{slice_get_cases}
use Rattle.vox_geom.specs.declared.coordinate.Coord.{Coord}
use Rattle.nano_spec.specs.declared.commands.Command.{Command}
use Rattle.nano_spec.specs.declared.outcomes.Rule.TheVariants.{TraceEnds}
use Rattle.nano_spec.specs.declared.outcomes.Verdict.{Verdict}
use Rattle.nano_spec.specs.declared.outcomes.Verdict.TheVariants.{Accepted}
use Rattle.nano_spec.specs.declared.system.Bot.{Bot}
use Rattle.nano_spec.specs.declared.system.Profile.{Profile}
use Rattle.nano_spec.specs.Act.{acts}
use Rattle.nano_spec.specs.First.{first_value}
use Rattle.nano_spec.specs.Group.{leaders}
use Rattle.nano_spec.specs.Matrix.{Matrix}
use Rattle.nano_spec.specs.Next.{Breaks, Goes, Next}
use Rattle.nano_spec.specs.Rules.{judge_bots, judge_pairs}
use Rattle.nano_spec.specs.State.{State, opening}
use Rattle.nano_spec.specs.Verdict.{Run, VerdictOf, breaks, compared, ending, ends, first_difference, goes}
use Rattle.nano_spec.proofs.Unique.{Next-unique}
use Rattle.nano_spec.proofs.Accepted.{accepted_step}
use Rattle.plan_tape.specs.Reaches.{DecidesAt, IsDecided, Reaches, ReachesTarget, starts, steps_on}
use Rattle.plan_tape.proofs.Runs.{run_of}

-- ---- one step

-- an accepted step has a command for each bot
pub enough : (s t : State) (step : List Command) (k : ℕ) → Next s step k (Goes t) → length s.bots ≤ length step
enough s t step k next = by (slice_get_cases s.bots (length step)).1
  where
    lacks : (bot : Bot) → slice_get s.bots (length step) ≡ Some bot → ⊥
    lacks bot e =
        let keeps = (accepted_step s t step k next).keeps in
        let ends = ap (λ (o : Option Bot). first_value (option_map (λ (b : Bot). record { step = k; bid = b.bid; rule = TraceEnds; at = b.pos }) o ∷ (judge_bots s (acts s.bots step) k ++ judge_pairs s.matrix (acts s.bots step) k (leaders (acts s.bots step))))) e in
        cc

    by : ((x : Bot) × (length step < length s.bots) × (slice_get s.bots (length step) ≡ Some x)
        × (get_or s.bots (length step) x ≡ x))
        ⊎ ((length s.bots ≤ length step) × (slice_get s.bots (length step) ≡ None)) → length s.bots ≤ length step
    by (inl h) = absurd (lacks h.0 h.2)
    by (inr h) = h.0

module _ (target : Matrix) (s t : State) (step rest : List Command) (done : ℕ) (v : Verdict) (some : 0 < length s.bots) (whole : length step ≡ length s.bots) (next : Next s step (done + 1) (Goes t)) where
  front : take (length s.bots) (step ++ rest) ≡ step
  front = subst (λ (k : ℕ). take k (step ++ rest) ≡ step) whole (take-append_seam step rest)

  back : drop (length s.bots) (step ++ rest) ≡ rest
  back = subst (λ (k : ℕ). drop k (step ++ rest) ≡ rest) whole (drop-append_seam step rest)

  -- the verdict on the commands from the state before the step is that on the rest from the state after it
  one_after : Run target s (step ++ rest) done v → Run target t rest (done + 1) v
  one_after (ends none f) = absurd (let length_is : length s.bots ≡ 0 = ap length none in omega arith)
  one_after (breaks {b = b} a n f) =
      let fails : Next s step (done + 1) (Breaks b) = subst (λ (k : List Command). Next s k (done + 1) (Breaks b)) front n in
      absurd (let no = Next-unique s step (done + 1) (Breaks b) (Goes t) fails next in cc)
  one_after (goes {t = u} a n run) =
      let there : Next s step (done + 1) (Goes u) = subst (λ (k : List Command). Next s k (done + 1) (Goes u)) front n in
      let same : u ≡ t = let one = Next-unique s step (done + 1) (Goes u) (Goes t) there next in cc in
      subst (λ (x : State). Run target x rest (done + 1) v) same (subst (λ (k : List Command). Run target u k (done + 1) v) back run)

-- ---- all steps

-- the verdict on all commands is that on the rest at a reached state
to_reached : (source target : Matrix) (profile : Profile) (before rest : List Command) (s : State) (done : ℕ)
    (v : Verdict) → Reaches source profile before s done → VerdictOf source target (before ++ rest) profile v
    → Run target s rest done v
to_reached source target profile before rest s done v (starts e f g) run =
    subst (λ (n : ℕ). Run target s rest n v) (sym g)
    (subst (λ (x : State). Run target x rest 0 v) (sym f)
    (subst (λ (k : List Command). Run target (opening source profile) (k ++ rest) 0 v) e run))
to_reached source target profile before rest s done v (steps_on t first step count r some whole next e f) run =
    let all : VerdictOf source target (first ++ (step ++ rest)) profile v = subst (λ (k : List Command). VerdictOf source target k profile v) (ap (λ (k : List Command). k ++ rest) e ∙ append_assoc first step rest) run in
    subst (λ (n : ℕ). Run target s rest n v) (sym f) (one_after target t s step rest count v some whole next (to_reached source target profile first (step ++ rest) t count v r all))

pub onward : (source target : Matrix) (profile : Profile) (before rest : List Command) (s : State) (done : ℕ)
    (v : Verdict) → Reaches source profile before s done
    → (VerdictOf source target (before ++ rest) profile v ↔ Run target s rest done v)
onward source target profile before rest s done v r = (to_reached source target profile before rest s done v r, run_of target rest v r)

-- each verdict is decided at a reached state
pub decided : (source target : Matrix) (profile : Profile) (before rest : List Command) (s : State) (done : ℕ)
    (v : Verdict) → Reaches source profile before s done → Run target s rest done v
    → IsDecided source target profile (before ++ rest) v
decided source target profile before rest s done v r (ends none f) = record { before = before; rest = rest; joined = refl; last = s; done = done; reaches = r; falls = inl (none, f) }
decided source target profile before rest s done v r (breaks {b = b} some next f) = record { before = before; rest = rest; joined = refl; last = s; done = done; reaches = r; falls = inr (b, next, f) }
decided source target profile before rest s done v r (goes {bot = bot} {bots = bots} {t = t} some next run) =
    let count = length s.bots in
    let step = take count rest in
    let left = drop count rest in
    let joined : step ++ left ≡ rest = take-append-drop count rest in
    let there : count ≡ suc (length bots) = ap length some in
    let enough_there = enough s t step (done + 1) next in
    let taken = length-take count rest in
    let size : length step ≡ count = omega (arith, taken, enough_there) in
    let later = decided source target profile (before ++ step) left t (done + 1) v (steps_on s before step done r (omega (arith, there)) size next refl refl) run in
    let whole : before ++ rest ≡ (before ++ step) ++ left = ap (λ (k : List Command). before ++ k) (sym joined) ∙ sym (append_assoc before step left) in
    record { before = later.before; rest = later.rest; joined = whole ∙ later.joined; last = later.last; done = later.done; reaches = later.reaches; falls = later.falls }

-- ---- the end

module _ (source target : Matrix) (profile : Profile) (energy : ℤ) (steps : ℕ) where
  -- an accepting verdict is decided at a state without bots, whose voxels are those of the target
  at_end : (before rest : List Command) (s : State) (done : ℕ) → Reaches source profile before s done → s.bots ≡ []
      → ending target s rest done ≡ Accepted energy steps
      → ReachesTarget source target profile (before ++ rest) energy steps
  at_end before [] s done r none h = by (first_difference s.matrix target) refl h
    where
      by : (o : Option Coord) → first_difference s.matrix target ≡ o → compared s.energy done o ≡ Accepted energy steps
          → ReachesTarget source target profile (before ++ []) energy steps
      by None e h =
          let count : done ≡ steps = cc in
          let paid : s.energy ≡ energy = cc in
          record {
            last = s;
            reaches = subst (λ (n : ℕ). Reaches source profile (before ++ []) s n) count (subst (λ (k : List Command). Reaches source profile k s done) (sym (append-nil before)) r);
            no_bot = none;
            energy_is = paid;
            same = e;
          }
      by (Some c) e h = absurd (cc)
  at_end before (k ∷ more) s done r none h = absurd (cc)

  there : (commands : List Command) (d : IsDecided source target profile commands (Accepted energy steps))
      → DecidesAt target d.last d.rest d.done (Accepted energy steps)
      → ReachesTarget source target profile commands energy steps
  there commands d (inl h) = subst (λ (k : List Command). ReachesTarget source target profile k energy steps) (sym d.joined) (at_end d.before d.rest d.last d.done d.reaches h.0 (sym h.1))
  there commands d (inr h) = absurd (let e = h.2 in cc)

  pub accepted : (commands : List Command) → (VerdictOf source target commands profile (Accepted energy steps) ↔
      ReachesTarget source target profile commands energy steps)
  accepted commands = (
    λ run. let decided_here = decided source target profile [] commands (opening source profile) 0 (Accepted energy steps) (starts refl refl refl) run in there commands decided_here decided_here.falls,
    λ r.
        let told : Accepted energy steps ≡ ending target r.last [] steps = ap (λ (e : ℤ). Accepted e steps) (sym r.energy_is) ∙ ap (compared r.last.energy steps) (sym r.same) in
        subst (λ (k : List Command). VerdictOf source target k profile (Accepted energy steps)) (append-nil commands) (run_of target [] (Accepted energy steps) r.reaches (ends r.no_bot told)),
  )

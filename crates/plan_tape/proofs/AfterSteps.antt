-- A tape after a step of all bots.
use Rattle.std.proofs.Common.{◌≡◌, ℕ, ◌+◌, ◌≤◌, ◌<◌, refl, sym, ◌∙◌, ap, subst, arith, List, ◌++◌, length}
use Rattle.std.specs.Prelude.{All, ℤ, pos, ◌+ℤ◌, ◌<ℤ◌, None}
use Rattle.std.proofs.lemmas.Int.{ints}
use Rattle.vox_geom.specs.Space.{IsInSpace}
use Rattle.nano_spec.specs.declared.commands.Command.{Command}
use Rattle.nano_spec.specs.Rules.{broken}
use Rattle.nano_spec.specs.Spelling.{spellings}
use Rattle.nano_spec.specs.State.{State}
use Rattle.nano_spec.specs.Step.{after}
use Rattle.vox_planes.specs.Voxel.{IsWhole}
use Rattle.system_state.specs.Bounds.{IsPayable}
use Rattle.plan_tape.specs.Progress.{IsBounded, IsHeld, IsReached, TapeState, bytes, progress_of, state_of, tape_stepped}
use Rattle.plan_tape.specs.Reaches.{steps_on}
use Rattle.plan_tape.proofs.Steps.{goes_on, spellings-joined}

-- a step can be paid
pub payable : (energy : ℤ) (steps : ℕ) → IsBounded energy steps → steps < 1073741824 → IsPayable energy
payable energy steps b few =
    let low = b.low in
    let high = b.high in
    record { above = omega (arith, ints); below = omega (arith, ints) }

-- a step changes the energy by little
pub bounded_on : (old new : ℤ) (steps : ℕ) → IsBounded old steps → new <ℤ (old +ℤ pos 3000000000)
    → old <ℤ (new +ℤ pos 3000000000) → IsBounded new (steps + 1)
bounded_on old new steps b rises falls =
    let low = b.low in
    let high = b.high in
    record { low = omega (arith, ints); high = omega (arith, ints) }

-- the state after the step, as the system has it
pub record IsAfter (s : State) (k : List Command) (t : State) : Type 0 where
  pub value : t ≡ after s k
  pub whole : IsWhole t.matrix
  pub within : All (λ b. IsInSpace t.matrix.resolution b.pos) t.bots
  pub rises : t.energy <ℤ (s.energy +ℤ pos 3000000000)
  pub falls : s.energy <ℤ (t.energy +ℤ pos 3000000000)

-- the tape now, after the commands of a step of all bots
pub record Takes (old now : TapeState) (k : List Command) : Type 0 where
  pub reached : IsReached now
  pub value : now ≡ tape_stepped old k

-- the commands of a step that breaks no rule lead on
reached : (p : TapeState) (k : List Command) → IsReached p → 1 ≤ length p.bots → length k ≡ length p.bots
    → broken (state_of p) k (p.steps + 1) ≡ None → IsHeld (tape_stepped p k).harmonics (tape_stepped p k).matrix
    → p.steps < 1073741824 → IsAfter (state_of p) k (after (state_of p) k) → IsReached (tape_stepped p k)
reached p k r some l b held few a = record {
  whole = a.whole;
  placed = a.within;
  held = held;
  reaches = steps_on (state_of p) p.commands k p.steps r.reaches (omega arith) l (goes_on (state_of p) (after (state_of p) k) k (p.steps + 1) b refl held) refl refl;
  bounded = bounded_on p.energy (after (state_of p) k).energy p.steps r.bounded a.rises a.falls;
  few = omega arith;
}

takes : (p : TapeState) (k commands : List Command) (t : State) → IsReached p → 1 ≤ length p.bots
    → length k ≡ length p.bots → broken (state_of p) k (p.steps + 1) ≡ None
    → IsHeld (tape_stepped p k).harmonics (tape_stepped p k).matrix → p.steps < 1073741824 → commands ≡ p.commands ++ k
    → IsAfter (state_of p) k t → Takes p (progress_of p.source commands t (p.steps + 1)) k
takes p k commands t r some l b held few e a =
    let value : progress_of p.source commands t (p.steps + 1) ≡ tape_stepped p k = (λ i. progress_of p.source (e i) (a.value i) (p.steps + 1)) in
    record {
      reached = subst IsReached (sym value) (reached p k r some l b held few (subst (λ (u : State). IsAfter (state_of p) k u) a.value a));
      value = value;
    }

-- the same of the tape's parts
pub step_takes : (inside old : TapeState) → inside ≡ old → IsReached inside → (k commands : List Command) (t : State)
    → 1 ≤ length old.bots → length k ≡ length old.bots → broken (state_of old) k (old.steps + 1) ≡ None
    → IsHeld (tape_stepped old k).harmonics (tape_stepped old k).matrix → old.steps < 1073741824
    → commands ≡ inside.commands ++ k → IsAfter (state_of inside) k t
    → Takes old (progress_of inside.source commands t (inside.steps + 1)) k
step_takes inside old e r k commands t = subst (λ (o : TapeState). 1 ≤ length o.bots → length k ≡ length o.bots → broken (state_of o) k (o.steps + 1) ≡ None → IsHeld (tape_stepped o k).harmonics (tape_stepped o k).matrix → o.steps < 1073741824 → commands ≡ inside.commands ++ k → IsAfter (state_of inside) k t → Takes o (progress_of inside.source commands t (inside.steps + 1)) k) e
    (λ some l b held few ec a. takes inside k commands t r some l b held few ec a)

-- the number of bytes of the commands then
pub bytes_stepped : (old now : TapeState) (k : List Command) → now ≡ tape_stepped old k
    → bytes now ≡ bytes old + length (spellings k)
unfolding bytes
bytes_stepped old now k e = ap (λ (p : TapeState). length (spellings p.commands)) e ∙ spellings-joined old.commands k

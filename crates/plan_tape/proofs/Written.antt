-- A tape after one command of its only bot, and after many moves.
use Rattle.std.proofs.Common.{◌≡◌, ℕ, zero, suc, ◌+◌, ◌*◌, ◌<◌, refl, sym, ◌∙◌, ap, subst, arith, List, [], ◌∷◌, ◌++◌, true, false, cond, length, None, length-append, append-nil}
use Rattle.std.specs.Prelude.{All, ℤ, pos, negsuc, ◌+ℤ◌, unsigned_abs}
use Rattle.std.proofs.lemmas.Grind.{flat_map-append}
use Rattle.std.proofs.lemmas.Int.{ints}
use Rattle.vox_geom.specs.declared.difference.Diff.{Diff}
use Rattle.vox_geom.specs.Space.{IsInSpace}
use Rattle.nano_spec.specs.declared.commands.Command.{Command}
use Rattle.nano_spec.specs.declared.commands.Command.TheVariants.{Halt, Flip, Fill, Void}
use Rattle.nano_spec.specs.declared.system.Bot.{Bot}
use Rattle.nano_spec.specs.declared.system.Harmonics.{Harmonics}
use Rattle.nano_spec.specs.declared.system.Harmonics.TheVariants.{Low}
use Rattle.nano_spec.specs.declared.system.Profile.{Profile}
use Rattle.nano_spec.specs.Energy.{upkeep_of}
use Rattle.nano_spec.specs.Grounded.{FirstUngrounded}
use Rattle.nano_spec.specs.Matrix.{Matrix, is_full}
use Rattle.nano_spec.specs.Spelling.{spelling, spellings}
use Rattle.nano_spec.specs.State.{origin, first_bot}
use Rattle.nano_spec.specs.Step.{flipped}
use Rattle.vox_planes.specs.Voxel.{IsWhole, with_voxel}
use Rattle.plan_tape.specs.Progress.{IsAllowed, IsBounded, IsHeld, IsReachable, IsReached, TapeState, Writes, beside, bytes, spot, starting, upkeep_of_step}
use Rattle.plan_tape.specs.Reaches.{starts}
use Rattle.plan_tape.proofs.Steps.{Does, fills, flips, halts, one_more, only_bot, progress_after, voids}

-- the tape before the first command
pub started : (source : Matrix) (profile : Profile) → IsWhole source → FirstUngrounded source None
    → IsReached (starting source profile)
started source profile w g = record {
  whole = w;
  placed = one_placed source.resolution (first_bot profile) (let some = w.some in record { x = omega arith; y = omega arith; z = omega arith });
  held = λ _. g;
  reaches = starts refl refl refl;
  bounded = record { low = omega (arith, ints); high = omega (arith, ints) };
  few = omega arith;
}
  where
    one_placed : (r : ℕ) (b : Bot) → IsInSpace r b.pos → All (λ a. IsInSpace r a.pos) (b ∷ [])
    one_placed r b h zero d l = h
    one_placed r b h (suc k) d l = absurd (omega arith)

-- ---- one command

pub bytes_after : (p q : TapeState) (k : Command) → q.commands ≡ p.commands ++ k ∷ []
    → bytes q ≡ bytes p + length (spelling k)
unfolding bytes
bytes_after p q k e = ap (λ c. length (spellings c)) e ∙ (ap length (flat_map-append spelling p.commands (k ∷ [])) ∙ (length-append (spellings p.commands) (spelling k ++ []) ∙ ap (λ x. length (spellings p.commands) + length x) (append-nil (spelling k))))

-- the energy after steps of the only bot
pub record IsCharged (p : TapeState) (count : ℕ) (cost energy : ℤ) : Type 0 where
  pub value : energy ≡ (p.energy +ℤ pos (count * upkeep_of_step p)) +ℤ cost
  pub bounded : IsBounded energy (p.steps + count)

-- the same as it is read back from its bits
pub charged_as : (p : TapeState) (count : ℕ) (cost result energy : ℤ) → energy ≡ result
    → result ≡ (p.energy +ℤ pos (count * upkeep_of_step p)) +ℤ cost → IsBounded result (p.steps + count)
    → IsCharged p count cost energy
charged_as p count cost result energy e v b = record { value = e ∙ v; bounded = subst (λ (z : ℤ). IsBounded z (p.steps + count)) (sym e) b }

-- the energy by the upkeep of one bot
pub charged_is : (inside old : TapeState) (count r : ℕ) (cost result : ℤ) → inside ≡ old → length old.bots ≡ 1
    → r ≡ inside.matrix.resolution
    → result ≡ (inside.energy +ℤ pos (count * unsigned_abs (upkeep_of r inside.harmonics 1))) +ℤ cost
    → result ≡ (old.energy +ℤ pos (count * upkeep_of_step old)) +ℤ cost
charged_is inside old count r cost result e l f v =
    v ∙ ((λ j. ((e j).energy +ℤ pos (count * unsigned_abs (upkeep_of ((f ∙ ap (λ (p : TapeState). p.matrix.resolution) e) j) (e j).harmonics 1))) +ℤ cost)
    ∙ ap (λ n. (old.energy +ℤ pos (count * unsigned_abs (upkeep_of old.matrix.resolution old.harmonics n))) +ℤ cost) (sym l))

once : (n : ℕ) → 1 * n ≡ n
once n = omega arith

-- the fields of a tape after a command
abbrev pub now_of : TapeState → List Command → Matrix → Harmonics → List Bot → ℤ → ℕ → TapeState
now_of p commands m h bots energy count = record { source = p.source; commands = commands; matrix = m; harmonics = h; bots = bots; energy = energy; profile = p.profile; steps = p.steps + count }

module _ (p : TapeState) (k : Command) (m : Matrix) (h : Harmonics) (bots : List Bot) (cost : ℤ) (commands : List Command) (matrix : Matrix) (harmonics : Harmonics) (bots' : List Bot) (energy : ℤ) where
  pub made : commands ≡ p.commands ++ k ∷ [] → matrix ≡ m → harmonics ≡ h → bots' ≡ bots → IsCharged p 1 cost energy
      → Writes p (now_of p commands matrix harmonics bots' energy 1) k m h bots cost
  made ec em eh eb ee = record {
    source = refl;
    profile = refl;
    commands = ec;
    matrix = em;
    harmonics = eh;
    bots_are = eb;
    energy = ee.value ∙ ap (λ n. (p.energy +ℤ pos n) +ℤ cost) (once (upkeep_of_step p));
    steps = refl;
    bytes_are = bytes_after p (now_of p commands matrix harmonics bots' energy 1) k ec;
  }

-- the written command was accepted
module _ (p now : TapeState) (b : Bot) (k : Command) (m : Matrix) (h : Harmonics) (bots : List Bot) (cost : ℤ) where
  reached : p.bots ≡ b ∷ [] → IsReached p → Does p b k m h bots cost → IsWhole now.matrix
      → All (λ c. IsInSpace m.resolution c.pos) bots → p.steps < 1073741824 → Writes p now k m h bots cost
      → IsBounded now.energy (p.steps + 1) → IsReached now
  reached only r d w i l s e = subst IsReached all (record { whole = subst IsWhole s.matrix w; placed = i; held = d.held; reaches = one_more p b k m h bots cost only r.reaches d; bounded = subst (λ (z : ℤ). IsBounded z (p.steps + 1)) s.energy e; few = omega arith })
    where
      all : progress_after p k m h bots cost ≡ now
      all =
          let es = sym s.source in
          let ec = sym s.commands in
          let em = sym s.matrix in
          let eh = sym s.harmonics in
          let eb = sym s.bots_are in
          let ee = sym s.energy in
          let ep = sym s.profile in
          let en = sym s.steps in
          λ j. record { source = es j; commands = ec j; matrix = em j; harmonics = eh j; bots = eb j; energy = ee j; profile = ep j; steps = en j }

-- ---- the result of each call: it is reached, and it is as the call promises

-- the tape now, after one command: computed from the tape within, and from the old one
pub record Makes (old now : TapeState) (k : Command) (m : Matrix) (h : Harmonics) (bots : List Bot) (cost : ℤ) : Type 0 where
  pub reached : IsReached now
  pub writes : Writes old now k m h bots cost

module _ (inside old : TapeState) (e : inside ≡ old) (r : IsReached inside) (commands : List Command) (energy : ℤ) where
  pub flip_makes : (harmonics : Harmonics) → length old.bots ≡ 1 → IsAllowed old Flip
      → IsHeld (flipped old.harmonics) old.matrix → old.steps < 1073741824 → commands ≡ inside.commands ++ Flip ∷ []
      → harmonics ≡ flipped inside.harmonics → IsCharged old 1 (pos 0) energy → Makes old
      (now_of inside commands inside.matrix harmonics inside.bots energy 1) Flip old.matrix (flipped old.harmonics)
      old.bots (pos 0)
  flip_makes harmonics = subst (λ (o : TapeState). length o.bots ≡ 1 → IsAllowed o Flip → IsHeld (flipped o.harmonics) o.matrix → o.steps < 1073741824 → commands ≡ inside.commands ++ Flip ∷ [] → harmonics ≡ flipped inside.harmonics → IsCharged o 1 (pos 0) energy → Makes o (now_of inside commands inside.matrix harmonics inside.bots energy 1) Flip o.matrix (flipped o.harmonics) o.bots (pos 0)) e
      (λ l a g n ec eh ee.
      let only = only_bot inside.bots l in
      let made_so = made inside Flip inside.matrix (flipped inside.harmonics) inside.bots (pos 0) commands inside.matrix harmonics inside.bots energy ec refl eh refl ee in
      record { reached = reached inside _ only.0 Flip inside.matrix (flipped inside.harmonics) inside.bots (pos 0) only.1 r (flips inside r.whole l a g) r.whole r.placed n made_so ee.bounded; writes = made_so })

  pub fill_makes : (d : Diff) (matrix : Matrix) → length old.bots ≡ 1 → IsAllowed old (Fill d) → IsReachable old d
      → IsHeld old.harmonics (with_voxel old.matrix (beside old d) true) → old.steps < 1073741824
      → commands ≡ inside.commands ++ Fill d ∷ [] → matrix ≡ with_voxel inside.matrix (beside old d) true
      → IsWhole matrix → IsCharged old 1 (cond (is_full old.matrix (beside old d)) (pos 6) (pos 12)) energy → Makes old
      (now_of inside commands matrix inside.harmonics inside.bots energy 1) (Fill d)
      (with_voxel old.matrix (beside old d) true) old.harmonics old.bots
      (cond (is_full old.matrix (beside old d)) (pos 6) (pos 12))
  fill_makes d matrix = subst (λ (o : TapeState). length o.bots ≡ 1 → IsAllowed o (Fill d) → IsReachable o d → IsHeld o.harmonics (with_voxel o.matrix (beside o d) true) → o.steps < 1073741824 → commands ≡ inside.commands ++ Fill d ∷ [] → matrix ≡ with_voxel inside.matrix (beside o d) true → IsWhole matrix → IsCharged o 1 (cond (is_full o.matrix (beside o d)) (pos 6) (pos 12)) energy → Makes o (now_of inside commands matrix inside.harmonics inside.bots energy 1) (Fill d) (with_voxel o.matrix (beside o d) true) o.harmonics o.bots (cond (is_full o.matrix (beside o d)) (pos 6) (pos 12))) e
      (λ l a i g n ec em w ee.
      let only = only_bot inside.bots l in
      let made_so = made inside (Fill d) (with_voxel inside.matrix (beside inside d) true) inside.harmonics inside.bots (cond (is_full inside.matrix (beside inside d)) (pos 6) (pos 12)) commands matrix inside.harmonics inside.bots energy ec em refl refl ee in
      record { reached = reached inside _ only.0 (Fill d) _ inside.harmonics inside.bots _ only.1 r (fills inside r.whole l d a i g) w r.placed n made_so ee.bounded; writes = made_so })

  pub void_makes : (d : Diff) (matrix : Matrix) → length old.bots ≡ 1 → IsAllowed old (Void d) → IsReachable old d
      → IsHeld old.harmonics (with_voxel old.matrix (beside old d) false) → old.steps < 1073741824
      → commands ≡ inside.commands ++ Void d ∷ [] → matrix ≡ with_voxel inside.matrix (beside old d) false
      → IsWhole matrix → IsCharged old 1 (cond (is_full old.matrix (beside old d)) (negsuc 11) (pos 3)) energy → Makes
      old (now_of inside commands matrix inside.harmonics inside.bots energy 1) (Void d)
      (with_voxel old.matrix (beside old d) false) old.harmonics old.bots
      (cond (is_full old.matrix (beside old d)) (negsuc 11) (pos 3))
  void_makes d matrix = subst (λ (o : TapeState). length o.bots ≡ 1 → IsAllowed o (Void d) → IsReachable o d → IsHeld o.harmonics (with_voxel o.matrix (beside o d) false) → o.steps < 1073741824 → commands ≡ inside.commands ++ Void d ∷ [] → matrix ≡ with_voxel inside.matrix (beside o d) false → IsWhole matrix → IsCharged o 1 (cond (is_full o.matrix (beside o d)) (negsuc 11) (pos 3)) energy → Makes o (now_of inside commands matrix inside.harmonics inside.bots energy 1) (Void d) (with_voxel o.matrix (beside o d) false) o.harmonics o.bots (cond (is_full o.matrix (beside o d)) (negsuc 11) (pos 3))) e
      (λ l a i g n ec em w ee.
      let only = only_bot inside.bots l in
      let made_so = made inside (Void d) (with_voxel inside.matrix (beside inside d) false) inside.harmonics inside.bots (cond (is_full inside.matrix (beside inside d)) (negsuc 11) (pos 3)) commands matrix inside.harmonics inside.bots energy ec em refl refl ee in
      record { reached = reached inside _ only.0 (Void d) _ inside.harmonics inside.bots _ only.1 r (voids inside r.whole l d a i g) w r.placed n made_so ee.bounded; writes = made_so })

  pub halt_makes : (bots : List Bot) → length old.bots ≡ 1 → IsAllowed old Halt → spot old.bots ≡ origin
      → old.harmonics ≡ Low → old.steps < 1073741824 → commands ≡ inside.commands ++ Halt ∷ [] → bots ≡ []
      → IsCharged old 1 (pos 0) energy → Makes old (now_of inside commands inside.matrix inside.harmonics bots energy 1)
      Halt old.matrix old.harmonics [] (pos 0)
  halt_makes bots = subst (λ (o : TapeState). length o.bots ≡ 1 → IsAllowed o Halt → spot o.bots ≡ origin → o.harmonics ≡ Low → o.steps < 1073741824 → commands ≡ inside.commands ++ Halt ∷ [] → bots ≡ [] → IsCharged o 1 (pos 0) energy → Makes o (now_of inside commands inside.matrix inside.harmonics bots energy 1) Halt o.matrix o.harmonics [] (pos 0)) e
      (λ l a i g n ec eb ee.
      let only = only_bot inside.bots l in
      let made_so = made inside Halt inside.matrix inside.harmonics [] (pos 0) commands inside.matrix inside.harmonics bots energy ec refl refl eb ee in
      record { reached = reached inside _ only.0 Halt inside.matrix inside.harmonics [] (pos 0) only.1 r (halts inside r.whole l a i g r.held) r.whole (λ k c m. absurd (omega arith)) n made_so ee.bounded; writes = made_so })

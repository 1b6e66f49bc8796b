-- A tape after a move of its only bot.
use Rattle.std.proofs.Common.{◌≡◌, ℕ, zero, suc, ◌+◌, ◌*◌, ◌≤◌, refl, sym, ◌∙◌, ap, subst, arith, List, [], ◌∷◌, ◌++◌, Bool, true, false, cond, length, get_or, ◌==◌}
use Rattle.std.specs.Prelude.{All, ℤ, pos, ◌+ℤ◌, IfSome, Some, None}
use Rattle.std.proofs.lemmas.Int.{ints}
use Rattle.vox_geom.specs.declared.coordinate.Coord.{Coord}
use Rattle.vox_geom.specs.Point.{point}
use Rattle.vox_geom.specs.Space.{IsInSpace}
use Rattle.vox_geom.proofs.Tests.{test_itself}
use Rattle.nano_spec.specs.declared.commands.Command.{Command}
use Rattle.nano_spec.specs.declared.system.Bot.{Bot}
use Rattle.nano_spec.specs.Bots.{moved}
use Rattle.nano_spec.specs.Spelling.{spellings}
use Rattle.bot_crew.specs.Crew.{bot_at, bot_of, replaced, stands_at}
use Rattle.plan_tape.specs.Leg.{AreLegs, AreVoidTo, MayMove, Moves, distance, moves_to}
use Rattle.plan_tape.specs.Progress.{IsReached, TapeState, bots_at, bytes, spot, upkeep_of_step}
use Rattle.plan_tape.proofs.Legs.{length-bots_at, spot-bots_at}
use Rattle.plan_tape.proofs.Steps.{IsRun, legs_bytes, progress_at, spellings-joined, walked_to}
use Rattle.plan_tape.proofs.Written.{IsCharged, now_of}

-- ---- the crew of one bot

free_for : (b : Bot) (here : Bool) → IfSome (cond here (Some b) None) (λ (a : Bot). a.bid ≡ b.bid)
free_for b true = refl
free_for b false = tt

-- no other bot is anywhere
pub free_one : (bots now : List Bot) (c : Coord) (d : Bot) → length bots ≡ 1 → now ≡ bots
    → IfSome (bot_at bots c) (λ (a : Bot). a.bid ≡ (get_or now 0 d).bid)
free_one [] now c d l e = absurd (omega arith)
free_one (b ∷ []) now c d l e = rw e (free_for b (stands_at c b))
free_one (a ∷ b ∷ bots) now c d l e = absurd (omega arith)

-- a property of the bots after the only one moved
pub moved_one : (P : List Bot → Type 0) (bots now : List Bot) (c : Coord) (d : Bot) → length bots ≡ 1 → now ≡ bots
    → IfSome (bot_of bots (get_or now 0 d).bid)
    (λ (b : Bot). P (replaced bots ((get_or now 0 d).bid ∷ []) (moved b (point c) ∷ []))) → P (bots_at bots c)
moved_one P [] now c d l e h = absurd (omega arith)
moved_one P (b ∷ []) now c d l e h = by (b.bid == b.bid) (test_itself b.bid) (rw e at h)
  where
    only :
        replaced (b ∷ []) (b.bid ∷ []) (moved b (point c) ∷ []) ≡ record { bid = b.bid; pos = c; seeds = b.seeds } ∷ []
    only = rw (test_itself b.bid) refl

    by : (same : Bool) → same ≡ true
        → IfSome (cond same (Some b) None) (λ (a : Bot). P (replaced (b ∷ []) (b.bid ∷ []) (moved a (point c) ∷ [])))
        → P (record { bid = b.bid; pos = c; seeds = b.seeds } ∷ [])
    by true s h = subst P only h
    by false s h = cc
moved_one P (a ∷ b ∷ bots) now c d l e h = absurd (omega arith)

-- ---- the tape

-- the tape now, after moves to a coordinate
pub record Comes (old now : TapeState) (to : Coord) : Type 0 where
  pub reached : IsReached now
  pub moves : Moves old now to

bytes_gone : (p q : TapeState) (moves : List Command) → q.commands ≡ p.commands ++ moves
    → bytes q ≡ bytes p + length (spellings moves)
unfolding bytes
bytes_gone p q moves e = ap (λ (xs : List Command). length (spellings xs)) e ∙ spellings-joined p.commands moves

paid_once : (e : ℤ) (n g : ℕ) → (e +ℤ pos n) +ℤ pos g ≡ e +ℤ pos (n + g)
paid_once e n g = omega (arith, ints)

placed_at : (r : ℕ) (bots : List Bot) (c : Coord) → length bots ≡ 1 → IsInSpace r c
    → All (λ (a : Bot). IsInSpace r a.pos) (bots_at bots c)
placed_at r [] c l i = absurd (omega arith)
placed_at r (b ∷ []) c l i = one
  where
    one : All (λ (a : Bot). IsInSpace r a.pos) (record { bid = b.bid; pos = c; seeds = b.seeds } ∷ [])
    one zero d m = i
    one (suc k) d m = absurd (omega arith)
placed_at r (a ∷ b ∷ bots) c l i = absurd (omega arith)

-- the position of the only bot is in space
spot_placed : (p : TapeState) → IsReached p → length p.bots ≡ 1 → IsInSpace p.matrix.resolution (spot p.bots)
spot_placed p r l = by p.bots l r.placed
  where
    by : (bots : List Bot) → length bots ≡ 1 → All (λ (a : Bot). IsInSpace p.matrix.resolution a.pos) bots
        → IsInSpace p.matrix.resolution (spot bots)
    by [] m h = absurd (omega arith)
    by (b ∷ bots) m h = h 0 b (omega arith)

module _ (inside old : TapeState) (e : inside ≡ old) (r : IsReached inside) (to : Coord) (commands moves : List Command) (bots : List Bot) (energy : ℤ) (count : ℕ) where
  abbrev Result : TapeState → Type 0
  Result o = length o.bots ≡ 1 → MayMove o → IsInSpace o.matrix.resolution to → AreVoidTo o.matrix (spot o.bots) to → o.steps + moves_to (spot o.bots) to ≤ 1073741824 → AreLegs (spot o.bots) to moves → commands ≡ inside.commands ++ moves → bots ≡ bots_at inside.bots to → count ≡ moves_to (spot o.bots) to → IsCharged o count (pos (2 * distance (spot o.bots) to)) energy → Comes o (now_of inside commands inside.matrix inside.harmonics bots energy count) to

  pub go_makes : Result old
  go_makes = subst Result e (λ l may t v n legs ec eb en ee.
      let paid : energy ≡ inside.energy +ℤ pos (moves_to (spot inside.bots) to * upkeep_of_step inside + 2 * distance (spot inside.bots) to) =
      (ee.value ∙ (paid_once inside.energy (count * upkeep_of_step inside) (2 * distance (spot inside.bots) to) ∙ ap (λ n. inside.energy +ℤ pos (n * upkeep_of_step inside + 2 * distance (spot inside.bots) to)) en)) in
      let all : progress_at inside to moves ≡ now_of inside commands inside.matrix inside.harmonics bots energy count =
      (let fc = sym ec in let fb = sym eb in let fe = sym paid in let fn = sym en in λ j. record { source = inside.source; commands = fc j; matrix = inside.matrix; harmonics = inside.harmonics; bots = fb j; energy = fe j; profile = inside.profile; steps = inside.steps + fn j }) in
      record {
        reached = record {
          whole = r.whole;
          placed = subst (λ (bs : List Bot). All (λ (a : Bot). IsInSpace inside.matrix.resolution a.pos) bs) (sym eb) (placed_at inside.matrix.resolution inside.bots to l t);
          held = r.held;
          reaches = subst IsRun all (walked_to inside to moves legs r.whole r.held l (spot_placed inside r l) t may v r.reaches);
          bounded = ee.bounded;
          few = omega arith;
        };
        moves = record {
          source = refl;
          profile = refl;
          commands = moves;
          legs = legs;
          added = ec;
          matrix = refl;
          harmonics = refl;
          bots = eb;
          alone = ap length eb ∙ (length-bots_at inside.bots to ∙ l);
          there = ap spot eb ∙ spot-bots_at inside.bots to l;
          energy = paid;
          steps = ap (λ k. inside.steps + k) en;
          bytes_are = bytes_gone inside (now_of inside commands inside.matrix inside.harmonics bots energy count) moves ec ∙ ap (λ k. bytes inside + k) (legs_bytes inside to moves legs);
        };
      })

-- The step of the only bot, whose rules are judged one after another.
use Rattle.std.proofs.Common.{◌≡◌, ℕ, ◌+◌, ◌-◌, ◌*◌, ◌<◌, ◌≤◌, refl, ap, sym, ◌∙◌, arith, List, [], ◌∷◌, not, map, Bool, true, false, Option, rules}
use Rattle.std.specs.Prelude.{ℤ, AllPairs, IsTrue}
use Rattle.std.proofs.lemmas.List.Sums.{sum_by-cons}
use Rattle.vox_geom.specs.declared.difference.Diff.{Diff}
use Rattle.nano_spec.specs.declared.commands.Command.{Command}
use Rattle.vox_geom.specs.declared.coordinate.Coord.{Coord}
use Rattle.vox_geom.specs.Point.{Point, point, plus}
use Rattle.vox_geom.specs.Region.{between, corners, is_within, size, span}
use Rattle.vox_geom.specs.Space.{IsInSpace, in_space}
use Rattle.vox_geom.proofs.Covers.{covers}
use Rattle.nano_spec.specs.declared.commands.Command.TheVariants.{Fill, SMove, Void}
use Rattle.nano_spec.specs.declared.outcomes.Broken.{Broken}
use Rattle.nano_spec.specs.declared.outcomes.Rule.TheVariants.{Forbidden}
use Rattle.nano_spec.specs.declared.system.Bot.{Bot}
use Rattle.nano_spec.specs.declared.system.Harmonics.{Harmonics}
use Rattle.nano_spec.specs.declared.system.Profile.{Profile}
use Rattle.nano_spec.specs.Act.{Act, acts}
use Rattle.nano_spec.specs.Matrix.{Matrix}
use Rattle.nano_spec.specs.Profile.{is_allowed}
use Rattle.nano_spec.specs.Rules.{broken, broken_by, fault}
use Rattle.nano_spec.specs.State.{State}
use Rattle.nano_spec.specs.Work.{volatile_total}
use Rattle.step_groups.specs.Judging.{act, edit_of, first_fault, later_rules, start_of, touches_of}
use Rattle.step_groups.proofs.Sums.{touched}
use Rattle.step_groups.proofs.BlockedWays.{skip}
use Rattle.step_groups.proofs.ClearSteps.{ordered_corners}
use Rattle.step_groups.proofs.Touching.{counted, smove_reads_twice}
use Rattle.step_groups.proofs.Whole.{by_itself, none_after}

-- if the profile allows the command, the later rules decide
pub allowed : (m : Matrix) (h : Harmonics) (profile : Profile) (b : Bot) (k : Command) (step : ℕ) (o : Option Broken)
    → is_allowed profile k ≡ true
    → ((s : State) (all : List Act) → o ≡ first_fault (record s { matrix = m }) all step (act b k) later_rules)
    → (energy : ℤ) → o ≡ broken (record (start_of m h profile (b ∷ [])) { energy = energy }) (k ∷ []) step
allowed m h profile b k step o may later energy =
    let state : State = start_of m h profile (b ∷ []) in
    let all : List Act = act b k ∷ [] in
    by_itself m h profile (b ∷ []) (k ∷ []) step o refl refl
    (later state all ∙ (sym (skip step b.bid Forbidden (act b k) (not (is_allowed profile k)) (map (λ rule. broken_by step rule b.bid (fault state all (act b k) rule)) later_rules) (ap not may)) ∙ sym (none_after _)))
    energy

one_rises : (b : Bot) → AllPairs (λ x y. x.bid < y.bid) (b ∷ [])
one_rises b = search rules

-- its rules read volatile coordinates alone
pub read_once : (m : Matrix) (b : Bot) (k : Command) (before after : ℕ) → after ≤ before + touches_of m (act b k)
    → after ≤ before + 2 * volatile_total m (acts (b ∷ []) (k ∷ []))
read_once m b k before after le =
    let sum_is = sum_by-cons (touches_of m) (act b k) [] in
    touched m (b ∷ []) (k ∷ []) before after refl (one_rises b) (omega (arith, sum_is, le))

-- a path that is read once has no more coordinates than are volatile
pub read_half : (m : Matrix) (b : Bot) (d : Diff) (to : Coord) (before after : ℕ)
    → IsTrue (in_space m.resolution (plus (point b.pos) d)) → point to ≡ plus (point b.pos) d
    → IsInSpace m.resolution b.pos → IsInSpace m.resolution to → after ≤ before + size (span (corners b.pos to))
    → after ≤ before + volatile_total m (acts (b ∷ []) (SMove d ∷ []))
read_half m b d to before after inside sum from within le =
    let way : (p : Point) → is_within (span (corners b.pos to)) p ≡ is_within (between (point b.pos) (point to)) p = λ p. covers (corners b.pos to) b.pos to p refl in
    let once = counted m (corners b.pos to) b.pos to before after refl (ordered_corners b.pos to) from within le in
    let again = counted m (corners b.pos to) b.pos to after (after + (after - before)) refl (ordered_corners b.pos to) from within (omega arith) in
    let twice = smove_reads_twice m b d (corners b.pos to) (corners b.pos to) to before after (after + (after - before)) inside sum way way once again in
    let most = read_once m b (SMove d) before (after + (after - before)) twice in
    omega (arith, most)

-- facts of both filling and voiding
pub by_kind : (P : Command → Type 0) (d : Diff) (full : Bool) → P (Fill d) → P (Void d) → P (edit_of full d)
by_kind P d true fill void = fill
by_kind P d false fill void = void

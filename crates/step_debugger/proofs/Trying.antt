-- The judgement of the next step, and the order of its groups.
use Rattle.std.proofs.Common.{◌≡◌, ℕ, ◌+◌, ◌≤◌, ◌==◌, Bool, false, refl, sym, ◌∙◌, ap, arith, List, [], ◌∷◌, ◌++◌, length, length-append}
use Rattle.std.proofs.lemmas.List.{length-map}
use Rattle.std.specs.Prelude.{Some, IfSome}
use Rattle.std.proofs.lemmas.Bool.Decides.{nat_tests}
use Rattle.std.proofs.lemmas.List.Sorted.{length_permutation}
use Rattle.circular_buffer.specs.Buffer.{Buffer}
use Rattle.nano_spec.specs.declared.commands.Command.{Command}
use Rattle.nano_spec.specs.declared.outcomes.Broken.{Broken}
use Rattle.nano_spec.specs.declared.system.Bot.{Bot}
use Rattle.nano_spec.specs.Act.{Act, acts}
use Rattle.nano_spec.specs.Group.{leaders}
use Rattle.nano_spec.specs.Next.{Breaks, Next, breaks_at_start}
use Rattle.nano_spec.specs.Rules.{broken}
use Rattle.nano_spec.specs.Serial.{leader_bids}
use Rattle.step_machine.specs.Situation.{Situation}
use Rattle.step_machine.specs.declared.undo.Undo.{Undo}
use Rattle.step_machine.proofs.Stepping.{not_grounding}
use Rattle.system_state.proofs.Gathered.{acts_most, leaders_most}
use Rattle.step_debugger.specs.declared.fault.DebugFault.{DebugFault}
use Rattle.step_debugger.specs.declared.fault.DebugFault.TheVariants as fault
use Rattle.step_debugger.specs.Calls.{fault_report}
use Rattle.step_debugger.specs.Debugging.{Debugging, debugging_of, point_of}
use Rattle.step_debugger.specs.Kept.{AreBegun, Begin, IsKept}
use Rattle.step_debugger.specs.Readiness.{IsUnready}
use Rattle.step_debugger.specs.Session.{AnswersLine, Ended, Refused, DebugReport, Session, Step, UnlessEnded, next_commands, next_leaders}
use Rattle.step_debugger.proofs.Making.{here, refused_other}

-- ---- if no step can be attempted

pub unless_active : (bots : List Bot) (s t : Session) (report : DebugReport) (P : Type 0) → 1 ≤ length bots → P
    → UnlessEnded bots s t report P
unless_active [] s t report P l p = absurd (omega arith)
unless_active (b ∷ bots) s t report P l p = p

pub ended_is : (bots : List Bot) (s : Session) (P : Type 0) → bots ≡ [] → UnlessEnded bots s s Ended P
ended_is [] s P e = (refl, refl)
ended_is (b ∷ bots) s P e = cc

broken_next : (s : Session) (commands : List Command) (b : Broken)
    → broken s.point.state (next_commands commands s.point) (s.point.steps + 1) ≡ Some b
    → Next s.point.state (next_commands commands s.point) (s.point.steps + 1) (Breaks b)
broken_next s commands b e = breaks_at_start b e refl

pub unready_step : (commands : List Command) (s : Session) (f : DebugFault) → IsUnready commands s.point f
    → IfSome (fault_report f) (AnswersLine commands Step s s)
unready_step commands s fault.Ended h = ended_is s.point.state.bots s _ h
unready_step commands s (fault.Broken b) h =
    unless_active s.point.state.bots s s (Refused b) _ h.0
    (Breaks b, broken_next s commands b h.1, (sym (refused_other b.rule s (not_grounding s.point.state (next_commands commands s.point) (s.point.steps + 1) b h.1)), refl))
unready_step commands s fault.NoHistory h = absurd h
unready_step commands s (fault.NotLeader leader) h = absurd h
unready_step commands s fault.Memory h = absurd h

-- ---- the order of the groups

leaders_few : (bots : List Bot) (commands : List Command) → length (leader_bids (acts bots commands)) ≤ length bots
leaders_few bots commands =
    let mapped_length = length-map (leaders (acts bots commands)) (λ (a : Act). a.bot.bid) in
    let leaders_bound = leaders_most (acts bots commands) in
    let acts_bound = acts_most bots commands in
    omega (arith, mapped_length, leaders_bound, acts_bound)

-- a group is begun if the list reports that it is not empty
pub begun_some : (begun : List ℕ) (empty : Bool) → empty ≡ (length begun == 0) → empty ≡ false → begun ≡ [] → ⊥
begun_some begun empty e h f = let length_is = ap (λ (xs : List ℕ). length xs) f in let length_not_zero : (length begun == 0) ≡ false = sym e ∙ h in grind (arith, nat_tests)

module _ (v : Situation) (notes : Buffer Undo) (commands : List Command) (taken : ℕ) (begun left : List ℕ) (bots : List Bot) (d : Debugging)
    (e : debugging_of v notes.items commands taken begun ≡ d) (kept : IsKept v notes commands taken begun left bots) (stands : d.spent ≡ false) where
  pub begun_are : (begun ≡ [] → ⊥) → AreBegun commands (point_of v taken) begun left bots
  begun_are n = by begun n (here v notes commands taken begun left bots d e kept stands).begin
    where
      by : (xs : List ℕ) → (xs ≡ [] → ⊥) → Begin commands (point_of v taken) xs left bots
          → AreBegun commands (point_of v taken) xs left bots
      by [] m h = absurd (m refl)
      by (x ∷ xs) m h = h

  pub order_fits : (begun ≡ [] → ⊥) → length v.state.bots ≤ 40 → length begun + length left ≤ 40
  order_fits n most =
      let same_length = length_permutation (next_leaders commands (point_of v taken)) (begun ++ left) (begun_are n).leaders in
      let length_is = length-append begun left in
      let leaders_bound = leaders_few v.state.bots (next_commands commands (point_of v taken)) in
      omega (arith, same_length, length_is, leaders_bound, most)

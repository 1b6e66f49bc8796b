-- The effect of one more command on a runner.
use Rattle.std.proofs.Common.{◌≡◌, ℕ, ◌+◌, ◌<◌, ◌==◌, arith, refl, sym, ◌∙◌, ap, subst, eq-eqb, List, [], ◌∷◌, ◌++◌, Bool, true, false, length, length-append}
use Rattle.std.specs.Prelude.{MatchBool, ◌↔◌, Result, Ok}
use Rattle.nano_spec.specs.declared.commands.Command.{Command}
use Rattle.nano_spec.specs.declared.system.Bot.{Bot}
use Rattle.nano_spec.specs.Next.{Next, Outcome}
use Rattle.run_progress.specs.Progress as progress
use Rattle.run_progress.specs.Progress.{Progress, Pushes, PushesAt, MakesStep, mark_of, with_command, stepped}
use Rattle.trace_judge.specs.declared.runner.Mark.{Mark}
use Rattle.trace_judge.specs.declared.runner.Mark.TheVariants as mark
use Rattle.trace_judge.specs.declared.taking.Taken.TheVariants as taken
use Rattle.step_machine.specs.declared.machine.StepFault.{StepFault}
use Rattle.step_machine.specs.declared.machine.StepOk.{StepOk}
use Rattle.trace_judge.specs.Course.{Course, IsUnderway, course_of, mark_by}
use Rattle.step_machine.specs.Situation.{Situation}
use Rattle.step_machine.specs.Stepped.{Stepped}

module _ (machine : Situation) (pending : List Command) (m : Mark) (v : Course) (seen : course_of machine pending m ≡ v) (runs : m ≡ mark.Running) where
  -- the last command of a step, by the outcome of the step
  pub made : (command : Command) (outcome : Outcome) (q : Progress) → length pending + 1 ≡ length machine.state.bots
      → Next machine.state (pending ++ command ∷ []) (machine.steps + 1) outcome
      → q ≡ stepped (with_command (course_of machine pending m).progress command) outcome → Pushes v.progress command q
  made command outcome q l n f =
      subst (λ (w : Course). Pushes w.progress command q) seen
      (subst (λ (k : progress.Mark). PushesAt k (course_of machine pending m).progress command q) (sym (ap mark_by runs)) joins)
    where
      steps : MakesStep (with_command (course_of machine pending m).progress command) q
      steps = (outcome, n, f)

      joins : MatchBool (length (pending ++ command ∷ []) == length machine.state.bots)
          (MakesStep (with_command (course_of machine pending m).progress command) q)
          (q ≡ with_command (course_of machine pending m).progress command)
      joins = subst (λ (b : Bool). MatchBool b (MakesStep (with_command (course_of machine pending m).progress command) q) (q ≡ with_command (course_of machine pending m).progress command)) (sym (eq-eqb (length (pending ++ command ∷ [])) (length machine.state.bots) (length-append pending (command ∷ []) ∙ l))) steps

-- the mark after a step
pub halted_mark : (bots : List Bot) (halted : Bool) → (halted ≡ true ↔ bots ≡ []) → halted ≡ true
    → progress.Halted ≡ mark_of bots
halted_mark [] halted h e = refl
halted_mark (b ∷ bots) halted h e = let f = h.0 e in cc

pub running_mark : (bots : List Bot) (halted : Bool) → (halted ≡ true ↔ bots ≡ []) → halted ≡ false
    → progress.Running ≡ mark_of bots
running_mark [] halted h e = let f = h.1 refl in cc
running_mark (b ∷ bots) halted h e = refl

-- the answer of the machine's step, from the pending commands and one more
pub step_answered : (old now new : Situation) (before pending all : List Command) (command : Command)
    (answer : Result StepOk StepFault) (ok : StepOk) (halted : Bool) (began start ended : ℕ) → now ≡ old
    → pending ≡ before → all ≡ pending ++ command ∷ [] → start ≡ began → answer ≡ Ok ok → ok.halted ≡ halted
    → Stepped now new all answer start ended
    → Stepped old new (before ++ command ∷ []) (Ok (record { energy = new.state.energy; halted = halted })) began ended
step_answered old now new before pending all command answer ok halted began start ended m p l s a h stepped =
    let here : Stepped old new (before ++ command ∷ []) (Ok ok) began ended =
    subst (λ (w : Situation). Stepped w new (before ++ command ∷ []) (Ok ok) began ended) m
    (subst (λ (xs : List Command). Stepped now new xs (Ok ok) began ended) (l ∙ ap (λ (ks : List Command). ks ++ command ∷ []) p)
    (subst (λ (r : Result StepOk StepFault). Stepped now new all r began ended) a
    (subst (λ (n : ℕ). Stepped now new all answer n ended) s stepped))) in
    subst (λ (r : Result StepOk StepFault). Stepped old new (before ++ command ∷ []) r began ended) (λ i. Ok (record { energy = here.energy i; halted = h i })) here

-- the same for any answer
pub step_moved : (old now new : Situation) (before pending all : List Command) (command : Command)
    (result answer : Result StepOk StepFault) (began start ended : ℕ) → now ≡ old → pending ≡ before
    → all ≡ pending ++ command ∷ [] → start ≡ began → result ≡ answer → Stepped now new all result start ended
    → Stepped old new (before ++ command ∷ []) answer began ended
step_moved old now new before pending all command result answer began start ended m p l s a stepped =
    subst (λ (w : Situation). Stepped w new (before ++ command ∷ []) answer began ended) m
    (subst (λ (xs : List Command). Stepped now new xs answer began ended) (l ∙ ap (λ (ks : List Command). ks ++ command ∷ []) p)
    (subst (λ (r : Result StepOk StepFault). Stepped now new all r began ended) a
    (subst (λ (n : ℕ). Stepped now new all result n ended) s stepped)))

-- some bot has no command yet: if one more command is pending, if a made step leaves some bot, and if no steps are
-- made
pub waits_on : (old new : Situation) (before after : List Command) (command : Command) (m : Mark) → new ≡ old
    → after ≡ before ++ command ∷ [] → length before + 1 < length old.state.bots → m ≡ mark.Running
    → IsUnderway new after m
waits_on old new before after command m stays joins lacks runs =
    let size : length after ≡ length before + 1 = ap length joins ∙ length-append before (command ∷ []) in
    let bots : length new.state.bots ≡ length old.state.bots = ap (λ (v : Situation). length v.state.bots) stays in
    let here : length after < length new.state.bots = omega (arith, size, bots, lacks) in
    subst (λ (k : Mark). IsUnderway new after k) (sym runs) (λ _. here)

pub made_on : (new : Situation) (after : List Command) (m : Mark) → after ≡ [] → (false ≡ true ↔ new.state.bots ≡ [])
    → m ≡ mark.Running → IsUnderway new after m
made_on new after m none halted runs =
    let here : length after < length new.state.bots = subst (λ (xs : List Command). length xs < length new.state.bots) (sym none) (some new.state.bots halted) in
    subst (λ (k : Mark). IsUnderway new after k) (sym runs) (λ _. here)
  where
    some : (bots : List Bot) → (false ≡ true ↔ bots ≡ []) → 0 < length bots
    some [] h = let f = h.1 refl in cc
    some (b ∷ bots) h = omega arith

pub ended_on : (machine : Situation) (pending : List Command) (m : Mark) → (m ≡ mark.Running → ⊥)
    → IsUnderway machine pending m
ended_on machine pending mark.Running h = absurd (h refl)
ended_on machine pending (mark.Refused b) h = tt
ended_on machine pending mark.Halted h = tt
ended_on machine pending mark.Followed h = tt

-- each end of a call has one answer, by the outcome of the command
pub made_waits : {A : Type 0} → taken.Made ≡ taken.Waits → A
made_waits e = cc

pub halted_waits : {A : Type 0} → taken.Halted ≡ taken.Waits → A
halted_waits e = cc

pub refused_waits : {A : Type 0} → taken.Refused ≡ taken.Waits → A
refused_waits e = cc

pub waits_refused : {A : Type 0} → taken.Waits ≡ taken.Refused → A
waits_refused e = cc

pub made_not_refused : {A : Type 0} → taken.Made ≡ taken.Refused → A
made_not_refused e = cc

pub halted_refused : {A : Type 0} → taken.Halted ≡ taken.Refused → A
halted_refused e = cc

-- The commands of a tape are a run of the definitions.
use Rattle.std.proofs.Common.{◌≡◌, ℕ, ◌+◌, ◌<◌, refl, sym, ◌∙◌, ap, subst, arith, List, [], ◌∷◌, ◌++◌, Bool, true, false, ◌&&◌, ◌||◌, not, length, take, drop, append_assoc, append-nil}
use Rattle.std.proofs.Math.Seq.{take-append_seam, drop-append_seam}
use Rattle.nano_spec.specs.declared.commands.Command.{Command}
use Rattle.nano_spec.specs.declared.outcomes.Verdict.{Verdict}
use Rattle.nano_spec.specs.declared.outcomes.Verdict.TheVariants.{Accepted}
use Rattle.nano_spec.specs.declared.system.Bot.{Bot}
use Rattle.nano_spec.specs.declared.system.Profile.{Profile}
use Rattle.nano_spec.specs.Matrix.{Matrix, is_full, all_of, differ_at}
use Rattle.nano_spec.specs.Next.{Next, Goes}
use Rattle.nano_spec.specs.State.{State}
use Rattle.nano_spec.specs.Verdict.{Run, ends, goes, VerdictOf, compared}
use Rattle.step_order.proofs.Lists.{none_find}
use Rattle.plan_tape.specs.Progress.{AreAlike, IsAccepted, IsReached, TapeState}
use Rattle.plan_tape.specs.Reaches.{Reaches, starts, steps_on}

-- a step of the run
one_more : (target : Matrix) (s t : State) (step rest : List Command) (done : ℕ) (v : Verdict) (bots : List Bot)
    → s.bots ≡ bots → 0 < length bots → length step ≡ length s.bots → Next s step (done + 1) (Goes t)
    → Run target t rest (done + 1) v → Run target s (step ++ rest) done v
one_more target s t step rest done v [] e h l n r = absurd (omega arith)
one_more target s t step rest done v (bot ∷ bots) e h l n r =
    let first : take (length s.bots) (step ++ rest) ≡ step = subst (λ (k : ℕ). take k (step ++ rest) ≡ step) l (take-append_seam step rest) in
    let later : drop (length s.bots) (step ++ rest) ≡ rest = subst (λ (k : ℕ). drop k (step ++ rest) ≡ rest) l (drop-append_seam step rest) in
    goes {bot = bot} {bots = bots} {t = t} e (subst (λ (k : List Command). Next s k (done + 1) (Goes t)) (sym first) n) (subst (λ (k : List Command). Run target t k (done + 1) v) (sym later) r)

-- the verdict on the rest of the commands from the reached state is that on all of them
pub run_of : {source : Matrix} {profile : Profile} {commands : List Command} {s : State} {steps : ℕ} (target : Matrix)
    (rest : List Command) (v : Verdict) → Reaches source profile commands s steps → Run target s rest steps v
    → VerdictOf source target (commands ++ rest) profile v
run_of target rest v (starts e f g) r = rw (e, ← f, ← g) r
run_of {source} target rest v (steps_on {t = t} s before step done h some l n e g) r =
    rw (e, append_assoc) (run_of target (step ++ rest) v h (one_more target s t step rest done v s.bots refl some l n (rw g at r)))

alike : (a b : Bool) → a ≡ b → (a && not b || b && not a) ≡ false
alike true b e = rw (← e) refl
alike false b e = rw (← e) refl

-- a list of commands that reaches a state with no bots whose matrix is like the target is accepted
accepted : {source : Matrix} {profile : Profile} {commands : List Command} {s : State} {steps : ℕ} (target : Matrix)
    → Reaches source profile commands s steps → s.bots ≡ [] → AreAlike s.matrix target
    → VerdictOf source target commands profile (Accepted s.energy steps)
accepted {source} {profile} {commands} {s} {steps} target h none same =
    subst (λ (k : List Command). VerdictOf source target k profile (Accepted s.energy steps)) (append-nil commands)
    (run_of target [] (Accepted s.energy steps) h (ends none (sym (ap (compared s.energy steps) (none_find (differ_at s.matrix target) (all_of s.matrix) (λ c i. alike (is_full s.matrix c) (is_full target c) (same c)))))))

-- the same of a tape
pub finished : (p q : TapeState) → p ≡ q → IsReached p → q.bots ≡ [] → (target : Matrix) → AreAlike q.matrix target
    → IsAccepted q.source target p.commands q.profile p.energy p.steps
finished p q e r none target same =
    subst (λ (x : TapeState). IsAccepted x.source target p.commands x.profile p.energy p.steps) e
    (accepted target r.reaches (ap (λ (x : TapeState). x.bots) e ∙ none) (λ c. ap (λ (x : TapeState). is_full x.matrix c) e ∙ same c))

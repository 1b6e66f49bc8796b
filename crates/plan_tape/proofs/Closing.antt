-- A plan of every target with a tape's voxels is one of this target; and a bound on its bots.
use Rattle.std.proofs.Common.{◌≡◌, ℕ, ◌+◌, ◌≤◌, subst, arith}
use Rattle.std.specs.Prelude.{IfOk, Result, count_by}
use Rattle.std.proofs.lemmas.Result.{IfOk-weaker}
use Rattle.nano_spec.specs.declared.system.Profile.{Profile}
use Rattle.nano_spec.specs.Matrix.{Matrix}
use Rattle.plan_tape.specs.declared.tape.Plan.{Plan}
use Rattle.plan_tape.specs.Fissions.{is_fission}
use Rattle.plan_tape.specs.Progress.{AreAlike, IsAccepted}
use Rattle.plan_tape.specs.Reaches.{HasAtMost}
use Rattle.plan_tape.proofs.Fissions.{few_at_most}

pub accepted_to : {E : Type 0} (r : Result Plan E) (m source n target : Matrix) (k profile : Profile) → m ≡ source
    → AreAlike n target → k ≡ profile
    → IfOk r (λ plan. (goal : Matrix) → AreAlike n goal → IsAccepted m goal plan.commands k plan.energy plan.steps)
    → IfOk r (λ plan. IsAccepted source target plan.commands profile plan.energy plan.steps)
accepted_to r m source n target k profile from alike by h =
    subst (λ (p : Profile). IfOk r (λ plan. IsAccepted source target plan.commands p plan.energy plan.steps)) by
    (subst (λ (s : Matrix). IfOk r (λ plan. IsAccepted s target plan.commands k plan.energy plan.steps)) from
    (IfOk-weaker r _ _ (λ plan accepted. accepted target alike) h))

pub few_made : {E : Type 0} (r : Result Plan E) (source : Matrix) (profile : Profile) (made n : ℕ) → 1 + made ≤ n
    → IfOk r (λ plan. count_by is_fission plan.commands ≡ made)
    → IfOk r (λ plan. HasAtMost source profile plan.commands n)
few_made r source profile made n few h = IfOk-weaker r _ _ (λ (plan : Plan) (e : count_by is_fission plan.commands ≡ made). few_at_most source profile plan.commands n (omega (arith, e, few))) h

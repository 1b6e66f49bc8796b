-- Plain commands make no bot.
use Rattle.std.proofs.Common.{◌≡◌, ℕ, suc, List, [], ◌∷◌, All, false, cond, refl, ap, arith}
use Rattle.std.specs.Prelude.{count_by}
use Rattle.std.proofs.lemmas.List.Sums.{sum_by-cons}
use Rattle.nano_spec.specs.declared.commands.Command.{Command}
use Rattle.nano_spec.specs.declared.commands.Command.TheVariants.{Fill, Fission, Flip, FusionP, FusionS, GFill, GVoid, Halt, LMove, SMove, Void, Wait}
use Rattle.nano_spec.specs.declared.system.Profile.{Profile}
use Rattle.nano_spec.specs.Matrix.{Matrix}
use Rattle.plan_tape.specs.Fissions.{is_fission}
use Rattle.plan_tape.specs.Reaches.{HasAtMost}
use Rattle.plan_tape.proofs.Fissions.{few_at_most}
use Rattle.low_planner.specs.Commands.{IsPlain}

pub plain_more : (c : Command) (more : List Command) → All IsPlain (c ∷ more) → All IsPlain more
plain_more c more h k d l = h (suc k) d (omega (arith, l))

no_fission : (c : Command) → IsPlain c → is_fission c ≡ false
no_fission Halt h = refl
no_fission Wait h = refl
no_fission Flip h = refl
no_fission (SMove d) h = refl
no_fission (LMove d e) h = refl
no_fission (FusionP d) h = refl
no_fission (FusionS d) h = refl
no_fission (Fission d m) h = absurd h
no_fission (Fill d) h = refl
no_fission (Void d) h = refl
no_fission (GFill d f) h = refl
no_fission (GVoid d f) h = refl

none_made : (commands : List Command) → All IsPlain commands → count_by is_fission commands ≡ 0
none_made [] h = refl
none_made (c ∷ more) h =
    let sum_is = sum_by-cons (λ x. cond {A = ℕ} (is_fission x) 1 0) c more in
    let fission_count_zero : cond {A = ℕ} (is_fission c) 1 0 ≡ 0 = ap (λ x. cond {A = ℕ} x 1 0) (no_fission c (h 0 c (omega arith))) in
    let none_made_here = none_made more (plain_more c more h) in
    omega (arith, sum_is, fission_count_zero, none_made_here)

-- so at most one bot is active at any time
pub alone : (source : Matrix) (profile : Profile) (commands : List Command) → All IsPlain commands
    → HasAtMost source profile commands 1
alone source profile commands h = few_at_most source profile commands 1 (let none_made_here = none_made commands h in omega (arith, none_made_here))

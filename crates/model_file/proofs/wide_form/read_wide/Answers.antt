use Rattle.std.proofs.Common.{◌≡◌, ◌+◌, ◌-◌, ◌*◌, ◌≤◌, ℕ, ◌∙◌, subst, arith, length, drop, take, List}
use Rattle.std.specs.Prelude.{Result, Ok, Err, slice_index}
use Rattle.std.proofs.lemmas.List.{get_or_default, take_rest}
use Rattle.nano_spec.specs.Matrix.{Matrix}
use Rattle.nano_spec.specs.Model.{NoModel, of_runs, runs_in, volume, wide_form}
use Rattle.model_file.specs.declared.fault.ModelFault.{ModelFault}
use Rattle.model_file.specs.declared.fault.ModelFault.TheVariants.{Refused}
use Rattle.model_file.specs.Fault.{ReadsModel}
use Rattle.model_file.proofs.WideForms.{wide_is}
use Rattle.model_file.proofs.wide_form.read_wide.Goals as goal

-- the result for the runs is that for the whole
said : (bytes : List ℕ) (n r : ℕ) (answer : Result Matrix ModelFault) → n ≡ r → 2 ≤ length bytes
    → r ≡ slice_index bytes 0 * 256 + slice_index bytes 1 → 251 ≤ r → r ≤ 400
    → ReadsModel (of_runs n (runs_in (volume n) 0 0 (take (length bytes - 2) (drop 2 bytes)))) answer
    → ReadsModel (wide_form bytes) answer
said bytes n r answer en two e l u h =
    subst (λ (s : Result Matrix NoModel). ReadsModel s answer) (wide_is bytes r two e l u)
    (subst (λ (k : ℕ). ReadsModel (of_runs k (runs_in (volume k) 0 0 (drop 2 bytes))) answer) en
    (subst (λ (rest : List ℕ). ReadsModel (of_runs n (runs_in (volume n) 0 0 rest)) answer) (take_rest bytes 2) h))

pub returns-in-Ok : goal.returns-in-Ok
returns-in-Ok c =
    said c.args.bytes.now c.in_ok-planes.planes.resolution (c.from.result * 256 + c.from-2.result) (Ok c.fill_runs.new.planes) c.in_ok-planes.ensures.resolution c.if-bytes-lt2.false (λ i. (c.from.ensures ∙ get_or_default c.args.bytes.now 0 _ 0 (omega (arith, c.if-bytes-lt2.false))) i * 256 + (c.from-2.ensures ∙ get_or_default c.args.bytes.now 1 _ 0 (omega (arith, c.if-bytes-lt2.false))) i) c.if-r-lt-WIDE_FORM_LEAST_R.false c.if-r-gt-MOST_R.false c.in-Ok.ensures

pub returns-in-Err : goal.returns-in-Err
returns-in-Err c =
    said c.args.bytes.now c.in_ok-planes.planes.resolution (c.from.result * 256 + c.from-2.result) (Err (Refused c.in-Err.refusal)) c.in_ok-planes.ensures.resolution c.if-bytes-lt2.false (λ i. (c.from.ensures ∙ get_or_default c.args.bytes.now 0 _ 0 (omega (arith, c.if-bytes-lt2.false))) i * 256 + (c.from-2.ensures ∙ get_or_default c.args.bytes.now 1 _ 0 (omega (arith, c.if-bytes-lt2.false))) i) c.if-r-lt-WIDE_FORM_LEAST_R.false c.if-r-gt-MOST_R.false c.in-Err.ensures

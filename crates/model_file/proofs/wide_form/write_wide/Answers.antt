use Rattle.std.proofs.Common.{◌≡◌, ◌/◌, ◌%◌, ◌++◌, ◌∷◌, [], ◌∙◌, ap, arith, take, false}
use Rattle.std.proofs.lemmas.List.{append-nil, take_all}
use Rattle.std.proofs.lemmas.Result.{IfOk-weaker}
use Rattle.nano_spec.specs.Model.{volume}
use Rattle.model_file.specs.declared.TheConstants.{WIDE_MARK}
use Rattle.model_file.specs.Runs.{with_runs}
use Rattle.model_file.proofs.wide_form.write_wide.Goals as goal

pub returns : goal.returns
returns g c =
    let planes = c.args.planes.now in
    let resolution_whole = c.resolution-r.ensures.whole in
    let places : c.volume-p-end.result ≡ volume planes.resolution = c.volume-p-end.ensures ∙ ap volume c.resolution-r.ensures.value in
    let all : take c.loop-p.p planes.voxels ++ [] ≡ planes.voxels = append-nil (take c.loop-p.p planes.voxels) ∙ take_all c.loop-p.p planes.voxels (omega (arith, resolution_whole.voxels, places, c.loop-p-test.false)) in
    IfOk-weaker c.end.result _ _ (λ bytes e. e ∙ (c.loop-p.invariant.same [] ∙ (ap (with_runs c.in_ok-writer.writer.bytes.items c.in_ok-writer.writer.run c.in_ok-writer.writer.full) all
    ∙ (λ i. with_runs (c.in_ok-writer.ensures.bytes i) (c.in_ok-writer.ensures.run i) (c.in_ok-writer.ensures.full i) planes.voxels)
    ∙ ap (λ r. with_runs (WIDE_MARK ∷ r / 256 ∷ r % 256 ∷ []) 0 false planes.voxels) c.resolution-r.ensures.value))) c.end.ensures

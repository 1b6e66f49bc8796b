use Rattle.std.proofs.Common.{◌≡◌, ℕ, refl, ◌∙◌, ap, subst, arith}
use Rattle.nano_spec.specs.Model.{volume, voxel_bit}
use Rattle.model_file.specs.Words.{IsReadTo, place_of_row}
use Rattle.model_file.proofs.FirstForms.{matrix_is, read_none}
use Rattle.model_file.proofs.first_form.set_voxels.Goals as goal

pub loop-x-init : goal.loop-x-init
loop-x-init c =
    let start : 0 ≡ place_of_row c.args.planes.now.resolution 0 0 = omega arith in
    record {
      read = subst (λ (n : ℕ). IsReadTo c.args.planes.now c.args.bytes.now n) start (read_none c.args.planes.now c.args.bytes.now c.requires.void c.recall.ensures.whole);
      resolution = refl;
    }

pub returns : goal.returns
returns c =
    let read = c.loop-x.invariant.read in
    let whole = read.whole in
    let side = c.loop-x.invariant.resolution in
    let last : c.loop-x.x ≡ c.args.planes.now.resolution = omega (arith, c.loop-x-test.false, c.loop-x.auto.x-end, c.resolution-x-end.ensures.value) in
    let end = ap (λ (x : ℕ). place_of_row c.args.planes.now.resolution x 0) last in
    matrix_is c.loop-x.planes c.args.planes.now.resolution (voxel_bit c.args.bytes.now) side (whole.voxels ∙ ap volume side)
    (λ p l. read.voxels p (omega (arith, end, l)))

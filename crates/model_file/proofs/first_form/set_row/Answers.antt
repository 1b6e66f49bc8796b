use Rattle.std.proofs.Common.{◌≡◌, ℕ, ◌+◌, ◌*◌, ◌/◌, ◌%◌, ◌^◌, ◌∙◌, ap, subst, arith}
use Rattle.vox_geom.specs.Space.{place}
use Rattle.nano_spec.specs.Model.{bit, voxel_bit}
use Rattle.vox_planes.proofs.Placed.{put_from}
use Rattle.model_file.specs.Words.{IsReadTo, place_of_row}
use Rattle.model_file.proofs.FirstForms.{read_more, read_void, voxel_bits}
use Rattle.model_file.proofs.first_form.set_row.Goals as goal

pub loop-z-preserved-then-bits-eq0 : goal.loop-z-preserved-then-bits-eq0
loop-z-preserved-then-bits-eq0 c =
    let side = c.resolution-r.ensures.value in
    let start : ℕ = place_of_row c.args.planes.now.resolution c.args.x c.args.y + c.loop-z.z in
    let here : ℕ = (c.from.result * c.from-2.result + c.from-3.result) * c.from-4.result + c.from-in-loop-z.result in
    let here_is : here ≡ start = λ i. (c.from.ensures i * (c.from-2.ensures ∙ side) i + c.from-3.ensures i) * (c.from-4.ensures ∙ side) i + c.from-in-loop-z.ensures i in
    record {
      within = omega (arith, c.min-count.ensures, side, c.loop-z.invariant.within);
      read = subst (λ (n : ℕ). IsReadTo c.loop-z.planes c.args.bytes.now n) (omega arith)
          (read_void c.loop-z.planes c.args.bytes.now start c.min-count.result _ c.loop-z.invariant.read
          (λ k l. voxel_bits c.args.bytes.now here c.word.result c.min-count.result c.word.ensures (omega (arith, c.min-count.ensures)) k l ∙ ap (λ n. voxel_bit c.args.bytes.now (n + k)) here_is)
          c.if-bits-eq0.true);
      resolution = c.loop-z.invariant.resolution;
    }

pub loop-z-preserved : goal.loop-z-preserved
loop-z-preserved c =
    let side = c.resolution-r.ensures.value in
    let start : ℕ = place_of_row c.args.planes.now.resolution c.args.x c.args.y + c.loop-z.z in
    let here : ℕ = (c.from.result * c.from-2.result + c.from-3.result) * c.from-4.result + c.from-in-loop-z.result in
    let here_is : here ≡ start = λ i. (c.from.ensures i * (c.from-2.ensures ∙ side) i + c.from-3.ensures i) * (c.from-4.ensures ∙ side) i + c.from-in-loop-z.ensures i in
    let count : c.from-in-loop-z-2.result ≡ c.min-count.result = c.from-in-loop-z-2.ensures in
    let bits : ℕ = c.word.result / 2 ^ (here % 8) % (1 * 2 ^ c.min-count.result % 2 ^ 64) in
    let along : place c.loop-z.planes.resolution (record { x = c.args.x; y = c.args.y; z = c.loop-z.z }) ≡ start =
    ap (λ (n : ℕ). place n (record { x = c.args.x; y = c.args.y; z = c.loop-z.z })) c.loop-z.invariant.resolution ∙ omega arith in
    record {
      within = omega (arith, c.min-count.ensures, side, c.loop-z.invariant.within);
      read = subst (λ (n : ℕ). IsReadTo c.set_row_bits.new.self c.args.bytes.now n) (omega (arith, count))
          (read_more c.loop-z.planes c.args.bytes.now start c.from-in-loop-z-2.result bits c.loop-z.invariant.read
          (λ k l. voxel_bits c.args.bytes.now here c.word.result c.min-count.result c.word.ensures (omega (arith, c.min-count.ensures)) k (omega (arith, count)) ∙ ap (λ n. voxel_bit c.args.bytes.now (n + k)) here_is)
          c.set_row_bits.new.self (put_from c.loop-z.planes c.set_row_bits.new.self _ _ _ (λ k. bit bits k) along c.set_row_bits.ensures.places)
          c.set_row_bits.ensures.whole);
      resolution = c.set_row_bits.ensures.resolution ∙ c.loop-z.invariant.resolution;
    }

use Rattle.std.proofs.Common.{◌≡◌, ◌+◌, ◌*◌, ap, arith, subst, ℕ}
use Rattle.model_forge.specs.Forging.{IsForged, row_place}
use Rattle.model_forge.proofs.walls.put_wall.Goals as goal

pub returns-clause-forged : goal.returns-clause-forged
returns-clause-forged c = λ number are begun.
    let all : c.loop-y.y ≡ c.args.planes.now.resolution = omega (arith, c.loop-y.auto.y-end, c.loop-y-test.false, c.resolution-y-end.ensures.value) in
    let next : row_place c.args.planes.now.resolution c.args.x c.loop-y.y ≡ row_place c.args.planes.now.resolution (c.args.x + 1) 0 = omega (arith, all, ap (λ n. n * c.args.planes.now.resolution) all) in
    subst (λ (n : ℕ). IsForged number c.args.tower c.loop-y.planes n) next (c.loop-y.invariant.forged number are begun)

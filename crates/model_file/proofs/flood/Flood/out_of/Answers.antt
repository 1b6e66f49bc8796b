use Rattle.std.proofs.Common.{◌≡◌, ◌-◌, ◌≤◌, ℕ, sym, subst, arith, min}
use Rattle.vox_geom.specs.Space.{IsInSpace}
use Rattle.model_file.proofs.Beginnings.{outs_are}
use Rattle.model_file.proofs.flood.Flood.out_of.Goals as goal

pub peek_row-own-requires-clause-within : goal.peek_row-own-requires-clause-within
peek_row-own-requires-clause-within g c = subst (λ (n : ℕ). IsInSpace n c.args.first) (sym c.requires.begun.resolution) c.requires.within

pub returns : goal.returns
returns g c =
    let few : c.min-count.result ≤ 64 = omega (arith, c.min-count.ensures) in
    let size : c.min-count.result ≡ min (c.args.planes.now.resolution - c.args.first.z) 64 = omega (arith, c.min-count.ensures, c.from.ensures, c.resolution.ensures.value) in
    outs_are c.args.planes.now c.args.self.now.remaining c.args.first c.min-count.result c.peek_row-own.result c.peek_row.result few size
    c.peek_row-own.ensures.full c.peek_row-own.type_inv c.peek_row.ensures.full c.peek_row.ensures.below

use Rattle.std.proofs.Common.{◌-◌, arith, refl}
use Rattle.vox_planes.proofs.Stacks.{going_high, going_low}
use Rattle.vox_planes.proofs.planes.whole.going.Goals as goal

pub returns-then-i-layer-clause-bits : goal.returns-then-i-layer-clause-bits
returns-then-i-layer-clause-bits g c = going_low c.args.full.now c.args.left.now c.args.layer c.args.i c.if-i-layer.true

pub returns-clause-bits : goal.returns-clause-bits
returns-clause-bits g c =
    going_high c.args.full.now c.args.left.now c.args.layer c.args.i _ _ (omega (arith, c.if-i-layer.false)) refl refl (omega (arith, c.type_inv.left (c.args.i - c.args.layer)))

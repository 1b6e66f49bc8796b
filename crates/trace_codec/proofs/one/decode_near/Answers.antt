use Rattle.std.proofs.Common.{arith}
use Rattle.trace_codec.proofs.Fronts.{begins_fission, begins_group, refused_group}
use Rattle.trace_codec.proofs.one.decode_near.Goals as goal

pub returns-in-empty : goal.returns-in-empty
returns-in-empty c = begins_fission c.args.near c.args.kind c.args.rest.now c.in-5.is c.in-empty.len_below c.requires.is_near

pub returns-in-More : goal.returns-in-More
returns-in-More c = begins_group c.args.near c.args.kind c.args.rest.now (omega arith) c.requires.is_near c.in-More.ensures

pub returns-in-Bad : goal.returns-in-Bad
returns-in-Bad c = refused_group c.args.near c.args.kind c.args.rest.now (omega arith) c.requires.is_near c.in-Bad.ensures

pub returns-in-More-far_front : goal.returns-in-More-far_front
returns-in-More-far_front c = begins_group c.args.near c.args.kind c.args.rest.now (grind arith) c.requires.is_near c.in-More-far_front.ensures

pub returns-in-Bad-far_front : goal.returns-in-Bad-far_front
returns-in-Bad-far_front c = refused_group c.args.near c.args.kind c.args.rest.now (grind arith) c.requires.is_near c.in-Bad-far_front.ensures

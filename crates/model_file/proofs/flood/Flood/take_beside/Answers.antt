use Rattle.std.proofs.Common.{refl}
use Rattle.model_file.proofs.Beginnings.{looks_bare, looks_taken}
use Rattle.model_file.proofs.flood.Flood.take_beside.Goals as goal

pub returns-then-not-is_left_around : goal.returns-then-not-is_left_around
returns-then-not-is_left_around g c = looks_bare c.args.planes.now c.args.self.now c.args.first c.out_of-out.result c.out_of-out.ensures (c.if-not-is_left_around.ensures refl)

pub returns : goal.returns
returns g c =
    looks_taken c.args.planes.now c.args.self.now c.take_around.new.self c.args.first c.out_of-out.result c.requires.begun c.out_of-out.ensures
    c.in_ok-take_around.ensures.takes c.in_ok-take_around.ensures.gone

use Rattle.std.proofs.Common.{subst, sym}
use Rattle.nano_spec.specs.Matrix.{Matrix}
use Rattle.vox_geom.specs.Space.{IsInSpace}
use Rattle.step_machine.proofs.OneRegion.{region_refitted, some_edit}
use Rattle.step_machine.proofs.one_region.refit_region.Goals as goal

pub remove_region-requires : goal.remove_region-requires
remove_region-requires g c e = subst (λ (m : Matrix). IsInSpace m.resolution c.args.b.now.high) (sym c.requires.can.tied) c.requires.region.voids.within

pub returns-in-Ok-clause-refitted : goal.returns-in-Ok-clause-refitted
returns-in-Ok-clause-refitted g c =
    region_refitted c.args.system.now c.args.commands.now c.requires.can.judged.0 c.recall.ensures.ready c.requires.can.judged.1 c.args.b.now c.requires.region
    c.args.forest.now.matrix c.remove_region.new.self c.args.steps.now c.remove_region.new.steps c.requires.can.tied c.in-Ok.ensures.value c.in-Ok.ensures.touches c.in-Ok.ensures.stands.1

pub returns-in-Err-clause-edits : goal.returns-in-Err-clause-edits
returns-in-Err-clause-edits g c = some_edit c.args.system.now c.args.commands.now c.requires.can.judged.0 c.recall.ensures.ready c.requires.can.judged.1 c.args.b.now c.requires.region

use Rattle.std.proofs.Common.{◌≡◌, ap, arith, refl, ◌∙◌}
use Rattle.nano_spec.specs.Matrix.{Matrix}
use Rattle.nano_spec.specs.Model.{volume}
use Rattle.step_machine.proofs.Edited.{harmonics_stay}
use Rattle.step_machine.proofs.Stepping.{breaks, goes}
use Rattle.step_machine.proofs.support.settle_one.Goals as goal

pub returns-in-None-clause-settled : goal.returns-in-None-clause-settled
returns-in-None-clause-settled g c = λ before few.
    let harmonics_is_here = c.harmonics.ensures ∙ harmonics_stay c.args.system.now c.args.d c.args.at c.args.full c.args.commands.now c.requires.edit.one c.requires.edit.command c.requires.edit.named c.requires.edit.within in
    record {
      goes = goes c.args.system.now _ c.args.commands.now c.args.step c.harmonics.result c.refit_one.new.forest.matrix c.find_ungrounded.result c.requires.judged (record { harmonics_is = harmonics_is_here; matrix_is = (c.in_ok-was.ensures.refitted before few).matrix; found = c.find_ungrounded.ensures.value }) c.in-None.is refl;
      tied = (c.in_ok-was.ensures.refitted before few).matrix;
      stands = (c.in_ok-was.ensures.refitted before few).stands;
      touches = λ n w. let touches_here = (c.in_ok-was.ensures.refitted before few).touches n w in omega (arith, touches_here, c.in-None.ensures.grounded);
    }

pub returns-in-Some-clause-unsettled : goal.returns-in-Some-clause-unsettled
returns-in-Some-clause-unsettled g c = λ before few.
    let harmonics_is_here = c.harmonics.ensures ∙ harmonics_stay c.args.system.now c.args.d c.args.at c.args.full c.args.commands.now c.requires.edit.one c.requires.edit.command c.requires.edit.named c.requires.edit.within in
    record {
      breaks = breaks c.args.system.now c.args.commands.now c.args.step c.harmonics.result c.refit_one.new.forest.matrix c.find_ungrounded.result c.in-Some.at c.requires.judged (record { harmonics_is = harmonics_is_here; matrix_is = (c.in_ok-was.ensures.refitted before few).matrix; found = c.find_ungrounded.ensures.value }) c.in-Some.is;
      rule = refl;
      touches = λ n w.
          let touches_here = (c.in_ok-was.ensures.refitted before few).touches n w in
          let same_volume : volume c.refit_one.new.forest.matrix.resolution ≡ volume c.args.system.now.matrix.resolution = ap (λ (m : Matrix). volume m.resolution) (c.in_ok-was.ensures.refitted before few).matrix in
          omega (arith, touches_here, same_volume, c.in-Some.ensures.touches);
    }

pub find_ungrounded-requires-clause-stands : goal.find_ungrounded-requires-clause-stands
find_ungrounded-requires-clause-stands g c = let refitted = c.in_ok-was.ensures.refitted c.args.steps.now (omega arith) in refitted.stands

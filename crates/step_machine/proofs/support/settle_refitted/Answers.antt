use Rattle.std.proofs.Common.{◌≡◌, ap, arith, refl}
use Rattle.nano_spec.specs.Matrix.{Matrix}
use Rattle.nano_spec.specs.Model.{volume}
use Rattle.step_machine.proofs.Stepping.{breaks, goes, harmonics_are}
use Rattle.step_machine.proofs.support.settle_refitted.Goals as goal

pub returns-in-None-clause-settled : goal.returns-in-None-clause-settled
returns-in-None-clause-settled g c = λ before paid.
    let same_harmonics = harmonics_are c.args.system.now c.args.commands.now c.harmonics.result c.harmonics_after-harmonics.result c.requires.few c.harmonics.ensures c.harmonics_after-harmonics.ensures in
    record {
      goes = goes c.args.system.now _ c.args.commands.now c.args.step c.harmonics_after-harmonics.result c.args.forest.now.matrix c.find_ungrounded.result c.requires.judged (record { harmonics_is = same_harmonics; matrix_is = c.requires.matrix; found = c.find_ungrounded.ensures.value }) c.in-None.is refl;
      tied = c.requires.matrix;
      stands = c.requires.stands;
      touches = λ n w. let paid_for = paid n w in omega (arith, paid_for, c.in-None.ensures.grounded);
    }

pub returns-in-Some-clause-unsettled : goal.returns-in-Some-clause-unsettled
returns-in-Some-clause-unsettled g c = λ before paid.
    let same_harmonics = harmonics_are c.args.system.now c.args.commands.now c.harmonics.result c.harmonics_after-harmonics.result c.requires.few c.harmonics.ensures c.harmonics_after-harmonics.ensures in
    record {
      breaks = breaks c.args.system.now c.args.commands.now c.args.step c.harmonics_after-harmonics.result c.args.forest.now.matrix c.find_ungrounded.result c.in-Some.at c.requires.judged (record { harmonics_is = same_harmonics; matrix_is = c.requires.matrix; found = c.find_ungrounded.ensures.value }) c.in-Some.is;
      rule = refl;
      touches = λ n w.
          let paid_for = paid n w in
          let same_volume : volume c.args.forest.now.matrix.resolution ≡ volume c.args.system.now.matrix.resolution = ap (λ (m : Matrix). volume m.resolution) c.requires.matrix in
          omega (arith, paid_for, same_volume, c.in-Some.ensures.touches);
    }
